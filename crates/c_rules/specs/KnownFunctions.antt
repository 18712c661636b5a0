-- Functions that need no declaration, and which declarations of them are accepted.
use Rattle.std.specs.Prelude.{ℕ, Bool, true, false, not, ◌&&◌, ◌||◌, if◌then◌else◌, List, [], ◌∷◌, codes, Option, Some, None}
use Rattle.std.specs.Str.{bytes_eq}
use Rattle.kv_num.specs.declared.types.IntType.{IntType}
use Rattle.kv_num.specs.declared.types.IntType.TheVariants.{Bool as B, Char, UChar, Short, UShort, Int, UInt, LongLong, ULongLong}
use Rattle.c_tokens.specs.declared.data_model.DataModel.{DataModel}
use Rattle.c_kinds.specs.declared.types.CType.{CType}
use Rattle.c_kinds.specs.declared.types.Signature.{Signature}
use Rattle.c_kinds.specs.Types.{integer, same, unqualified}
use Rattle.c_kinds.specs.Integers.{long_of, unsigned_long_of}
use Rattle.c_rules.specs.declared.names.KnownFunction.{KnownFunction}
use Rattle.c_rules.specs.declared.names.KnownFunction.TheVariants as known
use Rattle.c_rules.specs.Typing.{known_result}
use Rattle.c_rules.specs.Calls.{is_some}
use Rattle.c_rules.specs.Scopes.{State, is_at_file}

-- ---- names

-- the types that the names of input functions end in; long is that of the data model
abbrev pub input_types : DataModel → List (List ℕ × IntType)
input_types model =
    (codes "bool", B) ∷ (codes "char", Char) ∷ (codes "uchar", UChar) ∷ (codes "short", Short) ∷ (codes "ushort", UShort)
    ∷ (codes "int", Int) ∷ (codes "uint", UInt) ∷ (codes "unsigned", UInt) ∷ (codes "long", long_of model) ∷ (codes "ulong", unsigned_long_of model)
    ∷ (codes "longlong", LongLong) ∷ (codes "ulonglong", ULongLong) ∷ []

abbrev pub other_functions : List (List ℕ × KnownFunction)
other_functions =
    (codes "assert", known.Assert) ∷ (codes "__VERIFIER_assume", known.Assume) ∷ (codes "__ESBMC_assume", known.Assume)
    ∷ (codes "abort", known.Abort) ∷ (codes "exit", known.Exit) ∷ (codes "reach_error", known.Error) ∷ (codes "__VERIFIER_error", known.Error)
    ∷ (codes "__assert_fail", known.AssertFail) ∷ []

abbrev pub row_named : {A : Type 0} → List (List ℕ × A) → List ℕ → Option A
row_named [] name = None
row_named (row ∷ rows) name = if bytes_eq row.0 name then Some row.1 else row_named rows name

-- what stands after the prefix
abbrev pub behind : List ℕ → List ℕ → Option (List ℕ)
behind [] name = Some name
behind (c ∷ cs) [] = None
behind (c ∷ cs) (d ∷ ds) = if bytes_eq (c ∷ []) (d ∷ []) then behind cs ds else None

abbrev pub input_of : DataModel → Option (List ℕ) → Option KnownFunction
input_of model None = None
input_of model (Some name) = elim (row_named (input_types model) name) as (λ _. Option KnownFunction) [ None ↦ None | Some kind ↦ Some (known.Nondet kind) ]

abbrev pub first_known : Option KnownFunction → Option KnownFunction → Option KnownFunction
first_known None y = y
first_known (Some x) y = Some x

-- the known function of this name: `__VERIFIER_nondet_T`, `nondet_T`, or one of the others
unfoldable pub known_named : DataModel → List ℕ → Option KnownFunction
known_named model name =
    first_known (row_named other_functions name)
    (first_known (input_of model (behind (codes "__VERIFIER_nondet_") name)) (input_of model (behind (codes "nondet_") name)))

abbrev pub is_known : State → List ℕ → Bool
is_known st name = is_some (known_named st.model name)

-- a known function's name that is declared in the file, where only the function may have it
abbrev pub is_known_in_file : State → List ℕ → Bool
is_known_in_file st name = is_at_file st && is_known st name

-- ---- declarations: qualifiers of the result don't matter

abbrev pub is_int_or_bool : CType → Bool
is_int_or_bool t = same t (integer Int) || same t (integer B)

abbrev pub is_one_number : List CType → Bool
is_one_number (t ∷ []) = is_int_or_bool t
is_one_number _ = false

abbrev pub is_nothing : List CType → Bool
is_nothing [] = true
is_nothing _ = false

abbrev pub known_parameters : KnownFunction → List CType → Bool
known_parameters known.Assert ts = is_one_number ts
known_parameters known.Assume ts = is_one_number ts
known_parameters known.Exit ts = is_one_number ts
known_parameters known.AssertFail ts = true
known_parameters _ ts = is_nothing ts

abbrev pub may_be_variadic : KnownFunction → Bool
may_be_variadic known.AssertFail = true
may_be_variadic _ = false

-- `()` stands for the known parameters
abbrev pub is_known_signature : KnownFunction → Bool → Signature → Bool
is_known_signature function is_unsaid g =
    same (unqualified g.result) (known_result function) && (is_unsaid || (known_parameters function g.parameters && (not g.is_variadic || may_be_variadic function)))

abbrev pub may_have_body : KnownFunction → Bool
may_have_body known.Error = true
may_have_body _ = false
