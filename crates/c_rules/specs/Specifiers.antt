-- Declaration specifiers (6.7), and the types that they name. Sections are those of ISO/IEC 9899:2011.
use Rattle.std.specs.Prelude.{ℕ, ◌+◌, nat_eq, Bool, true, false, ◌||◌, if◌then◌else◌, List, [], ◌∷◌, ◌++◌, Option, Some, None}
use Rattle.std.specs.List.{list_all}
use Rattle.kv_num.specs.declared.types.IntType.TheVariants.{Bool as B, Char, SChar, UChar, Short, UShort, Int, UInt, LongLong, ULongLong}
use Rattle.c_tokens.specs.declared.data_model.DataModel.{DataModel}
use Rattle.c_tree.specs.declared.expression.StorageWord.{StorageWord}
use Rattle.c_tree.specs.declared.expression.StorageWord.TheVariants as storage
use Rattle.c_tree.specs.declared.expression.Qualifier.{Qualifier}
use Rattle.c_tree.specs.declared.expression.Qualifier.TheVariants as qualifier
use Rattle.c_tree.specs.declared.expression.BaseWord.{BaseWord}
use Rattle.c_tree.specs.declared.expression.BaseWord.TheVariants as word
use Rattle.c_tree.specs.declared.expression.Specifier.{Specifier, out-Specifier}
use Rattle.c_tree.specs.declared.expression.Declarator.TheOpen.{Specifier-F as s}
use Rattle.c_kinds.specs.declared.types.Base.{Base}
use Rattle.c_kinds.specs.declared.types.Base.TheVariants as base
use Rattle.c_kinds.specs.declared.types.CType.{CType}
use Rattle.c_kinds.specs.Types.{plain, also_const}
use Rattle.c_kinds.specs.Integers.{long_of, unsigned_long_of}
use Rattle.c_rules.specs.Scopes.{State, note}

-- what specifiers say
pub record Specified : Type 0 where
  pub state : State
  pub is_typedef : Bool
  pub is_extern : Bool
  pub is_static : Bool
  pub is_const : Bool
  -- a typedef name of functions with `()` for their parameters is among them
  pub is_unsaid : Bool
  -- the keywords among them
  pub words : List BaseWord
  -- the types that the others name; None where a rule is broken
  pub others : List (Option CType)

abbrev pub no_specifiers : State → Specified
no_specifiers st = record { state = st; is_typedef = false; is_extern = false; is_static = false; is_const = false; is_unsaid = false; words = []; others = [] }

abbrev pub with_other : Option CType → Specified → Specified
with_other t x = record x { others = x.others ++ t ∷ [] }

abbrev pub in_state : State → Specified → Specified
in_state st x = record x { state = st }

-- 6.7.1
abbrev pub stored : StorageWord → Specified → Specified
stored storage.Typedef x = record x { is_typedef = true }
stored storage.Extern x = record x { is_extern = true }
stored storage.Static x = record x { is_static = true }
stored _ x = x

-- 6.7.3; rule 26 at `volatile`
abbrev pub qualified : Qualifier → ℕ → Specified → Specified
qualified qualifier.Const at x = record x { is_const = true }
qualified qualifier.Volatile at x = in_state (note at 26 x.state) x
qualified qualifier.Restrict at x = x

-- ---- the keywords of a type, in any order (6.7.2p2)

abbrev pub index_of : BaseWord → ℕ
index_of word.Void = 0
index_of word.Char = 1
index_of word.Short = 2
index_of word.Int = 3
index_of word.Long = 4
index_of word.Signed = 5
index_of word.Unsigned = 6
index_of word.Bool = 7

abbrev pub count_of : ℕ → List BaseWord → ℕ
count_of n [] = 0
count_of n (x ∷ xs) = if nat_eq (index_of x) n then count_of n xs + 1 else count_of n xs

abbrev pub same_words : List BaseWord → List BaseWord → Bool
same_words xs ys = list_all (λ n. nat_eq (count_of n xs) (count_of n ys)) (0 ∷ 1 ∷ 2 ∷ 3 ∷ 4 ∷ 5 ∷ 6 ∷ 7 ∷ [])

abbrev pub is_among : List BaseWord → List (List BaseWord) → Bool
is_among words [] = false
is_among words (row ∷ rows) = same_words row words || is_among words rows

-- a type, and the lists of keywords that name it
abbrev pub word_rows : DataModel → List (Base × List (List BaseWord))
word_rows model =
    (base.Void, (word.Void ∷ []) ∷ [])
    ∷ (base.Integer B, (word.Bool ∷ []) ∷ [])
    ∷ (base.Integer Char, (word.Char ∷ []) ∷ [])
    ∷ (base.Integer SChar, (word.Signed ∷ word.Char ∷ []) ∷ [])
    ∷ (base.Integer UChar, (word.Unsigned ∷ word.Char ∷ []) ∷ [])
    ∷ (base.Integer Short, (word.Short ∷ []) ∷ (word.Signed ∷ word.Short ∷ []) ∷ (word.Short ∷ word.Int ∷ []) ∷ (word.Signed ∷ word.Short ∷ word.Int ∷ []) ∷ [])
    ∷ (base.Integer UShort, (word.Unsigned ∷ word.Short ∷ []) ∷ (word.Unsigned ∷ word.Short ∷ word.Int ∷ []) ∷ [])
    ∷ (base.Integer Int, (word.Int ∷ []) ∷ (word.Signed ∷ []) ∷ (word.Signed ∷ word.Int ∷ []) ∷ [])
    ∷ (base.Integer UInt, (word.Unsigned ∷ []) ∷ (word.Unsigned ∷ word.Int ∷ []) ∷ [])
    ∷ (base.Integer (long_of model), (word.Long ∷ []) ∷ (word.Signed ∷ word.Long ∷ []) ∷ (word.Long ∷ word.Int ∷ []) ∷ (word.Signed ∷ word.Long ∷ word.Int ∷ []) ∷ [])
    ∷ (base.Integer (unsigned_long_of model), (word.Unsigned ∷ word.Long ∷ []) ∷ (word.Unsigned ∷ word.Long ∷ word.Int ∷ []) ∷ [])
    ∷ (base.Integer LongLong, (word.Long ∷ word.Long ∷ []) ∷ (word.Signed ∷ word.Long ∷ word.Long ∷ []) ∷ (word.Long ∷ word.Long ∷ word.Int ∷ []) ∷ (word.Signed ∷ word.Long ∷ word.Long ∷ word.Int ∷ []) ∷ [])
    ∷ (base.Integer ULongLong, (word.Unsigned ∷ word.Long ∷ word.Long ∷ []) ∷ (word.Unsigned ∷ word.Long ∷ word.Long ∷ word.Int ∷ []) ∷ [])
    ∷ []

abbrev pub row_of : List (Base × List (List BaseWord)) → List BaseWord → Option CType
row_of [] words = None
row_of (row ∷ rows) words = if is_among words row.1 then Some (plain row.0) else row_of rows words

-- ---- the type that specifiers name; rule 24 at the first of them where they name none

pub record Named : Type 0 where
  pub state : State
  pub ctype : Option CType

abbrev pub named : Option CType → State → Named
named t st = record { state = st; ctype = t }

abbrev pub no_type : ℕ → State → Named
no_type first st = named None (note first 24 st)

abbrev pub of_words : ℕ → Option CType → State → Named
of_words first None st = no_type first st
of_words first (Some t) st = named (Some t) st

-- keywords alone, or one other specifier alone
abbrev pub one_type : ℕ → List BaseWord → List (Option CType) → State → Named
one_type first words [] st = of_words first (row_of (word_rows st.model) words) st
one_type first [] (t ∷ []) st = named t st
one_type first words others st = no_type first st

abbrev pub const_if : Bool → Option CType → Option CType
const_if c None = None
const_if c (Some t) = Some (also_const c t)

abbrev pub with_qualifier : Bool → Named → Named
with_qualifier c x = named (const_if c x.ctype) x.state

abbrev pub type_named : ℕ → Specified → Named
type_named first x = with_qualifier x.is_const (one_type first x.words x.others x.state)

-- where a specifier stands
abbrev pub specifier_at : Specifier → ℕ
specifier_at x = elim (out-Specifier x) as (λ _. ℕ) [
  | s.Storage w at ↦ at
  | s.«Specifier::Function» w at ↦ at
  | s.Qualified q at ↦ at
  | s.Base w at ↦ at
  | s.TypeWord k at ↦ at
  | s.Struct tag lines at ↦ at
  | s.StructTag tag at ↦ at
  | s.Enum tag constants at ↦ at
  | s.EnumTag tag at ↦ at
  | s.TypedefName name at ↦ at
]

abbrev pub first_at : List Specifier → ℕ
first_at [] = 0
first_at (x ∷ xs) = specifier_at x
