-- What one declared name declares: a typedef name, a function or an object (6.7, 6.9). Sections are those of
-- ISO/IEC 9899:2011.
use Rattle.std.specs.Prelude.{ℕ, nat_eq, Bool, true, false, not, ◌&&◌, ◌||◌, if◌then◌else◌, List, [], ◌∷◌, ◌++◌, length, codes, Option, Some, None, slice_get, slice_set}
use Rattle.std.specs.Str.{bytes_eq}
use Rattle.kv_num.specs.declared.types.IntType.TheVariants.{Int}
use Rattle.c_tree.specs.declared.expression.Declarator.{Declarator, out-Declarator}
use Rattle.c_tree.specs.declared.expression.Declarator.TheOpen.{Declarator-F as d}
use Rattle.c_kinds.specs.declared.types.Shape.TheVariants as shape
use Rattle.c_kinds.specs.declared.types.CType.{CType}
use Rattle.c_kinds.specs.declared.types.Signature.{Signature}
use Rattle.c_kinds.specs.Types.{integer, shape_of, is_function, is_void, same}
use Rattle.c_kinds.specs.Layouts.{is_incomplete}
use Rattle.c_rules.specs.declared.names.Declares.{Declares}
use Rattle.c_rules.specs.declared.names.Declares.TheVariants as declares
use Rattle.c_rules.specs.declared.names.Meaning.TheVariants as meaning
use Rattle.c_rules.specs.declared.names.KnownFunction.{KnownFunction}
use Rattle.c_rules.specs.declared.names.Object.{Object}
use Rattle.c_rules.specs.declared.names.Function.{Function}
use Rattle.c_rules.specs.declared.names.ScopeEntry.{ScopeEntry}
use Rattle.c_rules.specs.declared.names.Pair.{Pair}
use Rattle.c_rules.specs.Calls.{is_some}
use Rattle.c_rules.specs.Scopes.{State, find, find_here, is_at_file, is_among, note, note_if, note_all, mean, declare, link, with_object}
use Rattle.c_rules.specs.KnownFunctions.{known_named, is_known, is_known_in_file, is_known_signature, may_have_body}
use Rattle.c_rules.specs.Declarators.{Built, holds, is_direct}

-- how a name is declared: its storage, whether a value is given, and whether a body follows
pub record How : Type 0 where
  pub is_typedef : Bool
  pub is_extern : Bool
  pub is_static : Bool
  pub is_initialised : Bool
  pub has_body : Bool
  -- the first specifier
  pub first : ℕ

-- a type that isn't known is no other
abbrev pub may_be_same : Option CType → Option CType → Bool
may_be_same (Some t) (Some u) = same t u
may_be_same _ _ = true

-- ---- typedef names (6.7.8): the same type may be named again in the same block (6.7p3)

abbrev pub typedef_again : ℕ → Option CType → Declares → State → State
typedef_again at t (declares.Typedef u is_unsaid) st = note_if (not (may_be_same t u)) at 4 st
typedef_again at t _ st = note at 4 st

-- rule 23 at a known function's name in the file
abbrev pub declares_typedef : List ℕ → ℕ → Bool → Option CType → State → State
declares_typedef name at is_unsaid t st =
    let now = note_if (is_known_in_file st name) at 23 st in
    elim (find_here now.ordinary name) as (λ _. State) [ None ↦ declare name (declares.Typedef t is_unsaid) now | Some entry ↦ typedef_again at t entry.declares now ]

-- ---- functions (6.7.6.3, 6.9.1)

abbrev pub change_function : ℕ → Function → State → State
change_function n f st = record st { names = record st.names { functions = slice_set st.names.functions n f } }

abbrev pub may_be_same_number : Option ℕ → Option ℕ → Bool
may_be_same_number (Some n) (Some m) = nat_eq n m
may_be_same_number _ _ = true

abbrev pub first_number : Option ℕ → Option ℕ → Option ℕ
first_number None m = m
first_number (Some n) m = Some n

-- what a function is after a further declaration; `first` is its first parameter's number
abbrev pub declared_further : How → Option ℕ → ℕ → Function → Function
declared_further how g first f = record {
  signature = first_number f.signature g;
  known = f.known;
  is_defined = f.is_defined || how.has_body;
  first = if how.has_body then first else f.first;
}

-- another type, or a second body
abbrev pub function_clashes : How → Option ℕ → Function → Bool
function_clashes how g f = not (may_be_same_number f.signature g) || (f.is_defined && how.has_body)

-- equal declarations of one function (6.2.2, 6.2.7)
abbrev pub function_again : How → Option ℕ → ℕ → ℕ → Declares → State → State
function_again how g first at (declares.Function n) st = elim (slice_get st.names.functions n) as (λ _. State) [
  | None ↦ st
  | Some f ↦ change_function n (declared_further how g first f) (mean at (meaning.Function n) (note_if (function_clashes how g f) at 4 st))
]
function_again how g first at _ st = note at 4 st

abbrev pub with_function : Function → State → State
with_function f st = record st { names = record st.names { functions = st.names.functions ++ f ∷ [] } }

abbrev pub new_function : List ℕ → How → Option ℕ → ℕ → ℕ → State → State
new_function name how g first at st =
    let n = length st.names.functions in
    declare name (declares.Function n) (link name (declares.Function n) (mean at (meaning.Function n)
    (with_function (record { signature = g; known = known_named st.model name; is_defined = how.has_body; first = first }) st)))

-- in another block, or with linkage of the file (6.2.2p5)
abbrev pub function_outside : List ℕ → How → Option ℕ → ℕ → ℕ → State → State
function_outside name how g first at st = elim (find st.linked name) as (λ _. State) [
  | None ↦ new_function name how g first at st
  | Some entry ↦ declare name entry.declares (function_again how g first at entry.declares st)
]

abbrev pub has_other_type : Bool → KnownFunction → Option Signature → Bool
has_other_type is_unsaid function None = false
has_other_type is_unsaid function (Some g) = not (is_known_signature function is_unsaid g)

abbrev pub is_misdeclared : How → Bool → KnownFunction → Option Signature → Bool
is_misdeclared how is_unsaid function g = has_other_type is_unsaid function g || (how.has_body && not (may_have_body function))

abbrev pub signature_at : State → Option ℕ → Option Signature
signature_at st None = None
signature_at st (Some n) = slice_get st.names.signatures n

-- rule 23 at a known function with another type, or with a body
abbrev pub knows : List ℕ → How → Bool → Option ℕ → ℕ → State → State
knows name how is_unsaid g at st = elim (known_named st.model name) as (λ _. State) [
  | None ↦ st
  | Some function ↦ note_if (is_misdeclared how is_unsaid function (signature_at st g)) at 23 st
]

-- a known function's `()` without a body says nothing of its parameters
abbrev pub said : State → List ℕ → How → Bool → Option ℕ → Option ℕ
said st name how is_unsaid g = if is_unsaid && (is_known st name && not how.has_body) then None else g

abbrev pub declares_function : List ℕ → ℕ → How → Bool → ℕ → Option ℕ → State → State
declares_function name at how is_unsaid first g st =
    let now = knows name how is_unsaid g at (note_if how.is_initialised how.first 24 st) in
    elim (find_here now.ordinary name) as (λ _. State) [
      | Some entry ↦ function_again how (said now name how is_unsaid g) first at entry.declares now
      | None ↦ function_outside name how (said now name how is_unsaid g) first at now
    ]

-- ---- objects (6.7, 6.9.2)

abbrev pub is_defining : How → Bool
is_defining how = not how.is_extern || how.is_initialised

-- 6.2.4p3
abbrev pub is_static_object : How → Bool → Bool
is_static_object how at_file = at_file || (how.is_static || how.is_extern)

-- an object of a struct that isn't complete, unless it is only declared
abbrev pub lacks_cells : State → How → ℕ → Option CType → Bool
lacks_cells st how at t = is_defining how && holds (is_incomplete st.names.structs at) t

-- the file defines an object with linkage here or elsewhere
abbrev pub new_object : List ℕ → How → Option CType → Bool → State → Object
new_object name how t at_file st =
    record { ctype = t; is_static = is_static_object how at_file; function = st.function; is_defined = is_defining how || is_among name st.defined; is_initialised = how.is_initialised }

abbrev pub declares_new : List ℕ → How → Option CType → ℕ → Bool → State → State
declares_new name how t at at_file st =
    let n = length st.names.objects in declare name (declares.Object n) (mean at (meaning.Object n) (with_object (new_object name how t at_file st) st))

abbrev pub change_object : ℕ → Object → State → State
change_object n o st = record st { names = record st.names { objects = slice_set st.names.objects n o } }

abbrev pub defined_further : How → Object → Object
defined_further how o = record o { is_defined = o.is_defined || is_defining how; is_initialised = o.is_initialised || how.is_initialised }

-- another type, or a second initialiser
abbrev pub object_clashes : How → Option CType → Object → Bool
object_clashes how t o = not (may_be_same t o.ctype) || (o.is_initialised && how.is_initialised)

-- one object, declared again (6.2.2, 6.2.7)
abbrev pub object_again : How → Option CType → ℕ → Declares → State → State
object_again how t at (declares.Object n) st = elim (slice_get st.names.objects n) as (λ _. State) [
  | None ↦ st
  | Some o ↦ change_object n (defined_further how o) (mean at (meaning.Object n) (note_if (object_clashes how t o) at 4 st))
]
object_again how t at _ st = note at 4 st

-- an object with linkage (6.2.2p3, p4)
abbrev pub object_linked : List ℕ → How → Option CType → ℕ → Bool → State → State
object_linked name how t at at_file st = elim (find st.linked name) as (λ _. State) [
  | None ↦ link name (declares.Object (length st.names.objects)) (declares_new name how t at at_file st)
  | Some entry ↦ declare name entry.declares (object_again how t at entry.declares st)
]

abbrev pub object_outside : List ℕ → How → Option CType → ℕ → Bool → State → State
object_outside name how t at at_file st = if at_file || how.is_extern then object_linked name how t at at_file st else declares_new name how t at at_file st

abbrev pub is_object_numbered : ℕ → Option ScopeEntry → Bool
is_object_numbered n None = false
is_object_numbered n (Some entry) = elim entry.declares as (λ _. Bool) [ declares.Object m ↦ nat_eq m n | _ ↦ false ]

-- what is declared here is the object with linkage of this name
abbrev pub is_linked : List ℕ → Declares → State → Bool
is_linked name (declares.Object n) st = is_object_numbered n (find st.linked name)
is_linked name _ st = false

-- in a block only `extern` declarations of one object may stand together (6.7p3)
abbrev pub object_here : List ℕ → How → Option CType → ℕ → Bool → Declares → State → State
object_here name how t at at_file what st =
    if at_file || (how.is_extern && is_linked name what st) then object_again how t at what st else note at 4 st

abbrev pub defines_if : Bool → List ℕ → State → State
defines_if defining name st = if defining then record st { defines = st.defines ++ name ∷ [] } else st

abbrev pub without_void : Option CType → Option CType
without_void t = if holds is_void t then None else t

-- rule 24 at an object of type void, rule 10 at one without cells
abbrev pub declares_object : List ℕ → ℕ → How → Option CType → State → State
declares_object name at how t st =
    let at_file = is_at_file st in
    let now = defines_if (at_file && is_defining how) name (note_if (holds is_void t) how.first 24 (note_if (lacks_cells st how at t) at 10 st)) in
    elim (find_here now.ordinary name) as (λ _. State) [
      | Some entry ↦ object_here name how (without_void t) at at_file entry.declares now
      | None ↦ object_outside name how (without_void t) at at_file now
    ]

-- ---- `main` (5.1.2.2.1): a function without parameters that gives an int

abbrev pub is_main : List ℕ → Bool
is_main name = bytes_eq name (codes "main")

abbrev pub is_main_signature : Option Signature → Bool
is_main_signature None = true
is_main_signature (Some g) = same g.result (integer Int) && (nat_eq (length g.parameters) 0 && not g.is_variadic)

abbrev pub is_main_type : State → CType → Bool
is_main_type st t = elim (shape_of t) as (λ _. Bool) [ shape.Function n ↦ is_main_signature (slice_get st.names.signatures n) | _ ↦ false ]

-- rule 2 at a declaration of `main` in the file, and at one of a function `main` in a block
abbrev pub is_other_main : List ℕ → How → Option CType → State → Bool
is_other_main name how t st =
    is_main name && (not how.is_typedef && ((is_at_file st || holds is_function t) && holds (λ u. not (is_main_type st u)) t))

-- ---- a declared name

-- `()`, where the declarator itself makes its name a function
abbrev pub is_unsaid : Declarator → Bool
is_unsaid x = elim (out-Declarator x) as (λ _. Bool) [ d.«Declarator::Function» inside ps variadic at ↦ is_direct inside && nat_eq (length ps) 0 | _ ↦ false ]

-- a function also where its type isn't known
abbrev pub declares_a_function : Built → Bool
declares_a_function b = holds is_function b.ctype || is_some b.parameters

abbrev pub signature_number_of : Option CType → Option ℕ
signature_number_of None = None
signature_number_of (Some t) = elim (shape_of t) as (λ _. Option ℕ) [ shape.Function n ↦ Some n | _ ↦ None ]

-- a known function's name, declared as an object with linkage
abbrev pub misnames : List ℕ → ℕ → How → State → State
misnames name at how st = note_if (is_known st name && (is_at_file st || how.is_extern)) at 23 st

-- what its pointers and parameters break: all in a definition, nothing in another declaration of a function
abbrev pub forgiven : How → Built → List Pair
forgiven how b = if how.has_body then b.pointers ++ b.in_definition else (if declares_a_function b && not how.is_typedef then [] else b.pointers)

-- `first` is the number of a first parameter
abbrev pub declares_by : List ℕ → How → Bool → ℕ → Built → State → State
declares_by name how is_unsaid first b st =
    if how.is_typedef then note_if (how.is_initialised || how.has_body) how.first 24 (declares_typedef name b.at is_unsaid b.ctype st)
    else (if declares_a_function b then declares_function name b.at how is_unsaid first (signature_number_of b.ctype) st
    else note_if how.has_body how.first 24 (declares_object name b.at how b.ctype (misnames name b.at how st)))

-- the name is declared from the end of its declarator on (6.2.1p7)
abbrev pub declares_name : How → Bool → ℕ → Built → State
declares_name how is_unsaid first b = elim b.name as (λ _. State) [
  | None ↦ b.state
  | Some name ↦ declares_by name how is_unsaid first b (note_if (is_other_main name how b.ctype b.state) b.at 2 (note_all (forgiven how b) b.state))
]
