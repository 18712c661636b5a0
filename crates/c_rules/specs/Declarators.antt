-- Declarators: the types that they make, and what parameters declare (6.7.6). Sections are those of ISO/IEC 9899:2011.
use Rattle.std.specs.Prelude.{ℕ, ◌+◌, nat_eq, nat_lt, pos, int_lt, unsigned_abs, Bool, true, false, not, ◌&&◌, ◌||◌, if◌then◌else◌, List, [], ◌∷◌, ◌++◌, length, Option, Some, None}
use Rattle.c_tree.specs.declared.expression.Qualifier.{Qualifier}
use Rattle.c_tree.specs.declared.expression.Qualifier.TheVariants as qualifier
use Rattle.c_tree.specs.declared.expression.Declarator.{Declarator, out-Declarator}
use Rattle.c_tree.specs.declared.expression.Declarator.TheOpen.{Declarator-F as d}
use Rattle.c_kinds.specs.declared.limits.TheConstants.{MAX_OBJECT_CELLS}
use Rattle.c_kinds.specs.declared.types.Derivation.TheVariants.{Pointer, Array}
use Rattle.c_kinds.specs.declared.types.Base.TheVariants as base
use Rattle.c_kinds.specs.declared.types.Shape.{Shape}
use Rattle.c_kinds.specs.declared.types.Shape.TheVariants as shape
use Rattle.c_kinds.specs.declared.types.CType.{CType}
use Rattle.c_kinds.specs.declared.types.Signature.{Signature}
use Rattle.c_kinds.specs.declared.typed.Fixed.{Fixed}
use Rattle.c_kinds.specs.declared.typed.Fixed.TheVariants.{NoValue, Number}
use Rattle.c_kinds.specs.declared.typed.Typed.{Typed}
use Rattle.c_kinds.specs.Types.{plain, shape_of, inner, derived_from, pointer_to, unqualified, is_void, is_array, is_function, is_integer, is_rows, signature_number}
use Rattle.c_kinds.specs.Layouts.{is_incomplete, cell_count}
use Rattle.c_kinds.specs.declared.answer.Answer.{Answer}
use Rattle.c_kinds.specs.declared.answer.Answer.TheVariants.{Gives}
use Rattle.c_kinds.specs.Values.{used}
use Rattle.c_rules.specs.declared.names.Declares.TheVariants as declares
use Rattle.c_rules.specs.declared.names.Meaning.TheVariants as meaning
use Rattle.c_rules.specs.declared.names.Object.{Object}
use Rattle.c_rules.specs.declared.names.Pair.{Pair}
use Rattle.c_rules.specs.Broken.{pair, pair_if, broken_using}
use Rattle.c_rules.specs.Calls.{is_some}
use Rattle.c_rules.specs.Scopes.{State, Block, find_here, layout_at, note, note_if, note_all, mean, declare, with_object}
use Rattle.c_rules.specs.Specifiers.{Named, named}

-- ---- what a declarator gives

-- whether the first size of an array may be left out: never, in a parameter, or where parts in braces give it
pub data FirstSize : Type 0 where
  Needed : FirstSize
  OfParameter : FirstSize
  OfBraces : ℕ → FirstSize

-- where a declarator stands: after the specifiers that begin with this token, in a declaration or in a type name
pub record Site : Type 0 where
  pub first_size : FirstSize
  pub first : ℕ
  pub is_type_name : Bool

pub record Built : Type 0 where
  pub state : State
  pub ctype : Option CType
  pub name : Option (List ℕ)
  -- the name's token, or the next one where there is no name
  pub at : ℕ
  -- what its pointers break, and its parameters in a definition: forgiven where it declares a function without a body
  pub pointers : List Pair
  pub in_definition : List Pair
  -- where the declarator itself makes its name a function: what its parameters declare
  pub parameters : Option Block
  -- and the `...` of these
  pub dots : Option ℕ

abbrev pub name_built : Option CType → Option (List ℕ) → ℕ → State → Built
name_built t name at st = record { state = st; ctype = t; name = name; at = at; pointers = []; in_definition = []; parameters = None; dots = None }

abbrev pub holds : (CType → Bool) → Option CType → Bool
holds p None = false
holds p (Some t) = p t

-- a declared thing without a name is named by its first specifier
abbrev pub named_at : Site → Built → ℕ
named_at site b = if is_some b.name then b.at else site.first

-- ---- pointers (6.7.6.1)

abbrev pub const_among : List Qualifier → Bool
const_among [] = false
const_among (qualifier.Const ∷ qs) = true
const_among (_ ∷ qs) = const_among qs

-- rule 26 at each `volatile`
abbrev pub volatile_from : ℕ → List Qualifier → List Pair
volatile_from at [] = []
volatile_from at (qualifier.Volatile ∷ qs) = pair at 26 ∷ volatile_from (at + 1) qs
volatile_from at (_ ∷ qs) = volatile_from (at + 1) qs

-- pointers to these are left out
abbrev pub is_unpointed : CType → Bool
is_unpointed t = is_void t || (is_function t || is_array t)

abbrev pub pointer_if : Bool → Option CType → Option CType
pointer_if c None = None
pointer_if c (Some t) = Some (derived_from (Pointer c) t)

abbrev pub with_pointers : List Pair → Built → Built
with_pointers pairs b = record b { pointers = pairs ++ b.pointers }

-- ---- arrays (6.7.6.2)

pub record Length : Type 0 where
  pub state : State
  pub length : Option ℕ

abbrev pub known_length : Option ℕ → State → Length
known_length n st = record { state = st; length = n }

-- rule 8 at the `[`, rule 25 at the first token of the size
abbrev pub length_from : ℕ → Fixed → State → Length
length_from at (Number n) st = if int_lt (pos 0) n then known_length (Some (unsigned_abs n)) st else known_length None (note at 8 st)
length_from at NoValue st = known_length None (note (at + 1) 25 st)
length_from at _ st = known_length None (note at 8 st)

abbrev pub length_of_value : ℕ → Answer → State → Length
length_of_value at (Gives v) st = if is_integer v.ctype then length_from at v.fixed st else known_length None (note at 8 st)
length_of_value at _ st = known_length None st

abbrev pub as_value : Typed → Answer
as_value v = Gives v

-- the size after a `[`, an integer constant expression above 0
abbrev pub length_at : ℕ → Answer → State → Length
length_at at x st = length_of_value at (used (layout_at st) x as_value) (note_all (broken_using (layout_at st) x as_value) st)

abbrev pub is_no_element : CType → Bool
is_no_element t = is_void t || is_function t

abbrev pub array_of : Option ℕ → Option CType → Option CType
array_of (Some n) (Some t) = if is_no_element t then None else Some (derived_from (Array n) t)
array_of _ _ = None

-- more cells than an object may have
abbrev pub is_too_large : State → CType → Bool
is_too_large st t = nat_lt MAX_OBJECT_CELLS (cell_count st.names.structs t)

abbrev pub if_small : Bool → Option CType → Option CType
if_small large t = if large then None else t

-- rule 8 at the `[` of a declared array of too many cells; sizes of type names only wrap
abbrev pub array_with : Site → ℕ → Option ℕ → Option CType → (Option CType → State → Built) → State → Built
array_with site at n t look st =
    let large = not site.is_type_name && holds (is_too_large st) (array_of n t) in
    let b = look (if_small large (array_of n t)) (note_if large at 8 (note_if (holds is_no_element t) site.first 24 st)) in
    record b { state = note_if (holds (is_incomplete st.names.structs at) t) (named_at site b) 10 b.state }

abbrev pub first_length : FirstSize → Option ℕ
first_length (OfBraces n) = if nat_lt 0 n then Some n else None
first_length OfParameter = Some 1
first_length Needed = None

-- the declared name itself is what is derived here
abbrev pub is_direct : Declarator → Bool
is_direct x = elim (out-Declarator x) as (λ _. Bool) [ d.«Declarator::Name» name at ↦ true | d.Unnamed at ↦ true | _ ↦ false ]

-- `[]`, where the size is left out
abbrev pub open_length : Site → Declarator → Option ℕ
open_length site inside = if is_direct inside then first_length site.first_size else None

-- ---- functions (6.7.6.3)

abbrev pub all_types : List (Option CType) → Option (List CType)
all_types [] = Some []
all_types (None ∷ ts) = None
all_types (Some t ∷ ts) = elim (all_types ts) as (λ _. Option (List CType)) [ None ↦ None | Some us ↦ Some (t ∷ us) ]

abbrev pub is_no_result : CType → Bool
is_no_result t = is_array t || is_function t

abbrev pub signature_of : Option CType → Option (List CType) → Bool → Option Signature
signature_of (Some t) (Some ts) variadic = if is_no_result t then None else Some (record { result = t; parameters = ts; is_variadic = variadic })
signature_of _ _ variadic = None

-- a new signature gets the next number
abbrev pub with_signature : Signature → State → State
with_signature g st = if nat_eq (signature_number st.names.signatures g) (length st.names.signatures)
    then record st { names = record st.names { signatures = st.names.signatures ++ g ∷ [] } } else st

abbrev pub function_by : Option Signature → State → Named
function_by None st = named None st
function_by (Some g) st = named (Some (plain (base.Function (signature_number st.names.signatures g)))) (with_signature g st)

-- ---- parameters

abbrev pub adjusted_by : Shape → CType → CType
adjusted_by (shape.Array n) t = pointer_to (inner t)
adjusted_by (shape.Function n) t = pointer_to t
adjusted_by _ t = t

-- an array means a pointer to its element, a function a pointer to it (6.7.6.3p7, p8)
abbrev pub adjusted : CType → CType
adjusted t = adjusted_by (shape_of t) t

abbrev pub map_type : (CType → CType) → Option CType → Option CType
map_type f None = None
map_type f (Some t) = Some (f t)

-- what a definition may not have: a function, an array of arrays, a struct that isn't complete
abbrev pub faults_in_definition : State → Site → Built → List Pair
faults_in_definition st site b =
    pair_if (holds is_function b.ctype) site.first 24 ++ pair_if (holds is_rows b.ctype) (named_at site b) 9
    ++ pair_if (holds (is_incomplete st.names.structs (named_at site b)) b.ctype) (named_at site b) 10

pub record ParameterBuilt : Type 0 where
  pub state : State
  -- the type in the signature, without qualifiers of its own (6.7.6.3p15)
  pub ctype : Option CType
  pub pointers : List Pair
  pub in_definition : List Pair
  -- its first specifier
  pub first : ℕ
  -- no name, and the type void without qualifiers
  pub is_nothing : Bool

abbrev pub parameter_object : Option CType → Object
parameter_object t = record { ctype = t; is_static = false; function = None; is_defined = true; is_initialised = false }

-- a name is declared from the end of its declarator on (6.2.1p7)
abbrev pub declares_parameter : Option (List ℕ) → ℕ → ℕ → State → State
declares_parameter None at number st = st
declares_parameter (Some name) at number st =
    declare name (declares.Object number) (mean at (meaning.Object number) (note_if (is_some (find_here st.ordinary name)) at 4 st))

abbrev pub is_plain_void : CType → Bool
is_plain_void t = is_void t && not t.is_const

abbrev pub parameter_built : Site → Built → ParameterBuilt
parameter_built site b = record {
  state = declares_parameter b.name b.at (length b.state.names.objects) (with_object (parameter_object (map_type adjusted b.ctype)) b.state);
  ctype = map_type (λ t. unqualified (adjusted t)) b.ctype;
  pointers = b.pointers;
  in_definition = b.in_definition ++ faults_in_definition b.state site b;
  first = site.first;
  is_nothing = holds is_plain_void b.ctype && not (is_some b.name);
}

pub record Listed : Type 0 where
  pub state : State
  pub types : List (Option CType)
  pub pointers : List Pair
  pub in_definition : List Pair

abbrev pub no_parameters : ParameterBuilt → Listed
no_parameters p = record { state = p.state; types = []; pointers = p.pointers; in_definition = p.in_definition }

-- rule 24 at a parameter of type void
abbrev pub next_parameter : ParameterBuilt → (State → Listed) → Listed
next_parameter p rest =
    let more = rest (note_if (holds is_void p.ctype) p.first 24 p.state) in
    record { state = more.state; types = p.ctype ∷ more.types; pointers = p.pointers ++ more.pointers; in_definition = p.in_definition ++ more.in_definition }

-- `(void)` has no parameters (6.7.6.3p10)
abbrev pub only_void : Option ℕ → ParameterBuilt → Listed → Listed
only_void variadic p others = if p.is_nothing && not (is_some variadic) then no_parameters p else others
