-- Structs, enums and their tags (6.7.2). Sections are those of ISO/IEC 9899:2011.
use Rattle.std.specs.Prelude.{ℕ, ◌+◌, nat_eq, nat_lt, ℤ, pos, ◌+ℤ◌, Bool, false, not, ◌||◌, if◌then◌else◌, List, [], ◌∷◌, ◌++◌, length, Option, Some, None, slice_get, slice_set}
use Rattle.std.specs.List.{list_any}
use Rattle.kv_num.specs.declared.types.IntType.TheVariants.{Int}
use Rattle.c_kinds.specs.declared.limits.TheConstants.{MAX_OBJECT_CELLS}
use Rattle.c_kinds.specs.declared.types.Base.TheVariants as base
use Rattle.c_kinds.specs.declared.types.CType.{CType}
use Rattle.c_kinds.specs.declared.types.Struct.{Struct}
use Rattle.c_kinds.specs.declared.typed.Fixed.{Fixed}
use Rattle.c_kinds.specs.declared.typed.Fixed.TheVariants.{Number}
use Rattle.c_kinds.specs.Types.{plain, integer, is_void, is_function}
use Rattle.c_kinds.specs.Integers.{is_in_range}
use Rattle.c_kinds.specs.Layouts.{is_incomplete, has_const, cell_count, members_of, member_in}
use Rattle.c_kinds.specs.declared.answer.Answer.{Answer}
use Rattle.c_kinds.specs.declared.answer.Answer.TheVariants.{Gives}
use Rattle.c_kinds.specs.Values.{used}
use Rattle.c_rules.specs.declared.names.Declares.{Declares}
use Rattle.c_rules.specs.declared.names.Declares.TheVariants as declares
use Rattle.c_rules.specs.declared.names.Meaning.TheVariants as meaning
use Rattle.c_rules.specs.declared.names.ScopeEntry.{ScopeEntry}
use Rattle.c_rules.specs.Broken.{broken_using}
use Rattle.c_rules.specs.Calls.{is_some}
use Rattle.c_rules.specs.Scopes.{State, find, find_here, layout_at, note, note_if, note_all, mean, declare, declare_tag}
use Rattle.c_rules.specs.KnownFunctions.{is_known_in_file}
use Rattle.c_rules.specs.Specifiers.{Specified, with_other, in_state}
use Rattle.c_rules.specs.Declarators.{Built, holds, as_value}

-- a tag is the token after its keyword
abbrev pub tag_at : Option (List ℕ) → ℕ → ℕ
tag_at None at = at
tag_at (Some tag) at = at + 1

-- ---- structs (6.7.2.1, 6.7.2.3)

abbrev pub new_members : Struct
new_members = record { members = []; completed_at = None; cells = 0; has_const = false }

pub record Numbered : Type 0 where
  pub state : State
  pub number : ℕ

abbrev pub declare_if : Option (List ℕ) → Declares → State → State
declare_if None what st = st
declare_if (Some tag) what st = declare_tag tag what st

-- a new struct, whose tag is declared in the innermost block
abbrev pub new_struct : Option (List ℕ) → State → Numbered
new_struct tag st = record {
  state = declare_if tag (declares.Struct (length st.names.structs)) (record st { names = record st.names { structs = st.names.structs ++ new_members ∷ [] } });
  number = length st.names.structs;
}

abbrev pub has_begun : ℕ → State → Bool
has_begun n st = list_any (λ m. nat_eq m n) st.begun

abbrev pub begin : Numbered → Numbered
begin x = record { state = record x.state { begun = x.number ∷ x.state.begun }; number = x.number }

-- a tag of the innermost block is completed once; rule 4 at the tag
abbrev pub struct_found : List ℕ → ℕ → State → Option ScopeEntry → Numbered
struct_found tag at st None = new_struct (Some tag) st
struct_found tag at st (Some entry) = elim entry.declares as (λ _. Numbered) [
  | declares.Struct n ↦ if has_begun n st then new_struct None (note (at + 1) 4 st) else record { state = st; number = n }
  | _ ↦ new_struct None (note (at + 1) 4 st)
]

-- the struct whose members follow
abbrev pub begins_struct : Option (List ℕ) → ℕ → State → Numbered
begins_struct None at st = begin (new_struct None st)
begins_struct (Some tag) at st = begin (struct_found tag at st (find_here st.tags tag))

abbrev pub change_struct : ℕ → (Struct → Struct) → State → State
change_struct n change st = elim (slice_get st.names.structs n) as (λ _. State) [
  | None ↦ st
  | Some s ↦ record st { names = record st.names { structs = slice_set st.names.structs n (change s) } }
]

abbrev pub struct_type : ℕ → Option CType
struct_type n = Some (plain (base.Struct n))

abbrev pub is_too_large : State → ℕ → Bool
is_too_large st n = holds (λ t. nat_lt MAX_OBJECT_CELLS (cell_count st.names.structs t)) (struct_type n)

-- complete after its members; rule 10 at the tag where it has none or too many cells
abbrev pub ends_struct : ℕ → Bool → ℕ → State → State
ends_struct n is_empty place st =
    note_if (is_empty || is_too_large st n) place 10 (change_struct n (λ s. record s { completed_at = Some st.reached }) st)

-- ---- tags that are named

-- rule 3 at a tag that isn't declared, or for the other keyword
abbrev pub tag_unknown : ℕ → Specified → Specified
tag_unknown at x = with_other None (in_state (note (at + 1) 3 x.state) x)

abbrev pub struct_named : ℕ → Option ScopeEntry → Specified → Specified
struct_named at None x = tag_unknown at x
struct_named at (Some entry) x = elim entry.declares as (λ _. Specified) [ declares.Struct n ↦ with_other (struct_type n) x | _ ↦ tag_unknown at x ]

-- `struct tag;` alone declares the tag (6.7.2.3p7)
abbrev pub struct_declared : List ℕ → ℕ → Option ScopeEntry → Specified → Specified
struct_declared tag at None x = let made = new_struct (Some tag) x.state in with_other (struct_type made.number) (in_state made.state x)
struct_declared tag at (Some entry) x = elim entry.declares as (λ _. Specified) [
  | declares.Struct n ↦ with_other (struct_type n) x
  | _ ↦ with_other None (in_state (note (at + 1) 4 x.state) x)
]

abbrev pub struct_tag : Bool → List ℕ → ℕ → Specified → Specified
struct_tag is_alone tag at x = if is_alone then struct_declared tag at (find_here x.state.tags tag) x else struct_named at (find x.state.tags tag) x

-- an enum is an int
abbrev pub enum_named : ℕ → Option ScopeEntry → Specified → Specified
enum_named at None x = tag_unknown at x
enum_named at (Some entry) x = elim entry.declares as (λ _. Specified) [ declares.Enum ↦ with_other (Some (integer Int)) x | _ ↦ tag_unknown at x ]

abbrev pub begins_enum : Option (List ℕ) → ℕ → State → State
begins_enum None at st = st
begins_enum (Some tag) at st = if is_some (find_here st.tags tag) then note (at + 1) 4 st else declare_tag tag declares.Enum st

-- 6.7.8
abbrev pub typedef_by : Declares → Specified → Specified
typedef_by (declares.Typedef t is_unsaid) x = record (with_other t x) { is_unsaid = is_unsaid }
typedef_by _ x = with_other None x

abbrev pub typedef_named : Option ScopeEntry → Specified → Specified
typedef_named None x = with_other None x
typedef_named (Some entry) x = typedef_by entry.declares x

-- ---- enumeration constants (6.7.2.2)

-- the value of the next one, if it is known
pub record Counted : Type 0 where
  pub state : State
  pub next : Option ℤ

abbrev pub in_int : Option ℤ → Option ℤ
in_int None = None
in_int (Some n) = if is_in_range Int n then Some n else None

abbrev pub is_outside_int : Option ℤ → Bool
is_outside_int None = false
is_outside_int (Some n) = not (is_in_range Int n)

abbrev pub one_more : Option ℤ → Option ℤ
one_more None = None
one_more (Some n) = Some (n +ℤ pos 1)

-- rule 23 at a known function's name in the file, rule 25 at the value, or at the name, where it is no int; the name is declared from the end of its line on (6.2.1p7)
abbrev pub counts : List ℕ → ℕ → ℕ → Option ℤ → State → Counted
counts name at place n st = record {
  state = declare name (declares.Constant (in_int n)) (mean at (meaning.Constant (in_int n))
      (note_if (is_some (find_here st.ordinary name)) at 4 (note_if (is_known_in_file st name) at 23 (note_if (is_outside_int n) place 25 st))));
  next = one_more (in_int n);
}

abbrev pub number_in : Fixed → Option ℤ
number_in (Number n) = Some n
number_in _ = None

abbrev pub enum_value : Answer → Option ℤ
enum_value (Gives v) = number_in v.fixed
enum_value _ = None

abbrev pub has_no_number : Answer → Bool
has_no_number (Gives v) = not (is_some (number_in v.fixed))
has_no_number _ = false

-- a constant's name, its value's first token and the value
abbrev pub counts_value : List ℕ → ℕ → ℕ → Answer → State → Counted
counts_value name at first x st =
    let v = used (layout_at st) x as_value in
    counts name at first (enum_value v) (note_if (has_no_number v) first 25 (note_all (broken_using (layout_at st) x as_value) st))

-- ---- members (6.7.2.1)

-- the members of this struct, of the type that their specifiers name
pub record MemberSite : Type 0 where
  pub number : ℕ
  pub ctype : Option CType
  pub first : ℕ

abbrev pub is_no_member : CType → Bool
is_no_member t = is_void t || is_function t

abbrev pub member_type : Option CType → Option CType
member_type t = if holds is_no_member t then None else t

abbrev pub cells_with : State → Option CType → Struct → ℕ
cells_with st None s = s.cells
cells_with st (Some t) s = s.cells + cell_count st.names.structs t

abbrev pub adds_member : State → List ℕ → Option CType → Struct → Struct
adds_member st name t s = record {
  members = s.members ++ record { name = name; ctype = t; cell = s.cells } ∷ [];
  completed_at = s.completed_at;
  cells = cells_with st t s;
  has_const = s.has_const || holds (has_const st.names.structs) t;
}

-- rule 4 for a second member of a name, rule 24 for one of type void or a function, rule 10 for a struct without cells
abbrev pub names_member : MemberSite → Built → State
names_member site b = elim b.name as (λ _. State) [
  | None ↦ b.state
  | Some name ↦ change_struct site.number (adds_member b.state name (member_type b.ctype))
      (note_if (is_some (member_in (members_of b.state.names.structs site.number) name)) b.at 4
      (note_if (holds is_no_member b.ctype) site.first 24
      (note_if (holds (is_incomplete b.state.names.structs b.at) b.ctype) b.at 10 (note_all b.pointers b.state))))
]
