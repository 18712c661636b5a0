-- Elements of arrays and members of structs (6.5.2.1, 6.5.2.3). Sections are those of ISO/IEC 9899:2011.
use Rattle.std.specs.Prelude.{ℕ, ◌+◌, not, List, Option, Some, None, slice_get, if◌then◌else◌}
use Rattle.c_kinds.specs.declared.types.Shape.{Shape}
use Rattle.c_kinds.specs.declared.types.Shape.TheVariants as shape
use Rattle.c_kinds.specs.declared.types.Member.{Member}
use Rattle.c_kinds.specs.declared.types.Struct.{Struct}
use Rattle.c_kinds.specs.declared.typed.Fixed.TheVariants.{Varies}
use Rattle.c_kinds.specs.declared.typed.Typed.{Typed}
use Rattle.c_kinds.specs.Types.{shape_of, inner, is_integer, is_pointer, const_of, also_const}
use Rattle.c_kinds.specs.Addresses.{moved, followed, further_in, element_of}
use Rattle.c_kinds.specs.Layouts.{Layout, struct_is_complete, members_by, member_in}
use Rattle.c_kinds.specs.declared.answer.Answer.{Answer}
use Rattle.c_kinds.specs.declared.answer.Answer.TheVariants.{Gives, Breaks, Nothing}
use Rattle.c_kinds.specs.Values.{unless, place}
use Rattle.c_kinds.specs.Operands.{needs_cells}

-- ---- subscripts (6.5.2.1), at the `[`

-- a pointer variable is read, and so is no constant
abbrev pub read_pointer : Typed → Typed
read_pointer a = if a.is_place then record a { fixed = Varies } else a

-- an element of an array, whose bounds are checked; `&` of it moves the pointer to the first one alone
abbrev pub array_element : Layout → ℕ → Typed → Typed → Answer
array_element l length a i =
    Gives (place (inner a.ctype) (element_of l length (inner a.ctype) a.fixed i.fixed) (moved l (inner a.ctype) a.fixed i.fixed) a.named_at i.ends_at)

abbrev pub pointed_element : Layout → ℕ → Typed → Typed → Answer
pointed_element l at p i = needs_cells l at p
    (Gives (place (inner p.ctype) (followed l (inner p.ctype) (moved l (inner p.ctype) p.fixed i.fixed)) (moved l (inner p.ctype) p.fixed i.fixed) p.named_at i.ends_at))

abbrev pub subscript_by : Layout → ℕ → Shape → Typed → Typed → Answer
subscript_by l at (shape.Array length) a i = array_element l length a i
subscript_by l at shape.Pointer a i = pointed_element l at (read_pointer a) i
subscript_by l at _ a i = Breaks 12 at

-- an array or a pointer, and an integer value
abbrev pub subscript_answer : Layout → ℕ → Typed → Typed → Answer
subscript_answer l at a i = unless (not (is_integer i.ctype)) 12 at (subscript_by l at (shape_of a.ctype) a i)

-- ---- members (6.5.2.3): the member's name is the token after the `.` or `->`

-- the member has no type where its declaration breaks a rule
abbrev pub member_place : ℕ → Typed → Option Member → Answer
member_place at object None = Breaks 3 (at + 1)
member_place at object (Some m) = elim m.ctype as (λ _. Answer) [
  | None ↦ Nothing
  | Some t ↦ Gives (place (also_const (const_of object.ctype) t) (further_in m.cell object.fixed) (further_in m.cell object.fixed) (at + 1) (at + 1))
]

-- a struct that isn't complete has no members
abbrev pub named_member : ℕ → List ℕ → Typed → Option Struct → Answer
named_member at name object s = if struct_is_complete at s then member_place at object (member_in (members_by s) name) else Breaks 3 (at + 1)

abbrev pub member_by : Layout → ℕ → List ℕ → Shape → Typed → Answer
member_by l at name (shape.Struct n) object = named_member at name object (slice_get l.structs n)
member_by l at name _ object = Breaks 12 at

-- `object.name`, of an lvalue alone
abbrev pub member_answer : Layout → ℕ → List ℕ → Typed → Answer
member_answer l at name object = unless (not object.is_place) 12 at (member_by l at name (shape_of object.ctype) object)

-- the struct that a pointer leads to
abbrev pub pointed_struct : Layout → Typed → Typed
pointed_struct l p = place (inner p.ctype) (followed l (inner p.ctype) p.fixed) p.fixed p.named_at p.ends_at

-- `pointer->name`, of a value
abbrev pub pointed_member_answer : Layout → ℕ → List ℕ → Typed → Answer
pointed_member_answer l at name p = unless (not (is_pointer p.ctype)) 12 at (member_by l at name (shape_of (inner p.ctype)) (pointed_struct l p))
