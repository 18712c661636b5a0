-- What the operators are told, as the definitions have it, and what holds of it where declarations break no rule.
use Rattle.std.specs.Prelude.{◌≡◌, ℕ, ◌+◌, ◌^◌, ◌<◌, ◌≤◌, Bool, All, Option, Some, None, length, slice_get}
use Rattle.c_kinds.specs.declared.types.CType.{CType}
use Rattle.c_kinds.specs.declared.types.Member.{Member}
use Rattle.c_kinds.specs.declared.types.Shape.{Shape}
use Rattle.c_kinds.specs.declared.types.Shape.TheVariants.{Array, Struct}
use Rattle.c_kinds.specs.declared.typed.Fixed.{Fixed}
use Rattle.c_kinds.specs.declared.typed.Fixed.TheVariants.{At}
use Rattle.c_kinds.specs.declared.typed.Typed.{Typed}
use Rattle.c_kinds.specs.declared.answer.Answer.{Answer}
use Rattle.c_kinds.specs.declared.answer.Answer.TheVariants.{Gives}
use Rattle.c_kinds.specs.Layouts.{Layout, cell_count, count_if, leads_to, members_of, object_cells, struct_cells, struct_cell_types}
use Rattle.c_kinds.specs.Types.{shape_of}
use Rattle.c_arithmetic.specs.Places.{HasRoom}
use Rattle.c_rules.specs.Typing as typing
use Rattle.c_rules.specs.Typing.{layout_of}
use Rattle.c_operators.specs.declared.given.Given.{Given}

abbrev pub told : Given → typing.Given
told given = record { names = given.names.now; model = given.model }

abbrev pub layout_at : Given → Layout
layout_at given = layout_of (told given)

-- objects and structs of a text whose declarations break no rule
pub record IsCounted (l : Layout) : Type 0 where
  -- each cell of an object has a number
  pub objects_fit : (object : ℕ) → object_cells l object < 2 ^ 64
  -- a member stands inside its struct
  pub members_fit : (n : ℕ) → All (λ (m : Member). m.cell + count_if l.structs m.ctype ≤ struct_cells (slice_get l.structs n)) (members_of l.structs n)
  -- a struct has as many cells as its members have types of cells
  pub structs_counted : (n : ℕ) → struct_cells (slice_get l.structs n) ≡ length (struct_cell_types l.structs (length l.structs) n)

abbrev pub RoomBy : Layout → Shape → Typed → Type 0
RoomBy l (Array n) x = HasRoom (cell_count l.structs x.ctype) x.fixed
RoomBy l (Struct n) x = HasRoom (cell_count l.structs x.ctype) x.fixed
RoomBy l _ x = Unit {0}

-- each cell of an array or a struct that is a constant place has a number
abbrev pub HasItsCells : Layout → Typed → Type 0
HasItsCells l x = RoomBy l (shape_of x.ctype) x

-- so has the first cell of a member in such a place
abbrev pub HasMemberRoom : Option Member → Fixed → Type 0
HasMemberRoom None place = Unit {0}
HasMemberRoom (Some m) place = HasRoom m.cell place

-- whether a pointer that leads into a static object leads to cells of the type
abbrev pub LeadsBy : Layout → CType → Fixed → Bool → Type 0
LeadsBy l t (At object cell) leads = leads ≡ leads_to l object cell t
LeadsBy l t _ leads = Unit {0}

-- so has what an answer gives
abbrev pub GivesItsCells : Layout → Answer → Type 0
GivesItsCells l (Gives x) = HasItsCells l x
GivesItsCells l _ = Unit {0}
