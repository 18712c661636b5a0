-- Address constants (6.6p9): addresses of cells of static objects, found without reading an object, and whether finding one
-- breaks a check of pointers. Sections are those of ISO/IEC 9899:2011.
use Rattle.std.specs.Prelude.{ℕ, ◌+◌, ◌*◌, ℤ, pos, ◌+ℤ◌, ◌*ℤ◌, int_lt, unsigned_abs, not, ◌||◌, if◌then◌else◌}
use Rattle.c_kinds.specs.declared.types.CType.{CType}
use Rattle.c_kinds.specs.declared.typed.Fixed.{Fixed}
use Rattle.c_kinds.specs.declared.typed.Fixed.TheVariants.{Varies, NoValue, Number, Null, At, Breaks}
use Rattle.c_kinds.specs.Layouts.{Layout, cell_count, object_cells, leads_to}

-- an address stays in its object, or one past it; the accepted C asks that of the whole object (6.5.6p8)
abbrev pub moved_to : Layout → ℕ → ℤ → Fixed
moved_to l object cell = if int_lt cell (pos 0) || int_lt (pos (object_cells l object)) cell then Breaks else At object (unsigned_abs cell)

-- a pointer n elements further on; what varies comes before what has no value
abbrev pub moved : Layout → CType → Fixed → Fixed → Fixed
moved l pointee Varies i = Varies
moved l pointee (At object cell) (Number n) = moved_to l object (pos cell +ℤ n *ℤ pos (cell_count l.structs pointee))
moved l pointee Null (Number n) = Breaks
moved l pointee Breaks (Number n) = Breaks
moved l pointee p NoValue = NoValue
moved l pointee p i = Varies

-- the place that a pointer leads to: its cells are those of the pointee's type (6.5.3.2p4)
abbrev pub followed : Layout → CType → Fixed → Fixed
followed l pointee (At object cell) = if leads_to l object cell pointee then At object cell else Breaks
followed l pointee Null = Breaks
followed l pointee (Number n) = Varies
followed l pointee p = p

-- a member's place in the place of its struct (6.5.2.3)
abbrev pub further_in : ℕ → Fixed → Fixed
further_in cells (At object cell) = At object (cell + cells)
further_in cells p = p

-- the place of an array's element: the index is in the array's bounds (6.5.6p8)
abbrev pub element_of : Layout → ℕ → CType → Fixed → Fixed → Fixed
element_of l length element Varies i = Varies
element_of l length element (At object cell) (Number n) =
    if int_lt n (pos 0) || not (int_lt n (pos length)) then Breaks else At object (cell + unsigned_abs n * cell_count l.structs element)
element_of l length element Breaks (Number n) = Breaks
element_of l length element p NoValue = NoValue
element_of l length element p i = Varies
