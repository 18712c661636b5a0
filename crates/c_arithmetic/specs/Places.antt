-- Which static places an address calculation may be given (6.6p9). Sections are those of ISO/IEC 9899:2011.
use Rattle.std.specs.Prelude.{◌≡◌, ℕ, ◌+◌, ◌^◌, ◌<◌}
use Rattle.c_kinds.specs.declared.typed.Fixed.{Fixed}
use Rattle.c_kinds.specs.declared.typed.Fixed.TheVariants.{At}
use Rattle.c_kinds.specs.Layouts.{Layout, object_cells}

-- the object that is pointed into, if there is one, has this many cells
abbrev pub PointsInto : Layout → ℕ → Fixed → Type 0
PointsInto l cells (At object cell) = object_cells l object ≡ cells
PointsInto l cells _ = Unit {0}

-- so many cells further on the place still has a number
abbrev pub HasRoom : ℕ → Fixed → Type 0
HasRoom cells (At object cell) = cell + cells < 2 ^ 64
HasRoom cells _ = Unit {0}
