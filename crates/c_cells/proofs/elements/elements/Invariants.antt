use Rattle.std.proofs.Common.{◌≡◌, ℕ, Bool, List, drop}
use Rattle.c_kinds.specs.declared.types.Base.{Base}
use Rattle.c_kinds.specs.declared.types.CellType.{CellType}
use Rattle.c_kinds.specs.Layouts.{repeated, cell_types_by}
use Rattle.c_cells.proofs.elements.elements.Given as goal

abbrev pub invariant-loop-at : goal.invariant-loop-at
invariant-loop-at l = (of_struct : ℕ → List CellType) (base : Base) (is_const : Bool) → repeated l.count (cell_types_by of_struct (drop l.at l.derived) base is_const) ≡ cell_types_by of_struct l.derived base is_const
