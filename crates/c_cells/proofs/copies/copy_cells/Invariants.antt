use Rattle.std.proofs.Common.{◌≡◌, take}
use Rattle.c_cells.proofs.copies.copy_cells.Given as goal

abbrev pub invariant-loop-cell : goal.invariant-loop-cell
invariant-loop-cell l = l.made ≡ take l.cell-index l.cells
