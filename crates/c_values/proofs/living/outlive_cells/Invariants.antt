use Rattle.std.proofs.Common.{◌≡◌, ◌++◌, map, take, drop}
use Rattle.c_model.specs.Store.{outlived}
use Rattle.c_values.proofs.living.outlive_cells.Given as goal

abbrev pub invariant-loop-at : goal.invariant-loop-at
invariant-loop-at l = l.cells ≡ map (outlived l.living) (take l.at l.initial.cells) ++ drop l.at l.initial.cells
