use Rattle.std.proofs.Common.{◌≡◌, drop, length}
use Rattle.c_model.specs.Store.{written}
use Rattle.c_values.proofs.living.write_cells.Given as goal

abbrev pub invariant-loop-scalar : goal.invariant-loop-scalar
invariant-loop-scalar l = (length l.cells ≡ l.end) × (written l.place (drop l.scalar-index l.value) l.cells ≡ written l.offset l.value l.initial.cells)
