use Rattle.std.proofs.Common.{◌≡◌}
use Rattle.c_kinds.specs.Layouts.{repeated}
use Rattle.c_cells.proofs.copies.repeated.Given as goal

abbrev pub invariant-loop : goal.invariant-loop
invariant-loop l = l.made ≡ repeated l.counter l.cells
