use Rattle.std.proofs.Common.{◌≡◌, drop}
use Rattle.c_kinds.specs.Layouts.{begins_with}
use Rattle.c_cells.proofs.begins.begins_with.Given as goal

abbrev pub invariant-loop-at : goal.invariant-loop-at
invariant-loop-at l = begins_with (drop l.at l.there) (drop l.at l.types) ≡ begins_with l.there l.types
