use Rattle.std.proofs.Common.{◌≡◌, take}
use Rattle.gate_core.specs.Table.{inputs_of}
use Rattle.gate_core.proofs.table.Gates.inputs.Given as goal

abbrev pub invariant-loop-at : goal.invariant-loop-at
invariant-loop-at l = l.places ≡ inputs_of (take l.at l.self)
