use Rattle.std.proofs.Common.{take}
use Rattle.c_values.specs.Pointing.{AreNoPointers}
use Rattle.c_values.proofs.living.points_somewhere.Given as goal

abbrev pub invariant-loop-scalar : goal.invariant-loop-scalar
invariant-loop-scalar l = AreNoPointers (take l.scalar-index l.value)
