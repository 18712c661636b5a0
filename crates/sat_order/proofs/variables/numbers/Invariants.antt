use Rattle.sat_order.specs.Members.{AreNumbers}
use Rattle.sat_order.proofs.variables.numbers.Given as goal

abbrev pub invariant-loop-number : goal.invariant-loop-number
invariant-loop-number l = AreNumbers l.from l.number l.made.items
