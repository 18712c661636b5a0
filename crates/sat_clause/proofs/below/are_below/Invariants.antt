use Rattle.std.proofs.Common.{take}
use Rattle.sat_clause.specs.Literals.{AreBelow}
use Rattle.sat_clause.proofs.below.are_below.Given as goal

abbrev pub invariant-loop-lit : goal.invariant-loop-lit
invariant-loop-lit l = AreBelow l.n (take l.lit-index l.lit-items)
