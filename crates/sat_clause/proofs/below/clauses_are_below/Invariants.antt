use Rattle.std.proofs.Common.{take}
use Rattle.sat_clause.specs.Literals.{ClausesAreBelow}
use Rattle.sat_clause.proofs.below.clauses_are_below.Given as goal

abbrev pub invariant-loop-clause : goal.invariant-loop-clause
invariant-loop-clause l = ClausesAreBelow l.n (take l.clause-index l.clause-items)
