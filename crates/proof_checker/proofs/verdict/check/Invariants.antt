use Rattle.std.proofs.Common.{◌≡◌, ◌++◌, take}
use Rattle.proof_checker.specs.Checking.{FollowsTo, NoneEmptyTo}
use Rattle.proof_checker.proofs.verdict.check.Given as goal

abbrev pub invariant-loop-step : goal.invariant-loop-step
invariant-loop-step l = record {
  clauses : l.checker.clauses ≡ l.cnf.clauses ++ take l.step l.clause-items;
  follow : FollowsTo l.cnf.clauses l.clause-items l.step;
  nonempty : NoneEmptyTo l.clause-items l.step;
}
