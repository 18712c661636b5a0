use Rattle.std.proofs.Common.{◌≡◌, take, false}
use Rattle.proof_checker.proofs.verdict.begin.Given as goal

abbrev pub invariant-loop-clause : goal.invariant-loop-clause
invariant-loop-clause l = record {
  clauses : l.checker.clauses ≡ take l.clause-index l.clause-items;
  working : l.checker.refused ≡ false;
}
