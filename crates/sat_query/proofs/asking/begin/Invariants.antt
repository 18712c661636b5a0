use Rattle.std.proofs.Common.{ℕ, ◌≡◌, ◌<◌, ◌≤◌, [], take, get_or}
use Rattle.sat_clause.specs.Literals.{AreBelow}
use Rattle.sat_query.proofs.asking.begin.Given as goal

abbrev pub invariant-loop-clause : goal.invariant-loop-clause
invariant-loop-clause l = record {
  clauses : l.solver.clauses ≡ take l.clause-index l.clauses;
  log : l.solver.log ≡ [];
  vars : (n : ℕ) → ((i : ℕ) → i < l.clause-index → AreBelow n (get_or l.clauses i [])) → l.solver.vars ≤ n;
}
