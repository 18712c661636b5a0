use Rattle.std.proofs.Common.{ℕ, ◌≡◌, ◌<◌, ◌≤◌, ◌++◌, [], take, get_or}
use Rattle.sat_clause.specs.Literals.{AreBelow}
use Rattle.sat_query.proofs.grown.add_all.Given as goal

abbrev pub invariant-loop-clause : goal.invariant-loop-clause
invariant-loop-clause l = record {
  clauses : l.kept.clauses ≡ l.initial.kept.clauses ++ take l.clause-index l.clauses;
  log : l.kept.log ≡ l.initial.kept.log;
  vars : (n : ℕ) → l.initial.kept.vars ≤ n → ((i : ℕ) → i < l.clause-index → AreBelow n (get_or l.clauses i [])) → l.kept.vars ≤ n;
}
