use Rattle.std.proofs.Common.{ℕ, ◌+◌, ◌≤◌, Bool, length}
use Rattle.sat_clause.specs.Literals.{MeetsAll, ClausesAreBelow}
use Rattle.gate_clauses.specs.Clauses.{Copies}
use Rattle.gate_clauses.proofs.gates.push_copies.Given as goal

abbrev pub invariant-loop-i : goal.invariant-loop-i
invariant-loop-i l = record {
  gives : (A : ℕ → Bool) → MeetsAll A l.clauses → Copies A l.first l.all l.i;
  kept : (A : ℕ → Bool) → MeetsAll A l.clauses → MeetsAll A l.fn.clauses;
  meets : (A : ℕ → Bool) → MeetsAll A l.fn.clauses → Copies A l.first l.all (length l.all) → MeetsAll A l.clauses;
  below : (n : ℕ) → l.first + length l.all ≤ n → ClausesAreBelow n l.fn.clauses → ClausesAreBelow n l.clauses;
}
