use Rattle.std.proofs.Common.{ℕ, ◌≤◌, ◌*◌, Bool, length}
use Rattle.sat_clause.specs.Literals.{MeetsAll, ClausesAreBelow}
use Rattle.gate_core.specs.Table.{Agrees}
use Rattle.gate_clauses.specs.Clauses.{AgreesBelow}
use Rattle.gate_clauses.proofs.gates.gate_clauses.Given as goal

abbrev pub invariant-loop-at : goal.invariant-loop-at
invariant-loop-at l = record {
  gives : (A : ℕ → Bool) → MeetsAll A l.clauses → AgreesBelow A l.gates l.at;
  meets : (A : ℕ → Bool) → Agrees A l.gates → MeetsAll A l.clauses;
  below : ClausesAreBelow (length l.gates) l.clauses;
  few : length l.clauses ≤ 4 * l.at;
}
