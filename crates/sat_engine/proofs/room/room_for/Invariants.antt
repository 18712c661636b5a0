use Rattle.std.proofs.Common.{ℕ, ◌<◌, ◌≤◌, get_or}
use Rattle.sat_engine.proofs.room.room_for.Given as goal

abbrev pub invariant-loop-lit : goal.invariant-loop-lit
invariant-loop-lit l = record {
  longer : l.old ≤ l.room;
  room : (k : ℕ) → k < l.lit-index → get_or l.lits k 0 < l.room;
  least : (n : ℕ) → l.old ≤ n → ((k : ℕ) → k < l.lit-index → get_or l.lits k 0 < n) → l.room ≤ n;
}
