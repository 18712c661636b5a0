use Rattle.std.proofs.Common.{ℕ, ◌-◌, ◌<◌, ◌≤◌, length}
use Rattle.sat_clause.specs.Propagation.{clause_at}
use Rattle.sat_search.specs.Turn.{HasTrue}
use Rattle.sat_search.proofs.turn.first_unmet.Given as goal

abbrev pub invariant-loop-i : goal.invariant-loop-i
invariant-loop-i l = (l.i ≤ length l.store) × ((k : ℕ) → k < l.i → HasTrue (clause_at l.store k) l.truth)

abbrev pub decreases-loop-i : goal.decreases-loop-i
decreases-loop-i l = length l.store - l.i
