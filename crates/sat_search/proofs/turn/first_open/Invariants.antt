use Rattle.std.proofs.Common.{ℕ, ◌-◌, ◌<◌, ◌≤◌, ◌⊎◌, length}
use Rattle.sat_clause.specs.Literals.{complement_of}
use Rattle.sat_engine.specs.Trail.{IsSet}
use Rattle.sat_search.proofs.turn.first_open.Given as goal

abbrev pub invariant-loop-l : goal.invariant-loop-l
invariant-loop-l l = (l.l ≤ length l.truth) × ((k : ℕ) → k < l.l → IsSet l.truth k ⊎ IsSet l.truth (complement_of k))

abbrev pub decreases-loop-l : goal.decreases-loop-l
decreases-loop-l l = length l.truth - l.l
