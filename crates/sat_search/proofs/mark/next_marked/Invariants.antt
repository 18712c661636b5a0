use Rattle.std.proofs.Common.{ℕ, ◌<◌, ◌≤◌}
use Rattle.sat_search.specs.Mark.{IsMarkedAt}
use Rattle.sat_search.proofs.mark.next_marked.Given as goal

abbrev pub invariant-loop-at : goal.invariant-loop-at
invariant-loop-at l = (l.at ≤ l.top) × ((i : ℕ) → l.at ≤ i → i < l.top → IsMarkedAt l.trail.steps.items l.marks i → ⊥)

abbrev pub decreases-loop-at : goal.decreases-loop-at
decreases-loop-at l = l.at
