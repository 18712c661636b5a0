use Rattle.std.proofs.Common.{ℕ, ◌<◌, ◌≤◌, length}
use Rattle.sat_search.specs.Mark.{IsMarkedAt}
use Rattle.sat_search.specs.Analysis.{IsMarked}
use Rattle.sat_search.proofs.shorten.mark_more.Given as goal

abbrev pub invariant-loop-at : goal.invariant-loop-at
invariant-loop-at l = record {
  marked : IsMarked l._store l.trail.truth.items l.trail.place.items l.floor l._top l.marks l.low.items;
  above : (i : ℕ) → l.floor ≤ i → i < length l.trail.steps.items → IsMarkedAt l.trail.steps.items l.marks i → IsMarkedAt l.trail.steps.items l.initial.marks i;
}
