use Rattle.std.proofs.Common.{ℕ, ◌≤◌, length}
use Rattle.sat_engine.specs.Trail.{IsSet}
use Rattle.sat_search.specs.Analysis.{IsMarked}
use Rattle.sat_search.proofs.shorten.unmark_redundant.Given as goal

abbrev pub invariant-loop-left : goal.invariant-loop-left
invariant-loop-left l = record {
  within : l.left ≤ length l.places;
  marked : IsMarked l.store l.trail.truth.items l.trail.place.items l.floor l._top l.marks l._low;
  fewer : (v : ℕ) → IsSet l.marks v → IsSet l.initial.marks v;
}

abbrev pub decreases-loop-left : goal.decreases-loop-left
decreases-loop-left l = l.left
