use Rattle.std.proofs.Common.{◌≡◌, ◌≤◌, length, take, vec_len}
use Rattle.sat_search.proofs.cuts.rewind.Given as goal

abbrev pub invariant-loop-trail : goal.invariant-loop-trail
invariant-loop-trail l = record {
  front : l.trail.steps.items ≡ take (length l.trail.steps.items) l.initial.trail.steps.items;
  above : l.n ≤ length l.trail.steps.items;
  below : length l.trail.steps.items ≤ length l.initial.trail.steps.items;
  size : length l.trail.truth.items ≡ length l.initial.trail.truth.items;
  place : l.trail.place.items ≡ l.initial.trail.place.items;
}

abbrev pub decreases-loop-trail : goal.decreases-loop-trail
decreases-loop-trail l = vec_len l.trail.steps
