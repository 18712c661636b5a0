use Rattle.std.proofs.Common.{◌≡◌, ◌≤◌, length, take, vec_len}
use Rattle.sat_engine.proofs.trail.Trail.cut.Given as goal

abbrev pub invariant-loop-self : goal.invariant-loop-self
invariant-loop-self l = record {
  front : l.self.steps.items ≡ take (length l.self.steps.items) l.initial.self.steps.items;
  above : l.n ≤ length l.self.steps.items;
  below : length l.self.steps.items ≤ length l.initial.self.steps.items;
  size : length l.self.truth.items ≡ length l.initial.self.truth.items;
}

abbrev pub decreases-loop-self : goal.decreases-loop-self
decreases-loop-self l = vec_len l.self.steps
