use Rattle.std.proofs.Common.{◌≡◌, length, vec_len, ◌-◌}
use Rattle.sat_engine.specs.Grow.{Grows}
use Rattle.sat_engine.proofs.propagation.visit.Given as goal

abbrev pub invariant-loop-i : goal.invariant-loop-i
invariant-loop-i l = record {
  grows : Grows l.store l.initial.trail.steps.items l.trail.steps.items;
  size : length l.trail.truth.items ≡ length l.initial.trail.truth.items;
}

abbrev pub decreases-loop-i : goal.decreases-loop-i
decreases-loop-i l = vec_len l.list - l.i
