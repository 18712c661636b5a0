use Rattle.std.proofs.Common.{◌≡◌, length}
use Rattle.sat_engine.specs.Grow.{Grows}
use Rattle.sat_engine.proofs.propagation.propagate.Given as goal

abbrev pub invariant-loop-head : goal.invariant-loop-head
invariant-loop-head l = record {
  grows : Grows l.store l.initial.trail.steps.items l.trail.steps.items;
  size : length l.trail.truth.items ≡ length l.initial.trail.truth.items;
}
