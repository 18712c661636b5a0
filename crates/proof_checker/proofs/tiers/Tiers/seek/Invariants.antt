use Rattle.std.proofs.Common.{◌≡◌, ◌-◌, length}
use Rattle.sat_engine.specs.Grow.{Grows}
use Rattle.proof_checker.proofs.tiers.Tiers.seek.Given as goal

abbrev pub invariant-rounds : goal.invariant-rounds
invariant-rounds l = record {
  grows : Grows l.store l.initial.trail.steps.items l.trail.steps.items;
  size : length l.trail.truth.items ≡ length l.initial.trail.truth.items;
}

abbrev pub decreases-rounds : goal.decreases-rounds
decreases-rounds l = length l.trail.truth.items - length l.trail.steps.items
