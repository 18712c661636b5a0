use Rattle.std.proofs.Common.{ℕ, ◌≡◌, ◌<◌, length, get_or}
use Rattle.sat_engine.specs.Trail.{IsSet}
use Rattle.proof_checker.specs.Base.{IsBase, IsFront}
use Rattle.proof_checker.proofs.refute.assume.Given as goal

abbrev pub invariant-loop-lit : goal.invariant-loop-lit
invariant-loop-lit l = record {
  base : IsBase l.store l.asked l.trail.steps.items;
  front : IsFront l.initial.trail.steps.items l.trail.steps.items;
  size : length l.trail.truth.items ≡ length l.initial.trail.truth.items;
  on : (k : ℕ) → k < l.lit-index → IsSet l.trail.truth.items (get_or l.asked k 0);
}
