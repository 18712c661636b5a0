use Rattle.std.proofs.Common.{ℕ, ◌<◌, get_or}
use Rattle.sat_engine.specs.Trail.{IsSet}
use Rattle.sat_index.proofs.newness.unflag.Given as goal

abbrev pub invariant-loop-m : goal.invariant-loop-m
invariant-loop-m l = record {
  kept : (m : ℕ) → IsSet l.flags m → IsSet l.initial.flags m;
  none : (k : ℕ) → k < l.m-index → IsSet l.flags (get_or l.clause k 0) → ⊥;
}
