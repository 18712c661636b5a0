use Rattle.std.proofs.Common.{ℕ, ◌≢◌, ◌/◌, ◌<◌, get_or}
use Rattle.sat_engine.specs.Trail.{IsSet}
use Rattle.sat_search.proofs.mark.unmark.Given as goal

abbrev pub invariant-loop-lit : goal.invariant-loop-lit
invariant-loop-lit l = record {
  kept : (v : ℕ) → IsSet l.marks v → IsSet l.initial.marks v;
  none : (k : ℕ) → k < l.lit-index → (v : ℕ) → IsSet l.marks v → get_or l.clause k 0 / 2 ≢ v;
}
