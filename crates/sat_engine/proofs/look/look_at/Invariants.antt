use Rattle.std.proofs.Common.{ℕ, ◌≡◌, ◌≢◌, ◌<◌, true, false, get_or}
use Rattle.std.specs.List.{Contains}
use Rattle.sat_clause.specs.Literals.{complement_of}
use Rattle.sat_engine.specs.Trail.{IsSet}
use Rattle.sat_engine.proofs.look.look_at.Given as goal

abbrev pub invariant-loop-m : goal.invariant-loop-m
invariant-loop-m l = record {
  others : (k : ℕ) → k < l.m-index → get_or l.clause k 0 ≢ l.other → IsSet l.truth (complement_of (get_or l.clause k 0));
  seen : l.found ≡ true → Contains l.clause l.other;
  none : l.found ≡ false → (k : ℕ) → k < l.m-index → IsSet l.truth (complement_of (get_or l.clause k 0));
}
