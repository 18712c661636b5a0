use Rattle.std.proofs.Common.{ℕ, ◌<◌, ◌⊎◌, get_or}
use Rattle.std.specs.List.{Contains}
use Rattle.sat_engine.specs.Trail.{IsSet}
use Rattle.sat_index.proofs.newness.flag.Given as goal

abbrev pub invariant-loop-m : goal.invariant-loop-m
invariant-loop-m l = record {
  in_clause : (m : ℕ) → IsSet l.flags m → IsSet l.initial.flags m ⊎ Contains l.clause m;
  all : (k : ℕ) → k < l.m-index → IsSet l.flags (get_or l.clause k 0);
}
