use Rattle.std.proofs.Common.{ℕ, ◌/◌, ◌<◌, get_or}
use Rattle.std.specs.List.{Contains}
use Rattle.sat_engine.specs.Trail.{IsSet}
use Rattle.sat_search.proofs.shorten.still_marked.Given as goal

abbrev pub invariant-loop-lit : goal.invariant-loop-lit
invariant-loop-lit l = record {
  only : (m : ℕ) → Contains l.kept.items m → Contains l.lits m;
  all : (k : ℕ) → k < l.lit-index → IsSet l.marks (get_or l.lits k 0 / 2) → Contains l.kept.items (get_or l.lits k 0);
}
