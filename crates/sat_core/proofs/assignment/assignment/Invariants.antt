use Rattle.std.proofs.Common.{ℕ, ◌≡◌, ◌*◌, ◌<◌, length, get_or, false}
use Rattle.sat_core.proofs.assignment.assignment.Given as goal

abbrev pub invariant-loop-var : goal.invariant-loop-var
invariant-loop-var l = record {
  size : length l.made ≡ l.var;
  each : (v : ℕ) → v < l.var → get_or l.made v false ≡ get_or l.truth (2 * v) false;
}
