use Rattle.std.proofs.Common.{ℕ, ◌<◌, get_or, []}
use Rattle.sat_index.specs.Listed.{NoneFlagged}
use Rattle.sat_index.proofs.newness.seek.Given as goal

abbrev pub invariant-loop-m : goal.invariant-loop-m
invariant-loop-m l = (k : ℕ) → k < l.m-index → NoneFlagged l.store (get_or l.index (get_or l.clause k 0) []) l.flags
