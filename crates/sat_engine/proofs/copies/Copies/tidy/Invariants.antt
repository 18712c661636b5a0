use Rattle.std.proofs.Common.{◌-◌, ◌≤◌, vec_len}
use Rattle.sat_engine.proofs.copies.Copies.tidy.Given as goal

abbrev pub invariant-loop-at : goal.invariant-loop-at
invariant-loop-at l = l.at ≤ vec_len l.old

abbrev pub decreases-loop-at : goal.decreases-loop-at
decreases-loop-at l = vec_len l.old - l.at
