use Rattle.std.proofs.Common.{◌-◌, vec_len}
use Rattle.sat_engine.proofs.watch.follow.Given as goal

abbrev pub decreases-loop-i : goal.decreases-loop-i
decreases-loop-i l = vec_len l.list - l.i
