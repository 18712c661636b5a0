use Rattle.std.proofs.Common.{◌<◌, length}
use Rattle.sat_index.proofs.record.least_common.Given as goal

abbrev pub invariant-loop-i : goal.invariant-loop-i
invariant-loop-i l = l.best < length l.clause
