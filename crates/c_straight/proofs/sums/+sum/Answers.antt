use Rattle.std.proofs.Common.{sym, arith}
use Rattle.c_straight.proofs.SumSteps.{sum_none, sum_deeper}
use Rattle.c_straight.proofs.sums.+sum.Goals as goal

pub sum-returns-then-depth-eq0 : goal.sum-returns-then-depth-eq0
sum-returns-then-depth-eq0 t c = sym (sum_none c.args.depth c.args.x.now c.if-depth-eq0.true)

pub sum-returns : goal.sum-returns
sum-returns t c = rw (sum_deeper c.args.depth c.args.x.now (omega arith)) c.sum_by.ensures
