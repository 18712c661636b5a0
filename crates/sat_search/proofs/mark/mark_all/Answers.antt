use Rattle.sat_search.proofs.Marks.{MarkedAll-skip, MarkedAll-more}
use Rattle.sat_search.proofs.mark.mark_all.Goals as goal

pub loop-m-preserved : goal.loop-m-preserved
loop-m-preserved c = MarkedAll-more c.args.clause.now c.loop-m.m-index c.args.place.now c.args.start c.args.floor c.args.skip c.args.marks.now c.loop-m.marks _ c.args.low.now.items c.loop-m.low.items _ c.loop-m.invariant c.if-m-skip.false c.in_ok-mark_one.ensures

pub loop-m-preserved-then-m-skip : goal.loop-m-preserved-then-m-skip
loop-m-preserved-then-m-skip c = MarkedAll-skip c.args.clause.now c.loop-m.m-index c.args.place.now c.args.start c.args.floor c.args.skip c.args.marks.now c.loop-m.marks c.args.low.now.items c.loop-m.low.items c.loop-m.invariant c.if-m-skip.true
