use Rattle.sat_search.specs.Mark.{MarkedAll}
use Rattle.sat_search.proofs.mark.mark_all.Given as goal

abbrev pub invariant-loop-m : goal.invariant-loop-m
invariant-loop-m l = MarkedAll l.clause l.m-index l.place l.start l.floor l.skip l.initial.marks l.marks l.initial.low.items l.low.items
