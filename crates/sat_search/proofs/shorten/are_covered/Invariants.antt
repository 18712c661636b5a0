use Rattle.sat_search.specs.Analysis.{AreCovered}
use Rattle.sat_search.proofs.shorten.are_covered.Given as goal

abbrev pub invariant-loop-lit : goal.invariant-loop-lit
invariant-loop-lit l = AreCovered l.clause l.lit-index l.place l.start l.marks l.skip
