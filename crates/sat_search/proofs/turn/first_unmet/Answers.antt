use Rattle.std.proofs.Common.{ℕ, List, subst, arith, below_more}
use Rattle.sat_clause.specs.Propagation.{clause_at}
use Rattle.sat_search.specs.Turn.{HasTrue}
use Rattle.sat_search.proofs.turn.first_unmet.Goals as goal

pub loop-i-preserved : goal.loop-i-preserved
loop-i-preserved c = (
  omega arith,
  below_more (λ (k : ℕ). HasTrue (clause_at c.args.store.now k) c.args.truth.now) _ c.loop-i.invariant.1
      (subst (λ (x : List ℕ). HasTrue x c.args.truth.now) c.get.ensures c.if-not-has_true.ensures),
)
