use Rattle.std.proofs.Common.{◌∙◌}
use Rattle.sat_engine.proofs.Growing.{Grows-trans}
use Rattle.sat_engine.proofs.propagation.propagate.Goals as goal

pub returns-in_err-found-clause-grows : goal.returns-in_err-found-clause-grows
returns-in_err-found-clause-grows c = Grows-trans c.args.store.now _ _ _ c.loop-head.invariant.grows c.visit.ensures.grows

pub returns-then-is_some-clause-grows : goal.returns-then-is_some-clause-grows
returns-then-is_some-clause-grows c = Grows-trans c.args.store.now _ _ _ c.loop-head.invariant.grows c.visit.ensures.grows

pub loop-head-preserved : goal.loop-head-preserved
loop-head-preserved c = record {
  grows = Grows-trans c.args.store.now _ _ _ c.loop-head.invariant.grows c.visit.ensures.grows;
  size = c.visit.ensures.size ∙ c.loop-head.invariant.size;
}
