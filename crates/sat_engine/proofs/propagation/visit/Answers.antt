use Rattle.std.proofs.Common.{◌∙◌}
use Rattle.sat_engine.proofs.Growing.{Grows-trans}
use Rattle.sat_engine.proofs.propagation.visit.Goals as goal

pub returns-in_err-found-in-Left-clause-grows : goal.returns-in_err-found-in-Left-clause-grows
returns-in_err-found-in-Left-clause-grows c = Grows-trans c.args.store.now _ _ _ c.loop-i.invariant.grows c.infer.ensures.grows

pub returns-then-is_some-clause-grows : goal.returns-then-is_some-clause-grows
returns-then-is_some-clause-grows c = Grows-trans c.args.store.now _ _ _ c.loop-i.invariant.grows c.infer.ensures.grows

pub loop-i-preserved : goal.loop-i-preserved
loop-i-preserved c = record {
  grows = Grows-trans c.args.store.now _ _ _ c.loop-i.invariant.grows c.infer.ensures.grows;
  size = c.infer.ensures.size ∙ c.loop-i.invariant.size;
}
