use Rattle.std.proofs.Common.{◌∙◌, arith}
use Rattle.sat_engine.proofs.Trails.{IsTrail-length}
use Rattle.sat_engine.proofs.Growing.{Grows-trans}
use Rattle.proof_checker.proofs.tiers.Tiers.seek.Goals as goal

pub returns-in_err-found-clause-grows : goal.returns-in_err-found-clause-grows
returns-in_err-found-clause-grows c = Grows-trans c.args.store.now _ _ _ c.rounds.invariant.grows c.propagate.ensures.grows

pub returns-then-is_some-clause-grows : goal.returns-then-is_some-clause-grows
returns-then-is_some-clause-grows c = Grows-trans c.args.store.now _ _ _ c.rounds.invariant.grows c.propagate.ensures.grows

pub returns-in_err-found-2-clause-grows : goal.returns-in_err-found-2-clause-grows
returns-in_err-found-2-clause-grows c =
    Grows-trans c.args.store.now _ _ _ c.rounds.invariant.grows (Grows-trans c.args.store.now _ _ _ c.propagate.ensures.grows c.propagate_later.ensures.grows)

pub returns-then-is_some-2-clause-grows : goal.returns-then-is_some-2-clause-grows
returns-then-is_some-2-clause-grows c =
    Grows-trans c.args.store.now _ _ _ c.rounds.invariant.grows (Grows-trans c.args.store.now _ _ _ c.propagate.ensures.grows c.propagate_later.ensures.grows)

pub rounds-smaller : goal.rounds-smaller
rounds-smaller c =
    let n = c.propagate_later.new.trail in
    omega (arith, c.propagate.ensures.size, c.propagate_later.ensures.size, c.propagate.ensures.grows.longer, c.propagate_later.ensures.grows.longer, c.len-settled.ensures, c.len.ensures, c.if-len-settled.false, IsTrail-length n.steps.items n.truth.items n.place.items n.ok, n.ok.even)

pub rounds-preserved : goal.rounds-preserved
rounds-preserved c = record {
  grows = Grows-trans c.args.store.now _ _ _ c.rounds.invariant.grows (Grows-trans c.args.store.now _ _ _ c.propagate.ensures.grows c.propagate_later.ensures.grows);
  size = c.propagate_later.ensures.size ∙ c.propagate.ensures.size ∙ c.rounds.invariant.size;
}
