use Rattle.sat_engine.proofs.Growing.{Grows-imply}
use Rattle.sat_engine.proofs.propagation.imply.Goals as goal

pub returns-clause-grows : goal.returns-clause-grows
returns-clause-grows c =
    let t = c.args.trail.now in
    Grows-imply c.args.store.now t.steps.items c.push.new.self.steps.items t.truth.items t.place.items c.args.lit c.args.clause t.ok c.requires.clause c.requires.literal c.requires.others c.in_ok-push.ensures.ok
