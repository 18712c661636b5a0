use Rattle.sat_search.proofs.Repairs.{IsBack-from}
use Rattle.sat_search.proofs.repair.backjump.Goals as goal

pub returns-clause-back : goal.returns-clause-back
returns-clause-back c =
    let t = c.args.trail.now in
    let n = c.next_choice-to.ensures in
    IsBack-from t.steps.items c.deref.result.now t.place.items c.args.start c.args.clause.now c.last_place-last.result c.from_last.result c.next_choice-to.result c.requires.some c.requires.start c.deref.ensures.value
    c.last_place-last.ensures c.from_last.ensures n.above n.within n.none n.choice
