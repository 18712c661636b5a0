use Rattle.std.proofs.Common.{List, subst}
use Rattle.sat_engine.specs.declared.trail.SetLiteral.{SetLiteral}
use Rattle.sat_engine.specs.Trail.{IsTrail}
use Rattle.sat_engine.proofs.Trails.{IsTrail-pop}
use Rattle.sat_search.proofs.cuts.rewind.Goals as goal

pub invariant_of-trail : goal.invariant_of-trail
invariant_of-trail c = record {
  ok =
      IsTrail-pop c.pop.new.self.items c.in-Some.step c.loop-trail.trail.truth.items c.loop-trail.trail.place.items
      (subst (λ (x : List SetLiteral). IsTrail x c.loop-trail.trail.truth.items c.loop-trail.trail.place.items) c.in-Some.ensures.items c.loop-trail.trail.ok);
}
