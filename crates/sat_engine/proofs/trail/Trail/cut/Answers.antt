use Rattle.std.proofs.Common.{List, subst}
use Rattle.sat_engine.specs.declared.trail.SetLiteral.{SetLiteral}
use Rattle.sat_engine.specs.Trail.{IsTrail}
use Rattle.sat_engine.proofs.Trails.{IsTrail-pop}
use Rattle.sat_engine.proofs.trail.Trail.cut.Goals as goal

pub invariant_of-self : goal.invariant_of-self
invariant_of-self c = record {
  ok =
      IsTrail-pop c.pop.new.self.items c.in-Some.step c.loop-self.self.truth.items c.loop-self.self.place.items
      (subst (λ (x : List SetLiteral). IsTrail x c.loop-self.self.truth.items c.loop-self.self.place.items) c.in-Some.ensures.items c.loop-self.self.ok);
}
