use Rattle.std.proofs.Common.{ℕ, ◌<◌, List, [], Option, IfSome, length, refl, subst, ◌∙◌}
use Rattle.sat_clause.specs.Propagation.{clause_at}
use Rattle.sat_engine.specs.Grow.{Grows}
use Rattle.sat_engine.specs.Look.{AreFalse}
use Rattle.sat_engine.proofs.Growing.{Grows-trans, Grows-imply}
use Rattle.proof_checker.proofs.Bases.{IsBase-grow, Conflict-false}
use Rattle.proof_checker.proofs.Ready.{IsReady-grown}
use Rattle.proof_checker.proofs.parts.settle.Goals as goal

pub returns-in-None-clause-ready : goal.returns-in-None-clause-ready
returns-in-None-clause-ready c =
    let p = c.args.parts.now in
    let t = p.trail in
    let F : List (List ℕ) = p.store in
    let n = c.push.new.self in
    let g : Grows F t.steps.items c.propagate.new.trail.steps.items =
    Grows-trans F _ _ _ (Grows-imply F t.steps.items n.steps.items t.truth.items t.place.items c.args.lit c.args.clause t.ok c.requires.clause c.requires.literal c.requires.others c.in_ok-push.ensures.ok) c.propagate.ensures.grows in
    IsReady-grown p _ refl g (c.propagate.ensures.size ∙ c.push.ensures.size) c.requires.ready.refuted c.requires.ready

pub returns-in-Some-clause-ready : goal.returns-in-Some-clause-ready
returns-in-Some-clause-ready c =
    let p = c.args.parts.now in
    let t = p.trail in
    let F : List (List ℕ) = p.store in
    let n = c.push.new.self in
    let m = c.propagate.new.trail in
    let g : Grows F t.steps.items m.steps.items =
    Grows-trans F _ _ _ (Grows-imply F t.steps.items n.steps.items t.truth.items t.place.items c.args.lit c.args.clause t.ok c.requires.clause c.requires.literal c.requires.others c.in_ok-push.ensures.ok) c.propagate.ensures.grows in
    let i : ℕ = c.in-Some.field-0 in
    let h : (i < length F) × AreFalse (clause_at F i) m.truth.items =
    subst (λ (o : Option ℕ). IfSome o (λ k. (k < length F) × AreFalse (clause_at F k) m.truth.items)) c.in-Some.is c.in_ok-propagate.ensures.conflict in
    let base = IsBase-grow F [] t.steps.items m.steps.items g c.requires.ready.base in
    IsReady-grown p _ refl g (c.propagate.ensures.size ∙ c.push.ensures.size) (λ _. Conflict-false F [] m.steps.items m.truth.items m.place.items i m.ok base h.0 h.1) c.requires.ready
