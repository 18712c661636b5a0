use Rattle.std.proofs.Common.{ℕ, List, refl, sym, subst}
use Rattle.sat_engine.specs.declared.trail.SetLiteral.{SetLiteral}
use Rattle.sat_search.specs.State.{IsState}
use Rattle.sat_search.proofs.States.{IsState-advance, IsState-cut}
use Rattle.sat_search.proofs.Flips.{IsReady-make}
use Rattle.sat_search.proofs.turn.restart.Goals as goal

pub returns-then-is_due-clause-ready : goal.returns-then-is_due-clause-ready
returns-then-is_due-clause-ready c =
    let p = c.args.parts.now in
    let A : List ℕ = c.args.assumed.now in
    let k : ℕ = c.next_choice-first.result in
    let n = c.next_choice-first.ensures in
    let s : IsState p.store A p.trail.steps.items k = IsState-advance p.store A p.trail.steps.items p.start k c.requires.ready.state n.within n.none in
    let t : IsState p.store A c.rewind.new.trail.steps.items k = subst (λ (x : List SetLiteral). IsState p.store A x k) (sym c.rewind.ensures.steps) (IsState-cut p.store A p.trail.steps.items k c.restart_from-to.result s c.restart_from-to.ensures.above c.restart_from-to.ensures.within) in
    IsReady-make A p _ c.requires.ready t c.rewind.ensures.size c.requires.ready.range c.requires.ready.few c.requires.ready.indexed refl refl c.requires.ready.unset refl c.requires.ready.clean

pub returns-else-is_due-clause-ready : goal.returns-else-is_due-clause-ready
returns-else-is_due-clause-ready c =
    let p = c.args.parts.now in
    let A : List ℕ = c.args.assumed.now in
    let k : ℕ = c.next_choice-first.result in
    let n = c.next_choice-first.ensures in
    let s : IsState p.store A p.trail.steps.items k = IsState-advance p.store A p.trail.steps.items p.start k c.requires.ready.state n.within n.none in
    IsReady-make A p _ c.requires.ready s refl c.requires.ready.range c.requires.ready.few c.requires.ready.indexed refl refl c.requires.ready.unset refl c.requires.ready.clean
