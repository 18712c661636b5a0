use Rattle.std.proofs.Common.{ℕ, ◌≡◌, ◌<◌, List, [], Bool, true, length, refl, sym, ap, subst, ◌∙◌, arith, Ok}
use Rattle.std.specs.List.{Contains}
use Rattle.std.proofs.lemmas.List.{get_or_default}
use Rattle.sat_clause.specs.Propagation.{clause_at}
use Rattle.sat_engine.specs.Look.{InRange, AreFalse, AreFalseBut}
use Rattle.sat_search.specs.declared.parts.Parts.{Parts}
use Rattle.sat_search.specs.State.{IsState}
use Rattle.sat_core.specs.Finding.{IsIdle, IsKept}
use Rattle.sat_core.proofs.Idle.{IsState-settled, IsIdle-from, Conflict-idle}
use Rattle.sat_core.proofs.setup.settle.Goals as goal

pub imply-requires-clause-others : goal.imply-requires-clause-others
imply-requires-clause-others c =
    let p = c.args.parts.now in
    let F : List (List ℕ) = p.store in
    let said : Contains c.args.clause.now c.in-Open.lit × AreFalseBut c.args.clause.now p.trail.truth.items c.in-Open.lit = subst (λ (x : List Bool). Contains c.args.clause.now c.in-Open.lit × AreFalseBut c.args.clause.now x c.in-Open.lit) c.deref-2.ensures.value c.in-Unit.ensures in
    subst (λ (x : List ℕ). AreFalseBut x p.trail.truth.items c.in-Open.lit) c.requires.clause said.1

pub imply-requires-clause-range : goal.imply-requires-clause-range
imply-requires-clause-range c =
    let p = c.args.parts.now in
    let w = c.in-Open.ensures.0 in
    let range : InRange c.args.clause.now (length p.trail.truth.items) = subst (λ (x : List ℕ). InRange x (length p.trail.truth.items)) (sym c.requires.clause) (c.requires.idle.ready.range c.args.number c.requires.number) in
    subst (λ (x : ℕ). x < length p.trail.truth.items) (get_or_default c.args.clause.now w.0 0 c.in-Open.lit w.1 ∙ w.2) (range w.0 w.1)

-- the parts with what was implied
kept : (p q : Parts) (refuted : Bool) (n : ℕ) → IsIdle q → (refuted ≡ true → AreFalse (clause_at q.store n) q.trail.truth.items) → n < length q.store → IsKept q refuted
kept p q refuted n h no_good lt = (λ e. Conflict-idle q n h lt (no_good e), λ e. h)

pub returns-in_ok-refuted-in-Unit-clause-kept : goal.returns-in_ok-refuted-in-Unit-clause-kept
returns-in_ok-refuted-in-Unit-clause-kept c =
    let p = c.args.parts.now in
    let r = c.requires.idle.ready in
    let t = c.imply.new.trail in
    let F : List (List ℕ) = p.store in
    let start : c.len-parts.result ≡ length t.steps.items = omega (arith, c.len-parts.ensures) in
    let settled : IsState F [] t.steps.items c.len-parts.result = subst (λ (n : ℕ). IsState F [] t.steps.items n) (sym start) (IsState-settled F p.trail.steps.items t.steps.items p.start r.state c.requires.idle.idle c.imply.ensures.grows) in
    let idle = IsIdle-from p _ [] r settled c.imply.ensures.size r.range r.few r.indexed refl refl r.unset refl r.clean (sym start) in
    kept p _ c.in_ok-refuted-in-Unit.refuted c.args.number idle (λ e. c.imply.ensures.conflict (c.in_ok-refuted-in-Unit.was ∙ ap Ok e)) c.requires.number
