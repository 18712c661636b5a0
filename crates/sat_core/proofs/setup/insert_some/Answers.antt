use Rattle.std.proofs.Common.{ℕ, List, [], length, refl, sym, subst}
use Rattle.std.proofs.lemmas.Bool.{false≢true}
use Rattle.sat_engine.specs.Look.{AreInRange}
use Rattle.sat_search.specs.State.{IsState}
use Rattle.sat_search.proofs.States.{IsState-more}
use Rattle.sat_engine.proofs.Ranges.{AreInRange-push}
use Rattle.sat_core.proofs.Idle.{IsIdle-from}
use Rattle.sat_core.proofs.setup.insert_some.Goals as goal

pub settle-requires-clause-idle : goal.settle-requires-clause-idle
settle-requires-clause-idle c =
    let p = c.args.parts.now in
    let r = c.requires.idle.ready in
    let h = c.in_ok-number.ensures in
    let cl : List ℕ = c.args.clause.now in
    let state : IsState c.record_clause.new.store [] p.trail.steps.items p.start = subst (λ (x : List (List ℕ)). IsState x [] p.trail.steps.items p.start) (sym h.1) (IsState-more p.store cl [] p.trail.steps.items p.start r.state) in
    let range : AreInRange c.record_clause.new.store (length p.trail.truth.items) = subst (λ (x : List (List ℕ)). AreInRange x (length p.trail.truth.items)) (sym h.1) (AreInRange-push p.store cl (length p.trail.truth.items) r.range c.requires.range) in
    IsIdle-from p _ [] r state refl range h.4 h.2 h.3 refl r.unset refl r.clean c.requires.idle.idle

pub returns-then-is_some-clause-kept : goal.returns-then-is_some-clause-kept
returns-then-is_some-clause-kept c =
    let p = c.args.parts.now in
    let r = c.requires.idle.ready in
    let h = c.in_ok-number.ensures in
    let cl : List ℕ = c.args.clause.now in
    let state : IsState c.record_clause.new.store [] p.trail.steps.items p.start = subst (λ (x : List (List ℕ)). IsState x [] p.trail.steps.items p.start) (sym h.1) (IsState-more p.store cl [] p.trail.steps.items p.start r.state) in
    let range : AreInRange c.record_clause.new.store (length p.trail.truth.items) = subst (λ (x : List (List ℕ)). AreInRange x (length p.trail.truth.items)) (sym h.1) (AreInRange-push p.store cl (length p.trail.truth.items) r.range c.requires.range) in
    (λ e. absurd (false≢true e), λ e. IsIdle-from p _ [] r state refl range h.4 h.2 h.3 refl r.unset refl r.clean c.requires.idle.idle)
