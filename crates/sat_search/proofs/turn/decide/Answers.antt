use Rattle.std.proofs.Common.{ℕ, ◌≡◌, ◌++◌, ◌∷◌, [], ◌<◌, ◌⊎◌, List, Bool, length, subst, sym, refl, arith}
use Rattle.std.specs.List.{Contains}
use Rattle.std.proofs.lemmas.List.{get_or_default}
use Rattle.sat_clause.specs.Literals.{complement_of}
use Rattle.sat_clause.specs.Propagation.{clause_at}
use Rattle.sat_engine.specs.declared.trail.Reason.TheVariants.{Free, Assumed}
use Rattle.sat_engine.specs.declared.trail.SetLiteral.{SetLiteral}
use Rattle.sat_engine.specs.Trail.{IsSet, lit_at}
use Rattle.sat_engine.proofs.Trails.{lit_at-last}
use Rattle.sat_engine.proofs.Growing.{Before-set}
use Rattle.sat_search.specs.State.{IsState}
use Rattle.sat_search.specs.Turn.{HasTrue}
use Rattle.sat_search.proofs.States.{IsState-choose}
use Rattle.sat_search.proofs.Flips.{IsReady-make}
use Rattle.sat_search.proofs.Turns.{push_rank, refuted_by, false_where_full, on_read}
use Rattle.sat_search.proofs.turn.decide.Goals as goal

pub returns-then-index : goal.returns-then-index
returns-then-index c =
    let p = c.args.parts.now in
    let w = c.in-Some.ensures in
    let on : IsSet p.trail.truth.items (complement_of c.in-Some.a) = on_read p.trail.truth.items (complement_of c.in-Some.a) c.complement.result c.index.result.now (omega (arith, c.complement.ensures, c.requires.assumed w.0.0 w.0.1, get_or_default c.args.assumed.now w.0.0 0 c.in-Some.a w.0.1, w.0.2, p.trail.ok.even)) c.complement.ensures c.index.ensures c.if-index.true in
    (refl, IsReady-make c.args.assumed.now p _ c.requires.ready c.requires.ready.state refl c.requires.ready.range c.requires.ready.few c.requires.ready.indexed refl refl c.requires.ready.unset refl c.requires.ready.clean, refl, refuted_by p.store c.args.assumed.now p.trail.steps.items p.trail.truth.items p.trail.place.items p.start c.in-Some.a p.trail.ok c.requires.ready.state w.0 w.1 on)

pub returns-in-Some : goal.returns-in-Some
returns-in-Some c =
    let p = c.args.parts.now in
    let t = c.push.new.self in
    let A : List ℕ = c.args.assumed.now in
    let l : ℕ = c.in-Some.a in
    let s : SetLiteral = record { lit = l; reason = Assumed } in
    let e : t.steps.items ≡ p.trail.steps.items ++ s ∷ [] = c.in_ok-push-in-Some.ensures.ok in
    let why : Contains A (lit_at (p.trail.steps.items ++ s ∷ []) (length p.trail.steps.items)) = subst (λ (x : ℕ). Contains A x) (sym (lit_at-last p.trail.steps.items s)) c.in-Some.ensures.0 in
    let state : IsState p.store A t.steps.items p.start = subst (λ (x : List SetLiteral). IsState p.store A x p.start) (sym e) (IsState-choose p.store A p.trail.steps.items p.start l Assumed c.requires.ready.state why (λ f a w. let bad : Assumed ≡ Free = f in cc)) in
    let sz = c.in_ok-push-in-Some.ensures.size in (
      IsReady-make A p _ c.requires.ready state sz c.requires.ready.range c.requires.ready.few c.requires.ready.indexed refl refl c.requires.ready.unset refl c.requires.ready.clean,
      sz,
      refl,
      push_rank p.trail.steps.items t.steps.items s t.truth.items t.place.items (length p.trail.truth.items) e t.ok sz,
    )

pub returns-in-Some-choose : goal.returns-in-Some-choose
returns-in-Some-choose c =
    let p = c.args.parts.now in
    let t = c.push-in-Some-choose.new.self in
    let A : List ℕ = c.args.assumed.now in
    let l : ℕ = c.in-Some-choose.lit in
    let s : SetLiteral = record { lit = l; reason = Free } in
    let e : t.steps.items ≡ p.trail.steps.items ++ s ∷ [] = c.in_ok-push-in-Some-choose.ensures.ok in
    let all : (a : ℕ) → Contains A a → IsSet p.trail.truth.items a = c.in-None.ensures in
    let state : IsState p.store A t.steps.items p.start = subst (λ (x : List SetLiteral). IsState p.store A x p.start) (sym e) (IsState-choose p.store A p.trail.steps.items p.start l Free c.requires.ready.state tt (λ f a w. Before-set p.trail.steps.items p.trail.truth.items p.trail.place.items p.trail.ok a (all a w))) in
    let sz = c.in_ok-push-in-Some-choose.ensures.size in (
      IsReady-make A p _ c.requires.ready state sz c.requires.ready.range c.requires.ready.few c.requires.ready.indexed refl refl c.requires.ready.unset refl c.requires.ready.clean,
      sz,
      refl,
      push_rank p.trail.steps.items t.steps.items s t.truth.items t.place.items (length p.trail.truth.items) e t.ok sz,
    )

pub handle_conflict-requires-clause-is_false : goal.handle_conflict-requires-clause-is_false
handle_conflict-requires-clause-is_false c =
    let p = c.args.parts.now in
    let T : List Bool = p.trail.truth.items in
    let F : List (List ℕ) = p.store in
    let n : ℕ = c.in-Some-first_unmet.conflict in
    let full : (l : ℕ) → l < length T → IsSet T l ⊎ IsSet T (complement_of l) = c.in-None-choose.ensures in
    let none : (n < length F) × ((m : ℕ) → Contains (clause_at F n) m → IsSet T m → ⊥) = subst (λ (x : List Bool). (n < length F) × ((m : ℕ) → Contains (clause_at F n) m → IsSet x m → ⊥)) c.deref.ensures.value c.in-Some-first_unmet.ensures in
    false_where_full (clause_at F n) T (c.requires.ready.range n none.0) full none.1

pub returns-in-None-first_unmet : goal.returns-in-None-first_unmet
returns-in-None-first_unmet c =
    let p = c.args.parts.now in
    let T : List Bool = p.trail.truth.items in
    let F : List (List ℕ) = p.store in (
      refl,
      IsReady-make c.args.assumed.now p _ c.requires.ready c.requires.ready.state refl c.requires.ready.range c.requires.ready.few c.requires.ready.indexed refl refl c.requires.ready.unset refl c.requires.ready.clean,
      refl,
      subst (λ (x : List Bool). (i : ℕ) → i < length F → HasTrue (clause_at F i) x) c.deref.ensures.value c.in-None-first_unmet.ensures,
      c.in-None.ensures,
    )
