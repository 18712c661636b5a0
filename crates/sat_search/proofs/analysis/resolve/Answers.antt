use Rattle.std.proofs.Common.{ℕ, ◌≡◌, ◌<◌, ◌/◌, List, length, arith, subst, sym, ◌∙◌, set, false, Bool, refl}
use Rattle.sat_clause.specs.Propagation.{clause_at}
use Rattle.sat_engine.specs.declared.trail.Reason.{Reason}
use Rattle.sat_engine.specs.declared.trail.Reason.TheVariants.{Free, Assumed, Clause}
use Rattle.sat_engine.specs.declared.trail.SetLiteral.{SetLiteral}
use Rattle.sat_engine.specs.Trail.{lit_at, reason_at}
use Rattle.sat_engine.specs.Grow.{IsImplied}
use Rattle.sat_search.specs.Mark.{IsMarkedAt}
use Rattle.std.proofs.lemmas.List.{length-set}
use Rattle.sat_engine.specs.Look.{InRange}
use Rattle.sat_search.specs.Analysis.{IsSite}
use Rattle.sat_search.proofs.StepReads.{lit_read, reason_read, MarkedAll-at}
use Rattle.sat_search.proofs.Analyses.{IsMarked-resolve, IsMarked-lower, IsMarkedAt-other}
use Rattle.sat_search.proofs.analysis.resolve.Goals as goal

pub bounds-marks-step : goal.bounds-marks-step
bounds-marks-step c =
    let t = c.args.trail.now in
    let a = (c.requires.site.trail.on c.args.at c.requires.at).0 in
    let e = lit_read t.steps.items c.args.at c.index-step.result.now c.requires.at c.index-step.ensures in
    omega (arith, a, e, c.requires.marked.room)

pub unreachable-requires-in-None : goal.unreachable-requires-in-None
unreachable-requires-in-None c =
    let t = c.args.trail.now in
    let F : List (List ℕ) = c.args.store.now in
    let steps : List SetLiteral = t.steps.items in
    let e : c.index-step.result.now.lit ≡ lit_at steps c.args.at = lit_read steps c.args.at c.index-step.result.now c.requires.at c.index-step.ensures in
    let w : IsMarkedAt steps (set c.args.marks.now (lit_at steps c.args.at / 2) false) c.args.witness = IsMarkedAt-other F steps t.truth.items t.place.items c.args.start c.args.floor c.requires.site c.args.witness c.args.at c.args.marks.now (omega arith) c.requires.at (omega arith) c.requires.witness.2 in
    let v = subst (λ (x : ℕ). IsMarkedAt steps (set c.args.marks.now (x / 2) false) c.args.witness) (sym e) w in
    c.in-None.ensures c.args.witness (omega arith) c.requires.witness.1 (c.in_ok-mark_all-in-Clause.ensures.kept (lit_at steps c.args.witness / 2) v)

pub returns : goal.returns
returns c =
    let t = c.args.trail.now in
    let F : List (List ℕ) = c.args.store.now in
    let steps : List SetLiteral = t.steps.items in
    let e : c.index-step.result.now.lit ≡ lit_at steps c.args.at = lit_read steps c.args.at c.index-step.result.now c.requires.at c.index-step.ensures in
    let r : IsImplied F steps c.args.at (Clause c.in-Clause.n) = subst (λ (x : Reason). IsImplied F steps c.args.at x) (sym (reason_read steps c.args.at c.index-step.result.now c.requires.at c.index-step.ensures) ∙ c.in-Clause.is) (c.requires.site.implied c.args.at (omega arith) c.requires.at) in
    let m = MarkedAll-at c.get.result.now (clause_at F c.in-Clause.n) c.deref.result.now t.place.items c.args.start c.args.floor c.index-step.result.now.lit (lit_at steps c.args.at) c.args.marks.now c.mark_all.new.marks c.args.low.now.items c.mark_all.new.low.items c.get.ensures c.deref.ensures.value e c.in_ok-mark_all-in-Clause.ensures in
    let resolved = IsMarked-resolve F steps t.truth.items t.place.items c.args.start c.args.floor c.requires.site c.args.at c.in-Clause.n c.args.marks.now c.mark_all.new.marks c.args.low.now.items c.mark_all.new.low.items c.requires.at (omega arith) r c.requires.marked m in
    let w : IsMarkedAt steps (set c.args.marks.now (lit_at steps c.args.at / 2) false) c.args.witness = IsMarkedAt-other F steps t.truth.items t.place.items c.args.start c.args.floor c.requires.site c.args.witness c.args.at c.args.marks.now (omega arith) c.requires.at (omega arith) c.requires.witness.2 in (
      IsMarked-lower F steps t.truth.items t.place.items c.args.start c.args.floor c.requires.site c.args.at c.in-Some.to c.mark_all.new.marks c.mark_all.new.low.items resolved c.in-Some.ensures.3 (omega arith),
      c.in-Some.ensures.0,
      c.in-Some.ensures.1,
      c.in-Some.ensures.2,
      m.kept (lit_at steps c.args.witness / 2) w,
    )

-- the reason of what is resolved is a clause
implied_at : (F : List (List ℕ)) (steps : List SetLiteral) (truth : List Bool) (place : List ℕ) (start floor at : ℕ) (r : Reason) → IsSite F steps truth place start floor → floor < at → at < length steps → reason_at steps at ≡ r → IsImplied F steps at r
implied_at F steps truth place start floor at r site above within e = subst (λ (x : Reason). IsImplied F steps at x) e (site.implied at above within)

never : (F : List (List ℕ)) (steps : List SetLiteral) (at : ℕ) (r : Reason) → IsImplied F steps at r → ((n : ℕ) → r ≡ Clause n → ⊥) → ⊥
never F steps at Free h off = h
never F steps at Assumed h off = h
never F steps at (Clause n) h off = off n refl

pub get-requires : goal.get-requires
get-requires c =
    let t = c.args.trail.now in
    (implied_at c.args.store.now t.steps.items t.truth.items t.place.items c.args.start c.args.floor c.args.at (Clause c.in-Clause.n) c.requires.site (omega (arith, c.requires.witness)) c.requires.at
    (sym (reason_read t.steps.items c.args.at c.index-step.result.now c.requires.at c.index-step.ensures) ∙ c.in-Clause.is)).0

pub mark_all-requires-clause-room : goal.mark_all-requires-clause-room
mark_all-requires-clause-room c = λ k lt.
    let t = c.args.trail.now in
    let F : List (List ℕ) = c.args.store.now in
    let r = implied_at F t.steps.items t.truth.items t.place.items c.args.start c.args.floor c.args.at (Clause c.in-Clause.n) c.requires.site (omega (arith, c.requires.witness)) c.requires.at
    (sym (reason_read t.steps.items c.args.at c.index-step.result.now c.requires.at c.index-step.ensures) ∙ c.in-Clause.is) in
    let range : InRange c.get.result.now (length t.truth.items) = subst (λ (x : List ℕ). InRange x (length t.truth.items)) (sym c.get.ensures) (c.requires.site.range c.in-Clause.n r.0) in
    let b = range k lt in
    omega (arith, b, c.requires.marked.room, length-set c.args.marks.now (c.index-step.result.now.lit / 2) false)

pub unreachable-requires : goal.unreachable-requires
unreachable-requires c =
    let t = c.args.trail.now in
    let r = implied_at c.args.store.now t.steps.items t.truth.items t.place.items c.args.start c.args.floor c.args.at c.index-step.result.now.reason c.requires.site (omega (arith, c.requires.witness)) c.requires.at
    (sym (reason_read t.steps.items c.args.at c.index-step.result.now c.requires.at c.index-step.ensures)) in
    never c.args.store.now t.steps.items c.args.at c.index-step.result.now.reason r c.in_default.not-Clause
