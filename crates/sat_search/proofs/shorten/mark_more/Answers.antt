use Rattle.std.proofs.Common.{ℕ, ◌≡◌, ◌/◌, ◌<◌, ◌++◌, inl, inr, List, [], ◌∷◌, Bool, length, get_or, set, true, sym, ap, subst, ◌∙◌, arith}
use Rattle.sat_clause.specs.Literals.{complement_of}
use Rattle.sat_engine.specs.declared.trail.SetLiteral.{SetLiteral}
use Rattle.sat_engine.specs.Trail.{lit_at}
use Rattle.sat_search.specs.Analysis.{IsMarked}
use Rattle.sat_search.proofs.Marks.{set-cases}
use Rattle.sat_search.proofs.StepReads.{lit_read}
use Rattle.sat_search.proofs.Analyses.{IsMarked-more}
use Rattle.sat_search.proofs.shorten.mark_more.Goals as goal

pub bounds-marks-lit : goal.bounds-marks-lit
bounds-marks-lit c =
    let t = c.args.trail.now in
    let at : ℕ = get_or c.args.places.now c.loop-at.at-index 0 in
    let lt : at < length t.steps.items = omega arith in
    let e = lit_read t.steps.items at c.index.result.now lt c.index.ensures in
    omega (arith, (t.ok.on at lt).0, e, c.loop-at.invariant.marked.room)

pub bounds-marks-lit-in-loop-at : goal.bounds-marks-lit-in-loop-at
bounds-marks-lit-in-loop-at c =
    let t = c.args.trail.now in
    let at : ℕ = get_or c.args.places.now c.loop-at.at-index 0 in
    let lt : at < length t.steps.items = omega arith in
    let e = lit_read t.steps.items at c.index.result.now lt c.index.ensures in
    omega (arith, (t.ok.on at lt).0, e, c.loop-at.invariant.marked.room)

pub loop-at-preserved : goal.loop-at-preserved
loop-at-preserved c =
    let t = c.args.trail.now in
    let F : List (List ℕ) = c.args._store.now in
    let steps : List SetLiteral = t.steps.items in
    let marks : List Bool = c.loop-at.marks in
    let low : List ℕ = c.loop-at.low.items in
    let at : ℕ = get_or c.args.places.now c.loop-at.at-index 0 in
    let lt : at < length steps = omega arith in
    let under : at < c.args.floor = omega arith in
    let lit : ℕ = c.index.result.now.lit in
    let e : lit ≡ lit_at steps at = lit_read steps at c.index.result.now lt c.index.ensures in
    let pushed : c.push.new.self.items ≡ low ++ complement_of (lit_at steps at) ∷ [] = c.in_ok-push.ensures.items ∙ ap (λ (x : ℕ). low ++ x ∷ []) (c.complement.ensures ∙ ap complement_of e) in
    let m = IsMarked-more F steps t.truth.items t.place.items c.args.floor c.args._top at marks low t.ok c.loop-at.invariant.marked lt under c.requires.floor in
    record {
      marked = subst (λ (x : ℕ). IsMarked F t.truth.items t.place.items c.args.floor c.args._top (set marks (x / 2) true) c.push.new.self.items) (sym e)
          (subst (λ (x : List ℕ). IsMarked F t.truth.items t.place.items c.args.floor c.args._top (set marks (lit_at steps at / 2) true) x) (sym pushed) m);
      above = λ i lo hi h. elim (set-cases marks (lit / 2) (lit_at steps i / 2) h) [
        | inl a ↦ c.loop-at.invariant.above i lo hi a
        | inr f ↦
            let same : i ≡ at = sym (t.ok.on i hi).2 ∙ ap (λ (x : ℕ). get_or t.place.items x 0) (sym f ∙ ap (λ (x : ℕ). x / 2) e) ∙ (t.ok.on at lt).2 in
            absurd (omega (arith, same, lo, under))
      ];
    }
