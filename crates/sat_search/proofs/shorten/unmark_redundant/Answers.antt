use Rattle.std.proofs.Common.{ℕ, ◌≡◌, ◌-◌, ◌/◌, ◌<◌, List, Bool, length, get_or, set, false, sym, subst, arith}
use Rattle.sat_engine.specs.declared.trail.SetLiteral.{SetLiteral}
use Rattle.sat_engine.specs.Trail.{lit_at}
use Rattle.sat_search.specs.Analysis.{IsMarked}
use Rattle.sat_search.proofs.StepReads.{lit_read}
use Rattle.sat_search.proofs.Analyses.{IsMarked-drop, was_set}
use Rattle.sat_search.proofs.shorten.unmark_redundant.Goals as goal

pub loop-left-preserved-then-is_redundant : goal.loop-left-preserved-then-is_redundant
loop-left-preserved-then-is_redundant c =
    let t = c.args.trail.now in
    let F : List (List ℕ) = c.args.store.now in
    let steps : List SetLiteral = t.steps.items in
    let marks : List Bool = c.loop-left.marks in
    let at : ℕ = get_or c.args.places.now (c.loop-left.left - 1) 0 in
    let lt : at < length steps = omega arith in
    let lit : ℕ = c.index.result.now.lit in
    let e : lit ≡ lit_at steps at = lit_read steps at c.index.result.now lt c.index.ensures in
    let m = IsMarked-drop F steps t.truth.items t.place.items c.args.start c.args.floor c.requires.site c.args._top at marks c.args._low.now c.loop-left.invariant.marked lt (c.is_redundant.ensures c.if-is_redundant.true) in
    record {
      within = omega (arith, c.loop-left.invariant.within);
      marked = subst (λ (x : ℕ). IsMarked F t.truth.items t.place.items c.args.floor c.args._top (set marks (x / 2) false) c.args._low.now) (sym e) m;
      fewer = λ v h. c.loop-left.invariant.fewer v (was_set marks (lit / 2) v h);
    }
