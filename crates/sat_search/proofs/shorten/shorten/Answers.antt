use Rattle.std.proofs.Common.{ℕ, ◌*◌, ◌/◌, ◌<◌, List, Bool, length, get_or, sym, subst, arith}
use Rattle.std.proofs.lemmas.List.Elements.{Contains-get_or}
use Rattle.sat_clause.specs.Literals.{complement_of}
use Rattle.sat_clause.proofs.Truths.{complement_variable}
use Rattle.sat_engine.specs.declared.trail.SetLiteral.{SetLiteral}
use Rattle.sat_engine.specs.Trail.{IsSet, IsTrail}
use Rattle.sat_engine.specs.Look.{InRange}
use Rattle.sat_search.specs.Analysis.{IsMarked}
use Rattle.sat_search.proofs.Analyses.{IsMarked-listed}
use Rattle.sat_search.proofs.shorten.shorten.Goals as goal

-- the listed literals are in range of the marks
low_range : (F : List (List ℕ)) (steps : List SetLiteral) (truth : List Bool) (place : List ℕ) (floor top : ℕ) (marks : List Bool) (low : List ℕ) → IsTrail steps truth place → IsMarked F truth place floor top marks low → InRange low (2 * length marks)
low_range F steps truth place floor top marks low t m k lt =
    let l : ℕ = get_or low k 0 in
    let s : IsSet truth (complement_of l) = m.low_false l (Contains-get_or low k 0 lt) in
    let f = t.found (complement_of l) s in
    let on : complement_of l < length truth = subst (λ (x : ℕ). x < length truth) f.1 (t.on (get_or place (complement_of l / 2) 0) f.0).0 in
    let half = complement_variable l in
    omega (arith, on, t.even, half, m.room)

pub still_marked-requires : goal.still_marked-requires
still_marked-requires c =
    let t = c.args.trail.now in
    let marks : List Bool = c.unmark_redundant.new.marks in
    let range = low_range c.args.store.now t.steps.items t.truth.items t.place.items c.args.floor c.args._top marks c.deref-2.result.now t.ok c.unmark_redundant.ensures.marked in
    subst (λ (x : List ℕ). InRange x (2 * length marks)) (sym c.deref-3.ensures.value) (subst (λ (x : List ℕ). InRange x (2 * length marks)) c.deref-2.ensures.value range)

pub returns-clause-marked : goal.returns-clause-marked
returns-clause-marked c =
    let t = c.args.trail.now in
    let F : List (List ℕ) = c.args.store.now in
    let marks : List Bool = c.unmark_redundant.new.marks in
    let m = subst (λ (x : List ℕ). IsMarked F t.truth.items t.place.items c.args.floor c.args._top marks x) c.deref-2.ensures.value c.unmark_redundant.ensures.marked in
    let n = subst (λ (x : List ℕ). IsMarked F t.truth.items t.place.items c.args.floor c.args._top marks x) (sym c.deref-3.ensures.value) m in
    IsMarked-listed F t.truth.items t.place.items c.args.floor c.args._top marks c.deref-3.result.now c.in_ok-kept.kept.items n c.in_ok-kept.ensures.only c.in_ok-kept.ensures.all
