use Rattle.std.proofs.Common.{ℕ, ◌≡◌, ◌*◌, ◌<◌, ◌≤◌, List, Bool, length, get_or, refl, sym, ap, ◌∙◌, arith}
use Rattle.sat_clause.specs.Propagation.{clause_at}
use Rattle.sat_engine.specs.declared.trail.Reason.TheVariants.{Clause}
use Rattle.sat_engine.specs.declared.trail.SetLiteral.{SetLiteral}
use Rattle.sat_engine.specs.Grow.{IsImplied}
use Rattle.sat_engine.specs.Look.{InRange, AreInRange}
use Rattle.sat_engine.specs.Trail.{lit_at}
use Rattle.sat_search.specs.Analysis.{IsSite}
use Rattle.sat_search.proofs.StepReads.{lit_read, reason_read, AreCovered-at}
use Rattle.sat_search.proofs.shorten.is_redundant.Goals as goal

-- the reason of a literal, as it is read
implied_by : (F : List (List ℕ)) (steps : List SetLiteral) (truth : List Bool) (place : List ℕ) (start floor n at : ℕ) (x : SetLiteral) → IsSite F steps truth place start floor → at < length steps → x ≡ get_or steps at x → x.reason ≡ Clause n → IsImplied F steps at (Clause n)
implied_by F steps truth place start floor n at x site lt e r = site.reasons at n lt (sym (reason_read steps at x lt e) ∙ r)

-- a clause's literals are in range of what is as long as the truths
in_range_of : (F : List (List ℕ)) (n size most : ℕ) → AreInRange F size → n < length F → size ≤ most → InRange (clause_at F n) most
in_range_of F n size most range lt le k h = let r : get_or (clause_at F n) k 0 < size = range n lt k h in omega arith

pub are_covered_in-requires-clause-number : goal.are_covered_in-requires-clause-number
are_covered_in-requires-clause-number c =
    let t = c.args.trail.now in
    (implied_by c.args.store.now t.steps.items t.truth.items t.place.items c.args.start c.args._floor c.in-Clause.n c.args.at c.index-step.result.now c.requires.site c.requires.at c.index-step.ensures c.in-Clause.is).0

pub are_covered_in-requires-clause-range : goal.are_covered_in-requires-clause-range
are_covered_in-requires-clause-range c =
    let t = c.args.trail.now in
    let F : List (List ℕ) = c.args.store.now in
    let r = implied_by F t.steps.items t.truth.items t.place.items c.args.start c.args._floor c.in-Clause.n c.args.at c.index-step.result.now c.requires.site c.requires.at c.index-step.ensures c.in-Clause.is in
    let wide = c.requires.site.trail.wide in
    in_range_of F c.in-Clause.n (length t.truth.items) (2 * length c.deref.result.now) c.requires.site.range r.0 (omega (arith, wide, ap length c.deref.ensures.value))

pub are_covered_in-requires-clause-room : goal.are_covered_in-requires-clause-room
are_covered_in-requires-clause-room c =
    let t = c.args.trail.now in
    let F : List (List ℕ) = c.args.store.now in
    let r = implied_by F t.steps.items t.truth.items t.place.items c.args.start c.args._floor c.in-Clause.n c.args.at c.index-step.result.now c.requires.site c.requires.at c.index-step.ensures c.in-Clause.is in
    in_range_of F c.in-Clause.n (length t.truth.items) (2 * length c.args.marks.now) c.requires.site.range r.0 c.requires.room

pub returns-in-Clause : goal.returns-in-Clause
returns-in-Clause c = λ yes.
    let t = c.args.trail.now in
    let F : List (List ℕ) = c.args.store.now in
    let step = c.index-step.result.now in
    let implied = implied_by F t.steps.items t.truth.items t.place.items c.args.start c.args._floor c.in-Clause.n c.args.at step c.requires.site c.requires.at c.index-step.ensures c.in-Clause.is in
    let is : step.lit ≡ lit_at t.steps.items c.args.at = lit_read t.steps.items c.args.at step c.requires.at c.index-step.ensures in
    (c.in-Clause.n, implied, AreCovered-at (clause_at F c.in-Clause.n) (clause_at F c.in-Clause.n) c.deref.result.now t.place.items c.args.start step.lit (lit_at t.steps.items c.args.at) c.args.marks.now refl c.deref.ensures.value is (c.are_covered_in.ensures yes))
