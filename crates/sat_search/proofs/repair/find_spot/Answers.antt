use Rattle.std.proofs.Common.{ℕ, List, Some, None, sym, ap, arith, ◌∙◌}
use Rattle.std.proofs.lemmas.Bool.{false≢true}
use Rattle.sat_clause.specs.Propagation.{clause_at}
use Rattle.sat_search.specs.State.{is_choice}
use Rattle.sat_search.proofs.StepReads.{reason_read}
use Rattle.sat_search.proofs.Repairs.{IsLastPlace-at, IsSpot-from, top_below, Conflict-empty, Conflict-no_choice, Conflict-assumed}
use Rattle.sat_search.proofs.repair.find_spot.Goals as goal

pub last_choice-requires : goal.last_choice-requires
last_choice-requires c =
    let t = c.args.trail.now in
    let F : List (List ℕ) = c.args.store.now in
    let h = IsLastPlace-at c.get.result.now (clause_at F c.args.conflict) c.deref.result.now t.place.items (Some c.in-Some.top) c.get.ensures c.deref.ensures.value c.in-Some.ensures in
    top_below F c.args.assumed.now t.steps.items t.truth.items t.place.items c.args.start c.args.conflict t.ok c.requires.state c.requires.conflict c.requires.is_false c.in-Some.top h

pub returns-in-None : goal.returns-in-None
returns-in-None c =
    let t = c.args.trail.now in
    let F : List (List ℕ) = c.args.store.now in
    let h = IsLastPlace-at c.get.result.now (clause_at F c.args.conflict) c.deref.result.now t.place.items None c.get.ensures c.deref.ensures.value c.in-None.ensures in
    Conflict-empty F c.args.assumed.now t.steps.items t.truth.items t.place.items c.args.start c.args.conflict t.ok c.requires.state c.requires.conflict c.requires.is_false h

pub returns-in-None-last_choice : goal.returns-in-None-last_choice
returns-in-None-last_choice c =
    let t = c.args.trail.now in
    let F : List (List ℕ) = c.args.store.now in
    let h = IsLastPlace-at c.get.result.now (clause_at F c.args.conflict) c.deref.result.now t.place.items (Some c.in-Some.top) c.get.ensures c.deref.ensures.value c.in-Some.ensures in
    Conflict-no_choice F c.args.assumed.now t.steps.items t.truth.items t.place.items c.args.start c.args.conflict t.ok c.requires.state c.requires.conflict c.requires.is_false c.in-Some.top h c.in-None-last_choice.ensures

pub returns-in-Free : goal.returns-in-Free
returns-in-Free c =
    let t = c.args.trail.now in
    let F : List (List ℕ) = c.args.store.now in
    let h = IsLastPlace-at c.get.result.now (clause_at F c.args.conflict) c.deref.result.now t.place.items (Some c.in-Some.top) c.get.ensures c.deref.ensures.value c.in-Some.ensures in
    IsSpot-from F c.args.assumed.now t.steps.items t.truth.items t.place.items c.args.start c.args.conflict t.ok c.requires.state c.requires.conflict c.requires.is_false c.in-Some.top c.in-Some-last_choice.floor h c.in-Some-last_choice.ensures

pub returns-in-Assumed : goal.returns-in-Assumed
returns-in-Assumed c =
    let t = c.args.trail.now in
    let F : List (List ℕ) = c.args.store.now in
    let h = IsLastPlace-at c.get.result.now (clause_at F c.args.conflict) c.deref.result.now t.place.items (Some c.in-Some.top) c.get.ensures c.deref.ensures.value c.in-Some.ensures in
    let k = c.in-Some-last_choice.ensures in
    let b = top_below F c.args.assumed.now t.steps.items t.truth.items t.place.items c.args.start c.args.conflict t.ok c.requires.state c.requires.conflict c.requires.is_false c.in-Some.top h in
    let e = sym (reason_read t.steps.items c.in-Some-last_choice.floor c.index.result.now (omega (arith, b, k.1)) c.index.ensures) ∙ c.in-Assumed.is in
    Conflict-assumed F c.args.assumed.now t.steps.items t.truth.items t.place.items c.args.start c.args.conflict t.ok c.requires.state c.requires.conflict c.requires.is_false c.in-Some.top c.in-Some-last_choice.floor h k.1 k.3 e

pub returns-in-Clause : goal.returns-in-Clause
returns-in-Clause c =
    let t = c.args.trail.now in
    let F : List (List ℕ) = c.args.store.now in
    let h = IsLastPlace-at c.get.result.now (clause_at F c.args.conflict) c.deref.result.now t.place.items (Some c.in-Some.top) c.get.ensures c.deref.ensures.value c.in-Some.ensures in
    let k = c.in-Some-last_choice.ensures in
    let b = top_below F c.args.assumed.now t.steps.items t.truth.items t.place.items c.args.start c.args.conflict t.ok c.requires.state c.requires.conflict c.requires.is_false c.in-Some.top h in
    let e = sym (reason_read t.steps.items c.in-Some-last_choice.floor c.index.result.now (omega (arith, b, k.1)) c.index.ensures) ∙ c.in-Clause.is in
    absurd (false≢true (sym (ap is_choice e) ∙ k.2))
