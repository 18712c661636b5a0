use Rattle.std.proofs.Common.{ℕ, ◌≡◌, ◌<◌, ◌+◌, ◌/◌, List, length, get_or, take, subst, sym, ap, ◌∙◌, arith}
use Rattle.std.proofs.lemmas.List.{length-take-le}
use Rattle.sat_clause.specs.Literals.{complement_of}
use Rattle.sat_clause.proofs.Truths.{complement_variable}
use Rattle.sat_engine.specs.declared.trail.SetLiteral.{SetLiteral}
use Rattle.sat_engine.specs.Look.{AreInRange, InRange}
use Rattle.sat_engine.specs.Trail.{IsTrail}
use Rattle.sat_search.specs.Repair.{IsBack}
use Rattle.sat_search.proofs.Repairs.{site_at, set_kept, learnt_range, learnt_low, IsJump-from}
use Rattle.sat_search.proofs.repair.learn.Goals as goal

pub analyze-requires-clause-site : goal.analyze-requires-clause-site
analyze-requires-clause-site c =
    let t = c.args.trail.now in
    let m = c.rewind.new.trail in
    let e = c.next_choice-end.ensures in
    let range : AreInRange c.args.store.now (length m.truth.items) = subst (λ (x : ℕ). AreInRange c.args.store.now x) (sym c.rewind.ensures.size) c.requires.range in
    site_at c.args.store.now c.args.assumed.now t.steps.items m.steps.items m.truth.items t.place.items c.args.start c.args.conflict c.next_choice-end.result c.args.spot m.place.items m.ok range c.requires.state c.requires.spot c.rewind.ensures.steps e.within (omega (arith, e.above)) e.none

pub analyze-requires-clause-is_false : goal.analyze-requires-clause-is_false
analyze-requires-clause-is_false c = λ k w.
    let t = c.args.trail.now in
    let m = c.rewind.new.trail in
    let e = c.next_choice-end.ensures in
    let p = c.requires.spot.until k w in
    let u : IsTrail (take c.next_choice-end.result t.steps.items) m.truth.items t.place.items = subst (λ (x : List SetLiteral). IsTrail x m.truth.items t.place.items) c.rewind.ensures.steps (subst (λ (x : List ℕ). IsTrail m.steps.items m.truth.items x) c.rewind.ensures.place m.ok) in
    set_kept t.steps.items t.truth.items m.truth.items t.place.items c.next_choice-end.result (complement_of k) t.ok u e.within (c.requires.is_false k w)
    (subst (λ (x : ℕ). get_or t.place.items x 0 < c.next_choice-end.result) (sym (complement_variable k)) (omega (arith, p, e.above)))

pub backjump-requires-clause-range : goal.backjump-requires-clause-range
backjump-requires-clause-range c =
    let m = c.rewind.new.trail in
    subst (λ (x : List ℕ). InRange x (length m.truth.items)) (sym c.deref.ensures.value)
    (learnt_range c.args.store.now m.steps.items m.truth.items m.place.items c.args.spot.floor c.in_ok-clause.clause.items m.ok c.in_ok-clause.ensures.learnt)

pub backjump-requires-clause-low : goal.backjump-requires-clause-low
backjump-requires-clause-low c =
    let t = c.args.trail.now in
    let m = c.rewind.new.trail in
    let e = c.next_choice-end.ensures in
    let len : length m.steps.items ≡ c.next_choice-end.result = ap length c.rewind.ensures.steps ∙ length-take-le c.next_choice-end.result t.steps.items e.within in
    let sp = c.requires.spot in
    subst (λ (x : List ℕ). (k : ℕ) → k + 1 < length x → get_or m.place.items (get_or x k 0 / 2) 0 < length m.steps.items) (sym c.deref.ensures.value)
    (λ k lt. let p = learnt_low c.args.store.now m.truth.items m.place.items c.args.spot.floor c.in_ok-clause.clause.items c.in_ok-clause.ensures.learnt k lt in omega (arith, p, len, sp.floor, e.above))

pub returns-clause-jump : goal.returns-clause-jump
returns-clause-jump c =
    let t = c.args.trail.now in
    let m = c.rewind.new.trail in
    let b = c.backjump.new.trail in
    let e = c.next_choice-end.ensures in
    let sp = c.requires.spot in
    let u : IsTrail b.steps.items b.truth.items m.place.items = subst (λ (x : List ℕ). IsTrail b.steps.items b.truth.items x) c.backjump.ensures.place b.ok in
    IsJump-from c.args.store.now t.steps.items m.steps.items b.steps.items m.truth.items b.truth.items m.place.items c.args.start c.args.spot.floor c.next_choice-end.result c.backjump.result c.in_ok-clause.clause.items m.ok u c.rewind.ensures.steps e.within (omega (arith, sp.floor, e.above)) sp.start_le sp.choice
    c.in_ok-clause.ensures.learnt (subst (λ (x : List ℕ). IsBack m.steps.items m.place.items c.args.start x c.backjump.result) c.deref.ensures.value c.backjump.ensures.back) c.backjump.ensures.steps c.backjump.ensures.size
