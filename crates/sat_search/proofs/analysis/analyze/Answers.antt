use Rattle.std.proofs.Common.{ℕ, ◌≡◌, ◌*◌, ◌<◌, ◌≤◌, ◌++◌, ◌∷◌, [], List, Bool, Option, None, Some, length, arith, subst, sym, ap, ◌∙◌}
use Rattle.sat_clause.specs.Literals.{complement_of}
use Rattle.sat_clause.specs.Propagation.{clause_at}
use Rattle.std.specs.List.{Contains}
use Rattle.sat_engine.specs.declared.trail.SetLiteral.{SetLiteral}
use Rattle.sat_engine.specs.Trail.{lit_at}
use Rattle.sat_search.specs.Mark.{IsMarkedAt, IsNext, MarkedAll}
use Rattle.sat_search.specs.Analysis.{IsLearnt, IsWitness}
use Rattle.sat_engine.specs.Look.{InRange}
use Rattle.sat_search.proofs.Repairs.{learnt_range}
use Rattle.sat_search.proofs.StepReads.{lit_read, MarkedAll-in, IsWitness-next, IsNext-none, IsNext-fewer}
use Rattle.sat_search.proofs.Analyses.{IsMarked-start, IsLearnt-from, marked_in, top_marked}
use Rattle.sat_search.proofs.analysis.analyze.Goals as goal

pub loop-witness-init : goal.loop-witness-init
loop-witness-init c =
    let t = c.args.trail.now in
    let F : List (List ℕ) = c.args.store.now in
    let steps : List SetLiteral = t.steps.items in
    let cl : List ℕ = clause_at F c.args.conflict in
    let m1 = MarkedAll-in c.get.result.now cl c.deref.result.now t.place.items c.args.start c.args.floor c.index.result.now.lit c.args.marks.now c.mark_all.new.marks c.new-low.result.items c.mark_all.new.low.items [] c.get.ensures c.deref.ensures.value c.new-low.ensures.items c.in_ok-mark_all.ensures in
    let e : c.index.result.now.lit ≡ lit_at steps c.args.top = lit_read steps c.args.top c.index.result.now c.requires.top c.index.ensures in
    let m = subst (λ (x : ℕ). MarkedAll cl (length cl) t.place.items c.args.start c.args.floor x c.args.marks.now c.mark_all.new.marks [] c.mark_all.new.low.items) e m1 in
    record {
      marked = IsMarked-start F steps t.truth.items t.place.items c.args.start c.args.floor c.requires.site c.args.conflict (lit_at steps c.args.top) c.args.top c.args.marks.now c.mark_all.new.marks c.mark_all.new.low.items c.requires.conflict c.requires.is_false (c.requires.site.trail.on c.args.top c.requires.top).1 c.requires.unmarked c.requires.room c.requires.until m;
      within = c.requires.top;
      above = c.requires.floor;
      here = top_marked F steps t.truth.items t.place.items c.args.start c.args.floor c.requires.site c.args.conflict c.args.top c.args.marks.now c.mark_all.new.marks [] c.mark_all.new.low.items c.requires.last c.requires.top (omega arith) m;
      witness = IsWitness-next steps c.mark_all.new.marks c.args.floor c.args.top c.next_marked-witness.result c.next_marked-witness.ensures;
    }

-- no marked place is left from `floor` on but the last one
none_left : (steps : List SetLiteral) (old new : List Bool) (floor at : ℕ) (o : Option ℕ) → ((i : ℕ) → floor ≤ i → i < length steps → IsMarkedAt steps new i → IsMarkedAt steps old i) → at < length steps → ((w : ℕ) → o ≡ Some w → ⊥) → IsWitness steps old floor at o → IsNext steps new floor at None
none_left steps old new floor at o fewer lt off w = IsNext-fewer steps old new floor at fewer lt (IsNext-none steps old floor at o off w)

pub returns-clause-learnt : goal.returns-clause-learnt
returns-clause-learnt c =
    let t = c.args.trail.now in
    let F : List (List ℕ) = c.args.store.now in
    let low : List ℕ = c.in_ok-clause.clause.items in
    let at : ℕ = c.loop-witness.at in
    let e : c.index-2.result.now.lit ≡ lit_at t.steps.items at = lit_read t.steps.items at c.index-2.result.now c.loop-witness.invariant.within c.index-2.ensures in
    let is : c.push.new.self.items ≡ low ++ complement_of (lit_at t.steps.items at) ∷ [] = c.in_ok-push.ensures.items ∙ ap (λ (x : ℕ). low ++ x ∷ []) (c.complement.ensures ∙ ap complement_of e) in
    let none = none_left t.steps.items c.loop-witness.marks c.shorten.new.marks c.args.floor at c.loop-witness.witness c.shorten.ensures.above c.loop-witness.invariant.within c.in_default.not-Some c.loop-witness.invariant.witness in
    subst (λ (x : List ℕ). IsLearnt F t.truth.items t.place.items c.args.floor x) (sym is)
    (IsLearnt-from F t.steps.items t.truth.items t.place.items c.args.start c.args.floor c.requires.site at c.shorten.new.marks low c.in_ok-clause.ensures.marked none c.loop-witness.invariant.within c.loop-witness.invariant.above)

pub returns-clause-clean : goal.returns-clause-clean
returns-clause-clean c = λ v h.
    let t = c.args.trail.now in
    let F : List (List ℕ) = c.args.store.now in
    let low : List ℕ = c.in_ok-clause.clause.items in
    let at : ℕ = c.loop-witness.at in
    let e : c.index-2.result.now.lit ≡ lit_at t.steps.items at = lit_read t.steps.items at c.index-2.result.now c.loop-witness.invariant.within c.index-2.ensures in
    let is : c.push.new.self.items ≡ low ++ complement_of (lit_at t.steps.items at) ∷ [] = c.in_ok-push.ensures.items ∙ ap (λ (x : ℕ). low ++ x ∷ []) (c.complement.ensures ∙ ap complement_of e) in
    let none = none_left t.steps.items c.loop-witness.marks c.shorten.new.marks c.args.floor at c.loop-witness.witness c.shorten.ensures.above c.loop-witness.invariant.within c.in_default.not-Some c.loop-witness.invariant.witness in
    let w = c.unmark.ensures v h in
    let k = marked_in F t.steps.items t.truth.items t.place.items c.args.start c.args.floor c.requires.site at c.shorten.new.marks low c.in_ok-clause.ensures.marked none c.loop-witness.invariant.within v w.0 in
    w.1 k.0 (subst (λ (x : List ℕ). Contains x k.0) (sym is ∙ sym c.deref-2.ensures.value) k.2) k.1

pub unmark-requires : goal.unmark-requires
unmark-requires c =
    let t = c.args.trail.now in
    let F : List (List ℕ) = c.args.store.now in
    let low : List ℕ = c.in_ok-clause.clause.items in
    let at : ℕ = c.loop-witness.at in
    let m = c.in_ok-clause.ensures.marked in
    let cl : List ℕ = low ++ complement_of (lit_at t.steps.items at) ∷ [] in
    let e : c.index-2.result.now.lit ≡ lit_at t.steps.items at = lit_read t.steps.items at c.index-2.result.now c.loop-witness.invariant.within c.index-2.ensures in
    let is : c.push.new.self.items ≡ cl = c.in_ok-push.ensures.items ∙ ap (λ (x : ℕ). low ++ x ∷ []) (c.complement.ensures ∙ ap complement_of e) in
    let none = none_left t.steps.items c.loop-witness.marks c.shorten.new.marks c.args.floor at c.loop-witness.witness c.shorten.ensures.above c.loop-witness.invariant.within c.in_default.not-Some c.loop-witness.invariant.witness in
    let learnt : IsLearnt F t.truth.items t.place.items c.args.floor cl = IsLearnt-from F t.steps.items t.truth.items t.place.items c.args.start c.args.floor c.requires.site at c.shorten.new.marks low m none c.loop-witness.invariant.within c.loop-witness.invariant.above in
    let range : InRange cl (length t.truth.items) = learnt_range F t.steps.items t.truth.items t.place.items c.args.floor cl c.requires.site.trail learnt in
    let room : InRange cl (2 * length c.shorten.new.marks) = λ k lt. let r = range k lt in let b = m.room in omega arith in
    subst (λ (x : List ℕ). InRange x (2 * length c.shorten.new.marks)) (sym is ∙ sym c.deref-2.ensures.value) room
