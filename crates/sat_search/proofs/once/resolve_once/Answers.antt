use Rattle.std.proofs.Common.{ℕ, ◌≡◌, ◌≢◌, ◌-◌, ◌++◌, ◌∷◌, [], List, Bool, length, get_or, subst, sym, ap, refl, ◌∙◌, arith}
use Rattle.std.specs.List.{Contains}
use Rattle.std.specs.Vec.{with_items}
use Rattle.std.proofs.lemmas.List.{get_or_read, with_items_is, length-append}
use Rattle.std.proofs.lemmas.List.Elements.{Contains-get_or}
use Rattle.sat_clause.specs.Literals.{complement_of}
use Rattle.sat_clause.specs.Propagation.{clause_at}
use Rattle.sat_engine.specs.declared.trail.SetLiteral.{SetLiteral}
use Rattle.sat_engine.specs.Trail.{IsSet}
use Rattle.sat_engine.specs.Look.{AreInRange, InRange, AreFalse, AreFalseBut}
use Rattle.sat_clause.specs.Propagation.{Includes}
use Rattle.sat_search.specs.State.{IsState}
use Rattle.sat_search.proofs.States.{IsState-more, IsState-cut}
use Rattle.sat_search.proofs.Flips.{jump_state, jump_flip, jump_length, IsReady-make}
use Rattle.sat_engine.proofs.Ranges.{AreInRange-push, clause_at-last}
use Rattle.sat_search.proofs.once.resolve_once.Goals as goal

pub returns-in-Unit : goal.returns-in-Unit
returns-in-Unit c =
    let p = c.args.parts.now in
    let F : List (List ℕ) = p.store in
    let A : List ℕ = c.args.assumed.now in
    let t = c.learn.new.trail in
    let j = c.in_ok-clause.ensures.jump in
    let cl : List ℕ = c.in_ok-clause.clause.items in
    let l : ℕ = c.index-lit.result.now in
    let some = j.some in
    let l_is : l ≡ get_or cl (length cl - 1) 0 = get_or_read cl (length cl - 1) l (omega arith) (subst (λ (x : ℕ). l ≡ get_or cl (x - 1) l) (c.len.ensures ∙ c.in_ok-clause.clause.ok.0) c.index-lit.ensures) 0 in
    let others : AreFalseBut cl t.truth.items l = subst (λ (x : ℕ). AreFalseBut cl t.truth.items x) (sym l_is) j.others in
    let n : ℕ = c.in-Some-found.number in
    let d : List ℕ = clause_at F n in
    let fl : (with_items p.flags c.earlier-found.new.flags).items ≡ c.earlier-found.new.flags = with_items_is p.flags c.earlier-found.new.flags (omega (arith, c.earlier-found.auto.flags, c.deref_mut-2.ensures.len)) in
    let ml : (with_items p.marks c.learn.new.marks).items ≡ c.learn.new.marks = with_items_is p.marks c.learn.new.marks (omega (arith, c.learn.auto.marks, c.deref_mut.ensures.len)) in
    let fl_len : length (with_items p.flags c.earlier-found.new.flags).items ≡ length p.flags.items = ap length fl ∙ (omega (arith, c.earlier-found.auto.flags, ap length c.deref_mut-2.ensures.value)) in
    let ml_len : length (with_items p.marks c.learn.new.marks).items ≡ length p.marks.items = ap length ml ∙ (omega (arith, c.learn.auto.marks, ap length c.deref_mut.ensures.value)) in
    let cl_no : (v : ℕ) → IsSet (with_items p.marks c.learn.new.marks).items v → ⊥ = λ v h. c.in_ok-clause.ensures.clean v (subst (λ (x : List Bool). IsSet x v) ml h) in
    let un : (m : ℕ) → IsSet (with_items p.flags c.earlier-found.new.flags).items m → ⊥ = λ m h. c.earlier-found.ensures.unset m (subst (λ (x : List Bool). IsSet x m) fl h) in
    let seen : Contains d l × AreFalseBut d t.truth.items l =
    subst (λ (x : List Bool). Contains d l × AreFalseBut d x l) c.deref-in-Some-found.ensures.value
    (subst (λ (x : List ℕ). Contains x l × AreFalseBut x c.deref-in-Some-found.result.now l) c.get.ensures c.in-Unit.ensures) in
    let state = jump_state F A F p.trail.steps.items t.steps.items c.push-in-Unit.new.self.steps.items t.truth.items t.place.items p.start cl l n c.requires.ready.state j t.ok c.in-Some-found.ensures.found.0 seen.0 seen.1 c.in_ok-push-in-Unit.ensures.ok in
    let size = c.in_ok-push-in-Unit.ensures.size ∙ c.learn.ensures.size in (
      IsReady-make A p _ c.requires.ready state size c.requires.ready.range c.requires.ready.few c.requires.ready.indexed refl fl_len un ml_len cl_no,
      size,
      refl,
      jump_flip F p.trail.steps.items t.steps.items c.push-in-Unit.new.self.steps.items t.truth.items p.start cl l n j c.in_ok-push-in-Unit.ensures.ok,
    )

pub returns-in-False : goal.returns-in-False
returns-in-False c =
    let p = c.args.parts.now in
    let F : List (List ℕ) = p.store in
    let A : List ℕ = c.args.assumed.now in
    let t = c.learn.new.trail in
    let j = c.in_ok-clause.ensures.jump in
    let cl : List ℕ = c.in_ok-clause.clause.items in
    let l : ℕ = c.index-lit.result.now in
    let some = j.some in
    let l_is : l ≡ get_or cl (length cl - 1) 0 = get_or_read cl (length cl - 1) l (omega arith) (subst (λ (x : ℕ). l ≡ get_or cl (x - 1) l) (c.len.ensures ∙ c.in_ok-clause.clause.ok.0) c.index-lit.ensures) 0 in
    let others : AreFalseBut cl t.truth.items l = subst (λ (x : ℕ). AreFalseBut cl t.truth.items x) (sym l_is) j.others in
    let n : ℕ = c.in-Some-found.number in
    let d : List ℕ = clause_at F n in
    let fl : (with_items p.flags c.earlier-found.new.flags).items ≡ c.earlier-found.new.flags = with_items_is p.flags c.earlier-found.new.flags (omega (arith, c.earlier-found.auto.flags, c.deref_mut-2.ensures.len)) in
    let ml : (with_items p.marks c.learn.new.marks).items ≡ c.learn.new.marks = with_items_is p.marks c.learn.new.marks (omega (arith, c.learn.auto.marks, c.deref_mut.ensures.len)) in
    let fl_len : length (with_items p.flags c.earlier-found.new.flags).items ≡ length p.flags.items = ap length fl ∙ (omega (arith, c.earlier-found.auto.flags, ap length c.deref_mut-2.ensures.value)) in
    let ml_len : length (with_items p.marks c.learn.new.marks).items ≡ length p.marks.items = ap length ml ∙ (omega (arith, c.learn.auto.marks, ap length c.deref_mut.ensures.value)) in
    let cl_no : (v : ℕ) → IsSet (with_items p.marks c.learn.new.marks).items v → ⊥ = λ v h. c.in_ok-clause.ensures.clean v (subst (λ (x : List Bool). IsSet x v) ml h) in
    let un : (m : ℕ) → IsSet (with_items p.flags c.earlier-found.new.flags).items m → ⊥ = λ m h. c.earlier-found.ensures.unset m (subst (λ (x : List Bool). IsSet x m) fl h) in
    let no_good : AreFalse d t.truth.items =
    subst (λ (x : List Bool). AreFalse d x) c.deref-in-Some-found.ensures.value
    (subst (λ (x : List ℕ). AreFalse x c.deref-in-Some-found.result.now) c.get.ensures c.in-False.ensures) in
    let w = j.within in
    let state : IsState F A t.steps.items p.start = subst (λ (x : List SetLiteral). IsState F A x p.start) (sym j.is) (IsState-cut F A p.trail.steps.items p.start j.cut c.requires.ready.state j.start_le (omega arith)) in
    let shorter = jump_length F p.trail.steps.items t.steps.items t.truth.items p.start cl j in (
      IsReady-make A p _ c.requires.ready state c.learn.ensures.size c.requires.ready.range c.requires.ready.few c.requires.ready.indexed refl fl_len un ml_len cl_no,
      record { size = c.learn.ensures.size },
      refl,
      c.in-Some-found.ensures.found.0,
      no_good,
      shorter.0,
      shorter.1,
    )

pub unreachable-requires : goal.unreachable-requires
unreachable-requires c =
    let p = c.args.parts.now in
    let F : List (List ℕ) = p.store in
    let A : List ℕ = c.args.assumed.now in
    let t = c.learn.new.trail in
    let j = c.in_ok-clause.ensures.jump in
    let cl : List ℕ = c.in_ok-clause.clause.items in
    let l : ℕ = c.index-lit.result.now in
    let some = j.some in
    let l_is : l ≡ get_or cl (length cl - 1) 0 = get_or_read cl (length cl - 1) l (omega arith) (subst (λ (x : ℕ). l ≡ get_or cl (x - 1) l) (c.len.ensures ∙ c.in_ok-clause.clause.ok.0) c.index-lit.ensures) 0 in
    let others : AreFalseBut cl t.truth.items l = subst (λ (x : ℕ). AreFalseBut cl t.truth.items x) (sym l_is) j.others in
    let n : ℕ = c.in-Some-found.number in
    let d : List ℕ = clause_at F n in
    let seen : Contains d c.in-Open.field-0 × (c.in-Open.field-0 ≢ l) × (IsSet t.truth.items (complement_of c.in-Open.field-0) → ⊥) =
    subst (λ (x : List Bool). Contains d c.in-Open.field-0 × (c.in-Open.field-0 ≢ l) × (IsSet x (complement_of c.in-Open.field-0) → ⊥)) c.deref-in-Some-found.ensures.value
    (subst (λ (x : List ℕ). Contains x c.in-Open.field-0 × (c.in-Open.field-0 ≢ l) × (IsSet c.deref-in-Some-found.result.now (complement_of c.in-Open.field-0) → ⊥)) c.get.ensures c.in-Open.ensures) in
    let inc : Includes cl d = subst (λ (x : List ℕ). Includes x d) c.deref.ensures.value c.in-Some-found.ensures.found.1 in
    seen.2 (others c.in-Open.field-0 (inc c.in-Open.field-0 seen.0) seen.1)

pub returns-in-None : goal.returns-in-None
returns-in-None c =
    let p = c.args.parts.now in
    let F : List (List ℕ) = p.store in
    let A : List ℕ = c.args.assumed.now in
    let t = c.learn.new.trail in
    let j = c.in_ok-clause.ensures.jump in
    let cl : List ℕ = c.in_ok-clause.clause.items in
    let l : ℕ = c.index-lit.result.now in
    let some = j.some in
    let l_is : l ≡ get_or cl (length cl - 1) 0 = get_or_read cl (length cl - 1) l (omega arith) (subst (λ (x : ℕ). l ≡ get_or cl (x - 1) l) (c.len.ensures ∙ c.in_ok-clause.clause.ok.0) c.index-lit.ensures) 0 in
    let others : AreFalseBut cl t.truth.items l = subst (λ (x : ℕ). AreFalseBut cl t.truth.items x) (sym l_is) j.others in
    let fl : (with_items p.flags c.earlier-found.new.flags).items ≡ c.earlier-found.new.flags = with_items_is p.flags c.earlier-found.new.flags (omega (arith, c.earlier-found.auto.flags, c.deref_mut-2.ensures.len)) in
    let ml : (with_items p.marks c.learn.new.marks).items ≡ c.learn.new.marks = with_items_is p.marks c.learn.new.marks (omega (arith, c.learn.auto.marks, c.deref_mut.ensures.len)) in
    let fl_len : length (with_items p.flags c.earlier-found.new.flags).items ≡ length p.flags.items = ap length fl ∙ (omega (arith, c.earlier-found.auto.flags, ap length c.deref_mut-2.ensures.value)) in
    let ml_len : length (with_items p.marks c.learn.new.marks).items ≡ length p.marks.items = ap length ml ∙ (omega (arith, c.learn.auto.marks, ap length c.deref_mut.ensures.value)) in
    let cl_no : (v : ℕ) → IsSet (with_items p.marks c.learn.new.marks).items v → ⊥ = λ v h. c.in_ok-clause.ensures.clean v (subst (λ (x : List Bool). IsSet x v) ml h) in
    let un : (m : ℕ) → IsSet (with_items p.flags c.earlier-found.new.flags).items m → ⊥ = λ m h. c.earlier-found.ensures.unset m (subst (λ (x : List Bool). IsSet x m) fl h) in
    let G : List (List ℕ) = F ++ cl ∷ [] in
    let r = c.in_ok-number-in-None.ensures in
    let n : ℕ = c.in_ok-number-in-None.number in
    let stored : c.record_clause.new.store ≡ G = r.1 ∙ ap (λ (x : List ℕ). F ++ x ∷ []) c.deref-in-None-3.ensures.value in
    let last : clause_at G n ≡ cl = clause_at-last F cl n r.0 in
    let has : Contains (clause_at G n) l = subst (λ (x : List ℕ). Contains x l) (sym last) (subst (λ (x : ℕ). Contains cl x) (sym l_is) (Contains-get_or cl (length cl - 1) 0 (omega arith))) in
    let lows : AreFalseBut (clause_at G n) t.truth.items l = subst (λ (x : List ℕ). AreFalseBut x t.truth.items l) (sym last) others in
    let state1 = jump_state G A F p.trail.steps.items t.steps.items c.push.new.self.steps.items t.truth.items t.place.items p.start cl l n (IsState-more F cl A p.trail.steps.items p.start c.requires.ready.state) j t.ok (omega (arith, length-append F (cl ∷ []), r.0)) has lows c.in_ok-push-in-None.ensures.ok in
    let state : IsState c.record_clause.new.store A c.push.new.self.steps.items p.start = subst (λ (x : List (List ℕ)). IsState x A c.push.new.self.steps.items p.start) (sym stored) state1 in
    let size = c.in_ok-push-in-None.ensures.size ∙ c.learn.ensures.size in
    let range1 : InRange cl (length p.trail.truth.items) = subst (λ (x : ℕ). InRange cl x) c.learn.ensures.size j.range in
    let range : AreInRange c.record_clause.new.store (length p.trail.truth.items) = subst (λ (x : List (List ℕ)). AreInRange x (length p.trail.truth.items)) (sym stored) (AreInRange-push F cl (length p.trail.truth.items) c.requires.ready.range range1) in (
      IsReady-make A p _ c.requires.ready state size range r.4 r.2 r.3 fl_len un ml_len cl_no,
      size,
      (
        cl,
        stored,
        record {
          follows = j.follows;
          range = range1;
          some = j.some;
          apart = j.apart;
          none_in = λ i lt inc. c.in-None.ensures.found i lt (subst (λ (x : List ℕ). Includes x (clause_at F i)) (sym c.deref.ensures.value) inc);
        },
      ),
    )
