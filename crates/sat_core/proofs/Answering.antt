-- What was found about the working parts, as an answer about the clauses.
use Rattle.std.proofs.Common.{ℕ, zero, suc, ◌≡◌, ◌+◌, ◌*◌, ◌/◌, ◌%◌, ◌<◌, ◌≤◌, inl, inr, List, [], length, get_or, take, Bool, true, false, not, refl, sym, ap, subst, ◌∙◌, arith}
use Rattle.std.specs.List.{Contains}
use Rattle.std.proofs.lemmas.Bool.{cases_eq, cases_lt, eq-eqb, ne_eqb, false≢true}
use Rattle.std.proofs.lemmas.List.{length-take-le, get_or-take, get_or_past, get_or_default}
use Rattle.std.proofs.lemmas.List.Sums.{list_all-from_AllPass}
use Rattle.sat_clause.specs.Literals.{complement_of, is_true, clause_holds, MeetsAll, AreTrue, truths}
use Rattle.sat_clause.specs.Propagation.{clause_at, Conflict, Refuted}
use Rattle.sat_clause.proofs.Truths.{holds-from_literal, true_each, met_at, met-from_each}
use Rattle.sat_clause.proofs.Propagation.{Conflict-more, Follows-sound, Refuted-sound}
use Rattle.sat_engine.specs.Trail.{IsSet, IsTrail}
use Rattle.sat_engine.specs.declared.trail.SetLiteral.{SetLiteral}
use Rattle.sat_search.specs.State.{IsNew as IsNewOf}
use Rattle.sat_search.specs.Turn.{HasTrue}
use Rattle.sat_search.proofs.Analyses.{apart}
use Rattle.sat_search.specs.declared.parts.Parts.{Parts}
use Rattle.sat_core.specs.declared.find.Found.{Found}
use Rattle.sat_core.specs.declared.find.Found.TheVariants.{Sat as Met, Unsat as Refutes, Spent as Ended, Stopped as Halted}
use Rattle.sat_core.specs.declared.solver.Answer.{Answer}
use Rattle.sat_core.specs.Finding.{IsGrown, FoundSays, TellsTruth, is_stopped as stopped_search}
use Rattle.sat_core.specs.Solving.{IsNew, IsLearnt, IsMet, IsAnswer, AnswerSays, is_stopped}
use Rattle.sat_core.proofs.Rooms.{AreBelow-range, ClausesAreBelow-range}

new_one : (n size : ℕ) (F : List (List ℕ)) (c : List ℕ) → size ≤ 2 * n → IsNewOf F size c → IsNew n F c
new_one n size F c le h = record {
  proper = record {
    below = AreBelow-range n size c le h.range;
    nonempty = λ e. let s = h.some in absurd (omega (arith, ap length e));
    apart = h.apart;
  };
  follows = h.follows;
  fresh = h.none_in;
}

pub IsLearnt-grown : (n size : ℕ) (F G : List (List ℕ)) → size ≤ 2 * n → IsGrown F G size → IsLearnt n F G
IsLearnt-grown n size F G le g = record {
  longer = g.longer;
  front = g.front;
  new = λ i lo hi. new_one n size (take i G) (clause_at G i) le (g.new i lo hi);
}

-- what was learnt is met where the clauses were
pub learnt_met : (n : ℕ) (F G : List (List ℕ)) (A : ℕ → Bool) → IsLearnt n F G → MeetsAll A F → MeetsAll A G
learnt_met n F G A l m = met-from_each A G (λ i h. below (suc i) i (omega arith) h)
  where
    below : (b i : ℕ) → i < b → i < length G → clause_holds A (clause_at G i) ≡ true
    below zero i h lt = absurd (omega arith)
    below (suc b) i h lt = elim (cases_lt i (length F)) [
      | inl old ↦
          let e : clause_at F i ≡ clause_at G i = ap (λ (x : List (List ℕ)). clause_at x i) (sym l.front) ∙ get_or-take (length F) G i [] old in
          ap (clause_holds A) (sym e) ∙ met_at A F m i old
      | inr new ↦
          let size : length (take i G) ≡ i = length-take-le i G (omega arith) in
          let before : MeetsAll A (take i G) = met-from_each A (take i G) (λ j k. ap (clause_holds A) (get_or-take i G j [] (omega arith)) ∙ below b j (omega arith) (omega arith)) in
          Follows-sound A (take i G) (clause_at G i) before (l.new i new lt).follows
    ]

pub none_meets : (n : ℕ) (F G : List (List ℕ)) (assumed : List ℕ) → IsLearnt n F G → Refuted G assumed → (A : ℕ → Bool) → MeetsAll A F → AreTrue A assumed → ⊥
none_meets n F G assumed l r A m t = Refuted-sound A G assumed (learnt_met n F G A l m) (true_each A assumed t) r

-- a literal that is set is true
module _ (steps : List SetLiteral) (truth : List Bool) (place : List ℕ) (t : IsTrail steps truth place) (a : List Bool) (h : TellsTruth truth a) where
  within : (l : ℕ) → IsSet truth l → l < length truth
  within l s = elim (cases_lt l (length truth)) [
    | inl lt ↦ lt
    | inr ge ↦ absurd (false≢true (sym (get_or_past truth l false ge) ∙ s))
  ]

  off : (b : Bool) → (b ≡ true → ⊥) → not b ≡ true
  off true n = absurd (n refl)
  off false n = refl

  pub lit_true : (l : ℕ) → IsSet truth l → is_true (truths a) l ≡ true
  lit_true l s =
      let lt : l < length truth = within l s in
      let even = t.even in
      let size = h.size in
      let v : ℕ = l / 2 in
      let read : get_or a v false ≡ get_or truth (2 * v) false = h.each v (omega arith) in
      elim (cases_eq (l % 2) 0) [
        | inl e ↦
            let is : 2 * v ≡ l = omega arith in
            simp (eq-eqb (l % 2) 0 e) (read ∙ ap (λ (x : ℕ). get_or truth x false) is ∙ s)
        | inr ne ↦
            let is : 2 * v ≡ complement_of l = omega arith in
            simp (ne_eqb (l % 2) 0 ne) (off (get_or a v false) (λ on. apart steps truth place t l s (sym (ap (λ (x : ℕ). get_or truth x false) is) ∙ sym read ∙ on)))
      ]

  pub met_here : (G : List (List ℕ)) → ((i : ℕ) → i < length G → HasTrue (clause_at G i) truth) → MeetsAll (truths a) G
  met_here G each = met-from_each (truths a) G (λ i lt. let w = each i lt in holds-from_literal (truths a) (clause_at G i) w.0 w.1 (lit_true w.0 w.2))

  pub true_here : (assumed : List ℕ) → ((l : ℕ) → Contains assumed l → IsSet truth l) → AreTrue (truths a) assumed
  true_here assumed each = list_all-from_AllPass (is_true (truths a)) assumed (λ k d lt. lit_true (get_or assumed k d) (each (get_or assumed k d) (k, lt, same k d lt)))
    where
      same : (k d : ℕ) → k < length assumed → get_or assumed k (get_or assumed k d) ≡ get_or assumed k d
      same k d lt = get_or_default assumed k (get_or assumed k d) d lt

-- the answer for what was found
pub answer_says : (n : ℕ) (A : List ℕ) (p q : Parts) (F G : List (List ℕ)) (budget : ℕ) (found : Found) (answer : Answer) → F ≡ p.store → G ≡ q.store → n ≡ length q.trail.truth.items / 2
    → IsLearnt n F G → FoundSays A p q budget found → IsAnswer q.trail.truth.items found answer → AnswerSays n F G A budget answer
answer_says n A p q F G budget Met answer ef eg en l f h =
    let a : List Bool = h.0 in
    let tells : TellsTruth q.trail.truth.items a = h.2 in
    let t = q.trail in
    let even = t.ok.even in
    let met : IsMet n q.store A a = record {
      size = tells.size ∙ sym en;
      over = ClausesAreBelow-range n (length t.truth.items) q.store (omega arith) f.ready.range;
      clauses = met_here t.steps.items t.truth.items t.place.items t.ok a tells q.store f.answer.0;
      literals = true_here t.steps.items t.truth.items t.place.items t.ok a tells A f.answer.1;
    } in
    subst (λ (x : Answer). AnswerSays n F G A budget x) (sym h.1) (subst (λ (x : List (List ℕ)). IsMet n x A a) (sym eg) met)
answer_says n A p q F G budget Refutes answer ef eg en l f h =
    let r : Refuted G A = subst (λ (x : List (List ℕ)). Refuted x A) (sym eg) f.answer in
    subst (λ (x : Answer). AnswerSays n F G A budget x) (sym h) (r, none_meets n F G A l r)
answer_says n A p q F G budget Ended answer ef eg en l f h =
    subst (λ (x : Answer). AnswerSays n F G A budget x) (sym h) (f.answer.0, ap length eg ∙ f.answer.1 ∙ ap (λ (x : List (List ℕ)). length x + budget) (sym ef))
answer_says n A p q F G budget Halted answer ef eg en l f h =
    subst (λ (x : Answer). AnswerSays n F G A budget x) (sym h) tt

-- a search that was stopped gives the answer that says so
pub stopped_same : (truth : List Bool) (found : Found) (answer : Answer) → IsAnswer truth found answer → stopped_search found ≡ is_stopped answer
stopped_same truth Met answer h = ap is_stopped (sym h.1)
stopped_same truth Refutes answer h = ap is_stopped (sym h)
stopped_same truth Ended answer h = ap is_stopped (sym h)
stopped_same truth Halted answer h = ap is_stopped (sym h)

-- clauses that are refuted already
pub refuted_answer : (F : List (List ℕ)) (assumed : List ℕ) → Conflict F [] → Refuted F assumed × ((A : ℕ → Bool) → MeetsAll A F → AreTrue A assumed → ⊥)
refuted_answer F assumed k =
    let r : Refuted F assumed = inl (Conflict-more F F [] assumed (λ i lt. (i, lt, refl)) (λ l h. absurd (omega (arith, h.1))) k) in
    (r, λ A m t. Refuted-sound A F assumed m (true_each A assumed t) r)
