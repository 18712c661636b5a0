use Rattle.std.proofs.Common.{ℕ, zero, suc, ◌≡◌, ◌≢◌, ◌+◌, ◌/◌, ◌<◌, ◌≤◌, ◌++◌, inl, inr, List, [], ◌∷◌, length, get_or, take, drop, Bool, true, false, refl, sym, ap, subst, ◌∙◌, arith}
use Rattle.std.specs.List.{Contains}
use Rattle.std.proofs.lemmas.Bool.{cases_lt, false≢true}
use Rattle.std.proofs.lemmas.List.{length-append, length-take-le, length_push, length-map, get_or-take, get_or_append_left, get_or_push, map-append, take-append-drop, drop_more}
use Rattle.std.proofs.lemmas.List.Elements.{Contains-push_cases, Contains-get_or}
use Rattle.sat_clause.specs.Literals.{complement_of}
use Rattle.sat_clause.specs.Propagation.{clause_at, Derived, given, unit, Conflict}
use Rattle.sat_search.specs.Rank.{rank}
use Rattle.sat_clause.proofs.Truths.{complement_twice, complement_variable}
use Rattle.sat_search.proofs.Derivations.{Derived-wider, Derived-push}
use Rattle.sat_search.proofs.Ranks.{rank-flip}
use Rattle.sat_engine.specs.declared.trail.Reason.{Reason}
use Rattle.sat_engine.specs.declared.trail.Reason.TheVariants.{Free, Assumed, Clause}
use Rattle.sat_engine.specs.declared.trail.SetLiteral.{SetLiteral}
use Rattle.sat_engine.specs.Trail.{none_step, IsSet, IsTrail, lit_at, reason_at, Before, IsReason}
use Rattle.sat_engine.specs.Look.{AreInRange, AreFalse}
use Rattle.sat_engine.specs.Grow.{IsImplied, Grows}
use Rattle.sat_engine.proofs.Trails.{lit_at-push, lit_at-take}
use Rattle.sat_engine.proofs.Growing.{Before-same, IsReason-same, AreReasons-grown, same_to}
use Rattle.sat_engine.proofs.Ranges.{AreReasons-more}
use Rattle.sat_search.specs.Analysis.{IsSite, IsLearnt}
use Rattle.sat_clause.specs.Propagation.{Includes}
use Rattle.sat_search.specs.State.{is_choice, word, IsState, IsNew}
use Rattle.sat_search.proofs.Analyses.{apart}

-- with no free choice before n, each literal before n is derived from the assumptions
pub Derived-trail : (F : List (List ℕ)) (A : List ℕ) (steps : List SetLiteral) (start n : ℕ) → IsState F A steps start → ((i : ℕ) → start ≤ i → i < n → reason_at steps i ≢ Free) → (i : ℕ) → i < n → i < length steps → Derived F A (lit_at steps i)
Derived-trail F A steps start n s off i lt within = below (suc i) i (omega arith) lt within
  where
    by_reason : (i : ℕ) (r : Reason) → (r ≢ Free) → ((j : ℕ) → j < i → Derived F A (lit_at steps j)) → IsReason F A steps i r → Derived F A (lit_at steps i)
    by_reason i Free ne ih h = absurd (ne refl)
    by_reason i Assumed ne ih h = given (lit_at steps i) h
    by_reason i (Clause m) ne ih h = unit (lit_at steps i) m h.0 h.1
        (λ k w d. let b = h.2 k w d in subst (λ (x : ℕ). Derived F A x) b.2 (ih b.0 b.1))

    below : (b i : ℕ) → i < b → i < n → i < length steps → Derived F A (lit_at steps i)
    below zero i h lt within = absurd (omega arith)
    below (suc b) i h lt within = elim (cases_lt i start) [
      | inl fact ↦ Derived-wider F [] A (λ l w. absurd (omega arith)) (lit_at steps i) (s.facts i fact)
      | inr late ↦ by_reason i (reason_at steps i) (off i late lt) (λ j k. below b j (omega arith) (omega arith) (omega arith)) (s.reasons i within)
    ]

reason_at-take : (n : ℕ) (xs : List SetLiteral) (i : ℕ) → i < n → reason_at (take n xs) i ≡ reason_at xs i
reason_at-take n xs i h = ap (λ (x : SetLiteral). x.reason) (get_or-take n xs i none_step h)

pub IsState-cut : (F : List (List ℕ)) (A : List ℕ) (steps : List SetLiteral) (start k : ℕ) → IsState F A steps start → start ≤ k → k ≤ length steps → IsState F A (take k steps) start
IsState-cut F A steps start k s le within =
    let len : length (take k steps) ≡ k = length-take-le k steps within in
    record {
      early = omega arith;
      reasons = λ i h. subst (λ (x : Reason). IsReason F A (take k steps) i x) (sym (reason_at-take k steps i (omega arith)))
          (IsReason-same F A steps (take k steps) i (reason_at steps i) (λ j b. sym (lit_at-take k steps j (omega arith))) (s.reasons i (omega arith)));
      facts = λ i h. subst (λ (x : ℕ). Derived F [] x) (sym (lit_at-take k steps i (omega arith))) (s.facts i h);
      unchosen = λ i h. ap is_choice (reason_at-take k steps i (omega arith)) ∙ s.unchosen i h;
      free = λ j h e a w. Before-same steps (take k steps) j a (λ i b. sym (lit_at-take k steps i (omega arith)))
          (s.free j (omega arith) (sym (reason_at-take k steps j (omega arith)) ∙ e) a w);
    }

pub IsState-grow : (F : List (List ℕ)) (A : List ℕ) (xs ys : List SetLiteral) (start : ℕ) → Grows F xs ys → IsState F A xs start → IsState F A ys start
IsState-grow F A xs ys start g s =
    let longer = g.longer in
    record {
      early = let e = s.early in omega arith;
      reasons = AreReasons-grown F A xs ys g s.reasons;
      facts = λ i h. let e = s.early in subst (λ (x : ℕ). Derived F [] x) (ap (λ (x : SetLiteral). x.lit) (same_to F xs ys g i (omega arith))) (s.facts i h);
      unchosen = λ i h. let e = s.early in ap (λ (x : SetLiteral). is_choice x.reason) (sym (same_to F xs ys g i (omega arith))) ∙ s.unchosen i h;
      free = λ j h e a w. elim (cases_lt j (length xs)) [
        | inl below ↦ Before-same xs ys j a (λ i b. ap (λ (x : SetLiteral). x.lit) (same_to F xs ys g i (omega arith)))
            (s.free j below (ap (λ (x : SetLiteral). x.reason) (same_to F xs ys g j below) ∙ e) a w)
        | inr above ↦ absurd (subst (λ (x : Reason). IsImplied F ys j x) e (g.implied j above h))
      ];
    }

pub IsState-more : (F : List (List ℕ)) (c A : List ℕ) (steps : List SetLiteral) (start : ℕ) → IsState F A steps start → IsState (F ++ c ∷ []) A steps start
IsState-more F c A steps start s = record {
  early = s.early;
  reasons = AreReasons-more F c A steps s.reasons;
  facts = λ i h. Derived-push F c [] [] (λ l w. w) (lit_at steps i) (s.facts i h);
  unchosen = s.unchosen;
  free = s.free;
}

pub IsState-choose : (F : List (List ℕ)) (A : List ℕ) (steps : List SetLiteral) (start l : ℕ) (r : Reason) → IsState F A steps start → IsReason F A (steps ++ record { lit = l; reason = r } ∷ []) (length steps) r
    → (r ≡ Free → (a : ℕ) → Contains A a → Before steps (length steps) a) → IsState F A (steps ++ record { lit = l; reason = r } ∷ []) start
IsState-choose F A steps start l r s why all =
    let st : SetLiteral = record { lit = l; reason = r } in
    let ys : List SetLiteral = steps ++ st ∷ [] in
    let len : length ys ≡ length steps + 1 = length_push steps st in
    let lits : (i : ℕ) → i < length steps → lit_at steps i ≡ lit_at ys i = λ i h. sym (lit_at-push steps st i h) in
    let reas : (i : ℕ) → i < length steps → reason_at steps i ≡ reason_at ys i = λ i h. ap (λ (x : SetLiteral). x.reason) (sym (get_or_append_left steps (st ∷ []) none_step i h)) in
    let last : reason_at ys (length steps) ≡ r = ap (λ (x : SetLiteral). x.reason) (get_or_push steps st none_step (length steps) refl) in
    record {
      early = let e = s.early in omega arith;
      reasons = λ i h. elim (cases_lt i (length steps)) [
        | inl below ↦ subst (λ (x : Reason). IsReason F A ys i x) (reas i below) (IsReason-same F A steps ys i (reason_at steps i) (λ j b. lits j (omega arith)) (s.reasons i below))
        | inr above ↦ let e : length steps ≡ i = omega arith in
            subst (λ (x : ℕ). IsReason F A ys x (reason_at ys x)) e (subst (λ (x : Reason). IsReason F A ys (length steps) x) (sym last) why)
      ];
      facts = λ i h. let e = s.early in subst (λ (x : ℕ). Derived F [] x) (lits i (omega arith)) (s.facts i h);
      unchosen = λ i h. let e = s.early in ap is_choice (sym (reas i (omega arith))) ∙ s.unchosen i h;
      free = λ j h e a w. elim (cases_lt j (length steps)) [
        | inl below ↦ Before-same steps ys j a (λ i b. lits i (omega arith)) (s.free j below (reas j below ∙ e) a w)
        | inr above ↦ let same : length steps ≡ j = omega arith in
            subst (λ (x : ℕ). Before ys x a) same (Before-same steps ys (length steps) a lits
            (all (sym last ∙ subst (λ (x : ℕ). reason_at ys x ≡ Free) (sym same) e) a w))
      ];
    }

-- a step that is no choice is implied
pub IsImplied-from : (F : List (List ℕ)) (A : List ℕ) (steps : List SetLiteral) (i : ℕ) (r : Reason) → IsReason F A steps i r → is_choice r ≡ false → IsImplied F steps i r
IsImplied-from F A steps i Free h e = absurd (false≢true (sym e))
IsImplied-from F A steps i Assumed h e = absurd (false≢true (sym e))
IsImplied-from F A steps i (Clause n) h e = h

pub IsSite-from : (F : List (List ℕ)) (A : List ℕ) (steps : List SetLiteral) (truth : List Bool) (place : List ℕ) (start floor : ℕ) → IsTrail steps truth place → AreInRange F (length truth) → IsState F A steps start
    → ((i : ℕ) → floor < i → i < length steps → is_choice (reason_at steps i) ≡ false) → IsSite F steps truth place start floor
IsSite-from F A steps truth place start floor t range s off = record {
  trail = t;
  range = range;
  facts = λ q h lt. subst (λ (x : ℕ). Derived F [] x) (t.found q h).1 (s.facts (get_or place (q / 2) 0) lt);
  implied = λ i a b. IsImplied-from F A steps i (reason_at steps i) (s.reasons i b) (off i a b);
  reasons = λ i n h e. subst (λ (x : Reason). IsReason F A steps i x) e (s.reasons i h);
}

-- a false clause with no free choice before its last literal refutes the assumptions
pub Conflict-from : (F : List (List ℕ)) (A : List ℕ) (steps : List SetLiteral) (truth : List Bool) (place : List ℕ) (start n bound : ℕ) → IsTrail steps truth place → IsState F A steps start → n < length F → AreFalse (clause_at F n) truth
    → ((m : ℕ) → Contains (clause_at F n) m → get_or place (m / 2) 0 < bound) → ((i : ℕ) → start ≤ i → i < bound → reason_at steps i ≢ Free) → Conflict F A
Conflict-from F A steps truth place start n bound t s lt is_false under off = record {
  at = n;
  within = lt;
  all_false = λ m w.
      let f = t.found (complement_of m) (is_false m w) in
      let k : get_or place (complement_of m / 2) 0 < bound = subst (λ (x : ℕ). get_or place x 0 < bound) (sym (complement_variable m)) (under m w) in
      subst (λ (x : ℕ). Derived F A x) f.1 (Derived-trail F A steps start bound s off (get_or place (complement_of m / 2) 0) k f.0);
}

-- no free choice stands before an assumed one
pub no_free : (F : List (List ℕ)) (A : List ℕ) (steps : List SetLiteral) (truth : List Bool) (place : List ℕ) (start f : ℕ) → IsTrail steps truth place → IsState F A steps start → f < length steps → reason_at steps f ≡ Assumed → (j : ℕ) → j < f → reason_at steps j ≢ Free
no_free F A steps truth place start f t s lt e j below free =
    let r : Contains A (lit_at steps f) = subst (λ (x : Reason). IsReason F A steps f x) e (s.reasons f lt) in
    let b = s.free j (omega arith) free (lit_at steps f) r in
    let p = (t.on f lt).2 in
    let q = (t.on b.0 (omega (arith, b.1))).2 in
    let same : b.0 ≡ f = sym q ∙ ap (λ (x : ℕ). get_or place (x / 2) 0) b.2 ∙ p in
    let c = b.1 in omega arith

-- a learnt clause, where none of F stands in it, is new
pub false_in : (steps : List SetLiteral) (F : List (List ℕ)) (truth : List Bool) (place : List ℕ) (floor : ℕ) (c : List ℕ) → IsLearnt F truth place floor c → (l : ℕ) → Contains c l → IsSet truth (complement_of l)
false_in steps F truth place floor c h l w = elim (Contains-push_cases h.low (complement_of h.uip) l (subst (λ (x : List ℕ). Contains x l) h.is w)) [
  | inl a ↦ h.low_false l a
  | inr e ↦ subst (λ (x : ℕ). IsSet truth x) (sym (complement_twice h.uip) ∙ ap complement_of e) h.uip_set
]

pub IsNew-from : (F : List (List ℕ)) (steps : List SetLiteral) (truth : List Bool) (place : List ℕ) (floor : ℕ) (c : List ℕ) → IsTrail steps truth place → IsLearnt F truth place floor c → ((i : ℕ) → i < length F → Includes c (clause_at F i) → ⊥) → IsNew F (length truth) c
IsNew-from F steps truth place floor c t h none = record {
  follows = h.follows;
  range = λ k lt. let l : ℕ = get_or c k 0 in
      let f = t.found (complement_of l) (false_in steps F truth place floor c h l (Contains-get_or c k 0 lt)) in
      let on = (t.on (get_or place (complement_of l / 2) 0) f.0).0 in
      let g : complement_of l < length truth = subst (λ (x : ℕ). x < length truth) f.1 on in
      let e = t.even in omega arith;
  some = let e = ap length h.is in let p = length_push h.low (complement_of h.uip) in omega arith;
  apart = λ w. apart steps truth place t (complement_of w.0) (false_in steps F truth place floor c h w.0 w.1) (false_in steps F truth place floor c h (complement_of w.0) w.2);
  none_in = none;
}

-- the word of a trail that was cut at a choice and goes on by an implied literal comes later
pub rank-cut : (n : ℕ) (steps : List SetLiteral) (k : ℕ) (s : SetLiteral) → k < length steps → is_choice (reason_at steps k) ≡ true → is_choice s.reason ≡ false → k < n
    → rank n (word (take k steps ++ s ∷ [])) < rank n (word steps)
rank-cut n steps k s lt choice not_choice room =
    let f = λ (x : SetLiteral). is_choice x.reason in
    let split : steps ≡ take k steps ++ get_or steps k none_step ∷ drop (k + 1) steps = sym (take-append-drop k steps) ∙ ap (λ (x : List SetLiteral). take k steps ++ x) (drop_more steps k none_step lt) in
    let old : word steps ≡ word (take k steps) ++ true ∷ word (drop (k + 1) steps) = ap word split ∙ map-append f (take k steps) (get_or steps k none_step ∷ drop (k + 1) steps) ∙ ap (λ (x : Bool). word (take k steps) ++ x ∷ word (drop (k + 1) steps)) choice in
    let new : word (take k steps ++ s ∷ []) ≡ word (take k steps) ++ false ∷ [] = map-append f (take k steps) (s ∷ []) ∙ ap (λ (x : Bool). word (take k steps) ++ x ∷ []) not_choice in
    let len : length (word (take k steps)) ≡ k = length-map (take k steps) f ∙ length-take-le k steps (omega arith) in
    let h = rank-flip n (word (take k steps)) [] (word (drop (k + 1) steps)) (omega (arith, length-append (word (take k steps)) (false ∷ []))) in
    subst (λ (x : List Bool). rank n (word (take k steps ++ s ∷ [])) < rank n x) (sym old) (subst (λ (x : List Bool). rank n x < rank n (word (take k steps) ++ true ∷ word (drop (k + 1) steps))) (sym new) h)

-- what stands before the first choice follows from nothing
pub IsState-advance : (F : List (List ℕ)) (A : List ℕ) (steps : List SetLiteral) (start k : ℕ) → IsState F A steps start → k ≤ length steps → ((i : ℕ) → start ≤ i → i < k → is_choice (reason_at steps i) ≡ false) → IsState F A steps k
IsState-advance F A steps start k s le off = record {
  early = le;
  reasons = s.reasons;
  free = s.free;
  unchosen = λ i h. elim (cases_lt i start) [ inl fact ↦ s.unchosen i fact | inr late ↦ off i late h ];
  facts = λ i h. below (suc i) i (omega arith) h;
}
  where
    by_reason : (i : ℕ) (r : Reason) → is_choice r ≡ false → ((j : ℕ) → j < i → Derived F [] (lit_at steps j)) → IsReason F A steps i r → Derived F [] (lit_at steps i)
    by_reason i Free e ih h = absurd (false≢true (sym e))
    by_reason i Assumed e ih h = absurd (false≢true (sym e))
    by_reason i (Clause m) e ih h = unit (lit_at steps i) m h.0 h.1 (λ n w d. let b = h.2 n w d in subst (λ (x : ℕ). Derived F [] x) b.2 (ih b.0 b.1))

    below : (b i : ℕ) → i < b → i < k → Derived F [] (lit_at steps i)
    below zero i h lt = absurd (omega arith)
    below (suc b) i h lt = elim (cases_lt i start) [
      | inl fact ↦ s.facts i fact
      | inr late ↦ by_reason i (reason_at steps i) (off i late lt) (λ j m. below b j (omega arith) (omega arith)) (s.reasons i (omega arith))
    ]
