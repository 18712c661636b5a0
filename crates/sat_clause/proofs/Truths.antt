-- The truth of literals, clauses and lists of clauses.
use Rattle.std.proofs.Common.{ℕ, zero, suc, ◌≡◌, ◌+◌, ◌*◌, ◌/◌, ◌%◌, ◌<◌, ◌++◌, List, [], ◌∷◌, map, length, Bool, true, false, not, ◌&&◌, ◌||◌, ◌==◌, if◌then◌else◌, refl, sym, ap, ◌∙◌, arith, inl, inr, take}
use Rattle.std.specs.List.{Contains, list_all}
use Rattle.std.proofs.lemmas.Bool.{cases_eq, cases_Bool, eq-eqb, ne_eqb}
use Rattle.std.proofs.lemmas.List.{get_or_default}
use Rattle.std.proofs.lemmas.List.Elements.{All-head, All-tail}
use Rattle.std.proofs.lemmas.List.Folds.{list_any_at, list_all-append}
use Rattle.std.proofs.lemmas.List.Sums.{AllPass-from_list_all, list_all-from_AllPass}
use Rattle.sat_clause.specs.Literals.{variable_of, complement_of, moved, is_true, clause_holds, all_hold, MeetsAll, AreTrue, AreBelow, ClausesAreBelow, AgreeBelow, later, truths, units}
use Rattle.sat_clause.specs.Propagation.{clause_at}

pub complement_twice : (l : ℕ) → complement_of (complement_of l) ≡ l
complement_twice l = omega arith

pub complement_differs : (l : ℕ) → complement_of l ≡ l → ⊥
complement_differs l e = omega arith

pub complement_variable : (l : ℕ) → complement_of l / 2 ≡ l / 2
complement_variable l = omega arith

not-not : (b : Bool) → b ≡ not (not b)
not-not true = refl
not-not false = refl

-- a literal and its complement have opposite truths
pub is_true-complement : (A : ℕ → Bool) (l : ℕ) → is_true A (complement_of l) ≡ not (is_true A l)
is_true-complement A l = elim (cases_eq (l % 2) 0) [
  | inl e ↦ let o : complement_of l % 2 ≡ 0 → ⊥ = λ (h : complement_of l % 2 ≡ 0). omega arith in
      simp (ne_eqb (complement_of l % 2) 0 o, eq-eqb (l % 2) 0 e, complement_variable l)
  | inr e ↦ let o : complement_of l % 2 ≡ 0 = omega arith in
      simp (eq-eqb (complement_of l % 2) 0 o, ne_eqb (l % 2) 0 e, complement_variable l) (not-not (A (l / 2)))
]

not-both : (b : Bool) → b ≡ true → not b ≡ true → ⊥
not-both b p q = elim b as (λ x. x ≡ true → not x ≡ true → ⊥) [ true ↦ λ a c. cc | false ↦ λ a c. cc ] p q

pub both_true : (A : ℕ → Bool) (l : ℕ) → is_true A l ≡ true → is_true A (complement_of l) ≡ true → ⊥
both_true A l p q = not-both (is_true A l) p (sym (is_true-complement A l) ∙ q)

-- a true clause has a true literal
pub true_literal : (A : ℕ → Bool) (c : List ℕ) → clause_holds A c ≡ true → (l : ℕ) × Contains c l × (is_true A l ≡ true)
true_literal A [] e = absurd (cc)
true_literal A (x ∷ xs) e = elim (cases_Bool (is_true A x)) [
  | inl on ↦ (x, (0, omega arith, refl), on)
  | inr off ↦
      let w = true_literal A xs (simp off at e) in
      (w.0, (suc w.1.0, omega arith, w.1.2), w.2)
]

pub holds-from_literal : (A : ℕ → Bool) (c : List ℕ) (l : ℕ) → Contains c l → is_true A l ≡ true → clause_holds A c ≡ true
holds-from_literal A c l h e = list_any_at (is_true A) c h.0 l h.1 (ap (is_true A) h.2 ∙ e)

-- literals that are all true are true each
pub true_each : (A : ℕ → Bool) (ls : List ℕ) → AreTrue A ls → (l : ℕ) → Contains ls l → is_true A l ≡ true
true_each A ls m l h = ap (is_true A) (sym h.2) ∙ AllPass-from_list_all (is_true A) ls m h.0 l h.1

-- a list of clauses is met where each is true
pub met_at : (A : ℕ → Bool) (F : List (List ℕ)) → MeetsAll A F → (i : ℕ) → i < length F → clause_holds A (clause_at F i) ≡ true
met_at A F m i h = AllPass-from_list_all (clause_holds A) F m i [] h

pub met-from_each : (A : ℕ → Bool) (F : List (List ℕ)) → ((i : ℕ) → i < length F → clause_holds A (clause_at F i) ≡ true) → MeetsAll A F
met-from_each A F each = list_all-from_AllPass (clause_holds A) F (λ k d h. ap (clause_holds A) (get_or_default F k d [] h) ∙ each k h)

and_left : (a b : Bool) → (a && b) ≡ true → a ≡ true
and_left true b e = refl
and_left false b e = e

and_right : (a b : Bool) → (a && b) ≡ true → b ≡ true
and_right true b e = e
and_right false b e = absurd (cc)

and_both : (a b : Bool) → a ≡ true → b ≡ true → (a && b) ≡ true
and_both a b p q = simp (p, q)

module _ (A : ℕ → Bool) where
  pub met_left : (F G : List (List ℕ)) → MeetsAll A (F ++ G) → MeetsAll A F
  met_left F G m = and_left (all_hold A F) (all_hold A G) (sym (list_all-append (clause_holds A) F G) ∙ m)

  pub met_right : (F G : List (List ℕ)) → MeetsAll A (F ++ G) → MeetsAll A G
  met_right F G m = and_right (all_hold A F) (all_hold A G) (sym (list_all-append (clause_holds A) F G) ∙ m)

  pub met_both : (F G : List (List ℕ)) → MeetsAll A F → MeetsAll A G → MeetsAll A (F ++ G)
  met_both F G m n = list_all-append (clause_holds A) F G ∙ and_both (all_hold A F) (all_hold A G) m n

  pub true_left : (ks ls : List ℕ) → AreTrue A (ks ++ ls) → AreTrue A ks
  true_left ks ls m = and_left (list_all (is_true A) ks) (list_all (is_true A) ls) (sym (list_all-append (is_true A) ks ls) ∙ m)

  pub true_right : (ks ls : List ℕ) → AreTrue A (ks ++ ls) → AreTrue A ls
  true_right ks ls m = and_right (list_all (is_true A) ks) (list_all (is_true A) ls) (sym (list_all-append (is_true A) ks ls) ∙ m)

  pub true_both : (ks ls : List ℕ) → AreTrue A ks → AreTrue A ls → AreTrue A (ks ++ ls)
  true_both ks ls m n = list_all-append (is_true A) ks ls ∙ and_both (list_all (is_true A) ks) (list_all (is_true A) ls) m n

  or_false : (b : Bool) → (b || false) ≡ b
  or_false true = refl
  or_false false = refl

  -- literals as clauses of their own are met where each is true
  pub units_hold : (ls : List ℕ) → all_hold A (units ls) ≡ list_all (is_true A) ls
  units_hold [] = refl
  units_hold (l ∷ ls) = ap (λ z. z && all_hold A (units ls)) (or_false (is_true A l)) ∙ ap (λ z. is_true A l && z) (units_hold ls)

  -- a moved clause says of an assignment what the clause says of a later part of it
  pub literal_moved : (n l : ℕ) → is_true A (moved n l) ≡ is_true (later n A) l
  literal_moved n l =
      let e : (l + 2 * n) / 2 ≡ l / 2 + n = omega arith in
      let f : (l + 2 * n) % 2 ≡ l % 2 = omega arith in
      ap (λ z. if z == 0 then A ((l + 2 * n) / 2) else not (A ((l + 2 * n) / 2))) f ∙ ap (λ z. if l % 2 == 0 then A z else not (A z)) e

  pub literals_moved : (n : ℕ) (ls : List ℕ) → list_all (is_true A) (map (moved n) ls) ≡ list_all (is_true (later n A)) ls
  literals_moved n [] = refl
  literals_moved n (l ∷ ls) = ap (λ z. z && list_all (is_true A) (map (moved n) ls)) (literal_moved n l) ∙ ap (λ z. is_true (later n A) l && z) (literals_moved n ls)

  pub clause_moved : (n : ℕ) (c : List ℕ) → clause_holds A (map (moved n) c) ≡ clause_holds (later n A) c
  clause_moved n [] = refl
  clause_moved n (l ∷ ls) = ap (λ z. z || clause_holds A (map (moved n) ls)) (literal_moved n l) ∙ ap (λ z. is_true (later n A) l || z) (clause_moved n ls)

  pub all_moved : (n : ℕ) (F : List (List ℕ)) → all_hold A (map (λ c. map (moved n) c) F) ≡ all_hold (later n A) F
  all_moved n [] = refl
  all_moved n (c ∷ cs) = ap (λ z. z && all_hold A (map (λ c. map (moved n) c) cs)) (clause_moved n c) ∙ ap (λ z. clause_holds (later n A) c && z) (all_moved n cs)

-- only the variables that stand in a clause say whether it is true
module _ (n : ℕ) (A B : ℕ → Bool) (same : AgreeBelow n A B) where
  pub literal_local : (l : ℕ) → variable_of l < n → is_true A l ≡ is_true B l
  literal_local l h = ap (λ z. if l % 2 == 0 then z else not z) (same (l / 2) h)

  pub literals_local : (ls : List ℕ) → AreBelow n ls → list_all (is_true A) ls ≡ list_all (is_true B) ls
  literals_local [] h = refl
  literals_local (l ∷ ls) h = ap (λ z. z && list_all (is_true A) ls) (literal_local l (All-head (λ m. variable_of m < n) l ls h)) ∙ ap (λ z. is_true B l && z) (literals_local ls (All-tail (λ m. variable_of m < n) l ls h))

  pub clause_local : (c : List ℕ) → AreBelow n c → clause_holds A c ≡ clause_holds B c
  clause_local [] h = refl
  clause_local (l ∷ ls) h = ap (λ z. z || clause_holds A ls) (literal_local l (All-head (λ m. variable_of m < n) l ls h)) ∙ ap (λ z. is_true B l || z) (clause_local ls (All-tail (λ m. variable_of m < n) l ls h))

  pub all_local : (F : List (List ℕ)) → ClausesAreBelow n F → all_hold A F ≡ all_hold B F
  all_local [] h = refl
  all_local (c ∷ cs) h = ap (λ z. z && all_hold A cs) (clause_local c (All-head (AreBelow n) c cs h)) ∙ ap (λ z. clause_holds B c && z) (all_local cs (All-tail (AreBelow n) c cs h))

-- a list cut at n gives the variables below n the same truths
pub truths_cut : (n : ℕ) (a : List Bool) → AgreeBelow n (truths (take n a)) (truths a)
truths_cut zero xs v h = absurd (omega arith)
truths_cut (suc n) [] v h = refl
truths_cut (suc n) (x ∷ xs) zero h = refl
truths_cut (suc n) (x ∷ xs) (suc v) h = truths_cut n xs v (omega arith)
