-- Clauses that are added.
use Rattle.std.proofs.Common.{ℕ, zero, suc, ◌≡◌, ◌≢◌, ◌+◌, ◌<◌, ◌≤◌, Bool, true, false, not, ◌&&◌, ◌||◌, List, [], ◌∷◌, ◌++◌, length, get_or, slice_index_or, refl, sym, ap, subst, ◌∙◌, arith, true≢false, if◌then◌else◌, ◌==◌, ◌%◌, ◌/◌, ◌*◌}
use Rattle.std.proofs.lemmas.Grind.{common_steps}
use Rattle.std.specs.List.{All, list_all, list_any}
use Rattle.std.proofs.lemmas.List.Elements.{All-nil, All-cons, All-push}
use Rattle.kv_num.specs.Bits.{differ}
use Rattle.sat_clause.specs.Literals.{variable_of, complement_of, is_true, clause_holds, all_hold, MeetsAll, AreBelow, ClausesAreBelow}
use Rattle.sat_clause.proofs.Truths.{is_true-complement, complement_variable}
use Rattle.gate_core.specs.declared.gate.Gate.{Gate}
use Rattle.gate_core.specs.declared.gate.Gate.TheVariants.{False, Input, And, Xor}
use Rattle.gate_core.specs.Table.{gate_at, gate_value, IsGateOf, Agrees}
use Rattle.gate_clauses.specs.Clauses.{AgreesBelow, Copies, lit_at}

and_end : (a b : Bool) → (a && (b && true)) ≡ (a && b)
and_end true true = refl
and_end true false = refl
and_end false b = refl

and_assoc : (a b c : Bool) → (a && (b && c)) ≡ ((a && b) && c)
and_assoc true b c = refl
and_assoc false b c = refl

pub pushed : (A : ℕ → Bool) (F : List (List ℕ)) (c : List ℕ) → all_hold A (F ++ c ∷ []) ≡ (all_hold A F && clause_holds A c)
pushed A [] c = by (clause_holds A c)
  where
    by : (b : Bool) → (b && true) ≡ (true && b)
    by true = refl
    by false = refl
pushed A (d ∷ F) c = ap (λ z. clause_holds A d && z) (pushed A F c) ∙ and_assoc (clause_holds A d) (all_hold A F) (clause_holds A c)

module _ (n : ℕ) where
  B : ℕ → Type 0
  B l = variable_of l < n

  one_below : (a : ℕ) → variable_of a < n → AreBelow n (a ∷ [])
  one_below a h = All-cons (λ l. variable_of l < n) a [] h (All-nil (λ l. variable_of l < n))

  more_below : (a : ℕ) (c : List ℕ) → variable_of a < n → AreBelow n c → AreBelow n (a ∷ c)
  more_below a c h k = All-cons (λ l. variable_of l < n) a c h k

  other_below : (a : ℕ) → variable_of a < n → variable_of (complement_of a) < n
  other_below a h = omega (arith, complement_variable a)

  below_pushed : (F new : List (List ℕ)) (c : List ℕ) → new ≡ F ++ c ∷ [] → ClausesAreBelow n F → AreBelow n c → ClausesAreBelow n new
  below_pushed F new c e h k = let Q : List (List ℕ) → Type 0 = λ x. ClausesAreBelow n x in subst Q (sym e) (All-push (AreBelow n) F c h k)

-- the truth of clauses and one more
pushed_as : (A : ℕ → Bool) (F new : List (List ℕ)) (c : List ℕ) → new ≡ F ++ c ∷ [] → all_hold A new ≡ (all_hold A F && clause_holds A c)
pushed_as A F new c e = ap (all_hold A) e ∙ pushed A F c

equal_bits : (f v a nv na : Bool) → nv ≡ not v → na ≡ not a → ((f && (nv || (a || false))) && (v || (na || false))) ≡ (f && not (differ v a))
equal_bits f v a nv na p q = ap (λ z. (f && (z || (a || false))) && (v || (na || false))) p ∙ (ap (λ z. (f && (not v || (a || false))) && (v || (z || false))) q ∙ by f v a)
  where
    by : (f v a : Bool) → ((f && (not v || (a || false))) && (v || (not a || false))) ≡ (f && not (differ v a))
    by true true true = refl
    by true true false = refl
    by true false true = refl
    by true false false = refl
    by false v a = refl

and_bits : (f v a b nv na nb : Bool) → nv ≡ not v → na ≡ not a → nb ≡ not b → (((f && (nv || (a || false))) && (nv || (b || false))) && (v || (na || (nb || false)))) ≡ (f && not (differ v (a && b)))
and_bits f v a b nv na nb p q r =
    ap (λ z. ((f && (z || (a || false))) && (z || (b || false))) && (v || (na || (nb || false)))) p
    ∙ (ap (λ z. ((f && (not v || (a || false))) && (not v || (b || false))) && (v || (z || (nb || false)))) q
    ∙ (ap (λ z. ((f && (not v || (a || false))) && (not v || (b || false))) && (v || (not a || (z || false)))) r ∙ by f v a b))
  where
    by : (f v a b : Bool) → (((f && (not v || (a || false))) && (not v || (b || false))) && (v || (not a || (not b || false)))) ≡ (f && not (differ v (a && b)))
    by true true true true = refl
    by true true true false = refl
    by true true false true = refl
    by true true false false = refl
    by true false true true = refl
    by true false true false = refl
    by true false false true = refl
    by true false false false = refl
    by false v a b = refl

xor_bits : (f v a b nv na nb : Bool) → nv ≡ not v → na ≡ not a → nb ≡ not b → ((((f && (nv || (a || (b || false)))) && (nv || (na || (nb || false)))) && (v || (na || (b || false)))) && (v || (a || (nb || false)))) ≡ (f && not (differ v (differ a b)))
xor_bits f v a b nv na nb p q r =
    ap (λ z. (((f && (z || (a || (b || false)))) && (z || (na || (nb || false)))) && (v || (na || (b || false)))) && (v || (a || (nb || false)))) p
    ∙ (ap (λ z. (((f && (not v || (a || (b || false)))) && (not v || (z || (nb || false)))) && (v || (z || (b || false)))) && (v || (a || (nb || false)))) q
    ∙ (ap (λ z. (((f && (not v || (a || (b || false)))) && (not v || (not a || (z || false)))) && (v || (not a || (b || false)))) && (v || (a || (z || false)))) r ∙ by f v a b))
  where
    by : (f v a b : Bool) → ((((f && (not v || (a || (b || false)))) && (not v || (not a || (not b || false)))) && (v || (not a || (b || false)))) && (v || (a || (not b || false)))) ≡ (f && not (differ v (differ a b)))
    by true true true true = refl
    by true true true false = refl
    by true true false true = refl
    by true true false false = refl
    by true false true true = refl
    by true false true false = refl
    by true false false true = refl
    by true false false false = refl
    by false v a b = refl

-- ---- the clauses of one gate

pub equal_says : (A : ℕ → Bool) (F F1 F2 : List (List ℕ)) (v a nv na : ℕ) → nv ≡ complement_of v → na ≡ complement_of a → F1 ≡ F ++ (nv ∷ a ∷ []) ∷ [] → F2 ≡ F1 ++ (v ∷ na ∷ []) ∷ [] → all_hold A F2 ≡ (all_hold A F && not (differ (is_true A v) (is_true A a)))
equal_says A F F1 F2 v a nv na p q e1 e2 =
    pushed_as A F1 F2 _ e2 ∙ (ap (λ z. z && clause_holds A (v ∷ na ∷ [])) (pushed_as A F F1 _ e1)
    ∙ equal_bits (all_hold A F) (is_true A v) (is_true A a) (is_true A nv) (is_true A na) (ap (is_true A) p ∙ is_true-complement A v) (ap (is_true A) q ∙ is_true-complement A a))

pub and_says : (A : ℕ → Bool) (F F1 F2 F3 : List (List ℕ)) (v a b nv na nb : ℕ) → nv ≡ complement_of v → na ≡ complement_of a → nb ≡ complement_of b → F1 ≡ F ++ (nv ∷ a ∷ []) ∷ [] → F2 ≡ F1 ++ (nv ∷ b ∷ []) ∷ [] → F3 ≡ F2 ++ (v ∷ na ∷ nb ∷ []) ∷ [] → all_hold A F3 ≡ (all_hold A F && not (differ (is_true A v) (is_true A a && is_true A b)))
and_says A F F1 F2 F3 v a b nv na nb p q r e1 e2 e3 =
    pushed_as A F2 F3 _ e3 ∙ (ap (λ z. z && clause_holds A (v ∷ na ∷ nb ∷ [])) (pushed_as A F1 F2 _ e2 ∙ ap (λ z. z && clause_holds A (nv ∷ b ∷ [])) (pushed_as A F F1 _ e1))
    ∙ and_bits (all_hold A F) (is_true A v) (is_true A a) (is_true A b) (is_true A nv) (is_true A na) (is_true A nb) (ap (is_true A) p ∙ is_true-complement A v) (ap (is_true A) q ∙ is_true-complement A a) (ap (is_true A) r ∙ is_true-complement A b))

pub xor_says : (A : ℕ → Bool) (F F1 F2 F3 F4 : List (List ℕ)) (v a b nv na nb : ℕ) → nv ≡ complement_of v → na ≡ complement_of a → nb ≡ complement_of b → F1 ≡ F ++ (nv ∷ a ∷ b ∷ []) ∷ [] → F2 ≡ F1 ++ (nv ∷ na ∷ nb ∷ []) ∷ [] → F3 ≡ F2 ++ (v ∷ na ∷ b ∷ []) ∷ [] → F4 ≡ F3 ++ (v ∷ a ∷ nb ∷ []) ∷ [] → all_hold A F4 ≡ (all_hold A F && not (differ (is_true A v) (differ (is_true A a) (is_true A b))))
xor_says A F F1 F2 F3 F4 v a b nv na nb p q r e1 e2 e3 e4 =
    pushed_as A F3 F4 _ e4 ∙ (ap (λ z. z && clause_holds A (v ∷ a ∷ nb ∷ [])) (pushed_as A F2 F3 _ e3 ∙ ap (λ z. z && clause_holds A (v ∷ na ∷ b ∷ [])) (pushed_as A F1 F2 _ e2 ∙ ap (λ z. z && clause_holds A (nv ∷ na ∷ nb ∷ [])) (pushed_as A F F1 _ e1)))
    ∙ xor_bits (all_hold A F) (is_true A v) (is_true A a) (is_true A b) (is_true A nv) (is_true A na) (is_true A nb) (ap (is_true A) p ∙ is_true-complement A v) (ap (is_true A) q ∙ is_true-complement A a) (ap (is_true A) r ∙ is_true-complement A b))

pub two_clause : (n : ℕ) (F new : List (List ℕ)) (a b : ℕ) → new ≡ F ++ (a ∷ b ∷ []) ∷ [] → variable_of a < n → variable_of b < n → ClausesAreBelow n F → ClausesAreBelow n new
two_clause n F new a b e ha hb h = below_pushed n F new (a ∷ b ∷ []) e h (more_below n a (b ∷ []) ha (one_below n b hb))

pub three_clause : (n : ℕ) (F new : List (List ℕ)) (a b c : ℕ) → new ≡ F ++ (a ∷ b ∷ c ∷ []) ∷ [] → variable_of a < n → variable_of b < n → variable_of c < n → ClausesAreBelow n F → ClausesAreBelow n new
three_clause n F new a b c e ha hb hc h = below_pushed n F new (a ∷ b ∷ c ∷ []) e h (more_below n a (b ∷ c ∷ []) ha (more_below n b (c ∷ []) hb (one_below n c hc)))

pub one_clause : (n : ℕ) (F new : List (List ℕ)) (a : ℕ) → new ≡ F ++ (a ∷ []) ∷ [] → variable_of a < n → ClausesAreBelow n F → ClausesAreBelow n new
one_clause n F new a e ha h = below_pushed n F new (a ∷ []) e h (one_below n a ha)

pub flipped_below : (n a na : ℕ) → na ≡ complement_of a → variable_of a < n → variable_of na < n
flipped_below n a na e h = omega (arith, complement_variable a, ap variable_of e)

-- ---- gates

false_says : (f v : Bool) → (f && (not v || false)) ≡ (f && not (differ v false))
false_says true true = refl
false_says true false = refl
false_says false v = refl

pub never_says : (A : ℕ → Bool) (F F1 : List (List ℕ)) (v nv i : ℕ) → nv ≡ complement_of v → is_true A v ≡ A i → F1 ≡ F ++ (nv ∷ []) ∷ [] → all_hold A F1 ≡ (all_hold A F && not (differ (A i) false))
never_says A F F1 v nv i p q e =
    pushed_as A F F1 _ e ∙ (ap (λ z. all_hold A F && (z || false)) (ap (is_true A) p ∙ (is_true-complement A v ∙ ap not q)) ∙ false_says (all_hold A F) (A i))

same_says : (f v : Bool) → f ≡ (f && not (differ v v))
same_says true true = refl
same_says true false = refl
same_says false v = refl

pub input_says : (A : ℕ → Bool) (F : List (List ℕ)) (i : ℕ) → all_hold A F ≡ (all_hold A F && not (differ (A i) (A i)))
input_says A F i = same_says (all_hold A F) (A i)

pub plain_literal : (A : ℕ → Bool) (l i : ℕ) → l ≡ 2 * i + 0 → is_true A l ≡ A i
plain_literal A l i e =
    let f : l % 2 ≡ 0 = omega arith in
    let g : l / 2 ≡ i = omega arith in
    ap (λ z. if z == 0 then A (l / 2) else not (A (l / 2))) f ∙ ap A g

pub plain_variable : (l i : ℕ) → l ≡ 2 * i + 0 → variable_of l ≡ i
plain_variable l i e = omega arith

-- ---- what one more gate says

both : (f a b : Bool) → (f && not (differ a b)) ≡ true → (f ≡ true) × (a ≡ b)
both true true true h = (refl, refl)
both true false false h = (refl, refl)
both true true false h = absurd (true≢false (sym h))
both true false true h = absurd (true≢false (sym h))
both false a b h = absurd (true≢false (sym h))

joined : (f a b : Bool) → f ≡ true → a ≡ b → (f && not (differ a b)) ≡ true
joined true true true h e = refl
joined true false false h e = refl
joined true true false h e = absurd (true≢false e)
joined true false true h e = absurd (true≢false (sym e))
joined false a b h e = absurd (true≢false (sym h))

pub agrees_more : (A : ℕ → Bool) (gs : List Gate) (i : ℕ) (g : Gate) (F new : List (List ℕ)) → g ≡ gate_at gs i → all_hold A new ≡ (all_hold A F && not (differ (A i) (gate_value A i g))) → (MeetsAll A F → AgreesBelow A gs i) → MeetsAll A new → AgreesBelow A gs (i + 1)
agrees_more A gs i g F new e says before met =
    let h = both (all_hold A F) (A i) (gate_value A i g) (sym says ∙ met) in
    let old = before h.0 in
    record { at = λ j l. by j l (cases j i l) (h.1 ∙ ap (gate_value A i) e) old }
  where
    cases : (j i : ℕ) → j < i + 1 → (j ≢ i → j < i)
    cases j i l n = omega (arith, n)

    by : (j : ℕ) → j < i + 1 → (j ≢ i → j < i) → A i ≡ gate_value A i (gate_at gs i) → AgreesBelow A gs i → A j ≡ gate_value A j (gate_at gs j)
    by j l f here old = split (j == i) refl
      where
        split : (b : Bool) → (j == i) ≡ b → A j ≡ gate_value A j (gate_at gs j)
        split true q = let p : j ≡ i = grind (arith, common_steps) in subst (λ k. A k ≡ gate_value A k (gate_at gs k)) (sym p) here
        split false q = old.at j (grind (arith, common_steps))

pub agrees_whole : (A : ℕ → Bool) (gs : List Gate) (n : ℕ) → length gs ≤ n → AgreesBelow A gs n → Agrees A gs
agrees_whole A gs n h below = record { at = λ i less. below.at i (omega (arith, h, less)) }

pub meets_more : (A : ℕ → Bool) (gs : List Gate) (i : ℕ) (g : Gate) (F new : List (List ℕ)) → g ≡ gate_at gs i → all_hold A new ≡ (all_hold A F && not (differ (A i) (gate_value A i g))) → MeetsAll A F → A i ≡ gate_value A i (gate_at gs i) → MeetsAll A new
meets_more A gs i g F new e says met here = says ∙ joined (all_hold A F) (A i) (gate_value A i g) met (here ∙ ap (gate_value A i) (sym e))

pub copies_more : (A : ℕ → Bool) (first i : ℕ) (ls : List ℕ) (x v : ℕ) (F new : List (List ℕ)) → i < length ls → x ≡ get_or ls i x → v ≡ 2 * (first + i) + 0 → all_hold A new ≡ (all_hold A F && not (differ (is_true A v) (is_true A x))) → (MeetsAll A F → Copies A first ls i) → MeetsAll A new → Copies A first ls (i + 1)
copies_more A first i ls x v F new h is e says before met =
    let p = both (all_hold A F) (is_true A v) (is_true A x) (sym says ∙ met) in
    let old = before p.0 in
    let q : x ≡ lit_at ls i = is ∙ item ls i x h in
    let here : A (first + i) ≡ is_true A (lit_at ls i) = sym (plain_literal A v (first + i) e) ∙ (p.1 ∙ ap (is_true A) q) in
    record { at = λ j l. by j l here old }
  where
    item : (ls : List ℕ) (i x : ℕ) → i < length ls → get_or ls i x ≡ lit_at ls i
    item ls i x h = grind (arith, common_steps)

    by : (j : ℕ) → j < i + 1 → A (first + i) ≡ is_true A (lit_at ls i) → Copies A first ls i → A (first + j) ≡ is_true A (lit_at ls j)
    by j l here old = split (j == i) refl
      where
        split : (b : Bool) → (j == i) ≡ b → A (first + j) ≡ is_true A (lit_at ls j)
        split true q = let p : j ≡ i = grind (arith, common_steps) in subst (λ k. A (first + k) ≡ is_true A (lit_at ls k)) (sym p) here
        split false q = old.at j (grind (arith, common_steps))

pub copies_meet : (A : ℕ → Bool) (first i : ℕ) (ls : List ℕ) (x v : ℕ) (F new : List (List ℕ)) → i < length ls → x ≡ get_or ls i x → v ≡ 2 * (first + i) + 0 → all_hold A new ≡ (all_hold A F && not (differ (is_true A v) (is_true A x))) → MeetsAll A F → A (first + i) ≡ is_true A (lit_at ls i) → MeetsAll A new
copies_meet A first i ls x v F new h is e says met here =
    says ∙ joined (all_hold A F) (is_true A v) (is_true A x) met (plain_literal A v (first + i) e ∙ (here ∙ ap (is_true A) (sym (is ∙ item ls i x h))))
  where
    item : (ls : List ℕ) (i x : ℕ) → i < length ls → get_or ls i x ≡ lit_at ls i
    item ls i x h = grind (arith, common_steps)
