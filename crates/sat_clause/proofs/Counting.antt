-- A budget of at least 3 ^ n clauses over n variables can't be spent: clauses that don't include one another, and have
-- no complementary literals, have different numbers below 3 ^ n.
use Rattle.std.proofs.Common.{ℕ, zero, suc, ◌≡◌, ◌≢◌, ◌+◌, ◌-◌, ◌*◌, ◌/◌, ◌%◌, ◌^◌, ◌<◌, ◌≤◌, ◌++◌, inl, inr, List, [], ◌∷◌, map, length, get_or, take, drop, Bool, true, cond, eqb, refl, sym, ap, subst, ◌∙◌, arith}
use Rattle.std.specs.List.{Contains, list_any}
use Rattle.std.proofs.Math.Nat.{pow-suc}
use Rattle.std.proofs.lemmas.Bool.{cases_eq, cases_Bool, eq-eqb, ne_eqb}
use Rattle.std.proofs.lemmas.List.{length-append, length-map, get_or_default, get_or-append_right, get_or-drop, get_or-map, get_or-take, length-drop, length-take}
use Rattle.sat_clause.specs.Literals.{variable_of}
use Rattle.sat_clause.specs.Propagation.{clause_at, HasComplements, Includes, IsProper, Spent}
use Rattle.sat_clause.proofs.Distinct.{at_index, distinct_below}

abbrev has : List ℕ → ℕ → Bool
has c l = list_any (eqb l) c

-- how the variable v stands in the clause
abbrev digit : List ℕ → ℕ → ℕ
digit c v = cond (has c (2 * v)) 1 (cond (has c (2 * v + 1)) 2 0)

-- the clause over n variables as a number below 3 ^ n
abbrev pub code : ℕ → List ℕ → ℕ
code zero c = 0
code (suc v) c = digit c v + 3 * code v c

pow3 : (n : ℕ) → 3 ^ suc n ≡ 3 * 3 ^ n
pow3 n = omega (arith, pow-suc 3 n)

Contains-has : (q : ℕ) (xs : List ℕ) → has xs q ≡ true → Contains xs q
Contains-has q xs e = let w = at_index q xs e in (w.0, w.1, get_or_default xs w.0 q 0 w.1 ∙ w.2)

has-at : (xs : List ℕ) (q k : ℕ) → k < length xs → get_or xs k 0 ≡ q → has xs q ≡ true
has-at [] q k lt e = absurd (omega arith)
has-at (x ∷ xs) q zero lt e = simp (eq-eqb q x (sym e))
has-at (x ∷ xs) q (suc k) lt e = elim (cases_eq q x) [
  | inl same ↦ simp (eq-eqb q x same)
  | inr other ↦ simp (ne_eqb q x other) (has-at xs q k (omega arith) e)
]

has-Contains : (xs : List ℕ) (q : ℕ) → Contains xs q → has xs q ≡ true
has-Contains xs q w = has-at xs q w.0 w.1 (get_or_default xs w.0 0 q w.1 ∙ w.2)

digit-lt : (c : List ℕ) (v : ℕ) → digit c v < 3
digit-lt c v = elim (cases_Bool (has c (2 * v))) [
  | inl a ↦ simp a (omega arith)
  | inr a ↦ elim (cases_Bool (has c (2 * v + 1))) [ inl b ↦ simp (a, b) (omega arith) | inr b ↦ simp (a, b) (omega arith) ]
]

pub code-lt : (n : ℕ) (c : List ℕ) → code n c < 3 ^ n
code-lt zero c = omega arith
code-lt (suc n) c = omega (arith, pow3 n, code-lt n c, digit-lt c n)

-- equal numbers have equal digits
digit-code : (n : ℕ) (c d : List ℕ) → code n c ≡ code n d → (v : ℕ) → v < n → digit c v ≡ digit d v
digit-code zero c d e v h = absurd (omega arith)
digit-code (suc n) c d e v h =
    let a = digit-lt c n in
    let b = digit-lt d n in
    elim (cases_eq v n) [
      | inl same ↦ let here : digit c n ≡ digit d n = omega arith in subst (λ (x : ℕ). digit c x ≡ digit d x) (sym same) here
      | inr other ↦ digit-code n c d (omega arith) v (omega arith)
    ]

-- and so equal literals, where the one has no complements
pub Contains-code : (n : ℕ) (c d : List ℕ) → code n c ≡ code n d → (HasComplements d → ⊥) → (l : ℕ) → l / 2 < n → Contains d l → Contains c l
Contains-code n c d e apart l lt has_it = elim (cases_eq (l % 2) 0) [
  | inl even ↦
      let v : ℕ = l / 2 in
      let is : l ≡ 2 * v = omega arith in
      let d1 : has d (2 * v) ≡ true = subst (λ (x : ℕ). has d x ≡ true) is (has-Contains d l has_it) in
      let e1 : digit c v ≡ digit d v = digit-code n c d e v (omega arith) in
      let d2 : digit d v ≡ 1 = simp d1 in
      subst (λ (x : ℕ). Contains c x) (sym is) (Contains-has (2 * v) c (one c v (e1 ∙ d2)))
  | inr odd ↦
      let v : ℕ = l / 2 in
      let is : l ≡ 2 * v + 1 = omega arith in
      let d1 : has d (2 * v + 1) ≡ true = subst (λ (x : ℕ). has d x ≡ true) is (has-Contains d l has_it) in
      let e1 : digit c v ≡ digit d v = digit-code n c d e v (omega arith) in
      let off : has d (2 * v) ≡ true → ⊥ = λ h. apart (2 * v, Contains-has (2 * v) d h, subst (λ (x : ℕ). Contains d x) (omega arith) has_it) in
      let d2 : digit d v ≡ 2 = two d v off d1 in
      subst (λ (x : ℕ). Contains c x) (sym is) (Contains-has (2 * v + 1) c (other c v (e1 ∙ d2)))
]
  where
    one : (c : List ℕ) (v : ℕ) → digit c v ≡ 1 → has c (2 * v) ≡ true
    one c v e = elim (cases_Bool (has c (2 * v))) [
      | inl a ↦ a
      | inr a ↦ elim (cases_Bool (has c (2 * v + 1))) [ inl b ↦ let f = simp (a, b) at e in absurd (omega (arith, f)) | inr b ↦ let f = simp (a, b) at e in absurd (omega (arith, f)) ]
    ]

    other : (c : List ℕ) (v : ℕ) → digit c v ≡ 2 → has c (2 * v + 1) ≡ true
    other c v e = elim (cases_Bool (has c (2 * v))) [
      | inl a ↦ let f = simp a at e in absurd (omega (arith, f))
      | inr a ↦ elim (cases_Bool (has c (2 * v + 1))) [ inl b ↦ b | inr b ↦ let f = simp (a, b) at e in absurd (omega (arith, f)) ]
    ]

    two : (d : List ℕ) (v : ℕ) → (has d (2 * v) ≡ true → ⊥) → has d (2 * v + 1) ≡ true → digit d v ≡ 2
    two d v off on = elim (cases_Bool (has d (2 * v))) [ inl a ↦ absurd (off a) | inr a ↦ simp (a, on) ]

-- a clause that isn't empty has another number than the empty one
nonempty-code : (n : ℕ) (c : List ℕ) → IsProper n c → code n [] ≡ code n c → ⊥
nonempty-code n [] p e = p.nonempty refl
nonempty-code n (l ∷ ls) p e =
    let first : Contains (l ∷ ls) l = (0, omega arith, refl) in
    let w = Contains-code n [] (l ∷ ls) e p.apart l (p.below 0 l (omega arith)) first in
    let none = w.1 in
    omega arith

-- of two clauses with one number, the second includes the first
same-code : (n : ℕ) (c d : List ℕ) → IsProper n c → code n c ≡ code n d → Includes d c
same-code n c d p e l w = Contains-code n d c (sym e) p.apart l (subst (λ (x : ℕ). variable_of x < n) w.2 (p.below w.0 l w.1)) w

module _ (n : ℕ) (F : List (List ℕ)) (B : ℕ) (L : List (List ℕ)) (s : Spent n F B L) where
  -- the empty clause, and the last B
  abbrev lasts : List (List ℕ)
  lasts = [] ∷ drop (length L - B) L

  last_at : (i : ℕ) → get_or (drop (length L - B) L) i [] ≡ clause_at L (length L - B + i)
  last_at i = get_or-drop (length L - B) L i []

  many : length lasts ≡ suc B
  many = let k = s.enough in omega (arith, length-drop (length L - B) L)

  earlier : (i j : ℕ) → i < j → j < length L → clause_at (F ++ take j L) (length F + i) ≡ clause_at L i
  earlier i j h k =
      let back : length F + i - length F ≡ i = omega arith in
      get_or-append_right F (take j L) (length F) (length F + i) [] refl (omega arith) ∙ (ap (λ (x : ℕ). get_or (take j L) x []) back ∙ get_or-take j L i [] h)

  fresh_apart : (i j : ℕ) → i < j → j < length L → length L ≤ j + B → code n (clause_at L i) ≡ code n (clause_at L j) → ⊥
  fresh_apart i j h k late e =
      s.fresh j k late (length F + i) (omega (arith, length-append F (take j L), length-take j L))
      (subst (λ (c : List ℕ). Includes (clause_at L j) c) (sym (earlier i j h k)) (same-code n (clause_at L i) (clause_at L j) (s.proper i (omega arith)) e))

  apart : (i j : ℕ) → i < j → j < length lasts → code n (get_or lasts i []) ≢ code n (get_or lasts j [])
  apart i zero h k e = omega arith
  apart zero (suc j) h k e =
      let some = many in let all = s.enough in
      let within : length L - B + j < length L = omega arith in
      nonempty-code n (clause_at L (length L - B + j)) (s.proper (length L - B + j) within) (e ∙ ap (code n) (last_at j))
  apart (suc i) (suc j) h k e =
      let some = many in let all = s.enough in
      let within : length L - B + j < length L = omega arith in
      fresh_apart (length L - B + i) (length L - B + j) (omega arith) within (omega arith) (sym (ap (code n) (last_at i)) ∙ (e ∙ ap (code n) (last_at j)))

  code_at : (i : ℕ) → i < length lasts → get_or (map (code n) lasts) i 0 ≡ code n (get_or lasts i [])
  code_at i h = get_or-map (code n) lasts i [] 0 h

  -- so a budget of 3 ^ n or more can't be spent
  pub spent_few : B < 3 ^ n
  spent_few =
      let long : length (map (code n) lasts) ≡ length lasts = length-map lasts (code n) in
      let some = many in
      let few : length (map (code n) lasts) ≤ 3 ^ n = distinct_below (map (code n) lasts) (3 ^ n)
      (λ i j h k e. apart i j h (omega arith) (sym (code_at i (omega arith)) ∙ (e ∙ code_at j (omega arith))))
      (λ i h. subst (λ (x : ℕ). x < 3 ^ n) (sym (code_at i (omega arith))) (code-lt n (get_or lasts i []))) in
      omega arith
