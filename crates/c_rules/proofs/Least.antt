-- The least of a list of pairs is one of them, and none is before it.
use Rattle.std.proofs.Common.{Contains, length, subst, zero, suc, ◌≡◌, ℕ, ◌<◌, ◌≤◌, ◌&&◌, ◌||◌, true, false, List, [], ◌∷◌, Option, Some, None, inl, inr, ⊎_elim, refl, sym, ap, ◌∙◌, cond, eqb, arith}
use Rattle.std.specs.Prelude.{◌⊎◌}
use Rattle.std.proofs.Math.Dec.{ltb}
use Rattle.std.proofs.lemmas.Bool.{cases_Bool, ltb-true, ltb-false, le-ltb, eqb-true, eqb-false, eq-eqb, ne_eqb}
use Rattle.c_rules.specs.declared.names.Pair.{Pair}
use Rattle.c_rules.specs.Broken.{is_before, lesser, least}

-- ---- one answer

pub empty_or_least : (ps : List Pair) → (ps ≡ []) ⊎ ((p : Pair) × (least ps ≡ Some p))
empty_or_least [] = inl refl
empty_or_least (p ∷ ps) = inr (lesser p (least ps), refl)

pub never_both : (ps : List Pair) (p : Pair) → ps ≡ [] → least ps ≡ Some p → ⊥
never_both [] p e l = cc
never_both (q ∷ ps) p e l = cc

pub one_least : (ps : List Pair) (p q : Pair) → least ps ≡ Some p → least ps ≡ Some q → p ≡ q
one_least ps p q e f = cc

-- ---- the order: by place, and at one place by rule

differ : true ≡ false → ⊥
differ e = cc

-- the pair (x, r) isn't before the pair (y, s)
abbrev Behind : (x r y s : ℕ) → Type 0
Behind x r y s = (y < x) ⊎ ((y ≡ x) × (s ≤ r))

same_place : (x y r s : ℕ) → x ≡ y → (eqb x y && ltb r s) ≡ false → Behind x r y s
same_place x y r s e h = inr (sym e, ltb-false r s (sym (ap (λ b. b && ltb r s) (eq-eqb x y e)) ∙ h))

not_less : (x y r s : ℕ) → y ≤ x → (eqb x y && ltb r s) ≡ false → Behind x r y s
not_less x y r s h e =
    ⊎_elim (λ same. same_place x y r s (eqb-true x y same) e) (λ other. inl (let apart : x ≡ y → ⊥ = eqb-false x y other in omega (arith, apart))) (cases_Bool (eqb x y))

behind : (x y r s : ℕ) → (ltb x y || (eqb x y && ltb r s)) ≡ false → Behind x r y s
behind x y r s e =
    ⊎_elim (λ less. absurd (differ (sym (ap (λ b. b || (eqb x y && ltb r s)) less) ∙ e)))
    (λ not_so. not_less x y r s (ltb-false x y not_so) (sym (ap (λ b. b || (eqb x y && ltb r s)) not_so) ∙ e)) (cases_Bool (ltb x y))

not_before : (x r y s : ℕ) → Behind x r y s → (ltb x y || (eqb x y && ltb r s)) ≡ false
not_before x r y s (inl less) =
    ap (λ b. b || (eqb x y && ltb r s)) (le-ltb x y (omega (arith, less))) ∙ ap (λ b. b && ltb r s) (ne_eqb x y (λ same. omega (arith, less, same)))
not_before x r y s (inr (same, h)) =
    ap (λ b. b || (eqb x y && ltb r s)) (le-ltb x y (omega (arith, same))) ∙ ap (λ b. b && ltb r s) (eq-eqb x y (sym same)) ∙ le-ltb r s h

further : (x r y s z t : ℕ) → Behind x r y s → Behind y s z t → Behind x r z t
further x r y s z t (inl a) (inl b) = inl (omega (arith, a, b))
further x r y s z t (inl a) (inr (b, c)) = inl (omega (arith, a, b))
further x r y s z t (inr (a, c)) (inl b) = inl (omega (arith, a, b))
further x r y s z t (inr (a, c)) (inr (b, d)) = inr (omega (arith, a, b), omega (arith, c, d))

abbrev IsBehind : Pair → Pair → Type 0
IsBehind p q = Behind p.at p.rule q.at q.rule

itself : (x r : ℕ) → Behind x r x r
itself x r = inr (refl, omega arith)

less_behind : (x r y s : ℕ) → (ltb x y || (eqb x y && ltb r s)) ≡ true → Behind y s x r
less_behind x r y s e = ⊎_elim (λ less. inl (ltb-true x y less)) (λ not_so. at_one_place (sym (ap (λ b. b || (eqb x y && ltb r s)) not_so) ∙ e)) (cases_Bool (ltb x y))
  where
    at_one_place : (eqb x y && ltb r s) ≡ true → Behind y s x r
    at_one_place h = ⊎_elim (λ same. inr (eqb-true x y same, omega (arith, ltb-true r s (sym (ap (λ b. b && ltb r s) same) ∙ h))))
        (λ other. absurd (differ (sym h ∙ ap (λ b. b && ltb r s) other))) (cases_Bool (eqb x y))

-- ---- lists

-- of two pairs the lesser: both come after it
pick : (x y p : Pair) → lesser x (Some y) ≡ p → ((p ≡ y) × (is_before y x ≡ true)) ⊎ ((p ≡ x) × (is_before y x ≡ false))
pick x y p e = ⊎_elim (λ before. inl (sym e ∙ ap (λ b. cond b y x) before, before)) (λ other. inr (sym e ∙ ap (λ b. cond b y x) other, other)) (cases_Bool (is_before y x))

at_itself : (x p : Pair) → p ≡ x → IsBehind x p
at_itself x p e = subst (IsBehind x) (sym e) (itself x.at x.rule)

first_behind : (x y p : Pair) → lesser x (Some y) ≡ p → IsBehind x p
first_behind x y p e = ⊎_elim (λ h. subst (IsBehind x) (sym h.0) (less_behind y.at y.rule x.at x.rule h.1)) (λ h. at_itself x p h.0) (pick x y p e)

second_behind : (x y p : Pair) → lesser x (Some y) ≡ p → IsBehind y p
second_behind x y p e = ⊎_elim (λ h. at_itself y p h.0) (λ h. subst (IsBehind y) (sym h.0) (behind y.at x.at y.rule x.rule h.1)) (pick x y p e)

none_least : (ps : List Pair) → least ps ≡ None → ps ≡ []
none_least [] e = refl
none_least (p ∷ ps) e = cc

abbrev AllBehind : List Pair → Pair → Type 0
AllBehind ps p = (q : Pair) → Contains ps q → IsBehind q p

with_first : (x : Pair) (ps : List Pair) (o : Option Pair) → least ps ≡ o → ((y : Pair) → least ps ≡ Some y → AllBehind ps y) → (p : Pair) → lesser x o ≡ p → AllBehind (x ∷ ps) p
with_first x ps None none all p e q (zero, below, is) = subst (λ z. IsBehind z p) is (at_itself x p (sym e))
with_first x ps (Some y) some all p e q (zero, below, is) = subst (λ z. IsBehind z p) is (first_behind x y p e)
with_first x ps None none all p e q (suc k, below, is) = absurd (no_element ps k (none_least ps none) (omega (arith, below)))
  where
    no_element : (xs : List Pair) (n : ℕ) → xs ≡ [] → n < length xs → ⊥
    no_element xs n f h = omega (arith, h, ap length f)
with_first x ps (Some y) some all p e q (suc k, below, is) =
    let here : IsBehind q y = all y some q (k, omega (arith, below), is) in
    let there : IsBehind y p = second_behind x y p e in
    further q.at q.rule y.at y.rule p.at p.rule here there

some_is : (x y : Pair) → Some x ≡ Some y → x ≡ y
some_is x y e = cc

all_behind : (ps : List Pair) (p : Pair) → least ps ≡ Some p → AllBehind ps p
all_behind [] p e = cc
all_behind (x ∷ ps) p e = with_first x ps (least ps) refl (all_behind ps) p (some_is (lesser x (least ps)) p e)

pub none_before : (ps : List Pair) (p q : Pair) → least ps ≡ Some p → Contains ps q → is_before q p ≡ false
none_before ps p q e c = not_before q.at q.rule p.at p.rule (all_behind ps p e q c)

-- ---- the least is one of the list

first_contained : (x : Pair) (ps : List Pair) → Contains (x ∷ ps) x
first_contained x ps = (zero, omega arith, refl)

further_contained : (x y : Pair) (ps : List Pair) → Contains ps y → Contains (x ∷ ps) y
further_contained x y ps (k, below, is) = (suc k, omega (arith, below), is)

contained_with : (x : Pair) (ps : List Pair) (o : Option Pair) → least ps ≡ o → ((y : Pair) → least ps ≡ Some y → Contains ps y) → (p : Pair) → lesser x o ≡ p → Contains (x ∷ ps) p
contained_with x ps None none all p e = subst (Contains (x ∷ ps)) e (first_contained x ps)
contained_with x ps (Some y) some all p e =
    ⊎_elim (λ h. subst (Contains (x ∷ ps)) (sym h.0) (further_contained x y ps (all y some))) (λ h. subst (Contains (x ∷ ps)) (sym h.0) (first_contained x ps)) (pick x y p e)

pub contained : (ps : List Pair) (p : Pair) → least ps ≡ Some p → Contains ps p
contained [] p e = cc
contained (x ∷ ps) p e = contained_with x ps (least ps) refl (contained ps) p (some_is (lesser x (least ps)) p e)
