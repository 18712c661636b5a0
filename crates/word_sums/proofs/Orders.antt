-- Choices and comparisons of words.
use Rattle.std.proofs.Common.{ℕ, ◌≡◌, ◌<◌, ◌≤◌, ◌+◌, ◌*◌, ◌^◌, ◌==◌, nat_lt, Bool, true, false, not, ◌&&◌, List, [], ◌∷◌, ◌++◌, length, take, get_or, ℤ, pos, ◌+ℤ◌, ◌<ℤ◌, IsTrue, ◌↔◌, if◌then◌else◌, refl, sym, ap, ◌∙◌, arith, inl, inr, ◌⊎◌}
use Rattle.std.proofs.lemmas.Int.{ints}
use Rattle.std.proofs.lemmas.Bool.{cases_eq, eq-eqb, ne_eqb}
use Rattle.std.proofs.lemmas.Bool.Decides.{nat_tests}
use Rattle.std.proofs.lemmas.Grind.{common_steps}
use Rattle.kv_num.specs.Bits.{differ}
use Rattle.sat_clause.specs.Literals.{is_true, complement_of}
use Rattle.sat_clause.proofs.Truths.{is_true-complement}
use Rattle.word_sums.specs.Words.{bit, number}
use Rattle.word_sums.proofs.Numbers.{number-more, number-take, number-take_bound}

chosen_digit : (t : Bool) (p w n na nb na2 nb2 : ℕ) (d x y : Bool) → n ≡ w + p * bit d → na2 ≡ na + p * bit x → nb2 ≡ nb + p * bit y → w ≡ (if t then na else nb) → d ≡ (if t then x else y) → n ≡ (if t then na2 else nb2)
chosen_digit true p w n na nb na2 nb2 d x y e1 e2 e3 e4 e5 = e1 ∙ (ap (λ z. z + p * bit d) e4 ∙ (ap (λ z. na + p * bit z) e5 ∙ sym e2))
chosen_digit false p w n na nb na2 nb2 d x y e1 e2 e3 e4 e5 = e1 ∙ (ap (λ z. z + p * bit d) e4 ∙ (ap (λ z. nb + p * bit z) e5 ∙ sym e3))

-- one more digit of a choice
pub select_more : (A : ℕ → Bool) (i : ℕ) (t : Bool) (a b word new : List ℕ) (x y d : ℕ) → length word ≡ i → i < length a → i < length b → new ≡ word ++ d ∷ [] → x ≡ get_or a i x → y ≡ get_or b i y
    → number A word ≡ (if t then number A (take i a) else number A (take i b))
    → is_true A d ≡ (if t then is_true A x else is_true A y)
    → number A new ≡ (if t then number A (take (i + 1) a) else number A (take (i + 1) b))
select_more A i t a b word new x y d len ha hb p q r before digit =
    chosen_digit t (2 ^ i) (number A word) (number A new) (number A (take i a)) (number A (take i b)) (number A (take (i + 1) a)) (number A (take (i + 1) b)) (is_true A d) (is_true A x) (is_true A y)
    (number-more A i word new d len p) (number-take A i a x ha q) (number-take A i b y hb r) before digit

-- one more digit of a comparison
lower : (p na nb : ℕ) (x y l : Bool) → na < p → nb < p → l ≡ nat_lt na nb → (if differ x y then y else l) ≡ nat_lt (na + p * bit x) (nb + p * bit y)
lower p na nb true true l h k e = e ∙ grind (arith, common_steps)
lower p na nb true false l h k e = grind (arith, common_steps)
lower p na nb false true l h k e = grind (arith, common_steps)
lower p na nb false false l h k e = e ∙ grind (arith, common_steps)

pub less_more : (A : ℕ → Bool) (i : ℕ) (a b : List ℕ) (x y d l : ℕ) → i < length a → i < length b → x ≡ get_or a i x → y ≡ get_or b i y
    → is_true A l ≡ nat_lt (number A (take i a)) (number A (take i b))
    → is_true A d ≡ (if differ (is_true A x) (is_true A y) then is_true A y else is_true A l)
    → is_true A d ≡ nat_lt (number A (take (i + 1) a)) (number A (take (i + 1) b))
less_more A i a b x y d l ha hb q r before digit =
    digit ∙ (lower (2 ^ i) _ _ (is_true A x) (is_true A y) (is_true A l) (number-take_bound A i a ha) (number-take_bound A i b hb) before
    ∙ (ap (λ z. nat_lt z (number A (take i b) + 2 ^ i * bit (is_true A y))) (sym (number-take A i a x ha q)) ∙ ap (λ z. nat_lt (number A (take (i + 1) a)) z) (sym (number-take A i b y hb r))))

and_true : (s : Bool) → (s && true) ≡ s
and_true true = refl
and_true false = refl

and_false : (s : Bool) → (s && false) ≡ false
and_false true = refl
and_false false = refl

-- one more digit of an equality
same : (p na nb : ℕ) (x y s : Bool) → na < p → nb < p → s ≡ (na == nb) → (s && not (differ x y)) ≡ ((na + p * bit x) == (nb + p * bit y))
same p na nb true true s h k e = and_true s ∙ (e ∙ by (cases_eq na nb))
  where
    by : (na ≡ nb) ⊎ (na ≡ nb → ⊥) → (na == nb) ≡ ((na + p * 1) == (nb + p * 1))
    by (inl q) = eq-eqb na nb q ∙ sym (eq-eqb (na + p * 1) (nb + p * 1) (omega arith))
    by (inr q) = ne_eqb na nb q ∙ sym (ne_eqb (na + p * 1) (nb + p * 1) (λ (z : na + p * 1 ≡ nb + p * 1). q (omega arith)))
same p na nb true false s h k e = and_false s ∙ sym (ne_eqb (na + p * 1) (nb + p * 0) (λ (z : na + p * 1 ≡ nb + p * 0). omega arith))
same p na nb false true s h k e = and_false s ∙ sym (ne_eqb (na + p * 0) (nb + p * 1) (λ (z : na + p * 0 ≡ nb + p * 1). omega arith))
same p na nb false false s h k e = and_true s ∙ (e ∙ by (cases_eq na nb))
  where
    by : (na ≡ nb) ⊎ (na ≡ nb → ⊥) → (na == nb) ≡ ((na + p * 0) == (nb + p * 0))
    by (inl q) = eq-eqb na nb q ∙ sym (eq-eqb (na + p * 0) (nb + p * 0) (omega arith))
    by (inr q) = ne_eqb na nb q ∙ sym (ne_eqb (na + p * 0) (nb + p * 0) (λ (z : na + p * 0 ≡ nb + p * 0). q (omega arith)))

pub equal_more : (A : ℕ → Bool) (i : ℕ) (a b : List ℕ) (x y d o n l : ℕ) → i < length a → i < length b → x ≡ get_or a i x → y ≡ get_or b i y
    → is_true A l ≡ (number A (take i a) == number A (take i b))
    → is_true A o ≡ differ (is_true A x) (is_true A y)
    → n ≡ complement_of o
    → is_true A d ≡ (is_true A l && is_true A n)
    → is_true A d ≡ (number A (take (i + 1) a) == number A (take (i + 1) b))
equal_more A i a b x y d o n l ha hb q r before odd turned digit =
    digit ∙ (ap (λ z. is_true A l && z) (ap (is_true A) turned ∙ (is_true-complement A o ∙ ap not odd)) ∙ (same (2 ^ i) (number A (take i a)) (number A (take i b)) (is_true A x) (is_true A y) (is_true A l) (number-take_bound A i a ha) (number-take_bound A i b hb) before
    ∙ (ap (λ z. z == (number A (take i b) + 2 ^ i * bit (is_true A y))) (sym (number-take A i a x ha q)) ∙ ap (λ z. number A (take (i + 1) a) == z) (sym (number-take A i b y hb r)))))

ordered : (m n : ℕ) (a b : ℤ) (h : ℕ) (l : Bool) → pos m ≡ a +ℤ pos h → pos n ≡ b +ℤ pos h → l ≡ nat_lt m n → IsTrue l ↔ (a <ℤ b)
ordered m n a b h true e f g =
    let lt : m < n = grind (arith, nat_tests) in
    (λ t. omega (arith, ints), λ t. refl)
ordered m n a b h false e f g =
    let ge : n ≤ m = grind (arith, nat_tests) in
    (λ t. absurd (cc), λ (t : a <ℤ b). absurd (omega (arith, ints)))

pub less_value : (A : ℕ → Bool) (m n : ℕ) (a b : ℤ) (h : ℕ) (l : Bool) → pos m ≡ a +ℤ pos h → pos n ≡ b +ℤ pos h → l ≡ nat_lt m n → IsTrue l ↔ (a <ℤ b)
less_value A m n a b h l e f g = ordered m n a b h l e f g
