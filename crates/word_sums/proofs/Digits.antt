-- Sums and choices of single bits.
use Rattle.std.proofs.Common.{ℕ, ◌≡◌, ◌+◌, ◌*◌, Bool, true, false, not, ◌&&◌, ◌||◌, if◌then◌else◌, refl, ap, ◌∙◌}
use Rattle.kv_num.specs.Bits.{differ}
use Rattle.sat_clause.specs.Literals.{complement_of, is_true}
use Rattle.sat_clause.proofs.Truths.{is_true-complement}
use Rattle.word_sums.specs.Words.{bit}

not_neither : (a b : Bool) → not (not a && not b) ≡ (a || b)
not_neither true b = refl
not_neither false true = refl
not_neither false false = refl

pub or_value : (A : ℕ → Bool) (a b na nb neither out : ℕ) → na ≡ complement_of a → nb ≡ complement_of b → is_true A neither ≡ (is_true A na && is_true A nb) → out ≡ complement_of neither → is_true A out ≡ (is_true A a || is_true A b)
or_value A a b na nb neither out p q h r =
    let e1 : is_true A na ≡ not (is_true A a) = ap (is_true A) p ∙ is_true-complement A a in
    let e2 : is_true A nb ≡ not (is_true A b) = ap (is_true A) q ∙ is_true-complement A b in
    let e3 : is_true A neither ≡ (not (is_true A a) && not (is_true A b)) = h ∙ (ap (λ z. z && is_true A nb) e1 ∙ ap (λ z. not (is_true A a) && z) e2) in
    ap (is_true A) r ∙ (is_true-complement A neither ∙ (ap not e3 ∙ not_neither (is_true A a) (is_true A b)))

sum_of_bits : (a b c : Bool) → bit (differ (differ a c) b) + 2 * bit (differ (differ a c && differ b c) c) ≡ bit a + bit b + bit c
sum_of_bits true true true = refl
sum_of_bits true true false = refl
sum_of_bits true false true = refl
sum_of_bits true false false = refl
sum_of_bits false true true = refl
sum_of_bits false true false = refl
sum_of_bits false false true = refl
sum_of_bits false false false = refl

pub sum_bits : (a b c left right digit turn : Bool) → left ≡ differ a c → right ≡ differ b c → digit ≡ differ left b → turn ≡ (left && right) → bit digit + 2 * bit (differ turn c) ≡ bit a + bit b + bit c
sum_bits a b c left right digit turn p q r s =
    let e : digit ≡ differ (differ a c) b = r ∙ ap (λ z. differ z b) p in
    let f : turn ≡ (differ a c && differ b c) = s ∙ (ap (λ z. z && right) p ∙ ap (λ z. differ a c && z) q) in
    ap (λ z. bit z + 2 * bit (differ turn c)) e ∙ (ap (λ z. bit (differ (differ a c) b) + 2 * bit (differ z c)) f ∙ sum_of_bits a b c)

lower_of_bits : (a b l : Bool) → differ (differ (not a) l && differ b l) l ≡ (if differ a b then b else l)
lower_of_bits true true true = refl
lower_of_bits true true false = refl
lower_of_bits true false true = refl
lower_of_bits true false false = refl
lower_of_bits false true true = refl
lower_of_bits false true false = refl
lower_of_bits false false true = refl
lower_of_bits false false false = refl

pub lower_bits : (a b l n left right turn out : Bool) → n ≡ not a → left ≡ differ n l → right ≡ differ b l → turn ≡ (left && right) → out ≡ differ turn l → out ≡ (if differ a b then b else l)
lower_bits a b l n left right turn out o p q r s =
    let e : left ≡ differ (not a) l = p ∙ ap (λ z. differ z l) o in
    let f : turn ≡ (differ (not a) l && differ b l) = r ∙ (ap (λ z. z && right) e ∙ ap (λ z. differ (not a) l && z) q) in
    s ∙ (ap (λ z. differ z l) f ∙ lower_of_bits a b l)

-- whether a sum is past its width, from what is carried in at its top and whether what is carried out differs
pub over_turned : (signed turn into : Bool) → (if signed then turn else differ turn into) ≡ (if signed then differ into (differ turn into) else differ turn into)
over_turned true true true = refl
over_turned true true false = refl
over_turned true false true = refl
over_turned true false false = refl
over_turned false turn into = refl

chosen_bit : (t y n : Bool) → differ (t && differ y n) n ≡ (if t then y else n)
chosen_bit true true true = refl
chosen_bit true true false = refl
chosen_bit true false true = refl
chosen_bit true false false = refl
chosen_bit false y n = refl

pub chosen : (t y n odd turn out : Bool) → odd ≡ differ y n → turn ≡ (t && odd) → out ≡ differ turn n → out ≡ (if t then y else n)
chosen t y n odd turn out p q r = r ∙ (ap (λ z. differ z n) (q ∙ ap (λ z. t && z) p) ∙ chosen_bit t y n)

pub ruleset truths = (is_true-complement)
