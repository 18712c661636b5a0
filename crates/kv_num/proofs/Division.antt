-- Quotients and remainders by signs and absolute values.
use Rattle.std.proofs.Common.{arith, ◌≡◌, ℕ, zero, suc, ◌-◌, ◌/◌, ◌%◌, ◌^◌, ◌<◌, ◌≤◌, Bool, true, false, if◌then◌else◌, ℤ, pos, negsuc, neg_ℤ, ◌≤ℤ◌, refl, sym, ap, subst, ◌∙◌, ⊎_elim}
use Rattle.std.proofs.lemmas.Int.{ints, rem_below}
use Rattle.std.proofs.lemmas.Bool.{cases_lt}
use Rattle.std.proofs.lemmas.Bool.Decides.{nat_tests}
use Rattle.std.proofs.Math.Nat.{div-le_self, div-one}
use Rattle.std.proofs.lemmas.Nat.{pow_pos, div_below}
use Rattle.std.specs.Prelude.{unsigned_abs, int_rem, ◌≢◌}
use Rattle.std.specs.Int.{is_negative}
use lib.Signed.{mag}
use Rattle.kv_num.specs.declared.types.IntType.{IntType}
use Rattle.kv_num.specs.IntType.{width_of, signed_of, below_of, InRange}
use Rattle.kv_num.specs.Quotient.{quotient_of, remainder_of, IsLeastByMinusOne}
use Rattle.kv_num.specs.Bits.{differ}
use Rattle.kv_num.proofs.Range.{width_valid, range_over_zero, range_under_zero}
use Rattle.kv_num.proofs.Signs.{mag_signed, signed_mag, natural_unsigned, below_by}
use Rattle.kv_num.proofs.Held.{remainder_is, range-int_rem}

pub not_negative : (n : ℕ) → is_negative (pos n) ≡ false
not_negative n = grind (arith, nat_tests)

pub quotient_by_sign : (a b : ℤ) → quotient_of a b ≡ (if differ (is_negative a) (is_negative b) then neg_ℤ (pos (unsigned_abs a / unsigned_abs b)) else pos (unsigned_abs a / unsigned_abs b))
quotient_by_sign (pos a) (pos b) = sym (λ i. if differ (not_negative a i) (not_negative b i) then neg_ℤ (pos (a / b)) else pos (a / b))
quotient_by_sign (pos a) (negsuc b) = sym (λ i. if differ (not_negative a i) true then neg_ℤ (pos (a / suc b)) else pos (a / suc b))
quotient_by_sign (negsuc a) (pos b) = sym (λ i. if differ true (not_negative b i) then neg_ℤ (pos (suc a / b)) else pos (suc a / b))
quotient_by_sign (negsuc a) (negsuc b) = refl

rem_by_sign : (a b : ℤ) → int_rem a b ≡ (if is_negative a then neg_ℤ (pos (unsigned_abs a % unsigned_abs b)) else pos (unsigned_abs a % unsigned_abs b))
rem_by_sign (pos a) b = sym (λ i. if not_negative a i then neg_ℤ (pos (a % unsigned_abs b)) else pos (a % unsigned_abs b))
rem_by_sign (negsuc a) b = refl

pub remainder_by_sign : (a b : ℤ) → remainder_of a b ≡ (if is_negative a then neg_ℤ (pos (unsigned_abs a % unsigned_abs b)) else pos (unsigned_abs a % unsigned_abs b))
remainder_by_sign a b = sym (remainder_is a b) ∙ rem_by_sign a b

some_abs : (b : ℤ) → b ≢ pos 0 → 0 < unsigned_abs b
some_abs (pos zero) h = absurd (h refl)
some_abs (pos (suc b)) h = omega arith
some_abs (negsuc b) h = omega arith

pub remainder_small : (a b : ℤ) → b ≢ pos 0 → unsigned_abs (remainder_of a b) < unsigned_abs b
remainder_small a b h = subst (λ (r : ℤ). unsigned_abs r < unsigned_abs b) (remainder_is a b) (rem_below a b (some_abs b h))

pub range-remainder_of : (t : IntType) (a b : ℤ) → InRange t a → InRange t (remainder_of a b)
range-remainder_of t a b is = let P : ℤ → Type 0 = λ r. InRange t r in subst P (remainder_is a b) (range-int_rem (width_of t) (signed_of t) (width_valid t) a b is)

-- ---- which quotients fit

mag-neg : (n : ℕ) → mag (neg_ℤ (pos n)) ≤ n
mag-neg zero = omega arith
mag-neg (suc n) = omega arith

not_under : (n d : ℕ) → n ≤ suc d → negsuc d ≤ℤ neg_ℤ (pos n)
not_under zero d h = omega (arith, ints)
not_under (suc n) d h = omega (arith, ints)

not_over : (n : ℕ) → neg_ℤ (pos n) ≤ℤ pos 0
not_over zero = omega (arith, ints)
not_over (suc n) = omega (arith, ints)

below_half : (a b h : ℕ) → a < h → suc a / suc (suc b) < h
below_half a b h p = div_below (suc a) (suc (suc b)) h (omega arith) (omega arith)

halved : (t : IntType) → signed_of t ≡ true → below_of t ≡ 2 ^ (width_of t - 1)
halved t e = below_by (width_of t) (signed_of t) true e

never_negative : (t : IntType) (n : ℕ) → signed_of t ≡ false → InRange t (negsuc n) → ⊥
never_negative t n e is = let m = natural_unsigned (width_of t) (signed_of t) (negsuc n) e is in no_such n m.0 m.1
  where
    no_such : (n m : ℕ) → negsuc n ≡ pos m → ⊥
    no_such n m e = cc

one_by_one : (t : IntType) (a : ℕ) → signed_of t ≡ true → InRange t (negsuc a) → ¬ IsLeastByMinusOne t (negsuc a) (negsuc 0) → InRange t (pos (suc a / 1))
one_by_one t a e is other = ⊎_elim
    (λ low. signed_mag (width_of t) (signed_of t) (width_valid t) (pos (suc a / 1)) e (omega (arith, div-le_self (suc a) 1)))
    (λ high. let same : suc a ≡ below_of t = omega (arith, mag_signed (width_of t) (signed_of t) (width_valid t) (negsuc a) e is, halved t e) in
    absurd (other (record { signed = e; least = ap (λ n. neg_ℤ (pos n)) same; divisor = refl })))
    (cases_lt (suc a) (2 ^ (width_of t - 1)))

fits_by : (t : IntType) (a b : ℤ) (s : Bool) → signed_of t ≡ s → InRange t a → InRange t b → ¬ IsLeastByMinusOne t a b → InRange t (quotient_of a b)
fits_by t (pos a) (pos b) s e ia ib other = range_over_zero (width_of t) (signed_of t) (pos a) (pos (a / b)) ia (omega (arith, ints)) (omega (arith, ints, div-le_self a b))
fits_by t (negsuc a) (pos b) s e ia ib other = range_under_zero (width_of t) (signed_of t) (width_valid t) (negsuc a) (neg_ℤ (pos (suc a / b))) ia (not_under (suc a / b) a (div-le_self (suc a) b)) (not_over (suc a / b))
fits_by t (pos a) (negsuc b) true e ia ib other = signed_mag (width_of t) (signed_of t) (width_valid t) (neg_ℤ (pos (a / suc b))) e (omega (arith, mag-neg (a / suc b), div-le_self a (suc b), mag_signed (width_of t) (signed_of t) (width_valid t) (pos a) e ia))
fits_by t (pos a) (negsuc b) false e ia ib other = absurd (never_negative t b e ib)
fits_by t (negsuc a) (negsuc b) false e ia ib other = absurd (never_negative t b e ib)
fits_by t (negsuc a) (negsuc zero) true e ia ib other = one_by_one t a e ia other
fits_by t (negsuc a) (negsuc (suc b)) true e ia ib other = signed_mag (width_of t) (signed_of t) (width_valid t) (pos (suc a / suc (suc b))) e (below_half a b (2 ^ (width_of t - 1)) (mag_signed (width_of t) (signed_of t) (width_valid t) (negsuc a) e ia))

pub quotient_fits : (t : IntType) (a b : ℤ) → InRange t a → InRange t b → ¬ IsLeastByMinusOne t a b → InRange t (quotient_of a b)
quotient_fits t a b ia ib other = fits_by t a b (signed_of t) refl ia ib other

by_minus_one : (p : ℕ) → 0 < p → quotient_of (neg_ℤ (pos p)) (negsuc 0) ≡ pos p
by_minus_one zero h = absurd (omega arith)
by_minus_one (suc p) h = ap pos (div-one (suc p))

pub quotient_overflows : (t : IntType) (a b : ℤ) → IsLeastByMinusOne t a b → ¬ InRange t (quotient_of a b)
quotient_overflows t a b h is =
    let some : 0 < below_of t = omega (arith, halved t h.signed, pow_pos (width_of t - 1)) in
    let e : quotient_of a b ≡ pos (below_of t) = (λ i. quotient_of (h.least i) (h.divisor i)) ∙ by_minus_one (below_of t) some in
    let P : ℤ → Type 0 = λ z. InRange t z in
    let small : below_of t < 2 ^ (width_of t - 1) = mag_signed (width_of t) (signed_of t) (width_valid t) (pos (below_of t)) h.signed (subst P e is) in
    omega (arith, halved t h.signed)
