-- What the machine's 128 bits hold of numbers of a type, and of their quotients, products and multiples.
use Rattle.std.proofs.Common.{arith, ◌≡◌, ℕ, suc, ◌+◌, ◌-◌, ◌*◌, ◌%◌, ◌^◌, ◌<◌, ◌≤◌, Bool, true, false, nat_lt, cond, not, ℤ, pos, negsuc, ◌+ℤ◌, ◌-ℤ◌, ◌*ℤ◌, ◌≤ℤ◌, ◌<ℤ◌, FitsSigned, to_z, of_z, lit<, refl, sym, ap, subst, ◌∙◌}
use Rattle.std.proofs.lemmas.Int.{ints, to_z-of_z, to_z_pos, fits_signed_from_abs, fits_signed_mul, quot-rem, int_wrap_fits, SFits-int_wrap, wrapping_mul_is}
use Rattle.std.proofs.lemmas.Nat.{pow_pos, pow_below, pow-add, one_shl}
use Rattle.std.proofs.Math.Nat.{div-le_self, mod-le, pow-le-pow_right}
use Rattle.std.specs.Prelude.{unsigned_abs, int_div, int_rem, IsTrue, ◌↔◌}
use Rattle.std.specs.Int.{w128, int_wrap, int_wrapping_mul, int_rem_euclid}
use Rattle.std.specs.Bool.{FalseIff}
use Rattle.std.proofs.lemmas.Bool.{false≢true}
use lib.Signed.{le_z}
use Rattle.kv_num.specs.Shape.{below_at, InShape, wrap_at, IsWidth}
use Rattle.kv_num.specs.Quotient.{remainder_of}
use Rattle.kv_num.proofs.Shapes.{wrap_at-congruent}
use Rattle.kv_num.proofs.Range.{size_most, below_most, abs_below, range_over_zero, range_under_zero}
use Rattle.kv_num.proofs.Congruence.{rem_congruent, rem_most, pos-rem}
use Rattle.kv_num.proofs.Patterns.{low_bits-congruent}
use Rattle.kv_num.proofs.Ring.{more_multiple, times-times}

pub held : (width : ℕ) (signed : Bool) (valid : IsWidth width) (n : ℤ) → InShape width signed n → FitsSigned w128 n
held width signed valid n is = fits_signed_from_abs w128 n (omega (arith, abs_below width signed valid n is))

pub fits_as : (width : ℕ) (signed : Bool) (b : Bool) (m n : ℤ) → m ≡ n → IsTrue b ↔ InShape width signed m → IsTrue b ↔ InShape width signed n
fits_as width signed b m n e h = let P : ℤ → Type 0 = λ z. IsTrue b ↔ InShape width signed z in subst P e h

-- ---- sums and differences

pub held_sum : (a b : ℤ) → FitsSigned w128 a → FitsSigned w128 b → FitsSigned w128 (a +ℤ b) → to_z w128 (of_z w128 (to_z w128 (of_z w128 a) +ℤ to_z w128 (of_z w128 b))) ≡ a +ℤ b
held_sum a b fa fb fab = simp to_z-of_z

pub held_difference : (a b : ℤ) → FitsSigned w128 a → FitsSigned w128 b → FitsSigned w128 (a -ℤ b) → to_z w128 (of_z w128 (to_z w128 (of_z w128 a) -ℤ to_z w128 (of_z w128 b))) ≡ a -ℤ b
held_difference a b fa fb fab = simp to_z-of_z

-- a sum and a difference of two numbers of a shape
both_fit : (a b : ℤ) (s c : ℕ) → s ≤ 2 ^ 64 → c ≤ 2 ^ 63 → pos 0 ≤ℤ (a +ℤ pos c) → (a +ℤ pos c) <ℤ pos s → pos 0 ≤ℤ (b +ℤ pos c) → (b +ℤ pos c) <ℤ pos s → (unsigned_abs (a +ℤ b) < 2 ^ 66) × (unsigned_abs (a -ℤ b) < 2 ^ 66)
both_fit a b s c hs hc la ma lb mb = (omega (arith, ints), omega (arith, ints))

pub sum_held : (width : ℕ) (signed : Bool) (valid : IsWidth width) (a b : ℤ) → InShape width signed a → InShape width signed b → FitsSigned w128 (a +ℤ b)
sum_held width signed valid a b ia ib =
    let fit = both_fit a b (2 ^ width) (below_at width signed) (size_most width valid) (below_most width signed valid) ia.least ia.most ib.least ib.most in
    fits_signed_from_abs w128 (a +ℤ b) (omega (arith, fit.0))

pub difference_held : (width : ℕ) (signed : Bool) (valid : IsWidth width) (a b : ℤ) → InShape width signed a → InShape width signed b → FitsSigned w128 (a -ℤ b)
difference_held width signed valid a b ia ib =
    let fit = both_fit a b (2 ^ width) (below_at width signed) (size_most width valid) (below_most width signed valid) ia.least ia.most ib.least ib.most in
    fits_signed_from_abs w128 (a -ℤ b) (omega (arith, fit.1))

-- ---- the wrapped number, as the code computes it

moved_on : (n r k : ℤ) (b : ℕ) → n ≡ r +ℤ k → n +ℤ pos b ≡ (r +ℤ pos b) +ℤ k
moved_on n r k b e = omega (arith, ints)

-- to take the remainder first changes no remainder of a sum
rem-sum : (w : ℕ) (n : ℤ) (b : ℕ) → int_rem_euclid (int_rem_euclid n (pos (2 ^ w)) +ℤ pos b) (pos (2 ^ w)) ≡ int_rem_euclid (n +ℤ pos b) (pos (2 ^ w))
rem-sum w n b =
    let r : ℤ = int_rem_euclid n (pos (2 ^ w)) in
    let c = rem_congruent n (2 ^ w) (pow_pos w) in
    let e = low_bits-congruent w (n +ℤ pos b) (r +ℤ pos b) c.0 (moved_on n r (c.0 *ℤ pos (2 ^ w)) b c.1) in
    pos-rem (r +ℤ pos b) (2 ^ w) ∙ (ap pos (sym e) ∙ sym (pos-rem (n +ℤ pos b) (2 ^ w)))

rem_held : (n : ℤ) (s b : ℕ) → 0 < s → s ≤ 2 ^ 64 → b ≤ 2 ^ 63 → (unsigned_abs (int_rem_euclid n (pos s)) < 2 ^ 65) × (unsigned_abs (int_rem_euclid n (pos s) +ℤ pos b) < 2 ^ 65) × (unsigned_abs (int_rem_euclid n (pos s) -ℤ pos b) < 2 ^ 65)
rem_held n s b some hs hb =
    let small = rem_most n s some in
    let e = pos-rem n s in
    let P : ℤ → Type 0 = λ z. (unsigned_abs z < 2 ^ 65) × (unsigned_abs (z +ℤ pos b) < 2 ^ 65) × (unsigned_abs (z -ℤ pos b) < 2 ^ 65) in
    subst P (sym e) (by_number (unsigned_abs (int_rem_euclid n (pos s))) s b small hs hb)
  where
    by_number : (r s b : ℕ) → r < s → s ≤ 2 ^ 64 → b ≤ 2 ^ 63 → (unsigned_abs (pos r) < 2 ^ 65) × (unsigned_abs (pos r +ℤ pos b) < 2 ^ 65) × (unsigned_abs (pos r -ℤ pos b) < 2 ^ 65)
    by_number r s b h hs hb = (omega (arith, ints), omega (arith, ints), omega (arith, ints))

fits_by_abs : (z : ℤ) → unsigned_abs z < 2 ^ 65 → FitsSigned w128 z
fits_by_abs z h = fits_signed_from_abs w128 z (omega arith)

-- With 2 to the width and how many numbers are negative: the remainder by the first, of which the second is added,
-- its remainder again, and the second taken away, is the wrapped number.
pub wrap_computed : (width : ℕ) (signed : Bool) (valid : IsWidth width) (n s b r q : ℤ) → FitsSigned w128 n → s ≡ pos (2 ^ width) → b ≡ pos (below_at width signed)
    → r ≡ int_rem_euclid (to_z w128 (of_z w128 n)) (to_z w128 (of_z w128 s))
    → q ≡ int_rem_euclid (to_z w128 (of_z w128 (to_z w128 (of_z w128 r) +ℤ to_z w128 (of_z w128 b)))) (to_z w128 (of_z w128 s))
    → to_z w128 (of_z w128 (to_z w128 (of_z w128 q) -ℤ to_z w128 (of_z w128 b))) ≡ wrap_at width signed n
wrap_computed width signed valid n s b r q fn es eb er eq =
    let size : ℕ = 2 ^ width in
    let below : ℕ = below_at width signed in
    let hs = size_most width valid in
    let hb = below_most width signed valid in
    let held_s : to_z w128 (of_z w128 s) ≡ pos size = ap (λ z. to_z w128 (of_z w128 z)) es ∙ to_z-of_z w128 (pos size) (fits_signed_from_abs w128 (pos size) (omega (arith, hs))) in
    let fb : FitsSigned w128 (pos below) = fits_signed_from_abs w128 (pos below) (omega (arith, hb)) in
    let first = rem_held n size below (pow_pos width) hs hb in
    let second = rem_held (n +ℤ pos below) size below (pow_pos width) hs hb in
    let r_is : r ≡ int_rem_euclid n (pos size) = er ∙ (λ i. int_rem_euclid (to_z-of_z w128 n fn i) (held_s i)) in
    let sum_is : to_z w128 (of_z w128 (to_z w128 (of_z w128 r) +ℤ to_z w128 (of_z w128 b))) ≡ int_rem_euclid n (pos size) +ℤ pos below =
    (λ i. to_z w128 (of_z w128 (to_z w128 (of_z w128 (r_is i)) +ℤ to_z w128 (of_z w128 (eb i)))))
    ∙ held_sum (int_rem_euclid n (pos size)) (pos below) (fits_by_abs _ first.0) fb (fits_by_abs _ first.1) in
    let q_is : q ≡ int_rem_euclid (n +ℤ pos below) (pos size) = eq ∙ ((λ i. int_rem_euclid (sum_is i) (held_s i)) ∙ rem-sum width n below) in
    (λ i. to_z w128 (of_z w128 (to_z w128 (of_z w128 (q_is i)) -ℤ to_z w128 (of_z w128 (eb i)))))
    ∙ held_difference (int_rem_euclid (n +ℤ pos below) (pos size)) (pos below) (fits_by_abs _ second.0) fb (fits_by_abs _ second.2)

-- ---- quotients and remainders

abs-int_div : (a b : ℤ) → unsigned_abs (int_div a b) ≤ unsigned_abs a
abs-int_div (pos a) (pos b) = div-le_self a b
abs-int_div (pos a) (negsuc b) = omega (arith, ints, div-le_self a (suc b))
abs-int_div (negsuc a) (pos b) = omega (arith, ints, div-le_self (suc a) b)
abs-int_div (negsuc a) (negsuc b) = div-le_self (suc a) (suc b)

pub quotient_held : (width : ℕ) (signed : Bool) (valid : IsWidth width) (a b : ℤ) → InShape width signed a → FitsSigned w128 (int_div a b)
quotient_held width signed valid a b is = fits_signed_from_abs w128 (int_div a b) (omega (arith, abs-int_div a b, abs_below width signed valid a is))

what_is_left : (a q r : ℤ) → q +ℤ r ≡ a → r ≡ a -ℤ q
what_is_left a q r e = omega (arith, ints)

pub remainder_is : (a b : ℤ) → int_rem a b ≡ remainder_of a b
remainder_is a b = what_is_left a (int_div a b *ℤ b) (int_rem a b) (quot-rem a b)

under_zero : (n d : ℕ) → n ≤ suc d → negsuc d ≤ℤ (pos 0 -ℤ pos n)
under_zero n d h = omega (arith, ints)

pub range-int_rem : (width : ℕ) (signed : Bool) (valid : IsWidth width) (a b : ℤ) → InShape width signed a → InShape width signed (int_rem a b)
range-int_rem width signed valid (pos a) b is = range_over_zero width signed (pos a) (pos (a % unsigned_abs b)) is (omega (arith, ints)) (omega (arith, ints, mod-le a (unsigned_abs b)))
range-int_rem width signed valid (negsuc a) b is = range_under_zero width signed valid (negsuc a) (int_rem (negsuc a) b) is (omega (arith, ints, mod-le (suc a) (unsigned_abs b))) (omega (arith, ints))

-- ---- products

signed_by : (m h : ℕ) (b : Bool) → nat_lt m h ≡ b → m < h + h → (k : ℤ) × (pos m ≡ cond b (pos m) (negsuc (h + h - suc m)) +ℤ (k *ℤ pos (h + h)))
signed_by m h true e small = (pos 0, omega (arith, ints))
signed_by m h false e small = (pos 1, omega (arith, ints))

pub signed_congruent : (m : ℕ) → m < 2 ^ 128 → (k : ℤ) × (pos m ≡ to_z w128 m +ℤ (k *ℤ pos (2 ^ 128)))
signed_congruent m small = signed_by m (2 ^ 127) (nat_lt m (2 ^ 127)) refl small

size_divides : (w : ℕ) → w ≤ 64 → 2 ^ 128 ≡ 2 ^ (128 - w) * 2 ^ w
size_divides w h = ap (λ n. 2 ^ n) whole ∙ pow-add 2 (128 - w) w
  where
    whole : 128 ≡ 128 - w + w
    whole = omega arith

in_sizes : (k m s : ℤ) (whole : ℤ) → whole ≡ m *ℤ s → k *ℤ whole ≡ (k *ℤ m) *ℤ s
in_sizes k m s whole e = ap (λ x. k *ℤ x) e ∙ sym (times-times k m s)

-- what is left of a number in 128 bits is wrapped as the number is
pub wrap_at-int_wrap : (width : ℕ) (signed : Bool) (valid : IsWidth width) (z : ℤ) → wrap_at width signed (int_wrap w128 z) ≡ wrap_at width signed z
unfolding int_wrap
wrap_at-int_wrap width signed valid z =
    let small : unsigned_abs (int_rem_euclid z (pos (2 ^ 128))) < 2 ^ 128 = rem_most z (2 ^ 128) (pow_pos 128) in
    let p = rem_congruent z (2 ^ 128) (pow_pos 128) in
    let q = signed_congruent (unsigned_abs (int_rem_euclid z (pos (2 ^ 128)))) small in
    let k : ℤ = q.0 +ℤ p.0 in
    let m : ℤ = pos (2 ^ (128 - width)) in
    sym (wrap_at-congruent width signed z (int_wrap w128 z) (k *ℤ m) (more_multiple z (int_rem_euclid z (pos (2 ^ 128))) (int_wrap w128 z) q.0 p.0 (pos (2 ^ 128)) p.1 (pos-rem z (2 ^ 128) ∙ q.1)
    ∙ ap (λ x. int_wrap w128 z +ℤ x) (in_sizes k m (pos (2 ^ width)) (pos (2 ^ 128)) (ap pos (size_divides width valid.few)))))

-- what the machine's wrapping product is
pub held_product : (a b p : ℤ) → FitsSigned w128 a → FitsSigned w128 b → p ≡ int_wrapping_mul w128 (to_z w128 (of_z w128 a)) (to_z w128 (of_z w128 b)) → to_z w128 (of_z w128 p) ≡ int_wrap w128 (a *ℤ b)
held_product a b p fa fb e =
    ap (λ z. to_z w128 (of_z w128 z)) (e ∙ ((λ i. int_wrapping_mul w128 (to_z-of_z w128 a fa i) (to_z-of_z w128 b fb i)) ∙ wrapping_mul_is w128 a b fa fb))
    ∙ to_z-of_z w128 (int_wrap w128 (a *ℤ b)) (SFits-int_wrap w128 (a *ℤ b))

held_factors : (a b : ℤ) → FitsSigned w128 a → FitsSigned w128 b → to_z w128 (of_z w128 a) *ℤ to_z w128 (of_z w128 b) ≡ a *ℤ b
held_factors a b fa fb = λ i. to_z-of_z w128 a fa i *ℤ to_z-of_z w128 b fb i

-- where the product is not over, it is exact
pub exact_product : (a b p : ℤ) (over : Bool) → FitsSigned w128 a → FitsSigned w128 b → p ≡ int_wrapping_mul w128 (to_z w128 (of_z w128 a)) (to_z w128 (of_z w128 b))
    → FalseIff over (FitsSigned w128 (to_z w128 (of_z w128 a) *ℤ to_z w128 (of_z w128 b))) → over ≡ false → to_z w128 (of_z w128 p) ≡ a *ℤ b
exact_product a b p true fa fb e o h = absurd (false≢true (sym h))
exact_product a b p false fa fb e o h = let P : ℤ → Type 0 = λ z. FitsSigned w128 z in held_product a b p fa fb e ∙ int_wrap_fits w128 (a *ℤ b) (subst P (held_factors a b fa fb) o)

-- where it is over, it is out of the type's range
pub over_product : (width : ℕ) (signed : Bool) (valid : IsWidth width) (a b : ℤ) (over : Bool) → FitsSigned w128 a → FitsSigned w128 b → FalseIff over (FitsSigned w128 (to_z w128 (of_z w128 a) *ℤ to_z w128 (of_z w128 b))) → over ≡ true → IsTrue (not over) ↔ InShape width signed (a *ℤ b)
over_product width signed valid a b true fa fb o h = let P : ℤ → Type 0 = λ z. FitsSigned w128 z in (λ s. absurd (false≢true s), λ is. absurd (o (subst P (sym (held_factors a b fa fb)) (held width signed valid (a *ℤ b) is))))
over_product width signed valid a b false fa fb o h = absurd (false≢true h)

-- ---- multiples by powers of 2

pub held_power : (d : ℕ) → d < 64 → to_z w128 (1 * 2 ^ d % 2 ^ 128) ≡ pos (2 ^ d)
held_power d h = ap (to_z w128) (one_shl d 128 (omega arith)) ∙ to_z_pos w128 (2 ^ d) (pow_below d 127 (omega arith))

pub multiple_held : (width : ℕ) (signed : Bool) (valid : IsWidth width) (a : ℤ) (d : ℕ) → InShape width signed a → d < width → FitsSigned w128 (a *ℤ pos (2 ^ d))
multiple_held width signed valid a d is h = fits_signed_mul w128 a (pos (2 ^ d)) (2 ^ 64 - 1) (2 ^ 63) (omega (arith, abs_below width signed valid a is)) (pow-le-pow_right {n = 2} (lit< tt) {i = d} {j = 63} (omega (arith, valid.few))) (lit< tt)

pub held_multiple : (width : ℕ) (signed : Bool) (valid : IsWidth width) (a : ℤ) (d : ℕ) → InShape width signed a → d < width → to_z w128 (of_z w128 (to_z w128 (of_z w128 a) *ℤ to_z w128 (1 * 2 ^ d % 2 ^ 128))) ≡ a *ℤ pos (2 ^ d)
held_multiple width signed valid a d is h =
    (λ i. to_z w128 (of_z w128 (to_z-of_z w128 a (held width signed valid a is) i *ℤ held_power d (omega (arith, valid.few)) i)))
    ∙ to_z-of_z w128 (a *ℤ pos (2 ^ d)) (multiple_held width signed valid a d is h)

pub multiple_checked : (width : ℕ) (signed : Bool) (valid : IsWidth width) (a : ℤ) (d : ℕ) → InShape width signed a → d < width → FitsSigned w128 (to_z w128 (of_z w128 a) *ℤ to_z w128 (1 * 2 ^ d % 2 ^ 128))
multiple_checked width signed valid a d is h =
    let P : ℤ → Type 0 = λ z. FitsSigned w128 z in
    let e : to_z w128 (of_z w128 a) *ℤ to_z w128 (1 * 2 ^ d % 2 ^ 128) ≡ a *ℤ pos (2 ^ d) = λ i. to_z-of_z w128 a (held width signed valid a is) i *ℤ held_power d (omega (arith, valid.few)) i in
    subst P (sym e) (multiple_held width signed valid a d is h)

at_least_zero : (a : ℤ) → FitsSigned w128 a → le_z (pos 0) (to_z w128 (of_z w128 a)) ≡ true → pos 0 ≤ℤ a
at_least_zero a f e = omega (arith, ints)

below_zero : (a : ℤ) → FitsSigned w128 a → le_z (pos 0) (to_z w128 (of_z w128 a)) ≡ false → pos 0 ≤ℤ a → ⊥
below_zero a f e h = omega (arith, ints)

-- the test of `shl`, where the first part passes and where it fails
pub shift_passes : (width : ℕ) (signed : Bool) (a m n : ℤ) (r b : Bool) → FitsSigned w128 a → r ≡ b → le_z (pos 0) (to_z w128 (of_z w128 a)) ≡ true → IsTrue b ↔ InShape width signed m → m ≡ n → IsTrue r ↔ ((pos 0 ≤ℤ a) × InShape width signed n)
shift_passes width signed a m n r b f same test h e =
    let k = fits_as width signed b m n e h in
    (λ s. (at_least_zero a f test, k.0 (subst (λ (x : Bool). IsTrue x) same s)), λ w. subst (λ (x : Bool). IsTrue x) (sym same) (k.1 w.1))

pub shift_fails : (width : ℕ) (signed : Bool) (a n : ℤ) (r : Bool) → FitsSigned w128 a → r ≡ le_z (pos 0) (to_z w128 (of_z w128 a)) → le_z (pos 0) (to_z w128 (of_z w128 a)) ≡ false → IsTrue r ↔ ((pos 0 ≤ℤ a) × InShape width signed n)
shift_fails width signed a n r f same test =
    (λ s. absurd (false≢true (subst (λ (x : Bool). IsTrue x) (same ∙ test) s)), λ w. absurd (below_zero a f test w.0))
