-- Products with powers of 2, and quotients by them.
use Rattle.std.proofs.Common.{arith, ◌≡◌, ℕ, ◌+◌, ◌-◌, ◌*◌, ◌/◌, ◌%◌, ◌^◌, ◌<◌, ◌==◌, false, ℤ, pos, negsuc, ◌+ℤ◌, ◌*ℤ◌, ◌≤ℤ◌, ◌<ℤ◌, sym, ap, subst, ◌∙◌, Bool}
use Rattle.std.proofs.lemmas.Int.{ints}
use Rattle.std.proofs.lemmas.Nat.{pow_pos, pow-add, shr-shr, shl-shr, shr_split, mod_below, shr_high, shr_le}
use Rattle.std.specs.Prelude.{unsigned_abs}
use Rattle.std.specs.Int.{int_rem_euclid}
use Rattle.kv_num.specs.Shape.{InShape, wrap_at, IsWidth}
use Rattle.kv_num.specs.Shift.{left_of, right_of}
use Rattle.kv_num.specs.Bits.{bit_of}
use Rattle.kv_num.proofs.Shapes.{wrap_at-mul_left}
use Rattle.kv_num.proofs.Range.{range_over_zero, range_under_zero}
use Rattle.kv_num.proofs.Ring.{times-add, times-times}

floor_from : (n q r s : ℕ) → q * s + r ≡ n → r < s → ((pos q *ℤ pos s) ≤ℤ pos n) × (pos n <ℤ ((pos q +ℤ pos 1) *ℤ pos s))
floor_from n q r s e h = (omega (arith, ints), omega (arith, ints))

floor_under : (n q r s : ℕ) → q * s + r ≡ n → r < s → ((negsuc q *ℤ pos s) ≤ℤ negsuc n) × (negsuc n <ℤ ((negsuc q +ℤ pos 1) *ℤ pos s))
floor_under n q r s e h = (omega (arith, ints), subst (λ (z : ℤ). negsuc n <ℤ z) (sym (times-add (negsuc q) (pos 1) (pos s))) (omega (arith, ints)))

-- rounded down
pub right_floor : (a : ℤ) (d : ℕ) → ((right_of a d *ℤ pos (2 ^ d)) ≤ℤ a) × (a <ℤ ((right_of a d +ℤ pos 1) *ℤ pos (2 ^ d)))
right_floor (pos n) d = floor_from n (n / 2 ^ d) (n % 2 ^ d) (2 ^ d) (shr_split n d) (mod_below n (2 ^ d) (pow_pos d))
right_floor (negsuc n) d = floor_under n (n / 2 ^ d) (n % 2 ^ d) (2 ^ d) (shr_split n d) (mod_below n (2 ^ d) (pow_pos d))

pub right_of-right_of : (a : ℤ) (d e : ℕ) → right_of (right_of a d) e ≡ right_of a (d + e)
right_of-right_of (pos n) d e = ap pos (shr-shr n d e)
right_of-right_of (negsuc n) d e = ap negsuc (shr-shr n d e)

pub left_of-left_of : (a : ℤ) (d e : ℕ) → left_of (left_of a d) e ≡ left_of a (d + e)
left_of-left_of a d e = times-times a (pos (2 ^ d)) (pos (2 ^ e)) ∙ ap (λ n. a *ℤ pos n) (sym (pow-add 2 d e))

pub wrap_at-left_of : (width : ℕ) (signed : Bool) (a : ℤ) (d : ℕ) → wrap_at width signed (left_of (wrap_at width signed a) d) ≡ wrap_at width signed (left_of a d)
wrap_at-left_of width signed a d = wrap_at-mul_left width signed a (pos (2 ^ d))

under_multiple : (n s : ℕ) → 0 < s → negsuc n *ℤ pos s ≡ negsuc (n * s + (s - 1))
under_multiple n s h = omega (arith, ints)

-- a shift to the right undoes one to the left
pub right_of-left_of : (a : ℤ) (d : ℕ) → right_of (left_of a d) d ≡ a
right_of-left_of (pos n) d = ap pos (shl-shr n d)
right_of-left_of (negsuc n) d =
    let s = pow_pos d in
    ap (λ z. right_of z d) (under_multiple n (2 ^ d) s) ∙ ap negsuc (shr_high n d (2 ^ d - 1) (omega arith))

pub range-right_of : (width : ℕ) (signed : Bool) (valid : IsWidth width) (a : ℤ) (d : ℕ) → InShape width signed a → InShape width signed (right_of a d)
range-right_of width signed valid (pos n) d is = range_over_zero width signed (pos n) (pos (n / 2 ^ d)) is (omega (arith, ints)) (omega (arith, ints, shr_le n d))
range-right_of width signed valid (negsuc n) d is = range_under_zero width signed valid (negsuc n) (negsuc (n / 2 ^ d)) is (omega (arith, ints, shr_le n d)) (omega (arith, ints))

-- ---- the bits of shifted numbers

pub bit_of-right_of : (a : ℤ) (d k : ℕ) → bit_of (right_of a d) k ≡ bit_of a (d + k)
bit_of-right_of a d k = ap (λ z. unsigned_abs (int_rem_euclid z (pos 2)) == 1) (right_of-right_of a d k)

pub bit_of-left_of : (a : ℤ) (d k : ℕ) → bit_of (left_of a d) (d + k) ≡ bit_of a k
bit_of-left_of a d k = sym (bit_of-right_of (left_of a d) d k) ∙ ap (λ z. bit_of z k) (right_of-left_of a d)

twice : (a : ℤ) → (unsigned_abs (int_rem_euclid (a *ℤ pos 2) (pos 2)) == 1) ≡ false
twice (pos n) = ap (λ r. r == 1) (even n)
  where
    even : (n : ℕ) → n * 2 % 2 ≡ 0
    even n = omega arith
twice (negsuc n) = ap (λ z. unsigned_abs (int_rem_euclid z (pos 2)) == 1) (under_multiple n 2 (omega arith)) ∙ ap (λ r. r == 1) (odd n)
  where
    odd : (n : ℕ) → 2 - 1 - (n * 2 + 1) % 2 ≡ 0
    odd n = omega arith

pub bit_of-left_of_low : (a : ℤ) (d k : ℕ) → k < d → bit_of (left_of a d) k ≡ false
bit_of-left_of_low a d k h =
    let e : d ≡ d - 1 - k + 1 + k = omega arith in
    let b = left_of a (d - 1 - k) in
    let split : left_of a d ≡ left_of (left_of b 1) k = ap (left_of a) e ∙ (sym (left_of-left_of a (d - 1 - k + 1) k) ∙ ap (λ z. left_of z k) (sym (left_of-left_of a (d - 1 - k) 1))) in
    ap (λ z. bit_of z k) split ∙ (ap (λ z. unsigned_abs (int_rem_euclid z (pos 2)) == 1) (right_of-left_of (left_of b 1) k) ∙ twice b)
