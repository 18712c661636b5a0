-- Whole numbers modulo a size: a number and its remainder, and the one number of a range.
use Rattle.std.proofs.Common.{refl, arith, ◌≡◌, ℕ, zero, suc, ◌+◌, ◌*◌, ◌/◌, ◌<◌, ◌-◌, ◌%◌, ℤ, pos, negsuc, ◌+ℤ◌, ◌*ℤ◌, ◌≤ℤ◌, ◌<ℤ◌, ap}
use Rattle.std.proofs.lemmas.Int.{ints}
use Rattle.std.specs.Prelude.{unsigned_abs}
use Rattle.std.specs.Int.{int_rem_euclid}

divided : (a s : ℕ) → 0 < s → a ≡ a % s + a / s * s
divided a s p = omega arith

below_zero : (a s q r : ℕ) → r < s → a ≡ r + q * s → negsuc a ≡ pos (s - 1 - r) +ℤ (negsuc q *ℤ pos s)
below_zero a s q r small e = omega (arith, ints)

-- a number is its remainder and a multiple of the divisor
pub rem_congruent : (z : ℤ) (s : ℕ) → 0 < s → (k : ℤ) × (z ≡ int_rem_euclid z (pos s) +ℤ (k *ℤ pos s))
rem_congruent (pos a) s p = (pos (a / s), ap pos (divided a s p))
rem_congruent (negsuc a) s p = (negsuc (a / s), below_zero a s (a / s) (a % s) (omega arith) (divided a s p))

pub rem_most : (z : ℤ) (s : ℕ) → 0 < s → unsigned_abs (int_rem_euclid z (pos s)) < s
rem_most (pos a) s p = omega arith
rem_most (negsuc a) s p = omega arith

pub pos-rem : (z : ℤ) (s : ℕ) → int_rem_euclid z (pos s) ≡ pos (unsigned_abs (int_rem_euclid z (pos s)))
pos-rem (pos a) s = refl
pos-rem (negsuc a) s = refl

-- two numbers of one range that differ by a multiple of its size
near : (m w : ℤ) (a c s b : ℕ) → pos 0 ≤ℤ (m +ℤ pos b) → (m +ℤ pos b) <ℤ pos s → pos 0 ≤ℤ (w +ℤ pos b) → (w +ℤ pos b) <ℤ pos s → m +ℤ pos (a * s) ≡ w +ℤ pos (c * s) → m ≡ w
near m w zero zero s b m0 m1 w0 w1 e = omega (arith, ints)
near m w zero (suc c) s b m0 m1 w0 w1 e = absurd (omega (arith, ints))
near m w (suc a) zero s b m0 m1 w0 w1 e = absurd (omega (arith, ints))
near m w (suc a) (suc c) s b m0 m1 w0 w1 e = near m w a c s b m0 m1 w0 w1 (omega (arith, ints))

pub one_number : (m w k j : ℤ) (s b : ℕ) → pos 0 ≤ℤ (m +ℤ pos b) → (m +ℤ pos b) <ℤ pos s → pos 0 ≤ℤ (w +ℤ pos b) → (w +ℤ pos b) <ℤ pos s → m +ℤ (k *ℤ pos s) ≡ w +ℤ (j *ℤ pos s) → m ≡ w
one_number m w (pos a) (pos c) s b m0 m1 w0 w1 e = near m w a c s b m0 m1 w0 w1 e
one_number m w (pos a) (negsuc c) s b m0 m1 w0 w1 e = near m w (a + suc c) 0 s b m0 m1 w0 w1 (omega (arith, ints))
one_number m w (negsuc a) (pos c) s b m0 m1 w0 w1 e = near m w 0 (c + suc a) s b m0 m1 w0 w1 (omega (arith, ints))
one_number m w (negsuc a) (negsuc c) s b m0 m1 w0 w1 e = near m w c a s b m0 m1 w0 w1 (omega (arith, ints))
