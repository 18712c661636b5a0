-- The bits of a number, and the number that they are without a sign.
use Rattle.std.proofs.Common.{arith, ◌≡◌, ℕ, zero, suc, ◌+◌, ◌-◌, ◌*◌, ◌/◌, ◌%◌, ◌^◌, ◌<◌, not, ◌==◌, ℤ, pos, negsuc, ◌+ℤ◌, ◌*ℤ◌, refl, sym, ap, subst, ◌∙◌, Bool}
use Rattle.std.proofs.lemmas.Int.{ints}
use Rattle.std.proofs.lemmas.Nat.{pow_pos, pow-add, shr_split, shr_high, shr_below, mod_below}
use Rattle.std.proofs.lemmas.Nat.Bits.{bit_at_cat_low, bit_at-lt, same_from_bits_below}
use Rattle.std.proofs.Math.Nat.{mul_comm}
use Rattle.std.specs.Prelude.{unsigned_abs}
use Rattle.std.specs.Int.{bit_at}
use Rattle.kv_num.specs.Shape.{InShape, wrap_at, bits_at}
use Rattle.kv_num.specs.Bits.{bit_of, low_bits}
use Rattle.kv_num.proofs.Shapes.{wrap_at_congruent, wrap_at-congruent, wrap_at-in_shape}
use Rattle.kv_num.proofs.Congruence.{rem_congruent, rem_most, pos-rem, one_number}
use Rattle.kv_num.proofs.Ring.{more_multiple}

pub flip : (r : ℕ) → r < 2 → (1 - r == 1) ≡ not (r == 1)
flip zero h = refl
flip (suc zero) h = refl
flip (suc (suc r)) h = absurd (omega arith)

pub same_bit : (r s : ℕ) → r < 2 → s < 2 → (r == 1) ≡ (s == 1) → r ≡ s
same_bit zero zero p q e = refl
same_bit zero (suc zero) p q e = absurd cc
same_bit (suc zero) zero p q e = absurd cc
same_bit (suc zero) (suc zero) p q e = refl
same_bit zero (suc (suc s)) p q e = absurd (omega arith)
same_bit (suc zero) (suc (suc s)) p q e = absurd (omega arith)
same_bit (suc (suc r)) s p q e = absurd (omega arith)

-- the bits of -n - 1 are those of n, turned over
pub bit_of-negsuc : (n k : ℕ) → bit_of (negsuc n) k ≡ not (bit_of (pos n) k)
bit_of-negsuc n k = flip (bit_at n k) (bit_at-lt n k)

pub bit_at-mod : (n w k : ℕ) → k < w → bit_at (n % 2 ^ w) k ≡ bit_at n k
bit_at-mod n w k h = sym (bit_at_cat_low (n / 2 ^ w) w (n % 2 ^ w) k h) ∙ ap (λ m. bit_at m k) (shr_split n w)

odd_from : (p q : ℕ) → q < 2 * p → (2 * p - 1 - q) % 2 ≡ 1 - q % 2
odd_from p q h = omega arith

rest_of : (p s q r : ℕ) → q < p → r < s → p * s - 1 - (q * s + r) ≡ (p - 1 - q) * s + (s - 1 - r)
rest_of p s q r h k =
    let j = p - 1 - q in
    let e : p ≡ j + 1 + q = omega arith in
    let f : p * s ≡ (j + 1 + q) * s = ap (λ x. x * s) e in
    omega arith

-- the bits of 2 ^ w - 1 - m are those of m, turned over
pub bit_at-complement : (w m k : ℕ) → m < 2 ^ w → k < w → bit_at (2 ^ w - 1 - m) k ≡ 1 - bit_at m k
bit_at-complement w m k small h =
    let whole : w ≡ w - 1 - k + 1 + k = omega arith in
    let p = 2 ^ (w - 1 - k) in
    let twice : 2 ^ (w - 1 - k + 1) ≡ 2 * p = pow-add 2 (w - 1 - k) 1 ∙ mul_comm p 2 in
    let split : 2 ^ w ≡ 2 * p * 2 ^ k = ap (λ n. 2 ^ n) whole ∙ (pow-add 2 (w - 1 - k + 1) k ∙ ap (λ n. n * 2 ^ k) twice) in
    let high : m / 2 ^ k < 2 * p = subst (λ n. m / 2 ^ k < n) twice (shr_below m (w - 1 - k + 1) k (subst (λ n. m < 2 ^ n) whole small)) in
    let low : m % 2 ^ k < 2 ^ k = mod_below m (2 ^ k) (pow_pos k) in
    let is : 2 ^ w - 1 - m ≡ (2 * p - 1 - m / 2 ^ k) * 2 ^ k + (2 ^ k - 1 - m % 2 ^ k) =
    ap (λ n. n - 1 - m) split ∙ (ap (λ n. 2 * p * 2 ^ k - 1 - n) (sym (shr_split m k)) ∙ rest_of (2 * p) (2 ^ k) (m / 2 ^ k) (m % 2 ^ k) high low) in
    ap (λ n. n % 2) (ap (λ n. n / 2 ^ k) is ∙ shr_high (2 * p - 1 - m / 2 ^ k) k (2 ^ k - 1 - m % 2 ^ k) (omega arith)) ∙ odd_from p (m / 2 ^ k) high

-- bit k of a number is that of the number that its bits are
pub bit_of-low_bits : (w : ℕ) (z : ℤ) (k : ℕ) → k < w → bit_of z k ≡ (bit_at (low_bits w z) k == 1)
bit_of-low_bits w (pos n) k h = ap (λ b. b == 1) (sym (bit_at-mod n w k h))
bit_of-low_bits w (negsuc n) k h =
    ap (λ b. 1 - b == 1) (sym (bit_at-mod n w k h))
    ∙ ap (λ b. b == 1) (sym (bit_at-complement w (n % 2 ^ w) k (mod_below n (2 ^ w) (pow_pos w)) h))

-- ---- numbers that differ by a multiple of 2 ^ w have the same lowest w bits

pub low_bits_congruent : (w : ℕ) (z : ℤ) → (k : ℤ) × (z ≡ pos (low_bits w z) +ℤ (k *ℤ pos (2 ^ w)))
low_bits_congruent w z =
    let c = rem_congruent z (2 ^ w) (pow_pos w) in
    (c.0, c.1 ∙ ap (λ r. r +ℤ (c.0 *ℤ pos (2 ^ w))) (pos-rem z (2 ^ w)))

one_pattern : (a b : ℕ) (j k : ℤ) (s : ℕ) → a < s → b < s → pos a +ℤ (j *ℤ pos s) ≡ pos b +ℤ (k *ℤ pos s) → a ≡ b
one_pattern a b j k s p q e = ap unsigned_abs (one_number (pos a) (pos b) j k s 0 (omega (arith, ints)) (omega (arith, ints)) (omega (arith, ints)) (omega (arith, ints)) e)

pub low_bits-congruent : (w : ℕ) (n m k : ℤ) → n ≡ m +ℤ (k *ℤ pos (2 ^ w)) → low_bits w n ≡ low_bits w m
low_bits-congruent w n m k e =
    let p = low_bits_congruent w n in
    let q = low_bits_congruent w m in
    one_pattern (low_bits w n) (low_bits w m) p.0 (q.0 +ℤ k) (2 ^ w) (rem_most n (2 ^ w) (pow_pos w)) (rem_most m (2 ^ w) (pow_pos w))
    (sym p.1 ∙ more_multiple n m (pos (low_bits w m)) q.0 k (pos (2 ^ w)) e q.1)

pub bits_most : (width : ℕ) (n : ℤ) → bits_at width n < 2 ^ width
bits_most width n = rem_most n (2 ^ width) (pow_pos width)

pub bits_at-wrap_at : (width : ℕ) (signed : Bool) (n : ℤ) → bits_at width (wrap_at width signed n) ≡ bits_at width n
bits_at-wrap_at width signed n = let c = wrap_at_congruent width signed n in sym (low_bits-congruent width n (wrap_at width signed n) c.0 c.1)

-- the number that a bit pattern is in a type
pub wrap_at-bits_at : (width : ℕ) (signed : Bool) (n : ℤ) → wrap_at width signed (pos (bits_at width n)) ≡ wrap_at width signed n
wrap_at-bits_at width signed n = let c = low_bits_congruent width n in sym (wrap_at-congruent width signed n (pos (bits_at width n)) c.0 c.1)

-- to wrap a number keeps its bits below the width
pub bit_of-wrap_at : (width : ℕ) (signed : Bool) (n : ℤ) (k : ℕ) → k < width → bit_of (wrap_at width signed n) k ≡ bit_of n k
bit_of-wrap_at width signed n k h =
    bit_of-low_bits width (wrap_at width signed n) k h ∙ (ap (λ m. bit_at m k == 1) (bits_at-wrap_at width signed n) ∙ sym (bit_of-low_bits width n k h))

-- two numbers of a type with the same bits are equal
pub same_from_bits_of : (width : ℕ) (signed : Bool) (a b : ℤ) → InShape width signed a → InShape width signed b → ((k : ℕ) → k < width → bit_of a k ≡ bit_of b k) → a ≡ b
same_from_bits_of width signed a b ia ib each =
    let same : bits_at width a ≡ bits_at width b = same_from_bits_below width (bits_at width a) (bits_at width b) (bits_most width a) (bits_most width b)
    (λ k h. same_bit (bit_at (bits_at width a) k) (bit_at (bits_at width b) k) (bit_at-lt (bits_at width a) k) (bit_at-lt (bits_at width b) k)
    (sym (bit_of-low_bits width a k h) ∙ (each k h ∙ bit_of-low_bits width b k h))) in
    sym (wrap_at-in_shape width signed a ia) ∙ (sym (wrap_at-bits_at width signed a) ∙ (ap (λ n. wrap_at width signed (pos n)) same ∙ (wrap_at-bits_at width signed b ∙ wrap_at-in_shape width signed b ib)))
