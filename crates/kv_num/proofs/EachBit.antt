-- The bitwise operations of the machine's 128 bits, on numbers of a type.
use Rattle.std.proofs.Common.{arith, ◌≡◌, ℕ, zero, suc, ◌+◌, ◌-◌, ◌%◌, ◌^◌, ◌<◌, ◌≤◌, min, max, Bool, true, false, not, ◌&&◌, ◌||◌, ◌==◌, ℤ, pos, negsuc, FitsSigned, to_z, of_z, refl, sym, ap, subst, ◌∙◌, ⊎_elim}
use Rattle.std.proofs.lemmas.Int.{ints, to_z-of_z}
use Rattle.std.proofs.lemmas.Nat.Bits.{bit_at-lt, bit_at_and, bit_at_or, bit_at_xor}
use Rattle.std.proofs.lemmas.Bool.{cases_lt}
use Rattle.std.proofs.Math.Nat.{mod-eq_of_lt}
use Rattle.std.specs.Prelude.{bit_and, bit_or, bit_xor}
use Rattle.std.specs.Int.{w128, bit_at}
use borrow.Author.Differences.{fits_in, read_fits}
use Rattle.kv_num.specs.Shape.{InShape, wrap_at, bits_at, not_at, IsWidth}
use Rattle.kv_num.specs.Bits.{bit_of, differ}
use Rattle.kv_num.proofs.Shapes.{range-wrap_at}
use Rattle.kv_num.proofs.Patterns.{low_bits-congruent, bit_of-low_bits, bit_of-wrap_at, bit_of-negsuc, bit_at-complement, bits_most, same_from_bits_of, same_bit, flip}
use Rattle.kv_num.proofs.Signs.{below_from_bits, clear_above, high_bits, small_from_bits, natural_from_bits, mag_signed, signed_mag, natural_unsigned, unsigned_natural}
use Rattle.kv_num.proofs.Held.{held, signed_congruent}

bit_of-to_z : (n k : ℕ) → n < 2 ^ 128 → k < 128 → bit_of (to_z w128 n) k ≡ (bit_at n k == 1)
bit_of-to_z n k small h =
    let c = signed_congruent n small in
    bit_of-low_bits 128 (to_z w128 n) k h ∙ ap (λ m. bit_at m k == 1) (sym (low_bits-congruent 128 (pos n) (to_z w128 n) c.0 c.1) ∙ mod-eq_of_lt small)

of_z_most : (a : ℤ) → FitsSigned w128 a → of_z w128 a < 2 ^ 128
of_z_most (pos n) f = omega (arith, f.sfits)
of_z_most (negsuc n) f = omega (arith, f.sfits)

bit_of-of_z : (a : ℤ) (k : ℕ) → FitsSigned w128 a → k < 128 → (bit_at (of_z w128 a) k == 1) ≡ bit_of a k
bit_of-of_z a k f h = sym (bit_of-to_z (of_z w128 a) k (of_z_most a f) h) ∙ ap (λ z. bit_of z k) (to_z-of_z w128 a f)

to_z_fits : (n : ℕ) → FitsSigned w128 (to_z w128 n)
to_z_fits n = omega (arith, fits_in, read_fits w128 n)

-- an operation F on patterns that does f on each bit
module _ (F : ℕ → ℕ → ℕ) (f : Bool → Bool → Bool) (each : (p q k : ℕ) → (bit_at (F p q) k == 1) ≡ f (bit_at p k == 1) (bit_at q k == 1)) (clear : f false false ≡ false) where
  no_bit : (r : ℕ) → r < 2 → (r == 1) ≡ false → r ≡ 0
  no_bit r h e = same_bit r 0 h (omega arith) e

  pub F_most : (w p q : ℕ) → p < 2 ^ w → q < 2 ^ w → F p q < 2 ^ w
  F_most w p q hp hq = below_from_bits (F p q) w (λ k high. no_bit (bit_at (F p q) k) (bit_at-lt (F p q) k)
      (each p q k ∙ ((λ i. f (clear_above p w k hp high i) (clear_above q w k hq high i)) ∙ clear)))

  low_bit : (a b : ℤ) (k : ℕ) → FitsSigned w128 a → FitsSigned w128 b → k < 128 → bit_of (to_z w128 (F (of_z w128 a) (of_z w128 b))) k ≡ f (bit_of a k) (bit_of b k)
  low_bit a b k fa fb h =
      bit_of-to_z (F (of_z w128 a) (of_z w128 b)) k (F_most 128 (of_z w128 a) (of_z w128 b) (of_z_most a fa) (of_z_most b fb)) h
      ∙ (each (of_z w128 a) (of_z w128 b) k ∙ (λ i. f (bit_of-of_z a k fa h i) (bit_of-of_z b k fb h i)))

  same_high : (z : ℤ) (k : ℕ) → FitsSigned w128 z → 127 ≤ k → bit_of z k ≡ bit_of z 127
  same_high z k fz h = high_bits z 127 k 127 fz.sfits h (omega arith)

  pub bits_are : (a b : ℤ) → FitsSigned w128 a → FitsSigned w128 b → (k : ℕ) → bit_of (to_z w128 (F (of_z w128 a) (of_z w128 b))) k ≡ f (bit_of a k) (bit_of b k)
  bits_are a b fa fb k = ⊎_elim
      (λ low. low_bit a b k fa fb low)
      (λ high. same_high (to_z w128 (F (of_z w128 a) (of_z w128 b))) k (to_z_fits (F (of_z w128 a) (of_z w128 b))) (omega arith)
      ∙ (low_bit a b 127 fa fb (omega arith) ∙ sym (λ i. f (same_high a k fa (omega arith) i) (same_high b k fb (omega arith) i))))
      (cases_lt k 128)

  range_by : (width : ℕ) (signed : Bool) (valid : IsWidth width) (a b r : ℤ) → InShape width signed a → InShape width signed b → ((k : ℕ) → bit_of r k ≡ f (bit_of a k) (bit_of b k)) → (s : Bool) → signed ≡ s → InShape width signed r
  range_by width signed valid a b r ia ib bits true e =
      let h = width - 1 in
      signed_mag width signed valid r e (small_from_bits r h (λ k high.
      bits k ∙ ((λ i. f (high_bits a h k h (mag_signed width signed valid a e ia) high (omega arith) i) (high_bits b h k h (mag_signed width signed valid b e ib) high (omega arith) i)) ∙ sym (bits h))))
  range_by width signed valid a b r ia ib bits false e =
      let na = natural_unsigned width signed a e ia in
      let nb = natural_unsigned width signed b e ib in
      let none : (z : ℤ) (m k : ℕ) → z ≡ pos m → m < 2 ^ width → width ≤ k → bit_of z k ≡ false = λ z m k is small high. ap (λ x. bit_of x k) is ∙ clear_above m width k small high in
      let nr = natural_from_bits r width (λ k high. bits k ∙ ((λ i. f (none a na.0 k na.1 na.2 high i) (none b nb.0 k nb.1 nb.2 high i)) ∙ clear)) in
      let P : ℤ → Type 0 = λ z. InShape width signed z in
      subst P (sym nr.1) (unsigned_natural width signed nr.0 e nr.2)

  pub range_is : (width : ℕ) (signed : Bool) (valid : IsWidth width) (a b : ℤ) → InShape width signed a → InShape width signed b → InShape width signed (to_z w128 (F (of_z w128 a) (of_z w128 b)))
  range_is width signed valid a b ia ib = range_by width signed valid a b (to_z w128 (F (of_z w128 a) (of_z w128 b))) ia ib (bits_are a b (held width signed valid a ia) (held width signed valid b ib)) signed refl

  -- the bits of the operation on patterns
  pub pattern_bits : (width : ℕ) (signed : Bool) (a b : ℤ) (k : ℕ) → k < width → bit_of (wrap_at width signed (pos (F (bits_at width a) (bits_at width b)))) k ≡ f (bit_of a k) (bit_of b k)
  pattern_bits width signed a b k h =
      bit_of-wrap_at width signed (pos (F (bits_at width a) (bits_at width b))) k h
      ∙ (each (bits_at width a) (bits_at width b) k ∙ sym (λ i. f (bit_of-low_bits width a k h i) (bit_of-low_bits width b k h i)))

  pub value_is : (width : ℕ) (signed : Bool) (valid : IsWidth width) (a b : ℤ) → InShape width signed a → InShape width signed b → to_z w128 (F (of_z w128 a) (of_z w128 b)) ≡ wrap_at width signed (pos (F (bits_at width a) (bits_at width b)))
  value_is width signed valid a b ia ib = same_from_bits_of width signed (to_z w128 (F (of_z w128 a) (of_z w128 b))) (wrap_at width signed (pos (F (bits_at width a) (bits_at width b)))) (range_is width signed valid a b ia ib) (range-wrap_at width signed (pos (F (bits_at width a) (bits_at width b))))
      (λ k h. bits_are a b (held width signed valid a ia) (held width signed valid b ib) k ∙ sym (pattern_bits width signed a b k h))

  -- the same of the definition
  pub bits_of_value : (width : ℕ) (signed : Bool) (valid : IsWidth width) (a b : ℤ) (k : ℕ) → InShape width signed a → InShape width signed b → bit_of (wrap_at width signed (pos (F (bits_at width a) (bits_at width b)))) k ≡ f (bit_of a k) (bit_of b k)
  bits_of_value width signed valid a b k ia ib = ap (λ z. bit_of z k) (sym (value_is width signed valid a b ia ib)) ∙ bits_are a b (held width signed valid a ia) (held width signed valid b ib) k

-- ---- the operations on one bit

and_bit : (x y : ℕ) → x < 2 → y < 2 → (min x y == 1) ≡ ((x == 1) && (y == 1))
and_bit zero zero hx hy = refl
and_bit zero (suc zero) hx hy = refl
and_bit zero (suc (suc y)) hx hy = absurd (omega arith)
and_bit (suc zero) zero hx hy = refl
and_bit (suc zero) (suc zero) hx hy = refl
and_bit (suc zero) (suc (suc y)) hx hy = absurd (omega arith)
and_bit (suc (suc x)) y hx hy = absurd (omega arith)

or_bit : (x y : ℕ) → x < 2 → y < 2 → (max x y == 1) ≡ ((x == 1) || (y == 1))
or_bit zero zero hx hy = refl
or_bit zero (suc zero) hx hy = refl
or_bit (suc zero) zero hx hy = refl
or_bit (suc zero) (suc zero) hx hy = refl
or_bit zero (suc (suc y)) hx hy = absurd (omega arith)
or_bit (suc zero) (suc (suc y)) hx hy = absurd (omega arith)
or_bit (suc (suc x)) y hx hy = absurd (omega arith)

xor_bit : (x y : ℕ) → x < 2 → y < 2 → ((x + y) % 2 == 1) ≡ differ (x == 1) (y == 1)
xor_bit zero zero hx hy = refl
xor_bit zero (suc zero) hx hy = refl
xor_bit (suc zero) zero hx hy = refl
xor_bit (suc zero) (suc zero) hx hy = refl
xor_bit zero (suc (suc y)) hx hy = absurd (omega arith)
xor_bit (suc zero) (suc (suc y)) hx hy = absurd (omega arith)
xor_bit (suc (suc x)) y hx hy = absurd (omega arith)

pub each_and : (p q k : ℕ) → (bit_at (bit_and p q) k == 1) ≡ ((bit_at p k == 1) && (bit_at q k == 1))
each_and p q k = ap (λ b. b == 1) (bit_at_and p q k) ∙ and_bit (bit_at p k) (bit_at q k) (bit_at-lt p k) (bit_at-lt q k)

pub each_or : (p q k : ℕ) → (bit_at (bit_or p q) k == 1) ≡ ((bit_at p k == 1) || (bit_at q k == 1))
each_or p q k = ap (λ b. b == 1) (bit_at_or p q k) ∙ or_bit (bit_at p k) (bit_at q k) (bit_at-lt p k) (bit_at-lt q k)

pub each_xor : (p q k : ℕ) → (bit_at (bit_xor p q) k == 1) ≡ differ (bit_at p k == 1) (bit_at q k == 1)
each_xor p q k = ap (λ b. b == 1) (bit_at_xor p q k) ∙ xor_bit (bit_at p k) (bit_at q k) (bit_at-lt p k) (bit_at-lt q k)

-- ---- the complement

pub complement_bits : (width : ℕ) (signed : Bool) (a : ℤ) (k : ℕ) → k < width → bit_of (not_at width signed a) k ≡ not (bit_of a k)
complement_bits width signed a k h =
    let p = bits_at width a in
    bit_of-wrap_at width signed (pos (2 ^ width - 1 - p)) k h
    ∙ (ap (λ b. b == 1) (bit_at-complement width p k (bits_most width a) h)
    ∙ (flip (bit_at p k) (bit_at-lt p k) ∙ ap not (sym (bit_of-low_bits width a k h))))

negsuc_held : (n : ℕ) → n < 2 ^ 127 → to_z w128 (2 ^ 128 - 1 - n) ≡ negsuc n
negsuc_held n h = let e : 2 ^ 128 - 1 - n ≡ 2 ^ 128 - suc n = omega arith in ap (to_z w128) e ∙ to_z-of_z w128 (negsuc n) (record { sfits = h })

pos_held : (n : ℕ) → n < 2 ^ 127 → to_z w128 (2 ^ 128 - 1 - (2 ^ 128 - suc n)) ≡ pos n
pos_held n h = omega (arith, ints)

twice_turned : (b : Bool) → b ≡ not (not b)
twice_turned true = refl
twice_turned false = refl

-- the machine's complement
pub complement_held : (a : ℤ) (k : ℕ) → FitsSigned w128 a → bit_of (to_z w128 (2 ^ 128 - 1 - of_z w128 a)) k ≡ not (bit_of a k)
complement_held (pos n) k f = ap (λ z. bit_of z k) (negsuc_held n f.sfits) ∙ bit_of-negsuc n k
complement_held (negsuc n) k f = ap (λ z. bit_of z k) (pos_held n f.sfits) ∙ (twice_turned (bit_of (pos n) k) ∙ ap not (sym (bit_of-negsuc n k)))
