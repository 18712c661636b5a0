-- Bit patterns as numbers without a sign: of sums, differences, products and complements, and in order.
use Rattle.std.proofs.Common.{arith, ◌≡◌, ℕ, zero, suc, ◌+◌, ◌-◌, ◌*◌, ◌%◌, ◌^◌, ◌<◌, ◌==◌, true, if◌then◌else◌, ℤ, pos, negsuc, neg_ℤ, ◌+ℤ◌, ◌-ℤ◌, ◌*ℤ◌, ◌≤ℤ◌, ◌<ℤ◌, sym, ap, ◌∙◌, Bool}
use Rattle.std.proofs.lemmas.Int.{ints}
use Rattle.std.proofs.lemmas.Bool.Decides.{nat_tests}
use Rattle.std.proofs.lemmas.Nat.{pow_pos, mod-pow-add, mod_below}
use Rattle.std.proofs.lemmas.Nat.Bits.{bit_at-lt}
use Rattle.std.proofs.Math.Nat.{mod-eq_of_lt, pow-suc}
use Rattle.std.specs.Prelude.{unsigned_abs, int_lt, nat_lt}
use Rattle.std.specs.Int.{bit_at}
use lib.IntN.{*ℤ_comm}
use Rattle.kv_num.specs.Shape.{below_at, InShape, bits_at, not_at, IsWidth}
use Rattle.kv_num.specs.Bits.{bit_of, differ, low_bits}
use Rattle.kv_num.proofs.Patterns.{low_bits_congruent, low_bits-congruent, bits_at-wrap_at, bits_most}
use Rattle.kv_num.proofs.Range.{below_under_size}
use Rattle.kv_num.proofs.Division.{not_negative}
use Rattle.kv_num.proofs.Ring.{sum_multiple, difference_multiple, product_multiple, more_multiple}

-- ---- low bits

next_by : (n k d : ℕ) → d < 2 → n % 2 ^ (1 + k) ≡ d * 2 ^ k + n % 2 ^ k → n % 2 ^ (1 + k) ≡ n % 2 ^ k + (if d == 1 then 2 ^ k else 0)
next_by n k zero h e = e ∙ omega arith
next_by n k (suc zero) h e = e ∙ omega arith
next_by n k (suc (suc d)) h e = absurd (omega arith)

next_under : (r s p q d : ℕ) → d < 2 → p ≡ 2 * s → q ≡ d * s + r → r < s → p - 1 - q ≡ s - 1 - r + (if 1 - d == 1 then s else 0)
next_under r s p q zero h e f g = omega arith
next_under r s p q (suc zero) h e f g = omega arith
next_under r s p q (suc (suc d)) h e f g = absurd (omega arith)

-- one more bit
pub low_bits-next : (k : ℕ) (a : ℤ) → low_bits (1 + k) a ≡ low_bits k a + (if bit_of a k then 2 ^ k else 0)
low_bits-next k (pos n) = next_by n k (bit_at n k) (bit_at-lt n k) (mod-pow-add n 1 k)
low_bits-next k (negsuc n) =
    let e : 1 + k ≡ suc k = omega arith in
    let twice : 2 ^ (1 + k) ≡ 2 * 2 ^ k = ap (λ j. 2 ^ j) e ∙ (pow-suc 2 k ∙ omega arith) in
    next_under (n % 2 ^ k) (2 ^ k) (2 ^ (1 + k)) (n % 2 ^ (1 + k)) (bit_at n k) (bit_at-lt n k) twice (mod-pow-add n 1 k) (mod_below n (2 ^ k) (pow_pos k))

-- ---- the pattern of a number of a type

pub bits_natural : (width : ℕ) (signed : Bool) (n : ℤ) → InShape width signed n → pos 0 ≤ℤ n → pos (bits_at width n) ≡ n
bits_natural width signed (pos n) is h = ap pos (mod-eq_of_lt (below_size (below_at width signed) (2 ^ width) n is.most))
  where
    below_size : (b s n : ℕ) → (pos n +ℤ pos b) <ℤ pos s → n < s
    below_size b s n h = omega (arith, ints)
bits_natural width signed (negsuc n) is h = absurd (omega (arith, ints))

pub bits_negative : (width : ℕ) (signed : Bool) (valid : IsWidth width) (n : ℤ) → InShape width signed n → n <ℤ pos 0 → pos (bits_at width n) ≡ n +ℤ pos (2 ^ width)
bits_negative width signed valid (pos n) is h = absurd (omega (arith, ints))
bits_negative width signed valid (negsuc n) is h =
    let small : n < 2 ^ width = below_size (below_at width signed) (2 ^ width) n (below_under_size width signed valid.some) is.least in
    ap (λ r. pos (2 ^ width - 1 - r)) (mod-eq_of_lt small) ∙ less (2 ^ width) n small
  where
    below_size : (b s n : ℕ) → b < s → pos 0 ≤ℤ (negsuc n +ℤ pos b) → n < s
    below_size b s n k h = omega (arith, ints)

    less : (s n : ℕ) → n < s → pos (s - 1 - n) ≡ negsuc n +ℤ pos s
    less s n h = omega (arith, ints)

-- ---- patterns of results

pub bits_at-add : (width : ℕ) (a b : ℤ) → bits_at width (a +ℤ b) ≡ (bits_at width a + bits_at width b) % 2 ^ width
bits_at-add width a b =
    let p = low_bits_congruent width a in
    let q = low_bits_congruent width b in
    low_bits-congruent width (a +ℤ b) (pos (bits_at width a + bits_at width b)) (p.0 +ℤ q.0) (sum_multiple a b (pos (bits_at width a)) (pos (bits_at width b)) p.0 q.0 (pos (2 ^ width)) p.1 q.1)

pub bits_at-sub : (width : ℕ) (a b : ℤ) → bits_at width (a -ℤ b) ≡ (bits_at width a + (2 ^ width - bits_at width b)) % 2 ^ width
bits_at-sub width a b =
    let p = low_bits_congruent width a in
    let q = low_bits_congruent width b in
    let k : ℤ = p.0 +ℤ neg_ℤ q.0 in
    low_bits-congruent width (a -ℤ b) (pos (bits_at width a + (2 ^ width - bits_at width b))) (negsuc 0 +ℤ k)
    (more_multiple (a -ℤ b) (pos (bits_at width a) -ℤ pos (bits_at width b)) (pos (bits_at width a + (2 ^ width - bits_at width b))) (negsuc 0) k (pos (2 ^ width))
    (difference_multiple a b (pos (bits_at width a)) (pos (bits_at width b)) p.0 q.0 (pos (2 ^ width)) p.1 q.1)
    (borrowed (bits_at width a) (bits_at width b) (2 ^ width) (bits_most width b)))
  where
    borrowed : (x y s : ℕ) → y < s → pos x -ℤ pos y ≡ pos (x + (s - y)) +ℤ (negsuc 0 *ℤ pos s)
    borrowed x y s h = omega (arith, ints)

times_bits : (width : ℕ) (a b : ℤ) → bits_at width (a *ℤ b) ≡ bits_at width (pos (bits_at width a) *ℤ b)
times_bits width a b =
    let p = low_bits_congruent width a in
    low_bits-congruent width (a *ℤ b) (pos (bits_at width a) *ℤ b) (p.0 *ℤ b) (product_multiple a b (pos (bits_at width a)) p.0 (pos (2 ^ width)) p.1)

pub bits_at-mul : (width : ℕ) (a b : ℤ) → bits_at width (a *ℤ b) ≡ (bits_at width a * bits_at width b) % 2 ^ width
bits_at-mul width a b =
    times_bits width a b ∙ (ap (bits_at width) (*ℤ_comm (pos (bits_at width a)) b)
    ∙ (times_bits width b (pos (bits_at width a)) ∙ ap (bits_at width) (*ℤ_comm (pos (bits_at width b)) (pos (bits_at width a)))))

pub bits_at-not_at : (width : ℕ) (signed : Bool) (a : ℤ) → bits_at width (not_at width signed a) ≡ 2 ^ width - 1 - bits_at width a
bits_at-not_at width signed a =
    let s = pow_pos width in
    bits_at-wrap_at width signed (pos (2 ^ width - 1 - bits_at width a)) ∙ mod-eq_of_lt (omega arith)

-- ---- order

order_by : (s x y : ℕ) (a b : ℤ) → (pos 0 ≤ℤ a → pos x ≡ a) → (a <ℤ pos 0 → pos x ≡ a +ℤ pos s) → (pos 0 ≤ℤ b → pos y ≡ b) → (b <ℤ pos 0 → pos y ≡ b +ℤ pos s)
    → int_lt a b ≡ (if differ (int_lt a (pos 0)) (int_lt b (pos 0)) then int_lt a (pos 0) else nat_lt x y)
order_by s x y (pos a) (pos b) p q r v =
    let ex : x ≡ a = ap unsigned_abs (p (omega (arith, ints))) in
    let ey : y ≡ b = ap unsigned_abs (r (omega (arith, ints))) in
    sym (λ i. if differ (not_negative a i) (not_negative b i) then int_lt (pos a) (pos 0) else nat_lt (ex i) (ey i))
order_by s x y (pos a) (negsuc b) p q r v = sym (λ i. if differ (not_negative a i) true then not_negative a i else nat_lt x y)
order_by s x y (negsuc a) (pos b) p q r v = sym (λ i. if differ true (not_negative b i) then true else nat_lt x y)
order_by s x y (negsuc a) (negsuc b) p q r v = turned_over a b x y s (q (omega (arith, ints))) (v (omega (arith, ints)))
  where
    turned_over : (a b x y s : ℕ) → pos x ≡ negsuc a +ℤ pos s → pos y ≡ negsuc b +ℤ pos s → nat_lt b a ≡ nat_lt x y
    turned_over a b x y s p q =
        let ex : x + suc a ≡ s = omega (arith, ints) in
        let ey : y + suc b ≡ s = omega (arith, ints) in
        tests a b x y s ex ey
      where
        tests : (a b x y s : ℕ) → x + suc a ≡ s → y + suc b ≡ s → nat_lt b a ≡ nat_lt x y
        tests a b x y s p q = grind (arith, nat_tests)

-- numbers of a type are in the order of their patterns, but for the signs
pub bits_order : (width : ℕ) (signed : Bool) (valid : IsWidth width) (a b : ℤ) → InShape width signed a → InShape width signed b → int_lt a b ≡ (if differ (int_lt a (pos 0)) (int_lt b (pos 0)) then int_lt a (pos 0) else nat_lt (bits_at width a) (bits_at width b))
bits_order width signed valid a b ia ib = order_by (2 ^ width) (bits_at width a) (bits_at width b) a b (bits_natural width signed a ia) (bits_negative width signed valid a ia) (bits_natural width signed b ib) (bits_negative width signed valid b ib)
