-- The bits of a number from some place on: all as its sign.
use Rattle.std.proofs.Common.{arith, ◌≡◌, ℕ, zero, suc, ◌+◌, ◌-◌, ◌*◌, ◌%◌, ◌^◌, ◌<◌, ◌≤◌, Bool, true, false, not, if◌then◌else◌, ◌==◌, ℤ, pos, negsuc, ◌+ℤ◌, ◌≤ℤ◌, ◌<ℤ◌, refl, sym, ap, subst, ◌∙◌, ⊎_elim}
use Rattle.std.proofs.lemmas.Int.{ints}
use Rattle.std.proofs.lemmas.Nat.{pow_pos, pow-add, mod_below}
use Rattle.std.proofs.lemmas.Nat.Bits.{bit_at-lt, same_from_bits, bit_at_above}
use Rattle.std.proofs.lemmas.Bool.{cases_lt, false≢true}
use Rattle.std.proofs.Math.Nat.{pow-suc, mul-le-mul_right}
use Rattle.std.proofs.lemmas.Bool.Decides.{nat_tests}
use Rattle.std.specs.Prelude.{IsTrue, int_lt}
use Rattle.std.specs.Int.{bit_at}
use lib.Signed.{mag}
use Rattle.kv_num.specs.Shape.{below_at, InShape, IsWidth}
use Rattle.kv_num.specs.Bits.{bit_of}
use Rattle.kv_num.proofs.Patterns.{same_bit, bit_at-mod, bit_of-negsuc}
use Rattle.kv_num.proofs.Range.{half}

self_below_pow : (n : ℕ) → n < 2 ^ n
self_below_pow zero = omega arith
self_below_pow (suc n) = omega (arith, self_below_pow n, pow-suc 2 n)

far : (h n : ℕ) → n < 2 ^ (h + n)
far h n =
    let s = self_below_pow n in
    let p = pow_pos h in
    let m : 1 * 2 ^ n ≤ 2 ^ h * 2 ^ n = mul-le-mul_right (2 ^ n) p in
    omega (arith, pow-add 2 h n)

-- a number that has no bit from h on is below 2 ^ h
pub below_from_bits : (n h : ℕ) → ((k : ℕ) → h ≤ k → bit_at n k ≡ 0) → n < 2 ^ h
below_from_bits n h none =
    let same : n ≡ n % 2 ^ h = same_from_bits n (n % 2 ^ h) (λ k. ⊎_elim
    (λ low. sym (bit_at-mod n h k low))
    (λ high. none k high ∙ sym (bit_at_above (n % 2 ^ h) h k (mod_below n (2 ^ h) (pow_pos h)) high))
    (cases_lt k h)) in
    subst (λ m. m < 2 ^ h) (sym same) (mod_below n (2 ^ h) (pow_pos h))

pub clear_above : (n h k : ℕ) → n < 2 ^ h → h ≤ k → bit_of (pos n) k ≡ false
clear_above n h k small high = ap (λ b. b == 1) (bit_at_above n h k small high)

set_above : (n h k : ℕ) → n < 2 ^ h → h ≤ k → bit_of (negsuc n) k ≡ true
set_above n h k small high = bit_of-negsuc n k ∙ ap not (clear_above n h k small high)

-- from h on the bits of a number are one
pub high_bits : (z : ℤ) (h j k : ℕ) → mag z < 2 ^ h → h ≤ j → h ≤ k → bit_of z j ≡ bit_of z k
high_bits (pos n) h j k small p q = clear_above n h j small p ∙ sym (clear_above n h k small q)
high_bits (negsuc n) h j k small p q = set_above n h j small p ∙ sym (set_above n h k small q)

zero_bit : (r : ℕ) → r < 2 → (r == 1) ≡ false → r ≡ 0
zero_bit r h e = same_bit r 0 h (omega arith) e

turned : (a b : Bool) → not a ≡ not b → a ≡ b
turned true true e = refl
turned true false e = absurd (false≢true e)
turned false true e = absurd (false≢true (sym e))
turned false false e = refl

small_pos : (n h : ℕ) → ((k : ℕ) → h ≤ k → bit_of (pos n) k ≡ bit_of (pos n) h) → n < 2 ^ h
small_pos n h each =
    let none : bit_of (pos n) h ≡ false = sym (each (h + n) (omega arith)) ∙ clear_above n (h + n) (h + n) (far h n) (omega arith) in
    below_from_bits n h (λ k high. zero_bit (bit_at n k) (bit_at-lt n k) (each k high ∙ none))

-- a number whose bits from h on are one is from -2 ^ h up to 2 ^ h
pub small_from_bits : (z : ℤ) (h : ℕ) → ((k : ℕ) → h ≤ k → bit_of z k ≡ bit_of z h) → mag z < 2 ^ h
small_from_bits (pos n) h each = small_pos n h each
small_from_bits (negsuc n) h each = small_pos n h (λ k high. turned (bit_of (pos n) k) (bit_of (pos n) h) (sym (bit_of-negsuc n k) ∙ (each k high ∙ bit_of-negsuc n h)))

-- and where they are 0, it is not negative
pub natural_from_bits : (z : ℤ) (h : ℕ) → ((k : ℕ) → h ≤ k → bit_of z k ≡ false) → (m : ℕ) × (z ≡ pos m) × (m < 2 ^ h)
natural_from_bits (pos n) h none = (n, refl, small_pos n h (λ k high. none k high ∙ sym (none h (omega arith))))
natural_from_bits (negsuc n) h none = absurd (false≢true (sym (none (h + n) (omega arith)) ∙ set_above n (h + n) (h + n) (far h n) (omega arith)))

-- ---- the ranges by absolute values

mag_in : (n : ℤ) (b s c : ℕ) → c ≡ b → s ≡ b + b → pos 0 ≤ℤ (n +ℤ pos c) → (n +ℤ pos c) <ℤ pos s → mag n < b
mag_in (pos n) b s c p q h k = omega (arith, ints)
mag_in (negsuc n) b s c p q h k = omega (arith, ints)

in_mag : (n : ℤ) (b s c : ℕ) → c ≡ b → s ≡ b + b → mag n < b → (pos 0 ≤ℤ (n +ℤ pos c)) × ((n +ℤ pos c) <ℤ pos s)
in_mag (pos n) b s c p q h = (omega (arith, ints), omega (arith, ints))
in_mag (negsuc n) b s c p q h = (omega (arith, ints), omega (arith, ints))

natural_in : (n : ℤ) (s c : ℕ) → c ≡ 0 → pos 0 ≤ℤ (n +ℤ pos c) → (n +ℤ pos c) <ℤ pos s → (m : ℕ) × (n ≡ pos m) × (m < s)
natural_in (pos n) s c p h k = (n, refl, omega (arith, ints))
natural_in (negsuc n) s c p h k = absurd (omega (arith, ints))

in_natural : (m s c : ℕ) → c ≡ 0 → m < s → (pos 0 ≤ℤ (pos m +ℤ pos c)) × ((pos m +ℤ pos c) <ℤ pos s)
in_natural m s c p h = (omega (arith, ints), omega (arith, ints))

pub below_by : (width : ℕ) (signed : Bool) (b : Bool) → signed ≡ b → below_at width signed ≡ (if b then 2 ^ (width - 1) else 0)
below_by width signed b e = ap (λ (s : Bool). if s then 2 ^ (width - 1) else 0) e

pub mag_signed : (width : ℕ) (signed : Bool) (valid : IsWidth width) (n : ℤ) → signed ≡ true → InShape width signed n → mag n < 2 ^ (width - 1)
mag_signed width signed valid n e is = mag_in n (2 ^ (width - 1)) (2 ^ width) (below_at width signed) (below_by width signed true e) (half width valid.some) is.least is.most

pub signed_mag : (width : ℕ) (signed : Bool) (valid : IsWidth width) (n : ℤ) → signed ≡ true → mag n < 2 ^ (width - 1) → InShape width signed n
signed_mag width signed valid n e h = let r = in_mag n (2 ^ (width - 1)) (2 ^ width) (below_at width signed) (below_by width signed true e) (half width valid.some) h in record { least = r.0; most = r.1 }

pub natural_unsigned : (width : ℕ) (signed : Bool) (n : ℤ) → signed ≡ false → InShape width signed n → (m : ℕ) × (n ≡ pos m) × (m < 2 ^ width)
natural_unsigned width signed n e is = natural_in n (2 ^ width) (below_at width signed) (below_by width signed false e) is.least is.most

pub unsigned_natural : (width : ℕ) (signed : Bool) (m : ℕ) → signed ≡ false → m < 2 ^ width → InShape width signed (pos m)
unsigned_natural width signed m e h = let r = in_natural m (2 ^ width) (below_at width signed) (below_by width signed false e) h in record { least = r.0; most = r.1 }

-- ---- the bits from the width on

sign_by : (z : ℤ) (h k : ℕ) → mag z < 2 ^ h → h ≤ k → bit_of z k ≡ int_lt z (pos 0)
sign_by (pos n) h k small high = clear_above n h k small high ∙ sym (never n)
  where
    never : (n : ℕ) → int_lt (pos n) (pos 0) ≡ false
    never n = grind (arith, nat_tests)
sign_by (negsuc n) h k small high = set_above n h k small high

pub sign_bits : (width : ℕ) (signed : Bool) (valid : IsWidth width) (a : ℤ) (k : ℕ) → InShape width signed a → signed ≡ true → width ≤ k + 1 → bit_of a k ≡ int_lt a (pos 0)
sign_bits width signed valid a k is e high = sign_by a (width - 1) k (mag_signed width signed valid a e is) (omega arith)

pub unsigned_bits : (width : ℕ) (signed : Bool) (a : ℤ) (k : ℕ) → InShape width signed a → signed ≡ false → width ≤ k → bit_of a k ≡ false
unsigned_bits width signed a k is e high = let m = natural_unsigned width signed a e is in ap (λ z. bit_of z k) m.1 ∙ clear_above m.0 width k m.2 high

pub is_false : (b : Bool) → IsTrue (not b) → b ≡ false
is_false true h = absurd (false≢true h)
is_false false h = refl

pub false_is : (b : Bool) → b ≡ false → IsTrue (not b)
false_is b e = ap not e
