-- Numbers by their signs and absolute values, as numbers of a width, and whether they fit.
use Rattle.std.proofs.Common.{ℕ, ◌≡◌, ◌<◌, ◌≤◌, ◌+◌, ◌*◌, ◌^◌, ◌==◌, Bool, true, false, not, ◌&&◌, List, length, take, get_or, ℤ, pos, neg_ℤ, ◌+ℤ◌, ◌-ℤ◌, ◌*ℤ◌, ◌≤ℤ◌, ◌<ℤ◌, IsTrue, ◌↔◌, if◌then◌else◌, refl, sym, ap, subst, ◌∙◌, arith, true≢false}
use Rattle.std.proofs.lemmas.Int.{ints}
use Rattle.std.proofs.lemmas.Nat.{pow_pos}
use Rattle.std.proofs.lemmas.Bool.{ne_eqb}
use Rattle.kv_num.specs.Bits.{differ}
use Rattle.kv_num.specs.Shape.{InShape, wrap_at}
use Rattle.kv_num.proofs.Ring.{times-neg}
use Rattle.kv_num.proofs.Shapes.{wrap_at-congruent}
use Rattle.sat_clause.specs.Literals.{is_true, complement_of}
use Rattle.sat_clause.proofs.Truths.{is_true-complement}
use Rattle.word_sums.specs.Words.{bit, number, signed_number, word_value}
use Rattle.word_sums.proofs.Numbers.{number-bound, number_top, full, half, low_bound}
use Rattle.word_sums.proofs.Totals.{as_shape}
use lib.IntN.{*ℤ_comm}

pub neg_as : (m : ℕ) → neg_ℤ (pos m) ≡ pos 0 -ℤ pos m
neg_as m = omega (arith, ints)

neg_neg : (m : ℕ) → neg_ℤ (neg_ℤ (pos m)) ≡ pos m
neg_neg m = omega (arith, ints)

times_comm : (m n : ℕ) → m * n ≡ n * m
times_comm m n = omega arith

-- the product of two numbers, from their signs and absolute values
pub signed_product : (sx sy : Bool) (m n : ℕ) → signed_number sx m *ℤ signed_number sy n ≡ signed_number (differ sx sy) (m * n)
signed_product true true m n =
    ap (λ z. z *ℤ (pos 0 -ℤ pos n)) (sym (neg_as m)) ∙ (ap (λ z. neg_ℤ (pos m) *ℤ z) (sym (neg_as n)) ∙ (times-neg (pos m) (neg_ℤ (pos n)) ∙ (ap neg_ℤ (*ℤ_comm (pos m) (neg_ℤ (pos n)) ∙ times-neg (pos n) (pos m)) ∙ (neg_neg (n * m) ∙ ap pos (times_comm n m)))))
signed_product true false m n =
    ap (λ z. z *ℤ pos n) (sym (neg_as m)) ∙ (times-neg (pos m) (pos n) ∙ neg_as (m * n))
signed_product false true m n =
    ap (λ z. pos m *ℤ z) (sym (neg_as n)) ∙ (*ℤ_comm (pos m) (neg_ℤ (pos n)) ∙ (times-neg (pos n) (pos m) ∙ (neg_as (n * m) ∙ ap (λ z. pos 0 -ℤ pos z) (times_comm n m))))
signed_product false false m n = refl

-- ---- as a number of the width

turned_number : (low nv s b : ℕ) (z : ℤ) → nv + low ≡ s * b → z ≡ pos 0 -ℤ pos (b * s) → pos 0 -ℤ pos low ≡ pos nv +ℤ z
turned_number low nv s b z e f = omega (arith, ints)

wrapped_sign : (w : ℕ) (signed neg : Bool) (low nv b : ℕ) → (if neg then nv + low else nv) ≡ (if neg then 2 ^ w * b else low) → wrap_at w signed (pos nv) ≡ wrap_at w signed (signed_number neg low)
wrapped_sign w signed true low nv b e =
    sym (wrap_at-congruent w signed (pos 0 -ℤ pos low) (pos nv) (neg_ℤ (pos b)) (turned_number low nv (2 ^ w) b (neg_ℤ (pos b) *ℤ pos (2 ^ w)) e (times-neg (pos b) (pos (2 ^ w)) ∙ neg_as (b * 2 ^ w))))
wrapped_sign w signed false low nv b e = ap (λ n. wrap_at w signed (pos n)) e

-- the word of a sign and an absolute value
pub wrapped_absolute : (A : ℕ → Bool) (signed neg : Bool) (low value : List ℕ) → length value ≡ length low → (if neg then number A value + number A low else number A value) ≡ (if neg then 2 ^ length low * bit (not (number A low == 0)) else number A low)
    → word_value A signed value ≡ wrap_at (length low) signed (signed_number neg (number A low))
unfolding word_value
wrapped_absolute A signed neg low value len e =
    ap (λ k. wrap_at k signed (pos (number A value))) len ∙ wrapped_sign (length low) signed neg (number A low) (number A value) (bit (not (number A low == 0))) e

-- ---- whether it fits

abbrev Within : ℤ → ℕ → ℕ → Type 0
Within n b s = (pos 0 ≤ℤ (n +ℤ pos b)) × ((n +ℤ pos b) <ℤ pos s)

unsigned_fits : (neg : Bool) (low s : ℕ) → neg ≡ false → low < s → (IsTrue true → Within (signed_number neg low) 0 s) × (Within (signed_number neg low) 0 s → IsTrue true)
unsigned_fits true low s en h = absurd (true≢false en)
unsigned_fits false low s en h = (λ f. (omega (arith, ints), omega (arith, ints)), λ r. refl)

least_absolute : (ll vl p s low nv : ℕ) → s ≡ 2 * p → low ≡ ll + p * 1 → nv ≡ vl + p * 1 → nv + low ≡ s * 1 → low ≡ p
least_absolute ll vl p s low nv e1 e2 e3 e4 = omega arith

-- a positive number is within where it is below half, a negative one where it is at most half
positive_within : (low p s : ℕ) → s ≡ 2 * p → low < p → Within (pos low) p s
positive_within low p s e h = (omega (arith, ints), omega (arith, ints))

positive_past : (low p s : ℕ) → s ≡ 2 * p → p ≤ low → Within (pos low) p s → ⊥
positive_past low p s e h r = omega (arith, ints, r.1)

negative_within : (low p s : ℕ) → s ≡ 2 * p → 0 < p → low ≤ p → Within (pos 0 -ℤ pos low) p s
negative_within low p s e z h = (omega (arith, ints), omega (arith, ints))

negative_past : (low p s : ℕ) → p < low → Within (pos 0 -ℤ pos low) p s → ⊥
negative_past low p s h r = omega (arith, ints, r.0)

module _ (ll vl low nv p s : ℕ) (z : 0 < p) (es : s ≡ 2 * p) (hl : ll < p) (hv : vl < p) where
  turned_whole : (vt : Bool) → low ≡ ll + p * 1 → (nv + low ≡ s * bit (not (low == 0))) → nv + low ≡ s * 1
  turned_whole vt el f =
      let apart : low ≡ 0 → ⊥ = λ (q : low ≡ 0). omega arith in
      f ∙ ap (λ q. s * bit (not q)) (ne_eqb low 0 apart)

  signed_fits : (neg lt vt : Bool) → low ≡ ll + p * bit lt → nv ≡ vl + p * bit vt → (if neg then nv + low else nv) ≡ (if neg then s * bit (not (low == 0)) else low)
      → (IsTrue (not (lt && not (neg && vt))) → Within (signed_number neg low) p s) × (Within (signed_number neg low) p s → IsTrue (not (lt && not (neg && vt))))
  signed_fits false true vt el ev f = (λ t. absurd (true≢false (sym t)), λ r. absurd (positive_past low p s es (omega arith) r))
  signed_fits false false vt el ev f = (λ t. positive_within low p s es (omega arith), λ r. refl)
  signed_fits true false vt el ev f = (λ t. negative_within low p s es z (omega arith), λ r. refl)
  signed_fits true true true el ev f =
      let l : low ≡ p = least_absolute ll vl p s low nv es el ev (turned_whole true el f) in
      (λ t. negative_within low p s es z (omega arith), λ r. refl)
  signed_fits true true false el ev f =
      let g = turned_whole false el f in
      (λ t. absurd (true≢false (sym t)), λ r. absurd (negative_past low p s (past g) r))
    where
      past : nv + low ≡ s * 1 → p < low
      past g = omega arith

module _ (A : ℕ → Bool) (low value : List ℕ) (n x y : ℕ) (neg : Bool) (ll : length low ≡ n + 1) (lv : length value ≡ n + 1) (lx : x ≡ get_or low n x) (vy : y ≡ get_or value n y)
    (turned : (if neg then number A value + number A low else number A value) ≡ (if neg then 2 ^ length low * bit (not (number A low == 0)) else number A low)) where
  some : 0 < 2 ^ n
  some = pow_pos n

  bounds : (IsTrue (not (is_true A x && not (neg && is_true A y))) → Within (signed_number neg (number A low)) (2 ^ n) (2 ^ length low)) × (Within (signed_number neg (number A low)) (2 ^ n) (2 ^ length low) → IsTrue (not (is_true A x && not (neg && is_true A y))))
  bounds = signed_fits (number A (take n low)) (number A (take n value)) (number A low) (number A value) (2 ^ n) (2 ^ length low) some (full A low n x ll lx) (low_bound A low n x ll lx) (low_bound A value n y lv vy)
      neg (is_true A x) (is_true A y) (number_top A low n x ll lx) (number_top A value n y lv vy) turned

  pub absolute_fits : (signed f : Bool) → (signed ≡ false → neg ≡ false) → f ≡ not (signed && (is_true A x && not (neg && is_true A y))) → IsTrue f ↔ InShape (length low) signed (signed_number neg (number A low))
  absolute_fits true f plain e =
      let z = signed_number neg (number A low) in
      let t = not (is_true A x && not (neg && is_true A y)) in
      as_shape (length low) true z z t f refl e (subst (λ h. (IsTrue t → Within z h (2 ^ length low)) × (Within z h (2 ^ length low) → IsTrue t)) (sym (half A low n x ll lx)) bounds)
  absolute_fits false f plain e =
      let z = signed_number neg (number A low) in
      as_shape (length low) false z z true f refl e (unsigned_fits neg (number A low) (2 ^ length low) (plain refl) (number-bound A low))

pub in_range_value : (A : ℕ → Bool) (signed : Bool) (top word neg least greater past out : ℕ) → signed ≡ true
    → is_true A least ≡ (is_true A neg && is_true A word) → greater ≡ complement_of least → is_true A past ≡ (is_true A top && is_true A greater) → out ≡ complement_of past
    → is_true A out ≡ not (signed && (is_true A top && not (is_true A neg && is_true A word)))
in_range_value A signed top word neg least greater past out es el eg ep eout =
    let g : is_true A greater ≡ not (is_true A neg && is_true A word) = ap (is_true A) eg ∙ (is_true-complement A least ∙ ap not el) in
    let o : is_true A past ≡ (is_true A top && not (is_true A neg && is_true A word)) = ep ∙ ap (λ z. is_true A top && z) g in
    ap (is_true A) eout ∙ (is_true-complement A past ∙ (ap not o ∙ ap (λ z. not (z && (is_true A top && not (is_true A neg && is_true A word)))) (sym es)))
