-- Quotients, digit by digit from the top, and with signs.
use Rattle.std.proofs.Common.{ℕ, zero, suc, ◌≡◌, ◌≢◌, ◌<◌, ◌≤◌, ◌+◌, ◌-◌, ◌*◌, ◌/◌, ◌^◌, ◌==◌, nat_lt, Bool, true, false, not, ◌&&◌, List, length, take, drop, ℤ, pos, neg_ℤ, ◌+ℤ◌, ◌-ℤ◌, ◌*ℤ◌, ◌≤ℤ◌, ◌<ℤ◌, if◌then◌else◌, refl, sym, ap, subst, ◌∙◌, arith, inl, inr, ◌⊎◌, true≢false, length-take}
use Rattle.std.proofs.Math.Nat.{zero-div}
use Rattle.std.proofs.lemmas.Int.{ints}
use Rattle.std.proofs.lemmas.Nat.{div-mul-add}
use Rattle.std.proofs.lemmas.Bool.{cases_lt, lt-ltb, le-ltb}
use Rattle.std.proofs.lemmas.Bool.Decides.{Decides-int_eq}
use Rattle.std.specs.Ordering.{int_eq}
use Rattle.kv_num.specs.Bits.{differ}
use Rattle.kv_num.specs.Quotient.{quotient_of, remainder_of}
use Rattle.kv_num.specs.Shape.{below_at, InShape}
use Rattle.kv_num.proofs.Shapes.{wrap_at-in_shape, range-wrap_at}
use Rattle.sat_clause.specs.Literals.{is_true, complement_of}
use Rattle.sat_clause.proofs.Truths.{is_true-complement}
use Rattle.word_sums.specs.Words.{bit, number, signed_number, word_value}
use Rattle.word_sums.proofs.Numbers.{below_less, number-bound}
use Rattle.term_core.specs.Term.{quotient_by, remainder_by}
use Rattle.word_gates.specs.Words.{IsDivision}
use Rattle.word_gates.proofs.Bounds.{zero_in_shape}
use Rattle.word_gates.proofs.Exact.{neg_as, signed_product, wrapped_absolute}
use Rattle.word_sums.proofs.Pieces.{number-split, nonzero, rest_is}

-- ---- one digit of a quotient

module _ (c g p : Bool) (w l s t k h d rest : ℕ) (ep : p ≡ not (h == 0)) (eg : g ≡ (c && not p)) (ed : d ≡ l + k * h) (et : t + l + 1 ≡ k) (sum : s + k * bit c ≡ w + t + 1) (hs : s < k) (hw : w < k) (er : rest ≡ (if g then s else w)) where
  digit_cases : ((g ≡ true) × (h ≡ 0) × (c ≡ true)) ⊎ ((g ≡ false) × (w < d))
  digit_cases = by c h p g refl ep eg refl
    where
      by : (c2 : Bool) (h2 : ℕ) (p2 g2 : Bool) → c ≡ c2 → p2 ≡ not (h2 == 0) → g2 ≡ (c2 && not p2) → h ≡ h2 → ((g2 ≡ true) × (h ≡ 0) × (c ≡ true)) ⊎ ((g2 ≡ false) × (w < d))
      by true zero p2 g2 ec ep2 eg2 eh = inl (eg2 ∙ ap not ep2, eh, ec)
      by false zero p2 g2 ec ep2 eg2 eh = inr (eg2, low (sym ec) eh)
        where
          low : false ≡ c → h ≡ 0 → w < d
          low f z = under w l s t k d (ed ∙ (ap (λ x. l + k * x) z ∙ omega arith)) et (subst (λ b. s + k * bit b ≡ w + t + 1) (sym f) sum) hs
            where
              under : (w l s t k d : ℕ) → d ≡ l → t + l + 1 ≡ k → s + k * 0 ≡ w + t + 1 → s < k → w < d
              under w l s t k d e f g h = omega arith
      by c2 (suc h2) p2 g2 ec ep2 eg2 eh = inr (eg2 ∙ (ap (λ z. c2 && not z) (ep2 ∙ ap not (nonzero h2)) ∙ and_false c2), far (ed ∙ ap (λ x. l + k * x) eh))
        where
          and_false : (b : Bool) → (b && false) ≡ false
          and_false true = refl
          and_false false = refl

          far : d ≡ l + k * suc h2 → w < d
          far e = omega arith

  pub digit_taken : g ≡ not (nat_lt w d)
  digit_taken = by digit_cases
    where
      over : (w l s t k d : ℕ) → d ≡ l → t + l + 1 ≡ k → s + k * 1 ≡ w + t + 1 → d ≤ w
      over w l s t k d e f g = omega arith

      by : ((g ≡ true) × (h ≡ 0) × (c ≡ true)) ⊎ ((g ≡ false) × (w < d)) → g ≡ not (nat_lt w d)
      by (inl q) = q.0 ∙ ap not (sym (le-ltb w d (over w l s t k d (ed ∙ (ap (λ x. l + k * x) q.1 ∙ omega arith)) et (subst (λ b. s + k * bit b ≡ w + t + 1) q.2 sum))))
      by (inr q) = q.0 ∙ ap not (sym (lt-ltb w d q.1))

  pub digit_rest : rest + d * bit g ≡ w
  digit_rest = by digit_cases
    where
      over : (w l s t k d r : ℕ) → d ≡ l → t + l + 1 ≡ k → s + k * 1 ≡ w + t + 1 → r ≡ s → r + d * 1 ≡ w
      over w l s t k d r e f g z = omega arith

      under : (w d r : ℕ) → r ≡ w → r + d * 0 ≡ w
      under w d r e = omega arith

      by : ((g ≡ true) × (h ≡ 0) × (c ≡ true)) ⊎ ((g ≡ false) × (w < d)) → rest + d * bit g ≡ w
      by (inl q) = ap (λ b. rest + d * bit b) q.0 ∙ over w l s t k d rest (ed ∙ (ap (λ x. l + k * x) q.1 ∙ omega arith)) et (subst (λ b. s + k * bit b ≡ w + t + 1) q.2 sum) (er ∙ ap (λ b. if b then s else w) q.0)
      by (inr q) = ap (λ b. rest + d * bit b) q.0 ∙ under w d rest (er ∙ ap (λ b. if b then s else w) q.0)

module _ (A : ℕ → Bool) (whole divisor turned wholes turneds sums rest : List ℕ) (k k2 carry always past np digit : ℕ) (ek : k ≡ length whole) (ek2 : k2 ≡ length whole) (short : length whole ≤ length divisor) (ew : wholes ≡ whole) (et : turneds ≡ turned)
    (complement : number A turned + number A (take k divisor) + 1 ≡ 2 ^ length (take k divisor)) (one : is_true A always ≡ true) (len : length sums ≡ length wholes)
    (sum : number A sums + 2 ^ length wholes * bit (is_true A carry) ≡ number A wholes + number A turneds + bit (is_true A always))
    (above : is_true A past ≡ not (number A (take (length divisor - k2) (drop k2 divisor)) == 0)) (flipped : np ≡ complement_of past) (is : is_true A digit ≡ (is_true A carry && is_true A np)) (left : number A rest ≡ (if is_true A digit then number A sums else number A whole)) where
  past_is : is_true A past ≡ not (number A (drop (length whole) divisor) == 0)
  past_is = above ∙ (ap (λ n. not (number A (take (length divisor - n) (drop n divisor)) == 0)) ek2 ∙ ap (λ z. not (number A z == 0)) (rest_is (length whole) divisor short))

  digit_is : is_true A digit ≡ (is_true A carry && not (is_true A past))
  digit_is = is ∙ ap (λ z. is_true A carry && z) (ap (is_true A) flipped ∙ is_true-complement A past)

  low_length : length (take (length whole) divisor) ≡ length whole
  low_length = omega (arith, length-take (length whole) divisor)

  complement_is : number A turned + number A (take (length whole) divisor) + 1 ≡ 2 ^ length whole
  complement_is = subst (λ n. number A turned + number A (take n divisor) + 1 ≡ 2 ^ length (take n divisor)) ek complement ∙ ap (λ n. 2 ^ n) low_length

  sum_is : number A sums + 2 ^ length whole * bit (is_true A carry) ≡ number A whole + number A turned + 1
  sum_is =
      ap (λ z. number A sums + 2 ^ length z * bit (is_true A carry)) (sym ew)
      ∙ (sum ∙ (ap (λ z. number A z + number A turneds + bit (is_true A always)) ew ∙ (ap (λ z. number A whole + number A z + bit (is_true A always)) et ∙ ap (λ b. number A whole + number A turned + bit b) one)))

  sums_bound : number A sums < 2 ^ length whole
  sums_bound = subst (λ n. number A sums < 2 ^ n) (len ∙ ap length ew) (number-bound A sums)

  pub reduced_taken : is_true A digit ≡ not (nat_lt (number A whole) (number A divisor))
  reduced_taken = digit_taken (is_true A carry) (is_true A digit) (is_true A past) (number A whole) (number A (take (length whole) divisor)) (number A sums) (number A turned) (2 ^ length whole) (number A (drop (length whole) divisor)) (number A divisor) (number A rest)
      past_is digit_is (number-split A (length whole) divisor short) complement_is sum_is sums_bound (number-bound A whole) left

  pub reduced_value : number A rest + number A divisor * bit (is_true A digit) ≡ number A whole
  reduced_value = digit_rest (is_true A carry) (is_true A digit) (is_true A past) (number A whole) (number A (take (length whole) divisor)) (number A sums) (number A turned) (2 ^ length whole) (number A (drop (length whole) divisor)) (number A divisor) (number A rest)
      past_is digit_is (number-split A (length whole) divisor short) complement_is sum_is sums_bound (number-bound A whole) left

pub quotient_more : (b q r x d n whole rest g q2 : ℕ) → q * b + r ≡ d → n ≡ x + 2 * d → whole ≡ x + 2 * r → rest + b * g ≡ whole → q2 ≡ g + 2 * q → q2 * b + rest ≡ n
quotient_more b q r x d n whole rest g q2 e1 e2 e3 e4 e5 =
    let f : q2 * b ≡ (g + 2 * q) * b = ap (λ z. z * b) e5 in
    omega arith

pub remainder_more : (b r x whole rest : ℕ) (g : Bool) → x ≤ 1 → r < b → whole ≡ x + 2 * r → g ≡ not (nat_lt whole b) → rest + b * bit g ≡ whole → rest < b
remainder_more b r x whole rest true hx hr e t f = omega arith
remainder_more b r x whole rest false hx hr e t f = by (cases_lt whole b)
  where
    by : (whole < b) ⊎ (b ≤ whole) → rest < b
    by (inl h) = omega arith
    by (inr h) = absurd (true≢false (sym (t ∙ ap not (le-ltb whole b h))))

-- ---- with signs

abbrev turned : Bool → ℕ → ℤ
turned true n = neg_ℤ (pos n)
turned false n = pos n

turned_as : (s : Bool) (n : ℕ) → turned s n ≡ signed_number s n
turned_as true n = neg_as n
turned_as false n = refl

turned_quotient : (sx sy : Bool) (m n : ℕ) → quotient_of (turned sx m) (turned sy (suc n)) ≡ turned (differ sx sy) (m / suc n)
turned_quotient false false m n = refl
turned_quotient false true m n = refl
turned_quotient true false zero n = ap pos (zero-div (suc n)) ∙ sym (ap (λ z. neg_ℤ (pos z)) (zero-div (suc n)))
turned_quotient true false (suc m) n = refl
turned_quotient true true zero n = ap (λ z. neg_ℤ (pos z)) (zero-div (suc n)) ∙ sym (ap pos (zero-div (suc n)))
turned_quotient true true (suc m) n = refl

signed_quotient : (sx sy : Bool) (m n : ℕ) → 0 < n → quotient_of (signed_number sx m) (signed_number sy n) ≡ signed_number (differ sx sy) (m / n)
signed_quotient sx sy m zero h = absurd (omega arith)
signed_quotient sx sy m (suc n) h =
    ap (λ z. quotient_of z (signed_number sy (suc n))) (sym (turned_as sx m))
    ∙ (ap (λ z. quotient_of (turned sx m) z) (sym (turned_as sy (suc n)))
    ∙ (turned_quotient sx sy m n ∙ turned_as (differ sx sy) (m / suc n)))

twice : (a b : Bool) → differ (differ a b) b ≡ a
twice true true = refl
twice true false = refl
twice false true = refl
twice false false = refl

left_over : (s : Bool) (n p r : ℕ) → p + r ≡ n → signed_number s n -ℤ signed_number s p ≡ signed_number s r
left_over true n p r e = omega (arith, ints)
left_over false n p r e = omega (arith, ints)

module _ (va vb : ℤ) (sx sy neg : Bool) (nx ny q r : ℕ) (ea : va ≡ signed_number sx nx) (eb : vb ≡ signed_number sy ny) (en : neg ≡ differ sx sy) (whole : q * ny + r ≡ nx) (small : 0 < ny → r < ny) (some : vb ≢ pos 0) where
  divisor_some : 0 < ny
  divisor_some = by sy ny eb
    where
      by : (s : Bool) (n : ℕ) → vb ≡ signed_number s n → 0 < n
      by true zero e = absurd (some (e ∙ omega (arith, ints)))
      by false zero e = absurd (some e)
      by s (suc n) e = omega arith

  digits : nx / ny ≡ q
  digits = ap (λ z. z / ny) (sym whole) ∙ div-mul-add q ny r (small divisor_some)

  pub signed_quotient_is : signed_number neg q ≡ quotient_of va vb
  signed_quotient_is =
      ap (λ b. signed_number b q) en ∙ (ap (signed_number (differ sx sy)) (sym digits) ∙ (sym (signed_quotient sx sy nx ny divisor_some) ∙ (ap (λ z. quotient_of z (signed_number sy ny)) (sym ea) ∙ ap (quotient_of va) (sym eb))))

  pub signed_remainder_is : signed_number sx r ≡ remainder_of va vb
  signed_remainder_is =
      let e : quotient_of va vb *ℤ vb ≡ signed_number sx (q * ny) =
      ap (λ z. z *ℤ vb) (sym signed_quotient_is) ∙ (ap (λ b. signed_number b q *ℤ vb) en ∙ (ap (λ z. signed_number (differ sx sy) q *ℤ z) eb ∙ (signed_product (differ sx sy) sy q ny ∙ ap (λ b. signed_number b (q * ny)) (twice sx sy)))) in
      sym (ap (λ z. va -ℤ z) e ∙ (ap (λ z. z -ℤ signed_number sx (q * ny)) ea ∙ left_over sx nx (q * ny) r whole))

  remainder_least : r ≤ nx
  remainder_least = by (q * ny) r nx whole
    where
      by : (p r n : ℕ) → p + r ≡ n → r ≤ n
      by p r n e = omega arith

  pub remainder_shape : (w : ℕ) (signed : Bool) → 0 < w → InShape w signed va → InShape w signed (signed_number sx r)
  remainder_shape w signed h is = let P : ℤ → Type 0 = λ z. InShape w signed z in by sx r nx remainder_least (subst P ea is)
    where
      by : (s : Bool) (m n : ℕ) → m ≤ n → InShape w signed (signed_number s n) → InShape w signed (signed_number s m)
      by s m n k i = let l = below_less w signed h in let z = nearer s m n (below_at w signed) (2 ^ w) k l i.least i.most in record { least = z.0; most = z.1 }
        where
          nearer : (s : Bool) (m n b t : ℕ) → m ≤ n → b < t → pos 0 ≤ℤ (signed_number s n +ℤ pos b) → (signed_number s n +ℤ pos b) <ℤ pos t → (pos 0 ≤ℤ (signed_number s m +ℤ pos b)) × ((signed_number s m +ℤ pos b) <ℤ pos t)
          nearer true m n b t k l p q = (omega (arith, ints), omega (arith, ints))
          nearer false m n b t k l p q = (omega (arith, ints), omega (arith, ints))

pub shape_of_word : (A : ℕ → Bool) (signed : Bool) (a : List ℕ) → InShape (length a) signed (word_value A signed a)
unfolding word_value
shape_of_word A signed a = range-wrap_at (length a) signed (pos (number A a))

-- the word of a remainder, from its absolute value
pub remainder_value : (A : ℕ → Bool) (signed neg : Bool) (low value : List ℕ) → length value ≡ length low → (if neg then number A value + number A low else number A value) ≡ (if neg then 2 ^ length low * bit (not (number A low == 0)) else number A low) → InShape (length low) signed (signed_number neg (number A low)) → word_value A signed value ≡ signed_number neg (number A low)
remainder_value A signed neg low value len e is =
    wrapped_absolute A signed neg low value len e ∙ wrap_at-in_shape (length low) signed (signed_number neg (number A low)) is

-- ---- also by 0

pub masked_division : (n d q r mq mr : ℕ) (t : Bool) → q * d + r ≡ n → (0 < d → r < d) → t ≡ not (d == 0) → mq ≡ q * bit t → mr ≡ r * bit t → IsDivision n d mq mr
masked_division n zero q r mq mr t whole small et eq er = record {
  whole = λ h. absurd (omega arith);
  small = λ h. absurd (omega arith);
  none = λ e. (eq ∙ (ap (λ b. q * bit b) et ∙ omega arith), er ∙ (ap (λ b. r * bit b) et ∙ omega arith));
}
masked_division n (suc d) q r mq mr t whole small et eq er =
    let yes : t ≡ true = et ∙ ap not (nonzero d) in
    let same_q : mq ≡ q = eq ∙ (ap (λ b. q * bit b) yes ∙ omega arith) in
    let same_r : mr ≡ r = er ∙ (ap (λ b. r * bit b) yes ∙ omega arith) in
    record {
      whole = λ h. (λ j. same_q j * suc d + same_r j) ∙ whole;
      small = λ h. subst (λ z. z < suc d) (sym same_r) (small h);
      none = λ e. absurd (omega arith);
    }

no_digits : (s : Bool) → signed_number s 0 ≡ pos 0
no_digits true = omega (arith, ints)
no_digits false = refl

apart_from_zero : (s : Bool) (v : ℤ) (n : ℕ) → v ≡ signed_number s n → 0 < n → v ≢ pos 0
apart_from_zero true v n e h = λ z. omega (arith, ints)
apart_from_zero false v n e h = λ z. omega (arith, ints)

not_equal : (x y : ℤ) → (x ≡ y → ⊥) → int_eq x y ≡ false
not_equal x y h = grind (arith, ints)

module _ (va vb : ℤ) (sx sy neg : Bool) (nx ny q r : ℕ) (ea : va ≡ signed_number sx nx) (eb : vb ≡ signed_number sy ny) (en : neg ≡ differ sx sy) (is : IsDivision nx ny q r) where
  by_some : 0 < ny → vb ≢ pos 0
  by_some h = apart_from_zero sy vb ny eb h

  by_zero : ny ≡ 0 → int_eq vb (pos 0) ≡ true
  by_zero e = (Decides-int_eq vb (pos 0)).1 (eb ∙ (ap (signed_number sy) e ∙ no_digits sy))

  -- the quotient and the remainder, as the values of terms are
  pub total_quotient_is : signed_number neg q ≡ quotient_by va vb
  total_quotient_is = by (cases_lt 0 ny)
    where
      by : (0 < ny) ⊎ (ny ≤ 0) → signed_number neg q ≡ quotient_by va vb
      by (inl h) =
          signed_quotient_is va vb sx sy neg nx ny q r ea eb en (is.whole h) is.small (by_some h)
          ∙ sym (ap (λ (t : Bool). if t then pos 0 else quotient_of va vb) (not_equal vb (pos 0) (by_some h)))
      by (inr h) =
          let e : ny ≡ 0 = omega arith in
          ap (signed_number neg) (is.none e).0 ∙ (no_digits neg ∙ sym (ap (λ (t : Bool). if t then pos 0 else quotient_of va vb) (by_zero e)))

  pub total_remainder_is : signed_number sx r ≡ remainder_by va vb
  total_remainder_is = by (cases_lt 0 ny)
    where
      by : (0 < ny) ⊎ (ny ≤ 0) → signed_number sx r ≡ remainder_by va vb
      by (inl h) =
          signed_remainder_is va vb sx sy neg nx ny q r ea eb en (is.whole h) is.small (by_some h)
          ∙ sym (ap (λ (t : Bool). if t then pos 0 else remainder_of va vb) (not_equal vb (pos 0) (by_some h)))
      by (inr h) =
          let e : ny ≡ 0 = omega arith in
          ap (signed_number sx) (is.none e).1 ∙ (no_digits sx ∙ sym (ap (λ (t : Bool). if t then pos 0 else remainder_of va vb) (by_zero e)))

  pub total_remainder_shape : (w : ℕ) (signed : Bool) → 0 < w → InShape w signed va → InShape w signed (signed_number sx r)
  total_remainder_shape w signed some fits = by (cases_lt 0 ny)
    where
      by : (0 < ny) ⊎ (ny ≤ 0) → InShape w signed (signed_number sx r)
      by (inl h) = remainder_shape va vb sx sy neg nx ny q r ea eb en (is.whole h) is.small (by_some h) w signed some fits
      by (inr h) =
          let e : ny ≡ 0 = omega arith in
          let P : ℤ → Type 0 = λ z. InShape w signed z in
          subst P (sym (ap (signed_number sx) (is.none e).1 ∙ no_digits sx)) (zero_in_shape w signed some)
