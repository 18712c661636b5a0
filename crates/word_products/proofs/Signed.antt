-- Products of words with a sign, by rows.
use Rattle.std.proofs.Common.{ℕ, zero, suc, ◌≡◌, ◌<◌, ◌≤◌, ◌+◌, ◌-◌, ◌*◌, ◌^◌, ◌==◌, Bool, true, false, not, List, [], ◌∷◌, ◌++◌, length, take, drop, get_or, ℤ, pos, negsuc, neg_ℤ, ◌+ℤ◌, ◌-ℤ◌, ◌*ℤ◌, ◌≤ℤ◌, ◌<ℤ◌, IsTrue, ◌↔◌, refl, sym, ap, subst, ◌∙◌, arith, inl, inr, ◌⊎◌, true≢false, length-append, length-drop}
use Rattle.std.proofs.Math.Seq.{take-append_seam, get_or-append_seam}
use Rattle.std.proofs.Math.ListN.{replicate}
use Rattle.std.proofs.lemmas.Int.{ints}
use Rattle.std.proofs.lemmas.Nat.{pow_pos}
use Rattle.std.proofs.lemmas.Bool.{cases_eq, eq-eqb, ne_eqb}
use Rattle.kv_num.specs.Bits.{differ}
use Rattle.kv_num.proofs.Ring.{sums, times-add, times-neg, times-times}
use Rattle.kv_num.specs.Shape.{below_at, InShape, wrap_at}
use Rattle.kv_num.proofs.Shapes.{wrap_at-in_shape, wrap_at-congruent}
use Rattle.sat_clause.specs.Literals.{is_true, complement_of}
use Rattle.sat_clause.proofs.Truths.{is_true-complement}
use Rattle.word_sums.specs.Words.{bit, number, word_value}
use Rattle.word_sums.proofs.Numbers.{below_less, number-bound, pow_next, word_value-unsigned, word_value-signed, number_top, low_bound}
use Rattle.word_sums.proofs.Totals.{as_shape}
use Rattle.word_sums.proofs.Pieces.{number-append, number-copies, nonzero, top_same}
use lib.IntN.{*ℤ_comm}

-- ---- one row

signed_digits : (hx hy c : Bool) (la lb na nb w u d p q ci : ℕ) → na ≡ la + p * bit hx → nb ≡ lb + p * bit hy → la < p → lb < p → ci ≤ 1 → q ≡ 2 * p → w + q * bit c ≡ na + nb + ci → w < q → w ≡ d + 2 * u
    → pos d +ℤ ((pos u -ℤ pos (p * bit (differ (differ hx hy) c))) *ℤ pos 2) ≡ ((pos la -ℤ pos (p * bit hx)) +ℤ (pos lb -ℤ pos (p * bit hy))) +ℤ pos ci
signed_digits true true true la lb na nb w u d p q ci e1 e2 h1 h2 h3 e3 e4 h4 e5 = omega (arith, ints)
signed_digits true true false la lb na nb w u d p q ci e1 e2 h1 h2 h3 e3 e4 h4 e5 = absurd (omega arith)
signed_digits true false true la lb na nb w u d p q ci e1 e2 h1 h2 h3 e3 e4 h4 e5 = omega (arith, ints)
signed_digits true false false la lb na nb w u d p q ci e1 e2 h1 h2 h3 e3 e4 h4 e5 = omega (arith, ints)
signed_digits false true true la lb na nb w u d p q ci e1 e2 h1 h2 h3 e3 e4 h4 e5 = omega (arith, ints)
signed_digits false true false la lb na nb w u d p q ci e1 e2 h1 h2 h3 e3 e4 h4 e5 = omega (arith, ints)
signed_digits false false true la lb na nb w u d p q ci e1 e2 h1 h2 h3 e3 e4 h4 e5 = absurd (omega arith)
signed_digits false false false la lb na nb w u d p q ci e1 e2 h1 h2 h3 e3 e4 h4 e5 = omega (arith, ints)

-- the digit of a sum of three bits, and the sign of a sum from its top digits
odd_digit : (x y c d o : Bool) → bit d + 2 * bit o ≡ bit x + bit y + bit c → d ≡ differ (differ x y) c
odd_digit true true true true o e = refl
odd_digit true true true false o e = absurd (omega arith)
odd_digit true true false true o e = absurd (omega arith)
odd_digit true true false false o e = refl
odd_digit true false true true o e = absurd (omega arith)
odd_digit true false true false o e = refl
odd_digit true false false true o e = refl
odd_digit true false false false o e = absurd (omega arith)
odd_digit false true true true o e = absurd (omega arith)
odd_digit false true true false o e = refl
odd_digit false true false true o e = refl
odd_digit false true false false o e = absurd (omega arith)
odd_digit false false true true o e = refl
odd_digit false false true false o e = absurd (omega arith)
odd_digit false false false true o e = absurd (omega arith)
odd_digit false false false false o e = refl

swapped : (e c t : Bool) → differ (differ e c) t ≡ differ e (differ t c)
swapped true true true = refl
swapped true true false = refl
swapped true false true = refl
swapped true false false = refl
swapped false true true = refl
swapped false true false = refl
swapped false false true = refl
swapped false false false = refl

pub sign_digit : (x y c d t s : Bool) → bit d + 2 * bit (differ t c) ≡ bit x + bit y + bit c → s ≡ differ d t → s ≡ differ (differ x y) (differ t c)
sign_digit x y c d t s e f = f ∙ (ap (λ z. differ z t) (odd_digit x y c d (differ t c) e) ∙ swapped (differ x y) c t)

number_head : (A : ℕ → Bool) (word : List ℕ) (d : ℕ) → 0 < length word → d ≡ get_or word 0 d → number A word ≡ bit (is_true A d) + 2 * number A (drop 1 word)
number_head A [] d h is = absurd (omega arith)
number_head A (x ∷ xs) d h is = ap (λ z. bit (is_true A z) + 2 * number A xs) (sym is)

module _ (A : ℕ → Bool) (a b word rest : List ℕ) (n ci x y d t : ℕ) (c : Bool) (la : length a ≡ n + 1) (lb : length b ≡ n + 1) (lw : length word ≡ n + 1) (ax : x ≡ get_or a n x) (by : y ≡ get_or b n y)
    (made : rest ≡ drop 1 word ++ t ∷ []) (is : d ≡ get_or word 0 d) (sum : number A word + 2 ^ (n + 1) * bit c ≡ number A a + number A b + ci) (top : is_true A t ≡ differ (differ (is_true A x) (is_true A y)) c) (small : ci ≤ 1) where
  rest_front : length (drop 1 word) ≡ n
  rest_front = omega (arith, length-drop 1 word)

  rest_length : length rest ≡ n + 1
  rest_length = let e = rest_front in ap length made ∙ omega (arith, length-append (drop 1 word) (t ∷ []))

  rest_top : t ≡ get_or rest n t
  rest_top = sym (ap (λ z. get_or z n t) made ∙ (ap (λ k. get_or (drop 1 word ++ t ∷ []) k t) (sym rest_front) ∙ get_or-append_seam (drop 1 word) t [] t))

  rest_low : take n rest ≡ drop 1 word
  rest_low = ap (take n) made ∙ (ap (λ k. take k (drop 1 word ++ t ∷ [])) (sym rest_front) ∙ take-append_seam (drop 1 word) (t ∷ []))

  rest_value : word_value A true rest ≡ pos (number A (drop 1 word)) -ℤ pos (2 ^ n * bit (differ (differ (is_true A x) (is_true A y)) c))
  rest_value = word_value-signed A rest n t rest_length rest_top ∙ (ap (λ z. pos (number A z) -ℤ pos (2 ^ n * bit (is_true A t))) rest_low ∙ ap (λ b. pos (number A (drop 1 word)) -ℤ pos (2 ^ n * bit b)) top)

  word_bound : number A word < 2 ^ (n + 1)
  word_bound = subst (λ k. number A word < 2 ^ k) lw (number-bound A word)

  pub signed_sum : pos (bit (is_true A d)) +ℤ (word_value A true rest *ℤ pos 2) ≡ (word_value A true a +ℤ word_value A true b) +ℤ pos ci
  signed_sum =
      ap (λ z. pos (bit (is_true A d)) +ℤ (z *ℤ pos 2)) rest_value
      ∙ (signed_digits (is_true A x) (is_true A y) c (number A (take n a)) (number A (take n b)) (number A a) (number A b) (number A word) (number A (drop 1 word)) (bit (is_true A d)) (2 ^ n) (2 ^ (n + 1)) ci
      (number_top A a n x la ax) (number_top A b n y lb by) (low_bound A a n x la ax) (low_bound A b n y lb by) small (pow_next n) sum word_bound (number_head A word d (omega arith) is)
      ∙ (ap (λ z. (z +ℤ (pos (number A (take n b)) -ℤ pos (2 ^ n * bit (is_true A y)))) +ℤ pos ci) (sym (word_value-signed A a n x la ax)) ∙ ap (λ z. (word_value A true a +ℤ z) +ℤ pos ci) (sym (word_value-signed A b n y lb by))))

-- the row of one bit
times_one : (v : ℤ) → v ≡ v *ℤ pos 1
times_one v = omega (arith, ints)

times_none : (v : ℤ) → pos 0 ≡ v *ℤ pos 0
times_none v = omega (arith, ints)

zero_in : (h s : ℕ) → h < s → (pos 0 ≤ℤ (pos 0 +ℤ pos h)) × ((pos 0 +ℤ pos h) <ℤ pos s)
zero_in h s k = (omega (arith, ints), omega (arith, ints))

pub row_signed : (A : ℕ → Bool) (a row : List ℕ) (t : Bool) → 0 < length a → length row ≡ length a → number A row ≡ number A a * bit t → word_value A true row ≡ word_value A true a *ℤ pos (bit t)
unfolding word_value
row_signed A a row true h len e = ap (λ k. wrap_at k true (pos (number A row))) len ∙ (ap (λ k. wrap_at (length a) true (pos k)) (e ∙ omega arith) ∙ times_one (wrap_at (length a) true (pos (number A a))))
row_signed A a row false h len e =
    let z = zero_in (below_at (length a) true) (2 ^ length a) (below_less (length a) true h) in
    ap (λ k. wrap_at k true (pos (number A row))) len ∙ (ap (λ k. wrap_at (length a) true (pos k)) (e ∙ omega arith) ∙ (wrap_at-in_shape (length a) true (pos 0) (record { least = z.0; most = z.1 }) ∙ times_none (wrap_at (length a) true (pos (number A a)))))

-- ---- rows

doubled : (v : ℤ) (p q : ℕ) → q ≡ 2 * p → v *ℤ pos q ≡ (v *ℤ pos 2) *ℤ pos p
doubled v p q e = ap (λ k. v *ℤ pos k) e ∙ sym (times-times v (pos 2) (pos p))

gathered : (l m hp rp vn dp : ℤ) → l +ℤ hp ≡ vn → m +ℤ dp ≡ hp +ℤ rp → (l +ℤ dp) +ℤ m ≡ vn +ℤ rp
gathered l m hp rp vn dp e f = omega (arith, sums)

pub signed_more : (l l2 p q d : ℕ) (va h h2 r y nb nb2 : ℤ) → l2 ≡ l + p * d → q ≡ 2 * p → pos l +ℤ (h *ℤ pos p) ≡ va *ℤ nb → pos d +ℤ (h2 *ℤ pos 2) ≡ h +ℤ r → r ≡ va *ℤ y → nb2 ≡ nb +ℤ (y *ℤ pos p) → pos l2 +ℤ (h2 *ℤ pos q) ≡ va *ℤ nb2
signed_more l l2 p q d va h h2 r y nb nb2 e1 e2 before row er en =
    let m = h2 *ℤ pos 2 in
    let e : (m *ℤ pos p) +ℤ (pos d *ℤ pos p) ≡ (h *ℤ pos p) +ℤ (r *ℤ pos p) = sym (times-add m (pos d) (pos p)) ∙ (ap (λ z. z *ℤ pos p) (turned (pos d) m (h +ℤ r) row) ∙ times-add h r (pos p)) in
    let f : r *ℤ pos p ≡ va *ℤ (y *ℤ pos p) = ap (λ z. z *ℤ pos p) er ∙ times-times va y (pos p) in
    ap (λ k. pos k +ℤ (h2 *ℤ pos q)) e1 ∙ (ap (λ z. pos (l + p * d) +ℤ z) (doubled h2 p q e2)
    ∙ (ap (λ z. z +ℤ (m *ℤ pos p)) (split l p d) ∙ (gathered (pos l) (m *ℤ pos p) (h *ℤ pos p) (r *ℤ pos p) (va *ℤ nb) (pos d *ℤ pos p) before e
    ∙ (ap (λ z. (va *ℤ nb) +ℤ z) f ∙ (sym (spread va nb (y *ℤ pos p)) ∙ ap (λ z. va *ℤ z) (sym en))))))
  where
    turned : (d m s : ℤ) → d +ℤ m ≡ s → m +ℤ d ≡ s
    turned d m s e = omega (arith, sums)

    split : (l p d : ℕ) → pos (l + p * d) ≡ pos l +ℤ (pos d *ℤ pos p)
    split l p d = omega (arith, ints)

    spread : (v a b : ℤ) → v *ℤ (a +ℤ b) ≡ (v *ℤ a) +ℤ (v *ℤ b)
    spread v a b = *ℤ_comm v (a +ℤ b) ∙ (times-add a b v ∙ (ap (λ z. z +ℤ (b *ℤ v)) (*ℤ_comm a v) ∙ ap (λ z. (v *ℤ a) +ℤ z) (*ℤ_comm b v)))

-- ---- whether the product fits: each bit above its lowest half is that half's top bit

abbrev Within : ℤ → ℕ → ℕ → Type 0
Within n b s = (pos 0 ≤ℤ (n +ℤ pos b)) × ((n +ℤ pos b) <ℤ pos s)

abbrev copied : Bool → ℤ
copied true = negsuc 0
copied false = pos 0

copies_are : (dt ht : Bool) (lr p s nr nc : ℕ) (h : ℤ) → s ≡ 2 * p → lr < p → nr ≡ lr + p * bit ht → nc + bit dt ≡ s * bit dt → h ≡ pos lr -ℤ pos (p * bit ht) → (nr ≡ nc → h ≡ copied dt) × (h ≡ copied dt → nr ≡ nc)
copies_are true true lr p s nr nc h e1 k e2 e3 e4 = (λ (q : nr ≡ nc). omega (arith, ints), λ (q : h ≡ negsuc 0). omega (arith, ints))
copies_are true false lr p s nr nc h e1 k e2 e3 e4 = (λ (q : nr ≡ nc). absurd (omega arith), λ (q : h ≡ negsuc 0). absurd (omega (arith, ints)))
copies_are false true lr p s nr nc h e1 k e2 e3 e4 = (λ (q : nr ≡ nc). absurd (omega arith), λ (q : h ≡ pos 0). absurd (omega (arith, ints)))
copies_are false false lr p s nr nc h e1 k e2 e3 e4 = (λ (q : nr ≡ nc). omega (arith, ints), λ (q : h ≡ pos 0). omega (arith, ints))

half_fits : (dt : Bool) (ll p s l : ℕ) (h : ℤ) → 0 < p → s ≡ 2 * p → ll < p → l ≡ ll + p * bit dt → (h ≡ copied dt → Within (pos l +ℤ (h *ℤ pos s)) p s) × (Within (pos l +ℤ (h *ℤ pos s)) p s → h ≡ copied dt)
half_fits true ll p s l (pos m) z e k f = (λ q. absurd (by m q), λ w. absurd (omega (arith, ints, w.1)))
  where
    by : (m : ℕ) → pos m ≡ negsuc 0 → ⊥
    by m q = cc
half_fits true ll p s l (negsuc zero) z e k f = (λ q. (omega (arith, ints), omega (arith, ints)), λ w. refl)
half_fits true ll p s l (negsuc (suc m)) z e k f = (λ q. absurd (by m q), λ w. absurd (omega (arith, ints, w.0)))
  where
    by : (m : ℕ) → negsuc (suc m) ≡ negsuc 0 → ⊥
    by m q = omega (arith, ints)
half_fits false ll p s l (pos zero) z e k f = (λ q. (omega (arith, ints), omega (arith, ints)), λ w. refl)
half_fits false ll p s l (pos (suc m)) z e k f = (λ q. absurd (by m q), λ w. absurd (omega (arith, ints, w.1)))
  where
    by : (m : ℕ) → pos (suc m) ≡ pos 0 → ⊥
    by m q = omega (arith, ints)
half_fits false ll p s l (negsuc m) z e k f = (λ q. absurd (by m q), λ w. absurd (omega (arith, ints, w.0)))
  where
    by : (m : ℕ) → negsuc m ≡ pos 0 → ⊥
    by m q = cc

copies_number : (A : ℕ → Bool) (w d : ℕ) (cs : List ℕ) → cs ≡ replicate w d ++ [] → number A cs + bit (is_true A d) ≡ 2 ^ w * bit (is_true A d)
copies_number A w d cs e = ap (λ z. z + bit (is_true A d)) (ap (number A) e ∙ (number-append A (replicate w d) [] ∙ by (number A (replicate w d)) (2 ^ length (replicate w d)))) ∙ number-copies A w d
  where
    by : (m s : ℕ) → m + s * 0 ≡ m
    by m s = omega arith

module _ (A : ℕ → Bool) (a r rest : List ℕ) (n d : ℕ) (p : ℤ) (la : length a ≡ n + 1) (ll : length r ≡ n + 1) (lr : length rest ≡ n + 1) (is : d ≡ get_or r n d) (whole : pos (number A r) +ℤ (word_value A true rest *ℤ pos (2 ^ length a)) ≡ p) where
  pub product_value : word_value A true r ≡ wrap_at (length a) true p
  unfolding word_value
  product_value = ap (λ k. wrap_at k true (pos (number A r))) (ll ∙ sym la) ∙ sym (wrap_at-congruent (length a) true p (pos (number A r)) (word_value A true rest) (sym whole))

  top_is : get_or rest n 0 ≡ get_or rest n (get_or rest n 0)
  top_is = top_same rest n 0 (get_or rest n 0) (omega arith)

  double : 2 ^ length a ≡ 2 * 2 ^ n
  double = ap (λ k. 2 ^ k) la ∙ pow_next n

  same_half : 2 ^ (length a - 1) ≡ 2 ^ n
  same_half = let e : length a - 1 ≡ n = omega arith in ap (λ k. 2 ^ k) e

  copied_is : (copies : List ℕ) → copies ≡ replicate (length a) d ++ [] → (number A rest ≡ number A copies → word_value A true rest ≡ copied (is_true A d)) × (word_value A true rest ≡ copied (is_true A d) → number A rest ≡ number A copies)
  copied_is copies e =
      copies_are (is_true A d) (is_true A (get_or rest n 0)) (number A (take n rest)) (2 ^ n) (2 ^ length a) (number A rest) (number A copies) (word_value A true rest) double (low_bound A rest n (get_or rest n 0) lr top_is) (number_top A rest n (get_or rest n 0) lr top_is)
      (copies_number A (length a) d copies e) (word_value-signed A rest n (get_or rest n 0) lr top_is)

  half_is : (word_value A true rest ≡ copied (is_true A d) → Within (pos (number A r) +ℤ (word_value A true rest *ℤ pos (2 ^ length a))) (2 ^ n) (2 ^ length a)) × (Within (pos (number A r) +ℤ (word_value A true rest *ℤ pos (2 ^ length a))) (2 ^ n) (2 ^ length a) → word_value A true rest ≡ copied (is_true A d))
  half_is = half_fits (is_true A d) (number A (take n r)) (2 ^ n) (2 ^ length a) (number A r) (word_value A true rest) (pow_pos n) double (low_bound A r n d ll is) (number_top A r n d ll is)

  pub product_fits : (f : Bool) (copies : List ℕ) → copies ≡ replicate (length a) d ++ [] → f ≡ (number A rest == number A copies) → IsTrue f ↔ InShape (length a) true p
  product_fits f copies e test =
      as_shape (length a) true (pos (number A r) +ℤ (word_value A true rest *ℤ pos (2 ^ length a))) p (number A rest == number A copies) f (sym whole) test
      (subst (λ h. (IsTrue (number A rest == number A copies) → Within (pos (number A r) +ℤ (word_value A true rest *ℤ pos (2 ^ length a))) h (2 ^ length a)) × (Within (pos (number A r) +ℤ (word_value A true rest *ℤ pos (2 ^ length a))) h (2 ^ length a) → IsTrue (number A rest == number A copies))) (sym same_half) by)
    where
      by : (IsTrue (number A rest == number A copies) → Within (pos (number A r) +ℤ (word_value A true rest *ℤ pos (2 ^ length a))) (2 ^ n) (2 ^ length a)) × (Within (pos (number A r) +ℤ (word_value A true rest *ℤ pos (2 ^ length a))) (2 ^ n) (2 ^ length a) → IsTrue (number A rest == number A copies))
      by = (
        λ t. half_is.0 ((copied_is copies e).0 (equal_from (number A rest) (number A copies) t)),
        λ w. eq-eqb (number A rest) (number A copies) ((copied_is copies e).1 (half_is.1 w)),
      )
        where
          equal_from : (m k : ℕ) → IsTrue (m == k) → m ≡ k
          equal_from m k t = by2 (cases_eq m k)
            where
              by2 : (m ≡ k) ⊎ (m ≡ k → ⊥) → m ≡ k
              by2 (inl q) = q
              by2 (inr q) = absurd (true≢false (sym t ∙ ne_eqb m k q))

-- ---- a row of each bit, and that of the top bit taken away

plus_none : (v : ℤ) → v +ℤ pos 0 ≡ v
plus_none v = omega (arith, ints)

pub row_plain : (d : ℕ) (never : Bool) (h2 h r : ℤ) → never ≡ false → pos d +ℤ (h2 *ℤ pos 2) ≡ (h +ℤ r) +ℤ pos (bit never) → pos d +ℤ (h2 *ℤ pos 2) ≡ h +ℤ r
row_plain d never h2 h r e f = f ∙ (ap (λ b. (h +ℤ r) +ℤ pos (bit b)) e ∙ plus_none (h +ℤ r))

pub with_bit : (n2 n p y : ℕ) → n2 ≡ n + p * y → pos n2 ≡ pos n +ℤ (pos y *ℤ pos p)
with_bit n2 n p y e = omega (arith, ints)

pub rows_none : (A : ℕ → Bool) (a high low b : List ℕ) (t : Bool) → 0 < length a → length high ≡ length a → low ≡ [] → t ≡ false → number A high ≡ number A a * bit t → pos (number A low) +ℤ (word_value A true high *ℤ pos (2 ^ 0)) ≡ word_value A true a *ℤ pos (number A (take 0 b))
rows_none A a high low b t h len el et e =
    let z : word_value A true high ≡ word_value A true a *ℤ pos (bit false) = row_signed A a high t h len e ∙ ap (λ k. word_value A true a *ℤ pos (bit k)) et in
    ap (λ k. pos (number A k) +ℤ (word_value A true high *ℤ pos (2 ^ 0))) el ∙ (ap (λ v. pos 0 +ℤ (v *ℤ pos (2 ^ 0))) (z ∙ sym (times_none (word_value A true a))) ∙ times_none (word_value A true a))

pub row_taken : (d : ℕ) (one : Bool) (h2 h t r va y : ℤ) → one ≡ true → pos d +ℤ (h2 *ℤ pos 2) ≡ (h +ℤ t) +ℤ pos (bit one) → t ≡ (pos 0 -ℤ r) -ℤ pos 1 → pos d +ℤ (h2 *ℤ pos 2) ≡ h +ℤ neg_ℤ r
row_taken d one h2 h t r va y eo f e = f ∙ (ap (λ b. (h +ℤ t) +ℤ pos (bit b)) eo ∙ by h t r e)
  where
    by : (h t r : ℤ) → t ≡ (pos 0 -ℤ r) -ℤ pos 1 → (h +ℤ t) +ℤ pos 1 ≡ h +ℤ neg_ℤ r
    by h t r e = omega (arith, ints)

pub taken_times : (va : ℤ) (y : ℕ) (r : ℤ) → r ≡ va *ℤ pos y → neg_ℤ r ≡ va *ℤ neg_ℤ (pos y)
taken_times va y r e = ap neg_ℤ (e ∙ *ℤ_comm va (pos y)) ∙ (sym (times-neg (pos y) va) ∙ *ℤ_comm (neg_ℤ (pos y)) va)

pub without_bit : (n p y : ℕ) (v : ℤ) → v ≡ pos n -ℤ pos (p * y) → v ≡ pos n +ℤ (neg_ℤ (pos y) *ℤ pos p)
without_bit n p y v e = e ∙ (by n (p * y) ∙ ap (λ z. pos n +ℤ z) (ap (λ k. neg_ℤ (pos k)) (swap p y) ∙ sym (times-neg (pos y) (pos p))))
  where
    by : (n m : ℕ) → pos n -ℤ pos m ≡ pos n +ℤ neg_ℤ (pos m)
    by n m = omega (arith, ints)

    swap : (p y : ℕ) → p * y ≡ y * p
    swap p y = omega arith

-- ---- without signs

upper_part : (low high s : ℕ) → pos (low + s * high) ≡ pos low +ℤ (pos high *ℤ pos s)
upper_part low high s = omega (arith, ints)

plain_bounds : (low high s : ℕ) → low < s → (IsTrue (high == 0) → Within (pos (low + s * high)) 0 s) × (Within (pos (low + s * high)) 0 s → IsTrue (high == 0))
plain_bounds low zero s h = (λ t. (omega (arith, ints), omega (arith, ints)), λ r. refl)
plain_bounds low (suc high) s h = (λ t. absurd (true≢false (sym t ∙ nonzero high)), λ r. absurd (omega (arith, ints, r.1)))

turned_twice : (b : Bool) → not (not b) ≡ b
turned_twice true = refl
turned_twice false = refl

module _ (A : ℕ → Bool) (a b low high : List ℕ) (lb : length b ≡ length a) (ll : length low ≡ length b) (whole : number A low + 2 ^ length b * number A high ≡ number A a * number A b) where
  values_are : pos (number A low + 2 ^ length a * number A high) ≡ word_value A false a *ℤ word_value A false b
  values_are =
      ap (λ k. pos (number A low + 2 ^ k * number A high)) (sym lb)
      ∙ (ap pos whole ∙ (ap (λ z. z *ℤ pos (number A b)) (sym (word_value-unsigned A a)) ∙ ap (λ z. word_value A false a *ℤ z) (sym (word_value-unsigned A b))))

  pub plain_value : word_value A false low ≡ wrap_at (length a) false (word_value A false a *ℤ word_value A false b)
  unfolding word_value
  plain_value =
      ap (λ k. wrap_at k false (pos (number A low))) (ll ∙ lb)
      ∙ (sym (wrap_at-congruent (length a) false (pos (number A low + 2 ^ length a * number A high)) (pos (number A low)) (pos (number A high)) (upper_part (number A low) (number A high) (2 ^ length a))) ∙ ap (wrap_at (length a) false) values_are)

  low_below : number A low < 2 ^ length a
  low_below = subst (λ k. number A low < 2 ^ k) (ll ∙ lb) (number-bound A low)

  pub plain_fits : (over f : ℕ) → is_true A over ≡ not (number A high == 0) → f ≡ complement_of over → IsTrue (is_true A f) ↔ InShape (length a) false (word_value A false a *ℤ word_value A false b)
  plain_fits over f h e =
      as_shape (length a) false (pos (number A low + 2 ^ length a * number A high)) (word_value A false a *ℤ word_value A false b) (number A high == 0) (is_true A f) (sym values_are)
      (ap (is_true A) e ∙ (is_true-complement A over ∙ (ap not h ∙ turned_twice (number A high == 0)))) (plain_bounds (number A low) (number A high) (2 ^ length a) low_below)
