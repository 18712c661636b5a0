-- Distances of shifts: whether they are below a width, and what is shifted by them.
use Rattle.std.proofs.Common.{ℕ, ◌≡◌, ◌<◌, ◌≤◌, ◌+◌, ◌*◌, ◌/◌, ◌%◌, ◌==◌, ◌^◌, nat_lt, Bool, true, false, not, ◌&&◌, ◌||◌, List, length, take, get_or, ℤ, pos, ◌-ℤ◌, ◌≤ℤ◌, IsTrue, ◌↔◌, if◌then◌else◌, refl, sym, ap, subst, ◌∙◌, arith, inl, inr, ◌⊎◌, true≢false}
use Rattle.std.proofs.lemmas.Int.{ints}
use Rattle.std.proofs.lemmas.List.{take_all}
use Rattle.std.proofs.lemmas.Bool.{cases_lt, cases_eq, eq-eqb, ne_eqb, lt-ltb, le-ltb}
use Rattle.kv_num.specs.Shape.{below_at, InShape, wrap_at, bits_at}
use Rattle.kv_num.specs.Shift.{left_of, right_of}
use Rattle.kv_num.proofs.Shapes.{wrap_at-in_shape, range-wrap_at}
use Rattle.sat_clause.specs.Literals.{is_true}
use Rattle.term_core.specs.Term.{left_by, right_by}
use Rattle.word_sums.specs.Words.{bit, number, word_value}
use Rattle.word_sums.proofs.Numbers.{below_less, in_shape, number-bound, number-take, number-take_bound, pow_next}
use Rattle.word_sums.proofs.Pieces.{number-short}
use Rattle.word_sums.proofs.Values.{word_value-same, number_is_bits}

-- ---- whether a word's number is below a bound

-- One more digit x of a number and of a bound: n is the number of the digits before, each of which is below p, and the
-- bound is at least p times what is left of it, and less than p more.
below_digit : (odd x l : Bool) (p n rest half bound : ℕ) → n < p → rest ≡ 2 * half + bit odd → p * rest ≤ bound → bound < p * rest + p → l ≡ nat_lt (n + p * rest) bound
    → (if odd then not x || l else not x && l) ≡ nat_lt ((n + p * bit x) + 2 * p * half) bound
below_digit true true l p n rest half bound small er least most e =
    e ∙ ap (λ z. nat_lt z bound) (ap (λ z. n + p * z) er ∙ omega arith)
below_digit true false l p n rest half bound small er least most e =
    let f : p * rest ≡ 2 * p * half + p = ap (λ z. p * z) er ∙ omega arith in
    sym (lt-ltb ((n + p * 0) + 2 * p * half) bound (omega arith))
below_digit false true l p n rest half bound small er least most e =
    let f : p * rest ≡ 2 * p * half = ap (λ z. p * z) er ∙ omega arith in
    sym (le-ltb ((n + p * 1) + 2 * p * half) bound (omega arith))
below_digit false false l p n rest half bound small er least most e =
    e ∙ ap (λ z. nat_lt z bound) (ap (λ z. n + p * z) er ∙ omega arith)

pub parity : (r : ℕ) → r ≡ 2 * (r / 2) + bit (r % 2 == 1)
parity r = by (cases_eq (r % 2) 1)
  where
    by : (r % 2 ≡ 1) ⊎ (r % 2 ≡ 1 → ⊥) → r ≡ 2 * (r / 2) + bit (r % 2 == 1)
    by (inl e) =
        let f : r ≡ 2 * (r / 2) + 1 = omega arith in
        f ∙ ap (λ (b : Bool). 2 * (r / 2) + bit b) (sym (eq-eqb (r % 2) 1 e))
    by (inr e) =
        let f : r ≡ 2 * (r / 2) + 0 = omega arith in
        f ∙ ap (λ (b : Bool). 2 * (r / 2) + bit b) (sym (ne_eqb (r % 2) 1 e))

-- what is left of a bound after one more digit
rest_least : (odd : Bool) (p rest half bound : ℕ) → rest ≡ 2 * half + bit odd → p * rest ≤ bound → 2 * p * half ≤ bound
rest_least true p rest half bound er h = let f : p * rest ≡ 2 * p * half + p = ap (λ z. p * z) er ∙ omega arith in omega arith
rest_least false p rest half bound er h = let f : p * rest ≡ 2 * p * half = ap (λ z. p * z) er ∙ omega arith in omega arith

rest_most : (odd : Bool) (p rest half bound : ℕ) → rest ≡ 2 * half + bit odd → bound < p * rest + p → bound < 2 * p * half + 2 * p
rest_most true p rest half bound er h = let f : p * rest ≡ 2 * p * half + p = ap (λ z. p * z) er ∙ omega arith in omega arith
rest_most false p rest half bound er h = let f : p * rest ≡ 2 * p * half = ap (λ z. p * z) er ∙ omega arith in omega arith

pub rest_least_next : (odd : Bool) (i rest half bound : ℕ) → rest ≡ 2 * half + bit odd → 2 ^ i * rest ≤ bound → 2 ^ (i + 1) * half ≤ bound
rest_least_next odd i rest half bound er h = subst (λ z. z * half ≤ bound) (sym (pow_next i)) (rest_least odd (2 ^ i) rest half bound er h)

pub rest_most_next : (odd : Bool) (i rest half bound : ℕ) → rest ≡ 2 * half + bit odd → bound < 2 ^ i * rest + 2 ^ i → bound < 2 ^ (i + 1) * half + 2 ^ (i + 1)
rest_most_next odd i rest half bound er h = subst (λ z. bound < z * half + z) (sym (pow_next i)) (rest_most odd (2 ^ i) rest half bound er h)

module _ (A : ℕ → Bool) (word : List ℕ) (bound : ℕ) where
  pub below_more : (i rest half x d l : ℕ) (odd : Bool) → i < length word → x ≡ get_or word i x → rest ≡ 2 * half + bit odd → 2 ^ i * rest ≤ bound → bound < 2 ^ i * rest + 2 ^ i → is_true A l ≡ nat_lt (number A (take i word) + 2 ^ i * rest) bound
      → is_true A d ≡ (if odd then not (is_true A x) || is_true A l else not (is_true A x) && is_true A l)
      → is_true A d ≡ nat_lt (number A (take (i + 1) word) + 2 ^ (i + 1) * half) bound
  below_more i rest half x d l odd within is er least most before step =
      step ∙ (below_digit odd (is_true A x) (is_true A l) (2 ^ i) (number A (take i word)) rest half bound (number-take_bound A i word within) er least most before
      ∙ (λ j. nat_lt (sym (number-take A i word x within is) j + sym (pow_next i) j * half) bound))

  pub below_whole : (i rest : ℕ) (l : Bool) → length word ≤ i → rest ≡ 0 → l ≡ nat_lt (number A (take i word) + 2 ^ i * rest) bound → l ≡ nat_lt (number A word) bound
  below_whole i rest l over none e =
      e ∙ ap (λ z. nat_lt z bound) ((λ j. number A (take_all i word over j) + 2 ^ i * none j) ∙ omega arith)

  pub below_past : (i rest : ℕ) (l : Bool) → length word ≡ i → 0 < rest → 2 ^ i * rest ≤ bound → l ≡ true → l ≡ nat_lt (number A word) bound
  below_past i rest l len some least e =
      let small : number A word < 2 ^ i = subst (λ k. number A word < 2 ^ k) len (number-bound A word) in
      e ∙ sym (lt-ltb (number A word) bound (by (number A word) (2 ^ i) rest small some least))
    where
      by : (n p r : ℕ) → n < p → 0 < r → p * r ≤ bound → n < bound
      by n p r h k e = let f : p * 1 ≤ p * r = grind arith in omega arith

-- ---- what is shifted by a distance

is_near : (y s : ℕ) → nat_lt y s ≡ true → y < s
is_near y s e = by (cases_lt y s)
  where
    by : (y < s) ⊎ (s ≤ y) → y < s
    by (inl h) = h
    by (inr h) = absurd (true≢false (sym e ∙ le-ltb y s h))

-- a distance below a bound, from its lowest bits
pub cut_distance : (A : ℕ → Bool) (b : List ℕ) (k used n : ℕ) → used ≤ k → used ≤ length b → (used < k → used ≡ length b) → n ≤ 2 ^ k → number A b < n → number A (take used b) ≡ number A b
cut_distance A b k used n most room short enough near = by (cases_lt used k)
  where
    by : (used < k) ⊎ (k ≤ used) → number A (take used b) ≡ number A b
    by (inl h) = let over : length b ≤ used = omega (arith, short h) in ap (number A) (take_all used b over)
    by (inr h) = let e : k ≡ used = omega arith in number-short A used n b room near (subst (λ z. n ≤ 2 ^ z) e enough)

pub zero_in_shape : (w : ℕ) (signed : Bool) → 0 < w → InShape w signed (pos 0)
zero_in_shape w signed h = in_shape w signed (pos 0) (below_at w signed) (omega (arith, ints)) (below_less w signed h)

wrapped_zero : (w : ℕ) (signed : Bool) → 0 < w → wrap_at w signed (pos 0) ≡ pos 0
wrapped_zero w signed h = wrap_at-in_shape w signed (pos 0) (zero_in_shape w signed h)

-- a number that a word has is as wrapped
pub as_wrapped : (A : ℕ → Bool) (signed : Bool) (w : List ℕ) (n : ℕ) (v : ℤ) → length w ≡ n → word_value A signed w ≡ v → word_value A signed w ≡ wrap_at n signed v
unfolding word_value
as_wrapped A signed w n v len e =
    let P : ℤ → Type 0 = λ z. InShape n signed z in
    let fits : InShape n signed v = subst P ((λ j. wrap_at (sym len j) signed (pos (number A w))) ∙ e) (range-wrap_at n signed (pos (number A w))) in
    e ∙ sym (wrap_at-in_shape n signed v fits)

module _ (A : ℕ → Bool) (signed : Bool) (kept moved : List ℕ) (n : ℕ) (some : 0 < n) (len : length kept ≡ n) (len2 : length moved ≡ n) where
  pub zero_value : number A kept ≡ 0 → word_value A signed kept ≡ pos 0
  unfolding word_value
  zero_value e = (λ j. wrap_at (len j) signed (pos (e j))) ∙ wrapped_zero n signed some

  kept_value : (t : Bool) (v : ℤ) → number A kept ≡ number A moved * bit t → (t ≡ true → word_value A signed moved ≡ v) → word_value A signed kept ≡ (if t then v else pos 0)
  kept_value true v e h = word_value-same A signed kept moved (len ∙ sym len2) (e ∙ omega arith) ∙ h refl
  kept_value false v e h = zero_value (e ∙ omega arith)

  -- what is moved by the number of b, kept where that is below n
  pub shifted_value : (sign t : Bool) (b : List ℕ) (F : ℕ → ℤ) → t ≡ nat_lt (number A b) n → number A kept ≡ number A moved * bit t → (number A b < n → word_value A signed moved ≡ F (number A b))
      → word_value A signed kept ≡ (if nat_lt (bits_at (length b) (word_value A sign b)) n then F (bits_at (length b) (word_value A sign b)) else pos 0)
  shifted_value sign t b F near e h =
      kept_value t (F (number A b)) e (λ yes. h (is_near (number A b) n (sym near ∙ yes)))
      ∙ (ap (λ z. if z then F (number A b) else pos 0) near
      ∙ ap (λ d. if nat_lt d n then F d else pos 0) (sym (number_is_bits A sign b)))

wrapped_choice : (t : Bool) (w : ℕ) (signed : Bool) (v : ℤ) → 0 < w → (if t then wrap_at w signed v else pos 0) ≡ wrap_at w signed (if t then v else pos 0)
wrapped_choice true w signed v h = refl
wrapped_choice false w signed v h = sym (wrapped_zero w signed h)

pub left_kept : (A : ℕ → Bool) (signed sign t : Bool) (kept moved b : List ℕ) (n : ℕ) (v : ℤ) → 0 < n → length kept ≡ n → length moved ≡ n → t ≡ nat_lt (number A b) n → number A kept ≡ number A moved * bit t
    → (number A b < n → word_value A signed moved ≡ wrap_at n signed (left_of v (number A b))) → word_value A signed kept ≡ wrap_at n signed (left_by n (length b) v (word_value A sign b))
left_kept A signed sign t kept moved b n v some len len2 near e h =
    let d : ℕ = bits_at (length b) (word_value A sign b) in
    shifted_value A signed kept moved n some len len2 sign t b (λ z. wrap_at n signed (left_of v z)) near e h
    ∙ wrapped_choice (nat_lt d n) n signed (left_of v d) some

pub right_kept : (A : ℕ → Bool) (signed sign t : Bool) (kept moved b : List ℕ) (n : ℕ) (v : ℤ) → 0 < n → length kept ≡ n → length moved ≡ n → t ≡ nat_lt (number A b) n → number A kept ≡ number A moved * bit t
    → (number A b < n → word_value A signed moved ≡ right_of v (number A b)) → word_value A signed kept ≡ right_by n (length b) v (word_value A sign b)
right_kept A signed sign t kept moved b n v some len len2 near e h = shifted_value A signed kept moved n some len len2 sign t b (λ z. right_of v z) near e h

-- ---- whether it fits

negative_word : (s m : ℕ) (neg : Bool) (v : ℤ) → m < s → v ≡ pos m -ℤ pos (s * bit neg) → neg ≡ true → pos 0 ≤ℤ v → ⊥
negative_word s m true v h e t k = omega (arith, ints)
negative_word s m false v h e t k = absurd (true≢false (sym t))

positive_word : (s m : ℕ) (neg : Bool) (v : ℤ) → v ≡ pos m -ℤ pos (s * bit neg) → neg ≡ false → pos 0 ≤ℤ v
positive_word s m true v e t = absurd (true≢false t)
positive_word s m false v e t = omega (arith, ints)

-- Whether a shift to the left by any distance fits: f says so of a near one, and neg that the number is negative.
kept_fits : (near f neg g : Bool) (v e : ℤ) (w : ℕ) (signed : Bool) → 0 < w → (neg ≡ true → pos 0 ≤ℤ v → ⊥) → (neg ≡ false → pos 0 ≤ℤ v) → (near ≡ true → IsTrue f ↔ ((pos 0 ≤ℤ v) × InShape w signed e)) → g ≡ not ((near && not f) || neg)
    → IsTrue g ↔ ((pos 0 ≤ℤ v) × InShape w signed (if near then e else pos 0))
kept_fits true true true g v e w signed some below above is eg = (λ t. absurd (true≢false (sym t ∙ eg)), λ r. absurd (below refl r.0))
kept_fits true true false g v e w signed some below above is eg = (λ t. (is refl).0 refl, λ r. eg)
kept_fits true false neg g v e w signed some below above is eg = (λ t. absurd (true≢false (sym t ∙ eg)), λ r. absurd (true≢false (sym ((is refl).1 r))))
kept_fits false f true g v e w signed some below above is eg = (λ t. absurd (true≢false (sym t ∙ eg)), λ r. absurd (below refl r.0))
kept_fits false f false g v e w signed some below above is eg = (λ t. (above refl, zero_in_shape w signed some), λ r. eg)

pub left_kept_fits : (A : ℕ → Bool) (sign near f neg g : Bool) (b : List ℕ) (n m s : ℕ) (signed : Bool) (v : ℤ) → 0 < n → near ≡ nat_lt (number A b) n → m < s → v ≡ pos m -ℤ pos (s * bit neg)
    → (number A b < n → IsTrue f ↔ ((pos 0 ≤ℤ v) × InShape n signed (left_of v (number A b)))) → g ≡ not ((near && not f) || neg)
    → IsTrue g ↔ ((pos 0 ≤ℤ v) × InShape n signed (left_by n (length b) v (word_value A sign b)))
left_kept_fits A sign near f neg g b n m s signed v some is small ev h eg =
    let P : ℕ → Type 0 = λ d. IsTrue g ↔ ((pos 0 ≤ℤ v) × InShape n signed (if nat_lt d n then left_of v d else pos 0)) in
    let Q : Bool → Type 0 = λ t. IsTrue g ↔ ((pos 0 ≤ℤ v) × InShape n signed (if t then left_of v (number A b) else pos 0)) in
    subst P (sym (number_is_bits A sign b)) (subst Q is
    (kept_fits near f neg g v (left_of v (number A b)) n signed some (negative_word s m neg v small ev) (positive_word s m neg v ev) (λ yes. h (is_near (number A b) n (sym is ∙ yes))) eg))
