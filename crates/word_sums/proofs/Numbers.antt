-- The numbers of words.
use Rattle.std.proofs.Common.{ℕ, suc, ◌≡◌, ◌<◌, ◌≤◌, ◌+◌, ◌-◌, ◌*◌, ◌^◌, Bool, true, false, not, List, [], ◌∷◌, ◌++◌, length, take, get_or, ℤ, pos, ◌+ℤ◌, ◌-ℤ◌, ◌*ℤ◌, ◌≤ℤ◌, ◌<ℤ◌, if◌then◌else◌, subst, sym, ap, ◌∙◌, arith, length-take}
use Rattle.std.proofs.lemmas.Int.{ints}
use Rattle.std.proofs.lemmas.Nat.{pow_pos}
use Rattle.std.proofs.lemmas.List.{take_more}
use Rattle.std.proofs.Math.Seq.{take-length}
use Rattle.std.proofs.lemmas.Grind.{common_steps}
use Rattle.kv_num.specs.Shape.{below_at, InShape}
use Rattle.kv_num.proofs.Shapes.{wrap_at_unique}
use Rattle.sat_clause.specs.Literals.{is_true, complement_of}
use Rattle.sat_clause.proofs.Truths.{is_true-complement}
use Rattle.word_sums.specs.Words.{bit, number, word_value}

pub bit-le : (b : Bool) → bit b ≤ 1
bit-le true = omega arith
bit-le false = omega arith

pub pow_next : (i : ℕ) → 2 ^ (i + 1) ≡ 2 * 2 ^ i
pow_next i = grind (arith, common_steps)

module _ (A : ℕ → Bool) where
  pub number-push : (ls : List ℕ) (l : ℕ) → number A (ls ++ l ∷ []) ≡ number A ls + 2 ^ length ls * bit (is_true A l)
  number-push [] l = omega arith
  number-push (x ∷ ls) l = grind (arith, number-push ls l)

  pub number-bound : (ls : List ℕ) → number A ls < 2 ^ length ls
  number-bound [] = omega arith
  number-bound (l ∷ ls) =
      let h = number-bound ls in
      let e : 2 ^ suc (length ls) ≡ 2 * 2 ^ length ls = grind (arith, common_steps) in
      let b : bit (is_true A l) ≤ 1 = bit-le (is_true A l) in
      omega (arith, e, b, h)

  -- one more digit of a word that a loop makes
  pub number-more : (i : ℕ) (word new : List ℕ) (d : ℕ) → length word ≡ i → new ≡ word ++ d ∷ [] → number A new ≡ number A word + 2 ^ i * bit (is_true A d)
  number-more i word new d len p = ap (number A) p ∙ (number-push word d ∙ ap (λ n. number A word + 2 ^ n * bit (is_true A d)) len)

  -- one more digit of a word that a loop reads
  pub number-take : (i : ℕ) (a : List ℕ) (x : ℕ) → i < length a → x ≡ get_or a i x → number A (take (i + 1) a) ≡ number A (take i a) + 2 ^ i * bit (is_true A x)
  number-take i a x h p =
      let la : length (take i a) ≡ i = omega (arith, length-take i a) in
      number-more i (take i a) (take (i + 1) a) x la (take_more a i x h ∙ ap (λ z. take i a ++ z ∷ []) (sym p))

  pub number-take_bound : (i : ℕ) (a : List ℕ) → i < length a → number A (take i a) < 2 ^ i
  number-take_bound i a h = let la : length (take i a) ≡ i = omega (arith, length-take i a) in subst (λ n. number A (take i a) < 2 ^ n) la (number-bound (take i a))

module _ (w : ℕ) (m s b k : ℕ) where
  in_range : (n : ℤ) → (n +ℤ pos b) ≡ pos k → k < s → (pos 0 ≤ℤ (n +ℤ pos b)) × ((n +ℤ pos b) <ℤ pos s)
  in_range n e h = (omega (arith, ints), omega (arith, ints))

pub below_less : (w : ℕ) (signed : Bool) → 0 < w → below_at w signed < 2 ^ w
below_less w true h = let e : 2 ^ w ≡ 2 * 2 ^ (w - 1) = ap (λ k. 2 ^ k) (by w h) ∙ pow_next (w - 1) in let z = pow_pos (w - 1) in omega arith
  where
    by : (w : ℕ) → 0 < w → w ≡ (w - 1) + 1
    by w h = omega arith
below_less w false h = pow_pos w

-- a number of a shape, from what it is above the least
pub in_shape : (w : ℕ) (signed : Bool) (n : ℤ) (k : ℕ) → n +ℤ pos (below_at w signed) ≡ pos k → k < 2 ^ w → InShape w signed n
in_shape w signed n k e h = let r = in_range w k (2 ^ w) (below_at w signed) k n e h in record { least = r.0; most = r.1 }

plus_zero : (n : ℕ) → pos n +ℤ pos 0 ≡ pos n
plus_zero n = omega (arith, ints)

same_number : (n : ℤ) (s : ℕ) → n ≡ n +ℤ (pos 0 *ℤ pos s)
same_number n s = omega (arith, ints)

-- the number of a word without a sign
pub word_value-unsigned : (A : ℕ → Bool) (a : List ℕ) → word_value A false a ≡ pos (number A a)
unfolding word_value
word_value-unsigned A a = sym (wrap_at_unique (length a) false (pos (number A a)) (pos (number A a)) (pos 0) (in_shape (length a) false (pos (number A a)) (number A a) (plus_zero (number A a)) (number-bound A a)) (same_number (pos (number A a)) (2 ^ length a)))

-- ---- the top bit

signed_multiple : (t : Bool) (na low p s : ℕ) → na ≡ low + p * bit t → s ≡ 2 * p → pos na ≡ (pos low -ℤ pos (p * bit t)) +ℤ (pos (bit t) *ℤ pos s)
signed_multiple true na low p s e f = omega (arith, ints)
signed_multiple false na low p s e f = omega (arith, ints)

signed_raised : (t : Bool) (low p h : ℕ) → h ≡ p → (pos low -ℤ pos (p * bit t)) +ℤ pos h ≡ pos (low + p * bit (not t))
signed_raised true low p h e = omega (arith, ints)
signed_raised false low p h e = omega (arith, ints)

small : (t : Bool) (low p s : ℕ) → low < p → s ≡ 2 * p → low + p * bit t < s
small true low p s h e = omega arith
small false low p s h e = omega arith

module _ (A : ℕ → Bool) (a : List ℕ) (n x : ℕ) (len : length a ≡ n + 1) (is : x ≡ get_or a n x) where
  under_top : n < length a
  under_top = omega arith

  pub whole : take (n + 1) a ≡ a
  whole = ap (λ k. take k a) (sym len) ∙ take-length a

  -- a word's number, from the number below its top bit
  pub number_top : number A a ≡ number A (take n a) + 2 ^ n * bit (is_true A x)
  number_top = ap (number A) (sym whole) ∙ number-take A n a x under_top is

  pub half : 2 ^ (length a - 1) ≡ 2 ^ n
  half = let e : length a - 1 ≡ n = omega arith in ap (λ k. 2 ^ k) e

  pub full : 2 ^ length a ≡ 2 * 2 ^ n
  full = ap (λ k. 2 ^ k) len ∙ pow_next n

  pub low_bound : number A (take n a) < 2 ^ n
  low_bound = number-take_bound A n a under_top

  pub word_value-signed : word_value A true a ≡ pos (number A (take n a)) -ℤ pos (2 ^ n * bit (is_true A x))
  unfolding word_value
  word_value-signed =
      let t = is_true A x in
      let low = number A (take n a) in
      sym (wrap_at_unique (length a) true (pos (number A a)) (pos low -ℤ pos (2 ^ n * bit t)) (pos (bit t))
      (in_shape (length a) true (pos low -ℤ pos (2 ^ n * bit t)) (low + 2 ^ n * bit (not t)) (signed_raised t low (2 ^ n) (2 ^ (length a - 1)) half) (small (not t) low (2 ^ n) (2 ^ length a) low_bound full))
      (signed_multiple t (number A a) low (2 ^ n) (2 ^ length a) number_top full))

  -- and with the top bit turned over
  pub word_value-raised : (signed : Bool) (t : Bool) → t ≡ (if signed then not (is_true A x) else is_true A x) → pos (number A (take n a) + 2 ^ n * bit t) ≡ word_value A signed a +ℤ pos (below_at (length a) signed)
  word_value-raised true t e =
      let b = is_true A x in
      let low = number A (take n a) in
      ap (λ z. pos (low + 2 ^ n * bit z)) e ∙ (sym (signed_raised b low (2 ^ n) (2 ^ (length a - 1)) half) ∙ ap (λ z. z +ℤ pos (2 ^ (length a - 1))) (sym word_value-signed))
  word_value-raised false t e =
      ap (λ z. pos (number A (take n a) + 2 ^ n * bit z)) e ∙ (ap pos (sym number_top) ∙ (sym (plus_zero (number A a)) ∙ ap (λ z. z +ℤ pos 0) (sym (word_value-unsigned A a))))

-- the digits below the top and a new top bit, as a word
module _ (A : ℕ → Bool) (a low new : List ℕ) (n x y : ℕ) (signed : Bool) (len : length a ≡ n + 1) (is : x ≡ get_or a n x) (front : low ≡ take n a) (made : new ≡ low ++ y ∷ []) (turned : y ≡ (if signed then complement_of x else x)) where
  low_length : length low ≡ n
  low_length = ap length front ∙ omega (arith, length-take n a)

  pub raised_value : pos (number A new) ≡ word_value A signed a +ℤ pos (below_at (length a) signed)
  raised_value =
      ap pos (number-more A n low new y low_length made ∙ ap (λ z. number A z + 2 ^ n * bit (is_true A y)) front)
      ∙ word_value-raised A a n x len is signed (is_true A y) (by signed (ap (is_true A) turned))
    where
      by : (s : Bool) → is_true A y ≡ is_true A (if s then complement_of x else x) → is_true A y ≡ (if s then not (is_true A x) else is_true A x)
      by true e = e ∙ is_true-complement A x
      by false e = e
