-- Words of another width, and negated words.
use Rattle.std.proofs.Common.{arith, ◌≡◌, ℕ, ◌+◌, ◌*◌, ◌^◌, ◌≤◌, ◌==◌, Bool, true, false, not, if◌then◌else◌, List, ◌++◌, length, take, drop, ℤ, pos, ◌+ℤ◌, ◌-ℤ◌, ◌*ℤ◌, sym, ap, ◌∙◌, length-append}
use Rattle.std.proofs.Math.ListN.{replicate}
use Rattle.std.proofs.lemmas.Int.{ints}
use Rattle.std.proofs.lemmas.Nat.{pow-add}
use Rattle.std.proofs.lemmas.List.{length-replicate}
use Rattle.kv_num.specs.Shape.{wrap_at}
use Rattle.kv_num.proofs.Shapes.{wrap_at_congruent, wrap_at-congruent, wrap_at-wrap_at}
use Rattle.kv_num.proofs.Ring.{difference_multiple}
use Rattle.sat_clause.specs.Literals.{is_true}
use Rattle.word_sums.specs.Words.{bit, number, word_value, continued_value}
use Rattle.word_sums.proofs.Pieces.{number-append, number-split, number-copies}
use Rattle.word_gates.proofs.Moves.{continued_multiple}

-- ---- fewer digits

split_multiple : (n t p d : ℕ) → n ≡ t + p * d → pos n ≡ pos t +ℤ (pos d *ℤ pos p)
split_multiple n t p d e = omega (arith, ints)

pub resized : (A : ℕ → Bool) (signed wide : Bool) (a w : List ℕ) (width : ℕ) → width ≤ length a → length w ≡ width → w ≡ take width a → word_value A wide w ≡ wrap_at width wide (word_value A signed a)
unfolding word_value
resized A signed wide a w width short len made =
    (λ i. wrap_at (len i) wide (pos (number A (made i))))
    ∙ (sym (wrap_at-congruent width wide (pos (number A a)) (pos (number A (take width a))) (pos (number A (drop width a))) (split_multiple (number A a) (number A (take width a)) (2 ^ width) (number A (drop width a)) (number-split A width a short)))
    ∙ sym (wrap_at-wrap_at width (length a) wide signed (pos (number A a)) short))

-- ---- more digits

-- n is a word's number, p 2 to its width, b its sign; x is the number of the sign's copies, c 2 to how many there are
copies_keep : (n p x b c q : ℕ) → x + b ≡ c * b → q ≡ p * c → pos (n + p * x) -ℤ pos (q * b) ≡ pos n -ℤ pos (p * b)
copies_keep n p x b c q e f =
    let g : p * (x + b) ≡ p * (c * b) = ap (λ z. p * z) e in
    let h : q * b ≡ p * c * b = ap (λ z. z * b) f in
    omega (arith, ints)

continued-copies : (A : ℕ → Bool) (a w : List ℕ) (fill c : ℕ) → w ≡ a ++ replicate c fill → continued_value A fill w ≡ continued_value A fill a
continued-copies A a w fill c made =
    let len : length w ≡ length a + c = ap length made ∙ omega (arith, length-append a (replicate c fill), length-replicate c fill) in
    let size : 2 ^ length w ≡ 2 ^ length a * 2 ^ c = ap (λ k. 2 ^ k) len ∙ pow-add 2 (length a) c in
    let value : number A w ≡ number A a + 2 ^ length a * number A (replicate c fill) = ap (number A) made ∙ number-append A a (replicate c fill) in
    ap (λ n. pos n -ℤ pos (2 ^ length w * bit (is_true A fill))) value
    ∙ copies_keep (number A a) (2 ^ length a) (number A (replicate c fill)) (bit (is_true A fill)) (2 ^ c) (2 ^ length w) (number-copies A c fill) size

pub stretched_value : (A : ℕ → Bool) (signed wide : Bool) (a w : List ℕ) (fill c width : ℕ) → w ≡ a ++ replicate c fill → length w ≡ width → word_value A signed a ≡ continued_value A fill a → word_value A wide w ≡ wrap_at width wide (word_value A signed a)
unfolding word_value
stretched_value A signed wide a w fill c width made len is =
    (λ i. wrap_at (len i) wide (pos (number A w)))
    ∙ (wrap_at-congruent width wide (pos (number A w)) (continued_value A fill w) (pos (bit (is_true A fill)))
    (continued_multiple (number A w) (2 ^ length w) (is_true A fill) ∙ ap (λ k. continued_value A fill w +ℤ (pos (bit (is_true A fill)) *ℤ pos (2 ^ k))) len)
    ∙ ap (wrap_at width wide) (continued-copies A a w fill c made ∙ sym is))

-- ---- negated words

taken_from_zero : (n m p : ℕ) (b : Bool) → n + m ≡ p * bit b → pos n ≡ (pos 0 -ℤ pos m) +ℤ (pos (bit b) *ℤ pos p)
taken_from_zero n m p true e = omega (arith, ints)
taken_from_zero n m p false e = omega (arith, ints)

zero_multiple : (v s : ℤ) → pos 0 ≡ pos 0 +ℤ (pos 0 *ℤ s)
zero_multiple v s = omega (arith, ints)

chosen : (t : Bool) (x y z u : ℕ) → t ≡ true → (if t then x else y) ≡ (if t then z else u) → x ≡ z
chosen true x y z u e h = h
chosen false x y z u e h = absurd cc

pub negated_value : (A : ℕ → Bool) (signed : Bool) (a w : List ℕ) (t : Bool) → length w ≡ length a → t ≡ true
    → (if t then number A w + number A a else number A w) ≡ (if t then 2 ^ length a * bit (not (number A a == 0)) else number A a)
    → word_value A signed w ≡ wrap_at (length a) signed (pos 0 -ℤ word_value A signed a)
unfolding word_value
negated_value A signed a w t len set e =
    let n : ℕ = length a in
    let m : ℤ = pos (number A a) in
    let b : Bool = not (number A a == 0) in
    let sum = chosen t (number A w + number A a) (number A w) (2 ^ n * bit b) (number A a) set e in
    let c = wrap_at_congruent n signed m in
    (λ i. wrap_at (len i) signed (pos (number A w)))
    ∙ (wrap_at-congruent n signed (pos (number A w)) (pos 0 -ℤ m) (pos (bit b)) (taken_from_zero (number A w) (number A a) (2 ^ n) b sum)
    ∙ wrap_at-congruent n signed (pos 0 -ℤ m) (pos 0 -ℤ wrap_at n signed m) _ (difference_multiple (pos 0) m (pos 0) (wrap_at n signed m) (pos 0) c.0 (pos (2 ^ n)) (zero_multiple m (pos (2 ^ n))) c.1))
