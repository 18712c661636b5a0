-- Signs and absolute values of words.
use Rattle.std.proofs.Common.{ℕ, ◌≡◌, ◌<◌, ◌+◌, ◌*◌, ◌^◌, ◌==◌, Bool, true, false, not, ◌&&◌, ◌||◌, List, [], ◌∷◌, ◌++◌, length, take, get_or, ℤ, pos, ◌+ℤ◌, ◌-ℤ◌, ◌≤ℤ◌, if◌then◌else◌, refl, sym, ap, ◌∙◌, arith, length-take}
use Rattle.std.proofs.lemmas.Int.{ints}
use Rattle.std.proofs.lemmas.Bool.{ne_eqb}
use Rattle.kv_num.specs.Bits.{differ}
use Rattle.kv_num.specs.Shape.{below_at}
use Rattle.kv_num.proofs.Shapes.{range-wrap_at}
use Rattle.sat_clause.specs.Literals.{is_true}
use Rattle.word_sums.specs.Words.{bit, number, signed_number, word_value}
use Rattle.word_sums.proofs.Numbers.{below_less, number-more, number-take, number_top, whole, full, pow_next, word_value-unsigned, word_value-signed}
use Rattle.word_sums.proofs.Pieces.{any_next}

-- what each digit keeps, with s whether a digit so far is set
negated_digit : (t s x : Bool) (p q r n r2 n2 : ℕ) → q ≡ 2 * p → r2 ≡ r + p * bit (differ (t && s) x) → n2 ≡ n + p * bit x
    → (if t then r + n else r) ≡ (if t then p * bit s else n) → (if t then r2 + n2 else r2) ≡ (if t then q * bit (s || x) else n2)
negated_digit true true true p q r n r2 n2 e1 e2 e3 e4 = omega arith
negated_digit true true false p q r n r2 n2 e1 e2 e3 e4 = omega arith
negated_digit true false true p q r n r2 n2 e1 e2 e3 e4 = omega arith
negated_digit true false false p q r n r2 n2 e1 e2 e3 e4 = omega arith
negated_digit false s x p q r n r2 n2 e1 e2 e3 e4 = e2 ∙ (ap (λ z. z + p * bit x) e4 ∙ sym e3)

-- one more digit of a negated word
pub negated_more : (A : ℕ → Bool) (i : ℕ) (t : Bool) (a word new : List ℕ) (x s d : ℕ) → length word ≡ i → i < length a → new ≡ word ++ d ∷ [] → x ≡ get_or a i x
    → is_true A s ≡ not (number A (take i a) == 0)
    → is_true A d ≡ differ (t && is_true A s) (is_true A x)
    → (if t then number A word + number A (take i a) else number A word) ≡ (if t then 2 ^ i * bit (not (number A (take i a) == 0)) else number A (take i a))
    → (if t then number A new + number A (take (i + 1) a) else number A new) ≡ (if t then 2 ^ (i + 1) * bit (not (number A (take (i + 1) a) == 0)) else number A (take (i + 1) a))
negated_more A i t a word new x s d len h p q set ed before =
    let ta = number A (take i a) in
    let tn = number A (take (i + 1) a) in
    let sb = is_true A s in
    let xb = is_true A x in
    let old : (if t then number A word + ta else number A word) ≡ (if t then 2 ^ i * bit sb else ta) = before ∙ ap (λ z. if t then 2 ^ i * bit z else ta) (sym set) in
    let digit : number A new ≡ number A word + 2 ^ i * bit (differ (t && sb) xb) = number-more A i word new d len p ∙ ap (λ z. number A word + 2 ^ i * bit z) ed in
    negated_digit t sb xb (2 ^ i) (2 ^ (i + 1)) (number A word) ta (number A new) tn (pow_next i) digit (number-take A i a x h q) old
    ∙ ap (λ z. if t then 2 ^ (i + 1) * bit z else tn) (any_next A i a x s h q set)

pub negated_none : (A : ℕ → Bool) (t : Bool) (word : List ℕ) → word ≡ [] → (if t then number A word + 0 else number A word) ≡ (if t then 2 ^ 0 * bit false else 0)
negated_none A true word e = ap (λ z. number A z + 0) e
negated_none A false word e = ap (number A) e

-- the top digit of a negated word
pub negated_last : (A : ℕ → Bool) (t : Bool) (a word new : List ℕ) (n x s d : ℕ) → length a ≡ n + 1 → length word ≡ length (take n a) → new ≡ word ++ d ∷ [] → x ≡ get_or a n x
    → is_true A s ≡ not (number A (take n a) == 0)
    → is_true A d ≡ differ (t && is_true A s) (is_true A x)
    → (if t then number A word + number A (take n a) else number A word) ≡ (if t then 2 ^ length (take n a) * bit (not (number A (take n a) == 0)) else number A (take n a))
    → (if t then number A new + number A a else number A new) ≡ (if t then 2 ^ length a * bit (not (number A a == 0)) else number A a)
negated_last A t a word new n x s d len lw p q set ed before =
    let ln : length (take n a) ≡ n = omega (arith, length-take n a) in
    let under : n < length a = omega arith in
    let low = before ∙ ap (λ k. if t then 2 ^ k * bit (not (number A (take n a) == 0)) else number A (take n a)) ln in
    let next = negated_more A n t a word new x s d (lw ∙ ln) under p q set ed low in
    ap (λ z. if t then number A new + number A z else number A new) (sym (whole A a n x len q))
    ∙ (next ∙ (ap (λ z. if t then 2 ^ (n + 1) * bit (not (number A z == 0)) else number A z) (whole A a n x len q) ∙ ap (λ k. if t then 2 ^ k * bit (not (number A a == 0)) else number A a) (sym len)))

-- ---- the sign

signed_whole : (t : Bool) (na low p s : ℕ) → na ≡ low + p * bit t → s ≡ 2 * p → pos low -ℤ pos (p * bit t) ≡ pos na -ℤ pos (s * bit t)
signed_whole true na low p s e f = omega (arith, ints)
signed_whole false na low p s e f = omega (arith, ints)

pub value_signed : (A : ℕ → Bool) (a : List ℕ) (n x : ℕ) → length a ≡ n + 1 → x ≡ get_or a n x → word_value A true a ≡ pos (number A a) -ℤ pos (2 ^ length a * bit (is_true A x))
value_signed A a n x len is = word_value-signed A a n x len is ∙ signed_whole (is_true A x) (number A a) (number A (take n a)) (2 ^ n) (2 ^ length a) (number_top A a n x len is) (full A a n x len is)

no_more : (n s : ℕ) → pos n ≡ pos n -ℤ pos (s * 0)
no_more n s = omega (arith, ints)

pub value_unsigned : (A : ℕ → Bool) (a : List ℕ) (b : Bool) → b ≡ false → word_value A false a ≡ pos (number A a) -ℤ pos (2 ^ length a * bit b)
value_unsigned A a b e = word_value-unsigned A a ∙ (no_more (number A a) (2 ^ length a) ∙ ap (λ z. pos (number A a) -ℤ pos (2 ^ length a * bit z)) (sym e))

-- ---- absolute values

nothing_whole : (v : ℤ) (na h s : ℕ) → h < s → v ≡ pos na -ℤ pos (s * 1) → na ≡ 0 → pos 0 ≤ℤ (v +ℤ pos h) → ⊥
nothing_whole v na h s k e f l = omega (arith, ints)

absolute : (v : ℤ) (b : Bool) (na nw s : ℕ) → v ≡ pos na -ℤ pos (s * bit b) → (IsZero : na ≡ 0 → b ≡ true → ⊥) → (if b then nw + na else nw) ≡ (if b then s * bit (not (na == 0)) else na) → v ≡ signed_number b nw
absolute v true na nw s e some f =
    let apart : na ≡ 0 → ⊥ = λ (z : na ≡ 0). some z refl in
    let g : nw + na ≡ s * 1 = f ∙ ap (λ z. s * bit (not z)) (ne_eqb na 0 apart) in
    by v na nw s e g
  where
    by : (v : ℤ) (na nw s : ℕ) → v ≡ pos na -ℤ pos (s * 1) → nw + na ≡ s * 1 → v ≡ pos 0 -ℤ pos nw
    by v na nw s e g = omega (arith, ints)
absolute v false na nw s e some f = by v na nw s e f
  where
    by : (v : ℤ) (na nw s : ℕ) → v ≡ pos na -ℤ pos (s * 0) → nw ≡ na → v ≡ pos nw
    by v na nw s e g = omega (arith, ints)

pub magnitude_value : (A : ℕ → Bool) (signed : Bool) (a word : List ℕ) (b : Bool) → 0 < length a → word_value A signed a ≡ pos (number A a) -ℤ pos (2 ^ length a * bit b)
    → (if b then number A word + number A a else number A word) ≡ (if b then 2 ^ length a * bit (not (number A a == 0)) else number A a)
    → word_value A signed a ≡ signed_number b (number A word)
unfolding word_value
magnitude_value A signed a word b h e f =
    let v = word_value A signed a in
    let r = range-wrap_at (length a) signed (pos (number A a)) in
    absolute v b (number A a) (number A word) (2 ^ length a) e
    (λ z t. nothing_whole v (number A a) (below_at (length a) signed) (2 ^ length a) (below_less (length a) signed h) (e ∙ ap (λ k. pos (number A a) -ℤ pos (2 ^ length a * bit k)) t) z r.least) f
