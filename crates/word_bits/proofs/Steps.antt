-- One more bit of two numbers on which an operation works bit by bit.
use Rattle.std.proofs.Common.{arith, ◌≡◌, ℕ, ◌+◌, ◌-◌, ◌*◌, ◌%◌, ◌^◌, ◌<◌, Bool, true, false, ◌&&◌, ◌||◌, ◌==◌, List, [], ◌∷◌, ◌++◌, length, take, get_or, ℤ, if◌then◌else◌, refl, sym, ap, subst, ◌∙◌, ⊎_elim}
use Rattle.std.proofs.lemmas.Bool.{cases_lt}
use Rattle.std.proofs.lemmas.Nat.Bits.{bit_at-lt, bit_at_cat_low, bit_at_cat_high, bit_at_lowest, same_from_bits_below}
use Rattle.std.specs.Prelude.{bit_and, bit_or, bit_xor}
use Rattle.std.specs.Int.{bit_at}
use Rattle.kv_num.specs.Bits.{bit_of, differ, low_bits}
use Rattle.kv_num.proofs.Patterns.{same_bit}
use Rattle.kv_num.proofs.Words.{low_bits-next}
use Rattle.kv_num.proofs.EachBit.{F_most, each_and, each_or, each_xor}
use Rattle.sat_clause.specs.Literals.{is_true}
use Rattle.word_sums.specs.Words.{bit, number}
use Rattle.word_sums.proofs.Numbers.{pow_next, number-more, number-take, number-take_bound}
use Rattle.word_bits.specs.declared.bitwise.BitOp.{BitOp}
use Rattle.word_bits.specs.declared.bitwise.BitOp.TheVariants.{And, Or, Xor}
use Rattle.word_bits.specs.Bits.{on_bits, on_numbers}

lowest : (p : Bool) → (bit p % 2 == 1) ≡ p
lowest true = refl
lowest false = refl

top_bit : (i x : ℕ) (p : Bool) → x < 2 ^ i → (bit_at (bit p * 2 ^ i + x) i == 1) ≡ p
top_bit i x p h =
    let none : i - i ≡ 0 = omega arith in
    ap (λ n. n == 1) (bit_at_cat_high (bit p) i x i h (omega arith) ∙ (ap (bit_at (bit p)) none ∙ bit_at_lowest (bit p))) ∙ lowest p

low_bit : (i x k : ℕ) (p : Bool) → k < i → (bit_at (bit p * 2 ^ i + x) k == 1) ≡ (bit_at x k == 1)
low_bit i x k p h = ap (λ n. n == 1) (bit_at_cat_low (bit p) i x k h)

next_most : (i x : ℕ) (p : Bool) → x < 2 ^ i → bit p * 2 ^ i + x < 2 ^ (i + 1)
next_most i x true h = omega (arith, pow_next i)
next_most i x false h = omega (arith, pow_next i)

-- an operation F on numbers that does f on each bit
module _ (F : ℕ → ℕ → ℕ) (f : Bool → Bool → Bool) (each : (p q k : ℕ) → (bit_at (F p q) k == 1) ≡ f (bit_at p k == 1) (bit_at q k == 1)) (clear : f false false ≡ false) where
  next_bit : (i x y : ℕ) (p q : Bool) → x < 2 ^ i → y < 2 ^ i → F (bit p * 2 ^ i + x) (bit q * 2 ^ i + y) ≡ bit (f p q) * 2 ^ i + F x y
  next_bit i x y p q hx hy =
      let m : ℕ = bit p * 2 ^ i + x in
      let n : ℕ = bit q * 2 ^ i + y in
      let r : ℕ = bit (f p q) * 2 ^ i + F x y in
      let small = F_most F f each clear i x y hx hy in
      same_from_bits_below (i + 1) (F m n) r (F_most F f each clear (i + 1) m n (next_most i x p hx) (next_most i y q hy)) (next_most i (F x y) (f p q) small)
      (λ k h. same_bit (bit_at (F m n) k) (bit_at r k) (bit_at-lt (F m n) k) (bit_at-lt r k) (each m n k ∙ ⊎_elim
      (λ low. (λ j. f (low_bit i x k p low j) (low_bit i y k q low j)) ∙ (sym (each x y k) ∙ sym (low_bit i (F x y) k (f p q) low)))
      (λ high.
      let here : i ≡ k = omega arith in
      let P : ℕ → Type 0 = λ k. f (bit_at m k == 1) (bit_at n k == 1) ≡ (bit_at r k == 1) in
      subst P here ((λ j. f (top_bit i x p hx j) (top_bit i y q hy j)) ∙ sym (top_bit i (F x y) (f p q) small)))
      (cases_lt k i)))

on_next : (op : BitOp) (i x y : ℕ) (p q : Bool) → x < 2 ^ i → y < 2 ^ i → on_numbers op (bit p * 2 ^ i + x) (bit q * 2 ^ i + y) ≡ bit (on_bits op p q) * 2 ^ i + on_numbers op x y
on_next And i x y p q hx hy = next_bit bit_and (λ x y. x && y) each_and refl i x y p q hx hy
on_next Or i x y p q hx hy = next_bit bit_or (λ x y. x || y) each_or refl i x y p q hx hy
on_next Xor i x y p q hx hy = next_bit bit_xor differ each_xor refl i x y p q hx hy

turned : (n p b : ℕ) → n + p * b ≡ b * p + n
turned n p b = omega arith

-- A word `word` that holds the operation's first i digits, those of `left` and `right`, and a next digit d of their
-- digits x and y, is the word of the first i + 1.
pub bitwise_more : (A : ℕ → Bool) (op : BitOp) (i : ℕ) (left right word new : List ℕ) (x y d : ℕ) → length word ≡ i → i < length left → i < length right → new ≡ word ++ d ∷ [] → x ≡ get_or left i x → y ≡ get_or right i y
    → number A word ≡ on_numbers op (number A (take i left)) (number A (take i right)) → is_true A d ≡ on_bits op (is_true A x) (is_true A y)
    → number A new ≡ on_numbers op (number A (take (i + 1) left)) (number A (take (i + 1) right))
bitwise_more A op i left right word new x y d len hl hr made ex ey value digit =
    let p : Bool = is_true A x in
    let q : Bool = is_true A y in
    let a : number A (take (i + 1) left) ≡ bit p * 2 ^ i + number A (take i left) = number-take A i left x hl ex ∙ turned (number A (take i left)) (2 ^ i) (bit p) in
    let b : number A (take (i + 1) right) ≡ bit q * 2 ^ i + number A (take i right) = number-take A i right y hr ey ∙ turned (number A (take i right)) (2 ^ i) (bit q) in
    number-more A i word new d len made ∙ (turned (number A word) (2 ^ i) (bit (is_true A d)) ∙ ((λ j. bit (digit j) * 2 ^ i + value j)
    ∙ (sym (on_next op i (number A (take i left)) (number A (take i right)) p q (number-take_bound A i left hl) (number-take_bound A i right hr)) ∙ sym (λ j. on_numbers op (a j) (b j)))))

-- ---- constants

next_low : (n p : ℕ) (b : Bool) → n + p * bit b ≡ n + (if b then p else 0)
next_low n p true = omega arith
next_low n p false = omega arith

-- One more digit d, bit i of n, above a word of the lowest i bits of n.
pub constant_more : (A : ℕ → Bool) (i : ℕ) (n : ℤ) (word new : List ℕ) (d : ℕ) → length word ≡ i → new ≡ word ++ d ∷ [] → number A word ≡ low_bits i n → is_true A d ≡ bit_of n i → number A new ≡ low_bits (i + 1) n
constant_more A i n word new d len made value digit =
    let turn : 1 + i ≡ i + 1 = omega arith in
    number-more A i word new d len made
    ∙ ((λ j. value j + 2 ^ i * bit (digit j))
    ∙ (next_low (low_bits i n) (2 ^ i) (bit_of n i) ∙ (sym (low_bits-next i n) ∙ ap (λ k. low_bits k n) turn)))
