-- The numbers of words on which the bitwise operations work.
use Rattle.std.proofs.Common.{arith, ◌≡◌, ℕ, ◌+◌, ◌-◌, ◌^◌, Bool, List, length, ℤ, pos, sym, ap, ◌∙◌}
use Rattle.std.specs.Prelude.{bit_and, bit_or, bit_xor}
use Rattle.kv_num.specs.Shape.{wrap_at, bits_at, and_at, or_at, xor_at, not_at}
use Rattle.kv_num.specs.Bits.{low_bits}
use Rattle.kv_num.proofs.Patterns.{wrap_at-bits_at}
use Rattle.word_sums.specs.Words.{number, word_value}
use Rattle.word_sums.proofs.Values.{number_is_bits}

module _ (A : ℕ → Bool) (signed : Bool) where
  -- the number of a word, from the number without a sign that an operation gives
  operated : (F : ℕ → ℕ → ℕ) (w a b : List ℕ) → length w ≡ length a → length b ≡ length a → number A w ≡ F (number A a) (number A b)
      → word_value A signed w ≡ wrap_at (length a) signed (pos (F (bits_at (length a) (word_value A signed a)) (bits_at (length a) (word_value A signed b))))
  unfolding word_value
  operated F w a b len same e =
      (λ i. wrap_at (len i) signed (pos (e i)))
      ∙ (λ i. wrap_at (length a) signed (pos (F (sym (number_is_bits A signed a) i) ((sym (number_is_bits A signed b) ∙ (λ j. bits_at (same j) (word_value A signed b))) i))))

  pub and_value : (w a b : List ℕ) → length w ≡ length a → length b ≡ length a → number A w ≡ bit_and (number A a) (number A b) → word_value A signed w ≡ and_at (length a) signed (word_value A signed a) (word_value A signed b)
  and_value w a b len same e = operated bit_and w a b len same e

  pub or_value : (w a b : List ℕ) → length w ≡ length a → length b ≡ length a → number A w ≡ bit_or (number A a) (number A b) → word_value A signed w ≡ or_at (length a) signed (word_value A signed a) (word_value A signed b)
  or_value w a b len same e = operated bit_or w a b len same e

  pub xor_value : (w a b : List ℕ) → length w ≡ length a → length b ≡ length a → number A w ≡ bit_xor (number A a) (number A b) → word_value A signed w ≡ xor_at (length a) signed (word_value A signed a) (word_value A signed b)
  xor_value w a b len same e = operated bit_xor w a b len same e

  rest : (x y s : ℕ) → x + y + 1 ≡ s → x ≡ s - 1 - y
  rest x y s e = omega arith

  pub not_value : (w a : List ℕ) → length w ≡ length a → number A w + number A a + 1 ≡ 2 ^ length a → word_value A signed w ≡ not_at (length a) signed (word_value A signed a)
  unfolding word_value
  not_value w a len e =
      (λ i. wrap_at (len i) signed (pos (rest (number A w) (number A a) (2 ^ length a) e i)))
      ∙ ap (λ n. wrap_at (length a) signed (pos (2 ^ length a - 1 - n))) (sym (number_is_bits A signed a))

  pub constant_value : (w : List ℕ) (n : ℤ) (width : ℕ) → length w ≡ width → number A w ≡ low_bits width n → word_value A signed w ≡ wrap_at width signed n
  unfolding word_value
  constant_value w n width len e = (λ i. wrap_at (len i) signed (pos (e i))) ∙ wrap_at-bits_at width signed n
