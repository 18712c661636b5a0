-- What words say of their numbers, they say of their numbers with a sign.
use Rattle.std.proofs.Common.{arith, ◌≡◌, ℕ, ◌==◌, Bool, true, false, List, length, ℤ, pos, if◌then◌else◌, sym, ◌∙◌, ⊎_elim}
use Rattle.std.proofs.lemmas.Int.{ints}
use Rattle.std.proofs.lemmas.Bool.Decides.{eqb_tells, Decides-int_eq}
use Rattle.std.proofs.Math.Nat.{mod-eq_of_lt}
use Rattle.std.specs.Ordering.{int_eq}
use Rattle.kv_num.specs.Shape.{wrap_at, bits_at}
use Rattle.kv_num.proofs.Patterns.{bits_at-wrap_at}
use Rattle.word_sums.specs.Words.{number, word_value}
use Rattle.word_sums.proofs.Numbers.{number-bound}

module _ (A : ℕ → Bool) (signed : Bool) where
  pub word_value-same : (w a : List ℕ) → length w ≡ length a → number A w ≡ number A a → word_value A signed w ≡ word_value A signed a
  unfolding word_value
  word_value-same w a len e = λ i. wrap_at (len i) signed (pos (e i))

  -- the bits of a word's number make the number without a sign
  pub number_is_bits : (w : List ℕ) → bits_at (length w) (word_value A signed w) ≡ number A w
  unfolding word_value
  number_is_bits w = bits_at-wrap_at (length w) signed (pos (number A w)) ∙ mod-eq_of_lt (number-bound A w)

  pub select_value : (t : Bool) (w a b : List ℕ) → length w ≡ length a → length b ≡ length a → number A w ≡ (if t then number A a else number A b)
      → word_value A signed w ≡ (if t then word_value A signed a else word_value A signed b)
  select_value true w a b len same e = word_value-same w a len e
  select_value false w a b len same e = word_value-same w b (len ∙ sym same) e

  apart : (x y : ℤ) → (x ≡ y → ⊥) → int_eq x y ≡ false
  apart x y h = grind (arith, ints)

  pub equal_value : (a b : List ℕ) → length b ≡ length a → (number A a == number A b) ≡ int_eq (word_value A signed a) (word_value A signed b)
  equal_value a b same = ⊎_elim
      (λ yes. yes.0 ∙ sym ((Decides-int_eq (word_value A signed a) (word_value A signed b)).1 (word_value-same a b (sym same) yes.1)))
      (λ no. no.0 ∙ sym (apart (word_value A signed a) (word_value A signed b)
      (λ e. no.1 (sym (number_is_bits a) ∙ ((λ i. bits_at (sym same i) (e i)) ∙ number_is_bits b)))))
      (eqb_tells (number A a) (number A b))
