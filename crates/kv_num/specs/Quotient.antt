-- Quotients and remainders of whole numbers (6.5.5). The quotient is truncated toward zero.
use Rattle.std.specs.Prelude.{◌≡◌, IsTrue, ℤ, pos, negsuc, neg_ℤ, ◌-ℤ◌, ◌*ℤ◌, int_div}
use Rattle.kv_num.specs.declared.types.IntType.{IntType}
use Rattle.kv_num.specs.IntType.{signed_of, below_of}

abbrev pub quotient_of : ℤ → ℤ → ℤ
quotient_of a b = int_div a b

-- what the quotient leaves: the quotient times b, plus the remainder, is a
abbrev pub remainder_of : ℤ → ℤ → ℤ
remainder_of a b = a -ℤ (quotient_of a b *ℤ b)

-- a is the least number of a signed type and b is -1: the quotient is one past the greatest
pub record IsLeastByMinusOne (t : IntType) (a b : ℤ) : Type 0 where
  pub signed : IsTrue (signed_of t)
  pub least : a ≡ neg_ℤ (pos (below_of t))
  pub divisor : b ≡ negsuc 0
