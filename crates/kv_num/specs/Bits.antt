-- Numbers as bits in two's complement (6.2.6.2).
use Rattle.std.specs.Prelude.{ℕ, ◌^◌, ◌==◌, Bool, true, false, not, ℤ, pos, unsigned_abs}
use Rattle.std.specs.Int.{int_rem_euclid}
use Rattle.kv_num.specs.Shift.{right_of}

-- bit k of a: whether a divided by 2 ^ k, rounded down, is odd
abbrev pub bit_of : ℤ → ℕ → Bool
bit_of a k = unsigned_abs (int_rem_euclid (right_of a k) (pos 2)) == 1

-- one of two bits is set, and not both
abbrev pub differ : Bool → Bool → Bool
differ true b = not b
differ false b = b

-- the lowest k bits of a, read as a number without a sign
abbrev pub low_bits : ℕ → ℤ → ℕ
low_bits k a = unsigned_abs (int_rem_euclid a (pos (2 ^ k)))
