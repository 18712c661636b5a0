-- The bitwise operations, on bits and on numbers without a sign.
use Rattle.std.specs.Prelude.{ℕ, Bool, ◌&&◌, ◌||◌, bit_and, bit_or, bit_xor}
use Rattle.kv_num.specs.Bits.{differ}
use Rattle.word_bits.specs.declared.bitwise.BitOp.{BitOp}
use Rattle.word_bits.specs.declared.bitwise.BitOp.TheVariants.{And, Or, Xor}

abbrev pub on_bits : BitOp → Bool → Bool → Bool
on_bits And p q = p && q
on_bits Or p q = p || q
on_bits Xor p q = differ p q

abbrev pub on_numbers : BitOp → ℕ → ℕ → ℕ
on_numbers And m n = bit_and m n
on_numbers Or m n = bit_or m n
on_numbers Xor m n = bit_xor m n
