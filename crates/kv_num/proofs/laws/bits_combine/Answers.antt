use Rattle.std.proofs.Common.{refl, ◌&&◌, ◌||◌}
use Rattle.std.specs.Prelude.{bit_and, bit_or, bit_xor}
use Rattle.kv_num.specs.Bits.{differ}
use Rattle.kv_num.specs.IntType.{width_of, signed_of}
use Rattle.kv_num.proofs.Range.{width_valid}
use Rattle.kv_num.proofs.EachBit.{bits_of_value, each_and, each_or, each_xor, complement_bits}
use Rattle.kv_num.proofs.laws.bits_combine.Goals as goal

pub returns-clause-and : goal.returns-clause-and
returns-clause-and c = λ t. bits_of_value bit_and (λ x y. x && y) each_and refl (width_of t) (signed_of t) (width_valid t)

pub returns-clause-or : goal.returns-clause-or
returns-clause-or c = λ t. bits_of_value bit_or (λ x y. x || y) each_or refl (width_of t) (signed_of t) (width_valid t)

pub returns-clause-xor : goal.returns-clause-xor
returns-clause-xor c = λ t. bits_of_value bit_xor differ each_xor refl (width_of t) (signed_of t) (width_valid t)

pub returns-clause-complement : goal.returns-clause-complement
returns-clause-complement c = λ t. complement_bits (width_of t) (signed_of t)
