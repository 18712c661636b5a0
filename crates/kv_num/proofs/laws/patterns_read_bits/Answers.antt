use Rattle.kv_num.specs.IntType.{width_of, signed_of}
use Rattle.kv_num.proofs.Range.{width_valid}
use Rattle.kv_num.proofs.Patterns.{bits_most, bits_at-wrap_at, wrap_at-bits_at, bit_of-low_bits}
use Rattle.kv_num.proofs.Words.{bits_natural, bits_negative, low_bits-next}
use Rattle.kv_num.proofs.laws.patterns_read_bits.Goals as goal

pub returns-clause-below : goal.returns-clause-below
returns-clause-below c = λ t. bits_most (width_of t)

pub returns-clause-wrapped : goal.returns-clause-wrapped
returns-clause-wrapped c = λ t. bits_at-wrap_at (width_of t) (signed_of t)

pub returns-clause-number : goal.returns-clause-number
returns-clause-number c = λ t. wrap_at-bits_at (width_of t) (signed_of t)

pub returns-clause-natural : goal.returns-clause-natural
returns-clause-natural c = λ t. bits_natural (width_of t) (signed_of t)

pub returns-clause-negative : goal.returns-clause-negative
returns-clause-negative c = λ t. bits_negative (width_of t) (signed_of t) (width_valid t)

pub returns-clause-bits : goal.returns-clause-bits
returns-clause-bits c = bit_of-low_bits

pub returns-clause-next : goal.returns-clause-next
returns-clause-next c = low_bits-next
