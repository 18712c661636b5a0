use Rattle.kv_num.specs.IntType.{width_of, signed_of}
use Rattle.kv_num.proofs.Range.{width_valid}
use Rattle.kv_num.proofs.Patterns.{bit_of-wrap_at, same_from_bits_of}
use Rattle.kv_num.proofs.Signs.{sign_bits, unsigned_bits, is_false, false_is}
use Rattle.kv_num.proofs.laws.bits_make_numbers.Goals as goal

pub returns-clause-wrapped : goal.returns-clause-wrapped
returns-clause-wrapped c = λ t. bit_of-wrap_at (width_of t) (signed_of t)

pub returns-clause-same : goal.returns-clause-same
returns-clause-same c = λ t. same_from_bits_of (width_of t) (signed_of t)

pub returns-clause-sign : goal.returns-clause-sign
returns-clause-sign c = λ t. sign_bits (width_of t) (signed_of t) (width_valid t)

pub returns-clause-unsigned : goal.returns-clause-unsigned
returns-clause-unsigned c = λ t a k is e high. false_is _ (unsigned_bits (width_of t) (signed_of t) a k is (is_false _ e) high)
