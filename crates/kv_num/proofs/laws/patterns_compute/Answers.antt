use Rattle.kv_num.specs.IntType.{width_of, signed_of}
use Rattle.kv_num.proofs.Range.{width_valid}
use Rattle.kv_num.proofs.Words.{bits_at-add, bits_at-sub, bits_at-mul, bits_at-not_at, bits_order}
use Rattle.kv_num.proofs.laws.patterns_compute.Goals as goal

pub returns-clause-sum : goal.returns-clause-sum
returns-clause-sum c = λ t. bits_at-add (width_of t)

pub returns-clause-difference : goal.returns-clause-difference
returns-clause-difference c = λ t. bits_at-sub (width_of t)

pub returns-clause-product : goal.returns-clause-product
returns-clause-product c = λ t. bits_at-mul (width_of t)

pub returns-clause-complement : goal.returns-clause-complement
returns-clause-complement c = λ t. bits_at-not_at (width_of t) (signed_of t)

pub returns-clause-order : goal.returns-clause-order
returns-clause-order c = λ t. bits_order (width_of t) (signed_of t) (width_valid t)
