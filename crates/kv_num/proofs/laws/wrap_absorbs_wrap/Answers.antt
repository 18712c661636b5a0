use Rattle.kv_num.specs.IntType.{width_of, signed_of}
use Rattle.kv_num.proofs.Shapes.{wrap_at-in_shape, wrap_at-add, wrap_at-sub, wrap_at-mul}
use Rattle.kv_num.proofs.Powers.{wrap_at-left_of}
use Rattle.kv_num.proofs.laws.wrap_absorbs_wrap.Goals as goal

pub returns-clause-in_range : goal.returns-clause-in_range
returns-clause-in_range c = λ t. wrap_at-in_shape (width_of t) (signed_of t)

pub returns-clause-sum : goal.returns-clause-sum
returns-clause-sum c = λ t. wrap_at-add (width_of t) (signed_of t)

pub returns-clause-difference : goal.returns-clause-difference
returns-clause-difference c = λ t. wrap_at-sub (width_of t) (signed_of t)

pub returns-clause-product : goal.returns-clause-product
returns-clause-product c = λ t. wrap_at-mul (width_of t) (signed_of t)

pub returns-clause-left : goal.returns-clause-left
returns-clause-left c = λ t. wrap_at-left_of (width_of t) (signed_of t)
