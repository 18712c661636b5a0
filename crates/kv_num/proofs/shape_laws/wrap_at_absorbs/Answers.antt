use Rattle.kv_num.proofs.Shapes.{wrap_at-add, wrap_at-sub, wrap_at-mul}
use Rattle.kv_num.proofs.shape_laws.wrap_at_absorbs.Goals as goal

pub returns-clause-sum : goal.returns-clause-sum
returns-clause-sum c = wrap_at-add

pub returns-clause-difference : goal.returns-clause-difference
returns-clause-difference c = wrap_at-sub

pub returns-clause-product : goal.returns-clause-product
returns-clause-product c = wrap_at-mul
