use Rattle.kv_num.specs.IntType.{width_of, signed_of}
use Rattle.kv_num.proofs.Range.{width_valid}
use Rattle.kv_num.proofs.Shapes.{range-wrap_at}
use Rattle.kv_num.proofs.Division.{range-remainder_of}
use Rattle.kv_num.proofs.Powers.{range-right_of}
use Rattle.kv_num.proofs.laws.results_are_in_range.Goals as goal

pub returns-clause-wrapped : goal.returns-clause-wrapped
returns-clause-wrapped c = λ t. range-wrap_at (width_of t) (signed_of t)

pub returns-clause-remainder : goal.returns-clause-remainder
returns-clause-remainder c = range-remainder_of

pub returns-clause-right : goal.returns-clause-right
returns-clause-right c = λ t. range-right_of (width_of t) (signed_of t) (width_valid t)
