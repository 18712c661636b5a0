use Rattle.kv_num.proofs.Shapes.{range-wrap_at, wrap_at_congruent, wrap_at_unique}
use Rattle.kv_num.proofs.shape_laws.wrap_at_is_unique.Goals as goal

pub returns-clause-shaped : goal.returns-clause-shaped
returns-clause-shaped c = range-wrap_at

pub returns-clause-congruent : goal.returns-clause-congruent
returns-clause-congruent c = wrap_at_congruent

pub returns-clause-only : goal.returns-clause-only
returns-clause-only c = wrap_at_unique
