use Rattle.c_straight_model.proofs.Executions.{safe_from_end}
use Rattle.c_straight_model.proofs.laws.ended_is_safe.Goals as goal

pub returns : goal.returns
returns c = safe_from_end
