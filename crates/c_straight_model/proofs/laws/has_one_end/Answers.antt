use Rattle.c_straight_model.proofs.Executions.{comes_to_one}
use Rattle.c_straight_model.proofs.laws.has_one_end.Goals as goal

pub returns : goal.returns
returns c = comes_to_one
