use Rattle.c_straight_model.proofs.Executions.{comes_alike}
use Rattle.c_straight_model.proofs.laws.ends_alike.Goals as goal

pub returns : goal.returns
returns c = comes_alike
