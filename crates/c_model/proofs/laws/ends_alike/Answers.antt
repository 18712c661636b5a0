use Rattle.c_model.proofs.Executions.{comes_alike}
use Rattle.c_model.proofs.laws.ends_alike.Goals as goal

pub returns : goal.returns
returns c = comes_alike
