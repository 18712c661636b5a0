use Rattle.c_model.proofs.Goals.{breaks_alike}
use Rattle.c_model.proofs.laws.goals_agree.Goals as goal

pub returns : goal.returns
returns c = breaks_alike
