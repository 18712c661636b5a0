use Rattle.c_straight_model.proofs.Ready.{ends_with_nothing}
use Rattle.c_straight_model.proofs.laws.ends_with_nothing_left.Goals as goal

pub returns : goal.returns
returns c = ends_with_nothing
