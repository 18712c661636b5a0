use Rattle.c_straight_model.proofs.Measure.{comes_to_end}
use Rattle.c_straight_model.proofs.laws.always_ends.Goals as goal

pub returns : goal.returns
returns c = comes_to_end
