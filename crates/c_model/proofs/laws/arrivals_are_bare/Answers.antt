use Rattle.c_model.proofs.Arrivals.{arrivals_are_bare}
use Rattle.c_model.proofs.laws.arrivals_are_bare.Goals as goal

pub returns : goal.returns
returns c = arrivals_are_bare
