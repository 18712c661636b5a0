use Rattle.c_rules.proofs.Texts.{initialisers_fit}
use Rattle.c_rules.proofs.laws.initialisers_fit.Goals as goal

pub returns : goal.returns
returns c = initialisers_fit
