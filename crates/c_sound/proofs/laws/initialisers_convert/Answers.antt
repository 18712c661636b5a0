use Rattle.c_sound.proofs.Filled.{initialisers_convert}
use Rattle.c_sound.proofs.laws.initialisers_convert.Goals as goal

pub returns : goal.returns
returns c = initialisers_convert
