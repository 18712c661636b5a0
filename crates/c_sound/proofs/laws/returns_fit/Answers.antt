use Rattle.c_sound.proofs.Returning.{returns_fit}
use Rattle.c_sound.proofs.laws.returns_fit.Goals as goal

pub returns : goal.returns
returns c = returns_fit
