use Rattle.c_sound.proofs.Placed.{places_typed}
use Rattle.c_sound.proofs.laws.places_have_types.Goals as goal

pub returns : goal.returns
returns c = places_typed
