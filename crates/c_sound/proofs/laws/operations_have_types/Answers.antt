use Rattle.c_sound.proofs.Valued.{operations_typed}
use Rattle.c_sound.proofs.laws.operations_have_types.Goals as goal

pub returns : goal.returns
returns c = operations_typed
