use Rattle.c_kinds.proofs.Speaking.{operators_speak}
use Rattle.c_kinds.proofs.laws.operators_speak.Goals as goal

pub returns : goal.returns
returns c = operators_speak
