use Rattle.c_straight.proofs.InScope.{among}
use Rattle.c_straight.proofs.names.is_declared.Goals as goal

pub returns : goal.returns
returns c = among c.args.names.now c.args.name.now c.contains.result c.contains.ensures.value
