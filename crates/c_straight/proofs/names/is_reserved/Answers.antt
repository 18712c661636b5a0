use Rattle.c_straight.specs.Names.{reserved}
use Rattle.c_straight.proofs.InScope.{in_table}
use Rattle.c_straight.proofs.names.is_reserved.Goals as goal

pub returns : goal.returns
returns c = in_table reserved c.args.text.now c.contains.result c.contains.ensures.value
