use Rattle.std.proofs.Common.{arith}
use Rattle.c_operators.specs.Told.{layout_at}
use Rattle.c_nodes.proofs.ArgumentLemmas.{more_given}
use Rattle.c_nodes.proofs.pairs.all_fit.Goals as goal

pub returns-else-arguments-parameters-2 : goal.returns-else-arguments-parameters-2
returns-else-arguments-parameters-2 c =
    more_given (layout_at c.args.given.now) c.args.parameters.now c.args.is_variadic c.args.arguments.now c.loop-i.i (omega arith) (omega arith) c.loop-i.invariant
