use Rattle.std.proofs.Common.{arith}
use Rattle.c_operators.specs.Told.{layout_at}
use Rattle.c_nodes.proofs.ArgumentLemmas.{next_breaks, next_goes}
use Rattle.c_nodes.proofs.arguments.broken_arguments.Goals as goal

pub returns-in-Some : goal.returns-in-Some
returns-in-Some c =
    next_breaks (layout_at c.args.given.now) c.args.texts c.args.arguments.now c.loop-argument.argument-index c.argument-item.result c.in_ok-found.found c.in-Some.broken
    (omega arith) c.argument-item.is c.in-Some.is c.in_ok-found.ensures c.loop-argument.invariant

pub loop-argument-preserved : goal.loop-argument-preserved
loop-argument-preserved c =
    next_goes (layout_at c.args.given.now) c.args.texts c.args.arguments.now c.loop-argument.argument-index c.argument-item.result c.in_ok-found.found
    (omega arith) c.argument-item.is c.in-None.is c.in_ok-found.ensures c.loop-argument.invariant
