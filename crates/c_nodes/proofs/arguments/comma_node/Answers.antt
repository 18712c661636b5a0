use Rattle.std.proofs.Common.{◌∙◌, sym, arith}
use Rattle.c_operators.specs.Told.{layout_at}
use Rattle.c_nodes.proofs.ArgumentLemmas.{last_part, next_part}
use Rattle.c_nodes.proofs.arguments.comma_node.Goals as goal

pub returns-then-i-parts : goal.returns-then-i-parts
returns-then-i-parts c =
    c.in_ok-answer-in-Gives.ensures
    ∙ last_part (layout_at c.args.given.now) c.args.at c.args.parts.now c.loop-i.i c.index-parts-i.result c.in-Gives.typed
    (omega arith) c.index-parts-i.is (omega arith) (sym c.in-Gives.is ∙ c.in_ok-answer.ensures) c.loop-i.invariant

pub loop-i-preserved : goal.loop-i-preserved
loop-i-preserved c =
    next_part (layout_at c.args.given.now) c.args.at c.args.parts.now c.loop-i.i c.index-parts-i.result c.in-Gives.typed
    (omega arith) c.index-parts-i.is (omega arith) (sym c.in-Gives.is ∙ c.in_ok-answer.ensures) c.loop-i.invariant
