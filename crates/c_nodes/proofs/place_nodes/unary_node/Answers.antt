use Rattle.std.proofs.Common.{◌∙◌}
use Rattle.c_operators.specs.Told.{layout_at}
use Rattle.c_nodes.proofs.Parts.{node_of_value}
use Rattle.c_nodes.proofs.place_nodes.unary_node.Goals as goal

pub returns-in_ok-answer-in_default-clause-value : goal.returns-in_ok-answer-in_default-clause-value
returns-in_ok-answer-in_default-clause-value c =
    c.in_ok-answer-in_default.ensures.value ∙ node_of_value (layout_at c.args.given.now) c.args.operator c.args.at c.args.operand.now c.in_default.not-Address
