use Rattle.std.proofs.Common.{◌∙◌, sym}
use Rattle.c_kinds.specs.Operands as operands
use Rattle.c_operators.specs.Told.{layout_at}
use Rattle.c_nodes.proofs.Parts.{used_gives}
use Rattle.c_nodes.proofs.place_nodes.value_node.Goals as goal

pub returns-in_ok-answer-in-Gives-clause-value : goal.returns-in_ok-answer-in-Gives-clause-value
returns-in_ok-answer-in-Gives-clause-value c =
    let l = layout_at c.args.given.now in
    c.in_ok-answer-in-Gives.ensures.value
    ∙ sym (used_gives l c.args.operand.now (λ v. operands.unary_answer l c.args.operator c.args.at v) c.in-Gives.typed (sym c.in-Gives.is ∙ c.in_ok-part.ensures))
