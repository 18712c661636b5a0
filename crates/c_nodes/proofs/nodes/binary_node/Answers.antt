use Rattle.std.proofs.Common.{◌∙◌, sym}
use Rattle.c_kinds.specs.Operands as operands
use Rattle.c_kinds.specs.Values as values
use Rattle.c_operators.specs.Told.{layout_at}
use Rattle.c_nodes.proofs.Parts.{used_gives}
use Rattle.c_nodes.proofs.nodes.binary_node.Goals as goal

pub returns-in_ok-answer-in-Gives : goal.returns-in_ok-answer-in-Gives
returns-in_ok-answer-in-Gives c =
    let l = layout_at c.args.given.now in
    c.in_ok-answer-in-Gives.ensures
    ∙ sym (used_gives l c.args.left.now (λ x. values.used l c.args.right.now (λ y. operands.binary_answer l c.args.operator c.args.at x y)) c.in-Gives.typed (sym c.in-Gives.is ∙ c.in_ok-answer.ensures))
