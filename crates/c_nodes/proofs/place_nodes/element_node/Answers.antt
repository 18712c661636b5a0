use Rattle.std.proofs.Common.{◌∙◌, sym}
use Rattle.c_kinds.specs.Elements as elements
use Rattle.c_operators.specs.Told.{layout_at}
use Rattle.c_nodes.proofs.Parts.{used_gives}
use Rattle.c_nodes.proofs.place_nodes.element_node.Goals as goal

pub returns-in_ok-answer-in-Gives : goal.returns-in_ok-answer-in-Gives
returns-in_ok-answer-in-Gives c =
    let l = layout_at c.args.given.now in
    c.in_ok-answer-in-Gives.ensures
    ∙ sym (used_gives l c.args.index.now (λ i. elements.subscript_answer l c.args.at c.args.a.now i) c.in-Gives.typed (sym c.in-Gives.is ∙ c.in_ok-part.ensures))
