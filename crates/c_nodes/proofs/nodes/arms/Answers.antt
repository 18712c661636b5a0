use Rattle.std.proofs.Common.{◌∙◌, sym}
use Rattle.c_kinds.specs.Casts as casts
use Rattle.c_kinds.specs.Values as values
use Rattle.c_operators.specs.Told.{layout_at}
use Rattle.c_nodes.proofs.Parts.{used_gives}
use Rattle.c_nodes.proofs.nodes.arms.Goals as goal

pub returns-in_ok-answer-in-Gives : goal.returns-in_ok-answer-in-Gives
returns-in_ok-answer-in-Gives c =
    let l = layout_at c.args.given.now in
    c.in_ok-answer-in-Gives.ensures
    ∙ sym (used_gives l c.args.first.now (λ x. values.used l c.args.otherwise.now (λ y. casts.conditional_answer c.args.at c.args.test.now x y)) c.in-Gives.typed (sym c.in-Gives.is ∙ c.in_ok-answer.ensures))
