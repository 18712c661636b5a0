use Rattle.std.proofs.Common.{◌∙◌}
use Rattle.c_tree.specs.SpellsText.{kinds_of}
use Rattle.c_declarators.proofs.DeclaratorSteps.{function_some}
use Rattle.c_declarators.proofs.declarators.Declarators.function_suffix.Goals as goal

pub returns-in_default : goal.returns-in_default
returns-in_default g c =
    let kinds = kinds_of c.args.self.now.tokens.now in
    function_some kinds c.args.self.now.depth _ _ _ c.at-at.result c.args.place.now c.skip.new.self _ _ c.at-at.ensures c.skip.ensures
    (λ e. c.in_default.not-RoundCloses (c.mark_at.ensures.value ∙ e)) c.function_parameters.ensures
