use Rattle.std.proofs.Common.{◌∙◌}
use Rattle.c_tree.specs.SpellsText.{kinds_of}
use Rattle.c_declarators.proofs.DeclaratorSteps.{perhaps_none}
use Rattle.c_declarators.proofs.declarators.Declarators.declarator.Goals as goal

pub returns-in_default : goal.returns-in_default
returns-in_default g c =
    let kinds = kinds_of c.args.self.now.tokens.now in
    perhaps_none kinds c.args.self.now.depth c.at.result c.args.place.now c.at.ensures (λ e. c.in_default.not-Star (c.mark_at.ensures.value ∙ e)) (λ e. c.in_default.not-Name (c.mark_at.ensures.value ∙ e))
    (λ e. c.in_default.not-RoundOpens (c.mark_at.ensures.value ∙ e))
