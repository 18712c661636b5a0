use Rattle.std.proofs.Common.{◌∙◌, sym, ap}
use Rattle.c_tree.specs.SpellsText.{kinds_of}
use Rattle.c_grammar.specs.ReadExpressions.{Gives}
use Rattle.c_specifiers.proofs.SpecifierSteps.{enum_tag_alone}
use Rattle.c_specifiers.proofs.specifiers.Specifiers.enum_tagged.Goals as goal

pub returns-in_default : goal.returns-in_default
returns-in_default g c =
    let kinds = kinds_of c.args.self.now.tokens.now in
    enum_tag_alone kinds c.args.self.now.depth c.args.at c.args.tag c.args.place.now (λ e. c.in_default.not-CurlyOpens (c.mark_at.ensures.value ∙ e))
    ∙ ap (λ s. Gives s c.args.place.now) (sym c.types.ensures)
