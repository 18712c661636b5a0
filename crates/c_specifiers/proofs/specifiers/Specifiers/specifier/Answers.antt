use Rattle.std.proofs.Common.{◌∙◌, sym, ap}
use Rattle.c_tree.specs.SpellsText.{kinds_of}
use Rattle.c_specifiers.specs.Specifiers.{specific_of, word_specifier}
use Rattle.c_specifiers.proofs.SpecifierSteps.{reads_as_along, specifier_word}
use Rattle.c_specifiers.proofs.specifiers.Specifiers.specifier.Goals as goal

pub returns-in_default : goal.returns-in_default
returns-in_default g c =
    let kinds = kinds_of c.args.self.now.tokens.now in
    reads_as_along specific_of _ _ _ _
    (specifier_word kinds c.args.self.now.depth c.args.typed c.args.place.now (λ e. c.in_default.not-Structs (c.mark_at.ensures.value ∙ e)) (λ e. c.in_default.not-Enums (c.mark_at.ensures.value ∙ e))
    (λ e. c.in_default.not-Name (c.mark_at.ensures.value ∙ e))
    ∙ ap (λ m. word_specifier m c.args.place.now) (sym c.mark_at.ensures.value)) c.single_word.ensures
