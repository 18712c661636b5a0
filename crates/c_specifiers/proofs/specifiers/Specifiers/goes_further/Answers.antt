use Rattle.std.proofs.Common.{◌≡◌, true, ◌∙◌, sym, rules}
use Rattle.c_tree.specs.SpellsText.{kinds_of}
use Rattle.c_specifiers.proofs.SpecifierSteps.{goes_other}
use Rattle.c_specifiers.proofs.specifiers.Specifiers.goes_further.Goals as goal

pub returns-in_default : goal.returns-in_default
returns-in_default g c =
    let kinds = kinds_of c.args.self.now.tokens.now in
    let known : c.args.typed ≡ true = search rules in
    c.begins_type-in_default.ensures ∙ sym (goes_other kinds c.args.typed c.args.place.now known (λ e. c.in_default.not-Name (c.mark_at.ensures.value ∙ e)))
