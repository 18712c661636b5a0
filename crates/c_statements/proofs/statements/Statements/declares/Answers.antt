use Rattle.std.proofs.Common.{sym, ◌∙◌}
use Rattle.c_tree.specs.Places.{next}
use Rattle.c_tree.specs.SpellsText.{kinds_of}
use Rattle.c_grammar.specs.Marks.{mark_at}
use Rattle.c_statements.proofs.Blocks.{declares_unnamed, declares_unlabelled, declares_labelled}
use Rattle.c_statements.proofs.statements.Statements.declares.Goals as goal

pub returns-in_default : goal.returns-in_default
returns-in_default g c =
    let kinds = kinds_of c.args.self.now.inside.tokens.now in
    let p = c.args.place.now in
    c.begins_type.ensures
    ∙ sym (declares_unnamed kinds p (mark_at kinds p) (mark_at kinds (next p)) (λ h. c.in_default.not-Name (c.mark_at.ensures.value ∙ h)))

pub returns-in_default-second_mark : goal.returns-in_default-second_mark
returns-in_default-second_mark g c =
    let kinds = kinds_of c.args.self.now.inside.tokens.now in
    let p = c.args.place.now in
    c.begins_type-in_default-second_mark.ensures
    ∙ sym (declares_unlabelled kinds p (mark_at kinds p) (mark_at kinds (next p)) (λ h. c.in_default-second_mark.not-Colon (c.second_mark.ensures.value ∙ h)))

pub returns-in-Colon : goal.returns-in-Colon
returns-in-Colon g c =
    let kinds = kinds_of c.args.self.now.inside.tokens.now in
    let p = c.args.place.now in
    sym (declares_labelled kinds p (mark_at kinds p) (mark_at kinds (next p)) (sym c.in-Name.ensures.value) (sym c.in-Colon.ensures.value))
