use Rattle.std.proofs.Common.{sym, ◌∙◌}
use Rattle.c_tree.specs.SpellsText.{kinds_of}
use Rattle.c_grammar.specs.Marks.{mark_at}
use Rattle.c_cursor.specs.Reads.{titled_of}
use Rattle.c_declarations.proofs.DeclarationEnds.{declared_equals, declared_other}
use Rattle.c_declarations.proofs.declarations.Declarations.declared_after.Goals as goal

pub returns-in-Equals : goal.returns-in-Equals
returns-in-Equals g c =
    let kinds = kinds_of c.args.self.now.tokens.now in
    rw (declared_equals kinds c.args.self.now.depth c.args.defines (titled_of c.args.titled) c.args.place.now (mark_at kinds c.args.place.now) (sym c.in-Equals.ensures.value)) c.initialised.ensures

pub returns-in_default : goal.returns-in_default
returns-in_default g c =
    let kinds = kinds_of c.args.self.now.tokens.now in
    rw (declared_other kinds c.args.self.now.depth c.args.defines (titled_of c.args.titled) c.args.place.now (mark_at kinds c.args.place.now)
    (λ h. c.in_default.not-Equals (c.mark_at.ensures.value ∙ h))) c.plain.ensures
