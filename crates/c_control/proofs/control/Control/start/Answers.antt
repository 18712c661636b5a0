use Rattle.std.proofs.Common.{◌∙◌}
use Rattle.c_tree.specs.SpellsText.{kinds_of}
use Rattle.c_grammar.specs.Marks.{mark_at}
use Rattle.c_grammar.specs.Readers.{read}
use Rattle.c_grammar.specs.ReadStatements.{declaration}
use Rattle.c_control.proofs.Starts.{start_other}
use Rattle.c_control.proofs.control.Control.start.Goals as goal

pub returns : goal.returns
returns g c =
    let kinds = kinds_of c.args.self.now.inside.tokens.now in
    rw (start_other kinds (read kinds c.args.self.now.inside.steps) (declaration kinds c.args.self.now.inside.depth) c.args.place.now (mark_at kinds c.args.place.now)
    (λ h. c.in_default.not-Semicolon (c.mark_at.ensures.value ∙ h))) c.start_else.ensures
