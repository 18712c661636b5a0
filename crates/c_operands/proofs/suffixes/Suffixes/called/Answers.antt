use Rattle.std.proofs.Common.{rules, ap, ◌∙◌}
use Rattle.c_tree.specs.Places.{next}
use Rattle.c_tree.specs.SpellsText.{kinds_of}
use Rattle.c_grammar.specs.Marks.{mark_at}
use Rattle.c_grammar.specs.ReadExpressions.{items}
use Rattle.c_grammar.specs.Readers.{read}
use Rattle.c_cursor.specs.Bare.{bare_at}
use Rattle.c_operands.proofs.Suffixed.{call_items, arguments_as}
use Rattle.c_operands.proofs.suffixes.Suffixes.called.Goals as goal

pub returns-in_default : goal.returns-in_default
returns-in_default g c =
    let kinds = kinds_of c.args.self.now.tokens.now in
    let p = c.args.place.now in
    rw (call_items kinds (items kinds (read kinds c.args.depth) c.args.depth) c.args.function p (mark_at kinds (next p))
    (λ h. c.in_default.not-RoundCloses (c.mark_at.ensures.value ∙ (ap (bare_at kinds) c.skip.ensures ∙ h))))
    (arguments_as kinds c.args.depth c.in_ok-function.function c.args.function c.at-at.result p.at c.skip.new.self (next p) c.with_arguments.result c.with_arguments.new.place
    (search rules) (search rules) c.skip.ensures c.with_arguments.ensures)
