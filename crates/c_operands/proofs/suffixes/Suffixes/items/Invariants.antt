use Rattle.std.proofs.Common.{◌≡◌, ◌-◌}
use Rattle.c_tree.specs.SpellsText.{kinds_of}
use Rattle.c_grammar.specs.ReadExpressions.{items}
use Rattle.c_grammar.specs.Readers.{read}
use Rattle.c_cursor.proofs.Lists.{after}
use Rattle.c_operands.proofs.suffixes.Suffixes.items.Given as goal

abbrev pub invariant-loop-turn : goal.invariant-loop-turn
invariant-loop-turn g l =
    let kinds = kinds_of l.self.tokens.now in
    items kinds (read kinds l.depth) l.depth l.fn.place ≡ after l.found (items kinds (read kinds l.depth) (l.depth - l._turn) l.place)
