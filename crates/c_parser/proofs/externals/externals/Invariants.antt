use Rattle.std.proofs.Common.{◌≡◌, ◌-◌}
use Rattle.c_tree.specs.SpellsText.{kinds_of}
use Rattle.c_grammar.specs.ReadText.{externals}
use Rattle.c_cursor.proofs.Lists.{after}
use Rattle.c_parser.proofs.externals.externals.Given as goal

abbrev pub invariant-loop-turn : goal.invariant-loop-turn
invariant-loop-turn l =
    let kinds = kinds_of l.tokens in
    externals kinds l.depth l.count l.fn.place ≡ after l.found (externals kinds l.depth (l.count - l._turn) l.place)
