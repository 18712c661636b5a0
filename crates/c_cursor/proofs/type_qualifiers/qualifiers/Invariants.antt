use Rattle.std.proofs.Common.{◌≡◌, ◌-◌}
use Rattle.c_tree.specs.SpellsText.{kinds_of}
use Rattle.c_grammar.specs.ReadTypes.{qualifiers}
use Rattle.c_cursor.proofs.Lists.{after}
use Rattle.c_cursor.proofs.type_qualifiers.qualifiers.Given as goal

abbrev pub invariant-loop-turn : goal.invariant-loop-turn
invariant-loop-turn l =
    let kinds = kinds_of l.tokens in
    qualifiers kinds l.limit l.fn.place ≡ after l.found (qualifiers kinds (l.limit - l._turn) l.place)
