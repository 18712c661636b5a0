use Rattle.std.proofs.Common.{◌≡◌}
use Rattle.c_tree.specs.SpellsText.{kinds_of}
use Rattle.c_grammar.specs.ReadTypes.{attributes}
use Rattle.c_cursor.proofs.skips.attributes.Given as goal

abbrev pub invariant-loop-left : goal.invariant-loop-left
invariant-loop-left l =
    let kinds = kinds_of l.tokens in
    attributes kinds l.limit l.fn.place ≡ attributes kinds l.left l.place

abbrev pub decreases-loop-left : goal.decreases-loop-left
decreases-loop-left l = l.left
