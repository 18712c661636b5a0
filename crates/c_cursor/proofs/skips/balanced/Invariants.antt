use Rattle.std.proofs.Common.{◌≡◌, ◌-◌, []}
use Rattle.c_tree.specs.SpellsText.{kinds_of}
use Rattle.c_grammar.specs.ReadTypes.{balanced}
use Rattle.c_cursor.proofs.Skipped.{wholes}
use Rattle.c_cursor.proofs.skips.balanced.Given as goal

abbrev pub invariant-loop-turn : goal.invariant-loop-turn
invariant-loop-turn l =
    let kinds = kinds_of l.tokens in
    balanced kinds l.limit [] l.fn.place ≡ balanced kinds (l.limit - l._turn) (wholes l.pending) l.place
