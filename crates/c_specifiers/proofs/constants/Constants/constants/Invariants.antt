use Rattle.std.proofs.Common.{◌≡◌, ◌-◌}
use Rattle.c_tree.specs.SpellsText.{kinds_of}
use Rattle.c_grammar.specs.ReadTypes.{listed}
use Rattle.c_specifiers.specs.Members.{constant_at}
use Rattle.c_cursor.specs.Parts.{constants_at}
use Rattle.c_cursor.proofs.Lists.{after}
use Rattle.c_specifiers.proofs.constants.Constants.constants.Given as goal

abbrev pub invariant-loop-turn : goal.invariant-loop-turn
invariant-loop-turn g l =
    let kinds = kinds_of l.self.tokens.now in
    let n = l.self.depth in
    constants_at kinds n l.fn.place ≡ after l.found (listed kinds (constant_at kinds n) (n - l._turn) l.place)
