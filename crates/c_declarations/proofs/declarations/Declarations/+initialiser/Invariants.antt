use Rattle.std.proofs.Common.{◌≡◌, ◌+◌, ◌*◌, ◌-◌}
use Rattle.c_tree.specs.SpellsText.{kinds_of}
use Rattle.c_grammar.specs.ReadTypes.{listed}
use Rattle.c_grammar.specs.ReadStatements.{initialiser}
use Rattle.c_cursor.proofs.Lists.{after}
use Rattle.c_declarations.proofs.declarations.Declarations.+initialiser.Given as goal

abbrev pub decreases-part : goal.decreases-part
decreases-part g l = 4 * l.depth + 1

abbrev pub decreases-initialiser : goal.decreases-initialiser
decreases-initialiser g l = 4 * l.depth

abbrev pub decreases-deeper_initialiser : goal.decreases-deeper_initialiser
decreases-deeper_initialiser g l = 4 * l.depth - 1

abbrev pub decreases-initialisers : goal.decreases-initialisers
decreases-initialisers g l = 4 * l.depth + 2

abbrev pub invariant-initialisers-loop-turn : goal.invariant-initialisers-loop-turn
invariant-initialisers-loop-turn g l =
    listed (kinds_of l.self.tokens.now) (initialiser (kinds_of l.self.tokens.now) l.depth) l.depth l.fn.place
    ≡ after l.found (listed (kinds_of l.self.tokens.now) (initialiser (kinds_of l.self.tokens.now) l.depth) (l.depth - l._turn) l.place)
