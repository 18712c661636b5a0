use Rattle.std.proofs.Common.{◌≡◌, ◌-◌}
use Rattle.c_tree.specs.SpellsText.{kinds_of}
use Rattle.c_grammar.specs.Marks.{mark_at}
use Rattle.c_grammar.specs.Readers.{declarator}
use Rattle.c_grammar.specs.ReadTypes.{separated, separated_after}
use Rattle.c_grammar.specs.ReadStatements.{initialiser, declared}
use Rattle.c_cursor.proofs.Lists.{after}
use Rattle.c_declarations.proofs.Commas.{further_at}
use Rattle.c_declarations.proofs.declarations.Declarations.further_names.Given as goal

abbrev pub invariant-loop-turn : goal.invariant-loop-turn
invariant-loop-turn g l =
    let kinds = kinds_of l.self.tokens.now in
    let one = declared kinds (declarator kinds l.self.depth) (initialiser kinds l.self.depth) l.defines in
    separated_after (separated kinds one l.count) l.fn.first l.fn.place (mark_at kinds l.fn.place) ≡ after l.found (further_at kinds one (l.count - l._turn) l.place)
