use Rattle.std.proofs.Common.{◌≡◌, ◌-◌}
use Rattle.c_tree.specs.SpellsText.{kinds_of}
use Rattle.c_grammar.specs.ReadStatements.{declaration, statement, block}
use Rattle.c_cursor.proofs.Lists.{after}
use Rattle.c_statements.proofs.statements.Statements.items.Given as goal

abbrev pub invariant-loop-turn : goal.invariant-loop-turn
invariant-loop-turn g l =
    let kinds = kinds_of l.self.inside.tokens.now in
    let dn = declaration kinds l.self.inside.depth in
    let st = statement kinds l.self.inside.depth in
    block kinds dn st l.self.inside.steps l.fn.place ≡ after l.found (block kinds dn st (l.self.inside.steps - l._turn) l.place)
