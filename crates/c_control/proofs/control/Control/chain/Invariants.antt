use Rattle.std.proofs.Common.{◌≡◌, ◌-◌, ◌<◌, length}
use Rattle.c_tree.specs.SpellsText.{kinds_of}
use Rattle.c_grammar.specs.Readers.{read}
use Rattle.c_grammar.specs.ReadStatements.{statement, chain}
use Rattle.c_control.proofs.ChainSteps.{resumed}
use Rattle.c_control.proofs.control.Control.chain.Given as goal

abbrev pub invariant-loop-turn : goal.invariant-loop-turn
invariant-loop-turn g l =
    let kinds = kinds_of l.self.inside.tokens.now in
    let rd = read kinds l.self.inside.steps in
    let st = statement kinds l.self.inside.depth in
    (chain kinds rd st l.self.inside.steps l.fn.place ≡ resumed (length l.branches) l.branches (chain kinds rd st (l.self.inside.steps - l._turn) l.place))
    × (l.place.at < 18446744073709551615)
