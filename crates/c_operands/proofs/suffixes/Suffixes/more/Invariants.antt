use Rattle.std.proofs.Common.{◌≡◌, ◌-◌}
use Rattle.c_tree.specs.SpellsText.{kinds_of}
use Rattle.c_grammar.specs.Readers.{more}
use Rattle.c_operands.proofs.suffixes.Suffixes.more.Given as goal

abbrev pub invariant-loop-turn : goal.invariant-loop-turn
invariant-loop-turn g l =
    let kinds = kinds_of l.self.tokens.now in
    more kinds l.self.depth l.fn.reached l.fn.least l.fn.left l.fn.place ≡ more kinds (l.self.depth - l.turn) l.reached l.least l.left l.place
