use Rattle.std.proofs.Common.{◌≡◌, ◌-◌, false}
use Rattle.c_tree.specs.SpellsText.{kinds_of}
use Rattle.c_specifiers.specs.Specifiers.{further_at}
use Rattle.c_specifiers.proofs.SpecifierSteps.{specified_after}
use Rattle.c_specifiers.proofs.specifiers.Specifiers.further.Given as goal

abbrev pub invariant-loop-turn : goal.invariant-loop-turn
invariant-loop-turn g l =
    let kinds = kinds_of l.self.tokens.now in
    let d = l.self.depth in
    further_at kinds d l.limit false l.fn.place ≡ specified_after l.list l.defines (further_at kinds d (l.limit - l.turn) l.typed l.place)
