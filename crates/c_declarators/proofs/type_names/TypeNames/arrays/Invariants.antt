use Rattle.std.proofs.Common.{◌≡◌, ◌-◌}
use Rattle.c_tree.specs.SpellsText.{kinds_of}
use Rattle.c_grammar.specs.ReadTypes.{arrays}
use Rattle.c_grammar.specs.Readers.{read}
use Rattle.c_declarators.proofs.type_names.TypeNames.arrays.Given as goal

abbrev pub invariant-loop-turn : goal.invariant-loop-turn
invariant-loop-turn g l =
    let kinds = kinds_of l.self.tokens.now in
    let rd = read kinds l.self.depth in
    arrays kinds rd l.limit l.fn.inner l.fn.place ≡ arrays kinds rd (l.limit - l._turn) l.whole l.place
