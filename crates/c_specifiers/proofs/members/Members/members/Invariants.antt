use Rattle.std.proofs.Common.{◌≡◌, ◌-◌}
use Rattle.c_tree.specs.SpellsText.{kinds_of}
use Rattle.c_grammar.specs.ReadTypes.{separated}
use Rattle.c_specifiers.specs.Members.{member_at, members_at}
use Rattle.c_cursor.proofs.Lists.{after}
use Rattle.c_specifiers.proofs.members.Members.members.Given as goal

abbrev pub invariant-loop-turn : goal.invariant-loop-turn
invariant-loop-turn g l =
    let kinds = kinds_of l.self.tokens.now in
    let n = l.self.depth in
    members_at kinds n l.fn.place ≡ after l.found (separated kinds (member_at kinds n) (n - l._turn) l.place)
