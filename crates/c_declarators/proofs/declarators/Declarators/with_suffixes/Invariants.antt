use Rattle.std.proofs.Common.{◌≡◌, ◌-◌}
use Rattle.c_tree.specs.SpellsText.{kinds_of}
use Rattle.c_declarators.specs.Declarators.{suffixes_at}
use Rattle.c_cursor.specs.Reads.{titled_of}
use Rattle.c_declarators.proofs.DeclaratorSteps.{further_suffixes}
use Rattle.c_declarators.proofs.declarators.Declarators.with_suffixes.Given as goal

abbrev pub invariant-loop-turn : goal.invariant-loop-turn
invariant-loop-turn g l =
    let kinds = kinds_of l.self.tokens.now in
    let n = l.self.depth in
    suffixes_at kinds n (titled_of l.fn.titled) l.fn.place ≡ further_suffixes kinds n (n - l._turn) (titled_of l.whole) l.place
