use Rattle.std.proofs.Common.{◌≡◌, ◌-◌}
use Rattle.c_tree.specs.SpellsText.{kinds_of}
use Rattle.c_cursor.specs.Parts.{lines_at}
use Rattle.c_cursor.proofs.Lists.{after}
use Rattle.c_specifiers.proofs.Lines.{further_lines}
use Rattle.c_specifiers.proofs.members.Members.lines.Given as goal

abbrev pub invariant-loop-turn : goal.invariant-loop-turn
invariant-loop-turn g l =
    let kinds = kinds_of l.self.tokens.now in
    let n = l.self.depth in
    lines_at kinds n l.fn.place ≡ after l.found (further_lines kinds n (n - l._turn) l.place)
