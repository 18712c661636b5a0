use Rattle.std.proofs.Common.{◌≡◌, ◌∙◌, sym, arith, rules}
use Rattle.c_tree.specs.SpellsText.{kinds_of}
use Rattle.c_grammar.specs.ReadExpressions.{Refuses}
use Rattle.c_specifiers.specs.Members.{member_line}
use Rattle.c_cursor.specs.Parts.{lines_at}
use Rattle.c_specifiers.proofs.Lines.{lines_end, lines_refused, lines_next, lines_none}
use Rattle.c_specifiers.proofs.members.Members.lines.Goals as goal

pub returns-in-CurlyCloses : goal.returns-in-CurlyCloses
returns-in-CurlyCloses g c =
    let kinds = kinds_of c.args.self.now.tokens.now in
    let n = c.args.self.now.depth in
    lines_end kinds n n c.loop-turn._turn _ _ _ c.loop-turn.invariant (omega arith) (sym c.in-CurlyCloses.ensures.value)

pub returns-in_err-line : goal.returns-in_err-line
returns-in_err-line g c =
    let kinds = kinds_of c.args.self.now.tokens.now in
    let n = c.args.self.now.depth in
    let refuses : member_line kinds n c.loop-turn.place ≡ Refuses → lines_at kinds n c.args.place.now ≡ Refuses =
    λ h. c.loop-turn.invariant ∙ lines_refused kinds n n c.loop-turn._turn _ _ (omega arith) (λ e. c.in_default.not-CurlyCloses (c.mark_at.ensures.value ∙ e)) h in
    first_of (search (rules, refuses), grind (arith, refuses))

pub loop-turn-preserved : goal.loop-turn-preserved
loop-turn-preserved g c =
    let kinds = kinds_of c.args.self.now.tokens.now in
    let n = c.args.self.now.depth in
    lines_next kinds n n c.loop-turn._turn _ _ _ _ _ _ c.loop-turn.invariant (omega arith) (λ e. c.in_default.not-CurlyCloses (c.mark_at.ensures.value ∙ e)) c.in_ok-line.ensures (search rules)

pub returns : goal.returns
returns g c =
    let kinds = kinds_of c.args.self.now.tokens.now in
    let n = c.args.self.now.depth in
    rw c.refuse.ensures (c.loop-turn.invariant ∙ lines_none kinds n n c.loop-turn._turn _ _ (omega arith))
