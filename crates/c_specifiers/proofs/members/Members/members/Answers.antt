use Rattle.std.proofs.Common.{◌≡◌, ◌∙◌, sym, arith, rules}
use Rattle.c_tree.specs.SpellsText.{kinds_of}
use Rattle.c_grammar.specs.ReadExpressions.{Refuses}
use Rattle.c_specifiers.specs.Members.{member_at, members_at}
use Rattle.c_cursor.proofs.Listed.{separated_refused, separated_none, separated_last, separated_next}
use Rattle.c_specifiers.proofs.members.Members.members.Goals as goal

pub returns-in_err-member : goal.returns-in_err-member
returns-in_err-member g c =
    let kinds = kinds_of c.args.self.now.tokens.now in
    let n = c.args.self.now.depth in
    let refuses : member_at kinds n c.loop-turn.place ≡ Refuses → members_at kinds n c.args.place.now ≡ Refuses =
    λ h. c.loop-turn.invariant ∙ separated_refused kinds (member_at kinds n) n c.loop-turn._turn _ _ (omega arith) h in
    first_of (search (rules, refuses), grind (arith, refuses))

pub returns-in_default : goal.returns-in_default
returns-in_default g c =
    let kinds = kinds_of c.args.self.now.tokens.now in
    let n = c.args.self.now.depth in
    separated_last kinds (member_at kinds n) n c.loop-turn._turn _ _ _ _ _ _ c.loop-turn.invariant (omega arith) c.in_ok-member.ensures (search rules)
    (λ e. c.in_default.not-Comma (c.mark_at.ensures.value ∙ e))

pub loop-turn-preserved : goal.loop-turn-preserved
loop-turn-preserved g c =
    let kinds = kinds_of c.args.self.now.tokens.now in
    let n = c.args.self.now.depth in
    separated_next kinds (member_at kinds n) n c.loop-turn._turn _ _ _ _ _ _ _ c.loop-turn.invariant (omega arith) c.in_ok-member.ensures (search rules)
    (sym c.in-Comma.ensures.value) c.skip.ensures

pub returns : goal.returns
returns g c =
    let kinds = kinds_of c.args.self.now.tokens.now in
    let n = c.args.self.now.depth in
    rw c.refuse.ensures (c.loop-turn.invariant ∙ separated_none kinds (member_at kinds n) n c.loop-turn._turn _ _ (omega arith))
