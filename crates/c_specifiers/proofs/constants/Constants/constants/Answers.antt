use Rattle.std.proofs.Common.{◌≡◌, ◌∙◌, sym, arith, rules}
use Rattle.c_tree.specs.SpellsText.{kinds_of}
use Rattle.c_grammar.specs.ReadExpressions.{Refuses}
use Rattle.c_specifiers.specs.Members.{constant_at}
use Rattle.c_cursor.specs.Parts.{constants_at}
use Rattle.c_cursor.proofs.Listed.{listed_refused, listed_none, listed_last, listed_comma_last, listed_next}
use Rattle.c_specifiers.proofs.constants.Constants.constants.Goals as goal

pub returns-in_err-constant : goal.returns-in_err-constant
returns-in_err-constant g c =
    let kinds = kinds_of c.args.self.now.tokens.now in
    let n = c.args.self.now.depth in
    let refuses : constant_at kinds n c.loop-turn.place ≡ Refuses → constants_at kinds n c.args.place.now ≡ Refuses =
    λ h. c.loop-turn.invariant ∙ listed_refused kinds (constant_at kinds n) n c.loop-turn._turn _ _ (omega arith) h in
    first_of (search (rules, refuses), grind (arith, refuses))

pub returns-in_default : goal.returns-in_default
returns-in_default g c =
    let kinds = kinds_of c.args.self.now.tokens.now in
    let n = c.args.self.now.depth in
    listed_last kinds (constant_at kinds n) n c.loop-turn._turn _ _ _ _ _ _ c.loop-turn.invariant (omega arith) c.in_ok-constant.ensures (search rules)
    (λ e. c.in_default.not-Comma (c.mark_at.ensures.value ∙ e))

pub returns-in-CurlyCloses : goal.returns-in-CurlyCloses
returns-in-CurlyCloses g c =
    let kinds = kinds_of c.args.self.now.tokens.now in
    let n = c.args.self.now.depth in
    listed_comma_last kinds (constant_at kinds n) n c.loop-turn._turn _ _ _ _ _ _ _ c.loop-turn.invariant (omega arith) c.in_ok-constant.ensures (search rules)
    (sym c.in-Comma.ensures.value) c.skip.ensures (sym c.in-CurlyCloses.ensures.value)

pub loop-turn-preserved : goal.loop-turn-preserved
loop-turn-preserved g c =
    let kinds = kinds_of c.args.self.now.tokens.now in
    let n = c.args.self.now.depth in
    listed_next kinds (constant_at kinds n) n c.loop-turn._turn _ _ _ _ _ _ _ c.loop-turn.invariant (omega arith) c.in_ok-constant.ensures (search rules)
    (sym c.in-Comma.ensures.value) c.skip.ensures (λ e. c.in_default-mark_at.not-CurlyCloses (c.mark_at-in-loop-turn.ensures.value ∙ e))

pub returns : goal.returns
returns g c =
    let kinds = kinds_of c.args.self.now.tokens.now in
    let n = c.args.self.now.depth in
    rw c.refuse.ensures (c.loop-turn.invariant ∙ listed_none kinds (constant_at kinds n) n c.loop-turn._turn _ _ (omega arith))
