use Rattle.std.proofs.Common.{◌≡◌, ◌-◌, true, false, ◌∙◌, sym, arith, rules}
use Rattle.c_tree.specs.SpellsText.{kinds_of}
use Rattle.c_grammar.specs.ReadExpressions.{Refuses}
use Rattle.c_specifiers.specs.Specifiers.{decorated_specifier, further_at}
use Rattle.c_specifiers.proofs.SpecifierSteps.{further_refused, further_none, further_last, further_next}
use Rattle.c_specifiers.proofs.specifiers.Specifiers.further.Goals as goal

pub returns-in_err-role : goal.returns-in_err-role
returns-in_err-role g c =
    let kinds = kinds_of c.args.self.now.tokens.now in
    let d = c.args.self.now.depth in
    let l = c.args.limit - c.loop-turn.turn - 1 in
    let refuses : decorated_specifier kinds d l c.loop-turn.typed c.loop-turn.place ≡ Refuses → further_at kinds d c.args.limit false c.args.place.now ≡ Refuses =
    λ h. c.loop-turn.invariant ∙ further_refused kinds d c.args.limit c.loop-turn.turn l _ _ _ _ (omega arith) (omega arith) h in
    first_of (search (rules, refuses), grind (arith, refuses))

pub returns-then-not-goes_further : goal.returns-then-not-goes_further
returns-then-not-goes_further g c =
    let kinds = kinds_of c.args.self.now.tokens.now in
    let stops : c.goes_further.result ≡ false = search rules in
    further_last kinds c.args.self.now.depth c.args.limit c.loop-turn.turn (c.args.limit - c.loop-turn.turn - 1) _ _ _ _ _ _ _ _ _ _ _ c.loop-turn.invariant (omega arith) (omega arith) c.in_ok-role.ensures
    c.in_ok-push.ensures.ok
    c.defines_now-defines.ensures
    c.types_now-typed.ensures (sym c.goes_further.ensures ∙ stops)

pub loop-turn-preserved : goal.loop-turn-preserved
loop-turn-preserved g c =
    let kinds = kinds_of c.args.self.now.tokens.now in
    let goes : c.goes_further.result ≡ true = search rules in
    further_next kinds c.args.self.now.depth c.args.limit c.loop-turn.turn (c.args.limit - c.loop-turn.turn - 1) _ _ _ _ _ _ _ _ _ _ _ c.loop-turn.invariant (omega arith) (omega arith) c.in_ok-role.ensures
    c.in_ok-push.ensures.ok
    c.defines_now-defines.ensures
    c.types_now-typed.ensures (sym c.goes_further.ensures ∙ goes)

pub returns : goal.returns
returns g c =
    let kinds = kinds_of c.args.self.now.tokens.now in
    rw c.refuse.ensures (c.loop-turn.invariant ∙ further_none kinds c.args.self.now.depth c.args.limit c.loop-turn.turn _ _ _ _ (omega arith))
