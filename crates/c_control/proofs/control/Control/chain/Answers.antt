use Rattle.std.proofs.Common.{◌≡◌, ap, sym, ◌∙◌, rules, arith}
use Rattle.c_tree.specs.Places.{Place, enter, leave}
use Rattle.c_tree.specs.SpellsText.{kinds_of}
use Rattle.c_grammar.specs.ReadExpressions.{Outcome, Gives, and_then}
use Rattle.c_grammar.specs.Readers.{read}
use Rattle.c_grammar.specs.ReadStatements.{statement, chain, chained}
use Rattle.c_control.specs.Chains.{branch}
use Rattle.c_cursor.proofs.Faults.{refused, refuses}
use Rattle.c_control.proofs.ChainSteps.{chain_begins, chain_ends, chain_fails, chain_last, chain_else_read, chain_goes_on}
use Rattle.c_control.proofs.control.Control.chain.Goals as goal

pub loop-turn-init : goal.loop-turn-init
loop-turn-init g c =
    let kinds = kinds_of c.args.self.now.inside.tokens.now in
    (chain_begins kinds (read kinds c.args.self.now.inside.steps) (statement kinds c.args.self.now.inside.depth) c.args.self.now.inside.steps _ _ _ (omega arith) (search rules), omega arith)

pub loop-turn-preserved : goal.loop-turn-preserved
loop-turn-preserved g c =
    let kinds = kinds_of c.args.self.now.inside.tokens.now in (
      chain_goes_on kinds (read kinds c.args.self.now.inside.steps) (statement kinds c.args.self.now.inside.depth) c.args.self.now.inside.steps c.loop-turn._turn _ _ _ _ _ _ _
          c.loop-turn.invariant.0 (omega arith) c.in_ok-branch.ensures (search rules) (search rules) (search rules) (search rules),
      search rules,
    )

pub returns-in_err-branch : goal.returns-in_err-branch
returns-in_err-branch g c =
    let kinds = kinds_of c.args.self.now.inside.tokens.now in
    let rd = read kinds c.args.self.now.inside.steps in
    let st = statement kinds c.args.self.now.inside.depth in
    refused (branch kinds rd st c.loop-turn.place) (and_then (chain kinds rd st c.args.self.now.inside.steps c.args.place.now) chained) _ c.from_residual.result _ _ (search rules)
    (λ h. chain_fails kinds rd st c.args.self.now.inside.steps c.loop-turn._turn _ _ _ c.loop-turn.invariant.0 (omega arith) h) c.in_err-branch.ensures

ended : {A : Type 0} (o : Outcome A) (x : A) (p q : Place) → o ≡ Gives x p → q ≡ p → o ≡ Gives x q
ended o x p q e h = e ∙ ap (Gives x) (sym h)

pub returns-in_default : goal.returns-in_default
returns-in_default g c =
    let kinds = kinds_of c.args.self.now.inside.tokens.now in
    let rd = read kinds c.args.self.now.inside.steps in
    let st = statement kinds c.args.self.now.inside.depth in
    ended _ _ _ _
    (chain_last kinds rd st c.args.self.now.inside.steps c.loop-turn._turn c.len.result c.loop-turn.place c.branch-self.new.place
    (chain kinds rd st c.args.self.now.inside.steps c.args.place.now) c.loop-turn.branches c.push.new.self c.in_ok-branch.branch
    c.loop-turn.invariant.0 (omega arith) c.in_ok-branch.ensures (λ h. c.in_default.not-Else (c.mark_at.ensures.value ∙ h)) c.in_ok-push.ensures.ok
    (search rules))
    c.leave_branches.ensures

pub returns-in_default-mark_at : goal.returns-in_default-mark_at
returns-in_default-mark_at g c =
    let kinds = kinds_of c.args.self.now.inside.tokens.now in
    let rd = read kinds c.args.self.now.inside.steps in
    let st = statement kinds c.args.self.now.inside.depth in
    chain_else_read kinds rd st c.args.self.now.inside.steps c.loop-turn._turn c.loop-turn.place c.branch-self.new.place c.enter.new.self c.last_else.new.place
    (chain kinds rd st c.args.self.now.inside.steps c.args.place.now) c.loop-turn.branches c.push.new.self c.in_ok-branch.branch c.last_else.result
    c.loop-turn.invariant.0 (omega arith) c.in_ok-branch.ensures (sym c.in-Else.ensures.value)
    (c.in_ok-enter.ensures ∙ ap enter (c.leave.ensures.left ∙ ap leave c.skip.ensures))
    (λ h. c.in_default-mark_at.not-If (c.mark_at-in-loop-turn.ensures.value ∙ h)) c.in_ok-push.ensures.ok c.last_else.ensures

pub returns : goal.returns
returns g c =
    let kinds = kinds_of c.args.self.now.inside.tokens.now in
    let rd = read kinds c.args.self.now.inside.steps in
    let st = statement kinds c.args.self.now.inside.depth in
    refuses _ _ _ _ c.refuse.ensures
    (chain_ends kinds rd st c.args.self.now.inside.steps c.loop-turn._turn c.loop-turn.place (chain kinds rd st c.args.self.now.inside.steps c.args.place.now)
    c.loop-turn.branches c.loop-turn.invariant.0 (omega arith))
