use Rattle.std.proofs.Common.{◌∙◌, sym, arith, rules}
use Rattle.c_tree.specs.SpellsText.{kinds_of}
use Rattle.c_declarators.proofs.ParameterSteps.{parameters_last, parameters_variadic}
use Rattle.c_declarators.proofs.declarators.Declarators.parameters.Goals as goal

pub returns-in_default : goal.returns-in_default
returns-in_default g c =
    let kinds = kinds_of c.args.self.now.tokens.now in
    parameters_last kinds c.args.self.now.depth c.args.self.now.depth c.loop-turn._turn _ _ _ _ _ _ c.loop-turn.invariant (omega arith) c.in_ok-parameter.ensures (search rules)
    (λ e. c.in_default.not-Comma (c.mark_at.ensures.value ∙ e))

pub returns-in-Ellipsis : goal.returns-in-Ellipsis
returns-in-Ellipsis g c =
    let kinds = kinds_of c.args.self.now.tokens.now in
    parameters_variadic kinds c.args.self.now.depth c.args.self.now.depth c.loop-turn._turn _ _ _ _ _ _ _ _ _ c.loop-turn.invariant (omega arith) c.in_ok-parameter.ensures (search rules)
    (sym c.in-Comma.ensures.value) c.skip.ensures (sym c.in-Ellipsis.ensures.value) c.at-at.ensures c.skip-in-Ellipsis.ensures
