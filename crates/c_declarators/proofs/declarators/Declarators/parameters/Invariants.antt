use Rattle.std.proofs.Common.{◌≡◌, ◌-◌}
use Rattle.c_tree.specs.SpellsText.{kinds_of}
use Rattle.c_declarators.specs.Declarators.{parameters_at}
use Rattle.c_declarators.proofs.ParameterSteps.{taken_after, further_parameters}
use Rattle.c_declarators.proofs.declarators.Declarators.parameters.Given as goal

abbrev pub invariant-loop-turn : goal.invariant-loop-turn
invariant-loop-turn g l =
    let kinds = kinds_of l.self.tokens.now in
    let n = l.self.depth in
    parameters_at kinds n l.fn.place ≡ taken_after l.list (further_parameters kinds n (n - l._turn) l.place)
