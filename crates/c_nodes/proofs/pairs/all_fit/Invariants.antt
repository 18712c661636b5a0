use Rattle.std.proofs.Common.{◌≡◌, drop}
use Rattle.c_rules.specs.Calls.{all_fit}
use Rattle.c_nodes.specs.Arguments.{answers_in}
use Rattle.c_operators.specs.Told.{layout_at}
use Rattle.c_nodes.proofs.pairs.all_fit.Given as goal

-- the arguments before this place fit
abbrev pub invariant-loop-i : goal.invariant-loop-i
invariant-loop-i l =
    all_fit (layout_at l.given) (drop l.i l.parameters) l.is_variadic (answers_in (drop l.i l.arguments))
    ≡ all_fit (layout_at l.given) l.parameters l.is_variadic (answers_in l.arguments)
