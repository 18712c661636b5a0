use Rattle.std.proofs.Common.{◌≡◌, drop}
use Rattle.c_kinds.specs.declared.answer.Answer.{Answer}
use Rattle.c_nodes.specs.Arguments.{after_arguments}
use Rattle.c_operators.specs.Told.{layout_at}
use Rattle.c_nodes.proofs.arguments.broken_arguments.Given as goal

-- the arguments before this place have values, or are left out
abbrev pub invariant-loop-argument : goal.invariant-loop-argument
invariant-loop-argument l =
    (rest : Answer) → after_arguments (layout_at l.given) l.texts (drop l.argument-index l.arguments) rest ≡ after_arguments (layout_at l.given) l.texts l.arguments rest
