use Rattle.std.proofs.Common.{◌≡◌, drop}
use Rattle.c_rules.specs.Typing.{sequence_answer}
use Rattle.c_operators.specs.Told.{layout_at}
use Rattle.c_nodes.proofs.arguments.comma_node.Given as goal

-- the parts before this place are values
abbrev pub invariant-loop-i : goal.invariant-loop-i
invariant-loop-i l = sequence_answer (layout_at l.given) (λ x. x) l.at (drop l.i l.parts) ≡ sequence_answer (layout_at l.given) (λ x. x) l.at l.parts
