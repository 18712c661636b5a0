-- Arguments of calls, by what is known of each.
use Rattle.std.specs.Prelude.{Bool, ◌&&◌, if◌then◌else◌, List, [], ◌∷◌, map}
use Rattle.c_kinds.specs.declared.answer.Answer.{Answer}
use Rattle.c_kinds.specs.Layouts.{Layout}
use Rattle.c_kinds.specs.Values.{used}
use Rattle.c_tree.specs.declared.expression.Expression.{Expression}
use Rattle.c_rules.specs.Typing.{is_text}
use Rattle.c_nodes.specs.declared.arguments.Argument.{Argument}

-- goes on where the argument has a value, or is a string that is left out
abbrev pub after_argument : Layout → Bool → Argument → Answer → Answer
after_argument l texts a rest = if texts && a.is_text then rest else used l a.answer (λ _. rest)

-- what `with_arguments` of c_rules is for these arguments
abbrev pub after_arguments : Layout → Bool → List Argument → Answer → Answer
after_arguments l texts [] answer = answer
after_arguments l texts (a ∷ more) answer = after_argument l texts a (after_arguments l texts more answer)

-- an argument, by its tree and what it is
abbrev pub argument_of : {E : Type 0} → (E → Answer) → (E → Expression) → E → Argument
argument_of w tree x = record { answer = w x; is_text = is_text (tree x) }

abbrev pub answer_in : Argument → Answer
answer_in a = a.answer

abbrev pub answers_in : List Argument → List Answer
answers_in xs = map answer_in xs
