-- Arguments and parts that are listed say what their trees say.
use Rattle.std.proofs.Common.{◌≡◌, ℕ, Bool, ◌&&◌, List, [], ◌∷◌, map, if◌then◌else◌, refl, ap}
use Rattle.c_tree.specs.declared.expression.Expression.{Expression}
use Rattle.c_kinds.specs.declared.answer.Answer.{Answer}
use Rattle.c_kinds.specs.Layouts.{Layout}
use Rattle.c_kinds.specs.Values.{used}
use Rattle.c_rules.specs.Typing.{is_text, sequence_answer, with_arguments}
use Rattle.c_nodes.specs.Arguments.{after_arguments, answers_in, argument_of}

pub arguments_listed : (l : Layout) (w : Expression → Answer) (texts : Bool) (xs : List Expression) (answer : Answer)
    → with_arguments l w (λ x. x) texts xs answer ≡ after_arguments l texts (map (argument_of w (λ x. x)) xs) answer
arguments_listed l w texts [] answer = refl
arguments_listed l w texts (x ∷ xs) answer = ap (λ rest. if texts && is_text x then rest else used l (w x) (λ _. rest)) (arguments_listed l w texts xs answer)

pub answers_listed : (w : Expression → Answer) (xs : List Expression) → answers_in (map (argument_of w (λ x. x)) xs) ≡ map w xs
answers_listed w [] = refl
answers_listed w (x ∷ xs) = ap (λ rest. w x ∷ rest) (answers_listed w xs)

pub sequences_listed : (l : Layout) (w : Expression → Answer) (at : ℕ) (xs : List Expression) → sequence_answer l w at xs ≡ sequence_answer l (λ x. x) at (map w xs)
sequences_listed l w at [] = refl
sequences_listed l w at (x ∷ []) = refl
sequences_listed l w at (x ∷ (y ∷ rest)) = ap (λ r. used l (w x) (λ _. r)) (sequences_listed l w at (y ∷ rest))
