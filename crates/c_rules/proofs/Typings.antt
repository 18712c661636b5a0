-- What an expression is, from what its parts are.
use Rattle.std.proofs.Common.{◌≡◌, ℕ, Bool, ◌&&◌, cond, List, [], ◌∷◌, map, refl, ap, ◌∙◌}
use Rattle.c_tree.specs.declared.expression.Declarator.{Declarator}
use Rattle.c_tree.specs.declared.expression.EnumConstant.{EnumConstant}
use Rattle.c_tree.specs.declared.expression.Expression.{Expression, out-Expression}
use Rattle.c_tree.specs.declared.expression.Member.{Member}
use Rattle.c_tree.specs.declared.expression.Specifier.{Specifier}
use Rattle.c_tree.specs.declared.expression.MemberLine.{MemberLine}
use Rattle.c_tree.specs.declared.expression.Parameter.{Parameter}
use Rattle.c_tree.specs.declared.expression.TypeName.{TypeName}
use Rattle.c_tree.specs.declared.expression.Declarator.TheOpen.{Expression-F}
use Rattle.c_tree.specs.declared.expression.Declarator.TheOpen.{Expression-F as e}
use Rattle.c_kinds.specs.declared.answer.Answer.{Answer}
use Rattle.c_kinds.specs.Values.{used}
use Rattle.c_rules.specs.Recursion.{of_expression}
use Rattle.c_rules.specs.Typing.{Given, Answers, layout_of, is_text, with_arguments, sequence_answer, call_answer, expression_answer, typing, answer_of}
use Rattle.c_rules.proofs.Recursion.{expression_beside, expression_is}

abbrev beside : Given → Expression → Expression × Answers
beside g x = (x, of_expression (typing g) x)

module _ (g : Given) (u : Bool) where
  arguments_same : (texts : Bool) (xs : List Expression) (answer : Answer)
      → with_arguments (layout_of g) (λ (x : Expression × Answers). x.1 u) (λ x. x.0) texts (map (beside g) xs) answer
      ≡ with_arguments (layout_of g) (λ x. answer_of g x u) (λ x. x) texts xs answer
  unfolding answer_of
  arguments_same texts [] answer = refl
  arguments_same texts (x ∷ xs) answer =
      ap (λ rest. cond (texts && is_text x) rest (used (layout_of g) (of_expression (typing g) x u) (λ _. rest))) (arguments_same texts xs answer)

  sequence_same : (at : ℕ) (xs : List Expression)
      → sequence_answer (layout_of g) (λ (x : Expression × Answers). x.1 u) at (map (beside g) xs) ≡ sequence_answer (layout_of g) (λ x. answer_of g x u) at xs
  unfolding answer_of
  sequence_same at [] = refl
  sequence_same at (x ∷ []) = refl
  sequence_same at (x ∷ (y ∷ rest)) = ap (λ r. used (layout_of g) (of_expression (typing g) x u) (λ _. r)) (sequence_same at (y ∷ rest))

  node_same : (l : Expression-F Declarator EnumConstant Expression Member Specifier MemberLine Parameter TypeName)
      → expression_answer g (λ x. x.1) (λ x. x.0) (expression_beside (typing g) l) u ≡ expression_answer g (answer_of g) (λ x. x) l u
  unfolding answer_of
  node_same (e.Call function arguments at) =
      ap (λ f. call_answer g u function (of_expression (typing g) function u) f at) (λ i texts answer. arguments_same texts arguments answer i)
  node_same (e.Comma parts at) = sequence_same at parts
  node_same _ = refl

-- an expression's answer is what its node says of the answers of its parts
pub answer_is : (g : Given) (x : Expression) (u : Bool) → answer_of g x u ≡ expression_answer g (answer_of g) (λ y. y) (out-Expression x) u
unfolding answer_of
answer_is g x u = ap (λ f. f u) (expression_is (typing g) x) ∙ node_same g u (out-Expression x)
