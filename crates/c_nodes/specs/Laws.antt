-- Laws of the nodes. Arguments and parts that are listed by what is known of them say what their trees say; and each cell of
-- an array or a struct that is a constant place has a number in what nodes answer.
use Rattle.std.specs.Prelude.{◌≡◌, ℕ, Bool, List, map, Option}
use Rattle.c_tree.specs.declared.expression.Expression.{Expression}
use Rattle.c_tree.specs.declared.expression.BinaryOperator.{BinaryOperator}
use Rattle.c_tree.specs.declared.expression.AssignOperator.{AssignOperator}
use Rattle.c_kinds.specs.declared.typed.Typed.{Typed}
use Rattle.c_kinds.specs.declared.answer.Answer.{Answer}
use Rattle.c_kinds.specs.Layouts.{Layout}
use Rattle.c_kinds.specs.Values.{part, used}
use Rattle.c_kinds.specs.Operands.{binary_answer, sizeof_answer}
use Rattle.c_kinds.specs.Casts.{step_answer, conditional_answer}
use Rattle.c_kinds.specs.Elements.{member_answer, subscript_answer}
use Rattle.c_rules.specs.declared.names.Meaning.{Meaning}
use Rattle.c_rules.specs.Typing.{Given, assign_node, cast_to, layout_of, name_answer, named_call, sizeof_named, sequence_answer, with_arguments}
use Rattle.c_nodes.specs.declared.arguments.Argument.{Argument}
use Rattle.c_nodes.specs.Arguments.{after_arguments, answers_in, argument_of}
use Rattle.c_operators.specs.Told.{GivesItsCells, IsCounted}

pub record PartsAreListed : Type 0 where
  pub of_arguments : (l : Layout) (w : Expression → Answer) (texts : Bool) (xs : List Expression) (answer : Answer)
      → with_arguments l w (λ x. x) texts xs answer ≡ after_arguments l texts (map (argument_of w (λ x. x)) xs) answer
  pub of_answers : (w : Expression → Answer) (xs : List Expression) → answers_in (map (argument_of w (λ x. x)) xs) ≡ map w xs
  pub of_sequences : (l : Layout) (w : Expression → Answer) (at : ℕ) (xs : List Expression) → sequence_answer l w at xs ≡ sequence_answer l (λ x. x) at (map w xs)

pub record PlacesHaveCells : Type 0 where
  pub of_operators : (l : Layout) (operator : BinaryOperator) (at : ℕ) (x y : Answer) → GivesItsCells l (used l x (λ v. used l y (λ w. binary_answer l operator at v w)))
  pub of_casts : (l : Layout) (at : ℕ) (m : Option Meaning) (x : Answer) → GivesItsCells l (used l x (λ v. cast_to at m v))
  pub of_choices : (l : Layout) (at : ℕ) (t x y : Answer) → GivesItsCells l (used l t (λ c. used l x (λ v. used l y (λ w. conditional_answer at c v w))))
  pub of_assignments : (l : Layout) (operator : AssignOperator) (at : ℕ) (x v : Answer) → GivesItsCells l (assign_node l operator at x v)
  pub of_steps : (l : Layout) (at : ℕ) (x : Answer) (ends_at : Typed → ℕ) → GivesItsCells l (part x (λ v. step_answer l at (ends_at v) v))
  pub of_comma : (l : Layout) (at : ℕ) (xs : List Answer) → GivesItsCells l (sequence_answer l (λ x. x) at xs)
  pub of_calls : (g : Given) (u : Bool) (xs : List Argument) (name at : ℕ) (m : Option Meaning)
      → GivesItsCells (layout_of g) (named_call g u (λ texts rest. after_arguments (layout_of g) texts xs rest) name at m)
  pub of_type_sizes : (l : Layout) (at : ℕ) (m : Option Meaning) → GivesItsCells l (sizeof_named l at m)
  pub of_sizes : (l : Layout) (at : ℕ) (x : Answer) → GivesItsCells l (part x (λ v. sizeof_answer l at v))
  pub of_names : (g : Given) (u : Bool) (at : ℕ) → IsCounted (layout_of g) → GivesItsCells (layout_of g) (name_answer g.names u at)
  -- if it is so in the array or the object
  pub of_subscripts : (l : Layout) (at : ℕ) (a i : Answer) → IsCounted l → GivesItsCells l a → GivesItsCells l (part a (λ x. used l i (λ y. subscript_answer l at x y)))
  pub of_members : (l : Layout) (at : ℕ) (name : List ℕ) (x : Answer) → IsCounted l → GivesItsCells l x → GivesItsCells l (part x (λ v. member_answer l at name v))
