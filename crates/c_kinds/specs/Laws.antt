-- The laws of the operators: each has a result, or breaks a rule. Only a member whose declaration breaks one has nothing.
use Rattle.std.specs.Prelude.{◌≡◌, ℕ, Bool, true, false, Option}
use Rattle.c_tree.specs.declared.expression.BinaryOperator.{BinaryOperator}
use Rattle.c_tree.specs.declared.expression.UnaryOperator.{UnaryOperator}
use Rattle.c_tree.specs.declared.expression.AssignOperator.{AssignOperator}
use Rattle.c_kinds.specs.declared.types.CType.{CType}
use Rattle.c_kinds.specs.declared.typed.Typed.{Typed}
use Rattle.c_kinds.specs.Layouts.{Layout}
use Rattle.c_kinds.specs.declared.answer.Answer.{Answer}
use Rattle.c_kinds.specs.declared.answer.Answer.TheVariants.{Nothing}
use Rattle.c_kinds.specs.Values.{value}
use Rattle.c_kinds.specs.Operands.{binary_answer, unary_answer, address_answer, sizeof_answer, sizeof_type_answer}
use Rattle.c_kinds.specs.Casts.{cast_answer, assign_answer, step_answer, conditional_answer, comma_answer}
use Rattle.c_kinds.specs.Elements.{subscript_answer}

abbrev pub says_something : Answer → Bool
says_something Nothing = false
says_something _ = true

-- a typed operand gives each operator a result, or breaks a rule
abbrev pub Speaks : Answer → Type 0
Speaks x = says_something x ≡ true

pub record OperatorsSpeak : Type 0 where
  pub of_values : (l : Layout) (x : Typed) → Speaks (value l x)
  pub of_binary : (l : Layout) (operator : BinaryOperator) (at : ℕ) (x y : Typed) → Speaks (binary_answer l operator at x y)
  pub of_unary : (l : Layout) (operator : UnaryOperator) (at : ℕ) (x : Typed) → Speaks (unary_answer l operator at x)
  pub of_address : (at : ℕ) (x : Typed) → Speaks (address_answer at x)
  pub of_sizeof : (l : Layout) (at : ℕ) (x : Typed) → Speaks (sizeof_answer l at x)
  pub of_sizeof_type : (l : Layout) (at : ℕ) (star : Option ℕ) (t : CType) → Speaks (sizeof_type_answer l at star t)
  pub of_cast : (at : ℕ) (star : Option ℕ) (t : CType) (v : Typed) → Speaks (cast_answer at star t v)
  pub of_assign : (l : Layout) (operator : AssignOperator) (at : ℕ) (target v : Typed) → Speaks (assign_answer l operator at target v)
  pub of_step : (l : Layout) (at ends_at : ℕ) (x : Typed) → Speaks (step_answer l at ends_at x)
  pub of_conditional : (at : ℕ) (test x y : Typed) → Speaks (conditional_answer at test x y)
  pub of_comma : (at : ℕ) (v : Typed) → Speaks (comma_answer at v)
  pub of_subscript : (l : Layout) (at : ℕ) (a i : Typed) → Speaks (subscript_answer l at a i)
