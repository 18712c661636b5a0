-- A pointer that is moved stays in its object or one past it, and what an operator gives is of its result's type.
use Rattle.std.proofs.Common.{◌≡◌, ℕ, ◌≤◌, Bool, true, false, not, ℤ, pos, negsuc, ◌+ℤ◌, ◌-ℤ◌, ◌*ℤ◌, List, Option, Some, None, length, refl, cond, subst, sym, arith}
use Rattle.std.proofs.lemmas.Int.{ints}
use Rattle.std.proofs.lemmas.Option.{slice_get_within}
use Rattle.std.specs.Prelude.{unsigned_abs, slice_get}
use Rattle.c_tree.specs.declared.expression.BinaryOperator.{BinaryOperator}
use Rattle.c_tree.specs.declared.expression.BinaryOperator.TheVariants as b
use Rattle.c_kinds.specs.declared.types.CType.{CType}
use Rattle.c_kinds.specs.declared.types.Shape.{Shape}
use Rattle.c_kinds.specs.declared.types.Shape.TheVariants as shape
use Rattle.c_kinds.specs.Types.{shape_of, inner}
use Rattle.c_rules.specs.declared.checks.CheckKind.TheVariants.{PointerArithmetic}
use Rattle.c_rules.specs.declared.program.Program.{Program}
use Rattle.c_model.specs.declared.values.Scalar.{Scalar}
use Rattle.c_model.specs.declared.values.Scalar.TheVariants.{Inside}
use Rattle.c_model.specs.declared.values.Object.{Object}
use Rattle.c_model.specs.declared.values.Outcome.TheVariants.{Gives, Unmet}
use Rattle.c_model.specs.Programs.{checks, cell_count}
use Rattle.c_model.specs.Values.{number_in, as_pointer, same_pointer}
use Rattle.c_model.specs.Store.{cells_in, is_within, moved_to, moved}
use Rattle.c_model.specs.Operators.{on_mixed, operate_by, operate}
use Rattle.c_heads.specs.Typed.{IsPointer, IsOfShape, IfGiven, mixed_shape, binary_shape}
use Rattle.c_heads.proofs.Numbers.{truth_fits, numbers}

-- ---- pointers that are moved

within_most : (to : ℤ) (most : ℕ) → is_within to most ≡ true → unsigned_abs to ≤ most
within_most (pos a) most h = grind (arith, ints)
within_most (negsuc a) most h = grind (arith, ints)

module _ (store : List Object) where
  -- a pointer to a cell of a living object, or one past the last
  pub points : (object offset : ℕ) (there : Object) → slice_get store object ≡ Some there → offset ≤ length there.cells → IsPointer store (Inside object offset)
  points object offset there e h =
      let P : Option Object → Type 0 = λ o. offset ≤ length (cells_in o) in
      (slice_get_within store object there e, subst P (sym e) h)

  stays : (object : ℕ) (to : ℤ) (there : Object) → slice_get store object ≡ Some there → (c : Bool) → is_within to (length there.cells) ≡ c
      → IfGiven (IsPointer store) (cond c (Gives (Inside object (unsigned_abs to))) (Unmet PointerArithmetic))
  stays object to there e true h = points object (unsigned_abs to) there e (within_most to (length there.cells) h)
  stays object to there e false h = tt

  moves_to : (object : ℕ) (to : ℤ) (found : Option Object) → slice_get store object ≡ found → IfGiven (IsPointer store) (moved_to object to found)
  moves_to object to None e = tt
  moves_to object to (Some there) e = stays object to there e (is_within to (length there.cells)) refl

  pub moves : (size : ℕ) (n : ℤ) (s : Scalar) → IfGiven (IsPointer store) (moved size n s store)
  moves size n (Inside object offset) = moves_to object (pos offset +ℤ (n *ℤ pos size)) (slice_get store object) refl
  moves size n _ = tt

-- ---- operators on operands of any type

module _ (p : Program) (store : List Object) (left right : CType) (v w : Scalar) where
  mixed : (op : BinaryOperator) (s : Shape) → IfGiven (IsOfShape store (mixed_shape op)) (on_mixed p op s left right v w store)
  mixed b.Add (shape.Integer kind) = moves store (cell_count p (inner right)) (number_in v) w
  mixed b.Add _ = moves store (cell_count p (inner left)) (number_in w) v
  mixed b.Subtract s = moves store (cell_count p (inner left)) (pos 0 -ℤ number_in w) v
  mixed b.NotEqual s = truth_fits (not (same_pointer (as_pointer v) (as_pointer w)))
  mixed _ s = truth_fits (same_pointer (as_pointer v) (as_pointer w))

  operates : (op : BinaryOperator) (s other : Shape) → IfGiven (IsOfShape store (binary_shape op s other)) (operate_by p op s other left right v w store)
  operates op (shape.Integer k) (shape.Integer l) = numbers store (checks p) k l v w op
  operates op s other = mixed op s

-- the result of an operator is of its type
pub operation_is : (p : Program) (store : List Object) (op : BinaryOperator) (left right : CType) (v w : Scalar)
    → IfGiven (IsOfShape store (binary_shape op (shape_of left) (shape_of right))) (operate p op left right v w store)
operation_is p store op left right v w = operates p store left right v w op (shape_of left) (shape_of right)
