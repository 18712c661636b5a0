-- What the laws say.
use Rattle.std.specs.Prelude.{ℕ, suc, ◌≤◌, ℤ, List, [], ◌∷◌, ◌++◌, length}
use Rattle.c_tree.specs.declared.expression.BinaryOperator.{BinaryOperator}
use Rattle.c_tree.specs.declared.expression.UnaryOperator.{UnaryOperator}
use Rattle.c_kinds.specs.declared.types.CType.{CType}
use Rattle.c_kinds.specs.Types.{shape_of}
use Rattle.c_rules.specs.declared.program.Program.{Program}
use Rattle.c_model.specs.declared.values.Scalar.{Scalar}
use Rattle.c_model.specs.declared.values.Object.{Object}
use Rattle.c_model.specs.Values.{value_as}
use Rattle.c_model.specs.Programs.{types_of}
use Rattle.c_model.specs.Store.{held, stored, moved, born, outlived, survivors}
use Rattle.c_model.specs.Calls.{passed}
use Rattle.c_model.specs.Moves.{all_outlived}
use Rattle.c_model.specs.Configurations.{Configuration}
use Rattle.c_model.specs.Executions.{start_on}
use Rattle.c_model.specs.Blocks.{Reaches}
use Rattle.c_model.specs.Heads.{IsPlace, IsHead}
use Rattle.c_model.specs.Operators.{operate, operate_on}
use Rattle.c_heads.specs.Typed.{IsOfType, IsPointer, IsOfShape, IfGiven, binary_shape, unary_shape, IsArithmetic, ConvertsTo, IsLaidOut, IsPlaceOf, Grows, ArePassed}
use Rattle.c_heads.specs.Sound.{Sound}

-- conversions and operators give values of the types of their results, whatever their operands are
pub record ValuesKeepTheirTypes : Type 0 where
  pub conversions : (p : Program) (store : List Object) (t from : CType) (v : List Scalar) → ConvertsTo p t from → IsOfType p store from v → IsOfType p store t (value_as t v)
  pub binary : (p : Program) (store : List Object) (op : BinaryOperator) (left right : CType) (v w : Scalar) → IfGiven (IsOfShape store (binary_shape op (shape_of left) (shape_of right))) (operate p op left right v w store)
  pub unary : (p : Program) (store : List Object) (op : UnaryOperator) (t : CType) (v : Scalar) → IsArithmetic op → IfGiven (IsOfShape store (unary_shape (shape_of t))) (operate_on p op t v)
  pub moves : (store : List Object) (size : ℕ) (n : ℤ) (s : Scalar) → IfGiven (IsPointer store) (moved size n s store)
  -- a value of a scalar type is one cell
  pub scalars : (p : Program) (store : List Object) (t : CType) (s : Scalar) → IsOfShape store (shape_of t) s → IsOfType p store t (s ∷ [])

-- what a step does to the objects keeps each of them laid out, and each value of its type
pub record StoreStaysLaidOut : Type 0 where
  -- a value of a place's type is stored in it, and read from it
  pub storing : (p : Program) (store : List Object) (n : ℕ) (t : CType) (s : Scalar) (v : List Scalar) → IsLaidOut p store → IsPlace p store n t (s ∷ []) → IsOfType p store t v → IsLaidOut p (stored v s store)
  pub reading : (p : Program) (store : List Object) (n : ℕ) (t : CType) (s : Scalar) → IsLaidOut p store → IsPlace p store n t (s ∷ []) → IsOfType p store t (held (length (types_of p t)) s store)
  -- a block is entered, and a function with its arguments
  pub opening : (p : Program) (store : List Object) (numbers : List ℕ) → IsLaidOut p store → IsLaidOut p (store ++ born p numbers)
  pub entering : (p : Program) (store : List Object) (parameters numbers : List ℕ) (found : List (List Scalar)) → IsLaidOut p store → ArePassed p store parameters found → IsLaidOut p (store ++ passed p parameters found ++ born p numbers)
  -- the first n objects live on; pointers to the others become wild
  pub leaving : (p : Program) (store : List Object) (n : ℕ) → IsLaidOut p store → IsLaidOut p (survivors n store)
  pub values_last : (p : Program) (store : List Object) (n : ℕ) (t : CType) (v : List Scalar) → IsOfType p store t v → IsOfType p (survivors n store) t (all_outlived n v)
  pub places_last : (p : Program) (store : List Object) (n m : ℕ) (t : CType) (s : Scalar) → m ≤ n → IsPlaceOf p store m t s → IsPlaceOf p (survivors n store) m t (outlived n s)
  -- values and places stay where objects get other values, and where others follow them
  pub stored_stays : (store : List Object) (s : Scalar) (v : List Scalar) → Grows store (stored v s store)
  pub more_stays : (store more : List Object) → Grows store (store ++ more)
  pub values_stay : (p : Program) (store others : List Object) (t : CType) (v : List Scalar) → Grows store others → IsOfType p store t v → IsOfType p others t v
  pub places_stay : (p : Program) (store others : List Object) (n : ℕ) (t : CType) (s : Scalar) → Grows store others → n ≤ length store → IsPlaceOf p store n t s → IsPlaceOf p others n t s

-- each arrival of the machine is a head configuration: the control and the living objects are those of an arrival of the bare
-- machine, and each value is of the type that the program gives it
abbrev pub ArrivalsAreHeads : Type 0
ArrivalsAreHeads = (p : Program) (inputs : List ℕ) (n : ℕ) (c : Configuration) → Sound p → Reaches p (suc n) (start_on p inputs) c → IsHead p c
