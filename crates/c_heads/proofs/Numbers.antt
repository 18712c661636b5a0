-- Arithmetic gives numbers of the types of its results.
use Rattle.std.proofs.Common.{Bool, true, false, not, ◌&&◌, ◌||◌, ℤ, pos, ◌+ℤ◌, ◌-ℤ◌, ◌*ℤ◌, ◌^◌, ◌-◌, List, cond}
use Rattle.std.specs.Prelude.{int_lt, unsigned_abs, bit_and, bit_or, bit_xor}
use Rattle.std.specs.Ordering.{int_eq}
use Rattle.kv_num.specs.declared.types.IntType.{IntType}
use Rattle.kv_num.specs.declared.types.IntType.TheVariants.{Bool as B, Int}
use Rattle.kv_num.specs.IntType.{width_of, signed_of, wrap_of, InRange, and_of, or_of, xor_of, not_of}
use Rattle.kv_num.specs.Quotient.{quotient_of, remainder_of}
use Rattle.kv_num.specs.Shape.{bits_at}
use Rattle.kv_num.specs.Shift.{left_of, right_of}
use Rattle.kv_num.proofs.Shapes.{range-wrap_at}
use Rattle.kv_num.proofs.Range.{width_valid}
use Rattle.kv_num.proofs.Division.{range-remainder_of}
use Rattle.kv_num.proofs.Powers.{range-right_of}
use Rattle.c_tree.specs.declared.expression.BinaryOperator.{BinaryOperator}
use Rattle.c_tree.specs.declared.expression.BinaryOperator.TheVariants as b
use Rattle.c_tree.specs.declared.expression.UnaryOperator.{UnaryOperator}
use Rattle.c_tree.specs.declared.expression.UnaryOperator.TheVariants as u
use Rattle.c_kinds.specs.declared.types.CellType.TheVariants as cell
use Rattle.c_kinds.specs.Constants.{is_true}
use Rattle.c_kinds.specs.Integers.{truth, promoted, usual, converted, is_in_range}
use Rattle.c_kinds.specs.Operands.{family, result_type}
use Rattle.c_rules.specs.declared.checks.CheckKind.{CheckKind}
use Rattle.c_rules.specs.declared.checks.CheckKind.TheVariants.{Division, Overflow, Shift as ShiftDistance}
use Rattle.c_rules.specs.declared.checks.Checks.{Checks}
use Rattle.c_model.specs.declared.values.Scalar.{Scalar}
use Rattle.c_model.specs.declared.values.Scalar.TheVariants.{Number}
use Rattle.c_model.specs.declared.values.Object.{Object}
use Rattle.c_model.specs.declared.values.Outcome.{Outcome}
use Rattle.c_model.specs.declared.values.Outcome.TheVariants.{Gives, Unmet}
use Rattle.c_model.specs.Arithmetic.{is_asked, if_fitting, wrapped, quotient, remainder, is_distance, left_fits, shifted_left, at_distance, on_numbers, on_number}
use Rattle.c_model.specs.Values.{is_zero, number_as}
use Rattle.c_model.specs.Heads.{IsOf}
use Rattle.c_heads.specs.Typed.{IfGiven, IsArithmetic}

-- ---- numbers in range

pub wraps : (k : IntType) (n : ℤ) → InRange k (wrap_of k n)
wraps k n = range-wrap_at (width_of k) (signed_of k) n

pub truth_fits : (c : Bool) → InRange Int (truth c)
truth_fits true = wraps Int (pos 1)
truth_fits false = wraps Int (pos 0)

truth_is_bool : (c : Bool) → InRange B (truth c)
truth_is_bool true = wraps B (pos 1)
truth_is_bool false = wraps B (pos 0)

pub converts : (k : IntType) (n : ℤ) → InRange k (converted k n)
converts B n = truth_is_bool (not (int_eq n (pos 0)))
converts k n = wraps k n

-- a truth is in the range of each type
truth_wraps : (k : IntType) (c : Bool) → InRange k (truth c)
truth_wraps B c = truth_is_bool c
truth_wraps k true = wraps k (pos 1)
truth_wraps k false = wraps k (pos 0)

pub zero_fits : (k : IntType) → InRange k (pos 0)
zero_fits k = truth_wraps k false

-- a scalar as a number of a type
pub number_fits : (k : IntType) (s : Scalar) → InRange k (number_as k s)
number_fits k (Number n) = converts k n
number_fits k s = truth_wraps k (not (is_zero s))

-- ---- what an operator gives where its check is met

module _ (P : Scalar → Type 0) where
  pub if_met : (c : Bool) (s : Scalar) (check : CheckKind) → P s → IfGiven P (cond c (Gives s) (Unmet check))
  if_met true s check h = h
  if_met false s check h = tt

  pub when_met : (c : Bool) (o : Outcome) (check : CheckKind) → IfGiven P o → IfGiven P (cond c o (Unmet check))
  when_met true o check h = h
  when_met false o check h = tt

  pub or_unmet : (c : Bool) (o : Outcome) (check : CheckKind) → IfGiven P o → IfGiven P (cond c (Unmet check) o)
  or_unmet true o check h = tt
  or_unmet false o check h = h

-- ---- arithmetic

module _ (store : List Object) (checks : Checks) where
  abbrev NumberOf : IntType → Scalar → Type 0
  NumberOf k s = IsOf store (cell.Integer k) s

  fitted : (k : IntType) (asked fits : Bool) (n : ℤ) → InRange k n → IfGiven (NumberOf k) (if_fitting asked fits n)
  fitted k asked fits n h = if_met (NumberOf k) (not asked || fits) (Number n) Overflow h

  wrapped_fits : (k : IntType) (exact : ℤ) → IfGiven (NumberOf k) (wrapped checks k exact)
  wrapped_fits k exact = fitted k (is_asked checks k) (is_in_range k exact) (wrap_of k exact) (wraps k exact)

  quotient_fits : (k : IntType) (a c : ℤ) → IfGiven (NumberOf k) (quotient checks k a c)
  quotient_fits k a c = or_unmet (NumberOf k) (int_eq c (pos 0)) (wrapped checks k (quotient_of a c)) Division (wrapped_fits k (quotient_of a c))

  remainder_fits : (k : IntType) (a c : ℤ) → InRange k a → IfGiven (NumberOf k) (remainder checks k a c)
  remainder_fits k a c h = or_unmet (NumberOf k) (int_eq c (pos 0)) _ Division (fitted k (is_asked checks k) (is_in_range k (quotient_of a c)) (remainder_of a c) (range-remainder_of k a c h))

  left_shift_fits : (k : IntType) (a c exact : ℤ) → IfGiven (NumberOf k) (at_distance k c (shifted_left checks k a exact))
  left_shift_fits k a c exact = when_met (NumberOf k) (is_distance k c) (shifted_left checks k a exact) ShiftDistance
      (fitted k (signed_of k && checks.signed_overflow) (left_fits k a exact) (wrap_of k exact) (wraps k exact))

  right_shift_fits : (k : IntType) (a c : ℤ) → InRange k a → IfGiven (NumberOf k) (at_distance k c (Gives (Number (right_of a (unsigned_abs c)))))
  right_shift_fits k a c h = if_met (NumberOf k) (is_distance k c) (Number (right_of a (unsigned_abs c))) ShiftDistance
      (range-right_of (width_of k) (signed_of k) (width_valid k) a (unsigned_abs c) h)

  and_fits : (k : IntType) (a c : ℤ) → InRange k (and_of k a c)
  and_fits k a c = wraps k (pos (bit_and (bits_at (width_of k) a) (bits_at (width_of k) c)))

  or_fits : (k : IntType) (a c : ℤ) → InRange k (or_of k a c)
  or_fits k a c = wraps k (pos (bit_or (bits_at (width_of k) a) (bits_at (width_of k) c)))

  xor_fits : (k : IntType) (a c : ℤ) → InRange k (xor_of k a c)
  xor_fits k a c = wraps k (pos (bit_xor (bits_at (width_of k) a) (bits_at (width_of k) c)))

  not_fits : (k : IntType) (a : ℤ) → InRange k (not_of k a)
  not_fits k a = wraps k (pos (2 ^ width_of k - 1 - bits_at (width_of k) a))

  -- two operands of integer types
  module _ (k l : IntType) (v w : Scalar) where
    abbrev left : ℤ
    left = number_as (usual k l) v

    abbrev right : ℤ
    right = number_as (usual k l) w

    abbrev shifted : ℤ
    shifted = number_as (promoted k) v

    abbrev distance : ℤ
    distance = number_as (promoted l) w

    pub numbers : (op : BinaryOperator) → IfGiven (NumberOf (result_type (family op) k l)) (on_numbers checks op k l v w)
    numbers b.Add = wrapped_fits (usual k l) (left +ℤ right)
    numbers b.Subtract = wrapped_fits (usual k l) (left -ℤ right)
    numbers b.Multiply = wrapped_fits (usual k l) (left *ℤ right)
    numbers b.Divide = quotient_fits (usual k l) left right
    numbers b.Remainder = remainder_fits (usual k l) left right (number_fits (usual k l) v)
    numbers b.ShiftLeft = left_shift_fits (promoted k) shifted distance (left_of shifted (unsigned_abs distance))
    numbers b.ShiftRight = right_shift_fits (promoted k) shifted distance (number_fits (promoted k) v)
    numbers b.BitAnd = and_fits (usual k l) left right
    numbers b.BitXor = xor_fits (usual k l) left right
    numbers b.BitOr = or_fits (usual k l) left right
    numbers b.Less = truth_fits (int_lt left right)
    numbers b.Greater = truth_fits (int_lt right left)
    numbers b.LessEqual = truth_fits (not (int_lt right left))
    numbers b.GreaterEqual = truth_fits (not (int_lt left right))
    numbers b.Equal = truth_fits (int_eq left right)
    numbers b.NotEqual = truth_fits (not (int_eq left right))
    numbers b.LogicalOr = truth_fits (is_true left || is_true right)
    numbers b.LogicalAnd = truth_fits (is_true left && is_true right)

  -- one operand of an integer type
  pub number : (op : UnaryOperator) (k : IntType) (v : Scalar) → IsArithmetic op → IfGiven (NumberOf (promoted k)) (on_number checks op k v)
  number u.Plus k v h = number_fits (promoted k) v
  number u.Minus k v h = wrapped_fits (promoted k) (pos 0 -ℤ number_as (promoted k) v)
  number u.Complement k v h = not_fits (promoted k) (number_as (promoted k) v)
  number _ k v h = absurd h
