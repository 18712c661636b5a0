-- Integer constant expressions (6.6): the value of each operation on constants, or that it has none. Sections are those of
-- ISO/IEC 9899:2011.
use Rattle.std.specs.Prelude.{ℕ, ℤ, pos, neg_ℤ, ◌+ℤ◌, ◌-ℤ◌, ◌*ℤ◌, int_lt, unsigned_abs, Bool, false, not, ◌&&◌, ◌||◌, if◌then◌else◌}
use Rattle.std.specs.Ordering.{int_eq}
use Rattle.kv_num.specs.declared.types.IntType.{IntType}
use Rattle.kv_num.specs.IntType.{width_of, signed_of, wrap_of, and_of, or_of, xor_of, not_of}
use Rattle.kv_num.specs.Quotient.{quotient_of, remainder_of}
use Rattle.kv_num.specs.Shift.{left_of, right_of}
use Rattle.c_tree.specs.declared.expression.BinaryOperator.{BinaryOperator}
use Rattle.c_tree.specs.declared.expression.BinaryOperator.TheVariants as binary
use Rattle.c_tree.specs.declared.expression.UnaryOperator.{UnaryOperator}
use Rattle.c_tree.specs.declared.expression.UnaryOperator.TheVariants as unary
use Rattle.c_kinds.specs.declared.typed.Fixed.{Fixed}
use Rattle.c_kinds.specs.declared.typed.Fixed.TheVariants.{Varies, NoValue, Number}
use Rattle.c_kinds.specs.Integers.{truth, is_in_range}

abbrev pub is_zero : Fixed → Bool
is_zero (Number n) = int_eq n (pos 0)
is_zero _ = false

abbrev pub of_one : Fixed → (ℤ → Fixed) → Fixed
of_one (Number a) f = f a
of_one NoValue f = NoValue
of_one _ f = Varies

-- both operands are constants by their form, or the whole is none
abbrev pub of_both : Fixed → Fixed → (ℤ → ℤ → Fixed) → Fixed
of_both (Number a) (Number b) f = f a b
of_both (Number a) NoValue f = NoValue
of_both NoValue (Number b) f = NoValue
of_both NoValue NoValue f = NoValue
of_both _ _ f = Varies

-- a result in a type: signed arithmetic has a value only where it fits (6.5p5)
abbrev pub computed : IntType → ℤ → Fixed
computed k n = if signed_of k && not (is_in_range k n) then NoValue else Number (wrap_of k n)

-- 6.5.5p5, p6
abbrev pub divided : IntType → ℤ → ℤ → ℤ → Fixed
divided k a b result = if int_eq b (pos 0) || not (is_in_range k (quotient_of a b)) then NoValue else Number (wrap_of k result)

-- 6.5.7p3
abbrev pub shifted : IntType → ℤ → Fixed → Fixed
shifted k distance result = if int_lt distance (pos 0) || not (int_lt distance (pos (width_of k))) then NoValue else result

-- a negative number has no value shifted left (6.5.7p4)
abbrev pub shifted_left : IntType → ℤ → ℕ → Fixed
shifted_left k a distance = if int_lt a (pos 0) then NoValue else computed k (left_of a distance)

abbrev pub is_true : ℤ → Bool
is_true n = not (int_eq n (pos 0))

-- an operation on two numbers of the type k in which it is done (6.5.5 to 6.5.14)
abbrev pub operation : BinaryOperator → IntType → ℤ → ℤ → Fixed
operation binary.LogicalOr k a b = Number (truth (is_true a || is_true b))
operation binary.LogicalAnd k a b = Number (truth (is_true a && is_true b))
operation binary.BitOr k a b = Number (or_of k a b)
operation binary.BitXor k a b = Number (xor_of k a b)
operation binary.BitAnd k a b = Number (and_of k a b)
operation binary.Equal k a b = Number (truth (int_eq a b))
operation binary.NotEqual k a b = Number (truth (not (int_eq a b)))
operation binary.Less k a b = Number (truth (int_lt a b))
operation binary.Greater k a b = Number (truth (int_lt b a))
operation binary.LessEqual k a b = Number (truth (not (int_lt b a)))
operation binary.GreaterEqual k a b = Number (truth (not (int_lt a b)))
operation binary.ShiftLeft k a b = shifted k b (shifted_left k a (unsigned_abs b))
operation binary.ShiftRight k a b = shifted k b (Number (right_of a (unsigned_abs b)))
operation binary.Add k a b = computed k (a +ℤ b)
operation binary.Subtract k a b = computed k (a -ℤ b)
operation binary.Multiply k a b = computed k (a *ℤ b)
operation binary.Divide k a b = divided k a b (quotient_of a b)
operation binary.Remainder k a b = divided k a b (remainder_of a b)

-- the operands converted to that type; a shift's distance and the operands of && and || keep their own
abbrev pub in_type : BinaryOperator → IntType → ℤ → ℤ → Fixed
in_type binary.LogicalOr k a b = operation binary.LogicalOr k a b
in_type binary.LogicalAnd k a b = operation binary.LogicalAnd k a b
in_type binary.ShiftLeft k a b = operation binary.ShiftLeft k (wrap_of k a) b
in_type binary.ShiftRight k a b = operation binary.ShiftRight k (wrap_of k a) b
in_type operator k a b = operation operator k (wrap_of k a) (wrap_of k b)

-- the right operand isn't evaluated where the left one decides (6.5.13p4, 6.5.14p4)
abbrev pub binary_value : BinaryOperator → IntType → Fixed → Fixed → Fixed
binary_value binary.LogicalOr k (Number a) NoValue = if is_true a then Number (pos 1) else NoValue
binary_value binary.LogicalAnd k (Number a) NoValue = if is_true a then NoValue else Number (pos 0)
binary_value operator k x y = of_both x y (in_type operator k)

-- 6.5.3.3
abbrev pub unary_operation : UnaryOperator → IntType → ℤ → Fixed
unary_operation unary.Minus k a = computed k (neg_ℤ a)
unary_operation unary.Complement k a = Number (not_of k a)
unary_operation unary.Not k a = Number (truth (int_eq a (pos 0)))
unary_operation _ k a = Number a

-- the arm that is taken; each operand is a constant by its form (6.5.15, 6.6p3)
abbrev pub taken : ℤ → Fixed → Fixed → Fixed
taken n x y = if is_true n then x else y

abbrev pub chosen_integer : Fixed → Fixed → Fixed → Fixed
chosen_integer test Varies y = Varies
chosen_integer test x Varies = Varies
chosen_integer (Number n) x y = taken n x y
chosen_integer NoValue x y = NoValue
chosen_integer test x y = Varies

-- of pointers the arm that isn't taken may be anything (6.6p9)
abbrev pub chosen_pointer : Fixed → Fixed → Fixed → Fixed
chosen_pointer (Number n) x y = taken n x y
chosen_pointer NoValue x y = NoValue
chosen_pointer test x y = Varies
