-- Arithmetic on integers, with its checks (6.5.3.3, 6.5.5 to 6.5.14). Sections are those of ISO/IEC 9899:2011.
use Rattle.std.specs.Prelude.{Bool, not, ◌&&◌, ◌||◌, ℤ, pos, ◌+ℤ◌, ◌-ℤ◌, ◌*ℤ◌, unsigned_abs, int_lt, if◌then◌else◌}
use Rattle.std.specs.Ordering.{int_eq}
use Rattle.kv_num.specs.declared.types.IntType.{IntType}
use Rattle.kv_num.specs.IntType.{wrap_of, width_of, signed_of, and_of, or_of, xor_of, not_of}
use Rattle.kv_num.specs.Quotient.{quotient_of, remainder_of}
use Rattle.kv_num.specs.Shift.{left_of, right_of}
use Rattle.c_tree.specs.declared.expression.BinaryOperator.{BinaryOperator}
use Rattle.c_tree.specs.declared.expression.BinaryOperator.TheVariants as b
use Rattle.c_tree.specs.declared.expression.UnaryOperator.{UnaryOperator}
use Rattle.c_tree.specs.declared.expression.UnaryOperator.TheVariants as u
use Rattle.c_kinds.specs.Integers.{promoted, is_in_range}
use Rattle.c_kinds.specs.Constants.{is_true}
use Rattle.c_kinds.specs.declared.family.Family.{Family}
use Rattle.c_kinds.specs.declared.family.Family.TheVariants.{Shift}
use Rattle.c_kinds.specs.Operands.{family, operation_type}
use Rattle.c_rules.specs.declared.checks.CheckKind.TheVariants.{Division, Overflow, Shift as ShiftDistance}
use Rattle.c_rules.specs.declared.checks.Checks.{Checks}
use Rattle.c_model.specs.declared.values.Scalar.{Scalar}
use Rattle.c_model.specs.declared.values.Scalar.TheVariants.{Number}
use Rattle.c_model.specs.declared.values.Outcome.{Outcome}
use Rattle.c_model.specs.declared.values.Outcome.TheVariants.{Gives, Unmet}
use Rattle.c_model.specs.Values.{truth_of, number_as}

-- ---- overflow

-- whether arithmetic in this type must fit it
abbrev pub is_asked : Checks → IntType → Bool
is_asked checks t = if signed_of t then checks.signed_overflow else checks.unsigned_overflow

-- a result, where it fits or needn't
abbrev pub if_fitting : Bool → Bool → ℤ → Outcome
if_fitting asked fits n = if not asked || fits then Gives (Number n) else Unmet Overflow

-- a sum, a difference or a product wraps (6.2.5p9); that signed ones do is a choice, since 6.5p5 leaves it open
abbrev pub wrapped : Checks → IntType → ℤ → Outcome
wrapped checks t exact = if_fitting (is_asked checks t) (is_in_range t exact) (wrap_of t exact)

-- ---- each operator

-- the quotient is truncated toward zero, and a divisor of 0 has none (6.5.5p5, p6). An unsigned quotient always fits
abbrev pub quotient : Checks → IntType → ℤ → ℤ → Outcome
quotient checks t a c = if int_eq c (pos 0) then Unmet Division else wrapped checks t (quotient_of a c)

-- a remainder is undefined where its quotient doesn't fit (6.5.5p6)
abbrev pub remainder : Checks → IntType → ℤ → ℤ → Outcome
remainder checks t a c = if int_eq c (pos 0) then Unmet Division else if_fitting (is_asked checks t) (is_in_range t (quotient_of a c)) (remainder_of a c)

-- the distance is from 0 to the width less 1 (6.5.7p3)
abbrev pub is_distance : IntType → ℤ → Bool
is_distance t d = not (int_lt d (pos 0)) && int_lt d (pos (width_of t))

-- a number that isn't negative, times a power of two, fits a signed type (6.5.7p4)
abbrev pub left_fits : IntType → ℤ → ℤ → Bool
left_fits t a exact = not (int_lt a (pos 0)) && is_in_range t exact

-- an unsigned shift isn't asked to fit (6.5.7p4)
abbrev pub shifted_left : Checks → IntType → ℤ → ℤ → Outcome
shifted_left checks t a exact = if_fitting (signed_of t && checks.signed_overflow) (left_fits t a exact) (wrap_of t exact)

-- a shift, where its distance is one
abbrev pub at_distance : IntType → ℤ → Outcome → Outcome
at_distance t d shifted = if is_distance t d then shifted else Unmet ShiftDistance

-- an operator on two numbers of the type in which it works; a shift's distance has a type of its own. `&&` and `||` come
-- here only for completeness: they evaluate one operand after the other
abbrev pub operation : Checks → BinaryOperator → IntType → ℤ → ℤ → Outcome
operation checks b.Add t a c = wrapped checks t (a +ℤ c)
operation checks b.Subtract t a c = wrapped checks t (a -ℤ c)
operation checks b.Multiply t a c = wrapped checks t (a *ℤ c)
operation checks b.Divide t a c = quotient checks t a c
operation checks b.Remainder t a c = remainder checks t a c
operation checks b.ShiftLeft t a c = at_distance t c (shifted_left checks t a (left_of a (unsigned_abs c)))
operation checks b.ShiftRight t a c = at_distance t c (Gives (Number (right_of a (unsigned_abs c))))
operation checks b.BitAnd t a c = Gives (Number (and_of t a c))
operation checks b.BitXor t a c = Gives (Number (xor_of t a c))
operation checks b.BitOr t a c = Gives (Number (or_of t a c))
operation checks b.Less t a c = Gives (truth_of (int_lt a c))
operation checks b.Greater t a c = Gives (truth_of (int_lt c a))
operation checks b.LessEqual t a c = Gives (truth_of (not (int_lt c a)))
operation checks b.GreaterEqual t a c = Gives (truth_of (not (int_lt a c)))
operation checks b.Equal t a c = Gives (truth_of (int_eq a c))
operation checks b.NotEqual t a c = Gives (truth_of (not (int_eq a c)))
operation checks b.LogicalOr t a c = Gives (truth_of (is_true a || is_true c))
operation checks b.LogicalAnd t a c = Gives (truth_of (is_true a && is_true c))

-- ---- operands

-- the right operand's type: a shift promotes each operand for itself (6.5.7p3)
abbrev pub right_type : Family → IntType → IntType → IntType
right_type Shift k l = promoted l
right_type f k l = operation_type f k l

-- two operands of integer types, converted (6.3.1.8)
abbrev pub on_numbers : Checks → BinaryOperator → IntType → IntType → Scalar → Scalar → Outcome
on_numbers checks op k l v w = operation checks op (operation_type (family op) k l) (number_as (operation_type (family op) k l) v) (number_as (right_type (family op) k l) w)

-- an operator before an operand of an integer type (6.5.3.3). Unary minus is 0 - n in the promoted type
abbrev pub on_number : Checks → UnaryOperator → IntType → Scalar → Outcome
on_number checks u.Plus k v = Gives (Number (number_as (promoted k) v))
on_number checks u.Minus k v = wrapped checks (promoted k) (pos 0 -ℤ number_as (promoted k) v)
on_number checks u.Complement k v = Gives (Number (not_of (promoted k) (number_as (promoted k) v)))
on_number checks _ k v = Gives v
