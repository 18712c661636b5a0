-- What operations give, for numbers of a shape. Where C says nothing of an operation, a divisor 0 or a distance not
-- below the width, the value is 0.
use Rattle.std.specs.Prelude.{ℕ, Bool, true, false, not, ◌&&◌, nat_lt, ℤ, pos, ◌+ℤ◌, ◌-ℤ◌, ◌*ℤ◌, ◌≡◌, int_lt, if◌then◌else◌}
use Rattle.std.specs.Ordering.{int_eq}
use Rattle.kv_num.specs.Shape.{bits_at, and_at, or_at, xor_at, not_at}
use Rattle.kv_num.specs.Quotient.{quotient_of, remainder_of}
use Rattle.kv_num.specs.Shift.{left_of, right_of}
use Rattle.term_core.specs.declared.term.Shape.{Shape}
use Rattle.term_core.specs.declared.term.UnaryOp.{UnaryOp}
use Rattle.term_core.specs.declared.term.UnaryOp.TheVariants.{Negate, BitNot}
use Rattle.term_core.specs.declared.term.BinaryOp.{BinaryOp}
use Rattle.term_core.specs.declared.term.BinaryOp.TheVariants.{Add, Sub, Mul, Div, Rem, ShiftLeft, ShiftRight, BitAnd, BitOr, BitXor, Less, Equal}
use Rattle.term_core.specs.Shape.{has_shape, wrap_to, one_bit}

-- a truth as a number
abbrev pub truth : Bool → ℤ
truth true = pos 1
truth false = pos 0

abbrev pub unary_value : Shape → UnaryOp → ℤ → ℤ
unary_value s Negate a = wrap_to s (pos 0 -ℤ a)  -- 6.5.3.3
unary_value s BitNot a = not_at s.width s.signed a  -- 6.5.3.3

-- the exact quotient, and what it leaves (6.5.5)
abbrev pub quotient_by : ℤ → ℤ → ℤ
quotient_by a b = if int_eq b (pos 0) then pos 0 else quotient_of a b

abbrev pub remainder_by : ℤ → ℤ → ℤ
remainder_by a b = if int_eq b (pos 0) then pos 0 else remainder_of a b

-- the exact results of shifts in a width by the bits of a number of width v (6.5.7)
abbrev pub left_by : ℕ → ℕ → ℤ → ℤ → ℤ
left_by width v a b = if nat_lt (bits_at v b) width then left_of a (bits_at v b) else pos 0

abbrev pub right_by : ℕ → ℕ → ℤ → ℤ → ℤ
right_by width v a b = if nat_lt (bits_at v b) width then right_of a (bits_at v b) else pos 0

-- the value of an operation on a of shape s and b of shape r
abbrev pub binary_value : Shape → Shape → BinaryOp → ℤ → ℤ → ℤ
binary_value s r Add a b = wrap_to s (a +ℤ b)  -- 6.5.6
binary_value s r Sub a b = wrap_to s (a -ℤ b)  -- 6.5.6
binary_value s r Mul a b = wrap_to s (a *ℤ b)  -- 6.5.5
binary_value s r Div a b = wrap_to s (quotient_by a b)  -- 6.5.5
binary_value s r Rem a b = wrap_to s (remainder_by a b)  -- 6.5.5
binary_value s r ShiftLeft a b = wrap_to s (left_by s.width r.width a b)  -- 6.5.7
binary_value s r ShiftRight a b = wrap_to s (right_by s.width r.width a b)  -- 6.5.7
binary_value s r BitAnd a b = and_at s.width s.signed a b  -- 6.5.10
binary_value s r BitOr a b = or_at s.width s.signed a b  -- 6.5.12
binary_value s r BitXor a b = xor_at s.width s.signed a b  -- 6.5.11
binary_value s r Less a b = truth (int_lt a b)  -- 6.5.8
binary_value s r Equal a b = truth (int_eq a b)  -- 6.5.9

-- whether the exact result of the operation has the shape of a, so that nothing is lost (6.5 paragraph 5); of a
-- remainder, whether the quotient has it; of a shift to the left, whether also a isn't negative
abbrev pub fits_value : Shape → Shape → BinaryOp → ℤ → ℤ → Bool
fits_value s r Add a b = has_shape s (a +ℤ b)
fits_value s r Sub a b = has_shape s (a -ℤ b)
fits_value s r Mul a b = has_shape s (a *ℤ b)
fits_value s r Div a b = has_shape s (quotient_by a b)  -- 6.5.5 paragraph 6
fits_value s r Rem a b = has_shape s (quotient_by a b)  -- 6.5.5 paragraph 6
fits_value s r ShiftLeft a b = not (int_lt a (pos 0)) && has_shape s (left_by s.width r.width a b)  -- 6.5.7 paragraph 4
fits_value s r _ a b = true

-- the shape of the result where the left operand has shape s
abbrev pub result_shape : BinaryOp → Shape → Shape
result_shape Less s = one_bit
result_shape Equal s = one_bit
result_shape _ s = s

-- which shapes two operands may have: the same one, but a distance may have any (6.5.7)
abbrev pub OperandsFit : BinaryOp → Shape → Shape → Type 0
OperandsFit ShiftLeft s r = Unit {0}
OperandsFit ShiftRight s r = Unit {0}
OperandsFit _ s r = r ≡ s
