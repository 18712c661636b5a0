-- Shapes, and the numbers that have them.
use Rattle.std.specs.Prelude.{◌^◌, ◌≤◌, Bool, false, ◌&&◌, ℤ, pos, ◌+ℤ◌, int_lt, int_le}
use Rattle.kv_num.specs.declared.types.IntType.{IntType}
use Rattle.kv_num.specs.IntType.{width_of, signed_of}
use Rattle.kv_num.specs.Shape.{InShape, below_at, wrap_at}
use Rattle.term_core.specs.declared.term.Shape.{Shape}

-- from 1 to 64 bits
abbrev pub IsShape : Shape → Type 0
IsShape s = (1 ≤ s.width) × (s.width ≤ 64)

-- n is a number of the shape (5.2.4.2.1)
abbrev pub HasShape : Shape → ℤ → Type 0
HasShape s n = InShape s.width s.signed n

-- whether it is
abbrev pub has_shape : Shape → ℤ → Bool
has_shape s n = int_le (pos 0) (n +ℤ pos (below_at s.width s.signed)) && int_lt (n +ℤ pos (below_at s.width s.signed)) (pos (2 ^ s.width))

-- the number of the shape that equals n modulo 2 to its width (6.3.1.3)
abbrev pub wrap_to : Shape → ℤ → ℤ
wrap_to s n = wrap_at s.width s.signed n

-- the numbers of an integer type (6.2.6.2)
abbrev pub shape_of : IntType → Shape
shape_of t = record { width = width_of t; signed = signed_of t }

-- the shape of a truth
abbrev pub one_bit : Shape
one_bit = record { width = 1; signed = false }
