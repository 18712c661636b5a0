-- The integer types of C, each by its width and its signedness. Sections are those of ISO/IEC 9899:2011.
use Rattle.std.specs.Prelude.{ℕ, ◌^◌, Bool, true, false, ℤ}
use Rattle.kv_num.specs.declared.types.IntType.{IntType}
use Rattle.kv_num.specs.declared.types.IntType.TheVariants.{Bool as B, Char, SChar, UChar, Short, UShort, Int, UInt, Long32, ULong32, Long, ULong, LongLong, ULongLong}
use Rattle.kv_num.specs.Shape.{below_at, InShape, wrap_at, bits_at, and_at, or_at, xor_at, not_at}

-- how many bits a type has, with its sign bit (6.2.6.2)
abbrev pub width_of : IntType → ℕ
width_of B = 1
width_of Char = 8
width_of SChar = 8
width_of UChar = 8
width_of Short = 16
width_of UShort = 16
width_of Int = 32
width_of UInt = 32
width_of Long32 = 32
width_of ULong32 = 32
width_of Long = 64
width_of ULong = 64
width_of LongLong = 64
width_of ULongLong = 64

-- whether a type has negative numbers; the plain char has (6.2.5)
abbrev pub signed_of : IntType → Bool
signed_of B = false
signed_of Char = true
signed_of SChar = true
signed_of UChar = false
signed_of Short = true
signed_of UShort = false
signed_of Int = true
signed_of UInt = false
signed_of Long32 = true
signed_of ULong32 = false
signed_of Long = true
signed_of ULong = false
signed_of LongLong = true
signed_of ULongLong = false

-- how many numbers a type has
abbrev pub size_of : IntType → ℕ
size_of t = 2 ^ width_of t

-- how many of them are negative (6.2.6.2)
abbrev pub below_of : IntType → ℕ
below_of t = below_at (width_of t) (signed_of t)

-- the number is in the type's range (5.2.4.2.1)
abbrev pub InRange : IntType → ℤ → Type 0
InRange t n = InShape (width_of t) (signed_of t) n

-- the number of the type's range that equals n modulo the type's size (6.3.1.3)
abbrev pub wrap_of : IntType → ℤ → ℤ
wrap_of t n = wrap_at (width_of t) (signed_of t) n

-- the bits of a number of a type, read as a number without a sign
abbrev pub pattern_of : IntType → ℤ → ℕ
pattern_of t a = bits_at (width_of t) a

-- the bitwise operations (6.5.3.3, 6.5.10 to 6.5.12)
abbrev pub and_of : IntType → ℤ → ℤ → ℤ
and_of t a b = and_at (width_of t) (signed_of t) a b

abbrev pub or_of : IntType → ℤ → ℤ → ℤ
or_of t a b = or_at (width_of t) (signed_of t) a b

abbrev pub xor_of : IntType → ℤ → ℤ → ℤ
xor_of t a b = xor_at (width_of t) (signed_of t) a b

abbrev pub not_of : IntType → ℤ → ℤ
not_of t a = not_at (width_of t) (signed_of t) a
