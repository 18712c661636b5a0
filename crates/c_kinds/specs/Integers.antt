-- Conversions of integers (6.3.1), and the integer types of a data model. Sections are those of ISO/IEC 9899:2011.
use Rattle.std.specs.Prelude.{ℕ, nat_lt, nat_le, ℤ, pos, Bool, not, if◌then◌else◌}
use Rattle.std.specs.Ordering.{int_eq}
use Rattle.kv_num.specs.declared.types.IntType.{IntType}
use Rattle.kv_num.specs.declared.types.IntType.TheVariants.{Bool as B, Char, SChar, UChar, Short, UShort, Int, UInt, Long32, ULong32, Long, ULong, LongLong, ULongLong}
use Rattle.kv_num.specs.IntType.{width_of, signed_of, wrap_of}
use Rattle.c_tokens.specs.declared.data_model.DataModel.{DataModel}
use Rattle.c_tokens.specs.declared.data_model.DataModel.TheVariants.{Lp64, Ilp32}
use Rattle.c_kinds.specs.Types.{same_bool}

-- ---- ranks and conversions

-- 6.3.1.1p1
abbrev pub rank_of : IntType → ℕ
rank_of B = 0
rank_of Char = 1
rank_of SChar = 1
rank_of UChar = 1
rank_of Short = 2
rank_of UShort = 2
rank_of Int = 3
rank_of UInt = 3
rank_of Long32 = 4
rank_of ULong32 = 4
rank_of Long = 4
rank_of ULong = 4
rank_of LongLong = 5
rank_of ULongLong = 5

-- the integer promotions (6.3.1.1p2): int represents all values of the types of lower rank
abbrev pub promoted : IntType → IntType
promoted k = if nat_lt (rank_of k) 3 then Int else k

-- the unsigned type that corresponds to a signed one (6.2.5p6), of those of int's rank and above
abbrev pub unsigned_of : IntType → IntType
unsigned_of Int = UInt
unsigned_of Long32 = ULong32
unsigned_of Long = ULong
unsigned_of LongLong = ULongLong
unsigned_of k = k

abbrev pub higher : IntType → IntType → IntType
higher k l = if nat_le (rank_of l) (rank_of k) then k else l

-- the signed type represents all values of the unsigned one
abbrev pub represents : IntType → IntType → Bool
represents signed unsigned = nat_lt (width_of unsigned) (width_of signed)

-- of an unsigned and a signed type
abbrev pub mixed : IntType → IntType → IntType
mixed u s = if nat_le (rank_of s) (rank_of u) then u else (if represents s u then s else unsigned_of s)

abbrev pub common : IntType → IntType → IntType
common k l = if same_bool (signed_of k) (signed_of l) then higher k l else (if signed_of k then mixed l k else mixed k l)

-- the usual arithmetic conversions (6.3.1.8)
abbrev pub usual : IntType → IntType → IntType
usual k l = common (promoted k) (promoted l)

abbrev pub truth : Bool → ℤ
truth c = if c then pos 1 else pos 0

-- a number converted to a type (6.3.1.2, 6.3.1.3)
abbrev pub converted : IntType → ℤ → ℤ
converted B n = truth (not (int_eq n (pos 0)))
converted k n = wrap_of k n

abbrev pub is_in_range : IntType → ℤ → Bool
is_in_range k n = int_eq (wrap_of k n) n

-- ---- data models

abbrev pub long_of : DataModel → IntType
long_of Lp64 = Long
long_of Ilp32 = Long32

abbrev pub unsigned_long_of : DataModel → IntType
unsigned_long_of Lp64 = ULong
unsigned_long_of Ilp32 = ULong32

-- the type of `sizeof` (6.5.3.4p5): what `size_t` is, unsigned long or, where that has 32 bits, unsigned int
abbrev pub size_type : DataModel → IntType
size_type Lp64 = ULong
size_type Ilp32 = UInt

abbrev pub pointer_bytes : DataModel → ℕ
pointer_bytes Lp64 = 8
pointer_bytes Ilp32 = 4

abbrev pub bytes_of : IntType → ℕ
bytes_of B = 1
bytes_of Char = 1
bytes_of SChar = 1
bytes_of UChar = 1
bytes_of Short = 2
bytes_of UShort = 2
bytes_of Int = 4
bytes_of UInt = 4
bytes_of Long32 = 4
bytes_of ULong32 = 4
bytes_of Long = 8
bytes_of ULong = 8
bytes_of LongLong = 8
bytes_of ULongLong = 8
