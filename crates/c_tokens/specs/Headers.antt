-- The headers: which names each gives, and what each name is (7.2, 7.10, 7.18, 7.19, 7.20).
use Rattle.std.specs.Prelude.{ℕ, ◌-◌, List, [], ◌∷◌, codes, ℤ, pos, ◌-ℤ◌}
use Rattle.kv_num.specs.declared.types.IntType.{IntType}
use Rattle.kv_num.specs.declared.types.IntType.TheVariants.{SChar, UChar, Short, UShort, Int, UInt, LongLong, ULongLong}
use Rattle.kv_num.specs.IntType.{size_of, below_of}
use Rattle.c_tokens.specs.declared.token.TokenKind.{TokenKind}
use Rattle.c_tokens.specs.declared.token.TokenKind.TheVariants.{TypeWord, Constant, Bool as BoolWord}
use Rattle.c_tokens.specs.declared.data_model.DataModel.{DataModel}
use Rattle.c_tokens.specs.declared.data_model.DataModel.TheVariants.{Lp64, Ilp32}
use Rattle.c_tokens.specs.Constants.{long_of, unsigned_long_of}

pub data Header : Type 0 where
  AssertHeader : Header
  LimitsHeader : Header
  StdboolHeader : Header
  StddefHeader : Header
  StdintHeader : Header

-- the spellings in an `#include` (6.10.2)
unfoldable pub headers : List (List ℕ × Header)
headers = (codes "<assert.h>", AssertHeader) ∷ (codes "\"assert.h\"", AssertHeader)
    ∷ (codes "<limits.h>", LimitsHeader) ∷ (codes "\"limits.h\"", LimitsHeader)
    ∷ (codes "<stdbool.h>", StdboolHeader) ∷ (codes "\"stdbool.h\"", StdboolHeader)
    ∷ (codes "<stddef.h>", StddefHeader) ∷ (codes "\"stddef.h\"", StddefHeader)
    ∷ (codes "<stdint.h>", StdintHeader) ∷ (codes "\"stdint.h\"", StdintHeader) ∷ []

-- the type of the result of `sizeof` (6.5.3.4p5), and of a difference of pointers (6.5.6p9)
abbrev pub size_type : DataModel → IntType
size_type Lp64 = unsigned_long_of Lp64
size_type Ilp32 = UInt

abbrev pub difference_type : DataModel → IntType
difference_type Lp64 = long_of Lp64
difference_type Ilp32 = Int

-- the types of 64 bits (7.20.1.1)
abbrev pub wide_of : DataModel → IntType
wide_of Lp64 = long_of Lp64
wide_of Ilp32 = LongLong

abbrev pub unsigned_wide_of : DataModel → IntType
unsigned_wide_of Lp64 = unsigned_long_of Lp64
unsigned_wide_of Ilp32 = ULongLong

-- a type's least and greatest number
abbrev pub least_of : IntType → ℤ
least_of t = pos 0 -ℤ pos (below_of t)

abbrev pub greatest_of : IntType → ℤ
greatest_of t = pos (size_of t - below_of t - 1)

-- the least and the greatest number of the first type, as constants of the second, to which it promotes (7.10p2)
abbrev pub min_as : IntType → IntType → TokenKind
min_as t promoted = Constant promoted (least_of t)

abbrev pub max_as : IntType → IntType → TokenKind
max_as t promoted = Constant promoted (greatest_of t)

unfoldable pub stdbool_names : List (List ℕ × TokenKind)
stdbool_names = (codes "bool", BoolWord) ∷ (codes "true", Constant Int (pos 1)) ∷ (codes "false", Constant Int (pos 0)) ∷ []

unfoldable pub stddef_names : DataModel → List (List ℕ × TokenKind)
stddef_names model = (codes "NULL", Constant Int (pos 0)) ∷ (codes "size_t", TypeWord (size_type model))
    ∷ (codes "ptrdiff_t", TypeWord (difference_type model)) ∷ []

unfoldable pub stdint_names : DataModel → List (List ℕ × TokenKind)
stdint_names model =
    (codes "int8_t", TypeWord SChar) ∷ (codes "uint8_t", TypeWord UChar)
    ∷ (codes "int16_t", TypeWord Short) ∷ (codes "uint16_t", TypeWord UShort)
    ∷ (codes "int32_t", TypeWord Int) ∷ (codes "uint32_t", TypeWord UInt)
    ∷ (codes "int64_t", TypeWord (wide_of model)) ∷ (codes "uint64_t", TypeWord (unsigned_wide_of model))
    ∷ (codes "INT8_MIN", min_as SChar Int) ∷ (codes "INT8_MAX", max_as SChar Int) ∷ (codes "UINT8_MAX", max_as UChar Int)
    ∷ (codes "INT16_MIN", min_as Short Int) ∷ (codes "INT16_MAX", max_as Short Int) ∷ (codes "UINT16_MAX", max_as UShort Int)
    ∷ (codes "INT32_MIN", min_as Int Int) ∷ (codes "INT32_MAX", max_as Int Int) ∷ (codes "UINT32_MAX", max_as UInt UInt)
    ∷ (codes "INT64_MIN", min_as (wide_of model) (wide_of model))
    ∷ (codes "INT64_MAX", max_as (wide_of model) (wide_of model))
    ∷ (codes "UINT64_MAX", max_as (unsigned_wide_of model) (unsigned_wide_of model)) ∷ []

unfoldable pub limits_names : DataModel → List (List ℕ × TokenKind)
limits_names model =
    (codes "CHAR_BIT", Constant Int (pos 8))
    ∷ (codes "SCHAR_MIN", min_as SChar Int) ∷ (codes "SCHAR_MAX", max_as SChar Int) ∷ (codes "UCHAR_MAX", max_as UChar Int)
    ∷ (codes "CHAR_MIN", min_as SChar Int) ∷ (codes "CHAR_MAX", max_as SChar Int)
    ∷ (codes "SHRT_MIN", min_as Short Int) ∷ (codes "SHRT_MAX", max_as Short Int) ∷ (codes "USHRT_MAX", max_as UShort Int)
    ∷ (codes "INT_MIN", min_as Int Int) ∷ (codes "INT_MAX", max_as Int Int) ∷ (codes "UINT_MAX", max_as UInt UInt)
    ∷ (codes "LONG_MIN", min_as (long_of model) (long_of model))
    ∷ (codes "LONG_MAX", max_as (long_of model) (long_of model))
    ∷ (codes "ULONG_MAX", max_as (unsigned_long_of model) (unsigned_long_of model))
    ∷ (codes "LLONG_MIN", min_as LongLong LongLong) ∷ (codes "LLONG_MAX", max_as LongLong LongLong)
    ∷ (codes "ULLONG_MAX", max_as ULongLong ULongLong) ∷ []

-- what a header gives
abbrev pub names_of : DataModel → Header → List (List ℕ × TokenKind)
names_of model AssertHeader = []
names_of model LimitsHeader = limits_names model
names_of model StdboolHeader = stdbool_names
names_of model StddefHeader = stddef_names model
names_of model StdintHeader = stdint_names model
