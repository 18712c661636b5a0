-- Numbers: the values and types of integer constants (6.4.4.1), and floating constants.
use Rattle.std.specs.Prelude.{ℕ, ◌-◌, ◌*◌, Bool, true, false, ◌||◌, ◌==◌, nat_lt, List, [], ◌∷◌, take, drop, Option, Some, None, if◌then◌else◌, codes, ℤ, pos, ◌-ℤ◌}
use Rattle.std.specs.List.{list_any}
use Rattle.kv_num.specs.declared.types.IntType.{IntType}
use Rattle.kv_num.specs.declared.types.IntType.TheVariants.{Int, UInt, Long32, ULong32, Long, ULong, LongLong, ULongLong}
use Rattle.kv_num.specs.IntType.{size_of, below_of}
use Rattle.c_tokens.specs.declared.data_model.DataModel.{DataModel}
use Rattle.c_tokens.specs.declared.data_model.DataModel.TheVariants.{Lp64, Ilp32}
use Rattle.c_tokens.specs.Words.{lookup}
use Rattle.c_tokens.specs.Pieces.{digit_value, written, begins_with, run_size}

-- ---- suffixes

-- the narrowest type that a suffix leaves
pub data Least : Type 0 where
  FromInt : Least
  FromLong : Least
  FromLongLong : Least

pub record Suffix : Type 0 where
  pub unsigned : Bool
  pub least : Least

abbrev pub suffix : Bool → Least → Suffix
suffix unsigned least = record { unsigned = unsigned; least = least }

-- `u` or `U`, and `l`, `L`, `ll` or `LL`, in either order; each part may be missing
unfoldable pub suffixes : List (List ℕ × Suffix)
suffixes = (codes "", suffix false FromInt)
    ∷ (codes "l", suffix false FromLong) ∷ (codes "L", suffix false FromLong)
    ∷ (codes "ll", suffix false FromLongLong) ∷ (codes "LL", suffix false FromLongLong)
    ∷ (codes "u", suffix true FromInt) ∷ (codes "U", suffix true FromInt)
    ∷ (codes "ul", suffix true FromLong) ∷ (codes "uL", suffix true FromLong)
    ∷ (codes "Ul", suffix true FromLong) ∷ (codes "UL", suffix true FromLong)
    ∷ (codes "lu", suffix true FromLong) ∷ (codes "Lu", suffix true FromLong)
    ∷ (codes "lU", suffix true FromLong) ∷ (codes "LU", suffix true FromLong)
    ∷ (codes "ull", suffix true FromLongLong) ∷ (codes "uLL", suffix true FromLongLong)
    ∷ (codes "Ull", suffix true FromLongLong) ∷ (codes "ULL", suffix true FromLongLong)
    ∷ (codes "llu", suffix true FromLongLong) ∷ (codes "LLu", suffix true FromLongLong)
    ∷ (codes "llU", suffix true FromLongLong) ∷ (codes "LLU", suffix true FromLongLong) ∷ []

-- ---- types

-- `long` and `unsigned long`
abbrev pub long_of : DataModel → IntType
long_of Lp64 = Long
long_of Ilp32 = Long32

abbrev pub unsigned_long_of : DataModel → IntType
unsigned_long_of Lp64 = ULong
unsigned_long_of Ilp32 = ULong32

-- how many types of a list come before the least one, where each rank has this many types there
abbrev pub skipped : ℕ → Least → ℕ
skipped each FromInt = 0
skipped each FromLong = each
skipped each FromLongLong = 2 * each

-- the types that a constant may have, in their order (6.4.4.1p5)
abbrev pub candidates : DataModel → Bool → Suffix → List IntType
candidates model is_decimal s =
    if s.unsigned then drop (skipped 1 s.least) (UInt ∷ unsigned_long_of model ∷ ULongLong ∷ [])
    else if is_decimal then drop (skipped 1 s.least) (Int ∷ long_of model ∷ LongLong ∷ [])
    else drop (skipped 2 s.least) (Int ∷ UInt ∷ long_of model ∷ unsigned_long_of model ∷ LongLong ∷ ULongLong ∷ [])

-- the first of these types that can represent the value
abbrev pub first_for : List IntType → ℕ → Option IntType
first_for [] value = None
first_for (t ∷ types) value = if nat_lt value (size_of t - below_of t) then Some t else first_for types value

-- ---- numbers

-- what a number is
pub data Number : Type 0 where
  Whole : (kind : IntType) → (value : ℕ) → Number
  TooLarge : Number
  Floating : Number
  NoConstant : Number

abbrev pub is_hexadecimal : List ℕ → Bool
is_hexadecimal text = begins_with (codes "0x") text || begins_with (codes "0X") text

-- decimal digits not beginning with 0, octal digits beginning with 0, or hexadecimal digits after `0x` or `0X`
abbrev pub base_of : List ℕ → ℕ
base_of text = if is_hexadecimal text then 16 else if begins_with (codes "0") text then 8 else 10

abbrev pub body_of : List ℕ → List ℕ
body_of text = if is_hexadecimal text then drop 2 text else text

abbrev pub digit_count : ℕ → List ℕ → ℕ
digit_count base body = run_size (λ before c. nat_lt (digit_value c) base) 0 body

-- the suffix of an integer constant, where the text has the form of one
unfoldable pub suffix_of : List ℕ → Option Suffix
suffix_of text =
    let count = digit_count (base_of text) (body_of text) in
    if count == 0 then None else lookup suffixes (drop count (body_of text))

unfoldable pub value_of : List ℕ → ℕ
value_of text = written (base_of text) (take (digit_count (base_of text) (body_of text)) (body_of text))

abbrev pub is_floating : List ℕ → Bool
is_floating text = list_any (λ c. c == 46) text
    || (if is_hexadecimal text then list_any (λ c. c == 80 || c == 112) text else list_any (λ c. c == 69 || c == 101) text)

abbrev pub typed : Option IntType → ℕ → Number
typed (Some kind) value = Whole kind value
typed None value = TooLarge

unfoldable pub number_of : DataModel → List ℕ → Number
number_of model text =
    elim (suffix_of text) as (λ _. Number) [
      | Some s ↦ typed (first_for (candidates model (base_of text == 10) s) (value_of text)) (value_of text)
      | None ↦ if is_floating text then Floating else NoConstant
    ]

-- ---- characters

-- the value of a byte as a char, which is signed (6.4.4.4p10)
abbrev pub char_value : ℕ → ℤ
char_value byte = if nat_lt byte 128 then pos byte else pos byte -ℤ pos 256
