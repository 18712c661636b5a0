-- Numbers of the code as those of the definition.
use Rattle.std.specs.Prelude.{ℕ, Bool, ◌||◌, ◌==◌, List, [], ◌∷◌, map, if◌then◌else◌}
use Rattle.kv_num.specs.declared.types.IntType.{IntType}
use Rattle.kv_num.specs.declared.types.IntType.TheVariants.{Int, UInt, LongLong, ULongLong}
use Rattle.c_tokens.specs.declared.data_model.DataModel.{DataModel}
use Rattle.c_tokens.specs.Constants.{Suffix as SpecSuffix, Least as SpecLeast, FromInt, FromLong, FromLongLong, Number as SpecNumber, Whole, TooLarge, Floating, NoConstant, long_of, unsigned_long_of, skipped, is_hexadecimal}
use Rattle.std.specs.List.{list_any}
use Rattle.c_scan.specs.declared.constants.Least.{Least}
use Rattle.c_scan.specs.declared.constants.Least.TheVariants as leasts
use Rattle.c_scan.specs.declared.constants.Suffix.{Suffix}
use Rattle.c_scan.specs.declared.constants.SuffixRow.{SuffixRow}
use Rattle.c_scan.specs.declared.constants.Number.{Number}
use Rattle.c_scan.specs.declared.constants.Number.TheVariants as numbers

abbrev pub least_of : Least → SpecLeast
least_of leasts.Int = FromInt
least_of leasts.Long = FromLong
least_of leasts.LongLong = FromLongLong

abbrev pub suffix_view : Suffix → SpecSuffix
suffix_view s = record { unsigned = s.unsigned; least = least_of s.least }

abbrev pub suffix_rows : List SuffixRow → List (List ℕ × SpecSuffix)
suffix_rows table = map (λ row. (row.text.now, suffix_view row.suffix)) table

abbrev pub number_view : Number → SpecNumber
number_view (numbers.Whole kind value) = Whole kind value
number_view numbers.TooLarge = TooLarge
number_view numbers.Floating = Floating
number_view numbers.NoConstant = NoConstant

-- the types of a constant whose suffix names no length
abbrev pub column : DataModel → Bool → Bool → List IntType
column model unsigned decimal =
    if unsigned then UInt ∷ unsigned_long_of model ∷ ULongLong ∷ []
    else if decimal then Int ∷ long_of model ∷ LongLong ∷ []
    else Int ∷ UInt ∷ long_of model ∷ unsigned_long_of model ∷ LongLong ∷ ULongLong ∷ []

abbrev pub skipped_of : Bool → Bool → Least → ℕ
skipped_of unsigned decimal least = skipped (if unsigned || decimal then 1 else 2) (least_of least)

-- the letter of an exponent stands in the text
abbrev pub has_exponent : List ℕ → Bool
has_exponent text = if is_hexadecimal text then list_any (λ c. c == 80 || c == 112) text else list_any (λ c. c == 69 || c == 101) text
