-- Numbers of integer types: that one fits its type, by a test and by its range.
use Rattle.std.proofs.Common.{◌≡◌, ◌↔◌, ℤ, Bool, true, false, IsTrue, not, ◌&&◌, ◌||◌, if◌then◌else◌, refl, sym, ap, subst, ◌∙◌, ⊎_elim, eqb}
use Rattle.std.specs.Prelude.{pos}
use Rattle.std.specs.Ordering.{int_eq}
use Rattle.std.proofs.lemmas.Bool.{cases_Bool, false≢true}
use Rattle.std.proofs.lemmas.Bool.Decides.{Decides-int_eq}
use Rattle.kv_num.specs.declared.types.IntType.{IntType}
use Rattle.kv_num.specs.declared.types.IntType.TheVariants.{Bool as B, Char, SChar, UChar, Short, UShort, Int, UInt, Long32, ULong32, Long, ULong, LongLong, ULongLong}
use Rattle.kv_num.specs.declared.types.Num.{Num}
use Rattle.kv_num.specs.IntType.{InRange, signed_of, width_of, wrap_of}
use Rattle.kv_num.proofs.Shapes.{range-wrap_at, wrap_at-in_shape}
use Rattle.c_kinds.specs.declared.typed.Fixed.{Fixed}
use Rattle.c_kinds.specs.declared.typed.Fixed.TheVariants.{NoValue, Number}
use Rattle.c_kinds.specs.Integers.{is_in_range}
use Rattle.c_kinds.specs.Constants.{computed}

pub wrapped_in_range : (k : IntType) (n : ℤ) → InRange k (wrap_of k n)
wrapped_in_range k n = range-wrap_at (width_of k) (signed_of k) n

pub in_range_wrapped : (k : IntType) (n : ℤ) → InRange k n → wrap_of k n ≡ n
in_range_wrapped k n is = wrap_at-in_shape (width_of k) (signed_of k) n is

-- the test of a range
pub test_is : (k : IntType) (n : ℤ) (b : Bool) → IsTrue b ↔ InRange k n → b ≡ is_in_range k n
test_is k n true fits = sym ((Decides-int_eq (wrap_of k n) n).1 (in_range_wrapped k n (fits.0 refl)))
test_is k n false fits =
    ⊎_elim (λ is. absurd (false≢true (fits.1 (subst (InRange k) ((Decides-int_eq (wrap_of k n) n).0 is) (wrapped_in_range k n))))) (λ is. sym is) (cases_Bool (int_eq (wrap_of k n) n))

-- a result that fits, or is unsigned, has its value
pub computed_is : (k : IntType) (num : Num) (n : ℤ) → num.value ≡ wrap_of k n → IsTrue num.fits ↔ InRange k n
    → (if signed_of k && not num.fits then NoValue else Number num.value) ≡ computed k n
computed_is k num n value fits =
    ap (λ b. if signed_of k && not b then NoValue else Number num.value) (test_is k n num.fits fits)
    ∙ ap (λ v. if signed_of k && not (is_in_range k n) then NoValue else Number v) value
