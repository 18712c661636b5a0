-- Results of divisions and negations as constants.
use Rattle.std.proofs.Common.{arith, ◌≡◌, ◌↔◌, ℤ, Bool, true, false, IsTrue, not, ◌||◌, if◌then◌else◌, refl, sym, ap, subst, ◌∙◌}
use Rattle.std.proofs.lemmas.Int.{ints}
use Rattle.std.specs.Prelude.{pos, neg_ℤ, ◌-ℤ◌}
use Rattle.std.specs.Ordering.{int_eq}
use Rattle.std.proofs.lemmas.Bool.{cond-true, or_left, false_from_ne_true}
use Rattle.std.proofs.lemmas.Bool.Decides.{Decides-int_eq}
use Rattle.kv_num.specs.declared.types.IntType.{IntType}
use Rattle.kv_num.specs.declared.types.IntType.TheVariants.{Bool as B}
use Rattle.kv_num.specs.declared.types.Num.{Num}
use Rattle.kv_num.specs.IntType.{InRange, wrap_of}
use Rattle.kv_num.specs.Quotient.{quotient_of, remainder_of}
use Rattle.c_kinds.specs.declared.typed.Fixed.{Fixed}
use Rattle.c_kinds.specs.declared.typed.Fixed.TheVariants.{NoValue, Number}
use Rattle.c_kinds.specs.Integers.{is_in_range}
use Rattle.c_kinds.specs.Constants.{divided}
use Rattle.c_arithmetic.proofs.Numbers.{wrapped_in_range, in_range_wrapped, test_is}

-- ---- quotients and remainders

pub divided_by_zero : (k : IntType) (a b r : ℤ) → b ≡ pos 0 → divided k a b r ≡ NoValue
divided_by_zero k a b r e = cond-true (int_eq b (pos 0) || not (is_in_range k (quotient_of a b))) NoValue (Number (wrap_of k r)) (or_left (int_eq b (pos 0)) (not (is_in_range k (quotient_of a b))) ((Decides-int_eq b (pos 0)).1 e))

int_eq_not : (b : ℤ) → (b ≡ pos 0 → ⊥) → int_eq b (pos 0) ≡ false
int_eq_not b h = false_from_ne_true (int_eq b (pos 0)) (λ e. h ((Decides-int_eq b (pos 0)).0 e))

pub divided_is : (k : IntType) (num : Num) (a b r : ℤ) → (b ≡ pos 0 → ⊥) → num.value ≡ wrap_of k r → IsTrue num.fits ↔ InRange k (quotient_of a b)
    → (if num.fits then Number num.value else NoValue) ≡ divided k a b r
divided_is k num a b r h value fits =
    turned num.fits (Number num.value) NoValue
    ∙ ap (λ t. if not t then NoValue else Number num.value) (test_is k (quotient_of a b) num.fits fits)
    ∙ ap (λ z. if z || not (is_in_range k (quotient_of a b)) then NoValue else Number num.value) (sym (int_eq_not b h))
    ∙ ap (λ v. if int_eq b (pos 0) || not (is_in_range k (quotient_of a b)) then NoValue else Number v) value
  where
    turned : (t : Bool) (x y : Fixed) → (if t then x else y) ≡ (if not t then y else x)
    turned true x y = refl
    turned false x y = refl

-- a remainder of a number of the type is one of the type
pub remainder_wrapped : (k : IntType) (a b : ℤ) → InRange k (remainder_of a b) → remainder_of a b ≡ wrap_of k (remainder_of a b)
remainder_wrapped k a b is = sym (in_range_wrapped k (remainder_of a b) is)

-- ---- negations

zero_wrapped : (k : IntType) → wrap_of k (pos 0) ≡ pos 0
zero_wrapped B = refl
zero_wrapped k = refl

pub zero_in_range : (k : IntType) → InRange k (pos 0)
zero_in_range k = subst (InRange k) (zero_wrapped k) (wrapped_in_range k (pos 0))

pub taken_from_zero : (a : ℤ) → pos 0 -ℤ a ≡ neg_ℤ a
taken_from_zero a = omega (arith, ints)
