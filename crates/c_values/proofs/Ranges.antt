-- Numbers of integer types: which are in range, by a test and by its clause.
use Rattle.std.proofs.Common.{arith, ◌≡◌, ◌≢◌, ◌↔◌, ℕ, ℤ, pos, negsuc, ◌≤ℤ◌, Bool, true, false, IsTrue, not, ◌&&◌, refl, sym, ap, ◌∙◌}
use Rattle.std.specs.Prelude.{int_lt}
use Rattle.std.proofs.lemmas.Int.{ints}
use Rattle.std.specs.Prelude.{if◌then◌else◌}
use Rattle.std.specs.Ordering.{int_eq}
use Rattle.std.proofs.lemmas.Bool.{false_from_ne_true}
use Rattle.std.proofs.lemmas.Bool.Decides.{Decides-int_eq}
use Rattle.kv_num.specs.declared.types.IntType.{IntType}
use Rattle.kv_num.specs.declared.types.IntType.TheVariants.{Bool as B}
use Rattle.kv_num.specs.declared.types.Num.{Num}
use Rattle.kv_num.specs.IntType.{InRange, signed_of, wrap_of}
use Rattle.c_kinds.specs.Integers.{truth, is_in_range}
use Rattle.c_rules.specs.declared.checks.Checks.{Checks}
use Rattle.c_model.specs.declared.values.Outcome.{Outcome}
use Rattle.c_model.specs.declared.values.Outcome.TheVariants.{Unmet}
use Rattle.c_model.specs.Arithmetic.{is_asked, if_fitting, left_fits, shifted_left, wrapped, quotient, remainder}
use Rattle.c_rules.specs.declared.checks.CheckKind.TheVariants.{Division}
use Rattle.kv_num.specs.Quotient.{quotient_of, remainder_of}
use Rattle.c_arithmetic.proofs.Numbers.{test_is, wrapped_in_range}

-- a truth is in the range of each type
pub truth_in_range : (k : IntType) (holds : Bool) → InRange k (truth holds)
truth_in_range B true = wrapped_in_range B (pos 1)
truth_in_range B false = wrapped_in_range B (pos 0)
truth_in_range k true = wrapped_in_range k (pos 1)
truth_in_range k false = wrapped_in_range k (pos 0)

-- a result by the clauses of what computes it
pub fitting_is : (checks : Checks) (k : IntType) (num : Num) (exact value : ℤ) → num.value ≡ value → IsTrue num.fits ↔ InRange k exact
    → if_fitting (is_asked checks k) num.fits num.value ≡ if_fitting (is_asked checks k) (is_in_range k exact) value
fitting_is checks k num exact value is fits =
    ap (λ b. if_fitting (is_asked checks k) b num.value) (test_is k exact num.fits fits)
    ∙ ap (λ v. if_fitting (is_asked checks k) (is_in_range k exact) v) is

-- ---- shifts to the left

nonnegative : (m : ℕ) → int_lt (pos m) (pos 0) ≡ false
nonnegative m = grind (arith, ints)

negative : (m : ℕ) → int_lt (negsuc m) (pos 0) ≡ true
negative m = grind (arith, ints)

never : (b : Bool) (m : ℕ) → (IsTrue b → pos 0 ≤ℤ negsuc m) → b ≡ false
never true m h = let low = h refl in absurd (omega (arith, ints, low))
never false m h = refl

shift_fits : (k : IntType) (a exact : ℤ) (b : Bool) → IsTrue b ↔ ((pos 0 ≤ℤ a) × InRange k exact) → b ≡ left_fits k a exact
shift_fits k (pos m) exact b fits =
    let low : pos 0 ≤ℤ pos m = omega (arith, ints) in
    test_is k exact b (λ is. (fits.0 is).1, λ is. fits.1 (low, is)) ∙ ap (λ t. not t && is_in_range k exact) (sym (nonnegative m))
shift_fits k (negsuc m) exact b fits = never b m (λ is. (fits.0 is).0) ∙ ap (λ t. not t && is_in_range k exact) (sym (negative m))

pub raised_is : (checks : Checks) (k : IntType) (num : Num) (a exact : ℤ) → num.value ≡ wrap_of k exact → IsTrue num.fits ↔ ((pos 0 ≤ℤ a) × InRange k exact)
    → if_fitting (signed_of k && checks.signed_overflow) num.fits num.value ≡ shifted_left checks k a exact
raised_is checks k num a exact is fits =
    ap (λ b. if_fitting (signed_of k && checks.signed_overflow) b num.value) (shift_fits k a exact num.fits fits)
    ∙ ap (λ v. if_fitting (signed_of k && checks.signed_overflow) (left_fits k a exact) v) is

-- ---- divisions by another number than 0

if_other : (b : ℤ) (x y : Outcome) → b ≢ pos 0 → y ≡ (if int_eq b (pos 0) then x else y)
if_other b x y other = ap (λ t. if t then x else y) (sym (false_from_ne_true (int_eq b (pos 0)) (λ e. other ((Decides-int_eq b (pos 0)).0 e))))

pub quotient_is : (checks : Checks) (k : IntType) (a b : ℤ) → b ≢ pos 0 → wrapped checks k (quotient_of a b) ≡ quotient checks k a b
quotient_is checks k a b other = if_other b (Unmet Division) (wrapped checks k (quotient_of a b)) other

pub remainder_is : (checks : Checks) (k : IntType) (a b : ℤ) → b ≢ pos 0 → if_fitting (is_asked checks k) (is_in_range k (quotient_of a b)) (remainder_of a b) ≡ remainder checks k a b
remainder_is checks k a b other = if_other b (Unmet Division) (if_fitting (is_asked checks k) (is_in_range k (quotient_of a b)) (remainder_of a b)) other
