-- Operations on constants of a shape.
use Rattle.std.proofs.Common.{arith, ◌≡◌, ℕ, ◌^◌, ◌<◌, ◌≤◌, Bool, true, false, not, ◌&&◌, ℤ, pos, negsuc, ◌+ℤ◌, ◌≤ℤ◌, ◌<ℤ◌, nat_lt, to_z, of_z, FitsSigned, refl, sym, ap, subst, ◌∙◌, if◌then◌else◌}
use Rattle.std.proofs.lemmas.Int.{ints, to_z-of_z}
use Rattle.std.proofs.lemmas.Grind.{common_steps}
use Rattle.std.proofs.Math.Nat.{mod-eq_of_lt}
use lib.Signed.{lt_z, le_z}
use Rattle.std.specs.Prelude.{unsigned_abs, int_le, int_lt, IsTrue, ◌↔◌, Some}
use Rattle.std.specs.Ordering.{int_eq}
use Rattle.kv_num.specs.Quotient.{quotient_of, remainder_of}
use Rattle.kv_num.specs.Shift.{left_of, right_of}
use Rattle.kv_num.specs.Shape.{bits_at, below_at}
use Rattle.kv_num.proofs.Shapes.{wrap_at-in_shape}
use Rattle.term_core.specs.declared.term.Shape.{Shape}
use Rattle.term_core.specs.declared.term.BinaryOp.{BinaryOp}
use Rattle.term_core.specs.declared.term.BinaryOp.TheVariants.{ShiftLeft, ShiftRight}
use Rattle.term_core.specs.Shape.{IsShape, HasShape, has_shape, wrap_to}
use Rattle.term_core.specs.Term.{truth, fits_value, binary_value, result_shape, quotient_by, remainder_by, OperandsFit}
use mir.Val.{bool_byte}
use Rattle.std.specs.Int.{w128}
use Rattle.term_core.proofs.Values.{range-binary, range-truth}
use Rattle.term_fold.specs.declared.operands.Operands.{Operands}
use Rattle.term_fold.specs.declared.operands.Pick.TheVariants.{Number}
use Rattle.term_fold.specs.Picks.{IsPickOf, IsFitsPick}
use Rattle.term_fold.proofs.Simplifications.{constant_is}

as_wrapped : (s : Shape) (n : ℤ) → HasShape s n → n ≡ wrap_to s n
as_wrapped s n h = sym (wrap_at-in_shape s.width s.signed n h)

chosen_last : (b : Bool) (m n : ℤ) → b ≡ false → (if b then m else n) ≡ n
chosen_last true m n e = absurd cc
chosen_last false m n e = refl

chosen_first : (b : Bool) (m n : ℤ) → b ≡ true → (if b then m else n) ≡ m
chosen_first true m n e = refl
chosen_first false m n e = absurd cc

apart : (a b : ℤ) → (a ≡ b → ⊥) → int_eq a b ≡ false
apart a b h = grind (arith, ints)

-- ---- remainders

pub rem_constant : (s : Shape) (a b n : ℤ) → n ≡ remainder_of a b → (b ≡ pos 0 → ⊥) → HasShape s n → n ≡ wrap_to s (remainder_by a b)
rem_constant s a b n e h is = as_wrapped s n is ∙ ap (wrap_to s) (e ∙ sym (chosen_last (int_eq b (pos 0)) (pos 0) (remainder_of a b) (apart b (pos 0) h)))

-- ---- shifts

below_half : (d b s : ℕ) → (pos d +ℤ pos b) <ℤ pos s → d < s
below_half d b s h = omega (arith, ints)

bits_distance : (r : Shape) (d : ℕ) → HasShape r (pos d) → bits_at r.width (pos d) ≡ d
bits_distance r d h = mod-eq_of_lt (below_half d (below_at r.width r.signed) (2 ^ r.width) h.most)

less_test : (d w : ℕ) → d < w → nat_lt d w ≡ true
less_test d w h = grind (arith, common_steps)

pub shl_constant : (s : Shape) (r : Shape) (a n : ℤ) (d : ℕ) → n ≡ wrap_to s (left_of a d) → d < s.width → HasShape r (pos d) → n ≡ binary_value s r ShiftLeft a (pos d)
shl_constant s r a n d e h is = e ∙ ap (wrap_to s) (sym
    (ap (λ x. if nat_lt x s.width then left_of a x else pos 0) (bits_distance r d is) ∙ chosen_first (nat_lt d s.width) (left_of a d) (pos 0) (less_test d s.width h)))

pub shr_constant : (s : Shape) (r : Shape) (a n : ℤ) (d : ℕ) → n ≡ right_of a d → HasShape s n → d < s.width → HasShape r (pos d) → n ≡ binary_value s r ShiftRight a (pos d)
shr_constant s r a n d e range h is = as_wrapped s n range ∙ ap (wrap_to s) (e ∙ sym
    (ap (λ x. if nat_lt x s.width then right_of a x else pos 0) (bits_distance r d is) ∙ chosen_first (nat_lt d s.width) (right_of a d) (pos 0) (less_test d s.width h)))

-- the distance that a number is, as the code tests it
distance_is : (w : ℕ) (b : ℤ) → w ≤ 64 → FitsSigned w128 b → lt_z (to_z w128 (of_z w128 b)) (pos 0) ≡ false → le_z (to_z w128 w) (to_z w128 (of_z w128 b)) ≡ false → (d : ℕ) × (b ≡ pos d) × (d < w)
distance_is w (pos d) h f p q = (d, refl, omega (arith, ints))
distance_is w (negsuc d) h f p q = absurd (omega (arith, ints))

width_small : (s : Shape) (w : ℕ) → IsShape s → w ≡ s.width → w ≤ 64
width_small s w is e = let few = is.1 in omega arith

pub shl_from : (s : Shape) (r : Shape) (a n b : ℤ) (w : ℕ) → IsShape s → FitsSigned w128 a → FitsSigned w128 b → w ≡ s.width → lt_z (to_z w128 (of_z w128 b)) (pos 0) ≡ false → le_z (to_z w128 w) (to_z w128 (of_z w128 b)) ≡ false → HasShape r b
    → n ≡ wrap_to s (left_of (to_z w128 (of_z w128 a)) (unsigned_abs (to_z w128 (of_z w128 b)))) → n ≡ binary_value s r ShiftLeft a b
shl_from s r a n b w valid fa fb ew low high has e =
    let d = distance_is w b (width_small s w valid ew) fb low high in
    let P : ℤ → Type 0 = λ x. HasShape r x in
    let plain : n ≡ wrap_to s (left_of a d.0) = e ∙ (λ i. wrap_to s (left_of (to_z-of_z w128 a fa i) (unsigned_abs ((to_z-of_z w128 b fb ∙ d.1) i)))) in
    shl_constant s r a n d.0 plain (omega (arith, ew, d.2)) (subst P d.1 has) ∙ ap (binary_value s r ShiftLeft a) (sym d.1)

pub shr_from : (s : Shape) (r : Shape) (a n b : ℤ) (w : ℕ) → IsShape s → FitsSigned w128 a → FitsSigned w128 b → w ≡ s.width → lt_z (to_z w128 (of_z w128 b)) (pos 0) ≡ false → le_z (to_z w128 w) (to_z w128 (of_z w128 b)) ≡ false → HasShape r b
    → HasShape s n → n ≡ right_of (to_z w128 (of_z w128 a)) (unsigned_abs (to_z w128 (of_z w128 b))) → n ≡ binary_value s r ShiftRight a b
shr_from s r a n b w valid fa fb ew low high has range e =
    let d = distance_is w b (width_small s w valid ew) fb low high in
    let P : ℤ → Type 0 = λ x. HasShape r x in
    let plain : n ≡ right_of a d.0 = e ∙ (λ i. right_of (to_z-of_z w128 a fa i) (unsigned_abs ((to_z-of_z w128 b fb ∙ d.1) i))) in
    shr_constant s r a n d.0 plain range (omega (arith, ew, d.2)) (subst P d.1 has) ∙ ap (binary_value s r ShiftRight a) (sym d.1)

-- ---- tests

tested : (x : ℤ) (k : ℕ) (f : Bool) → (IsTrue f → (pos 0 ≤ℤ x) × (x <ℤ pos k)) → (pos 0 ≤ℤ x → x <ℤ pos k → IsTrue f) → f ≡ (int_le (pos 0) x && int_lt x (pos k))
tested x k true p q = let h = p refl in let low = h.0 in let high = h.1 in grind (arith, ints)
tested (pos m) k false p q = let g = q in grind (arith, ints)
tested (negsuc m) k false p q = grind (arith, ints)

pub fits_constant : (s : Shape) (z : ℤ) (f : Bool) → IsTrue f ↔ HasShape s z → f ≡ has_shape s z
fits_constant s z f h = tested (z +ℤ pos (below_at s.width s.signed)) (2 ^ s.width) f (λ x. let r = h.0 x in (r.least, r.most)) (λ low high. h.1 (record { least = low; most = high }))

pub fits_quotient : (s : Shape) (a b : ℤ) (f : Bool) → IsTrue f ↔ HasShape s (quotient_of a b) → (b ≡ pos 0 → ⊥) → f ≡ has_shape s (quotient_by a b)
fits_quotient s a b f h nonzero = fits_constant s (quotient_of a b) f h ∙ ap (has_shape s) (sym (chosen_last (int_eq b (pos 0)) (pos 0) (quotient_of a b) (apart b (pos 0) nonzero)))

-- ---- tests of shifts

nonnegative : (m : ℕ) → int_lt (pos m) (pos 0) ≡ false
nonnegative m = grind (arith, ints)

negative : (m : ℕ) → int_lt (negsuc m) (pos 0) ≡ true
negative m = grind (arith, ints)

never : (f : Bool) (m : ℕ) → (IsTrue f → pos 0 ≤ℤ negsuc m) → f ≡ false
never true m h = let low = h refl in absurd (omega (arith, ints, low))
never false m h = refl

shift_tested : (s : Shape) (x z : ℤ) (f : Bool) → IsTrue f ↔ ((pos 0 ≤ℤ x) × HasShape s z) → f ≡ (not (int_lt x (pos 0)) && has_shape s z)
shift_tested s (pos m) z f h =
    let low : pos 0 ≤ℤ pos m = omega (arith, ints) in
    fits_constant s z f (λ y. (h.0 y).1, λ r. h.1 (low, r)) ∙ ap (λ b. not b && has_shape s z) (sym (nonnegative m))
shift_tested s (negsuc m) z f h = never f m (λ y. (h.0 y).0) ∙ ap (λ b. not b && has_shape s z) (sym (negative m))

pub shl_fits : (s : Shape) (r : Shape) (a b : ℤ) (w : ℕ) (f : Bool) → IsShape s → FitsSigned w128 a → FitsSigned w128 b → w ≡ s.width → lt_z (to_z w128 (of_z w128 b)) (pos 0) ≡ false → le_z (to_z w128 w) (to_z w128 (of_z w128 b)) ≡ false → HasShape r b
    → IsTrue f ↔ ((pos 0 ≤ℤ to_z w128 (of_z w128 a)) × HasShape s (left_of (to_z w128 (of_z w128 a)) (unsigned_abs (to_z w128 (of_z w128 b))))) → f ≡ fits_value s r ShiftLeft a b
shl_fits s r a b w f valid fa fb ew low high has e =
    let d = distance_is w b (width_small s w valid ew) fb low high in
    let P : ℤ → Type 0 = λ x. HasShape r x in
    let Q : ℤ → Type 0 = λ x. IsTrue f ↔ ((pos 0 ≤ℤ x) × HasShape s (left_of x (unsigned_abs (to_z w128 (of_z w128 b))))) in
    let R : ℤ → Type 0 = λ x. IsTrue f ↔ ((pos 0 ≤ℤ a) × HasShape s (left_of a (unsigned_abs x))) in
    let exact : IsTrue f ↔ ((pos 0 ≤ℤ a) × HasShape s (left_of a d.0)) = subst R (to_z-of_z w128 b fb ∙ d.1) (subst Q (to_z-of_z w128 a fa) e) in
    let is : HasShape r (pos d.0) = subst P d.1 has in
    let by : (if nat_lt (bits_at r.width (pos d.0)) s.width then left_of a (bits_at r.width (pos d.0)) else pos 0) ≡ left_of a d.0 =
    ap (λ x. if nat_lt x s.width then left_of a x else pos 0) (bits_distance r d.0 is) ∙ chosen_first (nat_lt d.0 s.width) (left_of a d.0) (pos 0) (less_test d.0 s.width (omega (arith, ew, d.2))) in
    shift_tested s a (left_of a d.0) f exact ∙ ap (λ v. not (int_lt a (pos 0)) && has_shape s v) (sym by) ∙ ap (fits_value s r ShiftLeft a) (sym d.1)

-- ---- an operation on two constants

pub fit_same : (op : BinaryOp) (s r : Shape) → (op ≡ ShiftLeft → ⊥) → (op ≡ ShiftRight → ⊥) → OperandsFit op s r → r ≡ s
fit_same ShiftLeft s r p q h = absurd (p refl)
fit_same ShiftRight s r p q h = absurd (q refl)
fit_same _ s r p q h = h

pub constant_picked : (o : Operands) (op : BinaryOp) (a b n : ℤ) → o.left ≡ Some a → o.right ≡ Some b → n ≡ binary_value o.shape o.other op a b → IsPickOf op o (Number n)
constant_picked o op a b n el er e =
    let P : ℤ → Type 0 = λ x. HasShape (result_shape op o.shape) x in
    record {
      has = subst P (sym e) (range-binary o.shape o.other op a b);
      value = λ x y k. e ∙ sym (λ z. binary_value o.shape o.other op (constant_is o.left x a el k.left_is z) (constant_is o.right y b er k.right_is z));
    }

pub flag_number : (f : Bool) → to_z w128 (bool_byte f) ≡ truth f
flag_number true = refl
flag_number false = refl

pub fits_picked_of : (o : Operands) (op : BinaryOp) (a b : ℤ) (f : Bool) → o.left ≡ Some a → o.right ≡ Some b → f ≡ fits_value o.shape o.other op a b → IsFitsPick op o (Number (truth f))
fits_picked_of o op a b f el er e = record {
  has = range-truth f;
  value = λ x y k. ap truth (e ∙ sym (λ z. fits_value o.shape o.other op (constant_is o.left x a el k.left_is z) (constant_is o.right y b er k.right_is z)));
}
