-- One lemma for each rule.
use Rattle.std.proofs.Common.{arith, ◌≡◌, ℕ, zero, suc, ◌+◌, ◌-◌, ◌*◌, ◌/◌, ◌^◌, ◌<◌, ◌≤◌, Bool, true, false, ℤ, pos, negsuc, ◌+ℤ◌, ◌-ℤ◌, ◌*ℤ◌, ◌≤ℤ◌, ◌<ℤ◌, Option, Some, IfSome, nat_lt, refl, sym, ap, subst, ◌∙◌, if◌then◌else◌}
use Rattle.std.proofs.lemmas.Int.{ints}
use Rattle.std.proofs.lemmas.Grind.{common_steps}
use Rattle.std.proofs.lemmas.Nat.{pow_pos, and_mask, and_comm, or_comm}
use Rattle.std.specs.Int.Bits.{and_self, or_self, xor_self, and_zero_l, and_zero_r, or_zero_l, or_zero_r, xor_zero_l, xor_zero_r, or_add_and}
use Rattle.std.proofs.Math.Nat.{mod-eq_of_lt, pow-suc}
use Rattle.std.specs.Prelude.{bit_and, bit_or, bit_xor}
use lib.IntN.{+ℤ_idl, +ℤ_idr, *ℤ-zero, zero-*ℤ, *ℤ_comm}
use Rattle.kv_num.specs.Shape.{InShape, below_at, bits_at}
use Rattle.kv_num.specs.Shift.{left_of, right_of}
use Rattle.kv_num.proofs.Shapes.{wrap_at-in_shape, wrap_at-congruent}
use Rattle.kv_num.proofs.Congruence.{rem_congruent, rem_most, pos-rem}
use Rattle.term_core.specs.declared.term.Shape.{Shape}
use Rattle.term_core.specs.declared.term.BinaryOp.TheVariants.{Add, Sub, Mul, Div, Rem, ShiftLeft, ShiftRight, BitAnd, BitOr, BitXor}
use Rattle.term_core.specs.Shape.{IsShape, HasShape, wrap_to}
use Rattle.term_core.specs.Term.{quotient_by, remainder_by, left_by, right_by}
use Rattle.term_fold.specs.declared.operands.Operands.{Operands}
use Rattle.term_fold.specs.declared.operands.Pick.TheVariants.{Left, Right, Number}
use Rattle.term_fold.specs.Picks.{IsFor, IsPickOf, ones_of}

-- a constant's number
pub constant_is : (known : Option ℤ) (m n : ℤ) → known ≡ Some n → IfSome known (λ k. m ≡ k) → m ≡ n
constant_is known m n e h = let P : Option ℤ → Type 0 = λ k. IfSome k (λ x. m ≡ x) in subst P e h

-- ---- numbers of a shape

low_zero : (b : ℕ) → pos 0 ≤ℤ (pos 0 +ℤ pos b)
low_zero b = omega (arith, ints)

high_zero : (b s : ℕ) → b < s → (pos 0 +ℤ pos b) <ℤ pos s
high_zero b s h = omega (arith, ints)

half : (w : ℕ) → 1 ≤ w → 2 ^ w ≡ 2 ^ (w - 1) + 2 ^ (w - 1)
half zero h = absurd (omega arith)
half (suc w) h =
    let e : suc w - 1 ≡ w = omega arith in
    pow-suc 2 w ∙ (ap (λ n. n * 2) (ap (λ n. 2 ^ n) (sym e)) ∙ omega arith)

below_small : (w : ℕ) (s : Bool) → 1 ≤ w → below_at w s < 2 ^ w
below_small w true h = omega (arith, half w h, pow_pos (w - 1))
below_small w false h = pow_pos w

pub zero_has : (s : Shape) → IsShape s → HasShape s (pos 0)
zero_has s is = record { least = low_zero (below_at s.width s.signed); most = high_zero (below_at s.width s.signed) (2 ^ s.width) (below_small s.width s.signed is.0) }

ones_by : (w : ℕ) (s : Bool) → 1 ≤ w → InShape w s (if s then negsuc 0 else pos (2 ^ w - 1))
ones_by w true h = record { least = low_one (2 ^ (w - 1)) (pow_pos (w - 1)); most = high_one (2 ^ (w - 1)) (2 ^ w) (half w h) (pow_pos (w - 1)) }
  where
    low_one : (b : ℕ) → 0 < b → pos 0 ≤ℤ (negsuc 0 +ℤ pos b)
    low_one b h = omega (arith, ints)

    high_one : (b s : ℕ) → s ≡ b + b → 0 < b → (negsuc 0 +ℤ pos b) <ℤ pos s
    high_one b s e h = omega (arith, ints)
ones_by w false h = record { least = low_all (2 ^ w - 1); most = high_all (2 ^ w) (pow_pos w) }
  where
    low_all : (n : ℕ) → pos 0 ≤ℤ (pos n +ℤ pos 0)
    low_all n = omega (arith, ints)

    high_all : (n : ℕ) → 0 < n → (pos (n - 1) +ℤ pos 0) <ℤ pos n
    high_all n h = omega (arith, ints)

pub ones_have : (s : Shape) → IsShape s → HasShape s (ones_of s)
ones_have s is = ones_by s.width s.signed is.0

pub signed_ones : (s : Shape) → IsShape s → s.signed ≡ true → HasShape s (negsuc 0)
signed_ones s is e = let P : ℤ → Type 0 = λ n. HasShape s n in subst P (ap (λ (b : Bool). if b then negsuc 0 else pos (2 ^ s.width - 1)) e) (ones_have s is)

-- a number of the shape is as wrapped
as_is : (s : Shape) (m n : ℤ) → HasShape s n → m ≡ n → wrap_to s m ≡ n
as_is s m n h e = ap (wrap_to s) e ∙ wrap_at-in_shape s.width s.signed n h

-- ---- sums, differences and products (6.5.5, 6.5.6)

minus_zero : (a : ℤ) → a -ℤ pos 0 ≡ a
minus_zero a = omega (arith, ints)

minus_itself : (a : ℤ) → a -ℤ a ≡ pos 0
minus_itself a = omega (arith, ints)

times_one : (a : ℤ) → a *ℤ pos 1 ≡ a
times_one a = omega (arith, ints)

pub add_zero : (o : Operands) → IsFor Add o → o.right ≡ Some (pos 0) → IsPickOf Add o Left
add_zero o is e = record { has = refl; value = λ a b k. sym (as_is o.shape (a +ℤ b) a k.left_has (ap (λ x. a +ℤ x) (constant_is o.right b (pos 0) e k.right_is) ∙ +ℤ_idr a)) }

pub zero_add : (o : Operands) → IsFor Add o → o.left ≡ Some (pos 0) → IsPickOf Add o Right
zero_add o is e = record {
  has = is.fit;
  value = λ a b k.
      let P : Shape → Type 0 = λ s. HasShape s b in
      sym (as_is o.shape (a +ℤ b) b (subst P is.fit k.right_has) (ap (λ x. x +ℤ b) (constant_is o.left a (pos 0) e k.left_is) ∙ +ℤ_idl b));
}

pub sub_zero : (o : Operands) → IsFor Sub o → o.right ≡ Some (pos 0) → IsPickOf Sub o Left
sub_zero o is e = record { has = refl; value = λ a b k. sym (as_is o.shape (a -ℤ b) a k.left_has (ap (λ x. a -ℤ x) (constant_is o.right b (pos 0) e k.right_is) ∙ minus_zero a)) }

pub sub_itself : (o : Operands) → IsFor Sub o → o.same ≡ true → IsPickOf Sub o (Number (pos 0))
sub_itself o is e = record { has = zero_has o.shape is.shape; value = λ a b k. sym (as_is o.shape (a -ℤ b) (pos 0) (zero_has o.shape is.shape) (ap (λ x. a -ℤ x) (sym (k.same_is e)) ∙ minus_itself a)) }

pub mul_zero : (o : Operands) → IsFor Mul o → o.right ≡ Some (pos 0) → IsPickOf Mul o (Number (pos 0))
mul_zero o is e = record { has = zero_has o.shape is.shape; value = λ a b k. sym (as_is o.shape (a *ℤ b) (pos 0) (zero_has o.shape is.shape) (ap (λ x. a *ℤ x) (constant_is o.right b (pos 0) e k.right_is) ∙ *ℤ-zero a)) }

pub zero_mul : (o : Operands) → IsFor Mul o → o.left ≡ Some (pos 0) → IsPickOf Mul o (Number (pos 0))
zero_mul o is e = record { has = zero_has o.shape is.shape; value = λ a b k. sym (as_is o.shape (a *ℤ b) (pos 0) (zero_has o.shape is.shape) (ap (λ x. x *ℤ b) (constant_is o.left a (pos 0) e k.left_is) ∙ zero-*ℤ b)) }

pub mul_one : (o : Operands) → IsFor Mul o → o.right ≡ Some (pos 1) → IsPickOf Mul o Left
mul_one o is e = record { has = refl; value = λ a b k. sym (as_is o.shape (a *ℤ b) a k.left_has (ap (λ x. a *ℤ x) (constant_is o.right b (pos 1) e k.right_is) ∙ times_one a)) }

pub one_mul : (o : Operands) → IsFor Mul o → o.left ≡ Some (pos 1) → IsPickOf Mul o Right
one_mul o is e = record {
  has = is.fit;
  value = λ a b k.
      let P : Shape → Type 0 = λ s. HasShape s b in
      sym (as_is o.shape (a *ℤ b) b (subst P is.fit k.right_has) (ap (λ x. x *ℤ b) (constant_is o.left a (pos 1) e k.left_is) ∙ (*ℤ_comm (pos 1) b ∙ times_one b)));
}

-- ---- quotients and remainders (6.5.5)

by_one : (a : ℤ) → quotient_by a (pos 1) ≡ a
by_one (pos a) = grind (arith, ints)
by_one (negsuc a) = grind (arith, ints)

rem_by_one : (a : ℤ) → remainder_by a (pos 1) ≡ pos 0
rem_by_one a = ap (λ x. a -ℤ (x *ℤ pos 1)) (by_one a) ∙ (ap (λ x. a -ℤ x) (times_one a) ∙ minus_itself a)

zero_by : (b : ℤ) → quotient_by (pos 0) b ≡ pos 0
zero_by (pos b) = grind (arith, ints, common_steps)
zero_by (negsuc b) = grind (arith, ints, common_steps)

rem_zero_by : (b : ℤ) → remainder_by (pos 0) b ≡ pos 0
rem_zero_by (pos b) = grind (arith, ints, common_steps)
rem_zero_by (negsuc b) = grind (arith, ints, common_steps)

pub div_one : (o : Operands) → IsFor Div o → o.right ≡ Some (pos 1) → IsPickOf Div o Left
div_one o is e = record { has = refl; value = λ a b k. sym (as_is o.shape (quotient_by a b) a k.left_has (ap (λ x. quotient_by a x) (constant_is o.right b (pos 1) e k.right_is) ∙ by_one a)) }

pub zero_div : (o : Operands) → IsFor Div o → o.left ≡ Some (pos 0) → IsPickOf Div o (Number (pos 0))
zero_div o is e = record { has = zero_has o.shape is.shape; value = λ a b k. sym (as_is o.shape (quotient_by a b) (pos 0) (zero_has o.shape is.shape) (ap (λ x. quotient_by x b) (constant_is o.left a (pos 0) e k.left_is) ∙ zero_by b)) }

pub rem_one : (o : Operands) → IsFor Rem o → o.right ≡ Some (pos 1) → IsPickOf Rem o (Number (pos 0))
rem_one o is e = record { has = zero_has o.shape is.shape; value = λ a b k. sym (as_is o.shape (remainder_by a b) (pos 0) (zero_has o.shape is.shape) (ap (λ x. remainder_by a x) (constant_is o.right b (pos 1) e k.right_is) ∙ rem_by_one a)) }

pub zero_rem : (o : Operands) → IsFor Rem o → o.left ≡ Some (pos 0) → IsPickOf Rem o (Number (pos 0))
zero_rem o is e = record { has = zero_has o.shape is.shape; value = λ a b k. sym (as_is o.shape (remainder_by a b) (pos 0) (zero_has o.shape is.shape) (ap (λ x. remainder_by x b) (constant_is o.left a (pos 0) e k.left_is) ∙ rem_zero_by b)) }

-- ---- shifts (6.5.7)

bits_zero : (w : ℕ) → bits_at w (pos 0) ≡ 0
bits_zero w = mod-eq_of_lt (pow_pos w)

left_by_none : (a : ℤ) → left_of a 0 ≡ a
left_by_none a = times_one a

right_by_none : (a : ℤ) → right_of a 0 ≡ a
right_by_none (pos a) = omega (arith, ints)
right_by_none (negsuc a) = omega (arith, ints)

chosen : (b : Bool) (m n : ℤ) → b ≡ true → (if b then m else n) ≡ m
chosen true m n e = refl
chosen false m n e = absurd cc

either : (b : Bool) (m n : ℤ) → m ≡ n → (if b then m else n) ≡ n
either true m n e = e
either false m n e = refl

positive : (w : ℕ) → 1 ≤ w → nat_lt 0 w ≡ true
positive w h = grind (arith, common_steps)

left_none : (width v : ℕ) (a : ℤ) → 1 ≤ width → left_by width v a (pos 0) ≡ a
left_none width v a h =
    ap (λ d. if nat_lt d width then left_of a d else pos 0) (bits_zero v) ∙ (chosen (nat_lt 0 width) (left_of a 0) (pos 0) (positive width h) ∙ left_by_none a)

right_none : (width v : ℕ) (a : ℤ) → 1 ≤ width → right_by width v a (pos 0) ≡ a
right_none width v a h =
    ap (λ d. if nat_lt d width then right_of a d else pos 0) (bits_zero v) ∙ (chosen (nat_lt 0 width) (right_of a 0) (pos 0) (positive width h) ∙ right_by_none a)

left_of_zero : (width v : ℕ) (b : ℤ) → left_by width v (pos 0) b ≡ pos 0
left_of_zero width v b = either (nat_lt (bits_at v b) width) (left_of (pos 0) (bits_at v b)) (pos 0) (zero-*ℤ (pos (2 ^ bits_at v b)))

right_of_zero : (width v : ℕ) (b : ℤ) → right_by width v (pos 0) b ≡ pos 0
right_of_zero width v b = either (nat_lt (bits_at v b) width) (right_of (pos 0) (bits_at v b)) (pos 0) (none (2 ^ bits_at v b))
  where
    none : (n : ℕ) → pos (0 / n) ≡ pos 0
    none n = omega (arith, ints)

pub shl_zero : (o : Operands) → IsFor ShiftLeft o → o.right ≡ Some (pos 0) → IsPickOf ShiftLeft o Left
shl_zero o is e = record { has = refl; value = λ a b k. sym (as_is o.shape (left_by o.shape.width o.other.width a b) a k.left_has (ap (left_by o.shape.width o.other.width a) (constant_is o.right b (pos 0) e k.right_is) ∙ left_none o.shape.width o.other.width a is.shape.0)) }

pub zero_shl : (o : Operands) → IsFor ShiftLeft o → o.left ≡ Some (pos 0) → IsPickOf ShiftLeft o (Number (pos 0))
zero_shl o is e = record { has = zero_has o.shape is.shape; value = λ a b k. sym (as_is o.shape (left_by o.shape.width o.other.width a b) (pos 0) (zero_has o.shape is.shape) (ap (λ x. left_by o.shape.width o.other.width x b) (constant_is o.left a (pos 0) e k.left_is) ∙ left_of_zero o.shape.width o.other.width b)) }

pub shr_zero : (o : Operands) → IsFor ShiftRight o → o.right ≡ Some (pos 0) → IsPickOf ShiftRight o Left
shr_zero o is e = record { has = refl; value = λ a b k. sym (as_is o.shape (right_by o.shape.width o.other.width a b) a k.left_has (ap (right_by o.shape.width o.other.width a) (constant_is o.right b (pos 0) e k.right_is) ∙ right_none o.shape.width o.other.width a is.shape.0)) }

pub zero_shr : (o : Operands) → IsFor ShiftRight o → o.left ≡ Some (pos 0) → IsPickOf ShiftRight o (Number (pos 0))
zero_shr o is e = record { has = zero_has o.shape is.shape; value = λ a b k. sym (as_is o.shape (right_by o.shape.width o.other.width a b) (pos 0) (zero_has o.shape is.shape) (ap (λ x. right_by o.shape.width o.other.width x b) (constant_is o.left a (pos 0) e k.left_is) ∙ right_of_zero o.shape.width o.other.width b)) }

-- ---- bits (6.5.10 to 6.5.12)

-- a number of the shape is its bits, wrapped
pub from_bits : (s : Shape) (n : ℤ) → HasShape s n → wrap_to s (pos (bits_at s.width n)) ≡ n
from_bits s n h =
    let c = rem_congruent n (2 ^ s.width) (pow_pos s.width) in
    let e : n ≡ pos (bits_at s.width n) +ℤ (c.0 *ℤ pos (2 ^ s.width)) = c.1 ∙ ap (λ r. r +ℤ (c.0 *ℤ pos (2 ^ s.width))) (pos-rem n (2 ^ s.width)) in
    sym (wrap_at-congruent s.width s.signed n (pos (bits_at s.width n)) c.0 e) ∙ wrap_at-in_shape s.width s.signed n h

-- the number of the shape with these bits
by_bits : (s : Shape) (m : ℕ) (n : ℤ) → HasShape s n → m ≡ bits_at s.width n → wrap_to s (pos m) ≡ n
by_bits s m n h e = ap (λ x. wrap_to s (pos x)) e ∙ from_bits s n h

pub bits_small : (w : ℕ) (n : ℤ) → bits_at w n < 2 ^ w
bits_small w n = rem_most n (2 ^ w) (pow_pos w)

bits_ones_by : (w : ℕ) (s : Bool) → bits_at w (if s then negsuc 0 else pos (2 ^ w - 1)) ≡ 2 ^ w - 1
bits_ones_by w true = ap (λ x. 2 ^ w - 1 - x) (mod-eq_of_lt (pow_pos w)) ∙ omega arith
bits_ones_by w false = mod-eq_of_lt (omega (arith, pow_pos w))

bits_ones : (s : Shape) → bits_at s.width (ones_of s) ≡ 2 ^ s.width - 1
bits_ones s = bits_ones_by s.width s.signed

and_ones : (w n : ℕ) → n < 2 ^ w → bit_and n (2 ^ w - 1) ≡ n
and_ones w n h = and_mask n w ∙ mod-eq_of_lt h

or_ones : (w n : ℕ) → n < 2 ^ w → bit_or n (2 ^ w - 1) ≡ 2 ^ w - 1
or_ones w n h = let e : bit_or n (2 ^ w - 1) + bit_and n (2 ^ w - 1) ≡ n + (2 ^ w - 1) = or_add_and n (2 ^ w - 1) in omega (arith, e, and_ones w n h)

pub and_itself : (o : Operands) → IsFor BitAnd o → o.same ≡ true → IsPickOf BitAnd o Left
and_itself o is e = record {
  has = refl;
  value = λ a b k.
      let w : ℕ = o.shape.width in
      sym (by_bits o.shape (bit_and (bits_at w a) (bits_at w b)) a k.left_has (ap (λ x. bit_and (bits_at w a) (bits_at w x)) (sym (k.same_is e)) ∙ and_self (bits_at w a)));
}

pub and_zero : (o : Operands) → IsFor BitAnd o → o.right ≡ Some (pos 0) → IsPickOf BitAnd o (Number (pos 0))
and_zero o is e = record {
  has = zero_has o.shape is.shape;
  value = λ a b k.
      let w : ℕ = o.shape.width in
      sym (by_bits o.shape (bit_and (bits_at w a) (bits_at w b)) (pos 0) (zero_has o.shape is.shape)
      (ap (bit_and (bits_at w a)) (ap (bits_at w) (constant_is o.right b (pos 0) e k.right_is) ∙ bits_zero w) ∙ (and_zero_r (bits_at w a) ∙ sym (bits_zero w))));
}

pub zero_and : (o : Operands) → IsFor BitAnd o → o.left ≡ Some (pos 0) → IsPickOf BitAnd o (Number (pos 0))
zero_and o is e = record {
  has = zero_has o.shape is.shape;
  value = λ a b k.
      let w : ℕ = o.shape.width in
      sym (by_bits o.shape (bit_and (bits_at w a) (bits_at w b)) (pos 0) (zero_has o.shape is.shape)
      (ap (λ x. bit_and x (bits_at w b)) (ap (bits_at w) (constant_is o.left a (pos 0) e k.left_is) ∙ bits_zero w) ∙ (and_zero_l (bits_at w b) ∙ sym (bits_zero w))));
}

pub and_all : (o : Operands) → IsFor BitAnd o → o.right ≡ Some (ones_of o.shape) → IsPickOf BitAnd o Left
and_all o is e = record {
  has = refl;
  value = λ a b k.
      let w : ℕ = o.shape.width in
      sym (by_bits o.shape (bit_and (bits_at w a) (bits_at w b)) a k.left_has
      (ap (bit_and (bits_at w a)) (ap (bits_at w) (constant_is o.right b (ones_of o.shape) e k.right_is) ∙ bits_ones o.shape) ∙ and_ones w (bits_at w a) (bits_small w a)));
}

pub all_and : (o : Operands) → IsFor BitAnd o → o.left ≡ Some (ones_of o.shape) → IsPickOf BitAnd o Right
all_and o is e = record {
  has = is.fit;
  value = λ a b k.
      let w : ℕ = o.shape.width in
      let P : Shape → Type 0 = λ s. HasShape s b in
      sym (by_bits o.shape (bit_and (bits_at w a) (bits_at w b)) b (subst P is.fit k.right_has)
      (and_comm (bits_at w a) (bits_at w b) ∙ (ap (bit_and (bits_at w b)) (ap (bits_at w) (constant_is o.left a (ones_of o.shape) e k.left_is) ∙ bits_ones o.shape) ∙ and_ones w (bits_at w b) (bits_small w b))));
}

pub or_itself : (o : Operands) → IsFor BitOr o → o.same ≡ true → IsPickOf BitOr o Left
or_itself o is e = record {
  has = refl;
  value = λ a b k.
      let w : ℕ = o.shape.width in
      sym (by_bits o.shape (bit_or (bits_at w a) (bits_at w b)) a k.left_has (ap (λ x. bit_or (bits_at w a) (bits_at w x)) (sym (k.same_is e)) ∙ or_self (bits_at w a)));
}

pub or_zero : (o : Operands) → IsFor BitOr o → o.right ≡ Some (pos 0) → IsPickOf BitOr o Left
or_zero o is e = record {
  has = refl;
  value = λ a b k.
      let w : ℕ = o.shape.width in
      sym (by_bits o.shape (bit_or (bits_at w a) (bits_at w b)) a k.left_has
      (ap (bit_or (bits_at w a)) (ap (bits_at w) (constant_is o.right b (pos 0) e k.right_is) ∙ bits_zero w) ∙ or_zero_r (bits_at w a)));
}

pub zero_or : (o : Operands) → IsFor BitOr o → o.left ≡ Some (pos 0) → IsPickOf BitOr o Right
zero_or o is e = record {
  has = is.fit;
  value = λ a b k.
      let w : ℕ = o.shape.width in
      let P : Shape → Type 0 = λ s. HasShape s b in
      sym (by_bits o.shape (bit_or (bits_at w a) (bits_at w b)) b (subst P is.fit k.right_has)
      (ap (λ x. bit_or x (bits_at w b)) (ap (bits_at w) (constant_is o.left a (pos 0) e k.left_is) ∙ bits_zero w) ∙ or_zero_l (bits_at w b)));
}

pub or_all : (o : Operands) → IsFor BitOr o → o.right ≡ Some (ones_of o.shape) → IsPickOf BitOr o (Number (ones_of o.shape))
or_all o is e = record {
  has = ones_have o.shape is.shape;
  value = λ a b k.
      let w : ℕ = o.shape.width in
      sym (by_bits o.shape (bit_or (bits_at w a) (bits_at w b)) (ones_of o.shape) (ones_have o.shape is.shape)
      (ap (bit_or (bits_at w a)) (ap (bits_at w) (constant_is o.right b (ones_of o.shape) e k.right_is) ∙ bits_ones o.shape) ∙ (or_ones w (bits_at w a) (bits_small w a) ∙ sym (bits_ones o.shape))));
}

pub all_or : (o : Operands) → IsFor BitOr o → o.left ≡ Some (ones_of o.shape) → IsPickOf BitOr o (Number (ones_of o.shape))
all_or o is e = record {
  has = ones_have o.shape is.shape;
  value = λ a b k.
      let w : ℕ = o.shape.width in
      sym (by_bits o.shape (bit_or (bits_at w a) (bits_at w b)) (ones_of o.shape) (ones_have o.shape is.shape)
      (or_comm (bits_at w a) (bits_at w b) ∙ (ap (bit_or (bits_at w b)) (ap (bits_at w) (constant_is o.left a (ones_of o.shape) e k.left_is) ∙ bits_ones o.shape) ∙ (or_ones w (bits_at w b) (bits_small w b) ∙ sym (bits_ones o.shape)))));
}

pub xor_itself : (o : Operands) → IsFor BitXor o → o.same ≡ true → IsPickOf BitXor o (Number (pos 0))
xor_itself o is e = record {
  has = zero_has o.shape is.shape;
  value = λ a b k.
      let w : ℕ = o.shape.width in
      sym (by_bits o.shape (bit_xor (bits_at w a) (bits_at w b)) (pos 0) (zero_has o.shape is.shape)
      (ap (λ x. bit_xor (bits_at w a) (bits_at w x)) (sym (k.same_is e)) ∙ (xor_self (bits_at w a) ∙ sym (bits_zero w))));
}

pub xor_zero : (o : Operands) → IsFor BitXor o → o.right ≡ Some (pos 0) → IsPickOf BitXor o Left
xor_zero o is e = record {
  has = refl;
  value = λ a b k.
      let w : ℕ = o.shape.width in
      sym (by_bits o.shape (bit_xor (bits_at w a) (bits_at w b)) a k.left_has
      (ap (bit_xor (bits_at w a)) (ap (bits_at w) (constant_is o.right b (pos 0) e k.right_is) ∙ bits_zero w) ∙ xor_zero_r (bits_at w a)));
}

pub zero_xor : (o : Operands) → IsFor BitXor o → o.left ≡ Some (pos 0) → IsPickOf BitXor o Right
zero_xor o is e = record {
  has = is.fit;
  value = λ a b k.
      let w : ℕ = o.shape.width in
      let P : Shape → Type 0 = λ s. HasShape s b in
      sym (by_bits o.shape (bit_xor (bits_at w a) (bits_at w b)) b (subst P is.fit k.right_has)
      (ap (λ x. bit_xor x (bits_at w b)) (ap (bits_at w) (constant_is o.left a (pos 0) e k.left_is) ∙ bits_zero w) ∙ xor_zero_l (bits_at w b)));
}

pub ruleset sums = (add_zero, zero_add, sub_zero, sub_itself)

pub ruleset products = (mul_zero, zero_mul, mul_one, one_mul, div_one, zero_div, rem_one, zero_rem)

pub ruleset shifts = (shl_zero, zero_shl, shr_zero, zero_shr)

pub ruleset conjunctions = (and_itself, and_zero, zero_and, and_all, all_and)

pub ruleset disjunctions = (or_itself, or_zero, zero_or, or_all, all_or, xor_itself, xor_zero, zero_xor)
