-- Truths of complements, and of exclusive ors whose complements are taken out.
use Rattle.std.proofs.Common.{ℕ, ◌≡◌, ◌+◌, ◌*◌, ◌/◌, ◌%◌, ◌==◌, Bool, true, false, not, if◌then◌else◌, refl, sym, ap, ◌∙◌, arith, inl, inr}
use Rattle.std.proofs.lemmas.Bool.{cases_eq, eq-eqb, ne_eqb}
use Rattle.kv_num.specs.Bits.{differ}
use Rattle.sat_clause.specs.Literals.{variable_of, is_complement_of, complement_of, is_true}
use Rattle.sat_clause.proofs.Truths.{is_true-complement}

pub differ_self : (b : Bool) → differ b b ≡ false
differ_self true = refl
differ_self false = refl

pub differ_not : (b : Bool) → differ (not b) b ≡ true
differ_not true = refl
differ_not false = refl

pub differ_comm : (a b : Bool) → differ a b ≡ differ b a
differ_comm true true = refl
differ_comm true false = refl
differ_comm false true = refl
differ_comm false false = refl

pub is_true-variable : (A : ℕ → Bool) (v : ℕ) → is_true A (2 * v + 0) ≡ A v
is_true-variable A v =
    let even : (2 * v + 0) % 2 ≡ 0 = omega arith in
    let half : (2 * v + 0) / 2 ≡ v = omega arith in
    ap (λ (b : Bool). if b then A ((2 * v + 0) / 2) else not (A ((2 * v + 0) / 2))) (eq-eqb ((2 * v + 0) % 2) 0 even) ∙ ap A half

value_flipped : (A : ℕ → Bool) (f : Bool) (l : ℕ) → is_true A (if f then complement_of l else l) ≡ differ f (is_true A l)
value_flipped A true l = is_true-complement A l
value_flipped A false l = refl

value_apart : (A : ℕ → Bool) (l : ℕ) → is_true A l ≡ differ (is_complement_of l) (A (variable_of l))
value_apart A l = elim (cases_eq (l % 2) 0) [
  | inl e ↦ let o : l % 2 ≡ 1 → ⊥ = λ (h : l % 2 ≡ 1). omega arith in
      simp (eq-eqb (l % 2) 0 e, ne_eqb (l % 2) 1 o)
  | inr e ↦ let o : l % 2 ≡ 1 = omega arith in
      simp (ne_eqb (l % 2) 0 e, eq-eqb (l % 2) 1 o)
]

differ_turned : (p q a b : Bool) → differ q (differ p (differ a b)) ≡ differ (differ p a) (differ q b)
differ_turned true true true true = refl
differ_turned true true true false = refl
differ_turned true true false true = refl
differ_turned true true false false = refl
differ_turned true false true true = refl
differ_turned true false true false = refl
differ_turned true false false true = refl
differ_turned true false false false = refl
differ_turned false true true true = refl
differ_turned false true true false = refl
differ_turned false true false true = refl
differ_turned false true false false = refl
differ_turned false false true true = refl
differ_turned false false true false = refl
differ_turned false false false true = refl
differ_turned false false false false = refl

-- the complements of the operands, taken out
pub value_turned : (A : ℕ → Bool) (a b v w odd half out : ℕ) → v ≡ variable_of a → w ≡ variable_of b → is_true A odd ≡ differ (A v) (A w) → (f g : Bool) → f ≡ is_complement_of a → g ≡ is_complement_of b → half ≡ (if f then complement_of odd else odd) → out ≡ (if g then complement_of half else half) → is_true A out ≡ differ (is_true A a) (is_true A b)
value_turned A a b v w odd half out ev ew value f g ef eg eh eo =
    let p = is_complement_of a in
    let q = is_complement_of b in
    let x = A (variable_of a) in
    let y = A (variable_of b) in
    let one : is_true A half ≡ differ p (differ x y) = ap (is_true A) eh ∙ (value_flipped A f odd ∙ (ap (λ z. differ z (is_true A odd)) ef ∙ ap (differ p) (value ∙ (ap (λ z. differ (A z) (A w)) ev ∙ ap (λ z. differ x (A z)) ew)))) in
    let two : is_true A out ≡ differ q (differ p (differ x y)) = ap (is_true A) eo ∙ (value_flipped A g half ∙ (ap (λ z. differ z (is_true A half)) eg ∙ ap (differ q) one)) in
    two ∙ (differ_turned p q x y ∙ (ap (λ z. differ z (differ q y)) (sym (value_apart A a)) ∙ ap (differ (is_true A a)) (sym (value_apart A b))))

pub ruleset flips = (differ_self, differ_not, differ_comm, is_true-complement, is_true-variable)
