-- What is known of terms as operands, and of what takes their place.
use Rattle.std.proofs.Common.{arith, ◌≡◌, ℕ, ◌-◌, ◌^◌, ◌<◌, ◌≤◌, Bool, true, false, ℤ, pos, ◌+ℤ◌, ◌-ℤ◌, ◌*ℤ◌, List, length, Option, None, Some, IfSome, refl, sym, ap, subst, ◌∙◌, if◌then◌else◌}
use Rattle.std.proofs.lemmas.Int.{ints}
use Rattle.std.specs.Ordering.{int_eq}
use Rattle.std.proofs.Math.Nat.{mod-eq_of_lt}
use Rattle.kv_num.specs.Shape.{bits_at, not_at}
use Rattle.kv_num.proofs.Patterns.{low_bits-congruent}
use Rattle.kv_num.proofs.Shapes.{range-wrap_at, wrap_at_congruent, wrap_at-congruent, wrap_at-in_shape, wrap_at-wrap_at}
use Rattle.term_core.proofs.Values.{range-unary}
use Rattle.term_fold.proofs.Simplifications.{from_bits, bits_small}
use Rattle.term_core.specs.declared.term.Shape.{Shape}
use Rattle.term_core.specs.declared.term.Term.{Term}
use Rattle.term_core.specs.declared.term.TermId.{TermId}
use Rattle.term_core.specs.declared.term.UnaryOp.{UnaryOp}
use Rattle.term_core.specs.declared.term.UnaryOp.TheVariants.{Negate, BitNot}
use Rattle.term_core.specs.declared.term.BinaryOp.{BinaryOp}
use Rattle.term_core.specs.declared.term.TermKind.{TermKind}
use Rattle.term_core.specs.declared.term.TermKind.TheVariants.{Constant, Unary, Binary, Fits, Select, Convert}
use Rattle.term_core.specs.Shape.{HasShape, wrap_to, one_bit}
use Rattle.term_core.specs.Term.{truth, unary_value, binary_value, fits_value, result_shape, OperandsFit}
use Rattle.term_core.specs.Table.{term_at, shape_at, kind_value, term_value, Agrees, IsKindAt, IsTermAt, HasShapes}
use Rattle.term_fold.specs.declared.operands.Operands.{Operands}
use Rattle.term_fold.specs.declared.operands.Pick.{Pick}
use Rattle.term_fold.specs.declared.operands.Pick.TheVariants.{Left, Right, Number, Neither}
use Rattle.term_fold.specs.declared.simpler.Simpler.{Simpler}
use Rattle.term_fold.specs.declared.simpler.Simpler.TheVariants.{Same, Computed, Other}
use Rattle.term_fold.specs.Picks.{IsFor, picked, IsPick, IsPickOf, IsFitsPick}
use Rattle.term_fold.specs.Folded.{IsConstant, AreOperands, chosen_of, Stands, simpler_value, IsSimpler}

-- a term that is a constant
pub constant_known : (ts : List Term) (id : TermId) (t : Term) (n : ℤ) → t ≡ term_at ts id.0 → t.kind ≡ Constant n → id.0 < length ts → IsTermAt ts id.0 t → IsConstant ts id n
constant_known ts id t n e is within fit =
    let P : TermKind → Type 0 = λ k. IsKindAt ts id.0 t.shape k in
    let Q : Shape → Type 0 = λ s. HasShape s n in
    record {
      has = subst Q (ap (λ (x : Term). x.shape) e) (subst P is fit.1);
      value = λ E V h. h.at id.0 within ∙ (ap (λ (x : Term). term_value E V ts x) (sym e) ∙ ap (kind_value E V ts t.shape) is);
    }

constant_has : (ts : List Term) (id : TermId) (s : Shape) (k : Option ℤ) → shape_at ts id.0 ≡ s → IfSome k (IsConstant ts id) → IfSome k (HasShape s)
constant_has ts id s None e h = h
constant_has ts id s (Some n) e h = let P : Shape → Type 0 = λ x. HasShape x n in subst P e h.has

constant_value : (E V : ℕ → ℤ) (ts : List Term) (id : TermId) (k : Option ℤ) → Agrees E V ts → IfSome k (IsConstant ts id) → IfSome k (λ n. V id.0 ≡ n)
constant_value E V ts id None g h = h
constant_value E V ts id (Some n) g h = h.value E V g

-- two terms as operands
pub operands_known : (ts : List Term) (l r : TermId) (tl tr : Term) (kl kr : Option ℤ) (same : Bool) → HasShapes ts → tl ≡ term_at ts l.0 → tr ≡ term_at ts r.0 → l.0 < length ts → r.0 < length ts → IsTermAt ts l.0 tl
    → IfSome kl (IsConstant ts l) → IfSome kr (IsConstant ts r) → (same ≡ true → l ≡ r) → AreOperands ts l r (record { shape = tl.shape; other = tr.shape; left = kl; right = kr; same = same })
operands_known ts l r tl tr kl kr same shapes el er hl hr fit cl cr one =
    let sl : shape_at ts l.0 ≡ tl.shape = sym (ap (λ (x : Term). x.shape) el) in
    let sr : shape_at ts r.0 ≡ tr.shape = sym (ap (λ (x : Term). x.shape) er) in
    record {
      shape = sym sl;
      other = sym sr;
      valid = fit.0;
      left_has = constant_has ts l tl.shape kl sl cl;
      right_has = constant_has ts r tr.shape kr sr cr;
      knows = λ E V g.
          let P : Shape → Type 0 = λ x. HasShape x (V l.0) in
          let Q : Shape → Type 0 = λ x. HasShape x (V r.0) in
          record {
            left_has = subst P sl (shapes E V g l.0 hl);
            right_has = subst Q sr (shapes E V g r.0 hr);
            left_is = constant_value E V ts l kl g cl;
            right_is = constant_value E V ts r kr g cr;
            same_is = λ e. ap (λ (x : TermId). V x.0) (one e);
          };
    }

-- the operands of a term that is picked from
pub is_for : (ts : List Term) (op : BinaryOp) (l r : TermId) (o : Operands) → AreOperands ts l r o → OperandsFit op (shape_at ts l.0) (shape_at ts r.0) → IsFor op o
is_for ts op l r o are fit =
    let P : Shape → Type 0 = λ x. OperandsFit op x o.other in
    let Q : Shape → Type 0 = λ x. OperandsFit op (shape_at ts l.0) x in
    record { shape = are.valid; fit = subst P (sym are.shape) (subst Q (sym are.other) fit); left_has = are.left_has; right_has = are.right_has }

chosen_stands : (ts : List Term) (l r : TermId) (o : Operands) (p : Pick) (s : Shape) (k : TermKind) (z : Shape) (f : ℤ → ℤ → ℤ) → AreOperands ts l r o → l.0 < length ts → r.0 < length ts → s ≡ z → IsKindAt ts (length ts) s k → IsPick o z f p → Stands ts s (chosen_of p l r k)
chosen_stands ts l r o Left s k z f are hl hr e fit is = (hl, sym are.shape ∙ (is.has ∙ sym e))
chosen_stands ts l r o Right s k z f are hl hr e fit is = (hr, sym are.other ∙ (is.has ∙ sym e))
chosen_stands ts l r o (Number n) s k z f are hl hr e fit is = let P : Shape → Type 0 = λ x. HasShape x n in subst P (sym e) is.has
chosen_stands ts l r o Neither s k z f are hl hr e fit is = fit

-- what `picked` says of two terms' values
abbrev picked_is : (ℕ → ℤ) → (ℕ → ℤ) → TermId → TermId → Pick → ℤ → Type 0
picked_is E V l r p v = picked p (V l.0) (V r.0) v ≡ v

chosen_value : (E V : ℕ → ℤ) (ts : List Term) (l r : TermId) (p : Pick) (s : Shape) (k : TermKind) (v : ℤ) → v ≡ kind_value E V ts s k → picked_is E V l r p v → simpler_value E V ts s (chosen_of p l r k) ≡ kind_value E V ts s k
chosen_value E V ts l r Left s k v e h = h ∙ e
chosen_value E V ts l r Right s k v e h = h ∙ e
chosen_value E V ts l r (Number n) s k v e h = h ∙ e
chosen_value E V ts l r Neither s k v e h = refl

-- what is picked takes the place of an operation
pub chosen_binary : (ts : List Term) (l r : TermId) (o : Operands) (op : BinaryOp) (p : Pick) (s : Shape) → AreOperands ts l r o → IsKindAt ts (length ts) s (Binary op l r) → IsPickOf op o p → IsSimpler ts s (Binary op l r) (chosen_of p l r (Binary op l r))
chosen_binary ts l r o op p s are fit is = record {
  stands = chosen_stands ts l r o p s (Binary op l r) (result_shape op o.shape) _ are fit.0 fit.1 (fit.3 ∙ ap (result_shape op) (sym are.shape)) fit is;
  value = λ E V h. chosen_value E V ts l r p s (Binary op l r) (binary_value o.shape o.other op (V l.0) (V r.0)) (λ z. binary_value (are.shape z) (are.other z) op (V l.0) (V r.0)) (is.value (V l.0) (V r.0) (are.knows E V h));
}

-- and of a test
pub chosen_fits : (ts : List Term) (l r : TermId) (o : Operands) (op : BinaryOp) (p : Pick) (s : Shape) → AreOperands ts l r o → IsKindAt ts (length ts) s (Fits op l r) → IsFitsPick op o p → IsSimpler ts s (Fits op l r) (chosen_of p l r (Fits op l r))
chosen_fits ts l r o op p s are fit is = record {
  stands = chosen_stands ts l r o p s (Fits op l r) one_bit _ are fit.0 fit.1 fit.3 fit is;
  value = λ E V h. chosen_value E V ts l r p s (Fits op l r) (truth (fits_value o.shape o.other op (V l.0) (V r.0))) (λ z. truth (fits_value (are.shape z) (are.other z) op (V l.0) (V r.0))) (is.value (V l.0) (V r.0) (are.knows E V h));
}

-- ---- operations on one term

negated : (x w m : ℤ) → pos 0 -ℤ x ≡ w +ℤ m → pos 0 -ℤ w ≡ x +ℤ m
negated x w m e = omega (arith, ints)

negate_twice : (s : Shape) (x : ℤ) → HasShape s x → wrap_to s (pos 0 -ℤ wrap_to s (pos 0 -ℤ x)) ≡ x
negate_twice s x h =
    let c = wrap_at_congruent s.width s.signed (pos 0 -ℤ x) in
    wrap_at-congruent s.width s.signed (pos 0 -ℤ wrap_to s (pos 0 -ℤ x)) x c.0 (negated x (wrap_to s (pos 0 -ℤ x)) (c.0 *ℤ pos (2 ^ s.width)) c.1)
    ∙ wrap_at-in_shape s.width s.signed x h

back_again : (m p : ℕ) → p < m → m - 1 - (m - 1 - p) ≡ p
back_again m p h = omega arith

bits_of_wrapped : (s : Shape) (q : ℕ) → q < 2 ^ s.width → bits_at s.width (wrap_to s (pos q)) ≡ q
bits_of_wrapped s q h =
    let c = wrap_at_congruent s.width s.signed (pos q) in
    sym (low_bits-congruent s.width (pos q) (wrap_to s (pos q)) c.0 c.1) ∙ mod-eq_of_lt h

not_twice : (s : Shape) (x : ℤ) → HasShape s x → not_at s.width s.signed (not_at s.width s.signed x) ≡ x
not_twice s x h =
    let m : ℕ = 2 ^ s.width in
    let p : ℕ = bits_at s.width x in
    let small : p < m = bits_small s.width x in
    ap (λ q. wrap_to s (pos (m - 1 - q))) (bits_of_wrapped s (m - 1 - p) (omega arith))
    ∙ (ap (λ q. wrap_to s (pos q)) (back_again m p small) ∙ from_bits s x h)

unary_twice : (s : Shape) (op : UnaryOp) (x : ℤ) → HasShape s x → unary_value s op (unary_value s op x) ≡ x
unary_twice s Negate x h = negate_twice s x h
unary_twice s BitNot x h = not_twice s x h

-- what is negated twice
pub unary_back : (ts : List Term) (s : Shape) (op : UnaryOp) (of inside : TermId) (t : Term) → HasShapes ts → t ≡ term_at ts of.0 → t.kind ≡ Unary op inside → IsTermAt ts of.0 t → of.0 < length ts → shape_at ts of.0 ≡ s → IsSimpler ts s (Unary op of) (Same inside)
unary_back ts s op of inside t shapes e is fit within has =
    let P : TermKind → Type 0 = λ k. IsKindAt ts of.0 t.shape k in
    let inner : IsKindAt ts of.0 t.shape (Unary op inside) = subst P is fit.1 in
    let same : shape_at ts inside.0 ≡ s = inner.1 ∙ (ap (λ (x : Term). x.shape) e ∙ has) in
    let small : inside.0 < length ts = omega (arith, inner.0) in
    record {
      stands = (small, same);
      value = λ E V h.
          let Q : Shape → Type 0 = λ x. HasShape x (V inside.0) in
          let own : V of.0 ≡ unary_value t.shape op (V inside.0) = h.at of.0 within ∙ (ap (λ (x : Term). term_value E V ts x) (sym e) ∙ ap (kind_value E V ts t.shape) is) in
          let there : t.shape ≡ s = ap (λ (x : Term). x.shape) e ∙ has in
          sym (ap (unary_value s op) (own ∙ ap (λ x. unary_value x op (V inside.0)) there) ∙ unary_twice s op (V inside.0) (subst Q same (shapes E V h inside.0 small)));
    }

-- the number of an operation on a constant
pub unary_computed : (ts : List Term) (s z : Shape) (op : UnaryOp) (of : TermId) (a n : ℤ) → z ≡ s → IsConstant ts of a → n ≡ unary_value z op a → IsSimpler ts s (Unary op of) (Computed n)
unary_computed ts s z op of a n e is h =
    let same : n ≡ unary_value s op a = h ∙ ap (λ x. unary_value x op a) e in
    let P : ℤ → Type 0 = λ x. HasShape s x in
    record {
      stands = subst P (sym same) (range-unary s op a);
      value = λ E V g. same ∙ ap (unary_value s op) (sym (is.value E V g));
    }

-- ---- choices

choice_of_one : (b : Bool) (m n v : ℤ) → v ≡ m → v ≡ n → v ≡ (if b then m else n)
choice_of_one true m n v p q = p
choice_of_one false m n v p q = q

pub select_of_one : (ts : List Term) (s : Shape) (t y n : TermId) → y ≡ n → IsKindAt ts (length ts) s (Select t y n) → IsSimpler ts s (Select t y n) (Same y)
select_of_one ts s t y n e fit = record {
  stands = fit.1;
  value = λ E V h. choice_of_one (int_eq (V t.0) (pos 0)) (V n.0) (V y.0) (V y.0) (ap (λ (x : TermId). V x.0) e) refl;
}

choice_no : (a : ℤ) (m n : ℤ) → a ≡ pos 0 → (if int_eq a (pos 0) then m else n) ≡ m
choice_no a m n e = ap (λ x. if int_eq x (pos 0) then m else n) e

choice_by : (b : Bool) (m n : ℤ) → b ≡ false → (if b then m else n) ≡ n
choice_by true m n e = absurd cc
choice_by false m n e = refl

int_eq_apart : (a b : ℤ) → (a ≡ b → ⊥) → int_eq a b ≡ false
int_eq_apart a b apart = grind (arith, ints)

pub select_no : (ts : List Term) (s : Shape) (t y n : TermId) (a : ℤ) → IsConstant ts t a → a ≡ pos 0 → IsKindAt ts (length ts) s (Select t y n) → IsSimpler ts s (Select t y n) (Same n)
select_no ts s t y n a is e fit = record {
  stands = fit.2;
  value = λ E V h. sym (choice_no (V t.0) (V n.0) (V y.0) (is.value E V h ∙ e));
}

pub select_yes : (ts : List Term) (s : Shape) (t y n : TermId) (a : ℤ) → IsConstant ts t a → (a ≡ pos 0 → ⊥) → IsKindAt ts (length ts) s (Select t y n) → IsSimpler ts s (Select t y n) (Same y)
select_yes ts s t y n a is apart fit = record {
  stands = fit.1;
  value = λ E V h. sym (ap (λ x. if int_eq x (pos 0) then V n.0 else V y.0) (is.value E V h) ∙ choice_by (int_eq a (pos 0)) (V n.0) (V y.0) (int_eq_apart a (pos 0) apart));
}

-- ---- conversions

pub convert_none : (ts : List Term) (s : Shape) (of : TermId) → HasShapes ts → of.0 < length ts → shape_at ts of.0 ≡ s → IsSimpler ts s (Convert of) (Same of)
convert_none ts s of shapes within e = record {
  stands = (within, e);
  value = λ E V h.
      let P : Shape → Type 0 = λ x. HasShape x (V of.0) in
      sym (wrap_at-in_shape s.width s.signed (V of.0) (subst P e (shapes E V h of.0 within)));
}

pub convert_computed : (ts : List Term) (s : Shape) (of : TermId) (a n : ℤ) → IsConstant ts of a → n ≡ wrap_to s a → IsSimpler ts s (Convert of) (Computed n)
convert_computed ts s of a n is e =
    let P : ℤ → Type 0 = λ x. HasShape s x in
    record {
      stands = subst P (sym e) (range-wrap_at s.width s.signed a);
      value = λ E V h. e ∙ ap (wrap_to s) (sym (is.value E V h));
    }

pub convert_twice : (ts : List Term) (s : Shape) (of inside : TermId) (t : Term) (r : Simpler) → t ≡ term_at ts of.0 → t.kind ≡ Convert inside → of.0 < length ts → s.width ≤ t.shape.width → IsSimpler ts s (Convert inside) r → IsSimpler ts s (Convert of) r
convert_twice ts s of inside t r e is within narrow simpler = record {
  stands = simpler.stands;
  value = λ E V h.
      let own : V of.0 ≡ wrap_to t.shape (V inside.0) = h.at of.0 within ∙ (ap (λ (x : Term). term_value E V ts x) (sym e) ∙ ap (kind_value E V ts t.shape) is) in
      simpler.value E V h ∙ sym (ap (wrap_to s) own ∙ wrap_at-wrap_at s.width t.shape.width s.signed t.shape.signed (V inside.0) narrow);
}

-- a kind that stays
pub other_stays : (ts : List Term) (s : Shape) (k : TermKind) → IsKindAt ts (length ts) s k → IsSimpler ts s k (Other k)
other_stays ts s k fit = record { stands = fit; value = λ E V h. refl }

pub ruleset known = (constant_known)

pub ruleset units = (unary_back, unary_computed, other_stays)

pub ruleset choices = (select_of_one, select_no, select_yes, other_stays)

pub ruleset conversions = (convert_none, convert_computed, convert_twice, other_stays)
