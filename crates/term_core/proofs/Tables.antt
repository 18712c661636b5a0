-- Tables that grow.
use Rattle.std.proofs.Common.{arith, ◌≡◌, ◌≢◌, ℕ, ◌+◌, ◌<◌, ◌≤◌, Bool, true, false, ℤ, pos, List, [], ◌∷◌, ◌++◌, length, refl, sym, ap, subst, ◌∙◌, ⊎_elim, if◌then◌else◌, length-append, slice_get, Some}
use Rattle.std.proofs.lemmas.List.{get_or_append_left, get_or_push}
use Rattle.std.proofs.lemmas.Option.{slice_get_within, get_or_from_slice_get}
use Rattle.std.proofs.lemmas.Bool.{cases_lt}
use Rattle.std.specs.Ordering.{int_eq}
use Rattle.term_core.specs.declared.term.Shape.{Shape}
use Rattle.term_core.specs.declared.term.Term.{Term}
use Rattle.term_core.specs.declared.term.BinaryOp.{BinaryOp}
use Rattle.term_core.specs.declared.term.TermId.{TermId}
use Rattle.term_core.specs.declared.term.TermKind.{TermKind}
use Rattle.term_core.specs.declared.term.TermKind.TheVariants.{Constant, Variable, Unary, Binary, Fits, Select, Convert}
use Rattle.term_core.specs.Shape.{wrap_to}
use Rattle.term_core.specs.Term.{truth, unary_value, binary_value, fits_value, OperandsFit, result_shape}
use Rattle.term_core.specs.Table.{term_at, shape_at, kind_value, term_value, IsOperand, IsKindAt, IsTermAt, IsTable, IsShared, Grows}

-- two tables that are equal below i
abbrev pub SameBelow : List Term → List Term → ℕ → Type 0
SameBelow old new i = (j : ℕ) → j < i → term_at new j ≡ term_at old j

shape_same : (old new : List Term) (i j : ℕ) → SameBelow old new i → j < i → shape_at new j ≡ shape_at old j
shape_same old new i j same low = ap (λ (t : Term). t.shape) (same j low)

operand_kept : (old new : List Term) (i : ℕ) (s : Shape) (a : TermId) → SameBelow old new i → IsOperand old i s a → IsOperand new i s a
operand_kept old new i s a same h = (h.0, shape_same old new i a.0 same h.0 ∙ h.1)

fit_kept : (old new : List Term) (i : ℕ) (op : BinaryOp) (a b : TermId) → SameBelow old new i → a.0 < i → b.0 < i → OperandsFit op (shape_at old a.0) (shape_at old b.0) → OperandsFit op (shape_at new a.0) (shape_at new b.0)
fit_kept old new i op a b same ha hb h =
    let P : Shape → Type 0 = λ x. OperandsFit op x (shape_at new b.0) in
    let Q : Shape → Type 0 = λ x. OperandsFit op (shape_at old a.0) x in
    subst P (sym (shape_same old new i a.0 same ha)) (subst Q (sym (shape_same old new i b.0 same hb)) h)

-- what can be number i of a table can be it in each table with the same terms below i
pub kind_kept : (old new : List Term) (i : ℕ) (s : Shape) (k : TermKind) → SameBelow old new i → IsKindAt old i s k → IsKindAt new i s k
kind_kept old new i s (Constant n) same h = h
kind_kept old new i s (Variable n) same h = h
kind_kept old new i s (Unary op a) same h = operand_kept old new i s a same h
kind_kept old new i s (Binary op a b) same h = (h.0, h.1, fit_kept old new i op a b same h.0 h.1 h.2, h.3 ∙ ap (result_shape op) (sym (shape_same old new i a.0 same h.0)))
kind_kept old new i s (Fits op a b) same h = (h.0, h.1, fit_kept old new i op a b same h.0 h.1 h.2, h.3)
kind_kept old new i s (Select t y n) same h = (operand_kept old new i _ t same h.0, operand_kept old new i s y same h.1, operand_kept old new i s n same h.2)
kind_kept old new i s (Convert a) same h = h

-- and it has one value by assignments that are equal below i
pub kind_value-local : (E V W : ℕ → ℤ) (old new : List Term) (i : ℕ) (s : Shape) (k : TermKind) → ((j : ℕ) → j < i → V j ≡ W j) → SameBelow old new i → IsKindAt old i s k → kind_value E V new s k ≡ kind_value E W old s k
kind_value-local E V W old new i s (Constant n) like same h = refl
kind_value-local E V W old new i s (Variable n) like same h = refl
kind_value-local E V W old new i s (Unary op a) like same h = ap (unary_value s op) (like a.0 h.0)
kind_value-local E V W old new i s (Binary op a b) like same h = λ z. binary_value (shape_same old new i a.0 same h.0 z) (shape_same old new i b.0 same h.1 z) op (like a.0 h.0 z) (like b.0 h.1 z)
kind_value-local E V W old new i s (Fits op a b) like same h = λ z. truth (fits_value (shape_same old new i a.0 same h.0 z) (shape_same old new i b.0 same h.1 z) op (like a.0 h.0 z) (like b.0 h.1 z))
kind_value-local E V W old new i s (Select t y n) like same h = λ z. if int_eq (like t.0 h.0.0 z) (pos 0) then like n.0 h.2.0 z else like y.0 h.1.0 z
kind_value-local E V W old new i s (Convert a) like same h = ap (wrap_to s) (like a.0 h)

-- a table grows where its terms stay
pub grows_by : (old new : List Term) → IsTable old → length old ≤ length new → SameBelow old new (length old) → Grows old new
grows_by old new table longer same = record {
  longer = longer;
  same = same;
  kept = λ E V h. record {
    at = λ i small.
        h.at i (omega arith) ∙ (ap (λ (t : Term). term_value E V new t) (same i small)
        ∙ kind_value-local E V V old new i (term_at old i).shape (term_at old i).kind (λ j _. refl) (λ j low. same j (omega arith)) (table i small).1);
  };
}

pub grows_not : (ts : List Term) → IsTable ts → Grows ts ts
grows_not ts table = grows_by ts ts table (omega arith) (λ j low. refl)

pub grows_on : (a b c : List Term) → Grows a b → Grows b c → Grows a c
grows_on a b c p q = record {
  longer = omega (arith, p.longer, q.longer);
  same = λ i small. q.same i (omega (arith, p.longer)) ∙ p.same i small;
  kept = λ E V h. p.kept E V (q.kept E V h);
}

-- ---- one more term

pushed_length : (ts : List Term) (t : Term) → length (ts ++ t ∷ []) ≡ length ts + 1
pushed_length ts t = length-append ts (t ∷ [])

pushed_same : (ts : List Term) (t : Term) → SameBelow ts (ts ++ t ∷ []) (length ts)
pushed_same ts t = λ j low. get_or_append_left ts (t ∷ []) _ j low

pushed_last : (ts : List Term) (t : Term) (i : ℕ) → i ≡ length ts → term_at (ts ++ t ∷ []) i ≡ t
pushed_last ts t i e = get_or_push ts t _ i (sym e)

table_pushed : (ts : List Term) (t : Term) → IsTable ts → IsTermAt ts (length ts) t → IsTable (ts ++ t ∷ [])
table_pushed ts t table fit = λ i small. ⊎_elim
    (λ low. let P : Term → Type 0 = λ x. IsTermAt (ts ++ t ∷ []) i x in subst P (sym (pushed_same ts t i low))
    ((table i low).0, kind_kept ts (ts ++ t ∷ []) i _ _ (λ j h. pushed_same ts t j (omega arith)) (table i low).1))
    (λ high. let e : i ≡ length ts = omega (arith, pushed_length ts t) in
    let P : Term → Type 0 = λ x. IsTermAt (ts ++ t ∷ []) i x in
    let Q : ℕ → Type 0 = λ n. IsKindAt ts n t.shape t.kind in
    subst P (sym (pushed_last ts t i e)) (fit.0, kind_kept ts (ts ++ t ∷ []) i _ _ (λ j h. pushed_same ts t j (omega arith)) (subst Q (sym e) fit.1)))
    (cases_lt i (length ts))

shared_pushed : (ts : List Term) (t : Term) → IsShared ts → ((i : ℕ) → i < length ts → term_at ts i ≢ t) → IsShared (ts ++ t ∷ [])
shared_pushed ts t shared absent = λ i j less small. λ e. ⊎_elim
    (λ low. shared i j less low (sym (pushed_same ts t i (omega arith)) ∙ (e ∙ pushed_same ts t j low)))
    (λ high. absent i (omega (arith, pushed_length ts t)) (sym (pushed_same ts t i (omega (arith, pushed_length ts t))) ∙ (e ∙ pushed_last ts t j (omega (arith, pushed_length ts t)))))
    (cases_lt j (length ts))

-- the table after `add`, where the flag says whether the term was there
pub record IsAdded (old new : List Term) : Type 0 where
  pub table : IsTable new
  pub shared : IsShared new
  pub grows : Grows old new
  pub others : length new ≤ length old + 1

pub added : (ts : List Term) (t : Term) (there : Bool) → IsTable ts → IsShared ts → IsTermAt ts (length ts) t → (there ≡ false → (i : ℕ) → i < length ts → term_at ts i ≢ t) → IsAdded ts (if there then ts else ts ++ t ∷ [])
added ts t true table shared fit absent = record { table = table; shared = shared; grows = grows_not ts table; others = omega arith }
added ts t false table shared fit absent = record {
  table = table_pushed ts t table fit;
  shared = shared_pushed ts t shared (absent refl);
  grows = grows_by ts (ts ++ t ∷ []) table (omega (arith, pushed_length ts t)) (pushed_same ts t);
  others = omega (arith, pushed_length ts t);
}

-- in a table that shares, one number stands for a term
pub one_number : (ts : List Term) (t : Term) (i j : ℕ) → IsShared ts → i < length ts → j < length ts → term_at ts i ≡ t → term_at ts j ≡ t → i ≡ j
one_number ts t i j shared hi hj ei ej = ⊎_elim
    (λ low. absurd (shared i j low hj (ei ∙ sym ej)))
    (λ high. ⊎_elim (λ below. absurd (shared j i below hi (ej ∙ sym ei))) (λ above. omega arith) (cases_lt j i))
    (cases_lt i j)

-- what a set says of the place where it keeps t
pub kept_at : (ts : List Term) (at : ℕ) (k t : Term) → slice_get ts at ≡ Some k → t ≡ k → (at < length ts) × (term_at ts at ≡ t)
kept_at ts at k t h e = (slice_get_within ts at k h, get_or_from_slice_get ts at k _ h ∙ sym e)
