-- The values of a table's terms: there are some, they have the terms' shapes, and there are no others.
use Rattle.std.proofs.Common.{arith, ◌≡◌, ℕ, zero, suc, ◌-◌, ◌^◌, ◌<◌, ◌≤◌, ◌==◌, Bool, true, false, ℤ, pos, List, length, refl, sym, subst, ◌∙◌, ⊎_elim, if◌then◌else◌}
use Rattle.std.proofs.lemmas.Int.{ints}
use Rattle.std.proofs.lemmas.Bool.{cases_lt}
use Rattle.std.proofs.lemmas.Grind.{common_steps}
use Rattle.std.specs.Ordering.{int_eq}
use Rattle.std.specs.Prelude.{bit_and, bit_or, bit_xor}
use Rattle.kv_num.specs.Shape.{bits_at}
use Rattle.kv_num.proofs.Shapes.{range-wrap_at}
use Rattle.term_core.specs.declared.term.Shape.{Shape}
use Rattle.term_core.specs.declared.term.Term.{Term}
use Rattle.term_core.specs.declared.term.TermKind.{TermKind}
use Rattle.term_core.specs.declared.term.TermKind.TheVariants.{Constant, Variable, Unary, Binary, Fits, Select, Convert}
use Rattle.term_core.specs.declared.term.UnaryOp.{UnaryOp}
use Rattle.term_core.specs.declared.term.UnaryOp.TheVariants.{Negate, BitNot}
use Rattle.term_core.specs.declared.term.BinaryOp.{BinaryOp}
use Rattle.term_core.specs.declared.term.BinaryOp.TheVariants.{BitAnd, BitOr, BitXor, Less, Equal}
use Rattle.term_core.specs.Shape.{HasShape, one_bit}
use Rattle.term_core.specs.Term.{truth, unary_value, binary_value, fits_value, result_shape}
use Rattle.term_core.specs.Table.{term_at, shape_at, kind_value, term_value, Agrees, IsKindAt, IsTable, HasValues, HasOneValue, HasShapes}
use Rattle.term_core.proofs.Tables.{kind_value-local}

pub range-truth : (b : Bool) → HasShape one_bit (truth b)
range-truth true = record { least = omega (arith, ints); most = omega (arith, ints) }
range-truth false = record { least = omega (arith, ints); most = omega (arith, ints) }

pub range-unary : (s : Shape) (op : UnaryOp) (a : ℤ) → HasShape s (unary_value s op a)
range-unary s Negate a = range-wrap_at s.width s.signed _
range-unary s BitNot a = range-wrap_at s.width s.signed (pos (2 ^ s.width - 1 - bits_at s.width a))

pub range-binary : (s r : Shape) (op : BinaryOp) (a b : ℤ) → HasShape (result_shape op s) (binary_value s r op a b)
range-binary s r Less a b = range-truth _
range-binary s r Equal a b = range-truth _
range-binary s r BitAnd a b = range-wrap_at s.width s.signed (pos (bit_and (bits_at s.width a) (bits_at s.width b)))
range-binary s r BitOr a b = range-wrap_at s.width s.signed (pos (bit_or (bits_at s.width a) (bits_at s.width b)))
range-binary s r BitXor a b = range-wrap_at s.width s.signed (pos (bit_xor (bits_at s.width a) (bits_at s.width b)))
range-binary s r _ a b = range-wrap_at s.width s.signed _

range-choice : (s : Shape) (b : Bool) (m n : ℤ) → HasShape s m → HasShape s n → HasShape s (if b then m else n)
range-choice s true m n hm hn = hm
range-choice s false m n hm hn = hn

range-kind : (E V : ℕ → ℤ) (ts : List Term) (i : ℕ) (s : Shape) (k : TermKind) → ((j : ℕ) → j < i → HasShape (shape_at ts j) (V j)) → IsKindAt ts i s k → HasShape s (kind_value E V ts s k)
range-kind E V ts i s (Constant n) below h = h
range-kind E V ts i s (Variable n) below h = range-wrap_at s.width s.signed _
range-kind E V ts i s (Unary op a) below h = range-unary s op (V a.0)
range-kind E V ts i s (Binary op a b) below h =
    let P : Shape → Type 0 = λ x. HasShape x (binary_value (shape_at ts a.0) (shape_at ts b.0) op (V a.0) (V b.0)) in
    subst P (sym h.3) (range-binary (shape_at ts a.0) (shape_at ts b.0) op (V a.0) (V b.0))
range-kind E V ts i s (Fits op a b) below h =
    let P : Shape → Type 0 = λ x. HasShape x (truth (fits_value (shape_at ts a.0) (shape_at ts b.0) op (V a.0) (V b.0))) in
    subst P (sym h.3) (range-truth _)
range-kind E V ts i s (Select t y n) below h =
    let P : Shape → Type 0 = λ x. HasShape x (V y.0) in
    let Q : Shape → Type 0 = λ x. HasShape x (V n.0) in
    range-choice s (int_eq (V t.0) (pos 0)) (V n.0) (V y.0) (subst Q h.2.1 (below n.0 h.2.0)) (subst P h.1.1 (below y.0 h.1.0))
range-kind E V ts i s (Convert a) below h = range-wrap_at s.width s.signed _

-- an assignment that agrees gives number i what it gives it by the numbers below
step : (n i : ℕ) → i < suc n → (P : ℕ → Type 0) → ((j : ℕ) → j < n → P j) → P n → P i
step n i small P below last = ⊎_elim (λ low. below i low) (λ high. let e : n ≡ i = omega arith in subst P e last) (cases_lt i n)

shapes_below : (E V : ℕ → ℤ) (ts : List Term) → IsTable ts → Agrees E V ts → (n i : ℕ) → i < n → i < length ts → HasShape (shape_at ts i) (V i)
shapes_below E V ts table agrees zero i small within = absurd (omega arith)
shapes_below E V ts table agrees (suc n) i small within =
    let P : ℤ → Type 0 = λ v. HasShape (shape_at ts i) v in
    subst P (sym (agrees.at i within)) (range-kind E V ts i (term_at ts i).shape (term_at ts i).kind (λ j low. shapes_below E V ts table agrees n j (omega arith) (omega arith)) (table i within).1)

pub has_shapes : (ts : List Term) → IsTable ts → HasShapes ts
has_shapes ts table E V agrees i within = shapes_below E V ts table agrees (suc i) i (omega arith) within

same_below : (E V W : ℕ → ℤ) (ts : List Term) → IsTable ts → Agrees E V ts → Agrees E W ts → (n i : ℕ) → i < n → i < length ts → V i ≡ W i
same_below E V W ts table p q zero i small within = absurd (omega arith)
same_below E V W ts table p q (suc n) i small within =
    p.at i within
    ∙ (kind_value-local E V W ts ts i (term_at ts i).shape (term_at ts i).kind (λ j low. same_below E V W ts table p q n j (omega arith) (omega arith)) (λ j low. refl) (table i within).1
    ∙ sym (q.at i within))

pub has_one_value : (ts : List Term) → IsTable ts → HasOneValue ts
has_one_value ts table E V W p q i within = same_below E V W ts table p q (suc i) i (omega arith) within

-- the values of the terms below n
values_below : (ℕ → ℤ) → List Term → ℕ → ℕ → ℤ
values_below E ts zero j = pos 0
values_below E ts (suc n) j = if j == n then term_value E (values_below E ts n) ts (term_at ts n) else values_below E ts n j

other_kept : (j n : ℕ) (a b : ℤ) → j < n → b ≡ (if j == n then a else b)
other_kept j n a b low = grind (arith, common_steps)

own_given : (n : ℕ) (a b : ℤ) → (if n == n then a else b) ≡ a
own_given n a b = grind (arith, common_steps)

values_kept : (E : ℕ → ℤ) (ts : List Term) (n j : ℕ) → j < n → values_below E ts n j ≡ values_below E ts (suc n) j
unfolding values_below
values_kept E ts n j low = other_kept j n _ _ low

value_given : (E : ℕ → ℤ) (ts : List Term) (n : ℕ) → values_below E ts (suc n) n ≡ term_value E (values_below E ts n) ts (term_at ts n)
unfolding values_below
value_given E ts n = own_given n _ _

values_agree : (E : ℕ → ℤ) (ts : List Term) → IsTable ts → (n i : ℕ) → n ≤ length ts → i < n → values_below E ts n i ≡ term_value E (values_below E ts n) ts (term_at ts i)
values_agree E ts table zero i most small = absurd (omega arith)
values_agree E ts table (suc n) i most small =
    let next : (j : ℕ) → j < suc n → term_value E (values_below E ts n) ts (term_at ts j) ≡ term_value E (values_below E ts (suc n)) ts (term_at ts j) = λ j low.
    kind_value-local E (values_below E ts n) (values_below E ts (suc n)) ts ts j (term_at ts j).shape (term_at ts j).kind (λ k less. values_kept E ts n k (omega arith)) (λ k less. refl) (table j (omega arith)).1 in
    step n i small (λ j. values_below E ts (suc n) j ≡ term_value E (values_below E ts (suc n)) ts (term_at ts j))
    (λ j low. sym (values_kept E ts n j low) ∙ (values_agree E ts table n j (omega arith) low ∙ next j (omega arith)))
    (value_given E ts n ∙ next n (omega arith))

pub has_values : (ts : List Term) → IsTable ts → HasValues ts
has_values ts table E = (values_below E ts (length ts), record { at = λ i within. values_agree E ts table (length ts) i (omega arith) within })
