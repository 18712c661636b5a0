-- Terms with what stands for their operands in their place.
use Rattle.std.proofs.Common.{arith, ◌≡◌, ℕ, ◌<◌, ◌≤◌, ◌==◌, Bool, ℤ, pos, List, ◌∷◌, length, refl, sym, ap, subst, ◌∙◌, ⊎_elim, if◌then◌else◌}
use Rattle.std.proofs.lemmas.List.Elements.{All-cons, All-head, All-tail, All-weaker}
use Rattle.std.proofs.lemmas.Bool.{cases_eq, eq-eqb, ne_eqb}
use Rattle.std.specs.List.{All}
use Rattle.std.specs.Option.{unwrap_or, option_or}
use Rattle.std.specs.Prelude.{Option, None, Some, IfSome, cond}
use Rattle.std.specs.Ordering.{int_eq}
use Rattle.term_core.specs.declared.term.Shape.{Shape}
use Rattle.term_core.specs.declared.term.Term.{Term}
use Rattle.term_core.specs.declared.term.TermId.{TermId}
use Rattle.term_core.specs.declared.term.BinaryOp.{BinaryOp}
use Rattle.term_core.specs.declared.term.TermKind.{TermKind}
use Rattle.term_core.specs.declared.term.TermKind.TheVariants.{Constant, Variable, Unary, Binary, Fits, Select, Convert}
use Rattle.term_core.specs.Shape.{wrap_to}
use Rattle.term_core.specs.Term.{truth, unary_value, binary_value, fits_value, result_shape, OperandsFit}
use Rattle.term_core.specs.Table.{term_at, shape_at, kind_value, term_value, Agrees, IsOperand, IsKindAt, IsTermAt, Grows}
use Rattle.term_core.proofs.Tables.{kind_value-local, grows_on}
use Rattle.term_fold.specs.Folded.{simpler_value, IsSimpler, Replaces, IsSame, AllSame, renamed_id, renamed_kind, NamesBelow}
use Rattle.term_fold.specs.declared.simpler.Simpler.{Simpler}

-- ---- a term that is added

pub grows_not_at_all : (ts : List Term) → Grows ts ts
grows_not_at_all ts = record { longer = omega arith; same = λ i small. refl; kept = λ E V h. h }

pub added_in_place : (old new : List Term) (s : Shape) (k : TermKind) (id : TermId) (t : Term) → t ≡ record { shape = s; kind = k } → IsKindAt old (length old) s k → Grows old new → id.0 < length new → term_at new id.0 ≡ t → ((E V : ℕ → ℤ) → Agrees E V new → V id.0 ≡ term_value E V new t)
    → Replaces new s (λ E V. kind_value E V old s k) id
added_in_place old new s k id t e fit grows within is value = record {
  within = within;
  shape = ap (λ (x : Term). x.shape) (is ∙ e);
  value = λ E V h. value E V h ∙ (ap (λ (x : Term). term_value E V new x) e ∙ kind_value-local E V V old new (length old) s k (λ j low. refl) (λ j low. grows.same j low) fit);
}

pub replaced_by : (old new : List Term) (s : Shape) (k : TermKind) (r : Simpler) (id : TermId) → IsSimpler old s k r → Grows old new → Replaces new s (λ E V. simpler_value E V old s r) id → Replaces new s (λ E V. kind_value E V old s k) id
replaced_by old new s k r id is grows by = record {
  within = by.within;
  shape = by.shape;
  value = λ E V h. by.value E V h ∙ is.value E V (grows.kept E V h);
}

-- ---- operands

pub names_below : (ts : List Term) (i n : ℕ) (s : Shape) (k : TermKind) → i ≤ n → IsKindAt ts i s k → NamesBelow n k
names_below ts i n s (Constant m) h fit = tt
names_below ts i n s (Variable m) h fit = tt
names_below ts i n s (Unary op a) h fit = omega (arith, fit.0)
names_below ts i n s (Binary op a b) h fit = (omega (arith, fit.0), omega (arith, fit.1))
names_below ts i n s (Fits op a b) h fit = (omega (arith, fit.0), omega (arith, fit.1))
names_below ts i n s (Select t y m) h fit = (omega (arith, fit.0.0), omega (arith, fit.1.0), omega (arith, fit.2.0))
names_below ts i n s (Convert a) h fit = omega (arith, fit)

pub same_itself : (ts : List Term) (id : TermId) → id.0 < length ts → IsSame ts id.0 id
same_itself ts id within = record { within = within; shape = refl; value = λ E V h. refl }

module _ (ts : List Term) (F : ℕ → Option TermId) (all : AllSame ts F) where
  -- what stands for a term has its shape and its value
  pub stands_for : (id : TermId) → id.0 < length ts → IsSame ts id.0 (renamed_id F id)
  stands_for id within = by (F id.0) refl
    where
      by : (o : Option TermId) → F id.0 ≡ o → IsSame ts id.0 (renamed_id F id)
      by None e = let Q : Option TermId → Type 0 = λ o. IsSame ts id.0 (unwrap_or o id) in subst Q (sym e) (same_itself ts id within)
      by (Some x) e = let Q : Option TermId → Type 0 = λ o. IsSame ts id.0 (unwrap_or o id) in subst Q (sym e) (all.at id.0 x e)

  operand_fits : (i : ℕ) (s : Shape) (a : TermId) → i < length ts → IsOperand ts i s a → IsOperand ts (length ts) s (renamed_id F a)
  operand_fits i s a h fit = let is = stands_for a (omega (arith, fit.0)) in (is.within, is.shape ∙ fit.1)

  both_fit : (op : BinaryOp) (a b : TermId) → a.0 < length ts → b.0 < length ts → OperandsFit op (shape_at ts a.0) (shape_at ts b.0) → OperandsFit op (shape_at ts (renamed_id F a).0) (shape_at ts (renamed_id F b).0)
  both_fit op a b ha hb fit =
      let P : Shape → Type 0 = λ x. OperandsFit op x (shape_at ts (renamed_id F b).0) in
      let Q : Shape → Type 0 = λ x. OperandsFit op (shape_at ts a.0) x in
      subst P (sym (stands_for a ha).shape) (subst Q (sym (stands_for b hb).shape) fit)

  pub renamed_fits : (i : ℕ) (s : Shape) (k : TermKind) → i < length ts → IsKindAt ts i s k → IsKindAt ts (length ts) s (renamed_kind F k)
  renamed_fits i s (Constant m) h fit = fit
  renamed_fits i s (Variable m) h fit = fit
  renamed_fits i s (Unary op a) h fit = operand_fits i s a h fit
  renamed_fits i s (Binary op a b) h fit =
      let ha : a.0 < length ts = omega (arith, fit.0) in
      let hb : b.0 < length ts = omega (arith, fit.1) in
      ((stands_for a ha).within, (stands_for b hb).within, both_fit op a b ha hb fit.2, fit.3 ∙ ap (result_shape op) (sym (stands_for a ha).shape))
  renamed_fits i s (Fits op a b) h fit =
      let ha : a.0 < length ts = omega (arith, fit.0) in
      let hb : b.0 < length ts = omega (arith, fit.1) in
      ((stands_for a ha).within, (stands_for b hb).within, both_fit op a b ha hb fit.2, fit.3)
  renamed_fits i s (Select t y n) h fit = (operand_fits i _ t h fit.0, operand_fits i s y h fit.1, operand_fits i s n h fit.2)
  renamed_fits i s (Convert a) h fit = (stands_for a (omega (arith, fit))).within

  pub renamed_value : (E V : ℕ → ℤ) (i : ℕ) (s : Shape) (k : TermKind) → Agrees E V ts → i < length ts → IsKindAt ts i s k → kind_value E V ts s (renamed_kind F k) ≡ kind_value E V ts s k
  renamed_value E V i s (Constant m) g h fit = refl
  renamed_value E V i s (Variable m) g h fit = refl
  renamed_value E V i s (Unary op a) g h fit = ap (unary_value s op) ((stands_for a (omega (arith, fit.0))).value E V g)
  renamed_value E V i s (Binary op a b) g h fit =
      let p = stands_for a (omega (arith, fit.0)) in
      let q = stands_for b (omega (arith, fit.1)) in
      λ z. binary_value (p.shape z) (q.shape z) op (p.value E V g z) (q.value E V g z)
  renamed_value E V i s (Fits op a b) g h fit =
      let p = stands_for a (omega (arith, fit.0)) in
      let q = stands_for b (omega (arith, fit.1)) in
      λ z. truth (fits_value (p.shape z) (q.shape z) op (p.value E V g z) (q.value E V g z))
  renamed_value E V i s (Select t y n) g h fit =
      let p = stands_for t (omega (arith, fit.0.0)) in
      let q = stands_for y (omega (arith, fit.1.0)) in
      let r = stands_for n (omega (arith, fit.2.0)) in
      λ z. if int_eq (p.value E V g z) (pos 0) then r.value E V g z else q.value E V g z
  renamed_value E V i s (Convert a) g h fit = ap (wrap_to s) ((stands_for a (omega (arith, fit))).value E V g)

-- a term that is folded stands for the term that it was made from
pub folded_same : (old new : List Term) (F : ℕ → Option TermId) (i : ℕ) (t : Term) (id : TermId) → t ≡ term_at old i → i < length old → IsTermAt old i t → AllSame old F → Grows old new → Replaces new t.shape (λ E V. kind_value E V old t.shape (renamed_kind F t.kind)) id → IsSame new i id
folded_same old new F i t id e within fit all grows by = record {
  within = by.within;
  shape = by.shape ∙ (ap (λ (x : Term). x.shape) e ∙ sym (ap (λ (x : Term). x.shape) (grows.same i within)));
  value = λ E V h.
      let g = grows.kept E V h in
      by.value E V h ∙ (renamed_value old F all E V i t.shape t.kind g within fit.1 ∙ (ap (λ (x : Term). term_value E V old x) e ∙ sym (g.at i within)));
}

-- ---- what was folded

nothing : (id : TermId) → None ≡ Some id → ⊥
nothing id e = cc

pub none_folded : (ts : List Term) (F : ℕ → Option TermId) → ((i : ℕ) → F i ≡ None) → AllSame ts F
none_folded ts F none = record {
  within = λ i id e. absurd (nothing id (sym (none i) ∙ e));
  at = λ i id e. absurd (nothing id (sym (none i) ∙ e));
}

same_grown : (old new : List Term) (i : ℕ) (id : TermId) → i < length old → Grows old new → IsSame old i id → IsSame new i id
same_grown old new i id low grows is = record {
  within = omega (arith, is.within, grows.longer);
  shape = ap (λ (x : Term). x.shape) (grows.same id.0 is.within) ∙ (is.shape ∙ sym (ap (λ (x : Term). x.shape) (grows.same i low)));
  value = λ E V g. is.value E V (grows.kept E V g);
}

pub all_grown : (old new : List Term) (F : ℕ → Option TermId) → Grows old new → AllSame old F → AllSame new F
all_grown old new F grows all = record {
  within = λ i id e. omega (arith, all.within i id e, grows.longer);
  at = λ i id e. same_grown old new i id (all.within i id e) grows (all.at i id e);
}

same_answer : (x y : TermId) → Some x ≡ Some y → x ≡ y
same_answer x y e = cc

-- one more term that was folded
pub all_with : (ts : List Term) (F G : ℕ → Option TermId) (i : ℕ) (id : TermId) → AllSame ts F → i < length ts → IsSame ts i id → ((j : ℕ) → G j ≡ cond (i == j) (Some id) (F j)) → AllSame ts G
all_with ts F G i id all low is new = record { within = λ j x e. (known j x e).0; at = λ j x e. (known j x e).1 }
  where
    known : (j : ℕ) (x : TermId) → G j ≡ Some x → (j < length ts) × IsSame ts j x
    known j x e = ⊎_elim
        (λ yes.
        let own : x ≡ id = same_answer x id (sym e ∙ (new j ∙ ap (λ (b : Bool). cond b (Some id) (F j)) (eq-eqb i j yes))) in
        let P : TermId → Type 0 = λ z. IsSame ts j z in
        let Q : ℕ → Type 0 = λ n. (n < length ts) × IsSame ts n id in
        let there = subst Q yes (low, is) in
        (there.0, subst P (sym own) there.1))
        (λ no. let other : F j ≡ Some x = sym (ap (λ (b : Bool). cond b (Some id) (F j)) (ne_eqb i j no)) ∙ (sym (new j) ∙ e) in (all.within j x other, all.at j x other))
        (cases_eq i j)

-- ---- the terms that wait

pub all_below : (old new : List Term) (ws : List TermId) → length old ≤ length new → All (λ w. w.0 < length old) ws → All (λ w. w.0 < length new) ws
all_below old new ws longer below = All-weaker (λ (w : TermId). w.0 < length old) (λ (w : TermId). w.0 < length new) (λ w h. omega arith) ws below

pub one_more_waits : (n : ℕ) (w : TermId) (ws new : List TermId) → new ≡ w ∷ ws → w.0 < n → All (λ w. w.0 < n) ws → All (λ w. w.0 < n) new
one_more_waits n w ws new e h all = let P : List TermId → Type 0 = λ vs. All (λ (w : TermId). w.0 < n) vs in subst P (sym e) (All-cons (λ (w : TermId). w.0 < n) w ws h all)

pub one_less_waits : (n : ℕ) (w : TermId) (ws old : List TermId) → old ≡ w ∷ ws → All (λ w. w.0 < n) old → (w.0 < n) × All (λ w. w.0 < n) ws
one_less_waits n w ws old e all =
    let P : List TermId → Type 0 = λ vs. All (λ (w : TermId). w.0 < n) vs in
    let here = subst P e all in
    (All-head (λ (w : TermId). w.0 < n) w ws here, All-tail (λ (w : TermId). w.0 < n) w ws here)

-- an operand of those that were found
pub first_below : (n : ℕ) (a b : TermId) (x y : Option TermId) → a.0 < n → b.0 < n → IfSome x (λ f. f ≡ a) → IfSome y (λ f. f ≡ b) → IfSome (option_or x y) (λ f. f.0 < n)
first_below n a b None None ha hb hx hy = tt
first_below n a b None (Some y) ha hb hx hy = subst (λ (f : TermId). f.0 < n) (sym hy) hb
first_below n a b (Some x) y ha hb hx hy = subst (λ (f : TermId). f.0 < n) (sym hx) ha

-- what is handed back stands for the term, whose shape the table keeps
pub answer_same : (old new : List Term) (F : ℕ → Option TermId) (id answer : TermId) → id.0 < length old → Grows old new → AllSame new F → answer ≡ renamed_id F id → IsSame new id.0 answer
answer_same old new F id answer low grows all e = let P : TermId → Type 0 = λ x. IsSame new id.0 x in subst P (sym e) (stands_for new F all id (omega (arith, grows.longer)))

pub kept_shape : (old new : List Term) (i : ℕ) → i < length old → Grows old new → shape_at new i ≡ shape_at old i
kept_shape old new i low grows = ap (λ (x : Term). x.shape) (grows.same i low)

pub ruleset added = (grows_not_at_all, added_in_place)

pub ruleset folded_rules = (names_below, renamed_fits, folded_same)

pub ruleset first_of = (first_below)

pub ruleset steps = (all_grown, all_with, all_below, one_more_waits, names_below, grows_on, grows_not_at_all)

pub ruleset loops = (none_folded, all_grown, one_less_waits, one_more_waits, stands_for, grows_on, grows_not_at_all)
