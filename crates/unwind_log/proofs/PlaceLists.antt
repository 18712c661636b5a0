-- Rows read by slice_get, and what a seat knows after a change of one place.
use Rattle.std.proofs.Common.{◌≡◌, ◌≢◌, ◌⊎◌, ℕ, zero, suc, ◌+◌, ◌<◌, eqb, eq-eqb, ne_eqb, Bool, true, false, ◌||◌, cond, true≢false, List, [], ◌∷◌, ◌++◌, length, set, inl, inr, refl, sym, ap, ◌∙◌, subst, ⊎_elim, arith, length-set, length-append, Some}
use Rattle.std.specs.Prelude.{slice_get}
use Rattle.std.specs.declared.alloc.Global.{Global}
use Rattle.once_cell.specs.Once.{cell_name}
use Rattle.kv_clause.specs.declared.template.Template.{Template}
use Rattle.unwind_log.specs.declared.cells.Place.{Place}
use Rattle.unwind_log.specs.declared.cells.Unwinding.{Unwinding}
use Rattle.unwind_log.specs.declared.cells.UnwindSeat.{UnwindSeat}
use Rattle.unwind_log.specs.Seats.{has, known_after, own_in, Fits, IsSeatOf}

module _ {A : Type 0} where
  pub get_push : (xs : List A) (x y : A) (i : ℕ) → slice_get (xs ++ x ∷ []) i ≡ Some y → (slice_get xs i ≡ Some y) ⊎ ((i ≡ length xs) × (x ≡ y))
  get_push [] x y zero e = inr (refl, cc)
  get_push [] x y (suc i) e = absurd (cc)
  get_push (z ∷ xs) x y zero e = inl e
  get_push (z ∷ xs) x y (suc i) e = ⊎_elim (λ t. inl t) (λ t. inr (ap suc t.0, t.1)) (get_push xs x y i e)

  pub get_set : (xs : List A) (i j : ℕ) (x y : A) → slice_get (set xs i x) j ≡ Some y → ((j ≡ i) × (x ≡ y)) ⊎ ((j ≢ i) × (slice_get xs j ≡ Some y))
  get_set [] i j x y e = absurd (cc)
  get_set (z ∷ xs) zero zero x y e = inl (refl, cc)
  get_set (z ∷ xs) zero (suc j) x y e = inr ((λ h. omega arith), e)
  get_set (z ∷ xs) (suc i) zero x y e = inr ((λ h. omega arith), e)
  get_set (z ∷ xs) (suc i) (suc j) x y e = ⊎_elim (λ t. inl (ap suc t.0, t.1)) (λ t. let n = t.0 in inr ((λ h. n (omega arith)), t.1)) (get_set xs i j x y e)

off : {b : Bool} → b ≡ false → b ≡ true → ⊥
off e t = true≢false (sym t ∙ e)

or_right : (a b : Bool) → b ≡ true → (a || b) ≡ true
or_right true b e = refl
or_right false b e = e

pub has-push : (n : ℕ) (xs : List ℕ) → has n (xs ++ n ∷ []) ≡ true
has-push n [] = ap (λ (b : Bool). b || false) (eq-eqb n n refl)
has-push n (x ∷ xs) = or_right (eqb x n) (has n (xs ++ n ∷ [])) (has-push n xs)

pub has-push_other : (n m : ℕ) (xs : List ℕ) → n ≢ m → has n (xs ++ m ∷ []) ≡ has n xs
has-push_other n m [] ne = ap (λ (b : Bool). b || false) (ne_eqb m n (λ e. ne (sym e)))
has-push_other n m (x ∷ xs) ne = ap (λ (b : Bool). eqb x n || b) (has-push_other n m xs ne)

-- a block that wasn't known comes last
pub known_new : (i : ℕ) (known : List ℕ) → has i known ≡ false → known_after i known ≡ known ++ i ∷ []
known_new i known new = ap (λ (b : Bool). cond b known (known ++ i ∷ [])) new

pub get_within : {A : Type 0} (xs : List A) (i : ℕ) → i < length xs → (x : A) × (slice_get xs i ≡ Some x)
get_within [] i h = absurd (omega arith)
get_within (x ∷ xs) zero h = (x, refl)
get_within (x ∷ xs) (suc i) h = get_within xs i (omega arith)

-- a seat of the same unwinding after a change of one place
pub changed : (u : Unwinding) (s t : UnwindSeat) (i : ℕ) (p : Place) → IsSeatOf u s → t.places.items ≡ set s.places.items i p → ((j : ℕ) → j ≢ i → has j t.known ≡ has j s.known)
    → ((cell : Global × ℕ) → slice_get u.cells.items i ≡ Some cell → Fits u.template t.known i cell p) → IsSeatOf u t
changed u s t i p k is others here = record {
  long = ap length is ∙ length-set s.places.items i p ∙ k.long;
  fit = λ j cell place ec ep. ⊎_elim
      (λ same. subst (λ (x : ℕ × Place). Fits u.template t.known x.0 cell x.1) (λ n. (sym same.0 n, same.1 n)) (here cell (subst (λ (x : ℕ). slice_get u.cells.items x ≡ Some cell) same.0 ec)))
      (λ other. let f = k.fit j cell place ec other.1 in record { cell_is = f.cell_is; met_is = f.met_is ∙ sym (others j other.0); value_is = f.value_is })
      (get_set s.places.items i j p place (subst (λ (ps : List Place). slice_get ps j ≡ Some place) is ep));
}

pub own_set : (ps : List Place) (i : ℕ) (p : Place) → i < length ps → own_in (slice_get (set ps i p) i) ≡ p.own
own_set [] i p h = absurd (omega arith)
own_set (x ∷ ps) zero p h = refl
own_set (x ∷ ps) (suc i) p h = own_set ps i p (omega arith)

pub same_cell : {A : Type 0} (xs : List A) (i : ℕ) (x y : A) → slice_get xs i ≡ Some x → slice_get xs i ≡ Some y → x ≡ y
same_cell xs i x y e f = cc

pub fresh_push : (t : Template) (cells : List (Global × ℕ)) (places : List Place) (n : ℕ) (cell : Global × ℕ) (p : Place) → length places ≡ n → slice_get cells n ≡ Some cell → p.note.cell ≡ cell_name cell → p.met ≡ false
    → ((i : ℕ) (d : Global × ℕ) (q : Place) → slice_get cells i ≡ Some d → slice_get places i ≡ Some q → Fits t [] i d q)
    → (i : ℕ) (d : Global × ℕ) (q : Place) → slice_get cells i ≡ Some d → slice_get (places ++ p ∷ []) i ≡ Some q → Fits t [] i d q
fresh_push t cells places n cell p len here name unmet before i d q ed eq = ⊎_elim
    (λ old. before i d q ed old)
    (λ new. let same : cell ≡ d = same_cell cells i cell d (ap (slice_get cells) (new.0 ∙ len) ∙ here) ed in record {
      cell_is = ap (λ (x : Place). x.note.cell) (sym new.1) ∙ name ∙ ap cell_name same;
      met_is = ap (λ (x : Place). x.met) (sym new.1) ∙ unmet;
      value_is = λ m. absurd (off (ap (λ (x : Place). x.met) (sym new.1) ∙ unmet) m);
    })
    (get_push places p q i eq)

pub longer : {A : Type 0} (xs : List A) (x : A) (n : ℕ) → length xs ≡ n → length (xs ++ x ∷ []) ≡ n + 1
longer xs x n e = omega (arith, length-append xs (x ∷ []), e)
