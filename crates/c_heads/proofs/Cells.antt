-- Cells that begin with those of a type: what is read and written there.
use Rattle.std.proofs.Common.{◌≡◌, ℕ, zero, suc, ◌+◌, Bool, true, false, ◌&&◌, nat_eq, List, [], ◌∷◌, length, take, drop, refl, sym, ap, ◌∙◌, subst, cond, arith, add-one}
use Rattle.std.proofs.lemmas.Bool.Decides.{nat_tests}
use Rattle.std.specs.Prelude.{slice_set}
use Rattle.kv_num.specs.declared.types.IntType.{IntType}
use Rattle.kv_num.specs.declared.types.IntType.TheVariants.{Bool as B, Char, SChar, UChar, Short, UShort, Int, UInt, Long32, ULong32, Long, ULong, LongLong, ULongLong}
use Rattle.c_kinds.specs.declared.types.CellType.{CellType}
use Rattle.c_kinds.specs.declared.types.CellType.TheVariants as cell
use Rattle.c_kinds.specs.Types.{index_of, same_integer}
use Rattle.c_kinds.specs.Layouts.{same_cell, begins_with}
use Rattle.c_model.specs.declared.values.Scalar.{Scalar}
use Rattle.c_model.specs.declared.values.Scalar.TheVariants.{Number}
use Rattle.c_model.specs.declared.values.Object.{Object}
use Rattle.c_model.specs.Store.{written}
use Rattle.c_model.specs.Heads.{IsOf, AreOf}

-- ---- equal kinds of cells

pub both : (a b : Bool) → (a && b) ≡ true → (a ≡ true) × (b ≡ true)
both true b e = (refl, e)
both false b e = absurd (cc)

abbrev kind_at : ℕ → IntType
kind_at n = cond (nat_eq n 0) B (cond (nat_eq n 1) Char (cond (nat_eq n 2) SChar (cond (nat_eq n 3) UChar (cond (nat_eq n 4) Short (cond (nat_eq n 5) UShort (cond (nat_eq n 6) Int (cond (nat_eq n 7) UInt
    (cond (nat_eq n 8) Long32 (cond (nat_eq n 9) ULong32 (cond (nat_eq n 10) Long (cond (nat_eq n 11) ULong (cond (nat_eq n 12) LongLong ULongLong))))))))))))

kind_is : (k : IntType) → kind_at (index_of k) ≡ k
kind_is B = refl
kind_is _ = refl

pub same_number : (a b : ℕ) → nat_eq a b ≡ true → a ≡ b
same_number a b e = grind (arith, nat_tests)

pub same_kind : (k l : IntType) → same_integer k l ≡ true → k ≡ l
same_kind k l e = sym (kind_is k) ∙ (ap kind_at (same_number (index_of k) (index_of l) e) ∙ kind_is l)

module _ (store : List Object) where
  -- a value of one is one of the other
  pub read_as : (c k : CellType) (s : Scalar) → same_cell c k ≡ true → IsOf store c s → IsOf store k s
  read_as (cell.Integer k) (cell.Integer l) s e h = let P : IntType → Type 0 = λ i. IsOf store (cell.Integer i) s in subst P (same_kind k l e) h
  read_as (cell.Integer k) (cell.Pointer t) s e h = absurd (cc)
  read_as (cell.Pointer t) (cell.Integer l) s e h = absurd (cc)
  read_as (cell.Pointer t) (cell.Pointer u) (Number n) e h = absurd h
  read_as (cell.Pointer t) (cell.Pointer u) s e h = h

  pub written_as : (c k : CellType) (s : Scalar) → same_cell c k ≡ true → IsOf store k s → IsOf store c s
  written_as (cell.Integer k) (cell.Integer l) s e h = let P : IntType → Type 0 = λ i. IsOf store (cell.Integer i) s in subst P (sym (same_kind k l e)) h
  written_as (cell.Integer k) (cell.Pointer t) s e h = absurd (cc)
  written_as (cell.Pointer t) (cell.Integer l) s e h = absurd (cc)
  written_as (cell.Pointer t) (cell.Pointer u) (Number n) e h = absurd h
  written_as (cell.Pointer t) (cell.Pointer u) s e h = h

  -- ---- what is read

  pub as_many : (ts : List CellType) (v : List Scalar) → AreOf store ts v → length v ≡ length ts
  as_many [] [] h = refl
  as_many [] (s ∷ v) h = absurd h
  as_many (t ∷ ts) [] h = absurd h
  as_many (t ∷ ts) (s ∷ v) h = ap suc (as_many ts v h.1)

  from_on : (n : ℕ) (ts : List CellType) (v : List Scalar) → AreOf store ts v → AreOf store (drop n ts) (drop n v)
  from_on zero ts v h = h
  from_on (suc n) [] [] h = tt
  from_on (suc n) [] (s ∷ v) h = absurd h
  from_on (suc n) (t ∷ ts) [] h = absurd h
  from_on (suc n) (t ∷ ts) (s ∷ v) h = from_on n ts v h.1

  first_cells : (ts us : List CellType) (v : List Scalar) → begins_with ts us ≡ true → AreOf store ts v → AreOf store us (take (length us) v)
  first_cells ts [] v e h = tt
  first_cells [] (u ∷ us) v e h = absurd (cc)
  first_cells (t ∷ ts) (u ∷ us) [] e h = absurd h
  first_cells (t ∷ ts) (u ∷ us) (s ∷ v) e h = let e = both (same_cell t u) (begins_with ts us) e in (read_as t u s e.0 h.0, first_cells ts us v e.1 h.1)

  pub cells_there : (n : ℕ) (ts us : List CellType) (v : List Scalar) → begins_with (drop n ts) us ≡ true → AreOf store ts v → AreOf store us (take (length us) (drop n v))
  cells_there n ts us v e h = first_cells (drop n ts) us (drop n v) e (from_on n ts v h)

  -- ---- what is written

  set_one : (n : ℕ) (ts : List CellType) (u : CellType) (us : List CellType) (v : List Scalar) (s : Scalar) → begins_with (drop n ts) (u ∷ us) ≡ true → IsOf store u s → AreOf store ts v → AreOf store ts (slice_set v n s)
  set_one zero [] u us v s e k h = absurd (cc)
  set_one (suc n) [] u us v s e k h = absurd (cc)
  set_one n (t ∷ ts) u us [] s e k h = absurd h
  set_one zero (t ∷ ts) u us (x ∷ v) s e k h = (written_as t u s (both (same_cell t u) (begins_with ts us) e).0 k, h.1)
  set_one (suc n) (t ∷ ts) u us (x ∷ v) s e k h = (h.0, set_one n ts u us v s e k h.1)

  rest_begins : (n : ℕ) (ts : List CellType) (u : CellType) (us : List CellType) → begins_with (drop n ts) (u ∷ us) ≡ true → begins_with (drop (suc n) ts) us ≡ true
  rest_begins zero [] u us e = absurd (cc)
  rest_begins zero (t ∷ ts) u us e = (both (same_cell t u) (begins_with ts us) e).1
  rest_begins (suc n) [] u us e = absurd (cc)
  rest_begins (suc n) (t ∷ ts) u us e = rest_begins n ts u us e

  next_begins : (n : ℕ) (ts : List CellType) (u : CellType) (us : List CellType) → begins_with (drop n ts) (u ∷ us) ≡ true → begins_with (drop (n + 1) ts) us ≡ true
  next_begins n ts u us e = rw add-one (rest_begins n ts u us e)

  pub stay_of : (ts us : List CellType) (w v : List Scalar) (n : ℕ) → begins_with (drop n ts) us ≡ true → AreOf store us w → AreOf store ts v → AreOf store ts (written n w v)
  stay_of ts [] [] v n e k h = h
  stay_of ts [] (s ∷ w) v n e k h = absurd k
  stay_of ts (u ∷ us) [] v n e k h = absurd k
  stay_of ts (u ∷ us) (s ∷ w) v n e k h = stay_of ts us w (slice_set v n s) (n + 1) (next_begins n ts u us e) k.1 (set_one n ts u us v s e k.0 h)

-- as many cells as before
same_length : (n : ℕ) (v : List Scalar) (s : Scalar) → length (slice_set v n s) ≡ length v
same_length n [] s = refl
same_length zero (x ∷ v) s = refl
same_length (suc n) (x ∷ v) s = ap suc (same_length n v s)

pub written_length : (w v : List Scalar) (n : ℕ) → length (written n w v) ≡ length v
written_length [] v n = refl
written_length (s ∷ w) v n = written_length w (slice_set v n s) (n + 1) ∙ same_length n v s
