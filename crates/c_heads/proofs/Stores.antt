-- Stores stay laid out where values are stored, objects begin to live and others cease to.
use Rattle.std.proofs.Common.{◌≡◌, ℕ, zero, suc, ◌<◌, ◌≤◌, Bool, true, false, nat_lt, List, [], ◌∷◌, ◌++◌, length, map, take, drop, Option, Some, None, IsTrue, refl, sym, ap, ◌∙◌, subst, cond, arith}
use Rattle.std.proofs.lemmas.List.{length-map}
use Rattle.std.proofs.lemmas.Bool.Decides.{nat_tests}
use Rattle.std.specs.Prelude.{slice_get, slice_set}
use Rattle.c_kinds.specs.declared.types.CType.{CType}
use Rattle.c_kinds.specs.declared.types.CellType.{CellType}
use Rattle.c_kinds.specs.declared.types.CellType.TheVariants as cell
use Rattle.c_kinds.specs.Layouts.{begins_with}
use Rattle.c_rules.specs.declared.program.Program.{Program}
use Rattle.c_model.specs.declared.values.Scalar.{Scalar}
use Rattle.c_model.specs.declared.values.Scalar.TheVariants.{Number, Null, Wild, Inside}
use Rattle.c_model.specs.declared.values.Object.{Object}
use Rattle.c_model.specs.Programs.{types_of, types_in}
use Rattle.c_model.specs.Values.{unset_of}
use Rattle.c_model.specs.Store.{cells_in, held, written, object_with, stored_by, stored, types_from, born, outlived, outlives, survivors}
use Rattle.c_model.specs.Calls.{passed}
use Rattle.c_model.specs.Moves.{all_outlived}
use Rattle.c_model.specs.Heads.{IsOf, AreOf, IsPlace}
use Rattle.c_heads.specs.Typed.{IsPointer, AreLaidOut, IsLaidOut, Grows, IsPlaceOf, ArePassed}
use Rattle.c_heads.proofs.Numbers.{zero_fits}
use Rattle.c_heads.proofs.Cells.{cells_there, stay_of, written_length}

-- ---- objects that live on

pub grows_on : (store : List Object) → Grows store store
grows_on [] = tt
grows_on (a ∷ store) = (refl, refl, grows_on store)

pub grows_more : (store more : List Object) → Grows store (store ++ more)
grows_more [] more = tt
grows_more (a ∷ store) more = (refl, refl, grows_more store more)

grown_pointer : (store others : List Object) (object offset : ℕ) → Grows store others → object < length store → offset ≤ length (cells_in (slice_get store object))
    → (object < length others) × (offset ≤ length (cells_in (slice_get others object)))
grown_pointer [] others object offset g h k = absurd (omega (arith, h))
grown_pointer (a ∷ store) [] object offset g h k = absurd g
grown_pointer (a ∷ store) (b ∷ others) zero offset g h k = (omega arith, subst (λ (n : ℕ). offset ≤ n) g.1 k)
grown_pointer (a ∷ store) (b ∷ others) (suc object) offset g h k = let r = grown_pointer store others object offset g.2 (omega (arith, h)) k in (omega (arith, r.0), r.1)

module _ (store others : List Object) (g : Grows store others) where
  pub grown_scalar : (k : CellType) (s : Scalar) → IsOf store k s → IsOf others k s
  grown_scalar (cell.Integer kind) (Number n) h = h
  grown_scalar (cell.Integer kind) _ h = absurd h
  grown_scalar (cell.Pointer t) (Number n) h = absurd h
  grown_scalar (cell.Pointer t) Null h = tt
  grown_scalar (cell.Pointer t) Wild h = tt
  grown_scalar (cell.Pointer t) (Inside object offset) h = grown_pointer store others object offset g h.0 h.1

  pub grown_values : (ts : List CellType) (v : List Scalar) → AreOf store ts v → AreOf others ts v
  grown_values [] [] h = tt
  grown_values [] (s ∷ v) h = absurd h
  grown_values (t ∷ ts) [] h = absurd h
  grown_values (t ∷ ts) (s ∷ v) h = (grown_scalar t s h.0, grown_values ts v h.1)

-- ---- what is stored

set_grows : (store : List Object) (object offset : ℕ) (v : List Scalar) (old : Object) → slice_get store object ≡ Some old → Grows store (slice_set store object (object_with offset v old))
set_grows [] object offset v old e = tt
set_grows (a ∷ store) zero offset v old e =
    let same : a ≡ old = cc in
    (ap (λ o. o.number) same, ap (λ o. length o.cells) same ∙ sym (written_length v old.cells offset), grows_on store)
set_grows (a ∷ store) (suc object) offset v old e = (refl, refl, set_grows store object offset v old e)

stored_by_grows : (store : List Object) (object offset : ℕ) (v : List Scalar) (found : Option Object) → slice_get store object ≡ found → Grows store (stored_by found object offset v store)
stored_by_grows store object offset v None e = grows_on store
stored_by_grows store object offset v (Some old) e = set_grows store object offset v old e

pub stored_grows : (v : List Scalar) (s : Scalar) (store : List Object) → Grows store (stored v s store)
stored_grows v (Inside object offset) store = stored_by_grows store object offset v (slice_get store object) refl
stored_grows v _ store = grows_on store

below : (a n : ℕ) → nat_lt a n ≡ true → a < n
below a n e = grind (arith, nat_tests)

is_below : (a n : ℕ) → a < n → nat_lt a n ≡ true
is_below a n h = grind (arith, nat_tests)

-- the types of the cells of the first n objects are those of other objects
abbrev pub SameTypes : Program → ℕ → List Object → List Object → Type 0
SameTypes p n store others = (object offset : ℕ) → object < n → types_from p (slice_get store object) offset ≡ types_from p (slice_get others object) offset

module _ (p : Program) where
  grown_types : (store others : List Object) (object offset : ℕ) → Grows store others → object < length store → types_from p (slice_get store object) offset ≡ types_from p (slice_get others object) offset
  grown_types [] others object offset g h = absurd (omega (arith, h))
  grown_types (a ∷ store) [] object offset g h = absurd g
  grown_types (a ∷ store) (b ∷ others) zero offset g h = ap (λ n. drop offset (types_in p n)) g.0
  grown_types (a ∷ store) (b ∷ others) (suc object) offset g h = grown_types store others object offset g.2 (omega (arith, h))

  -- a place stays one where the types stay
  place_by : (store others : List Object) (n : ℕ) (t : CType) (s : Scalar) → SameTypes p n store others → IsPlace p store n t (s ∷ []) → IsPlace p others n t (s ∷ [])
  place_by store others n t (Inside object offset) same h =
      let P : List CellType → Type 0 = λ ts. IsTrue (begins_with ts (types_of p t)) in
      (h.0, subst P (same object offset h.0) h.1)
  place_by store others n t _ same h = absurd h

  pub grown_place : (store others : List Object) (n : ℕ) (t : CType) (s : Scalar) → Grows store others → n ≤ length store → IsPlaceOf p store n t s → IsPlaceOf p others n t s
  grown_place store others n t s g le h =
      (place_by store others n t s (λ object offset less. grown_types store others object offset g (omega (arith, less, le))) h.0, grown_scalar store others g (cell.Pointer t) s h.1)

  grown_objects : (store others : List Object) → Grows store others → (objects : List Object) → AreLaidOut p store objects → AreLaidOut p others objects
  grown_objects store others g [] h = tt
  grown_objects store others g (a ∷ objects) h = (grown_values store others g (types_in p a.number) a.cells h.0, grown_objects store others g objects h.1)

  -- ---- further objects

  with_more : (store objects more : List Object) → AreLaidOut p store objects → AreLaidOut p store more → AreLaidOut p store (objects ++ more)
  with_more store [] more h k = k
  with_more store (a ∷ objects) more h k = (h.0, with_more store objects more h.1 k)

  pub opened : (store more : List Object) → IsLaidOut p store → AreLaidOut p store more → IsLaidOut p (store ++ more)
  opened store more h k =
      let g = grows_more store more in
      with_more (store ++ more) store more (grown_objects store (store ++ more) g store h) (grown_objects store (store ++ more) g more k)

  unset_is : (store : List Object) (ts : List CellType) → AreOf store ts (map unset_of ts)
  unset_is store [] = tt
  unset_is store (cell.Integer kind ∷ ts) = (zero_fits kind, unset_is store ts)
  unset_is store (cell.Pointer t ∷ ts) = (tt, unset_is store ts)

  pub born_is : (store : List Object) (numbers : List ℕ) → AreLaidOut p store (born p numbers)
  born_is store [] = tt
  born_is store (number ∷ numbers) = (unset_is store (types_in p number), born_is store numbers)

  pub passed_is : (store : List Object) (numbers : List ℕ) (found : List (List Scalar)) → ArePassed p store numbers found → AreLaidOut p store (passed p numbers found)
  passed_is store [] found h = tt
  passed_is store (number ∷ numbers) [] h = born_is store (number ∷ numbers)
  passed_is store (number ∷ numbers) (v ∷ found) h = (h.0, passed_is store numbers found h.1)

  pub both_are : (store objects more : List Object) → AreLaidOut p store objects → AreLaidOut p store more → AreLaidOut p store (objects ++ more)
  both_are store objects more h k = with_more store objects more h k

  -- ---- what is stored, and read

  pub cells_at : (store objects : List Object) (object : ℕ) (old : Object) → AreLaidOut p store objects → slice_get objects object ≡ Some old → AreOf store (types_in p old.number) old.cells
  cells_at store [] object old h e = absurd (cc)
  cells_at store (a ∷ objects) zero old h e =
      let same : a ≡ old = cc in
      let P : Object → Type 0 = λ o. AreOf store (types_in p o.number) o.cells in
      subst P same h.0
  cells_at store (a ∷ objects) (suc object) old h e = cells_at store objects object old h.1 e

  set_is : (store objects : List Object) (object offset : ℕ) (v : List Scalar) (old : Object) → AreLaidOut p store objects → AreOf store (types_in p old.number) (written offset v old.cells)
      → AreLaidOut p store (slice_set objects object (object_with offset v old))
  set_is store [] object offset v old h k = tt
  set_is store (a ∷ objects) zero offset v old h k = (k, h.1)
  set_is store (a ∷ objects) (suc object) offset v old h k = (h.0, set_is store objects object offset v old h.1 k)

  module _ (store : List Object) (is : IsLaidOut p store) where
    stored_by_is : (object offset : ℕ) (us : List CellType) (v : List Scalar) (found : Option Object) → slice_get store object ≡ found → begins_with (types_from p found offset) us ≡ true → AreOf store us v
        → AreLaidOut p store (stored_by found object offset v store)
    stored_by_is object offset us v None e b k = is
    stored_by_is object offset us v (Some old) e b k =
        set_is store store object offset v old is (stay_of store (types_in p old.number) us v old.cells offset b k (cells_at store store object old is e))

    -- values of the types of the cells there
    pub stored_at : (object offset : ℕ) (us : List CellType) (v : List Scalar) → begins_with (types_from p (slice_get store object) offset) us ≡ true → AreOf store us v → IsLaidOut p (stored v (Inside object offset) store)
    stored_at object offset us v b k =
        grown_objects store (stored v (Inside object offset) store) (stored_grows v (Inside object offset) store) (stored v (Inside object offset) store)
        (stored_by_is object offset us v (slice_get store object) refl b k)

    -- a value of the place's type is stored in it
    pub stored_is : (n : ℕ) (t : CType) (s : Scalar) (v : List Scalar) → IsPlace p store n t (s ∷ []) → AreOf store (types_of p t) v → IsLaidOut p (stored v s store)
    stored_is n t (Inside object offset) v h k = stored_at object offset (types_of p t) v h.1 k
    stored_is n t _ v h k = absurd h

    nothing_there : (us : List CellType) (v : List Scalar) → begins_with [] us ≡ true → AreOf store us (take (length us) v)
    nothing_there [] v e = tt
    nothing_there (u ∷ us) v e = absurd (cc)

    held_by : (object offset : ℕ) (us : List CellType) (found : Option Object) → slice_get store object ≡ found → begins_with (types_from p found offset) us ≡ true
        → AreOf store us (take (length us) (drop offset (cells_in found)))
    held_by object offset us None e b = nothing_there us (drop offset []) b
    held_by object offset us (Some old) e b = cells_there store offset (types_in p old.number) us old.cells b (cells_at store store object old is e)

    -- what a place holds is a value of its type
    pub held_is : (n : ℕ) (t : CType) (s : Scalar) → IsPlace p store n t (s ∷ []) → AreOf store (types_of p t) (held (length (types_of p t)) s store)
    held_is n t (Inside object offset) h = held_by object offset (types_of p t) (slice_get store object) refl h.1
    held_is n t _ h = absurd h

  -- ---- ends of lives

  module _ (m : ℕ) where
    live_pointer : (n : ℕ) (store : List Object) (object offset : ℕ) → object < n → object < length store → offset ≤ length (cells_in (slice_get store object))
        → (object < length (map (outlives m) (take n store))) × (offset ≤ length (cells_in (slice_get (map (outlives m) (take n store)) object)))
    live_pointer n [] object offset l h k = absurd (omega (arith, h))
    live_pointer zero (a ∷ store) object offset l h k = absurd (omega (arith, l))
    live_pointer (suc n) (a ∷ store) zero offset l h k = (omega arith, subst (λ (i : ℕ). offset ≤ i) (sym (length-map a.cells (outlived m))) k)
    live_pointer (suc n) (a ∷ store) (suc object) offset l h k =
        let r = live_pointer n store object offset (omega (arith, l)) (omega (arith, h)) k in (omega (arith, r.0), r.1)

    live_types : (n : ℕ) (store : List Object) (object offset : ℕ) → object < n → types_from p (slice_get store object) offset ≡ types_from p (slice_get (map (outlives m) (take n store)) object) offset
    live_types zero store object offset l = absurd (omega (arith, l))
    live_types (suc n) [] object offset l = refl
    live_types (suc n) (a ∷ store) zero offset l = refl
    live_types (suc n) (a ∷ store) (suc object) offset l = live_types n store object offset (omega (arith, l))

  module _ (n : ℕ) (store : List Object) where
    lasts : (object offset : ℕ) (c : Bool) → nat_lt object n ≡ c → IsPointer store (Inside object offset) → IsPointer (survivors n store) (cond c (Inside object offset) Wild)
    lasts object offset true e h = live_pointer n n store object offset (below object n e) h.0 h.1
    lasts object offset false e h = tt

    pub outlived_scalar : (k : CellType) (s : Scalar) → IsOf store k s → IsOf (survivors n store) k (outlived n s)
    outlived_scalar (cell.Integer kind) (Number i) h = h
    outlived_scalar (cell.Integer kind) _ h = absurd h
    outlived_scalar (cell.Pointer t) (Number i) h = absurd h
    outlived_scalar (cell.Pointer t) Null h = tt
    outlived_scalar (cell.Pointer t) Wild h = tt
    outlived_scalar (cell.Pointer t) (Inside object offset) h = lasts object offset (nat_lt object n) refl h

    pub outlived_values : (ts : List CellType) (v : List Scalar) → AreOf store ts v → AreOf (survivors n store) ts (all_outlived n v)
    outlived_values [] [] h = tt
    outlived_values [] (s ∷ v) h = absurd h
    outlived_values (t ∷ ts) [] h = absurd h
    outlived_values (t ∷ ts) (s ∷ v) h = (outlived_scalar t s h.0, outlived_values ts v h.1)

    outlived_objects : (m : ℕ) (objects : List Object) → AreLaidOut p store objects → AreLaidOut p (survivors n store) (map (outlives n) (take m objects))
    outlived_objects zero objects h = tt
    outlived_objects (suc m) [] h = tt
    outlived_objects (suc m) (a ∷ objects) h = (outlived_values (types_in p a.number) a.cells h.0, outlived_objects m objects h.1)

    pub survivors_are : IsLaidOut p store → IsLaidOut p (survivors n store)
    survivors_are h = outlived_objects n store h

    outlived_same : (m : ℕ) (t : CType) (s : Scalar) → m ≤ n → IsPlace p store m t (s ∷ []) → outlived n s ≡ s
    outlived_same m t (Inside object offset) le h = ap (λ c. cond c (Inside object offset) Wild) (is_below object n (omega (arith, le, h.0)))
    outlived_same m t _ le h = absurd h

    -- a place in an object that lives on
    pub outlived_place : (m : ℕ) (t : CType) (s : Scalar) → m ≤ n → IsPlaceOf p store m t s → IsPlaceOf p (survivors n store) m t (outlived n s)
    outlived_place m t s le h =
        let P : Scalar → Type 0 = λ x. IsPlace p (survivors n store) m t (x ∷ []) in (
          subst P (sym (outlived_same m t s le h.0)) (place_by store (survivors n store) m t s (λ object offset less. live_types n n store object offset (omega (arith, less, le))) h.0),
          outlived_scalar (cell.Pointer t) s h.1,
        )
