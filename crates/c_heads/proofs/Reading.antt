-- Places: how they are reached, and what they give when they are read.
use Rattle.std.proofs.Common.{◌≡◌, ℕ, ◌+◌, ◌*◌, ◌<◌, ◌≤◌, Bool, true, false, not, ◌&&◌, ℤ, pos, negsuc, List, [], ◌∷◌, length, drop, get_or, Option, Some, None, refl, sym, ap, subst, cond, arith, length-drop}
use Rattle.std.proofs.lemmas.Int.{ints}
use Rattle.std.proofs.lemmas.List.{drop-drop}
use Rattle.std.proofs.lemmas.List.Quantifiers.{position-Some}
use Rattle.std.proofs.lemmas.Option.{slice_get-get_or, slice_get_within}
use Rattle.std.specs.Prelude.{slice_get, position, int_lt, unsigned_abs}
use Rattle.c_kinds.specs.declared.types.Derivation.{Derivation}
use Rattle.c_kinds.specs.declared.types.Derivation.TheVariants.{Pointer, Array}
use Rattle.c_kinds.specs.declared.types.Base.{Base}
use Rattle.c_kinds.specs.declared.types.Base.TheVariants as base
use Rattle.c_kinds.specs.declared.types.CType.{CType}
use Rattle.c_kinds.specs.declared.types.CellType.{CellType}
use Rattle.c_kinds.specs.declared.types.Shape.{Shape}
use Rattle.c_kinds.specs.declared.types.Shape.TheVariants as shape
use Rattle.c_kinds.specs.Types.{shape_by, shape_of, inner, without_outermost}
use Rattle.c_kinds.specs.Layouts.{begins_with, repeated, cell_types_by, struct_cell_types}
use Rattle.c_rules.specs.declared.checks.CheckKind.TheVariants.{Dereference, ArrayBounds}
use Rattle.c_rules.specs.declared.program.Program.{Program}
use Rattle.c_model.specs.declared.values.Scalar.{Scalar}
use Rattle.c_model.specs.declared.values.Scalar.TheVariants.{Inside}
use Rattle.c_model.specs.declared.values.Object.{Object}
use Rattle.c_model.specs.declared.values.Outcome.{Outcome}
use Rattle.c_model.specs.declared.values.Outcome.TheVariants.{Gives, Unmet}
use Rattle.c_model.specs.Programs.{types_of, types_in, cell_count}
use Rattle.c_model.specs.Values.{scalar_in}
use Rattle.c_model.specs.Store.{stored, is_numbered, place_by, place_of, cells_in, held, further, types_from, followed}
use Rattle.c_model.specs.Operators.{read_by, read, moved_by, element_by, element_of}
use Rattle.c_model.specs.Moves.{and_then}
use Rattle.c_model.specs.Heads.{AreOf, array_wait_by}
use Rattle.c_heads.specs.Typed.{IsPointer, IfGiven, IsLaidOut, IsPlaceOf}
use Rattle.c_heads.specs.Waiting.{IsGiven}
use Rattle.c_heads.specs.Sound.{Lives, IsPart}
use Rattle.c_heads.proofs.Pointers.{points, moves}
use Rattle.c_heads.proofs.Cells.{as_many, same_number}
use Rattle.c_heads.proofs.Stores.{stored_at, held_is, cells_at}
use Rattle.c_heads.proofs.Layouts.{begins_later, begins_within, element_begins, element_within}

-- ---- arrays

array_cells : (of_struct : ℕ → List CellType) (is_const : Bool) (count : ℕ) (ds : List Derivation) (b : Base) → shape_by ds b ≡ shape.Array count
    → cell_types_by of_struct ds b is_const ≡ repeated count (cell_types_by of_struct (without_outermost ds) b is_const)
array_cells of_struct c count [] base.Void e = absurd (cc)
array_cells of_struct c count [] (base.Integer k) e = absurd (cc)
array_cells of_struct c count [] (base.Struct n) e = absurd (cc)
array_cells of_struct c count [] (base.Function n) e = absurd (cc)
array_cells of_struct c count (Pointer q ∷ rest) b e = absurd (cc)
array_cells of_struct c count (Array n ∷ rest) b e =
    let same : n ≡ count = cc in
    ap (λ i. repeated i (cell_types_by of_struct rest b c)) same

module _ (P : Scalar → Type 0) (Q : Scalar → Type 0) where
  pub then : (o : Outcome) (f : Scalar → Outcome) → IfGiven P o → ((s : Scalar) → P s → IfGiven Q (f s)) → IfGiven Q (and_then o f)
  then (Gives s) f h k = k s h
  then (Unmet check) f h k = tt

module _ (p : Program) where
  pub types_of_array : (t : CType) (count : ℕ) → shape_of t ≡ shape.Array count → types_of p t ≡ repeated count (types_of p (inner t))
  types_of_array t count e = array_cells (struct_cell_types p.names.structs (length p.names.structs)) t.is_const count t.derived t.base e

  module _ (store : List Object) (is : IsLaidOut p store) where
    -- ---- the place of an object

    found_at : (number object : ℕ) → position (is_numbered number) store ≡ Some object → (found : Option Object) → slice_get store object ≡ found → (o : Object) × (slice_get store object ≡ Some o) × (o.number ≡ number)
    found_at number object e (Some o) f =
        let r = position-Some (is_numbered number) store object o e in
        let g : slice_get store object ≡ Some (get_or store object o) = slice_get-get_or store object o r.0 in
        let same : get_or store object o ≡ o = cc in
        let P : Object → Type 0 = λ x. is_numbered number x ≡ true in
        (o, f, same_number o.number number (subst P same r.1))
    found_at number object e None f =
        let o : Object = record { number = 0; cells = [] } in
        let r = position-Some (is_numbered number) store object o e in
        let g : slice_get store object ≡ Some (get_or store object o) = slice_get-get_or store object o r.0 in
        absurd (cc)

    begins_there : (object offset : ℕ) (o : Object) (us : List CellType) → slice_get store object ≡ Some o → begins_with (drop offset (types_in p o.number)) us ≡ true → begins_with (types_from p (slice_get store object) offset) us ≡ true
    begins_there object offset o us e h = let P : Option Object → Type 0 = λ x. begins_with (types_from p x offset) us ≡ true in subst P (sym e) h

    cell_number : (object : ℕ) (o : Object) → slice_get store object ≡ Some o → length o.cells ≡ length (types_in p o.number)
    cell_number object o e = as_many store (types_in p o.number) o.cells (cells_at p store store object o is e)

    -- a place in a living object, with as many cells behind it as it needs
    place_at : (object offset : ℕ) (o : Object) (t : CType) → slice_get store object ≡ Some o → offset ≤ length (types_in p o.number) → begins_with (drop offset (types_in p o.number)) (types_of p t) ≡ true
        → IsPlaceOf p store (length store) t (Inside object offset)
    place_at object offset o t e le h =
        ((slice_get_within store object o e, begins_there object offset o (types_of p t) e h), points store object offset o e (omega (arith, le, cell_number object o e)))

    -- ---- what a place gives

    reads_by : (s : Shape) (t : CType) (n : ℕ) (place : Scalar) → cell_count p t ≡ length (types_of p t) → IsPlaceOf p store n t place → IsGiven p store n (array_wait_by s t) (read_by p s t place store)
    reads_by (shape.Array count) t n place e h = h
    reads_by _ t n place e h =
        let P : ℕ → Type 0 = λ i. AreOf store (types_of p t) (held i place store) in
        subst P (sym e) (held_is p store is n t place h.0)

    pub reads : (t : CType) (n : ℕ) (place : Scalar) → cell_count p t ≡ length (types_of p t) → IsPlaceOf p store n t place → IsGiven p store n (array_wait_by (shape_of t) t) (read p t place store)
    reads t n place e h = reads_by (shape_of t) t n place e h

    -- ---- parts of objects

    further_at : (n object offset k : ℕ) (t u : CType) (found : Option Object) → slice_get store object ≡ found → IsPlaceOf p store n t (Inside object offset) → IsPart p k t u → IsPlaceOf p store n u (Inside object (offset + k))
    further_at n object offset k t u None e h part =
        let within = slice_get-get_or store object (record { number = 0; cells = [] }) h.1.0 in absurd (cc)
    further_at n object offset k t u (Some o) e h part =
        let P : Option Object → Type 0 = λ x. begins_with (types_from p x offset) (types_of p t) ≡ true in
        let Q : Option Object → Type 0 = λ x. offset ≤ length (cells_in x) in
        let R : List CellType → Type 0 = λ ts. begins_with ts (types_of p u) ≡ true in
        let there : begins_with (drop offset (types_in p o.number)) (types_of p t) ≡ true = subst P e h.0.1 in
        let start : offset ≤ length o.cells = subst Q e h.1.1 in
        let many = begins_within (drop offset (types_in p o.number)) (types_of p t) there in
        let le : offset + k ≤ length o.cells = omega (arith, start, many, part.0, length-drop offset (types_in p o.number), cell_number object o e) in
        let begins = begins_later k (drop offset (types_in p o.number)) (types_of p t) (types_of p u) there part.1 in
        ((h.0.0, begins_there object (offset + k) o (types_of p u) e (subst R (drop-drop k offset (types_in p o.number)) begins)), points store object (offset + k) o e le)

    pub further_is : (n k : ℕ) (t u : CType) (place : Scalar) → IsPlaceOf p store n t place → IsPart p k t u → IsPlaceOf p store n u (further k place)
    further_is n k t u (Inside object offset) h part = further_at n object offset k t u (slice_get store object) refl h part
    further_is n k t u _ h part = absurd h.0

    -- ---- pointers that are followed

    followed_by : (t : CType) (object offset : ℕ) (c : Bool) → begins_with (types_from p (slice_get store object) offset) (types_of p t) ≡ c → IsPointer store (Inside object offset)
        → IfGiven (IsPlaceOf p store (length store) t) (cond c (Gives (Inside object offset)) (Unmet Dereference))
    followed_by t object offset true e h = ((h.0, e), h)
    followed_by t object offset false e h = tt

    pub followed_is : (t : CType) (s : Scalar) → IsPointer store s → IfGiven (IsPlaceOf p store (length store) t) (followed p t s store)
    followed_is t (Inside object offset) h = followed_by t object offset (begins_with (types_from p (slice_get store object) offset) (types_of p t)) refl h
    followed_is t _ h = tt

    -- ---- elements

    index_within : (n : ℤ) (count : ℕ) → (not (int_lt n (pos 0)) && int_lt n (pos count)) ≡ true → unsigned_abs n < count
    index_within (pos a) count h = grind (arith, ints)
    index_within (negsuc a) count h = grind (arith, ints)

    element_part : (t : CType) (count i : ℕ) → shape_of t ≡ shape.Array count → cell_count p (inner t) ≡ length (types_of p (inner t)) → i < count → IsPart p (i * cell_count p (inner t)) t (inner t)
    element_part t count i e agree less =
        let P : List CellType → ℕ → Type 0 = λ ts size. (i * size ≤ length ts) × (begins_with (drop (i * size) ts) (types_of p (inner t)) ≡ true) in
        subst (λ (ts : List CellType). P ts (cell_count p (inner t))) (sym (types_of_array t count e))
        (subst (λ (size : ℕ). P (repeated count (types_of p (inner t))) size) (sym agree) (element_within (types_of p (inner t)) count i less, element_begins (types_of p (inner t)) count i less))

    element_at : (t : CType) (count m : ℕ) (n : ℤ) (place : Scalar) (c : Bool) → (not (int_lt n (pos 0)) && int_lt n (pos count)) ≡ c → shape_of t ≡ shape.Array count → cell_count p (inner t) ≡ length (types_of p (inner t))
        → IsPlaceOf p store m t place → IfGiven (IsPlaceOf p store m (inner t)) (cond c (Gives (further (unsigned_abs n * cell_count p (inner t)) place)) (Unmet ArrayBounds))
    element_at t count m n place true h e agree is_place = further_is m (unsigned_abs n * cell_count p (inner t)) t (inner t) place is_place (element_part t count (unsigned_abs n) e agree (index_within n count h))
    element_at t count m n place false h e agree is_place = tt

    elements_by : (s : Shape) (t : CType) (v : List Scalar) (n : ℤ) → shape_of t ≡ s → cell_count p (inner t) ≡ length (types_of p (inner t)) → IsGiven p store (length store) (array_wait_by s t) v
        → IfGiven (IsPlaceOf p store (length store) (inner t)) (element_by p s t (scalar_in v) n store)
    elements_by (shape.Array count) t [] n e agree h = absurd h
    elements_by (shape.Array count) t (place ∷ []) n e agree h = element_at t count (length store) n place (not (int_lt n (pos 0)) && int_lt n (pos count)) refl e agree h
    elements_by (shape.Array count) t (place ∷ (r ∷ v)) n e agree h = absurd h
    elements_by _ t v n e agree h =
        then (IsPointer store) (IsPlaceOf p store (length store) (inner t)) (moved_by p t n (scalar_in v) store) (λ q. followed p (inner t) q store)
        (moves store (cell_count p (inner t)) n (scalar_in v)) (λ q k. followed_is (inner t) q k)

    -- the element of an array, or of what a pointer points into
    pub elements : (t : CType) (v : List Scalar) (n : ℤ) → cell_count p (inner t) ≡ length (types_of p (inner t)) → IsGiven p store (length store) (array_wait_by (shape_of t) t) v
        → IfGiven (IsPlaceOf p store (length store) (inner t)) (element_of p t (scalar_in v) n store)
    elements t v n agree h = elements_by (shape_of t) t v n refl agree h

    -- the place of a named object
    pub object_is : (number : ℕ) (t : CType) → Lives store number → begins_with (types_in p number) (types_of p t) ≡ true → IsPlaceOf p store (length store) t (place_of number store)
    object_is number t live h =
        let o = found_at number live.0 live.1 (slice_get store live.0) refl in
        let P : ℕ → Type 0 = λ i. begins_with (types_in p i) (types_of p t) ≡ true in
        let R : Option ℕ → Type 0 = λ a. IsPlaceOf p store (length store) t (place_by a) in
        subst R (sym live.1) (place_at live.0 0 o.0 t o.1 (omega arith) (subst P (sym o.2) h))

    -- a declared object is filled from a cell on
    pub filled : (number offset : ℕ) (us : List CellType) (v : List Scalar) → Lives store number → begins_with (drop offset (types_in p number)) us ≡ true → AreOf store us v → IsLaidOut p (stored v (further offset (place_of number store)) store)
    filled number offset us v live h k =
        let o = found_at number live.0 live.1 (slice_get store live.0) refl in
        let P : ℕ → Type 0 = λ i. begins_with (drop offset (types_in p i)) us ≡ true in
        let zero_on : 0 + offset ≡ offset = omega arith in
        let Q : ℕ → Type 0 = λ i. IsLaidOut p (stored v (Inside live.0 i) store) in
        let R : Option ℕ → Type 0 = λ a. IsLaidOut p (stored v (further offset (place_by a)) store) in
        subst R (sym live.1) (subst Q (sym zero_on) (stored_at p store is live.0 offset us v (begins_there live.0 offset o.0 us o.1 (subst P (sym o.2) h)) k))
