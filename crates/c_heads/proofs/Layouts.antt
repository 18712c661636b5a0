-- Which cells begin with which, part by part.
use Rattle.std.proofs.Common.{◌≡◌, ℕ, zero, suc, ◌+◌, ◌*◌, ◌<◌, ◌≤◌, Bool, true, false, ◌&&◌, nat_eq, List, [], ◌∷◌, ◌++◌, length, drop, Some, refl, sym, ap, ◌∙◌, subst, arith, eq-eqb, length-append}
use Rattle.std.specs.Prelude.{slice_get}
use Rattle.kv_num.specs.declared.types.IntType.{IntType}
use Rattle.c_kinds.specs.declared.types.Derivation.{Derivation}
use Rattle.c_kinds.specs.declared.types.Derivation.TheVariants.{Pointer, Array}
use Rattle.c_kinds.specs.declared.types.Base.{Base}
use Rattle.c_kinds.specs.declared.types.Base.TheVariants as base
use Rattle.c_kinds.specs.declared.types.CellType.{CellType}
use Rattle.c_kinds.specs.declared.types.CellType.TheVariants as cell
use Rattle.c_kinds.specs.Types.{index_of, same_integer, same_derivation, same_derivations, same_base}
use Rattle.c_kinds.specs.declared.types.Struct.{Struct}
use Rattle.c_kinds.specs.Layouts.{same_cell, begins_with, repeated, struct_cells, cells_by, cell_types_by}
use Rattle.c_heads.proofs.Cells.{both, same_number, same_kind}

-- ---- equal types

and_both : (a b : Bool) → a ≡ true → b ≡ true → (a && b) ≡ true
and_both true b e f = f
and_both false b e f = absurd (cc)

kind_again : (k : IntType) → same_integer k k ≡ true
kind_again k = eq-eqb (index_of k) (index_of k) refl

kinds_again : (k l m : IntType) → same_integer k l ≡ true → same_integer l m ≡ true → same_integer k m ≡ true
kinds_again k l m e f = let P : IntType → Type 0 = λ i. same_integer i m ≡ true in subst P (sym (same_kind k l e)) f

number_again : (a b c : ℕ) → nat_eq a b ≡ true → nat_eq b c ≡ true → nat_eq a c ≡ true
number_again a b c e f = eq-eqb a c (same_number a b e ∙ same_number b c f)

derivation_again : (d : Derivation) → same_derivation false d d ≡ true
derivation_again (Pointer c) = refl
derivation_again (Array n) = eq-eqb n n refl

derivations_again : (ds : List Derivation) → same_derivations false ds ds ≡ true
derivations_again [] = refl
derivations_again (d ∷ ds) = and_both _ _ (derivation_again d) (derivations_again ds)

base_again : (b : Base) → same_base b b ≡ true
base_again base.Void = refl
base_again (base.Integer k) = kind_again k
base_again (base.Struct n) = eq-eqb n n refl
base_again (base.Function n) = eq-eqb n n refl

cell_again : (k : CellType) → same_cell k k ≡ true
cell_again (cell.Integer k) = kind_again k
cell_again (cell.Pointer t) = and_both _ _ (derivations_again t.derived) (base_again t.base)

derivation_on : (d e f : Derivation) → same_derivation false d e ≡ true → same_derivation false e f ≡ true → same_derivation false d f ≡ true
derivation_on (Pointer a) (Pointer b) (Pointer c) h k = refl
derivation_on (Pointer a) (Pointer b) (Array n) h k = absurd (cc)
derivation_on (Pointer a) (Array n) f h k = absurd (cc)
derivation_on (Array n) (Pointer b) f h k = absurd (cc)
derivation_on (Array n) (Array m) (Pointer c) h k = absurd (cc)
derivation_on (Array n) (Array m) (Array i) h k = number_again n m i h k

derivations_on : (ds es fs : List Derivation) → same_derivations false ds es ≡ true → same_derivations false es fs ≡ true → same_derivations false ds fs ≡ true
derivations_on [] [] fs h k = k
derivations_on [] (e ∷ es) fs h k = absurd (cc)
derivations_on (d ∷ ds) [] fs h k = absurd (cc)
derivations_on (d ∷ ds) (e ∷ es) [] h k = absurd (cc)
derivations_on (d ∷ ds) (e ∷ es) (f ∷ fs) h k =
    let a = both (same_derivation false d e) (same_derivations false ds es) h in
    let b = both (same_derivation false e f) (same_derivations false es fs) k in
    and_both _ _ (derivation_on d e f a.0 b.0) (derivations_on ds es fs a.1 b.1)

base_on : (a b c : Base) → same_base a b ≡ true → same_base b c ≡ true → same_base a c ≡ true
base_on base.Void base.Void c h k = k
base_on (base.Integer i) (base.Integer j) (base.Integer l) h k = kinds_again i j l h k
base_on (base.Struct i) (base.Struct j) (base.Struct l) h k = number_again i j l h k
base_on (base.Function i) (base.Function j) (base.Function l) h k = number_again i j l h k
base_on _ _ _ h k = absurd (cc)

cell_on : (a b c : CellType) → same_cell a b ≡ true → same_cell b c ≡ true → same_cell a c ≡ true
cell_on (cell.Integer i) (cell.Integer j) (cell.Integer l) h k = kinds_again i j l h k
cell_on (cell.Pointer t) (cell.Pointer u) (cell.Pointer v) h k =
    let a = both (same_derivations false t.derived u.derived) (same_base t.base u.base) h in
    let b = both (same_derivations false u.derived v.derived) (same_base u.base v.base) k in
    and_both _ _ (derivations_on t.derived u.derived v.derived a.0 b.0) (base_on t.base u.base v.base a.1 b.1)
cell_on _ _ _ h k = absurd (cc)

-- ---- cells that begin with others

pub begins_again : (ts : List CellType) → begins_with ts ts ≡ true
begins_again [] = refl
begins_again (t ∷ ts) = and_both _ _ (cell_again t) (begins_again ts)

pub begins_on : (xs ts us : List CellType) → begins_with xs ts ≡ true → begins_with ts us ≡ true → begins_with xs us ≡ true
begins_on xs ts [] h k = refl
begins_on xs [] (u ∷ us) h k = absurd (cc)
begins_on [] (t ∷ ts) (u ∷ us) h k = absurd (cc)
begins_on (x ∷ xs) (t ∷ ts) (u ∷ us) h k =
    let a = both (same_cell x t) (begins_with xs ts) h in
    let b = both (same_cell t u) (begins_with ts us) k in
    and_both _ _ (cell_on x t u a.0 b.0) (begins_on xs ts us a.1 b.1)

-- further cells of both
pub begins_later : (k : ℕ) (xs ts us : List CellType) → begins_with xs ts ≡ true → begins_with (drop k ts) us ≡ true → begins_with (drop k xs) us ≡ true
begins_later zero xs ts us h k = begins_on xs ts us h k
begins_later (suc n) xs ts [] h k = refl
begins_later (suc n) xs [] (u ∷ us) h k = absurd (cc)
begins_later (suc n) [] (t ∷ ts) (u ∷ us) h k = absurd (cc)
begins_later (suc n) (x ∷ xs) (t ∷ ts) (u ∷ us) h k = begins_later n xs ts (u ∷ us) (both (same_cell x t) (begins_with xs ts) h).1 k

pub begins_within : (xs ts : List CellType) → begins_with xs ts ≡ true → length ts ≤ length xs
begins_within xs [] h = omega arith
begins_within [] (t ∷ ts) h = absurd (cc)
begins_within (x ∷ xs) (t ∷ ts) h = let r = begins_within xs ts (both (same_cell x t) (begins_with xs ts) h).1 in omega (arith, r)

-- one cell
pub begins_one : (ts : List CellType) (n : ℕ) (k : CellType) → slice_get ts n ≡ Some k → begins_with (drop n ts) (k ∷ []) ≡ true
begins_one [] n k e = absurd (cc)
begins_one (t ∷ ts) zero k e =
    let same : t ≡ k = cc in
    let P : CellType → Type 0 = λ x. (same_cell t x && true) ≡ true in
    subst P same (and_both _ _ (cell_again t) refl)
begins_one (t ∷ ts) (suc n) k e = begins_one ts n k e

-- ---- elements of arrays

before : (xs ys : List CellType) → begins_with (xs ++ ys) xs ≡ true
before [] ys = refl
before (x ∷ xs) ys = and_both _ _ (cell_again x) (before xs ys)

behind : (xs ys : List CellType) (n : ℕ) → drop (length xs + n) (xs ++ ys) ≡ drop n ys
behind [] ys n = let e : length {A = CellType} [] + n ≡ n = omega arith in ap (λ i. drop i ys) e
behind (x ∷ xs) ys n = let e : suc (length xs) + n ≡ suc (length xs + n) = omega arith in ap (λ i. drop i (x ∷ (xs ++ ys))) e ∙ behind xs ys n

-- the cells of the element i of so many
pub element_begins : (us : List CellType) (count i : ℕ) → i < count → begins_with (drop (i * length us) (repeated count us)) us ≡ true
element_begins us zero i h = absurd (omega (arith, h))
element_begins us (suc count) zero h =
    let e : zero * length us ≡ 0 = omega arith in
    let P : ℕ → Type 0 = λ k. begins_with (drop k (us ++ repeated count us)) us ≡ true in
    subst P (sym e) (before us (repeated count us))
element_begins us (suc count) (suc i) h =
    let e : suc i * length us ≡ length us + i * length us = omega arith in
    let P : List CellType → Type 0 = λ ts. begins_with ts us ≡ true in
    subst P (sym (ap (λ k. drop k (us ++ repeated count us)) e ∙ behind us (repeated count us) (i * length us))) (element_begins us count i (omega (arith, h)))

pub element_within : (us : List CellType) (count i : ℕ) → i < count → i * length us ≤ length (repeated count us)
element_within us zero i h = absurd (omega (arith, h))
element_within us (suc count) zero h = omega arith
element_within us (suc count) (suc i) h = let r = element_within us count i (omega (arith, h)) in omega (arith, r, length-append us (repeated count us))

-- ---- how many cells there are

repeated_length : (count : ℕ) (us : List CellType) → length (repeated count us) ≡ count * length us
repeated_length zero us = omega arith
repeated_length (suc count) us = let r = repeated_length count us in omega (arith, r, length-append us (repeated count us))

module _ (structs : List Struct) (of_struct : ℕ → List CellType) (is_const : Bool) (each : (number : ℕ) → struct_cells (slice_get structs number) ≡ length (of_struct number)) where
  pub count_is : (ds : List Derivation) (b : Base) → cells_by structs ds b ≡ length (cell_types_by of_struct ds b is_const)
  count_is [] base.Void = refl
  count_is [] (base.Integer k) = refl
  count_is [] (base.Struct number) = each number
  count_is [] (base.Function n) = refl
  count_is (Pointer c ∷ rest) b = refl
  count_is (Array n ∷ rest) b = ap (λ k. n * k) (count_is rest b) ∙ sym (repeated_length n (cell_types_by of_struct rest b is_const))
