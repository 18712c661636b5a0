-- Lists of derivations and types: what their definitions say at a place.
use Rattle.std.proofs.Common.{◌≡◌, ℕ, suc, ◌+◌, ◌≤◌, Bool, true, false, ◌&&◌, List, [], ◌∷◌, length, eqb, refl, ap, sym, ◌∙◌, add-one, arith}
use Rattle.std.proofs.Math.ListN.{set}
use Rattle.std.proofs.lemmas.Bool.Decides.{nat_tests}
use Rattle.std.proofs.lemmas.Bool.{and_parts, false≢true, false_from_ne_true}
use Rattle.c_kinds.specs.declared.types.Derivation.{Derivation}
use Rattle.c_kinds.specs.declared.types.Derivation.TheVariants.{Pointer, Array}
use Rattle.c_kinds.specs.declared.types.CType.{CType}
use Rattle.c_kinds.specs.Types.{marked, ends_in_base, same, same_derivation, same_derivations, same_all}
use Rattle.c_arithmetic.specs.Arrays.{leading_arrays}

-- the first pointer is the one that changes
pub marked_is : (ds : List Derivation) (c : Bool) → marked ds c ≡ set ds (leading_arrays ds) (Pointer c)
marked_is [] c = refl
marked_is (Pointer old ∷ rest) c = refl
marked_is (Array n ∷ rest) c = rw add-one (ap (λ r. Array n ∷ r) (marked_is rest c))

-- nothing changes where there is no pointer
pub marked_none : (ds : List Derivation) (c : Bool) → length ds ≤ leading_arrays ds → marked ds c ≡ ds
marked_none [] c h = refl
marked_none (Pointer old ∷ rest) c h = absurd (omega arith)
marked_none (Array n ∷ rest) c h = ap (λ r. Array n ∷ r) (marked_none rest c (omega arith))

one_more : (a b : ℕ) → eqb a b ≡ eqb (a + 1) (suc b)
one_more a b = grind (arith, nat_tests)

none_more : (b : ℕ) → false ≡ eqb 0 (suc b)
none_more b = grind (arith, nat_tests)

-- no pointer stands in a type that consists of arrays alone
pub ends_in_base_is : (ds : List Derivation) → ends_in_base ds ≡ eqb (leading_arrays ds) (length ds)
ends_in_base_is [] = refl
ends_in_base_is (Pointer c ∷ rest) = none_more (length rest)
ends_in_base_is (Array n ∷ rest) = ends_in_base_is rest ∙ one_more (leading_arrays rest) (length rest)

-- the same lists are equally long
same_derivations_long : (strictly : Bool) (xs ys : List Derivation) → same_derivations strictly xs ys ≡ true → length xs ≡ length ys
same_derivations_long strictly [] [] h = refl
same_derivations_long strictly [] (y ∷ ys) h = absurd (false≢true h)
same_derivations_long strictly (x ∷ xs) [] h = absurd (false≢true h)
same_derivations_long strictly (x ∷ xs) (y ∷ ys) h =
    let rest = same_derivations_long strictly xs ys (and_parts (same_derivation strictly x y) (same_derivations strictly xs ys) h).1 in omega (arith, rest)

pub same_derivations_differ : (strictly : Bool) (xs ys : List Derivation) → (length xs ≡ length ys → ⊥) → same_derivations strictly xs ys ≡ false
same_derivations_differ strictly xs ys differ = false_from_ne_true (same_derivations strictly xs ys) (λ h. differ (same_derivations_long strictly xs ys h))

same_all_long : (xs ys : List CType) → same_all xs ys ≡ true → length xs ≡ length ys
same_all_long [] [] h = refl
same_all_long [] (y ∷ ys) h = absurd (false≢true h)
same_all_long (x ∷ xs) [] h = absurd (false≢true h)
same_all_long (x ∷ xs) (y ∷ ys) h =
    let rest = same_all_long xs ys (and_parts (same x y) (same_all xs ys) h).1 in omega (arith, rest)

pub same_all_differ : (xs ys : List CType) → (length xs ≡ length ys → ⊥) → same_all xs ys ≡ false
same_all_differ xs ys differ = false_from_ne_true (same_all xs ys) (λ h. differ (same_all_long xs ys h))
