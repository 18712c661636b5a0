-- Signatures by their keys.
use Rattle.std.proofs.Common.{◌≡◌, ℕ, zero, suc, ◌+◌, Bool, true, false, cond, ◌&&◌, nat_eq, List, [], ◌∷◌, ◌++◌, length, map, Option, Some, None, slice_get, refl, ap, sym, ◌∙◌, subst, arith}
use Rattle.std.proofs.lemmas.Bool.{and_parts, false≢true, cond-true}
use Rattle.std.proofs.lemmas.Bool.Decides.{nat_tests}
use Rattle.std.specs.Cmp.Lexicographic.{nat_list_eq_equiv}
use Rattle.std.specs.List.{position_from}
use Rattle.std.specs.Str.{bytes_eq}
use Rattle.c_kinds.specs.declared.types.Derivation.{Derivation}
use Rattle.c_kinds.specs.declared.types.Derivation.TheVariants.{Pointer, Array}
use Rattle.c_kinds.specs.declared.types.Base.{Base}
use Rattle.c_kinds.specs.declared.types.Base.TheVariants as base
use Rattle.c_kinds.specs.declared.types.CType.{CType}
use Rattle.c_kinds.specs.declared.types.Signature.{Signature}
use Rattle.c_kinds.specs.Types.{index_of, same_bool, same_derivation, same_derivations, same_base, same, same_all, same_signature, place_from}
use Rattle.c_scopes.specs.Keys.{flag, derivation_key, base_key, type_key, types_key, signature_key}

equal_numbers : (n m : ℕ) → nat_eq n m ≡ true → n ≡ m
equal_numbers n m h = grind (arith, nat_tests)

flag_same : (c d : Bool) → same_bool c d ≡ true → flag c ≡ flag d
flag_same true true h = refl
flag_same true false h = absurd (false≢true h)
flag_same false true h = absurd (false≢true h)
flag_same false false h = refl

derivation_same : (d e : Derivation) → same_derivation true d e ≡ true → derivation_key d ≡ derivation_key e
derivation_same (Pointer c) (Pointer d) h = flag_same c d h
derivation_same (Array n) (Array m) h = equal_numbers n m h
derivation_same (Pointer c) (Array m) h = absurd (false≢true h)
derivation_same (Array n) (Pointer d) h = absurd (false≢true h)

derivations_same : (xs ys : List Derivation) → same_derivations true xs ys ≡ true → map derivation_key xs ≡ map derivation_key ys
derivations_same [] [] h = refl
derivations_same [] (y ∷ ys) h = absurd (false≢true h)
derivations_same (x ∷ xs) [] h = absurd (false≢true h)
derivations_same (x ∷ xs) (y ∷ ys) h =
    let p = and_parts (same_derivation true x y) (same_derivations true xs ys) h in
    ap (λ k. k ∷ map derivation_key xs) (derivation_same x y p.0) ∙ ap (λ rest. derivation_key y ∷ rest) (derivations_same xs ys p.1)

base_same : (a b : Base) → same_base a b ≡ true → base_key a ≡ base_key b
base_same base.Void base.Void h = refl
base_same (base.Integer k) (base.Integer l) h = ap (λ n. 3 ∷ n ∷ []) (equal_numbers (index_of k) (index_of l) h)
base_same (base.Struct n) (base.Struct m) h = ap (λ n. 4 ∷ n ∷ []) (equal_numbers n m h)
base_same (base.Function n) (base.Function m) h = ap (λ n. 5 ∷ n ∷ []) (equal_numbers n m h)
base_same _ _ h = absurd (false≢true h)

joined : (a b c d e f : List ℕ) → a ≡ b → c ≡ d → e ≡ f → a ++ (c ++ e) ≡ b ++ (d ++ f)
joined a b c d e f p q r = cc

type_same : (t u : CType) → same t u ≡ true → type_key t ≡ type_key u
type_same t u h =
    let p = and_parts (same_derivations true t.derived u.derived) (same_base t.base u.base && same_bool t.is_const u.is_const) h in
    let q = and_parts (same_base t.base u.base) (same_bool t.is_const u.is_const) p.1 in
    joined _ _ _ _ _ _ (derivations_same t.derived u.derived p.0) (base_same t.base u.base q.0) (ap (λ n. n ∷ []) (flag_same t.is_const u.is_const q.1))

types_same : (ts us : List CType) → same_all ts us ≡ true → types_key ts ≡ types_key us
types_same [] [] h = refl
types_same [] (u ∷ us) h = absurd (false≢true h)
types_same (t ∷ ts) [] h = absurd (false≢true h)
types_same (t ∷ ts) (u ∷ us) h =
    let p = and_parts (same t u) (same_all ts us) h in
    ap (λ k. k ++ types_key ts) (type_same t u p.0) ∙ ap (λ rest. type_key u ++ rest) (types_same ts us p.1)

-- the same signatures have the same key
signature_same : (f g : Signature) → same_signature f g ≡ true → signature_key f ≡ signature_key g
signature_same f g h =
    let p = and_parts (same f.result g.result) (same_all f.parameters g.parameters && same_bool f.is_variadic g.is_variadic) h in
    let q = and_parts (same_all f.parameters g.parameters) (same_bool f.is_variadic g.is_variadic) p.1 in
    joined _ _ _ _ _ _ (type_same f.result g.result p.0) (types_same f.parameters g.parameters q.0) (ap (λ n. n ∷ []) (flag_same f.is_variadic g.is_variadic q.1))

-- and so the test of keys finds them
found_same : (f g : Signature) → same_signature f g ≡ true → bytes_eq (signature_key f) (signature_key g) ≡ true
found_same f g h = subst (λ key. bytes_eq (signature_key f) key ≡ true) (signature_same f g h) (nat_list_eq_equiv.refl (signature_key f))

new_by : (b s : Bool) (i p n : ℕ) (rest : Option ℕ) → (s ≡ true → b ≡ true) → cond b (Some i) rest ≡ None → (rest ≡ None → p ≡ n) → cond s i p ≡ n
new_by true s i p n rest implies none further = absurd (cc)
new_by false true i p n rest implies none further = absurd (false≢true (implies refl))
new_by false false i p n rest implies none further = further none

known_by : (b s : Bool) (i p q : ℕ) (rest : Option ℕ) → (s ≡ true → b ≡ true) → cond b (Some i) rest ≡ Some (i + suc q) → (rest ≡ Some (i + suc q) → p ≡ i + suc q) → cond s i p ≡ i + suc q
known_by true s i p q rest implies is further = let e : i ≡ i + suc q = cc in absurd (omega arith)
known_by false true i p q rest implies is further = absurd (false≢true (implies refl))
known_by false false i p q rest implies is further = further is

module _ (g : Signature) where
  abbrev is_key : List ℕ → Bool
  is_key other = bytes_eq other (signature_key g)

  -- a signature whose key isn't found is new
  new_from : (i : ℕ) (fs : List Signature) → position_from is_key i (map signature_key fs) ≡ None → place_from i fs g ≡ i + length fs
  new_from i [] none = omega arith
  new_from i (f ∷ fs) none =
      new_by (bytes_eq (signature_key f) (signature_key g)) (same_signature f g) i (place_from (i + 1) fs g) (i + length (f ∷ fs))
      (position_from is_key (i + 1) (map signature_key fs)) (found_same f g) none
      (λ further. let rest = new_from (i + 1) fs further in omega (arith, rest))

  -- and one that stands where its key is found first has that place
  known_from : (i q : ℕ) (fs : List Signature) (f : Signature) → position_from is_key i (map signature_key fs) ≡ Some (i + q) → slice_get fs q ≡ Some f → same_signature f g ≡ true
      → place_from i fs g ≡ i + q
  known_from i q [] f is there same = absurd (cc)
  known_from i zero (x ∷ fs) f is there same =
      let e : x ≡ f = cc in
      cond-true (same_signature x g) i (place_from (i + 1) fs g) (ap (λ f. same_signature f g) e ∙ same) ∙ omega arith
  known_from i (suc q) (x ∷ fs) f is there same =
      known_by (bytes_eq (signature_key x) (signature_key g)) (same_signature x g) i (place_from (i + 1) fs g) q
      (position_from is_key (i + 1) (map signature_key fs)) (found_same x g) is
      (λ further. let moved : i + suc q ≡ (i + 1) + q = omega arith in
      known_from (i + 1) q fs f (further ∙ ap Some moved) there same ∙ sym moved)

  pub new_number : (fs : List Signature) → None ≡ position_from is_key 0 (map signature_key fs) → length fs ≡ place_from 0 fs g
  new_number fs none = let e = new_from 0 fs (sym none) in omega (arith, e)

  pub known_number : (fs : List Signature) (q : ℕ) (f : Signature) → Some q ≡ position_from is_key 0 (map signature_key fs) → slice_get fs q ≡ Some f → same_signature f g ≡ true
      → q ≡ place_from 0 fs g
  known_number fs q f is there same =
      let start : q ≡ 0 + q = omega arith in
      let e = known_from 0 q fs f (sym is ∙ ap Some start) there same in omega (arith, e)

-- one signature more has one key more
pub keys_more : (fs : List Signature) (g : Signature) → map signature_key (fs ++ g ∷ []) ≡ map signature_key fs ++ signature_key g ∷ []
keys_more [] g = refl
keys_more (f ∷ fs) g = ap (λ rest. signature_key f ∷ rest) (keys_more fs g)
