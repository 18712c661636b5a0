-- What a map has at each name, after one name is added or taken away.
use Rattle.std.proofs.Common.{◌≡◌, ℕ, Bool, true, false, List, [], ◌∷◌, length, Some, None, Option, sym, ◌∙◌, ap, subst, refl, slice_get, ⊎_elim, MatchOption, arith}
use Rattle.std.proofs.lemmas.Bool.{cases_Bool, cond-true, cond-false}
use Rattle.std.specs.Cmp.Lexicographic.{bytes_decides, nat_list_eq_equiv}
use Rattle.std.specs.HashMap.{HashMap, UpdatesBy}
use Rattle.std.specs.Map.{lookup, IsKeyTest, AreApart, KeepsOthers}
use Rattle.std.specs.Option.{unwrap_or}
use Rattle.std.specs.Str.{bytes_eq}
use Rattle.std.specs.declared.vec.Vec.{Vec}
use Rattle.c_places.specs.Standing.{places_of, newest_place, places_at}

apart : (name other key : List ℕ) → bytes_eq name other ≡ false → bytes_eq name key ≡ true → bytes_eq other key ≡ false
apart name other key differ same = nat_list_eq_equiv.symm other key ∙ sym (nat_list_eq_equiv.congr name key other same) ∙ differ

kept : {K A : Type 0} (eq : K → K → Bool) (test : K → Bool) (old new : List (K × A)) → KeepsOthers eq test old new
    → (other : K → Bool) → IsKeyTest eq other → AreApart test other → lookup other new ≡ lookup other old
unfolding KeepsOthers
kept eq test old new h = h

-- what is left of a name's places without the newest
rest_is : (before now after : List ℕ) (place : ℕ) (popped : Option ℕ) → MatchOption popped ((before ≡ []) × (now ≡ [])) (λ top. before ≡ top ∷ now)
    → before ≡ place ∷ after → now ≡ after
rest_is before now after place None popped was = let empty : before ≡ [] = popped.0 in cc
rest_is before now after place (Some top) popped was = cc

module _ {X S : Type 0} (old new : HashMap (Vec ℕ X) (List ℕ) S) where
  -- the name has this in the new map, and the others have what they had
  abbrev pub Changes : List ℕ → List ℕ → Type 0
  Changes name now = UpdatesBy (λ x y. bytes_eq x.items y.items) (λ key. bytes_eq name key.items) old new (Some now)

  abbrev Has : HashMap (Vec ℕ X) (List ℕ) S → List (List ℕ) → Type 0
  Has map names = (name : List ℕ) → places_at map name ≡ places_of names name

  here : (name : List ℕ) (now : List ℕ) → Changes name now → places_at new name ≡ now
  here name now change = ap (λ found. unwrap_or found []) change.1

  there : (name : List ℕ) (now : List ℕ) → Changes name now → (other : List ℕ) → bytes_eq name other ≡ false → places_at new other ≡ places_at old other
  there name now change other differ =
      ap (λ found. unwrap_or found []) (kept _ _ _ _ change.3 _ (λ x y. nat_list_eq_equiv.congr other x.items y.items) (λ key. apart name other key.items differ))

  -- a name is added: it has one more place in front
  pub places_added : (first : List ℕ) (place : ℕ) (before now : List ℕ) → Changes first now → places_at old first ≡ before → now ≡ place ∷ before
      → (names : List (List ℕ)) → Has old names → place ≡ length names → Has new (first ∷ names)
  places_added first place before now change was is names had counts name =
      ⊎_elim
      (λ same.
      let same_name : first ≡ name = (bytes_decides first name).0 same in
      subst (λ at. places_at new at ≡ length names ∷ places_of names at) same_name
      (here first now change ∙ is ∙ ap (λ at. at ∷ before) counts ∙ ap (λ rest. length names ∷ rest) (sym was ∙ had first))
      ∙ sym (cond-true (bytes_eq first name) _ _ same))
      (λ differ. there first now change name differ ∙ had name ∙ sym (cond-false (bytes_eq first name) _ _ differ))
      (cases_Bool (bytes_eq first name))

  -- a name is taken away
  pub places_removed : (first : List ℕ) (before now : List ℕ) (popped : Option ℕ) → Changes first now → places_at old first ≡ before
      → MatchOption popped ((before ≡ []) × (now ≡ [])) (λ top. before ≡ top ∷ now)
      → (names : List (List ℕ)) → Has old (first ∷ names) → Has new names
  places_removed first before now popped change was pop names had name =
      let at_itself : bytes_eq first first ≡ true = nat_list_eq_equiv.refl first in
      let all : before ≡ length names ∷ places_of names first = sym was ∙ had first ∙ cond-true (bytes_eq first first) _ _ at_itself in
      ⊎_elim
      (λ same.
      let same_name : first ≡ name = (bytes_decides first name).0 same in
      subst (λ at. places_at new at ≡ places_of names at) same_name
      (here first now change ∙ rest_is before now (places_of names first) (length names) popped pop all))
      (λ differ. there first now change name differ ∙ had name ∙ cond-false (bytes_eq first name) _ _ differ)
      (cases_Bool (bytes_eq first name))

-- the first of a name's places is its newest
pub newest_is : (names : List (List ℕ)) (name : List ℕ) → slice_get (places_of names name) 0 ≡ newest_place names name
newest_is [] name = refl
newest_is (first ∷ names) name = grind (arith, cond-true, cond-false, newest_is names name)
