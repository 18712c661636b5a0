-- What a map has at each name, after one name's declarations change.
use Rattle.std.proofs.Common.{◌≡◌, ℕ, Bool, true, false, List, [], ◌∷◌, ◌++◌, Some, None, Option, sym, ◌∙◌, ap, subst, refl, slice_get, ⊎_elim, MatchOption, arith, reverse}
use Rattle.std.proofs.lemmas.Bool.{cases_Bool, cond-true, cond-false}
use Rattle.std.proofs.lemmas.List.{reverse-append}
use Rattle.std.specs.Cmp.Lexicographic.{bytes_decides, nat_list_eq_equiv}
use Rattle.std.specs.HashMap.{HashMap, UpdatesBy}
use Rattle.std.specs.Map.{lookup, IsKeyTest, AreApart, KeepsOthers}
use Rattle.std.specs.Option.{unwrap_or}
use Rattle.std.specs.Str.{bytes_eq}
use Rattle.std.specs.declared.vec.Vec.{Vec}
use Rattle.c_tree.specs.declared.scope.Entry.{Entry}
use Rattle.c_tree.specs.Places.{find_in, find_further, first_of, names_type, without_first}
use Rattle.c_cursor.specs.Meanings.{meanings, meanings_at, HasMeanings, entries_of}

apart : (name other key : List ℕ) → bytes_eq name other ≡ false → bytes_eq name key ≡ true → bytes_eq other key ≡ false
apart name other key differ same = nat_list_eq_equiv.symm other key ∙ sym (nat_list_eq_equiv.congr name key other same) ∙ differ

kept : {K A : Type 0} (eq : K → K → Bool) (test : K → Bool) (old new : List (K × A)) → KeepsOthers eq test old new
    → (other : K → Bool) → IsKeyTest eq other → AreApart test other → lookup other new ≡ lookup other old
unfolding KeepsOthers
kept eq test old new h = h

-- what is left of a name's meanings without the newest
rest_is : (before now after : List Bool) (is_type : Bool) (popped : Option Bool) → MatchOption popped ((before ≡ []) × (now ≡ [])) (λ top. before ≡ top ∷ now)
    → before ≡ is_type ∷ after → now ≡ after
rest_is before now after is_type None popped was = let empty : before ≡ [] = popped.0 in cc
rest_is before now after is_type (Some top) popped was = cc

module _ {X S : Type 0} (old new : HashMap (Vec ℕ X) (List Bool) S) where
  -- the name has this in the new map, and the others have what they had
  abbrev pub Changes : List ℕ → List Bool → Type 0
  Changes name now = UpdatesBy (λ x y. bytes_eq x.items y.items) (λ key. bytes_eq name key.items) old new (Some now)

  here : (name : List ℕ) (now : List Bool) → Changes name now → meanings_at new name ≡ now
  here name now change = ap (λ found. unwrap_or found []) change.1

  there : (name : List ℕ) (now : List Bool) → Changes name now → (other : List ℕ) → bytes_eq name other ≡ false → meanings_at new other ≡ meanings_at old other
  there name now change other differ =
      ap (λ found. unwrap_or found []) (kept _ _ _ _ change.3 _ (λ x y. nat_list_eq_equiv.congr other x.items y.items) (λ key. apart name other key.items differ))

  -- an entry is added: its name has one more meaning in front
  pub meanings_added : (entry : Entry) (bytes : List ℕ) → bytes ≡ entry.name → (before now : List Bool) → Changes bytes now → meanings_at old bytes ≡ before → now ≡ entry.is_type ∷ before
      → (entries : List Entry) → HasMeanings entries old → HasMeanings (entry ∷ entries) new
  meanings_added entry bytes e before now changed was is entries had name =
      let change = subst (λ at. Changes at now) e changed in
      let said = subst (λ at. meanings_at old at ≡ before) e was in
      ⊎_elim
      (λ same.
      let same_name : entry.name ≡ name = (bytes_decides entry.name name).0 same in
      subst (λ at. meanings_at new at ≡ entry.is_type ∷ meanings entries at) same_name
      (here entry.name now change ∙ is ∙ ap (λ rest. entry.is_type ∷ rest) (sym said ∙ had entry.name))
      ∙ sym (cond-true (bytes_eq entry.name name) _ _ same))
      (λ differ. there entry.name now change name differ ∙ had name ∙ sym (cond-false (bytes_eq entry.name name) _ _ differ))
      (cases_Bool (bytes_eq entry.name name))

  -- an entry is taken away
  pub meanings_removed : (entry : Entry) (bytes : List ℕ) → bytes ≡ entry.name → (before now : List Bool) (popped : Option Bool) → Changes bytes now → meanings_at old bytes ≡ before
      → MatchOption popped ((before ≡ []) × (now ≡ [])) (λ top. before ≡ top ∷ now)
      → (entries : List Entry) → HasMeanings (entry ∷ entries) old → HasMeanings entries new
  meanings_removed entry bytes e before now popped changed was pop entries had name =
      let change = subst (λ at. Changes at now) e changed in
      let said = subst (λ at. meanings_at old at ≡ before) e was in
      let at_itself : bytes_eq entry.name entry.name ≡ true = nat_list_eq_equiv.refl entry.name in
      let all : before ≡ entry.is_type ∷ meanings entries entry.name = sym said ∙ had entry.name ∙ cond-true (bytes_eq entry.name entry.name) _ _ at_itself in
      ⊎_elim
      (λ same.
      let same_name : entry.name ≡ name = (bytes_decides entry.name name).0 same in
      subst (λ at. meanings_at new at ≡ meanings entries at) same_name
      (here entry.name now change ∙ rest_is before now (meanings entries entry.name) entry.is_type popped pop all))
      (λ differ. there entry.name now change name differ ∙ had name ∙ cond-false (bytes_eq entry.name name) _ _ differ)
      (cases_Bool (bytes_eq entry.name name))

-- the newest of a name's meanings is what the first declaration found says
pub newest_is : (entries : List Entry) (name : List ℕ) → slice_get (meanings entries name) 0 ≡ find_in entries name
newest_is [] name = refl
newest_is (entry ∷ entries) name = grind (arith, cond-true, cond-false, newest_is entries name)

-- a name is looked up in a block, and then in the declarations outside
find_append : (block entries : List Entry) (name : List ℕ)
    → unwrap_or (find_in (block ++ entries) name) false ≡ find_further (find_in block name) (unwrap_or (find_in entries name) false)
find_append [] entries name = refl
find_append (entry ∷ block) entries name = grind (arith, cond-true, cond-false, find_append block entries name)

pub names_type_is : (blocks : List (List Entry)) (name : List ℕ) → unwrap_or (find_in (entries_of blocks) name) false ≡ names_type blocks name
names_type_is [] name = refl
names_type_is (block ∷ blocks) name = find_append block (entries_of blocks) name ∙ ap (find_further (find_in block name)) (names_type_is blocks name)

-- one more entry in front of those that come before
pub reverse_push : (older : List Entry) (entry : Entry) (entries : List Entry) → reverse (older ++ entry ∷ []) ++ entries ≡ entry ∷ (reverse older ++ entries)
reverse_push older entry entries = ap (λ block. block ++ entries) (reverse-append older (entry ∷ []))

-- a declaration in the innermost block is in front of all others
pub entries_of_declared : (blocks whole rest : List (List Entry)) (block pushed : List Entry) (entry : Entry) → block ≡ first_of blocks → rest ≡ without_first blocks
    → pushed ≡ entry ∷ block → whole ≡ pushed ∷ rest → entry ∷ entries_of blocks ≡ entries_of whole
entries_of_declared [] whole rest block pushed entry first others push is = simp (is, push, first, others)
entries_of_declared (innermost ∷ blocks) whole rest block pushed entry first others push is = simp (is, push, first, others)
