-- The first place of each key, after one more key.
use Rattle.std.proofs.Common.{◌≡◌, ℕ, ◌+◌, Bool, true, false, cond, List, [], ◌∷◌, ◌++◌, length, Option, Some, None, is_some, refl, ap, sym, ◌∙◌, subst, ⊎_elim, arith}
use Rattle.std.proofs.lemmas.Bool.{cases_Bool}
use Rattle.std.specs.Cmp.Lexicographic.{bytes_decides, nat_list_eq_equiv}
use Rattle.std.specs.HashMap.{HashMap, get_by, UpdatesBy}
use Rattle.std.specs.List.{position_from}
use Rattle.std.specs.Map.{lookup, IsKeyTest, AreApart, KeepsOthers}
use Rattle.std.specs.Str.{bytes_eq}
use Rattle.std.specs.declared.vec.Vec.{Vec}
use Rattle.c_scopes.specs.Firsts.{first_place}

first_or : Option ℕ → Option ℕ → Option ℕ
first_or None y = y
first_or (Some n) y = Some n

or_none : (x : Option ℕ) → first_or x None ≡ x
unfolding first_or
or_none None = refl
or_none (Some n) = refl

step : (b : Bool) (i : ℕ) (rest next y : Option ℕ) → next ≡ first_or rest y → cond b (Some i) next ≡ first_or (cond b (Some i) rest) y
unfolding first_or
step true i rest next y h = refl
step false i rest next y h = h

ends : (b : Bool) (i n : ℕ) → i ≡ n → cond b (Some i) None ≡ first_or None (cond b (Some n) None)
unfolding first_or
ends b i n e = ap (λ n. cond b (Some n) None) e

module _ (test : List ℕ → Bool) (x : List ℕ) where
  more : (i n : ℕ) (keys : List (List ℕ)) → n ≡ i + length keys
      → position_from test i (keys ++ x ∷ []) ≡ first_or (position_from test i keys) (cond (test x) (Some n) None)
  more i n [] e = ends (test x) i n (omega arith)
  more i n (key ∷ keys) e =
      step (test key) i (position_from test (i + 1) keys) (position_from test (i + 1) (keys ++ x ∷ [])) (cond (test x) (Some n) None)
      (more (i + 1) n keys (omega arith))

present_by : (b : Bool) (n m : ℕ) (x : Option ℕ) → (b ≡ true → x ≡ Some n) → x ≡ first_or x (cond b (Some m) None)
unfolding first_or
present_by true n m None known = absurd (cc (known refl))
present_by false n m None known = refl
present_by b n m (Some k) known = refl

absent_by : (b : Bool) (m : ℕ) (x : Option ℕ) → b ≡ true → x ≡ None → Some m ≡ first_or x (cond b (Some m) None)
unfolding first_or
absent_by true m None is none = refl
absent_by true m (Some k) is none = absurd (cc)
absent_by false m x is none = absurd (cc)

other_by : (b : Bool) (m : ℕ) (x : Option ℕ) → b ≡ false → x ≡ first_or x (cond b (Some m) None)
unfolding first_or
other_by true m x is = absurd (cc)
other_by false m None is = refl
other_by false m (Some k) is = refl

apart : (name other key : List ℕ) → bytes_eq name other ≡ false → bytes_eq name key ≡ true → bytes_eq other key ≡ false
apart name other key differ same = nat_list_eq_equiv.symm other key ∙ sym (nat_list_eq_equiv.congr name key other same) ∙ differ

kept : {K A : Type 0} (eq : K → K → Bool) (test : K → Bool) (old new : List (K × A)) → KeepsOthers eq test old new
    → (other : K → Bool) → IsKeyTest eq other → AreApart test other → lookup other new ≡ lookup other old
unfolding KeepsOthers
kept eq test old new h = h

-- the first place of a key, after one more key
one_more : (keys : List (List ℕ)) (key name : List ℕ) → first_place (keys ++ key ∷ []) name ≡ first_or (first_place keys name) (cond (bytes_eq key name) (Some (length keys)) None)
one_more keys key name = more (λ other. bytes_eq other name) key 0 (length keys) keys (omega arith)

module _ {X S : Type 0} (old new : HashMap (Vec ℕ X) ℕ S) where
  -- the key has this in the new map, and the others have what they had
  abbrev pub Changes : List ℕ → ℕ → Type 0
  Changes key now = UpdatesBy (λ x y. bytes_eq x.items y.items) (λ other. bytes_eq key other.items) old new (Some now)

  abbrev Has : HashMap (Vec ℕ X) ℕ S → List (List ℕ) → Type 0
  Has map keys = (key : List ℕ) → get_by (λ other. bytes_eq key other.items) map ≡ first_place keys key

  there : (key : List ℕ) (now : ℕ) → Changes key now → (name : List ℕ) → bytes_eq key name ≡ false
      → get_by (λ other. bytes_eq name other.items) new ≡ get_by (λ other. bytes_eq name other.items) old
  there key now change name differ = kept _ _ _ _ change.3 _ (λ x y. nat_list_eq_equiv.congr name x.items y.items) (λ other. apart key name other.items differ)

  -- a key that wasn't there stands at the end
  pub first_added : (key : List ℕ) (place : ℕ) → Changes key place → (keys : List (List ℕ)) → Has old keys → None ≡ first_place keys key → place ≡ length keys
      → Has new (keys ++ key ∷ [])
  first_added key place change keys had absent counts name =
      ⊎_elim
      (λ same.
      let same_name : key ≡ name = (bytes_decides key name).0 same in
      subst (λ at. get_by (λ other. bytes_eq at other.items) new ≡ first_place (keys ++ key ∷ []) at) same_name
      (change.1 ∙ ap Some counts ∙ absent_by (bytes_eq key key) (length keys) (first_place keys key) (nat_list_eq_equiv.refl key) (sym absent)
      ∙ sym (one_more keys key key)))
      (λ differ. there key place change name differ ∙ had name ∙ other_by (bytes_eq key name) (length keys) (first_place keys name) differ ∙ sym (one_more keys key name))
      (cases_Bool (bytes_eq key name))

-- a key that was there keeps its first place
pub first_kept : {X S : Type 0} (now : HashMap (Vec ℕ X) ℕ S) (key : List ℕ) (n : ℕ) (keys : List (List ℕ))
    → ((name : List ℕ) → get_by (λ other. bytes_eq name other.items) now ≡ first_place keys name) → Some n ≡ first_place keys key
    → (name : List ℕ) → get_by (λ other. bytes_eq name other.items) now ≡ first_place (keys ++ key ∷ []) name
first_kept now key n keys had present name =
    had name ∙ present_by (bytes_eq key name) n (length keys) (first_place keys name)
    (λ same. ap (first_place keys) (sym ((bytes_decides key name).0 same)) ∙ sym present) ∙ sym (one_more keys key name)

pub some_is : (x : Option ℕ) → is_some x ≡ true → (n : ℕ) × (Some n ≡ x)
some_is None h = absurd (cc)
some_is (Some n) h = (n, refl)

pub none_is : (x : Option ℕ) → is_some x ≡ false → None ≡ x
none_is None h = refl
none_is (Some n) h = absurd (cc)
