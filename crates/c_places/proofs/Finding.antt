-- What stands at the newest place of a name.
use Rattle.std.proofs.Common.{◌≡◌, ℕ, zero, suc, ◌<◌, Bool, true, false, cond, ◌||◌, List, [], ◌∷◌, ◌++◌, length, map, reverse, Option, Some, None, MatchOption, is_some, sym, ◌∙◌, ap, subst, refl, slice_get, arith}
use Rattle.std.proofs.lemmas.List.{reverse-append, length-reverse, length-map}
use Rattle.std.proofs.lemmas.List.Sorted.{IsPermutation-reverse, list_any-IsPermutation}
use Rattle.std.specs.List.{find, list_any}
use Rattle.std.specs.Option.{option_and_then}
use Rattle.std.specs.Str.{bytes_eq}
use Rattle.c_places.specs.Standing.{newest_place}

at_end : {A : Type 0} (p : List A) (x : A) → slice_get (p ++ x ∷ []) (length p) ≡ Some x
at_end [] x = refl
at_end (y ∷ p) x = at_end p x

before_end : {A : Type 0} (p : List A) (x : A) (n : ℕ) → n < length p → slice_get (p ++ x ∷ []) n ≡ slice_get p n
before_end [] x n h = absurd (omega arith)
before_end (y ∷ p) x zero h = refl
before_end (y ∷ p) x (suc n) h = before_end p x n (omega arith)

-- a place that stands further behind is still there
still_there : {A : Type 0} (p : List A) (x : A) (place : Option ℕ) → MatchOption place (Unit {0}) (λ n. n < length p)
    → option_and_then (slice_get (p ++ x ∷ [])) place ≡ option_and_then (slice_get p) place
still_there p x None h = refl
still_there p x (Some n) h = before_end p x n h

within_by : (b : Bool) (n : ℕ) (place : Option ℕ) → MatchOption place (Unit {0}) (λ m. m < n) → MatchOption (cond b (Some n) place) (Unit {0}) (λ m. m < suc n)
within_by true n place h = omega arith
within_by false n None h = tt
within_by false n (Some m) h = omega arith

newest_within : (names : List (List ℕ)) (name : List ℕ) → MatchOption (newest_place names name) (Unit {0}) (λ n. n < length names)
newest_within [] name = tt
newest_within (first ∷ names) name = within_by (bytes_eq first name) (length names) (newest_place names name) (newest_within names name)

found_by : {A : Type 0} (b : Bool) (f : ℕ → Option A) (n : ℕ) (place : Option ℕ) (x : A) (further : Option A) → f n ≡ Some x → option_and_then f place ≡ further
    → option_and_then f (cond b (Some n) place) ≡ cond b (Some x) further
found_by true f n place x further here there = here
found_by false f n place x further here there = there

module _ {A : Type 0} (name_of : A → List ℕ) where
  -- the newest element of a name stands at the name's newest place
  pub found : (xs : List A) (name : List ℕ)
      → option_and_then (slice_get (reverse xs)) (newest_place (map name_of xs) name) ≡ find (λ x. bytes_eq (name_of x) name) xs
  found [] name = refl
  found (x ∷ xs) name =
      let is : reverse (x ∷ xs) ≡ reverse xs ++ x ∷ [] = reverse-append (x ∷ []) xs in
      let last : length (map name_of xs) ≡ length (reverse xs) = length-map xs name_of ∙ sym (length-reverse xs) in
      let within : MatchOption (newest_place (map name_of xs) name) (Unit {0}) (λ n. n < length (reverse xs)) =
      subst (λ m. MatchOption (newest_place (map name_of xs) name) (Unit {0}) (λ n. n < m)) last (newest_within (map name_of xs) name) in
      found_by (bytes_eq (name_of x) name) (slice_get (reverse (x ∷ xs))) (length (map name_of xs)) (newest_place (map name_of xs) name) x
      (find (λ x. bytes_eq (name_of x) name) xs)
      (ap (λ ys. slice_get ys (length (map name_of xs))) is ∙ ap (slice_get (reverse xs ++ x ∷ [])) last ∙ at_end (reverse xs) x)
      (ap (λ ys. option_and_then (slice_get ys) (newest_place (map name_of xs) name)) is
      ∙ still_there (reverse xs) x (newest_place (map name_of xs) name) within ∙ found xs name)

known_by : (b : Bool) (n : ℕ) (place : Option ℕ) (further : Bool) → is_some place ≡ further → is_some (cond b (Some n) place) ≡ (b || further)
known_by true n place further h = refl
known_by false n place further h = h

-- a name has a newest place exactly where it stands
pub known : (names : List (List ℕ)) (name : List ℕ) → is_some (newest_place names name) ≡ list_any (λ other. bytes_eq other name) names
known [] name = refl
known (first ∷ names) name =
    known_by (bytes_eq first name) (length names) (newest_place names name) (list_any (λ other. bytes_eq other name) names) (known names name)

-- the order doesn't matter for that
pub known_reversed : (names : List (List ℕ)) (name : List ℕ) → is_some (newest_place (reverse names) name) ≡ list_any (λ other. bytes_eq other name) names
known_reversed names name =
    known (reverse names) name ∙ sym (list_any-IsPermutation (λ other. bytes_eq other name) names (reverse names) (IsPermutation-reverse names))
