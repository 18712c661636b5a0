-- Where the living objects of declarations stand, as objects begin to live and cease to.
use Rattle.std.proofs.Common.{arith, ◌≡◌, ◌≢◌, ◌<◌, ℕ, zero, suc, ◌+◌, nat_eq, nat_lt, Bool, true, false, not, List, [], ◌∷◌, ◌++◌, length, map, get_or, Option, Some, None, refl, sym, ap, subst, ◌∙◌, cond, ⊎_elim, inl, inr, ◌⊎◌}
use Rattle.std.specs.Prelude.{position, slice_get, slice_set, if◌then◌else◌}
use Rattle.std.specs.List.{position_or_len}
use Rattle.std.proofs.lemmas.Bool.{cases_Bool}
use Rattle.std.proofs.lemmas.Bool.Decides.{nat_tests}
use Rattle.c_kinds.specs.Layouts.{flat}
use Rattle.c_model.specs.declared.values.Object.{Object}
use Rattle.c_model.specs.Store.{is_numbered, outlives}
use Rattle.c_values.specs.Pointing.{first_of, left_by, with_place, without_place, HasPlaces}

-- ---- the first object that passes a test

zero_below : (m : ℕ) → nat_lt 0 (suc m) ≡ true
zero_below m = grind (arith, nat_tests)

below_next : (n m : ℕ) → nat_lt (1 + n) (suc m) ≡ nat_lt n m
below_next n m = grind (arith, nat_tests)

abbrev one_more : Option ℕ → Option ℕ
one_more None = None
one_more (Some n) = Some (1 + n)

more_where : (t : Bool) (n : ℕ) → cond t (Some (1 + n)) None ≡ one_more (cond t (Some n) None)
more_where true n = refl
more_where false n = refl

first_more : (a b : Option ℕ) → one_more (first_of a b) ≡ first_of (one_more a) (one_more b)
first_more None b = refl
first_more (Some n) b = refl

next_where : (t : Bool) (n : ℕ) → one_more (if t then Some n else None) ≡ (if t then Some (1 + n) else None)
next_where true n = refl
next_where false n = refl

position_where : (t : Bool) (n m : ℕ) → cond (nat_lt (cond (not t) (1 + n) 0) (suc m)) (Some (cond (not t) (1 + n) 0)) None ≡ cond t (Some 0) (one_more (cond (nat_lt n m) (Some n) None))
position_where true n m = ap (λ t. cond t (Some 0) None) (zero_below m)
position_where false n m = ap (λ t. cond t (Some (1 + n)) None) (below_next n m) ∙ more_where (nat_lt n m) n

push_where : (t u : Bool) (found : Option ℕ) (n : ℕ) → cond t (Some 0) (one_more (first_of found (if u then Some n else None))) ≡ first_of (cond t (Some 0) (one_more found)) (if u then Some (1 + n) else None)
push_where true u found n = refl
push_where false u found n = first_more found (if u then Some n else None) ∙ ap (λ o. first_of (one_more found) o) (next_where u n)

last_where : (t : Bool) (n : ℕ) → cond t (Some n) None ≡ (if t then Some n else None)
last_where true n = refl
last_where false n = refl

one_and : (n : ℕ) → 1 + n ≡ suc n
one_and n = omega arith

module _ {A : Type 0} (p : A → Bool) where
  position_cons : (x : A) (xs : List A) → position p (x ∷ xs) ≡ cond (p x) (Some 0) (one_more (position p xs))
  position_cons x xs = position_where (p x) (position_or_len p xs) (length xs)

  position_push : (xs : List A) (y : A) → position p (xs ++ y ∷ []) ≡ first_of (position p xs) (if p y then Some (length xs) else None)
  position_push [] y = position_cons y [] ∙ last_where (p y) 0
  position_push (x ∷ xs) y =
      position_cons x (xs ++ y ∷ [])
      ∙ (ap (λ o. cond (p x) (Some 0) (one_more o)) (position_push xs y)
      ∙ (push_where (p x) (p y) (position p xs) (length xs)
      ∙ (ap (λ o. first_of o (if p y then Some (1 + length xs) else None)) (sym (position_cons x xs))
      ∙ ap (λ k. first_of (position p (x ∷ xs)) (if p y then Some k else None)) (one_and (length xs)))))

position_below : {A : Type 0} (p : A → Bool) (xs : List A) (n : ℕ) → position p xs ≡ Some n → n < length xs
position_below p xs n e = below (position_or_len p xs) (length xs) n e
  where
    below : (k m n : ℕ) → cond (nat_lt k m) (Some k) None ≡ Some n → n < m
    below k m n e = grind (arith, nat_tests)

-- ---- a table of places

flat_at : (xs : List (Option ℕ)) (i : ℕ) (d : Option ℕ) → i < length xs → flat (slice_get xs i) ≡ get_or xs i d
flat_at [] i d h = absurd (omega (arith, h))
flat_at (x ∷ xs) zero d h = refl
flat_at (x ∷ xs) (suc i) d h = flat_at xs i d (omega (arith, h))

pub entered_at : (xs : List (Option ℕ)) (i object : ℕ) (d : Option ℕ) → i < length xs → slice_set xs i (first_of (get_or xs i d) (Some object)) ≡ with_place xs i object
entered_at xs i object d h = ap (λ o. slice_set xs i (first_of o (Some object))) (sym (flat_at xs i d h))

set_here : (xs : List (Option ℕ)) (i : ℕ) (v : Option ℕ) → i < length xs → flat (slice_get (slice_set xs i v) i) ≡ v
set_here [] i v h = absurd (omega (arith, h))
set_here (x ∷ xs) zero v h = refl
set_here (x ∷ xs) (suc i) v h = set_here xs i v (omega (arith, h))

-- where something stands there
set_over : (xs : List (Option ℕ)) (i n : ℕ) (v : Option ℕ) → flat (slice_get xs i) ≡ Some n → flat (slice_get (slice_set xs i v) i) ≡ v
set_over [] i n v e = cc
set_over (x ∷ xs) zero n v e = refl
set_over (x ∷ xs) (suc i) n v e = set_over xs i n v e

set_elsewhere : (xs : List (Option ℕ)) (i j : ℕ) (v : Option ℕ) → i ≢ j → flat (slice_get (slice_set xs i v) j) ≡ flat (slice_get xs j)
set_elsewhere [] i j v h = refl
set_elsewhere (x ∷ xs) zero zero v h = absurd (h refl)
set_elsewhere (x ∷ xs) zero (suc j) v h = refl
set_elsewhere (x ∷ xs) (suc i) zero v h = refl
set_elsewhere (x ∷ xs) (suc i) (suc j) v h = set_elsewhere xs i j v (λ e. h (ap suc e))

-- ---- an object begins to live

same_or_not : (a b : ℕ) → ((a ≡ b) × (nat_eq a b ≡ true)) ⊎ ((a ≢ b) × (nat_eq a b ≡ false))
same_or_not a b = ⊎_elim (λ e. inl (same a b e, e)) (λ e. inr (differ a b e, e)) (cases_Bool (nat_eq a b))
  where
    same : (a b : ℕ) → nat_eq a b ≡ true → a ≡ b
    same a b e = grind (arith, nat_tests)

    differ : (a b : ℕ) → nat_eq a b ≡ false → a ≢ b
    differ a b e = λ f. grind (arith, nat_tests)

module _ (xs : List Object) (o : Object) (places : List (Option ℕ)) where
  abbrev now : List Object
  now = xs ++ o ∷ []

  -- a declaration's place, with the youngest object
  last_is : (n : ℕ) → o.number ≡ n → nat_eq o.number n ≡ true → position (is_numbered n) now ≡ first_of (position (is_numbered n) xs) (Some (length xs))
  last_is n e t = position_push (is_numbered n) xs o ∙ ap (λ u. first_of (position (is_numbered n) xs) (if u then Some (length xs) else None)) t

  nothing_after : (a : Option ℕ) → first_of a None ≡ a
  nothing_after None = refl
  nothing_after (Some n) = refl

  last_is_not : (n : ℕ) → nat_eq o.number n ≡ false → position (is_numbered n) now ≡ position (is_numbered n) xs
  last_is_not n t =
      position_push (is_numbered n) xs o
      ∙ (ap (λ u. first_of (position (is_numbered n) xs) (if u then Some (length xs) else None)) t ∙ nothing_after (position (is_numbered n) xs))

  pub entered_places : HasPlaces xs places → o.number < length places → HasPlaces now (with_place places o.number (length xs))
  entered_places h room n = ⊎_elim
      (λ (e, t).
      let Q : ℕ → Type 0 = λ k. flat (slice_get (with_place places o.number (length xs)) k) ≡ position (is_numbered k) now in
      subst Q e (set_here places o.number (first_of (flat (slice_get places o.number)) (Some (length xs))) room
      ∙ (ap (λ a. first_of a (Some (length xs))) (h o.number) ∙ sym (last_is o.number refl (subst (λ (k : ℕ). nat_eq o.number k ≡ true) (sym e) t)))))
      (λ (d, t). set_elsewhere places o.number n (first_of (flat (slice_get places o.number)) (Some (length xs))) d ∙ (h n ∙ sym (last_is_not n t)))
      (same_or_not o.number n)

  -- ---- the youngest object ceases to

  left_first : (found : Option ℕ) → ((n : ℕ) → found ≡ Some n → n < length xs) → left_by (length xs) (first_of found (Some (length xs))) ≡ found
  left_first None h = ap (λ t. if t then None else Some (length xs)) (same (length xs))
    where
      same : (n : ℕ) → nat_eq n n ≡ true
      same n = grind (arith, nat_tests)
  left_first (Some n) h = ap (λ t. if t then None else Some n) (below n (length xs) (h n refl))
    where
      below : (n m : ℕ) → n < m → nat_eq n m ≡ false
      below n m h = grind (arith, nat_tests)

  some_first : (found : Option ℕ) (m : ℕ) → (n : ℕ) × (first_of found (Some m) ≡ Some n)
  some_first None m = (m, refl)
  some_first (Some n) m = (n, refl)

  pub left_places : HasPlaces now places → HasPlaces xs (without_place places o.number (length xs))
  left_places h n = ⊎_elim
      (λ (e, t).
      let Q : ℕ → Type 0 = λ k. flat (slice_get (without_place places o.number (length xs)) k) ≡ position (is_numbered k) xs in
      let was = h o.number ∙ last_is o.number refl (subst (λ (k : ℕ). nat_eq o.number k ≡ true) (sym e) t) in
      let some = some_first (position (is_numbered o.number) xs) (length xs) in
      subst Q e (set_over places o.number some.0 (left_by (length xs) (flat (slice_get places o.number))) (was ∙ some.1)
      ∙ (ap (left_by (length xs)) was ∙ left_first (position (is_numbered o.number) xs) (λ k f. position_below (is_numbered o.number) xs k f))))
      (λ (d, t). set_elsewhere places o.number n (left_by (length xs) (flat (slice_get places o.number))) d ∙ (h n ∙ last_is_not n t))
      (same_or_not o.number n)

-- ---- pointers become wild

position_outlived : (k n : ℕ) (xs : List Object) → position (is_numbered k) (map (outlives n) xs) ≡ position (is_numbered k) xs
position_outlived k n [] = refl
position_outlived k n (x ∷ xs) =
    position_cons (is_numbered k) (outlives n x) (map (outlives n) xs)
    ∙ (ap (λ o. cond (is_numbered k x) (Some 0) (one_more o)) (position_outlived k n xs) ∙ sym (position_cons (is_numbered k) x xs))

pub outlived_places : (n : ℕ) (xs : List Object) (places : List (Option ℕ)) → HasPlaces xs places → HasPlaces (map (outlives n) xs) places
outlived_places n xs places h k = h k ∙ sym (position_outlived k n xs)
