-- Where no call leads back, functions have ranks: how many calls a chain of calls from them has at most.
use Rattle.std.proofs.Common.{◌≡◌, ℕ, zero, suc, ◌<◌, ◌≤◌, max, Bool, true, false, ◌||◌, cond, List, [], ◌∷◌, ◌++◌, length, map, refl, ap, sym, subst, ◌∙◌, ◌⊎◌, inl, inr, ⊎_elim, eqb, arith}
use Rattle.std.specs.Prelude.{⊤}
use Rattle.std.specs.List.{flat_map}
use Rattle.std.proofs.Math.Dec.{ltb}
use Rattle.std.proofs.lemmas.Bool.{cases_Bool, ltb-true, ltb-false, eqb-true, eq-eqb}
use Rattle.c_rules.specs.Sequencing.{reached, is_among}

-- ---- elements of lists

abbrev pub In : {A : Type 0} → A → List A → Type 0
In x [] = ⊥
In x (y ∷ ys) = (x ≡ y) ⊎ In x ys

pub in_first : {A : Type 0} (x : A) (xs ys : List A) → In x xs → In x (xs ++ ys)
in_first x [] ys h = absurd h
in_first x (y ∷ xs) ys (inl e) = inl e
in_first x (y ∷ xs) ys (inr h) = inr (in_first x xs ys h)

pub in_second : {A : Type 0} (x : A) (xs ys : List A) → In x ys → In x (xs ++ ys)
in_second x [] ys h = h
in_second x (y ∷ xs) ys h = inr (in_second x xs ys h)

pub in_either : {A : Type 0} (x : A) (xs ys : List A) → In x (xs ++ ys) → In x xs ⊎ In x ys
in_either x [] ys h = inr h
in_either x (y ∷ xs) ys (inl e) = inl (inl e)
in_either x (y ∷ xs) ys (inr h) = ⊎_elim (λ i. inl (inr i)) (λ i. inr i) (in_either x xs ys h)

pub in_some : {A B : Type 0} (f : A → List B) (xs : List A) (y : B) (x : A) → In x xs → In y (f x) → In y (flat_map f xs)
in_some f [] y x h i = absurd h
in_some f (z ∷ xs) y x (inl e) i = in_first y (f z) (flat_map f xs) (subst (λ w. In y (f w)) e i)
in_some f (z ∷ xs) y x (inr h) i = in_second y (f z) (flat_map f xs) (in_some f xs y x h i)

pub in_which : {A B : Type 0} (f : A → List B) (xs : List A) (y : B) → In y (flat_map f xs) → (x : A) × (In x xs × In y (f x))
in_which f [] y h = absurd h
in_which f (x ∷ xs) y h =
    ⊎_elim (λ i. (x, (inl refl, i))) (λ i. let w = in_which f xs y i in (w.0, (inr w.1.0, w.1.1))) (in_either y (f x) (flat_map f xs) h)

pub among : (n : ℕ) (xs : List ℕ) → In n xs → is_among xs n ≡ true
among n [] h = absurd h
among n (m ∷ xs) (inl e) = ap (λ b. b || is_among xs n) (eq-eqb m n (sym e))
among n (m ∷ xs) (inr h) = second (eqb m n) (is_among xs n) (among n xs h)
  where
    second : (a b : Bool) → b ≡ true → (a || b) ≡ true
    second true b e = refl
    second false b e = e

pub not_among : (n : ℕ) (xs : List ℕ) → is_among xs n ≡ true → In n xs
not_among n [] h = cc
not_among n (m ∷ xs) h = one (eqb m n) refl h (λ i. not_among n xs i)
  where
    one : (b : Bool) → eqb m n ≡ b → (b || is_among xs n) ≡ true → (is_among xs n ≡ true → In n xs) → In n (m ∷ xs)
    one true e i rest = inl (sym (eqb-true m n e))
    one false e i rest = inr (rest i)

no_clash : (b : Bool) → b ≡ true → b ≡ false → ⊥
no_clash b t f = cc

-- ---- more elements than there are: one comes twice

abbrev Repeats : List ℕ → Type 0
Repeats [] = ⊥
Repeats (x ∷ xs) = In x xs ⊎ Repeats xs

abbrev without : ℕ → List ℕ → List ℕ
without x [] = []
without x (y ∷ ys) = cond (eqb y x) ys (y ∷ without x ys)

fewer : (x : ℕ) (ys : List ℕ) → In x ys → suc (length (without x ys)) ≡ length ys
fewer x [] h = absurd h
fewer x (y ∷ ys) h = one (eqb y x) refl h (λ i. fewer x ys i)
  where
    one : (b : Bool) → eqb y x ≡ b → In x (y ∷ ys) → (In x ys → suc (length (without x ys)) ≡ length ys) → suc (length (cond b ys (y ∷ without x ys))) ≡ length (y ∷ ys)
    one true e i rest = refl
    one false e (inl same) rest = absurd (no_clash (eqb y x) (eq-eqb y x (sym same)) e)
    one false e (inr i) rest = ap suc (rest i)

still : (x z : ℕ) (ys : List ℕ) → In z ys → (z ≡ x → ⊥) → In z (without x ys)
still x z [] h n = absurd h
still x z (y ∷ ys) h n = one (eqb y x) refl h (λ i. still x z ys i n)
  where
    one : (b : Bool) → eqb y x ≡ b → In z (y ∷ ys) → (In z ys → In z (without x ys)) → In z (cond b ys (y ∷ without x ys))
    one true e (inl same) rest = absurd (n (same ∙ eqb-true y x e))
    one true e (inr i) rest = i
    one false e (inl same) rest = inl same
    one false e (inr i) rest = inr (rest i)

pub pigeonhole : (xs ys : List ℕ) → ((x : ℕ) → In x xs → In x ys) → length ys < length xs → Repeats xs
pigeonhole [] ys inside less = absurd (omega (arith, less))
pigeonhole (x ∷ xs) ys inside less =
    ⊎_elim (λ yes. inl (not_among x xs yes)) (λ no. inr (pigeonhole xs (without x ys) (λ z i. still x z ys (inside z (inr i)) (other z no i)) fits)) (cases_Bool (is_among xs x))
  where
    other : (z : ℕ) → is_among xs x ≡ false → In z xs → z ≡ x → ⊥
    other z n i same = no_clash (is_among xs x) (among x xs (subst (λ w. In w xs) same i)) n

    fits : length (without x ys) < length xs
    fits = let f = fewer x ys (inside x (inl refl)) in let more : length ys < suc (length xs) = less in omega (arith, f, more)

-- ---- chains of calls

module _ (next : ℕ → List ℕ) where
  abbrev Chain : ℕ → List ℕ → Type 0
  Chain f [] = ⊤
  Chain f (g ∷ gs) = In g (next f) × Chain g gs

  -- the functions of a chain that call
  abbrev callers : ℕ → List ℕ → List ℕ
  callers f [] = []
  callers f (g ∷ gs) = f ∷ callers g gs

  callers_among : (f : ℕ) (gs : List ℕ) (x : ℕ) → In x (callers f gs) → In x (f ∷ gs)
  callers_among f [] x h = absurd h
  callers_among f (g ∷ gs) x (inl e) = inl e
  callers_among f (g ∷ gs) x (inr h) = inr (callers_among g gs x h)

  callers_repeat : (f : ℕ) (gs : List ℕ) → Repeats (callers f gs) → Repeats (f ∷ gs)
  callers_repeat f [] h = absurd h
  callers_repeat f (g ∷ gs) (inl h) = inl (callers_among g gs f h)
  callers_repeat f (g ∷ gs) (inr h) = inr (callers_repeat g gs h)

  callers_length : (f : ℕ) (gs : List ℕ) → length (callers f gs) ≡ length gs
  callers_length f [] = refl
  callers_length f (g ∷ gs) = ap suc (callers_length g gs)

  -- what stands on a chain is reached
  on_chain : (f : ℕ) (gs : List ℕ) (m x : ℕ) → Chain f gs → length gs ≤ m → In x (f ∷ gs) → In x (reached m next f)
  unfolding reached
  on_chain f gs zero x c l (inl e) = inl e
  on_chain f gs (suc m) x c l (inl e) = inl e
  on_chain f [] m x c l (inr h) = absurd h
  on_chain f (g ∷ gs) zero x c l (inr h) = absurd (omega (arith, l))
  on_chain f (g ∷ gs) (suc m) x c l (inr h) =
      inr (in_some (reached m next) (next f) x g c.0 (on_chain g gs m x c.1 (let k : suc (length gs) ≤ suc m = l in omega (arith, k)) h))

  -- ---- ranks

  abbrev most : List ℕ → ℕ
  most [] = 0
  most (n ∷ ns) = max n (most ns)

  -- the calls of the longest chain of at most k of them
  abbrev height : ℕ → ℕ → ℕ
  height zero f = 0
  height (suc k) f = most (map (λ g. suc (height k g)) (next f))

  most_below : (h : ℕ → ℕ) (k : ℕ) (xs : List ℕ) → ((g : ℕ) → h g ≤ k) → most (map (λ g. suc (h g)) xs) ≤ suc k
  most_below h k [] b = omega arith
  most_below h k (x ∷ xs) b = let i = most_below h k xs b in let j = b x in omega (arith, i, j)

  height_below : (k f : ℕ) → height k f ≤ k
  height_below zero f = omega arith
  height_below (suc k) f = most_below (height k) k (next f) (height_below k)

  most_taken : (h : ℕ → ℕ) (m : ℕ) (xs : List ℕ) → most (map (λ g. suc (h g)) xs) ≡ suc m → (g : ℕ) × (In g xs × (h g ≡ m))
  most_taken h m [] e = cc
  most_taken h m (x ∷ xs) e = ⊎_elim (λ first. (x, (inl refl, first))) (λ later. let w = most_taken h m xs later in (w.0, (inr w.1.0, w.1.1))) (which (h x) (most (map (λ g. suc (h g)) xs)) e)
    where
      which : (a b : ℕ) → max (suc a) b ≡ suc m → (a ≡ m) ⊎ (b ≡ suc m)
      which a b i = ⊎_elim (λ yes. let l = ltb-true a m yes in inr (omega (arith, i, l))) (λ no. let l = ltb-false a m no in inl (omega (arith, i, l))) (cases_Bool (ltb a m))

  deep : (k f : ℕ) → height k f ≡ k → (gs : List ℕ) × (Chain f gs × (length gs ≡ k))
  deep zero f e = ([], (tt, refl))
  deep (suc k) f e =
      let w = most_taken (height k) k (next f) e in
      let rest = deep k w.0 w.1.1 in
      (w.0 ∷ rest.0, ((w.1.0, rest.1.0), ap suc rest.1.1))

  most_lower : (h : ℕ → ℕ) (xs : List ℕ) (g : ℕ) → In g xs → suc (h g) ≤ most (map (λ x. suc (h x)) xs)
  most_lower h [] g i = absurd i
  most_lower h (x ∷ xs) g (inl e) = let j = ap h e in omega (arith, j)
  most_lower h (x ∷ xs) g (inr i) = let j = most_lower h xs g i in omega (arith, j)

  most_same : (h k : ℕ → ℕ) (xs : List ℕ) → ((g : ℕ) → In g xs → h g ≡ k g) → most (map (λ g. suc (h g)) xs) ≡ most (map (λ g. suc (k g)) xs)
  most_same h k [] e = refl
  most_same h k (x ∷ xs) e = let i = most_same h k xs (λ g j. e g (inr j)) in let j = e x (inl refl) in omega (arith, i, j)

  stays : (k f : ℕ) → height k f < k → height (suc k) f ≡ height k f
  stays zero f l = absurd (omega (arith, l))
  stays (suc k) f l = most_same (height (suc k)) (height k) (next f) (λ g i. stays k g (let j = most_lower (height k) (next f) g i in omega (arith, j, l)))

  -- `bodies` has each function that calls, and no call leads back
  module _ (bodies : List ℕ) (call : (f g : ℕ) → In g (next f) → In f bodies) (apart : (f g : ℕ) → In g (next f) → is_among (reached (length bodies) next g) f ≡ false) where
    no_repeat : (f : ℕ) (gs : List ℕ) → Chain f gs → length gs ≤ suc (length bodies) → Repeats (f ∷ gs) → ⊥
    no_repeat f [] c l (inl h) = absurd h
    no_repeat f [] c l (inr h) = absurd h
    no_repeat f (g ∷ gs) c l (inl h) =
        no_clash (is_among (reached (length bodies) next g) f) (among f (reached (length bodies) next g) (on_chain g gs (length bodies) f c.1 (let k : suc (length gs) ≤ suc (length bodies) = l in omega (arith, k)) h)) (apart f g c.0)
    no_repeat f (g ∷ gs) c l (inr h) = no_repeat g gs c.1 (let k : suc (length gs) ≤ suc (length bodies) = l in omega (arith, k)) h

    callers_inside : (f : ℕ) (gs : List ℕ) → Chain f gs → (x : ℕ) → In x (callers f gs) → In x bodies
    callers_inside f [] c x h = absurd h
    callers_inside f (g ∷ gs) c x (inl e) = subst (λ w. In w bodies) (sym e) (call f g c.0)
    callers_inside f (g ∷ gs) c x (inr h) = callers_inside g gs c.1 x h

    no_long_chain : (f : ℕ) (gs : List ℕ) → Chain f gs → length gs ≡ suc (length bodies) → ⊥
    no_long_chain f gs c e =
        no_repeat f gs c (omega (arith, e)) (callers_repeat f gs (pigeonhole (callers f gs) bodies (callers_inside f gs c) (let k = callers_length f gs in omega (arith, k, e))))

    abbrev pub rank : ℕ → ℕ
    rank f = height (suc (length bodies)) f

    is_low : (f : ℕ) → rank f < suc (length bodies)
    is_low f = ⊎_elim (λ yes. ltb-true (rank f) (suc (length bodies)) yes) (λ no. absurd (high (ltb-false (rank f) (suc (length bodies)) no))) (cases_Bool (ltb (rank f) (suc (length bodies))))
      where
        high : suc (length bodies) ≤ rank f → ⊥
        high l = let b = height_below (suc (length bodies)) f in let w = deep (suc (length bodies)) f (omega (arith, l, b)) in no_long_chain f w.0 w.1.0 w.1.1

    pub descends : (f g : ℕ) → In g (next f) → rank g < rank f
    descends f g i =
        let lower = most_lower (height (suc (length bodies))) (next f) g i in
        let same = stays (suc (length bodies)) f (is_low f) in
        omega (arith, lower, same)
