-- Chains of definitions that come back, and what is marked of them.
use Rattle.std.proofs.Common.{◌≡◌, ℕ, zero, suc, ◌+◌, ◌<◌, Bool, true, false, ◌||◌, true≢false, List, [], ◌∷◌, ◌++◌, length, Option, Some, refl, sym, ap, ◌∙◌, arith, subst, if◌then◌else◌}
use Rattle.std.specs.List.{list_any}
use Rattle.std.specs.Str.{bytes_eq}
use Rattle.std.proofs.lemmas.Slice.Eq.{bytes_eq-Decides}
use Rattle.c_tokens.specs.declared.token.TokenKind.TheVariants.{Name}
use Rattle.c_tokens.specs.declared.data_model.DataModel.{DataModel}
use Rattle.c_tokens.specs.Words.{lookup}
use Rattle.c_tokens.specs.Reading.{Macros, replaced, kind_of_name}
use Rattle.c_macros.specs.Chains.{Definitions, IsNoWord, Edge, name_at}
use Rattle.c_macros.specs.Circles.{ComesBack, Returns, is_marked, AreClosed}
use Rattle.c_macros.proofs.Replacing.{replaced_met, replaced_next}
use Rattle.c_macros.proofs.Chains.{edge_unique, edge_grows, any_push, unmet, unmet_none, unmet_less}

-- ---- what a name is whose chain comes back

comes_back : (n k : ℕ) (model : DataModel) (macros : Macros) (met : List (List ℕ)) (x z : List ℕ)
    → unmet macros.defined met < n → ComesBack macros.defined k met x z → replaced n model macros met x ≡ Name z
comes_back zero k model macros met x z fuel back = absurd (omega arith)
comes_back (suc n) zero model macros met x z fuel back = replaced_met n model macros met x back.1 back.2 ∙ ap Name back.0
comes_back (suc n) (suc k) model macros met x z fuel back =
    let e = back.1.1 in
    let less = unmet_less macros.defined met x back.1.0 e.text back.0 in
    let later : unmet macros.defined (met ++ x ∷ []) < n = omega arith in
    replaced_next n model macros met x back.1.0 e.no_word back.0 e.text e.no_number
    ∙ comes_back n k model macros (met ++ x ∷ []) back.1.0 z later back.1.2

-- a name whose chain comes back stays at the first name that is met twice
pub kind_of_returning : (model : DataModel) (macros : Macros) (x z : List ℕ) → Returns macros.defined x z → kind_of_name model macros x ≡ Name z
unfolding kind_of_name
kind_of_returning model macros x z back =
    let none = unmet_none macros.defined in
    comes_back (length macros.defined + 1) back.0 model macros [] x z (omega arith) back.1

-- ---- more definitions

back_grows : (D E : Definitions) (n : ℕ) (met : List (List ℕ)) (x z : List ℕ) → ComesBack D n met x z → ComesBack (D ++ E) n met x z
back_grows D E zero met x z back = back
back_grows D E (suc n) met x z back = (back.0, (back.1.0, edge_grows D E x back.1.0 back.1.1, back_grows D E n (met ++ x ∷ []) back.1.0 z back.1.2))

pub returns_grow : (D E : Definitions) (x z : List ℕ) → Returns D x z → Returns (D ++ E) x z
returns_grow D E x z back = (back.0, back_grows D E back.0 [] x z back.1)

-- ---- along a chain

differs : (x y : List ℕ) → bytes_eq x y ≡ false → x ≡ y → ⊥
differs x y test same = absurd (true≢false (sym ((bytes_eq-Decides x y).1 same) ∙ test))

differ : (x y : List ℕ) → (x ≡ y → ⊥) → bytes_eq x y ≡ false
differ x y apart = by (bytes_eq x y) refl
  where
    by : (b : Bool) → bytes_eq x y ≡ b → b ≡ false
    by true e = absurd (apart ((bytes_eq-Decides x y).0 e))
    by false e = refl

or_false : (a b : Bool) → (a || b) ≡ false → (a ≡ false) × (b ≡ false)
or_false true b h = absurd (true≢false h)
or_false false b h = (refl, h)

or_first : (a b : Bool) → a ≡ false → (a || b) ≡ b
or_first true b h = absurd (true≢false h)
or_first false b h = refl

or_second : (a : Bool) → (a || true) ≡ true
or_second true = refl
or_second false = refl

-- a name that was met first and isn't the end needn't have been met
back_less : (D : Definitions) (n : ℕ) (x : List ℕ) (met : List (List ℕ)) (y z : List ℕ)
    → (z ≡ x → ⊥) → ComesBack D n (x ∷ met) y z → ComesBack D n met y z
back_less D zero x met y z apart back =
    let other : bytes_eq y x ≡ false = differ y x (λ e. apart (sym back.0 ∙ e)) in
    (back.0, back.1, sym (or_first (bytes_eq y x) (list_any (bytes_eq y) met) other) ∙ back.2)
back_less D (suc n) x met y z apart back =
    ((or_false (bytes_eq y x) (list_any (bytes_eq y) met) back.0).1, (back.1.0, back.1.1, back_less D n x (met ++ y ∷ []) back.1.0 z apart back.1.2))

-- the chain goes on from where it doesn't come back
back_next : (D : Definitions) (n : ℕ) (x z : List ℕ) → (x ≡ z → ⊥) → ComesBack D (suc n) [] x z → (y : List ℕ) × ComesBack D n [] y z
back_next D n x z apart back = (back.1.0, back_less D n x [] back.1.0 z (λ e. apart (sym e)) back.1.2)

-- where a chain comes back to, it comes back to again
back_self : (D : Definitions) (n : ℕ) (x z : List ℕ) → ComesBack D n [] x z → Returns D z z
back_self D zero x z back = absurd (true≢false (sym back.2))
back_self D (suc n) x z back = by (bytes_eq x z) refl (λ y later. back_self D n y z later)
  where
    by : (b : Bool) → bytes_eq x z ≡ b → ((y : List ℕ) → ComesBack D n [] y z → Returns D z z) → Returns D z z
    by true e rest = (suc n, subst (λ w. ComesBack D (suc n) [] w z) ((bytes_eq-Decides x z).0 e) back)
    by false e rest = let next = back_next D n x z (differs x z e) back in rest next.0 next.1

pub returns_self : (D : Definitions) (x z : List ℕ) → Returns D x z → Returns D z z
returns_self D x z back = back_self D back.0 x z back.1

-- a circle comes back to the next name too
back_around : (D : Definitions) (n : ℕ) (x y : List ℕ) (met : List (List ℕ)) (z : List ℕ)
    → Edge D x y → IsNoWord y → list_any (bytes_eq x) met ≡ false → list_any (bytes_eq y) (met ++ z ∷ []) ≡ true
    → ComesBack D n (x ∷ met) z x → ComesBack D (suc n) met z y
back_around D zero x y met z e no_word new has back =
    (ap (λ w. list_any (bytes_eq w) met) back.0 ∙ new, (y, subst (λ w. Edge D w y) (sym back.0) e, (refl, no_word, has)))
back_around D (suc n) x y met z e no_word new has back =
    let apart = or_false (bytes_eq z x) (list_any (bytes_eq z) met) back.0 in
    let w = back.1.0 in
    let other : bytes_eq x z ≡ false = differ x z (λ s. differs z x apart.0 (sym s)) in
    let new' : list_any (bytes_eq x) (met ++ z ∷ []) ≡ false = any_push x met z ∙ (ap (λ b. b || bytes_eq x z) new ∙ other) in
    let has' : list_any (bytes_eq y) ((met ++ z ∷ []) ++ w ∷ []) ≡ true = any_push y (met ++ z ∷ []) w ∙ ap (λ b. b || bytes_eq y w) has in
    (apart.1, (w, back.1.1, back_around D n x y (met ++ z ∷ []) w e no_word new' has' back.1.2))

pub returns_around : (D : Definitions) (x y : List ℕ) → Edge D x y → IsNoWord y → Returns D x x → Returns D y y
returns_around D x y e no_word back = by back.0 back.1
  where
    by : (n : ℕ) → ComesBack D n [] x x → Returns D y y
    by zero back = absurd (true≢false (sym back.2))
    by (suc n) back =
        let same = edge_unique D x back.1.0 y back.1.1 e in
        let rest : ComesBack D n (x ∷ []) y x = subst (λ w. ComesBack D n (x ∷ []) w x) same back.1.2 in
        let itself : list_any (bytes_eq y) ([] ++ y ∷ []) ≡ true = ap (λ b. b || false) ((bytes_eq-Decides y y).1 refl) in
        (suc n, back_around D n x y [] y e no_word refl itself rest)

-- ---- marks

-- a defined name has a place
pub place_of_name : (D : Definitions) (x text : List ℕ) → lookup D x ≡ Some text → (i : ℕ) × (i < length D) × (name_at D i ≡ x)
place_of_name [] x text found = cc
place_of_name (row ∷ D) x text found = by (bytes_eq row.0 x) refl found (place_of_name D x text)
  where
    by : (b : Bool) → bytes_eq row.0 x ≡ b → (if b then Some row.1 else lookup D x) ≡ Some text
        → (lookup D x ≡ Some text → (i : ℕ) × (i < length D) × (name_at D i ≡ x)) → (i : ℕ) × (i < length (row ∷ D)) × (name_at (row ∷ D) i ≡ x)
    by true e h later = (zero, omega arith, (bytes_eq-Decides row.0 x).0 e)
    by false e h later =
        let rest = later h in
        let less = rest.1 in
        (suc rest.0, omega arith, rest.2)

module _ (D : Definitions) (marks : List (Option ℕ)) (closed : AreClosed D marks) (at : ℕ) (unmarked : is_marked marks at ≡ false)
    (unique : (i j : ℕ) → i < length D → j < length D → name_at D i ≡ name_at D j → i ≡ j) (within : at < length D) where
  AllMarked : List ℕ → Type 0
  AllMarked y = (i : ℕ) → i < length D → name_at D i ≡ y → is_marked marks i ≡ true

  -- a marked chain doesn't meet a definition that isn't marked
  back_past : (n : ℕ) (met : List (List ℕ)) (y z : List ℕ) → AllMarked y → ComesBack D n met y z → ComesBack D n (name_at D at ∷ met) y z
  unfolding AllMarked
  back_past zero met y z marked back = (back.0, back.1, ap (λ b. bytes_eq y (name_at D at) || b) back.2 ∙ or_second (bytes_eq y (name_at D at)))
  back_past (suc n) met y z marked back =
      let e = back.1.1 in
      let here = place_of_name D y back.1.0 e.text in
      let known = marked here.0 here.1 here.2 in
      let apart : bytes_eq y (name_at D at) ≡ false =
      differ y (name_at D at) (λ same. absurd (true≢false (sym known ∙ (ap (is_marked marks) (unique here.0 at here.1 within (here.2 ∙ same)) ∙ unmarked)))) in
      let next = closed here.0 here.1 known in
      let same : name_at D next.0 ≡ back.1.0 = edge_unique D y (name_at D next.0) back.1.0 (subst (λ w. Edge D w (name_at D next.0)) here.2 next.2) e in
      let later : AllMarked back.1.0 =
      λ j less named. subst (λ k. is_marked marks k ≡ true) (unique next.0 j next.1 less (same ∙ sym named)) next.3 in (
        or_first (bytes_eq y (name_at D at)) (list_any (bytes_eq y) met) apart ∙ back.0,
        (back.1.0, e, back_past n (met ++ y ∷ []) back.1.0 z later back.1.2),
      )

  -- a definition that isn't marked comes back as the next one does, which is
  pub returns_before : (i : ℕ) (z : List ℕ) → i < length D → is_marked marks i ≡ true → Edge D (name_at D at) (name_at D i)
      → Returns D (name_at D i) z → Returns D (name_at D at) z
  unfolding AllMarked
  returns_before i z less marked e back =
      let all : AllMarked (name_at D i) = λ j l named. subst (λ k. is_marked marks k ≡ true) (unique i j less l (sym named)) marked in
      (suc back.0, (refl, (name_at D i, e, back_past back.0 [] (name_at D i) z all back.1)))
