-- A name is what stands at the end of its chain of replacements.
use Rattle.std.proofs.Common.{◌≡◌, ℕ, zero, suc, ◌+◌, ◌<◌, ◌≤◌, Bool, true, false, ◌||◌, true≢false, List, [], ◌∷◌, ◌++◌, length, Option, Some, None, refl, sym, ap, ◌∙◌, arith, subst, if◌then◌else◌, get_or, ◌⊎◌, inl, inr, nat_lt, length-append}
use borrow.Author.Tests.{ltb-true, ltb-false}
use Rattle.std.specs.List.{list_any}
use Rattle.std.specs.Str.{bytes_eq}
use Rattle.std.proofs.lemmas.Slice.Eq.{bytes_eq-Decides}
use Rattle.c_tokens.specs.declared.token.TokenKind.{TokenKind}
use Rattle.c_tokens.specs.declared.data_model.DataModel.{DataModel}
use Rattle.c_tokens.specs.Words.{lookup, words}
use Rattle.c_tokens.specs.Pieces.{begins_digit}
use Rattle.c_tokens.specs.Constants.{number_of}
use Rattle.c_tokens.specs.Reading.{Macros, replaced, given_or_name, number_kind}
use Rattle.c_macros.specs.Chains.{Definitions, IsNoWord, Edge, ReachesIn, Reaches, end_of, Runs, Becomes, IsAhead, IsLinked, name_at, text_at}
use Rattle.c_macros.proofs.Replacing.{replaced_word, replaced_given, replaced_number, replaced_next}

-- ---- one step

pub edge_unique : (D : Definitions) (x y z : List ℕ) → Edge D x y → Edge D x z → y ≡ z
edge_unique D x y z e f = let a = e.text in let b = f.text in cc

pub end_no_edge : (model : DataModel) (macros : Macros) (x y : List ℕ) (kind : TokenKind) → end_of model macros x ≡ Some kind → Edge macros.defined x y → ⊥
unfolding words
end_no_edge model macros x y kind ends e =
    let w = e.no_word in let t = e.text in let d = e.no_number in
    let h = rw (w, t, d) at ends in cc

-- ---- how far the end is

pub runs_unique : (model : DataModel) (macros : Macros) (k j : ℕ) (x : List ℕ) (a b : TokenKind)
    → Runs model macros k x a → Runs model macros j x b → k ≡ j
runs_unique model macros zero zero x a b r s = refl
runs_unique model macros zero (suc j) x a b r s = absurd (end_no_edge model macros x s.0 a r s.1)
runs_unique model macros (suc k) zero x a b r s = absurd (end_no_edge model macros x r.0 b s r.1)
runs_unique model macros (suc k) (suc j) x a b r s =
    let same = edge_unique macros.defined x s.0 r.0 s.1 r.1 in
    ap suc (runs_unique model macros k j r.0 a b r.2 (subst (λ y. Runs model macros j y b) same s.2))

pub steps_runs : (model : DataModel) (macros : Macros) (k : ℕ) (x z : List ℕ) (kind : TokenKind)
    → ReachesIn macros.defined k x z → Becomes model macros z kind → Becomes model macros x kind
steps_runs model macros zero x z kind s r = subst (λ y. Becomes model macros y kind) (sym s) r
steps_runs model macros (suc k) x z kind s r =
    let rest = steps_runs model macros k s.0 z kind s.2 r in
    (suc rest.0, (s.0, s.1, rest.1))

pub steps_join : (D : Definitions) (k : ℕ) (x y z : List ℕ) → ReachesIn D k x y → Reaches D y z → Reaches D x z
steps_join D zero x y z s r = subst (λ w. Reaches D w z) (sym s) r
steps_join D (suc k) x y z s r =
    let rest = steps_join D k s.0 y z s.2 r in
    (suc rest.0, (s.0, s.1, rest.1))

-- ---- how many definitions are left

-- how many definitions are of names that weren't met
unfoldable pub unmet : Definitions → List (List ℕ) → ℕ
unmet [] met = 0
unmet (row ∷ D) met = (if list_any (bytes_eq row.0) met then 0 else 1) + unmet D met

pub any_push : (x : List ℕ) (met : List (List ℕ)) (y : List ℕ) → list_any (bytes_eq x) (met ++ y ∷ []) ≡ (list_any (bytes_eq x) met || bytes_eq x y)
any_push x [] y = by (bytes_eq x y)
  where
    by : (b : Bool) → (b || false) ≡ b
    by true = refl
    by false = refl
any_push x (m ∷ met) y = by (bytes_eq x m) (any_push x met y)
  where
    by : (b : Bool) → list_any (bytes_eq x) (met ++ y ∷ []) ≡ (list_any (bytes_eq x) met || bytes_eq x y)
        → (b || list_any (bytes_eq x) (met ++ y ∷ [])) ≡ ((b || list_any (bytes_eq x) met) || bytes_eq x y)
    by true e = refl
    by false e = e

pub unmet_none : (D : Definitions) → unmet D [] ≡ length D
unfolding unmet
unmet_none [] = refl
unmet_none (row ∷ D) = let e = unmet_none D in omega arith

unmet_pushed : (D : Definitions) (met : List (List ℕ)) (x : List ℕ) → unmet D (met ++ x ∷ []) ≤ unmet D met
unfolding unmet
unmet_pushed [] met x = omega arith
unmet_pushed (row ∷ D) met x =
    let rest = unmet_pushed D met x in
    rw (any_push row.0 met x) (by (list_any (bytes_eq row.0) met) (bytes_eq row.0 x) rest)
  where
    by : (a b : Bool) → unmet D (met ++ x ∷ []) ≤ unmet D met
        → (if (a || b) then 0 else 1) + unmet D (met ++ x ∷ []) ≤ (if a then 0 else 1) + unmet D met
    by true b r = omega arith
    by false true r = omega arith
    by false false r = omega arith

-- a name that is met takes its definition away
pub unmet_less : (D : Definitions) (met : List (List ℕ)) (x text : List ℕ) → lookup D x ≡ Some text → list_any (bytes_eq x) met ≡ false
    → unmet D (met ++ x ∷ []) < unmet D met
unfolding unmet
unmet_less [] met x text found new = cc
unmet_less (row ∷ D) met x text found new =
    rw (any_push row.0 met x) (by (bytes_eq row.0 x) refl found (λ e. unmet_less D met x text e new) (list_any (bytes_eq row.0) met) refl)
  where
    by : (b : Bool) → bytes_eq row.0 x ≡ b → (if b then Some row.1 else lookup D x) ≡ Some text
        → (lookup D x ≡ Some text → unmet D (met ++ x ∷ []) < unmet D met) → (a : Bool) → list_any (bytes_eq row.0) met ≡ a
        → (if (a || b) then 0 else 1) + unmet D (met ++ x ∷ []) < (if a then 0 else 1) + unmet D met
    by true same e less a seen =
        let r = unmet_pushed D met x in
        let eq : row.0 ≡ x = (bytes_eq-Decides row.0 x).0 same in
        let not_seen : a ≡ false = sym seen ∙ (ap (λ y. list_any (bytes_eq y) met) eq ∙ new) in
        rw not_seen (omega arith)
    by false differ e less true seen = let r = less e in omega arith
    by false differ e less false seen = let r = less e in omega arith

-- ---- the end of a chain

-- the names that were met are further from the end than x
abbrev AreFurther : DataModel → Macros → ℕ → List (List ℕ) → Type 0
AreFurther model macros k met = (z : List ℕ) → list_any (bytes_eq z) met ≡ true → (j : ℕ) × (k < j) × (kind : TokenKind) × Runs model macros j z kind

not_met : (model : DataModel) (macros : Macros) (k : ℕ) (met : List (List ℕ)) (x : List ℕ) (kind : TokenKind)
    → Runs model macros k x kind → AreFurther model macros k met → list_any (bytes_eq x) met ≡ false
not_met model macros k met x kind run further = by (list_any (bytes_eq x) met) refl
  where
    by : (b : Bool) → list_any (bytes_eq x) met ≡ b → b ≡ false
    by false e = refl
    by true e =
        let m = further x e in
        let same = runs_unique model macros k m.0 x kind m.2 run m.3 in
        let less = m.1 in
        absurd (omega arith)

further_push : (model : DataModel) (macros : Macros) (k : ℕ) (met : List (List ℕ)) (x : List ℕ) (kind : TokenKind)
    → Runs model macros (suc k) x kind → AreFurther model macros (suc k) met → AreFurther model macros k (met ++ x ∷ [])
further_push model macros k met x kind run further z h = by (list_any (bytes_eq z) met) refl (bytes_eq z x) refl (sym (any_push z met x) ∙ h)
  where
    by : (a : Bool) → list_any (bytes_eq z) met ≡ a → (b : Bool) → bytes_eq z x ≡ b → (a || b) ≡ true
        → (j : ℕ) × (k < j) × (kind : TokenKind) × Runs model macros j z kind
    by true seen b same t = let m = further z seen in let less = m.1 in (m.0, omega arith, m.2, m.3)
    by false seen true same t =
        let eq : z ≡ x = (bytes_eq-Decides z x).0 same in
        (suc k, omega arith, kind, subst (λ y. Runs model macros (suc k) y kind) (sym eq) run)
    by false seen false same t = absurd (true≢false (sym t))

pub replaced_end : (n : ℕ) (model : DataModel) (macros : Macros) (met : List (List ℕ)) (x : List ℕ) (kind : TokenKind)
    → end_of model macros x ≡ Some kind → list_any (bytes_eq x) met ≡ false → replaced (suc n) model macros met x ≡ kind
replaced_end n model macros met x kind ends new = by (lookup words x) refl (lookup macros.defined x) refl ends
  where
    number : (text : List ℕ) → lookup words x ≡ None → lookup macros.defined x ≡ Some text → (b : Bool) → begins_digit text ≡ b
        → (if b then Some (number_kind (number_of model text)) else None) ≡ Some kind → replaced (suc n) model macros met x ≡ kind
    number text ew ed true digit h = replaced_number n model macros met x text ew new ed digit ∙ cc h
    number text ew ed false digit h = cc h

    by : (w : Option TokenKind) → lookup words x ≡ w → (d : Option (List ℕ)) → lookup macros.defined x ≡ d
        → (elim w as (λ _. Option TokenKind) [
          | Some k ↦ Some k
          | None ↦ elim d as (λ _. Option TokenKind) [
            | Some text ↦ if begins_digit text then Some (number_kind (number_of model text)) else None
            | None ↦ Some (given_or_name model macros x)
          ]
        ]) ≡ Some kind
        → replaced (suc n) model macros met x ≡ kind
    by (Some k) ew d ed h = replaced_word n model macros met x k ew ∙ cc h
    by None ew None ed h = replaced_given n model macros met x ew new ed ∙ cc h
    by None ew (Some text) ed h = number text ew ed (begins_digit text) refl h

pub replaced_runs : (n k : ℕ) (model : DataModel) (macros : Macros) (met : List (List ℕ)) (x : List ℕ) (kind : TokenKind)
    → unmet macros.defined met < n → Runs model macros k x kind → AreFurther model macros k met
    → replaced n model macros met x ≡ kind
replaced_runs zero k model macros met x kind fuel run further = absurd (omega arith)
replaced_runs (suc n) zero model macros met x kind fuel run further =
    replaced_end n model macros met x kind run (not_met model macros zero met x kind run further)
replaced_runs (suc n) (suc k) model macros met x kind fuel run further =
    let new = not_met model macros (suc k) met x kind run further in
    let e = run.1 in
    let less = unmet_less macros.defined met x run.0 e.text new in
    let later : unmet macros.defined (met ++ x ∷ []) < n = omega arith in
    replaced_next n model macros met x run.0 e.no_word new e.text e.no_number
    ∙ replaced_runs n k model macros (met ++ x ∷ []) run.0 kind later run.2 (further_push model macros k met x kind run further)

-- a name is what stands at the end of its chain
pub becomes : (model : DataModel) (macros : Macros) (x : List ℕ) (kind : TokenKind) → Becomes model macros x kind
    → replaced (length macros.defined + 1) model macros [] x ≡ kind
becomes model macros x kind r =
    let none = unmet_none macros.defined in
    replaced_runs (length macros.defined + 1) r.0 model macros [] x kind (omega arith) r.1 (λ z h. absurd (true≢false (sym h)))

pub reaches_becomes : (model : DataModel) (macros : Macros) (x z : List ℕ) (kind : TokenKind)
    → Reaches macros.defined x z → Becomes model macros z kind → Becomes model macros x kind
reaches_becomes model macros x z kind r b = steps_runs model macros r.0 x z kind r.1 b

pub reaches_join : (D : Definitions) (x y z : List ℕ) → Reaches D x y → Reaches D y z → Reaches D x z
reaches_join D x y z r s = steps_join D r.0 x y z r.1 s

pub reaches_self : (D : Definitions) (x : List ℕ) → Reaches D x x
reaches_self D x = (0, refl)

pub reaches_edge : (D : Definitions) (x y : List ℕ) → Edge D x y → Reaches D x y
reaches_edge D x y e = (1, (y, e, refl))

-- ---- more definitions

pub lookup_grows : (D E : Definitions) (x text : List ℕ) → lookup D x ≡ Some text → lookup (D ++ E) x ≡ Some text
lookup_grows [] E x text h = cc
lookup_grows (row ∷ D) E x text h = by (bytes_eq row.0 x) h (lookup_grows D E x text)
  where
    by : (b : Bool) → (if b then Some row.1 else lookup D x) ≡ Some text → (lookup D x ≡ Some text → lookup (D ++ E) x ≡ Some text)
        → (if b then Some row.1 else lookup (D ++ E) x) ≡ Some text
    by true h rest = h
    by false h rest = rest h

pub lookup_new : (D : Definitions) (x text : List ℕ) → lookup D x ≡ None → lookup (D ++ (x, text) ∷ []) x ≡ Some text
lookup_new [] x text h = let same = (bytes_eq-Decides x x).1 refl in rw same refl
lookup_new (row ∷ D) x text h = by (bytes_eq row.0 x) h (lookup_new D x text)
  where
    by : (b : Bool) → (if b then Some row.1 else lookup D x) ≡ None → (lookup D x ≡ None → lookup (D ++ (x, text) ∷ []) x ≡ Some text)
        → (if b then Some row.1 else lookup (D ++ (x, text) ∷ []) x) ≡ Some text
    by true h rest = cc
    by false h rest = rest h

pub edge_grows : (D E : Definitions) (x y : List ℕ) → Edge D x y → Edge (D ++ E) x y
edge_grows D E x y e = record { no_word = e.no_word; text = lookup_grows D E x y e.text; no_number = e.no_number }

steps_grow : (D E : Definitions) (k : ℕ) (x z : List ℕ) → ReachesIn D k x z → ReachesIn (D ++ E) k x z
steps_grow D E zero x z s = s
steps_grow D E (suc k) x z s = (s.0, edge_grows D E x s.0 s.1, steps_grow D E k s.0 z s.2)

pub front_kept : {X : Type 0} (xs : List X) (x : X) (i : ℕ) (d : X) → i < length xs → get_or (xs ++ x ∷ []) i d ≡ get_or xs i d
front_kept [] x i d h = absurd (omega arith)
front_kept (y ∷ xs) x zero d h = refl
front_kept (y ∷ xs) x (suc i) d h = front_kept xs x i d (omega arith)

pub last_new : {X : Type 0} (xs : List X) (x : X) (d : X) → get_or (xs ++ x ∷ []) (length xs) d ≡ x
last_new [] x d = refl
last_new (y ∷ xs) x d = last_new xs x d

ahead_grows : (D : Definitions) (row : List ℕ × List ℕ) (i j : ℕ) → i < length D → IsAhead D i j → IsAhead (D ++ row ∷ []) i j
ahead_grows D row i j l link =
    let a : name_at (D ++ row ∷ []) i ≡ name_at D i = ap (λ r. r.0) (front_kept D row i ([], []) l) in
    let b : name_at (D ++ row ∷ []) j ≡ name_at D j = ap (λ r. r.0) (front_kept D row j ([], []) link.within) in
    record {
      within = let w = link.within in omega (arith, length-append D (row ∷ []));
      reaches = λ no_word.
          let r = link.reaches (subst IsNoWord a no_word) in (
            r.0,
            subst (λ x. ReachesIn (D ++ row ∷ []) r.0 x (name_at (D ++ row ∷ []) j)) (sym a)
                (subst (ReachesIn (D ++ row ∷ []) r.0 (name_at D i)) (sym b) (steps_grow D (row ∷ []) r.0 (name_at D i) (name_at D j) r.1)),
          );
      no_word = λ no_word. subst IsNoWord (sym b) (link.no_word (subst IsNoWord a no_word));
    }

ahead_self : (D : Definitions) (i : ℕ) → i < length D → IsAhead D i i
ahead_self D i l = record { within = l; reaches = λ no_word. reaches_self D (name_at D i); no_word = λ no_word. no_word }

-- a new definition is linked to itself
pub linked_push : (D : Definitions) (ahead : List ℕ) (x text : List ℕ) → IsLinked D ahead → lookup D x ≡ None
    → IsLinked (D ++ (x, text) ∷ []) (ahead ++ length D ∷ [])
linked_push D ahead x text linked new = record {
  count = let c = linked.count in omega (arith, length-append D ((x, text) ∷ []), length-append ahead (length D ∷ []));
  texts = λ i h. by_texts i h (less i h);
  unique = λ i j h k same. by_unique i j same (less i h) (less j k);
  links = λ i h. by_links i h (less i h);
}
  where
    E : Definitions
    E = (x, text) ∷ []

    less : (i : ℕ) → i < length (D ++ (x, text) ∷ []) → (i < length D) ⊎ (i ≡ length D)
    less i h = by (nat_lt i (length D)) refl
      where
        by : (b : Bool) → nat_lt i (length D) ≡ b → (i < length D) ⊎ (i ≡ length D)
        by true e = inl (ltb-true i (length D) e)
        by false e = let n = ltb-false i (length D) e in inr (omega (arith, length-append D ((x, text) ∷ [])))

    by_texts : (i : ℕ) → i < length (D ++ (x, text) ∷ []) → (i < length D) ⊎ (i ≡ length D) → lookup (D ++ (x, text) ∷ []) (name_at (D ++ (x, text) ∷ []) i) ≡ Some (text_at (D ++ (x, text) ∷ []) i)
    by_texts i h (inl l) =
        let row = front_kept D (x, text) i ([], []) l in
        let a : name_at D i ≡ name_at (D ++ (x, text) ∷ []) i = ap (λ r. r.0) (sym row) in
        let b : text_at D i ≡ text_at (D ++ (x, text) ∷ []) i = ap (λ r. r.1) (sym row) in
        subst (λ y. lookup (D ++ (x, text) ∷ []) y ≡ Some (text_at (D ++ (x, text) ∷ []) i)) a
        (lookup_grows D E (name_at D i) (text_at D i) (linked.texts i l) ∙ ap (λ t. Some t) b)
    by_texts i h (inr e) =
        let row = ap (λ k. get_or (D ++ (x, text) ∷ []) k ([], [])) e ∙ last_new D (x, text) ([], []) in
        let a : x ≡ name_at (D ++ (x, text) ∷ []) i = ap (λ r. r.0) (sym row) in
        let b : text ≡ text_at (D ++ (x, text) ∷ []) i = ap (λ r. r.1) (sym row) in
        subst (λ y. lookup (D ++ (x, text) ∷ []) y ≡ Some (text_at (D ++ (x, text) ∷ []) i)) a (lookup_new D x text new ∙ ap (λ t. Some t) b)

    old_name : (i : ℕ) → i < length D → name_at (D ++ (x, text) ∷ []) i ≡ name_at D i
    old_name i l = ap (λ r. r.0) (front_kept D (x, text) i ([], []) l)

    new_name : (i : ℕ) → i ≡ length D → name_at (D ++ (x, text) ∷ []) i ≡ x
    new_name i e = ap (name_at (D ++ (x, text) ∷ [])) e ∙ ap (λ r. r.0) (last_new D (x, text) ([], []))

    -- the new name isn't defined yet
    apart : (i : ℕ) → i < length D → name_at D i ≡ x → ⊥
    apart i l same = let found : lookup D x ≡ Some (text_at D i) = subst (λ y. lookup D y ≡ Some (text_at D i)) same (linked.texts i l) in cc

    by_unique : (i j : ℕ) → name_at (D ++ (x, text) ∷ []) i ≡ name_at (D ++ (x, text) ∷ []) j → (i < length D) ⊎ (i ≡ length D) → (j < length D) ⊎ (j ≡ length D) → i ≡ j
    by_unique i j same (inl l) (inl m) = linked.unique i j l m (sym (old_name i l) ∙ same ∙ old_name j m)
    by_unique i j same (inl l) (inr f) = absurd (apart i l (sym (old_name i l) ∙ same ∙ new_name j f))
    by_unique i j same (inr e) (inl m) = absurd (apart j m (sym (old_name j m) ∙ sym same ∙ new_name i e))
    by_unique i j same (inr e) (inr f) = e ∙ sym f

    by_links : (i : ℕ) → i < length (D ++ (x, text) ∷ []) → (i < length D) ⊎ (i ≡ length D) → IsAhead (D ++ (x, text) ∷ []) i (get_or (ahead ++ length D ∷ []) i 0)
    by_links i h (inl l) =
        let c = linked.count in
        let within : i < length ahead = omega arith in
        subst (IsAhead (D ++ (x, text) ∷ []) i) (sym (front_kept ahead (length D) i 0 within)) (ahead_grows D (x, text) i (get_or ahead i 0) l (linked.links i l))
    by_links i h (inr e) =
        let c = linked.count in
        let place : i ≡ length ahead = omega arith in
        let found : get_or (ahead ++ length D ∷ []) i 0 ≡ i = ap (λ k. get_or (ahead ++ length D ∷ []) k 0) place ∙ last_new ahead (length D) 0 ∙ sym e in
        subst (IsAhead (D ++ (x, text) ∷ []) i) (sym found) (ahead_self (D ++ (x, text) ∷ []) i h)
