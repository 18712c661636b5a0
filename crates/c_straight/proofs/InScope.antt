-- What is in scope.
use Rattle.std.proofs.Common.{◌≡◌, ◌↔◌, ℕ, Bool, true, false, ◌||◌, IsTrue, nat_eq, ◌+◌, ◌<◌, suc, List, [], ◌∷◌, ◌++◌, length, get_or, drop, add-one, drop-cons, map, reverse, Contains, refl, sym, ap, subst, ◌∙◌, inl, inr, arith, Bor}
use Rattle.std.specs.List.{list_any}
use Rattle.std.specs.Bool.{Decides}
use Rattle.std.specs.Cmp.Lexicographic.{pointwise}
use Rattle.std.proofs.lemmas.Bool.Decides.{Decides-by_or}
use Rattle.std.proofs.lemmas.Slice.Eq.{bytes_eq-Decides}
use Rattle.std.proofs.lemmas.List.Elements.{Decides-contains, Contains-append_cases, Contains-append_left, Contains-append_right}
use Rattle.std.proofs.lemmas.List.{reverse-append, reverse-reverse}
use Rattle.c_straight_model.specs.declared.program.BlockItem.{BlockItem}
use Rattle.c_straight.specs.Names.{scope_after, IsScoped, AreScoped}
use Rattle.c_straight.specs.Scope.{in_scope}

abbrev same : List ℕ → List ℕ → Bool
same text word = pointwise nat_eq word text

-- a test for one of a table's words
pub in_table : (table : List (List ℕ)) (text : List ℕ) (found : Bool) → found ≡ list_any (λ word. pointwise nat_eq word text) table → IsTrue found ↔ Contains table text
in_table table text found e =
    let tells : Decides (list_any (same text) table) (Contains table text) =
    Decides-contains table text _ (Decides-by_or (same text) (λ word. word ≡ text) (λ words. list_any (same text) words) (λ word. bytes_eq-Decides word text) refl (λ word words. refl) table) in
    (λ is. tells.0 (sym e ∙ is), λ has. e ∙ tells.1 has)

contains_reversed : (xs : List (List ℕ)) (y : List ℕ) → Contains xs y → Contains (reverse xs) y
contains_reversed [] y has = absurd (omega (arith, has.1))
contains_reversed (x ∷ xs) y has =
    let P : List (List ℕ) → Type 0 = λ zs. Contains zs y in
    let both : Contains (reverse xs ++ x ∷ []) y =
    elim (Contains-append_cases (x ∷ []) xs y has) [
      | inl here ↦ Contains-append_right (reverse xs) (x ∷ []) y here
      | inr later ↦ Contains-append_left (reverse xs) (x ∷ []) y (contains_reversed xs y later)
    ] in
    subst P (sym (reverse-append (x ∷ []) xs)) both

same_any : (names : List (Bor (List ℕ))) (name : List ℕ) → list_any (λ word. pointwise nat_eq word.now name) names ≡ list_any (λ word. pointwise nat_eq word name) (map (λ word. word.now) names)
same_any [] name = refl
same_any (first ∷ names) name = ap (λ b. pointwise nat_eq first.now name || b) (same_any names name)

pub among : (names : List (Bor (List ℕ))) (name : List ℕ) (found : Bool) → found ≡ list_any (λ word. pointwise nat_eq word.now name) names → IsTrue found ↔ Contains (in_scope names) name
among names name found e =
    let texts = map {A = Bor (List ℕ)} {B = List ℕ} (λ word. word.now) names in
    let P : List (List ℕ) → Type 0 = λ zs. Contains zs name in
    let tells : IsTrue found ↔ Contains texts name = in_table texts name found (e ∙ same_any names name) in
    (λ is. contains_reversed texts name (tells.0 is), λ has. tells.1 (subst P (reverse-reverse texts) (contains_reversed (reverse texts) name has)))

pub clash : (b : Bool) → b ≡ true → b ≡ false → ⊥
clash b t f = absurd (cc)

-- ---- the items to come

next_parts : (names : List (List ℕ)) (items : List BlockItem) (at : ℕ) (item : BlockItem) → at < length items → item ≡ get_or items at item
    → AreScoped names (drop at items) ↔ (IsScoped names item × AreScoped (scope_after names item) (drop (at + 1) items))
next_parts names items at item within is =
    let next : drop at items ≡ item ∷ drop (at + 1) items = drop-cons items at item within ∙ ap (λ i. i ∷ drop (suc at) items) (sym is) ∙ ap (λ n. item ∷ drop n items) (sym (add-one at)) in
    let P : List BlockItem → Type 0 = λ its. AreScoped names its ↔ (IsScoped names item × AreScoped (scope_after names item) (drop (at + 1) items)) in
    subst P (sym next) (λ all. all, λ all. all)

pub step_scoped : (names after_names : List (List ℕ)) (items : List BlockItem) (at : ℕ) (item : BlockItem) → at < length items → item ≡ get_or items at item → IsScoped names item → after_names ≡ scope_after names item
    → AreScoped names (drop at items) ↔ AreScoped [] items → AreScoped after_names (drop (at + 1) items) ↔ AreScoped [] items
step_scoped names after_names items at item within is scoped ea before =
    let parts = next_parts names items at item within is in
    let P : List (List ℕ) → Type 0 = λ ns. AreScoped ns (drop (at + 1) items) ↔ AreScoped [] items in
    subst P (sym ea) (λ later. before.0 (parts.1 (scoped, later)), λ all. (parts.0 (before.1 all)).1)

pub step_unscoped : (names : List (List ℕ)) (items : List BlockItem) (at : ℕ) (item : BlockItem) → at < length items → item ≡ get_or items at item → (IsScoped names item → ⊥)
    → AreScoped names (drop at items) ↔ AreScoped [] items → AreScoped [] items → ⊥
step_unscoped names items at item within is not_scoped before all = not_scoped ((next_parts names items at item within is).0 (before.1 all)).0
