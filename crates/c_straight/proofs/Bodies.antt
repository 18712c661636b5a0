-- Bodies, item by item.
use Rattle.std.proofs.Common.{◌≡◌, ℕ, suc, ◌+◌, ◌<◌, Bool, true, false, List, [], ◌∷◌, ◌++◌, length, get_or, drop, Option, Some, None, refl, sym, ap, ◌∙◌, append_assoc, arith, drop-cons, length-drop, add-one}
use Rattle.std.proofs.lemmas.List.{append-nil}
use Rattle.c_straight_model.specs.declared.program.BlockItem.{BlockItem}
use Rattle.c_tree.specs.declared.statement.BlockItem.{BlockItem as TreeItem}
use Rattle.c_straight.specs.Straight.{and_then, where_true, item_of, returns_zero, body_of}

-- what a list is with these before it
abbrev pub prefixed : List BlockItem → Option (List BlockItem) → Option (List BlockItem)
prefixed found None = None
prefixed found (Some items) = Some (found ++ items)

pub prefixed_none : (o : Option (List BlockItem)) → o ≡ prefixed [] o
prefixed_none None = refl
prefixed_none (Some items) = refl

-- an item, and those after it
abbrev with_first : Option BlockItem → Option (List BlockItem) → Option (List BlockItem)
with_first first further = and_then first (λ item. and_then further (λ items. Some (item ∷ items)))

prefixed_first : (found : List BlockItem) (item : BlockItem) (o : Option (List BlockItem)) → prefixed found (with_first (Some item) o) ≡ prefixed (found ++ item ∷ []) o
prefixed_first found item None = refl
prefixed_first found item (Some items) = ap Some (sym (append_assoc found (item ∷ []) items))

prefixed_last : (found : List BlockItem) (b : Bool) → prefixed found (where_true b (Some [])) ≡ where_true b (Some (found ++ []))
prefixed_last found true = refl
prefixed_last found false = refl

front : (items : List TreeItem) (at : ℕ) (x : TreeItem) → at < length items → x ≡ get_or items at x → drop at items ≡ x ∷ drop (at + 1) items
front items at x within is = drop-cons items at x within ∙ ap (λ i. i ∷ drop (suc at) items) (sym is) ∙ ap (λ n. x ∷ drop n items) (sym (add-one at))

goes_on : (lines : List ℕ) (n : ℕ) (x : TreeItem) (rest : List TreeItem) → 0 < length rest → body_of lines n (x ∷ rest) ≡ with_first (item_of lines n x) (body_of lines n rest)
unfolding body_of
goes_on lines n x [] h = absurd (omega arith)
goes_on lines n x (y ∷ rest) h = refl

ends : (lines : List ℕ) (n : ℕ) (x : TreeItem) (rest : List TreeItem) → length rest ≡ 0 → body_of lines n (x ∷ rest) ≡ where_true (returns_zero x) (Some [])
unfolding body_of
ends lines n x [] h = refl
ends lines n x (y ∷ rest) h = absurd (omega arith)

-- after some items, before another
body_front : (lines : List ℕ) (n : ℕ) (items : List TreeItem) (at : ℕ) (x : TreeItem) → at < length items → x ≡ get_or items at x → 0 < length (drop (at + 1) items)
    → body_of lines n (drop at items) ≡ with_first (item_of lines n x) (body_of lines n (drop (at + 1) items))
body_front lines n items at x within is some = ap (body_of lines n) (front items at x within is) ∙ goes_on lines n x (drop (at + 1) items) some

pub body_next : (lines : List ℕ) (n : ℕ) (items : List TreeItem) (at : ℕ) (x : TreeItem) (found : List BlockItem) (item : BlockItem)
    → at < length items → x ≡ get_or items at x → (at + 1 ≡ length items → ⊥) → Some item ≡ item_of lines n x
    → body_of lines n items ≡ prefixed found (body_of lines n (drop at items))
    → body_of lines n items ≡ prefixed (found ++ item ∷ []) (body_of lines n (drop (at + 1) items))
body_next lines n items at x found item within is more e so_far =
    let some : 0 < length (drop (at + 1) items) = omega (arith, length-drop {A = TreeItem}) in
    so_far ∙ ap (prefixed found) (body_front lines n items at x within is some ∙ ap (λ o. with_first o (body_of lines n (drop (at + 1) items))) (sym e))
    ∙ prefixed_first found item (body_of lines n (drop (at + 1) items))

pub body_stops : (lines : List ℕ) (n : ℕ) (items : List TreeItem) (at : ℕ) (x : TreeItem) (found : List BlockItem)
    → at < length items → x ≡ get_or items at x → (at + 1 ≡ length items → ⊥) → None ≡ item_of lines n x
    → body_of lines n items ≡ prefixed found (body_of lines n (drop at items)) → None ≡ body_of lines n items
body_stops lines n items at x found within is more e so_far =
    let some : 0 < length (drop (at + 1) items) = omega (arith, length-drop {A = TreeItem}) in
    sym (so_far ∙ ap (prefixed found) (body_front lines n items at x within is some ∙ ap (λ o. with_first o (body_of lines n (drop (at + 1) items))) (sym e)))

body_ends : (lines : List ℕ) (n : ℕ) (items : List TreeItem) (at : ℕ) (x : TreeItem) (found : List BlockItem)
    → at < length items → x ≡ get_or items at x → at + 1 ≡ length items
    → body_of lines n items ≡ prefixed found (body_of lines n (drop at items)) → body_of lines n items ≡ where_true (returns_zero x) (Some (found ++ []))
body_ends lines n items at x found within is last so_far =
    let none : length (drop (at + 1) items) ≡ 0 = omega (arith, length-drop {A = TreeItem}) in
    so_far ∙ ap (prefixed found) (ap (body_of lines n) (front items at x within is) ∙ ends lines n x (drop (at + 1) items) none) ∙ prefixed_last found (returns_zero x)

pub body_closed : (lines : List ℕ) (n : ℕ) (items : List TreeItem) (at : ℕ) (x : TreeItem) (found : List BlockItem) (closes : Bool)
    → at < length items → x ≡ get_or items at x → at + 1 ≡ length items → closes ≡ returns_zero x → closes ≡ true
    → body_of lines n items ≡ prefixed found (body_of lines n (drop at items)) → Some found ≡ body_of lines n items
body_closed lines n items at x found closes within is last e closed so_far =
    sym (body_ends lines n items at x found within is last so_far ∙ ap (λ b. where_true b (Some (found ++ []))) (sym e ∙ closed) ∙ ap Some (append-nil found))

pub body_open : (lines : List ℕ) (n : ℕ) (items : List TreeItem) (at : ℕ) (x : TreeItem) (found : List BlockItem) (closes : Bool)
    → at < length items → x ≡ get_or items at x → at + 1 ≡ length items → closes ≡ returns_zero x → closes ≡ false
    → body_of lines n items ≡ prefixed found (body_of lines n (drop at items)) → None ≡ body_of lines n items
body_open lines n items at x found closes within is last e not_closed so_far =
    sym (body_ends lines n items at x found within is last so_far ∙ ap (λ b. where_true b (Some (found ++ []))) (sym e ∙ not_closed))

empty : (lines : List ℕ) (n : ℕ) (xs : List TreeItem) → length xs ≡ 0 → body_of lines n xs ≡ None
unfolding body_of
empty lines n [] h = refl
empty lines n (x ∷ xs) h = absurd (omega arith)

pub body_none : (lines : List ℕ) (n : ℕ) (items : List TreeItem) (at : ℕ) (found : List BlockItem) → length items ≡ at
    → body_of lines n items ≡ prefixed found (body_of lines n (drop at items)) → None ≡ body_of lines n items
body_none lines n items at found e so_far = sym (so_far ∙ ap (prefixed found) (empty lines n (drop at items) (omega (arith, length-drop {A = TreeItem}))))
