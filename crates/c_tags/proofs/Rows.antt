-- Lists of keywords, and the tables of those that name types.
use Rattle.std.proofs.Common.{◌≡◌, ℕ, zero, suc, ◌<◌, lit<, nat_eq, Bool, true, false, cond, ◌&&◌, List, [], ◌∷◌, ◌++◌, Option, Some, None, refl, sym, arith}
use Rattle.std.proofs.lemmas.Bool.{false≢true}
use Rattle.std.specs.List.{list_all}
use Rattle.c_tokens.specs.declared.data_model.DataModel.{DataModel}
use Rattle.c_tree.specs.declared.expression.BaseWord.{BaseWord}
use Rattle.c_kinds.specs.declared.types.Base.{Base}
use Rattle.c_kinds.specs.declared.types.CType.{CType}
use Rattle.c_kinds.specs.Types.{plain}
use Rattle.c_rules.specs.Scopes.{State}
use Rattle.c_rules.specs.Specifiers.{count_of, same_words, is_among, word_rows, row_of, no_type, one_type}
use Rattle.c_tags.specs.Words.{narrow_rows, wide_rows}

both : (a b : Bool) → a ≡ true → b ≡ true → a && b ≡ true
both true b p q = q
both false b p q = absurd (false≢true p)

all_hold : (f : ℕ → Bool) → ((k : ℕ) → k < 8 → f k ≡ true) → list_all f (0 ∷ 1 ∷ 2 ∷ 3 ∷ 4 ∷ 5 ∷ 6 ∷ 7 ∷ []) ≡ true
all_hold f h =
    both (f 0) _ (h 0 (lit< tt)) (both (f 1) _ (h 1 (lit< tt)) (both (f 2) _ (h 2 (lit< tt)) (both (f 3) _ (h 3 (lit< tt))
    (both (f 4) _ (h 4 (lit< tt)) (both (f 5) _ (h 5 (lit< tt)) (both (f 6) _ (h 6 (lit< tt)) (both (f 7) true (h 7 (lit< tt)) refl)))))))

-- the same keywords stand in both lists where each stands as often
pub all_agree : (xs ys : List BaseWord) → ((k : ℕ) → k < 8 → nat_eq (count_of k xs) (count_of k ys) ≡ true) → true ≡ same_words xs ys
all_agree xs ys h = sym (all_hold (λ k. nat_eq (count_of k xs) (count_of k ys)) h)

first_fails : (a b : Bool) → a ≡ false → a && b ≡ false
first_fails true b p = absurd (cc)
first_fails false b p = refl

later_fails : (a b : Bool) → b ≡ false → a && b ≡ false
later_fails true b p = p
later_fails false b p = refl

one_fails : (f : ℕ → Bool) (k : ℕ) → k < 8 → f k ≡ false → list_all f (0 ∷ 1 ∷ 2 ∷ 3 ∷ 4 ∷ 5 ∷ 6 ∷ 7 ∷ []) ≡ false
one_fails f zero h p = first_fails (f 0) _ p
one_fails f (suc zero) h p = later_fails (f 0) _ (first_fails (f 1) _ p)
one_fails f (suc (suc zero)) h p = later_fails (f 0) _ (later_fails (f 1) _ (first_fails (f 2) _ p))
one_fails f (suc (suc (suc zero))) h p = later_fails (f 0) _ (later_fails (f 1) _ (later_fails (f 2) _ (first_fails (f 3) _ p)))
one_fails f (suc (suc (suc (suc zero)))) h p =
    later_fails (f 0) _ (later_fails (f 1) _ (later_fails (f 2) _ (later_fails (f 3) _ (first_fails (f 4) _ p))))
one_fails f (suc (suc (suc (suc (suc zero))))) h p =
    later_fails (f 0) _ (later_fails (f 1) _ (later_fails (f 2) _ (later_fails (f 3) _ (later_fails (f 4) _ (first_fails (f 5) _ p)))))
one_fails f (suc (suc (suc (suc (suc (suc zero)))))) h p =
    later_fails (f 0) _ (later_fails (f 1) _ (later_fails (f 2) _ (later_fails (f 3) _ (later_fails (f 4) _ (later_fails (f 5) _ (first_fails (f 6) _ p))))))
one_fails f (suc (suc (suc (suc (suc (suc (suc zero))))))) h p =
    later_fails (f 0) _ (later_fails (f 1) _ (later_fails (f 2) _ (later_fails (f 3) _ (later_fails (f 4) _ (later_fails (f 5) _ (later_fails (f 6) _ (first_fails (f 7) _ p)))))))
one_fails f (suc (suc (suc (suc (suc (suc (suc (suc n)))))))) h p = absurd (omega arith)

pub one_differs : (xs ys : List BaseWord) (k : ℕ) → k < 8 → nat_eq (count_of k xs) (count_of k ys) ≡ false → false ≡ same_words xs ys
one_differs xs ys k h p = sym (one_fails (λ k. nat_eq (count_of k xs) (count_of k ys)) k h p)

some_by : (b : Bool) (t u : CType) (x y : Option CType) → Some t ≡ cond b (Some u) x → (Some t ≡ x → Some t ≡ y) → Some t ≡ cond b (Some u) y
some_by true t u x y is further = is
some_by false t u x y is further = further is

some_in : (xs ys : List (Base × List (List BaseWord))) (words : List BaseWord) (t : CType) → Some t ≡ row_of xs words → Some t ≡ row_of (xs ++ ys) words
some_in [] ys words t is = absurd (cc)
some_in (x ∷ xs) ys words t is =
    some_by (is_among words x.1) t (plain x.0) (row_of xs words) (row_of (xs ++ ys) words) is (some_in xs ys words t)

none_by : (b : Bool) (u : CType) (x y z : Option CType) → None ≡ cond b (Some u) x → (None ≡ x → z ≡ y) → z ≡ cond b (Some u) y
none_by true u x y z is further = absurd (cc)
none_by false u x y z is further = further is

none_in : (xs ys : List (Base × List (List BaseWord))) (words : List BaseWord) → None ≡ row_of xs words → row_of ys words ≡ row_of (xs ++ ys) words
none_in [] ys words is = refl
none_in (x ∷ xs) ys words is =
    none_by (is_among words x.1) (plain x.0) (row_of xs words) (row_of (xs ++ ys) words) (row_of ys words) is (none_in xs ys words)

-- the whole table goes by its first part, and where that has no row by the second
pub narrow_is : (model : DataModel) (words : List BaseWord) (t : CType) → Some t ≡ row_of narrow_rows words → Some t ≡ row_of (word_rows model) words
narrow_is model words t is = some_in narrow_rows (wide_rows model) words t is

pub wide_is : (model : DataModel) (words : List BaseWord) → None ≡ row_of narrow_rows words → row_of (wide_rows model) words ≡ row_of (word_rows model) words
wide_is model words is = none_in narrow_rows (wide_rows model) words is

-- more than one other specifier names no type
pub two_others : (first : ℕ) (words : List BaseWord) (t u : Option CType) (ts : List (Option CType)) (st : State) → one_type first words (t ∷ u ∷ ts) st ≡ no_type first st
two_others first [] t u ts st = refl
two_others first (w ∷ ws) t u ts st = refl
