-- Arguments and parts of sequences, one after the other.
use Rattle.std.proofs.Common.{◌≡◌, ◌≢◌, ◌<◌, ◌≤◌, ◌+◌, ℕ, suc, Bool, true, false, ◌&&◌, List, [], ◌∷◌, length, drop, get_or, Option, Some, None, refl, sym, ap, subst, ◌∙◌, arith, add-one, drop-cons}
use Rattle.std.specs.Prelude.{MatchOption}
use Rattle.std.proofs.lemmas.Grind.{common_steps}
use Rattle.c_kinds.specs.declared.typed.Typed.{Typed}
use Rattle.c_kinds.specs.declared.answer.Answer.{Answer}
use Rattle.c_kinds.specs.declared.answer.Answer.TheVariants.{Gives}
use Rattle.c_kinds.specs.Casts.{comma_answer, fits}
use Rattle.c_kinds.specs.Values.{used}
use Rattle.c_rules.specs.Typing.{sequence_answer}
use Rattle.c_kinds.specs.declared.types.CType.{CType}
use Rattle.c_kinds.specs.Layouts.{Layout}
use Rattle.c_rules.specs.Calls.{all_fit, value_has}
use Rattle.c_nodes.specs.declared.arguments.Argument.{Argument}
use Rattle.c_nodes.specs.Arguments.{after_argument, after_arguments, answers_in}
use Rattle.c_nodes.proofs.Parts.{used_gives}

and_false : (a b : Bool) → b ≡ false → (a && b) ≡ false
and_false true b h = h
and_false false b h = refl

-- too few arguments don't fit
pub too_few : (l : Layout) (ts : List CType) (variadic : Bool) (xs : List Argument) → length xs < length ts → all_fit l ts variadic (answers_in xs) ≡ false
too_few l [] variadic xs h = absurd (omega arith)
too_few l (t ∷ ts) variadic [] h = refl
too_few l (t ∷ ts) variadic (x ∷ xs) h = and_false (value_has l (fits t) x.answer) (all_fit l ts variadic (answers_in xs)) (too_few l ts variadic xs (omega arith))

given_more : (l : Layout) (variadic : Bool) (xs : List Argument) → 0 < length xs → all_fit l [] variadic (answers_in xs) ≡ variadic
given_more l variadic [] h = absurd (omega arith)
given_more l variadic (x ∷ xs) h = refl

none_left : {A : Type 0} (xs : List A) (i : ℕ) → length xs ≤ i → drop i xs ≡ []
none_left xs i h = grind (arith, common_steps)

-- more arguments than parameters
pub more_given : (l : Layout) (ts : List CType) (variadic : Bool) (xs : List Argument) (i : ℕ) → length ts ≤ i → i < length xs
    → all_fit l (drop i ts) variadic (answers_in (drop i xs)) ≡ all_fit l ts variadic (answers_in xs) → variadic ≡ all_fit l ts variadic (answers_in xs)
more_given l ts variadic xs i done more h =
    let left : 0 < length (drop i xs) = grind (arith, common_steps) in
    sym (given_more l variadic (drop i xs) left) ∙ (ap (λ r. all_fit l r variadic (answers_in (drop i xs))) (sym (none_left ts i done)) ∙ h)

at_place : {A : Type 0} (xs : List A) (i : ℕ) (a : A) → i < length xs → a ≡ get_or xs i a → drop i xs ≡ a ∷ drop (i + 1) xs
at_place xs i a h is = rw add-one (drop-cons xs i a h ∙ ap (λ x. x ∷ drop (suc i) xs) (sym is))

abbrev pub Breaking : Layout → Bool → Argument → Option Answer → Type 0
Breaking l texts a w = MatchOption w ((rest : Answer) → after_argument l texts a rest ≡ rest) (λ broken. (rest : Answer) → after_argument l texts a rest ≡ broken)

pub next_breaks : (l : Layout) (texts : Bool) (xs : List Argument) (i : ℕ) (a : Argument) (w : Option Answer) (broken : Answer) → i < length xs → a ≡ get_or xs i a
    → w ≡ Some broken → Breaking l texts a w → ((rest : Answer) → after_arguments l texts (drop i xs) rest ≡ after_arguments l texts xs rest)
    → (rest : Answer) → after_arguments l texts xs rest ≡ broken
next_breaks l texts xs i a w broken h is at breaks before rest =
    sym (before rest) ∙ (ap (λ r. after_arguments l texts r rest) (at_place xs i a h is) ∙ (subst (λ v. Breaking l texts a v) at breaks) (after_arguments l texts (drop (i + 1) xs) rest))

pub next_goes : (l : Layout) (texts : Bool) (xs : List Argument) (i : ℕ) (a : Argument) (w : Option Answer) → i < length xs → a ≡ get_or xs i a
    → w ≡ None → Breaking l texts a w → ((rest : Answer) → after_arguments l texts (drop i xs) rest ≡ after_arguments l texts xs rest)
    → (rest : Answer) → after_arguments l texts (drop (i + 1) xs) rest ≡ after_arguments l texts xs rest
next_goes l texts xs i a w h is at goes before rest =
    sym ((subst (λ v. Breaking l texts a v) at goes) (after_arguments l texts (drop (i + 1) xs) rest)) ∙ (sym (ap (λ r. after_arguments l texts r rest) (at_place xs i a h is)) ∙ before rest)

abbrev pub sequence : Layout → ℕ → List Answer → Answer
sequence l at xs = sequence_answer l (λ x. x) at xs

pub last_part : (l : Layout) (at : ℕ) (xs : List Answer) (i : ℕ) (x : Answer) (v : Typed) → i < length xs → x ≡ get_or xs i x → i + 1 ≡ length xs
    → Gives v ≡ used l x (λ y. Gives y) → sequence l at (drop i xs) ≡ sequence l at xs → comma_answer at v ≡ sequence l at xs
last_part l at xs i x v h is last gives before =
    let left : drop i xs ≡ x ∷ [] = at_place xs i x h is ∙ ap (λ r. x ∷ r) (none_left xs (i + 1) (omega arith)) in
    sym (used_gives l x (λ y. comma_answer at y) v gives) ∙ (ap (λ r. sequence l at r) (sym left) ∙ before)

pub next_part : (l : Layout) (at : ℕ) (xs : List Answer) (i : ℕ) (x : Answer) (v : Typed) → i < length xs → x ≡ get_or xs i x → i + 1 ≢ length xs
    → Gives v ≡ used l x (λ y. Gives y) → sequence l at (drop i xs) ≡ sequence l at xs → sequence l at (drop (i + 1) xs) ≡ sequence l at xs
next_part l at xs i x v h is other gives before =
    let next : drop (i + 1) xs ≡ get_or xs (i + 1) x ∷ drop (suc (i + 1)) xs = drop-cons xs (i + 1) x (omega arith) in
    let left : drop i xs ≡ x ∷ (get_or xs (i + 1) x ∷ drop (suc (i + 1)) xs) = at_place xs i x h is ∙ ap (λ r. x ∷ r) next in
    ap (λ r. sequence l at r) next
    ∙ (sym (used_gives l x (λ _. sequence l at (get_or xs (i + 1) x ∷ drop (suc (i + 1)) xs)) v gives) ∙ (ap (λ r. sequence l at r) (sym left) ∙ before))
