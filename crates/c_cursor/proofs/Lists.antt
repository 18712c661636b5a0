-- Lists that are read one by one, and what goes on after what was read.
use Rattle.std.proofs.Common.{◌≡◌, ℕ, suc, ◌+◌, ◌-◌, ◌<◌, List, [], ◌∷◌, ◌++◌, refl, sym, ap, append_assoc, arith}
use Rattle.c_tree.specs.Places.{Place}
use Rattle.c_grammar.specs.ReadExpressions.{Outcome, Gives, Refuses, and_then}

pub one_further : (n i : ℕ) → i < n → n - i ≡ suc (n - (i + 1))
one_further n i h = omega arith

pub append_none : {A : Type 0} (xs : List A) → xs ++ [] ≡ xs
append_none [] = refl
append_none (x ∷ xs) = ap (λ ys. x ∷ ys) (append_none xs)

-- what a list is with these before it
abbrev pub after : {A : Type 0} → List A → Outcome (List A) → Outcome (List A)
after found (Gives xs q) = Gives (found ++ xs) q
after found Refuses = Refuses

pub after_none : {A : Type 0} (o : Outcome (List A)) → o ≡ after [] o
after_none (Gives xs q) = refl
after_none Refuses = refl

pub one_more : (n : ℕ) → 0 < n → n ≡ suc (n - 1)
one_more n h = omega arith

pub joined : {A : Type 0} (found : List A) (x : A) (o : Outcome (List A)) → after found (and_then o (λ xs r. Gives (x ∷ xs) r)) ≡ after (found ++ x ∷ []) o
joined found x (Gives xs q) = ap (λ ys. Gives ys q) (sym (append_assoc found (x ∷ []) xs))
joined found x Refuses = refl

-- what follows goes on alike
pub then_both : {A B C : Type 0} (o : Outcome A) (f : A → Place → Outcome C) (h : A → Place → Outcome B) (g : B → Place → Outcome C)
    → ((x : A) (q : Place) → f x q ≡ and_then (h x q) g) → and_then o f ≡ and_then (and_then o h) g
then_both (Gives x q) f h g e = e x q
then_both Refuses f h g e = refl
