-- Parameters, one by one.
use Rattle.std.proofs.Common.{◌≡◌, ℕ, ◌+◌, ◌-◌, ◌<◌, ◌≤◌, List, [], ◌∷◌, ◌++◌, Some, None, refl, sym, ◌∙◌, ap, append_assoc, arith}
use Rattle.c_tokens.specs.declared.token.TokenKind.{TokenKind}
use Rattle.c_tree.specs.declared.expression.Parameter.{Parameter}
use Rattle.c_tree.specs.Places.{Place, next}
use Rattle.c_cursor.specs.declared.marks.Mark.TheVariants as mark
use Rattle.c_cursor.specs.Bare.{bare}
use Rattle.c_declarators.specs.Declarators.{parameter_at}
use Rattle.c_grammar.specs.Marks as spec
use Rattle.c_grammar.specs.Marks.{Mark, mark_at}
use Rattle.c_grammar.specs.ReadExpressions.{Outcome, Gives, Refuses, and_then}
use Rattle.c_grammar.specs.ReadTypes.{Takes, Taken, attributes, parameter, first_taken, parameters_comma, parameters_after, parameters}
use Rattle.c_grammar.specs.Readers.{specifiers, perhaps}
use Rattle.c_cursor.proofs.Plain.{told}
use Rattle.c_cursor.proofs.Lists.{one_further}

-- what parameters are with these before them
abbrev pub taken_after : List Parameter → Outcome Takes → Outcome Takes
taken_after found (Gives (Taken list variadic) q) = Gives (Taken (found ++ list) variadic) q
taken_after found Refuses = Refuses

-- this many more parameters
abbrev pub further_parameters : List TokenKind → ℕ → ℕ → Place → Outcome Takes
further_parameters kinds d n p = parameters kinds (parameter (attributes kinds d) (specifiers kinds d) (perhaps kinds d)) n p

taken_joined : (found : List Parameter) (x : Parameter) (o : Outcome Takes) → taken_after found (and_then o (first_taken x)) ≡ taken_after (found ++ x ∷ []) o
taken_joined found x (Gives (Taken list variadic) q) = ap (λ ys. Gives (Taken ys variadic) q) (sym (append_assoc found (x ∷ []) list))
taken_joined found x Refuses = refl

parameters_step : (kinds : List TokenKind) (d n i : ℕ) (p : Place) → i < n
    → further_parameters kinds d (n - i) p ≡ and_then (parameter_at kinds d p) (λ x q. parameters_after kinds (further_parameters kinds d (n - (i + 1))) x q (mark_at kinds q))
unfolding parameters
parameters_step kinds d n i p h = ap (λ m. further_parameters kinds d m p) (one_further n i h)

parameters_behind : (kinds : List TokenKind) (d n i : ℕ) (p q : Place) (x : Parameter) → i < n → parameter_at kinds d p ≡ Gives x q
    → further_parameters kinds d (n - i) p ≡ parameters_after kinds (further_parameters kinds d (n - (i + 1))) x q (mark_at kinds q)
parameters_behind kinds d n i p q x h e =
    parameters_step kinds d n i p h ∙ ap (λ o. and_then o (λ x q. parameters_after kinds (further_parameters kinds d (n - (i + 1))) x q (mark_at kinds q))) e

by_last : (kinds : List TokenKind) (more : Place → Outcome Takes) (x : Parameter) (q : Place) (m : Mark) → (bare m ≡ mark.Comma → ⊥) → parameters_after kinds more x q m ≡ Gives (Taken (x ∷ []) None) q
by_last kinds more x q spec.Comma f = absurd (f refl)
by_last kinds more x q _ f = refl

by_comma : (kinds : List TokenKind) (more : Place → Outcome Takes) (x : Parameter) (q : Place) (m : Mark) → bare m ≡ mark.Comma
    → parameters_after kinds more x q m ≡ parameters_comma more x (next q) (mark_at kinds (next q))
by_comma kinds more x q m e = rw (told m spec.Comma tt e) refl

by_variadic : (more : Place → Outcome Takes) (x : Parameter) (q : Place) (m : Mark) → bare m ≡ mark.Ellipsis → parameters_comma more x q m ≡ Gives (Taken (x ∷ []) (Some q.at)) (next q)
by_variadic more x q m e = rw (told m spec.Ellipsis tt e) refl

by_further : (more : Place → Outcome Takes) (x : Parameter) (q : Place) (m : Mark) → (bare m ≡ mark.Ellipsis → ⊥) → parameters_comma more x q m ≡ and_then (more q) (first_taken x)
by_further more x q spec.Ellipsis f = absurd (f refl)
by_further more x q _ f = refl

pub parameters_refused : (kinds : List TokenKind) (d n i : ℕ) (p : Place) (found : List Parameter) → i < n → parameter_at kinds d p ≡ Refuses
    → taken_after found (further_parameters kinds d (n - i) p) ≡ Refuses
parameters_refused kinds d n i p found h e =
    ap (taken_after found) (parameters_step kinds d n i p h ∙ ap (λ o. and_then o (λ x q. parameters_after kinds (further_parameters kinds d (n - (i + 1))) x q (mark_at kinds q))) e)

pub parameters_none : (kinds : List TokenKind) (d n i : ℕ) (p : Place) (found : List Parameter) → n ≤ i → taken_after found (further_parameters kinds d (n - i) p) ≡ Refuses
unfolding parameters
parameters_none kinds d n i p found h =
    let none : n - i ≡ 0 = omega arith in
    ap (λ m. taken_after found (further_parameters kinds d m p)) none

pub parameters_last : (kinds : List TokenKind) (d n i : ℕ) (whole : Outcome Takes) (p q : Place) (found further : List Parameter) (x : Parameter)
    → whole ≡ taken_after found (further_parameters kinds d (n - i) p) → i < n → parameter_at kinds d p ≡ Gives x q → further ≡ found ++ x ∷ []
    → (bare (mark_at kinds q) ≡ mark.Comma → ⊥) → whole ≡ Gives (Taken further None) q
parameters_last kinds d n i whole p q found further x w h e g f =
    w ∙ (ap (taken_after found) (parameters_behind kinds d n i p q x h e ∙ by_last kinds (further_parameters kinds d (n - (i + 1))) x q (mark_at kinds q) f)
    ∙ ap (λ xs. Gives (Taken xs None) q) (sym g))

pub parameters_variadic : (kinds : List TokenKind) (d n i at : ℕ) (whole : Outcome Takes) (p q r s : Place) (found further : List Parameter) (x : Parameter)
    → whole ≡ taken_after found (further_parameters kinds d (n - i) p) → i < n → parameter_at kinds d p ≡ Gives x q → further ≡ found ++ x ∷ []
    → bare (mark_at kinds q) ≡ mark.Comma → r ≡ next q → bare (mark_at kinds r) ≡ mark.Ellipsis → at ≡ r.at → s ≡ next r
    → whole ≡ Gives (Taken further (Some at)) s
parameters_variadic kinds d n i at whole p q r s found further x w h e g f k a b j =
    let more = further_parameters kinds d (n - (i + 1)) in
    let here : at ≡ (next q).at = b ∙ ap (λ (t : Place). t.at) k in
    let ends : bare (mark_at kinds (next q)) ≡ mark.Ellipsis = ap (λ t. bare (mark_at kinds t)) (sym k) ∙ a in
    w ∙ (ap (taken_after found) (parameters_behind kinds d n i p q x h e ∙ (by_comma kinds more x q (mark_at kinds q) f ∙ by_variadic more x (next q) (mark_at kinds (next q)) ends))
    ∙ (ap (λ xs. Gives (Taken xs (Some (next q).at)) (next (next q))) (sym g) ∙ ap (λ m. Gives (Taken further (Some m)) (next (next q))) (sym here)
    ∙ ap (λ t. Gives (Taken further (Some at)) t) (sym (j ∙ ap next k))))

pub parameters_next : (kinds : List TokenKind) (d n i : ℕ) (whole : Outcome Takes) (p q r : Place) (found further : List Parameter) (x : Parameter)
    → whole ≡ taken_after found (further_parameters kinds d (n - i) p) → i < n → parameter_at kinds d p ≡ Gives x q → further ≡ found ++ x ∷ []
    → bare (mark_at kinds q) ≡ mark.Comma → r ≡ next q → (bare (mark_at kinds r) ≡ mark.Ellipsis → ⊥) → whole ≡ taken_after further (further_parameters kinds d (n - (i + 1)) r)
parameters_next kinds d n i whole p q r found further x w h e g f k a =
    let more = further_parameters kinds d (n - (i + 1)) in
    w ∙ (ap (taken_after found) (parameters_behind kinds d n i p q x h e ∙ (by_comma kinds more x q (mark_at kinds q) f
    ∙ by_further more x (next q) (mark_at kinds (next q)) (λ b. a (ap (λ t. bare (mark_at kinds t)) k ∙ b))))
    ∙ (taken_joined found x (more (next q)) ∙ (ap (λ xs. taken_after xs (more (next q))) (sym g) ∙ ap (λ t. taken_after further (more t)) (sym k))))
