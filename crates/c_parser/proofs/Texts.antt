-- Texts, whose external declarations are read one by one.
use Rattle.std.proofs.Common.{◌≡◌, List, [], ◌∷◌, ◌++◌, ℕ, zero, suc, ◌+◌, ◌-◌, ◌<◌, Option, Some, None, length, refl, ap, ◌∙◌, sym, arith}
use Rattle.std.specs.Prelude.{Result, Ok, Err}
use Rattle.c_tokens.specs.declared.token.Token.{Token}
use Rattle.c_tokens.specs.declared.token.TokenKind.{TokenKind}
use Rattle.c_tree.specs.SpellsText.{kinds_of, beginning}
use Rattle.c_tree.specs.declared.declaration.External.{External}
use Rattle.c_tree.specs.Places.{Place}
use Rattle.c_cursor.specs.declared.fault.Fault.{Fault}
use Rattle.c_cursor.specs.declared.fault.Fault.TheVariants.{Syntax, NoMemory}
use Rattle.c_grammar.specs.Kinds.{kind_at}
use Rattle.c_grammar.specs.ReadExpressions.{Outcome, Gives, Refuses, and_then}
use Rattle.c_grammar.specs.ReadTypes.{ListOf}
use Rattle.c_grammar.specs.ReadText.{externals, externals_by, external, text}
use Rattle.c_cursor.specs.Reads.{Reads}
use Rattle.c_nesting.proofs.Depths.{length-kinds_of}
use Rattle.c_cursor.proofs.Lists.{after, after_none, joined, append_none, one_further}
use Rattle.c_parser.specs.Parses.{ReadsText}

externals_on : (kinds : List TokenKind) (depth n : ℕ) (p : Place) → externals kinds depth (suc n) p ≡ externals_by kinds depth (externals kinds depth n) p (kind_at kinds p)
unfolding externals
externals_on kinds depth n p = refl

externals_zero : (kinds : List TokenKind) (depth : ℕ) (p : Place) → externals kinds depth zero p ≡ Refuses
unfolding externals
externals_zero kinds depth p = refl

externals_one : (kinds : List TokenKind) (depth n i : ℕ) (p : Place) (kind : Option TokenKind) → i < n → kind_at kinds p ≡ kind
    → externals kinds depth (n - i) p ≡ externals_by kinds depth (externals kinds depth (n - (i + 1))) p kind
externals_one kinds depth n i p kind h e =
    ap (λ m. externals kinds depth m p) (one_further n i h) ∙ externals_on kinds depth (n - (i + 1)) p ∙ ap (externals_by kinds depth (externals kinds depth (n - (i + 1))) p) e

pub externals_ends : (kinds : List TokenKind) (depth n i : ℕ) (p : Place) (whole : Outcome (List External)) (xs : List External)
    → whole ≡ after xs (externals kinds depth (n - i) p) → n ≡ i → whole ≡ Refuses
externals_ends kinds depth n i p whole xs e h =
    let z : n - i ≡ zero = omega arith in
    e ∙ ap (λ m. after xs (externals kinds depth m p)) z ∙ ap (after xs) (externals_zero kinds depth p)

pub externals_close : (kinds : List TokenKind) (depth n i : ℕ) (p : Place) (whole : Outcome (List External)) (xs : List External)
    → whole ≡ after xs (externals kinds depth (n - i) p) → i < n → kind_at kinds p ≡ None → whole ≡ Gives xs p
externals_close kinds depth n i p whole xs e h g = e ∙ ap (after xs) (externals_one kinds depth n i p None h g) ∙ ap (λ ys. Gives ys p) (append_none xs)

by_external : (kinds : List TokenKind) (depth : ℕ) (more : ListOf External) (p : Place) (kind : Option TokenKind) → (kind ≡ None → ⊥)
    → externals_by kinds depth more p kind ≡ and_then (external kinds depth p) (λ x q. and_then (more q) (λ xs r. Gives (x ∷ xs) r))
by_external kinds depth more p None h = absurd (h refl)
by_external kinds depth more p (Some kind) h = refl

externals_then : (kinds : List TokenKind) (depth n i : ℕ) (p : Place) (o : Outcome External) → i < n → (kind_at kinds p ≡ None → ⊥) → external kinds depth p ≡ o
    → externals kinds depth (n - i) p ≡ and_then o (λ x q. and_then (externals kinds depth (n - (i + 1)) q) (λ xs r. Gives (x ∷ xs) r))
externals_then kinds depth n i p o h g f =
    externals_one kinds depth n i p (kind_at kinds p) h refl ∙ by_external kinds depth (externals kinds depth (n - (i + 1))) p (kind_at kinds p) g
    ∙ ap (λ o. and_then o (λ x q. and_then (externals kinds depth (n - (i + 1)) q) (λ xs r. Gives (x ∷ xs) r))) f

pub externals_fail : (kinds : List TokenKind) (depth n i : ℕ) (p : Place) (whole : Outcome (List External)) (xs : List External)
    → whole ≡ after xs (externals kinds depth (n - i) p) → i < n → (kind_at kinds p ≡ None → ⊥) → external kinds depth p ≡ Refuses → whole ≡ Refuses
externals_fail kinds depth n i p whole xs e h g f = e ∙ ap (after xs) (externals_then kinds depth n i p Refuses h g f)

pub externals_go_on : (kinds : List TokenKind) (depth n i : ℕ) (p q : Place) (whole : Outcome (List External)) (xs ys : List External) (x : External)
    → whole ≡ after xs (externals kinds depth (n - i) p) → i < n → (kind_at kinds p ≡ None → ⊥) → external kinds depth p ≡ Gives x q → ys ≡ xs ++ x ∷ []
    → whole ≡ after ys (externals kinds depth (n - (i + 1)) q)
externals_go_on kinds depth n i p q whole xs ys x e h g f d =
    e ∙ ap (after xs) (externals_then kinds depth n i p (Gives x q) h g f) ∙ joined xs x (externals kinds depth (n - (i + 1)) q)
    ∙ ap (λ zs. after zs (externals kinds depth (n - (i + 1)) q)) (sym d)

pub externals_begin : (kinds : List TokenKind) (depth n m : ℕ) (p : Place) (xs : List External) → m ≡ n → xs ≡ []
    → externals kinds depth n p ≡ after xs (externals kinds depth m p)
externals_begin kinds depth n m p xs h d =
    after_none (externals kinds depth n p) ∙ ap (λ k. after [] (externals kinds depth k p)) (sym h) ∙ ap (λ zs. after zs (externals kinds depth m p)) (sym d)

text_at : (tokens : List Token) (n : ℕ) (p : Place) → n ≡ length tokens + 1 → p ≡ beginning → text (kinds_of tokens) ≡ externals (kinds_of tokens) n n p
text_at tokens n p e h =
    let m : length (kinds_of tokens) + 1 ≡ n = omega (arith, length-kinds_of tokens) in
    ap (λ k. externals (kinds_of tokens) k k beginning) m ∙ ap (externals (kinds_of tokens) n n) (sym h)

pub text_read : (tokens : List Token) (n : ℕ) (p q : Place) (r : Result (List External) Fault) → n ≡ length tokens + 1 → p ≡ beginning
    → Reads (externals (kinds_of tokens) n n p) r q → ReadsText (text (kinds_of tokens)) r
text_read tokens n p q (Ok xs) e h d = (q, text_at tokens n p e h ∙ d)
text_read tokens n p q (Err (Syntax at)) e h d = text_at tokens n p e h ∙ d
text_read tokens n p q (Err NoMemory) e h d = tt
