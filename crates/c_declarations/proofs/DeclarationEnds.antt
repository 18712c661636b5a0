-- What follows the names of a declaration, by the next token.
use Rattle.std.proofs.Common.{◌≡◌, List, ℕ, Bool, refl, ap, ◌∙◌, sym}
use Rattle.c_tokens.specs.declared.token.TokenKind.{TokenKind}
use Rattle.c_tree.specs.declared.expression.Specifier.{Specifier}
use Rattle.c_tree.specs.declared.declaration.Declared.{Declared}
use Rattle.c_tree.specs.Places.{Place, next}
use Rattle.c_grammar.specs.Marks as spec
use Rattle.c_grammar.specs.Marks.{mark_at}
use Rattle.c_cursor.specs.declared.marks.Mark.TheVariants as mark
use Rattle.c_cursor.specs.Bare.{bare, bare_at}
use Rattle.c_grammar.specs.ReadExpressions.{Outcome, Gives, Refuses, and_then}
use Rattle.c_grammar.specs.ReadTypes.{ListOf, Titled, Titles}
use Rattle.c_grammar.specs.ReadStatements.{declaration_by, declaration_end, declared_by, initialiser}
use Rattle.c_declarations.specs.Values.{initialised, plain_declared}
use Rattle.c_cursor.proofs.Skipped.{semicolon_taken, semicolon_missing}

named : (kinds : List TokenKind) (names : Bool → ListOf Declared) (defines : Bool) (list : List Specifier) (p : Place) (m : spec.Mark) → (bare m ≡ mark.Semicolon → ⊥)
    → declaration_by kinds names defines list p m ≡ and_then (names defines p) (declaration_end kinds list)
named kinds names defines list p spec.Semicolon h = absurd (h refl)
named kinds names defines list p _ h = refl

pub declaration_ends : (kinds : List TokenKind) (names : Bool → ListOf Declared) (defines : Bool) (list : List Specifier) (p q r : Place) (xs : List Declared) (at : ℕ)
    → (bare_at kinds p ≡ mark.Semicolon → ⊥) → names defines p ≡ Gives xs q → bare_at kinds q ≡ mark.Semicolon → r ≡ next q → at ≡ q.at
    → declaration_by kinds names defines list p (mark_at kinds p) ≡ Gives (record { specifiers = list; names = xs; at = at }) r
declaration_ends kinds names defines list p q r xs at h f g e d =
    named kinds names defines list p (mark_at kinds p) h ∙ ap (λ o. and_then o (declaration_end kinds list)) f
    ∙ semicolon_taken (mark_at kinds q) (Gives (record { specifiers = list; names = xs; at = q.at }) (next q)) g
    ∙ ap (λ s. Gives (record { specifiers = list; names = xs; at = q.at }) s) (sym e) ∙ ap (λ a. Gives (record { specifiers = list; names = xs; at = a }) r) (sym d)

pub declaration_fails : (kinds : List TokenKind) (names : Bool → ListOf Declared) (defines : Bool) (list : List Specifier) (p q : Place) (xs : List Declared)
    → (bare_at kinds p ≡ mark.Semicolon → ⊥) → names defines p ≡ Gives xs q → (bare_at kinds q ≡ mark.Semicolon → ⊥)
    → declaration_by kinds names defines list p (mark_at kinds p) ≡ Refuses
declaration_fails kinds names defines list p q xs h f g =
    named kinds names defines list p (mark_at kinds p) h ∙ ap (λ o. and_then o (declaration_end kinds list)) f
    ∙ semicolon_missing (mark_at kinds q) (Gives (record { specifiers = list; names = xs; at = q.at }) (next q)) g

pub declaration_refused : (kinds : List TokenKind) (names : Bool → ListOf Declared) (defines : Bool) (list : List Specifier) (p : Place) → (bare_at kinds p ≡ mark.Semicolon → ⊥)
    → names defines p ≡ Refuses → declaration_by kinds names defines list p (mark_at kinds p) ≡ Refuses
declaration_refused kinds names defines list p h f = named kinds names defines list p (mark_at kinds p) h ∙ ap (λ o. and_then o (declaration_end kinds list)) f

-- ---- after a declarator

pub declared_equals : (kinds : List TokenKind) (n : ℕ) (defines : Bool) (d : Titled) (q : Place) (m : spec.Mark) → bare m ≡ mark.Equals
    → declared_by (initialiser kinds n) defines d q m ≡ initialised kinds n defines d q
declared_equals kinds n defines (Titles name parameters inner) q spec.Equals e = refl
declared_equals kinds n defines (Titles name parameters inner) q _ e = cc

pub declared_other : (kinds : List TokenKind) (n : ℕ) (defines : Bool) (d : Titled) (q : Place) (m : spec.Mark) → (bare m ≡ mark.Equals → ⊥)
    → declared_by (initialiser kinds n) defines d q m ≡ plain_declared defines d q
declared_other kinds n defines (Titles name parameters inner) q spec.Equals f = absurd (f refl)
declared_other kinds n defines (Titles name parameters inner) q _ f = refl
