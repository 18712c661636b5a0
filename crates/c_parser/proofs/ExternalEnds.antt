-- What follows the first declarator of an external declaration, by the next token.
use Rattle.std.proofs.Common.{◌≡◌, List, ℕ, Bool, refl, ap, ◌∙◌, sym, subst}
use Rattle.std.specs.Prelude.{Result}
use Rattle.c_tokens.specs.declared.token.TokenKind.{TokenKind}
use Rattle.c_tree.specs.declared.expression.Specifier.{Specifier}
use Rattle.c_tree.specs.declared.declaration.External.{External}
use Rattle.c_tree.specs.Places.{Place}
use Rattle.c_cursor.specs.declared.fault.Fault.{Fault}
use Rattle.c_grammar.specs.Marks as spec
use Rattle.c_grammar.specs.Marks.{mark_at}
use Rattle.c_cursor.specs.declared.marks.Mark.TheVariants as mark
use Rattle.c_cursor.specs.Bare.{bare, bare_at}
use Rattle.c_grammar.specs.ReadExpressions.{Gives, and_then}
use Rattle.c_cursor.specs.Reads.{Reads}
use Rattle.c_grammar.specs.Readers.{declarator}
use Rattle.c_grammar.specs.ReadTypes.{Titled}
use Rattle.c_grammar.specs.ReadText.{external_by, external_named}

external_of : (kinds : List TokenKind) (n : ℕ) (defines : Bool) (list : List Specifier) (p : Place) (m : spec.Mark) → (bare m ≡ mark.Semicolon → ⊥)
    → external_named kinds n defines list p m ≡ and_then (declarator kinds n p) (λ d r. external_by kinds n defines list d r (mark_at kinds r))
external_of kinds n defines list p spec.Semicolon h = absurd (h refl)
external_of kinds n defines list p _ h = refl

-- what is read after the first declarator is the external declaration
pub external_goes_on : (kinds : List TokenKind) (n : ℕ) (defines : Bool) (list : List Specifier) (p q r : Place) (d : Titled) (result : Result External Fault)
    → (bare_at kinds p ≡ mark.Semicolon → ⊥) → declarator kinds n p ≡ Gives d q → Reads (external_by kinds n defines list d q (mark_at kinds q)) result r
    → Reads (external_named kinds n defines list p (mark_at kinds p)) result r
external_goes_on kinds n defines list p q r d result h f reads =
    let e = external_of kinds n defines list p (mark_at kinds p) h ∙ ap (λ o. and_then o (λ d r. external_by kinds n defines list d r (mark_at kinds r))) f in
    subst (λ o. Reads o result r) (sym e) reads
