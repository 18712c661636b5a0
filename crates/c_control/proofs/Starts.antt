-- The first part of a `for`, by its next token.
use Rattle.std.proofs.Common.{◌≡◌, List, refl}
use Rattle.c_tokens.specs.declared.token.TokenKind.{TokenKind}
use Rattle.c_tree.specs.Places.{Place}
use Rattle.c_cursor.specs.declared.marks.Mark.TheVariants as mark
use Rattle.c_cursor.specs.Bare.{bare}
use Rattle.c_grammar.specs.Kinds.{begins_type}
use Rattle.c_grammar.specs.Marks as spec
use Rattle.c_grammar.specs.ReadExpressions.{ReadsExpression}
use Rattle.c_grammar.specs.ReadStatements.{ReadsDeclaration, start_by, start_else}

pub start_other : (kinds : List TokenKind) (rd : ReadsExpression) (dn : ReadsDeclaration) (p : Place) (m : spec.Mark) → (bare m ≡ mark.Semicolon → ⊥)
    → start_by kinds rd dn p m ≡ start_else kinds rd dn p (begins_type kinds p)
start_other kinds rd dn p spec.Semicolon h = absurd (h refl)
start_other kinds rd dn p _ h = refl
