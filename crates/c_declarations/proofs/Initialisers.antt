-- One step of the reader of initialisers.
use Rattle.std.proofs.Common.{◌≡◌, ℕ, ◌-◌, ◌<◌, List, refl, ap, ◌∙◌, sym}
use Rattle.c_tokens.specs.declared.token.TokenKind.{TokenKind}
use Rattle.c_tree.specs.declared.declaration.Initialiser.{Initialiser}
use Rattle.c_tree.specs.Places.{Place}
use Rattle.c_cursor.specs.declared.marks.Mark.TheVariants as mark
use Rattle.c_cursor.specs.Bare.{bare}
use Rattle.c_grammar.specs.Marks as spec
use Rattle.c_grammar.specs.Marks.{mark_at}
use Rattle.c_grammar.specs.ReadExpressions.{Refuses}
use Rattle.c_grammar.specs.Readers.{read}
use Rattle.c_grammar.specs.ReadTypes.{ListOf, listed}
use Rattle.c_grammar.specs.ReadStatements.{initialiser, initialiser_by}
use Rattle.c_cursor.proofs.Lists.{one_more}
use Rattle.c_declarations.specs.Values.{initial_value}

pub initialiser_none : (kinds : List TokenKind) (n : ℕ) (p : Place) → n ≡ 0 → initialiser kinds n p ≡ Refuses
unfolding initialiser
initialiser_none kinds n p e = ap (λ m. initialiser kinds m p) e

pub initialiser_deeper : (kinds : List TokenKind) (n : ℕ) (p : Place) → 0 < n
    → initialiser kinds n p ≡ initialiser_by kinds (read kinds n) (listed kinds (initialiser kinds (n - 1)) (n - 1)) p (mark_at kinds p)
unfolding initialiser
initialiser_deeper kinds n p h =
    ap (λ m. initialiser kinds m p) (one_more n h)
    ∙ ap (λ m. initialiser_by kinds (read kinds m) (listed kinds (initialiser kinds (n - 1)) (n - 1)) p (mark_at kinds p)) (sym (one_more n h))

pub initialiser_other : (kinds : List TokenKind) (n : ℕ) (parts : ListOf Initialiser) (p : Place) (m : spec.Mark) → (bare m ≡ mark.CurlyOpens → ⊥)
    → initialiser_by kinds (read kinds n) parts p m ≡ initial_value kinds n p
initialiser_other kinds n parts p spec.CurlyOpens h = absurd (h refl)
initialiser_other kinds n parts p _ h = refl
