-- Marks that come next.
use Rattle.std.proofs.Common.{◌≡◌, List, refl}
use Rattle.c_tokens.specs.declared.token.TokenKind.{TokenKind}
use Rattle.c_tree.specs.Places.{Place}
use Rattle.c_grammar.specs.Kinds.{kind_at}
use Rattle.c_grammar.specs.Marks as sign
use Rattle.c_grammar.specs.Marks.{Mark, NoMark, mark_at}
use Rattle.c_grammar.specs.ReadExpressions.{Outcome, Gives, where_opens, where_closes, where_square_closes, where_curly_closes, where_semicolon, where_colon}
use Rattle.c_grammar_laws.proofs.MarkLaws.{mark_sign, mark_means}

pub opens_gives : {B : Type 0} (m : Mark) (o : Outcome B) (y : B) (r : Place) → where_opens m o ≡ Gives y r → (m ≡ sign.RoundOpens) × (o ≡ Gives y r)
opens_gives sign.RoundOpens o y r h = (refl, h)
opens_gives _ o y r h = cc

pub closes_gives : {B : Type 0} (m : Mark) (o : Outcome B) (y : B) (r : Place) → where_closes m o ≡ Gives y r → (m ≡ sign.RoundCloses) × (o ≡ Gives y r)
closes_gives sign.RoundCloses o y r h = (refl, h)
closes_gives _ o y r h = cc

pub square_closes_gives : {B : Type 0} (m : Mark) (o : Outcome B) (y : B) (r : Place) → where_square_closes m o ≡ Gives y r → (m ≡ sign.SquareCloses) × (o ≡ Gives y r)
square_closes_gives sign.SquareCloses o y r h = (refl, h)
square_closes_gives _ o y r h = cc

pub curly_closes_gives : {B : Type 0} (m : Mark) (o : Outcome B) (y : B) (r : Place) → where_curly_closes m o ≡ Gives y r → (m ≡ sign.CurlyCloses) × (o ≡ Gives y r)
curly_closes_gives sign.CurlyCloses o y r h = (refl, h)
curly_closes_gives _ o y r h = cc

pub semicolon_gives : {B : Type 0} (m : Mark) (o : Outcome B) (y : B) (r : Place) → where_semicolon m o ≡ Gives y r → (m ≡ sign.Semicolon) × (o ≡ Gives y r)
semicolon_gives sign.Semicolon o y r h = (refl, h)
semicolon_gives _ o y r h = cc

pub colon_gives : {B : Type 0} (m : Mark) (o : Outcome B) (y : B) (r : Place) → where_colon m o ≡ Gives y r → (m ≡ sign.Colon) × (o ≡ Gives y r)
colon_gives sign.Colon o y r h = (refl, h)
colon_gives _ o y r h = cc

-- the token that a mark says
abbrev pub Says : List TokenKind → Place → Mark → Type 0
Says kinds p m = kind_at kinds p ≡ mark_sign m

pub says : (kinds : List TokenKind) (p : Place) (m : Mark) → mark_at kinds p ≡ m → (m ≡ NoMark → ⊥) → Says kinds p m
says kinds p m e some = mark_means (kind_at kinds p) m e some
