-- Blocks, which are read one item after another.
use Rattle.std.proofs.Common.{◌≡◌, List, [], ◌∷◌, ◌++◌, ℕ, zero, suc, false, ◌+◌, ◌-◌, ◌<◌, refl, ap, ◌∙◌, sym, arith}
use Rattle.c_tokens.specs.declared.token.TokenKind.{TokenKind}
use Rattle.c_tree.specs.declared.statement.BlockItem.{BlockItem}
use Rattle.c_tree.specs.Places.{Place}
use Rattle.c_grammar.specs.Kinds.{begins_type}
use Rattle.c_grammar.specs.Marks as spec
use Rattle.c_grammar.specs.Marks.{mark_at}
use Rattle.c_cursor.specs.declared.marks.Mark.TheVariants as mark
use Rattle.c_cursor.specs.Bare.{bare, bare_at}
use Rattle.c_grammar.specs.ReadExpressions.{Outcome, Gives, Refuses, and_then}
use Rattle.c_grammar.specs.ReadTypes.{ListOf}
use Rattle.c_grammar.specs.ReadStatements.{ReadsDeclaration, ReadsStatement, block, block_by, item, declares_by}
use Rattle.c_cursor.proofs.Lists.{after, after_none, joined, append_none, one_further}

-- ---- whether an item is a declaration

pub declares_unnamed : (kinds : List TokenKind) (p : Place) (m second : spec.Mark) → (bare m ≡ mark.Name → ⊥) → declares_by kinds p m second ≡ begins_type kinds p
declares_unnamed kinds p (spec.Name text) second h = absurd (h refl)
declares_unnamed kinds p _ second h = refl

pub declares_unlabelled : (kinds : List TokenKind) (p : Place) (m second : spec.Mark) → (bare second ≡ mark.Colon → ⊥) → declares_by kinds p m second ≡ begins_type kinds p
declares_unlabelled kinds p (spec.Name text) spec.Colon h = absurd (h refl)
declares_unlabelled kinds p (spec.Name text) _ h = refl
declares_unlabelled kinds p _ second h = refl

pub declares_labelled : (kinds : List TokenKind) (p : Place) (m second : spec.Mark) → bare m ≡ mark.Name → bare second ≡ mark.Colon → declares_by kinds p m second ≡ false
declares_labelled kinds p (spec.Name text) spec.Colon h g = refl
declares_labelled kinds p (spec.Name text) _ h g = cc
declares_labelled kinds p _ second h g = cc

-- ---- items

block_on : (kinds : List TokenKind) (dn : ReadsDeclaration) (st : ReadsStatement) (n : ℕ) (p : Place)
    → block kinds dn st (suc n) p ≡ block_by kinds dn st (block kinds dn st n) p (mark_at kinds p)
unfolding block
block_on kinds dn st n p = refl

block_zero : (kinds : List TokenKind) (dn : ReadsDeclaration) (st : ReadsStatement) (p : Place) → block kinds dn st zero p ≡ Refuses
unfolding block
block_zero kinds dn st p = refl

block_end : (kinds : List TokenKind) (dn : ReadsDeclaration) (st : ReadsStatement) (more : ListOf BlockItem) (p : Place) (m : spec.Mark) → bare m ≡ mark.CurlyCloses
    → block_by kinds dn st more p m ≡ Gives [] p
block_end kinds dn st more p spec.CurlyCloses h = refl
block_end kinds dn st more p _ h = cc

block_item : (kinds : List TokenKind) (dn : ReadsDeclaration) (st : ReadsStatement) (more : ListOf BlockItem) (p : Place) (m : spec.Mark) → (bare m ≡ mark.CurlyCloses → ⊥)
    → block_by kinds dn st more p m ≡ and_then (item kinds dn st p) (λ x q. and_then (more q) (λ xs r. Gives (x ∷ xs) r))
block_item kinds dn st more p spec.CurlyCloses h = absurd (h refl)
block_item kinds dn st more p _ h = refl

block_one : (kinds : List TokenKind) (dn : ReadsDeclaration) (st : ReadsStatement) (n i : ℕ) (p : Place) → i < n
    → block kinds dn st (n - i) p ≡ block_by kinds dn st (block kinds dn st (n - (i + 1))) p (mark_at kinds p)
block_one kinds dn st n i p h = ap (λ m. block kinds dn st m p) (one_further n i h) ∙ block_on kinds dn st (n - (i + 1)) p

pub block_ends : (kinds : List TokenKind) (dn : ReadsDeclaration) (st : ReadsStatement) (n i : ℕ) (p : Place) (whole : Outcome (List BlockItem)) (xs : List BlockItem)
    → whole ≡ after xs (block kinds dn st (n - i) p) → n ≡ i → whole ≡ Refuses
block_ends kinds dn st n i p whole xs e h =
    let z : n - i ≡ zero = omega arith in
    e ∙ ap (λ m. after xs (block kinds dn st m p)) z ∙ ap (after xs) (block_zero kinds dn st p)

pub block_closes : (kinds : List TokenKind) (dn : ReadsDeclaration) (st : ReadsStatement) (n i : ℕ) (p : Place) (whole : Outcome (List BlockItem)) (xs : List BlockItem)
    → whole ≡ after xs (block kinds dn st (n - i) p) → i < n → bare_at kinds p ≡ mark.CurlyCloses → whole ≡ Gives xs p
block_closes kinds dn st n i p whole xs e h g =
    e ∙ ap (after xs) (block_one kinds dn st n i p h ∙ block_end kinds dn st (block kinds dn st (n - (i + 1))) p (mark_at kinds p) g) ∙ ap (λ ys. Gives ys p) (append_none xs)

block_then : (kinds : List TokenKind) (dn : ReadsDeclaration) (st : ReadsStatement) (n i : ℕ) (p : Place) (o : Outcome BlockItem) → i < n → (bare_at kinds p ≡ mark.CurlyCloses → ⊥)
    → item kinds dn st p ≡ o → block kinds dn st (n - i) p ≡ and_then o (λ x q. and_then (block kinds dn st (n - (i + 1)) q) (λ xs r. Gives (x ∷ xs) r))
block_then kinds dn st n i p o h g f =
    block_one kinds dn st n i p h ∙ block_item kinds dn st (block kinds dn st (n - (i + 1))) p (mark_at kinds p) g
    ∙ ap (λ o. and_then o (λ x q. and_then (block kinds dn st (n - (i + 1)) q) (λ xs r. Gives (x ∷ xs) r))) f

pub block_fails : (kinds : List TokenKind) (dn : ReadsDeclaration) (st : ReadsStatement) (n i : ℕ) (p : Place) (whole : Outcome (List BlockItem)) (xs : List BlockItem)
    → whole ≡ after xs (block kinds dn st (n - i) p) → i < n → (bare_at kinds p ≡ mark.CurlyCloses → ⊥) → item kinds dn st p ≡ Refuses → whole ≡ Refuses
block_fails kinds dn st n i p whole xs e h g f = e ∙ ap (after xs) (block_then kinds dn st n i p Refuses h g f)

pub block_goes_on : (kinds : List TokenKind) (dn : ReadsDeclaration) (st : ReadsStatement) (n i : ℕ) (p q : Place) (whole : Outcome (List BlockItem)) (xs ys : List BlockItem)
    (x : BlockItem) → whole ≡ after xs (block kinds dn st (n - i) p) → i < n → (bare_at kinds p ≡ mark.CurlyCloses → ⊥) → item kinds dn st p ≡ Gives x q
    → ys ≡ xs ++ x ∷ [] → whole ≡ after ys (block kinds dn st (n - (i + 1)) q)
block_goes_on kinds dn st n i p q whole xs ys x e h g f d =
    e ∙ ap (after xs) (block_then kinds dn st n i p (Gives x q) h g f) ∙ joined xs x (block kinds dn st (n - (i + 1)) q)
    ∙ ap (λ zs. after zs (block kinds dn st (n - (i + 1)) q)) (sym d)

pub block_begins : (kinds : List TokenKind) (dn : ReadsDeclaration) (st : ReadsStatement) (n m : ℕ) (p : Place) (xs : List BlockItem) → m ≡ n → xs ≡ []
    → block kinds dn st n p ≡ after xs (block kinds dn st m p)
block_begins kinds dn st n m p xs h d =
    after_none (block kinds dn st n p) ∙ ap (λ k. after [] (block kinds dn st k p)) (sym h) ∙ ap (λ zs. after zs (block kinds dn st m p)) (sym d)
