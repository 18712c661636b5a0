-- One step of the readers of declarations, statements and texts.
use Rattle.std.proofs.Common.{◌≡◌, ℕ, zero, suc, List, refl}
use Rattle.c_tokens.specs.declared.token.TokenKind.{TokenKind}
use Rattle.c_tree.specs.Places.{Place, next, enter}
use Rattle.c_grammar.specs.Kinds.{kind_at}
use Rattle.c_grammar.specs.Marks.{mark_at}
use Rattle.c_grammar.specs.ReadExpressions.{Refuses, and_then, ReadsExpression}
use Rattle.c_grammar.specs.ReadTypes.{listed}
use Rattle.c_grammar.specs.Readers.{read}
use Rattle.c_grammar.specs.ReadStatements.{initialiser, initialiser_by, ReadsStatement, ReadsDeclaration, test, chain, chain_of, block, block_by, statement, statement_by, declaration}
use Rattle.c_grammar.specs.ReadText.{externals, externals_by}

pub initialiser_none : (kinds : List TokenKind) (p : Place) → initialiser kinds zero p ≡ Refuses
unfolding initialiser
initialiser_none kinds p = refl

pub initialiser_on : (kinds : List TokenKind) (n : ℕ) (p : Place)
    → initialiser kinds (suc n) p ≡ initialiser_by kinds (read kinds (suc n)) (listed kinds (initialiser kinds n) n) p (mark_at kinds p)
unfolding initialiser
initialiser_on kinds n p = refl

pub chain_none : (kinds : List TokenKind) (rd : ReadsExpression) (st : ReadsStatement) (p : Place) → chain kinds rd st zero p ≡ Refuses
unfolding chain
chain_none kinds rd st p = refl

pub chain_on : (kinds : List TokenKind) (rd : ReadsExpression) (st : ReadsStatement) (n : ℕ) (p : Place)
    → chain kinds rd st (suc n) p ≡ and_then (test kinds rd (enter (next p))) (chain_of kinds st (chain kinds rd st n) p)
unfolding chain
chain_on kinds rd st n p = refl

pub block_none : (kinds : List TokenKind) (dn : ReadsDeclaration) (st : ReadsStatement) (p : Place) → block kinds dn st zero p ≡ Refuses
unfolding block
block_none kinds dn st p = refl

pub block_on : (kinds : List TokenKind) (dn : ReadsDeclaration) (st : ReadsStatement) (n : ℕ) (p : Place)
    → block kinds dn st (suc n) p ≡ block_by kinds dn st (block kinds dn st n) p (mark_at kinds p)
unfolding block
block_on kinds dn st n p = refl

pub statement_none : (kinds : List TokenKind) (p : Place) → statement kinds zero p ≡ Refuses
unfolding statement
statement_none kinds p = refl

pub statement_on : (kinds : List TokenKind) (n : ℕ) (p : Place)
    → statement kinds (suc n) p ≡ statement_by kinds (read kinds (suc n)) (declaration kinds n) (statement kinds n) (suc n) p (mark_at kinds p)
unfolding statement
statement_on kinds n p = refl

pub externals_none : (kinds : List TokenKind) (n : ℕ) (p : Place) → externals kinds n zero p ≡ Refuses
unfolding externals
externals_none kinds n p = refl

pub externals_on : (kinds : List TokenKind) (n count : ℕ) (p : Place)
    → externals kinds n (suc count) p ≡ externals_by kinds n (externals kinds n count) p (kind_at kinds p)
unfolding externals
externals_on kinds n count p = refl
