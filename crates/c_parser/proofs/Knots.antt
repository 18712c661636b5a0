-- One step of the readers.
use Rattle.std.proofs.Common.{◌≡◌, ℕ, suc, ◌+◌, ◌-◌, ◌<◌, List, ap, ◌∙◌, sym, arith}
use Rattle.c_tokens.specs.declared.token.TokenKind.{TokenKind}
use Rattle.c_tree.specs.Places.{Place}
use Rattle.c_grammar.specs.Kinds.{kind_at, prefix}
use Rattle.c_grammar.specs.Marks.{mark_at}
use Rattle.c_grammar.specs.ReadExpressions.{Refuses}
use Rattle.c_grammar.specs.ReadTypes.{all_specifiers, perhaps_with}
use Rattle.c_grammar.specs.Readers.{read, specifiers, perhaps, struct_with, enum_with}
use Rattle.c_grammar.specs.ReadStatements.{declaration, statement, statement_by}
use Rattle.c_operands.specs.Operands.{operand}
use Rattle.c_cursor.proofs.Lists.{one_more}

pub read_none : (kinds : List TokenKind) (n least : ℕ) (p : Place) → n ≡ 0 → read kinds n least p ≡ Refuses
unfolding read
read_none kinds n least p e = ap (λ m. read kinds m least p) e

pub read_deeper : (kinds : List TokenKind) (n least : ℕ) (p : Place) → 0 < n → read kinds n least p ≡ operand kinds (n - 1) least p (prefix (kind_at kinds p))
unfolding read
read_deeper kinds n least p h = ap (λ m. read kinds m least p) (one_more n h)

pub specifiers_none : (kinds : List TokenKind) (n : ℕ) (p : Place) → n ≡ 0 → specifiers kinds n p ≡ Refuses
unfolding specifiers
specifiers_none kinds n p e = ap (λ m. specifiers kinds m p) e

pub specifiers_deeper : (kinds : List TokenKind) (n : ℕ) (p : Place) → 0 < n
    → specifiers kinds n p
    ≡ all_specifiers kinds (struct_with kinds (read kinds (n - 1)) (specifiers kinds (n - 1)) (perhaps kinds (n - 1)) (n - 1)) (enum_with kinds (read kinds (n - 1)) (n - 1)) (n - 1 + 1) p
unfolding specifiers
specifiers_deeper kinds n p h =
    let one : suc (n - 1) ≡ n - 1 + 1 = omega arith in
    ap (λ m. specifiers kinds m p) (one_more n h)
    ∙ ap (λ m. all_specifiers kinds (struct_with kinds (read kinds (n - 1)) (specifiers kinds (n - 1)) (perhaps kinds (n - 1)) (n - 1)) (enum_with kinds (read kinds (n - 1)) (n - 1)) m p) one

pub perhaps_none : (kinds : List TokenKind) (n : ℕ) (p : Place) → n ≡ 0 → perhaps kinds n p ≡ Refuses
unfolding perhaps
perhaps_none kinds n p e = ap (λ m. perhaps kinds m p) e

pub perhaps_deeper : (kinds : List TokenKind) (n : ℕ) (p : Place) → 0 < n
    → perhaps kinds n p ≡ perhaps_with kinds (read kinds (n - 1)) (specifiers kinds (n - 1)) (perhaps kinds (n - 1)) (n - 1) p (mark_at kinds p)
unfolding perhaps
perhaps_deeper kinds n p h = ap (λ m. perhaps kinds m p) (one_more n h)

pub statement_none : (kinds : List TokenKind) (n : ℕ) (p : Place) → n ≡ 0 → statement kinds n p ≡ Refuses
unfolding statement
statement_none kinds n p e = ap (λ m. statement kinds m p) e

pub statement_deeper : (kinds : List TokenKind) (n : ℕ) (p : Place) → 0 < n
    → statement kinds n p ≡ statement_by kinds (read kinds n) (declaration kinds (n - 1)) (statement kinds (n - 1)) n p (mark_at kinds p)
unfolding statement
statement_deeper kinds n p h =
    ap (λ m. statement kinds m p) (one_more n h)
    ∙ ap (λ m. statement_by kinds (read kinds m) (declaration kinds (n - 1)) (statement kinds (n - 1)) m p (mark_at kinds p)) (sym (one_more n h))
