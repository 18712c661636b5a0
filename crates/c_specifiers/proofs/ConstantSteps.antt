-- Enumeration constants, part by part.
use Rattle.std.proofs.Common.{◌≡◌, ℕ, false, List, refl, sym, ◌∙◌, ap}
use Rattle.c_tokens.specs.declared.token.TokenKind.{TokenKind}
use Rattle.c_tree.specs.declared.expression.EnumConstant.TheVariants as constant_node
use Rattle.c_tree.specs.Places.{Place, next, declare}
use Rattle.c_cursor.specs.declared.marks.Mark.TheVariants as mark
use Rattle.c_cursor.specs.Bare.{bare}
use Rattle.c_cursor.specs.Reads.{name_read}
use Rattle.c_cursor.proofs.Single.{name_of, name_marked}
use Rattle.c_specifiers.specs.Members.{constant_at, constant_after}
use Rattle.c_grammar.specs.Marks as spec
use Rattle.c_grammar.specs.Marks.{Mark, mark_at}
use Rattle.c_grammar.specs.ReadExpressions.{Gives, and_then}
use Rattle.c_grammar.specs.ReadTypes as types
use Rattle.c_grammar.specs.Readers.{read}

next_by : (kinds : List TokenKind) (n : ℕ) (text : List ℕ) (at : ℕ) (p : Place) (m : Mark) → (bare m ≡ mark.Equals → ⊥)
    → constant_after kinds n text at p m ≡ Gives (constant_node.Next text at) (declare p text false)
next_by kinds n text at p spec.Equals f = absurd (f refl)
next_by kinds n text at p _ f = refl

same_constant : (kinds : List TokenKind) (n : ℕ) (text : List ℕ) (p : Place) (m : Mark) → types.constant_after (read kinds n) text p m ≡ constant_after kinds n text p.at (next p) m
same_constant kinds n text p spec.Equals = refl
same_constant kinds n text p _ = refl

constant_by : (kinds : List TokenKind) (n : ℕ) (p : Place) (m : Mark)
    → types.constant_by kinds (read kinds n) p m ≡ and_then (name_of p m) (λ text q. constant_after kinds n text p.at q (mark_at kinds q))
constant_by kinds n p (spec.Name text) = same_constant kinds n text p (mark_at kinds (next p))
constant_by kinds n p _ = refl

pub constant_next : (kinds : List TokenKind) (n : ℕ) (text : List ℕ) (at : ℕ) (p : Place) → (bare (mark_at kinds p) ≡ mark.Equals → ⊥)
    → constant_after kinds n text at p (mark_at kinds p) ≡ Gives (constant_node.Next text at) (declare p text false)
constant_next kinds n text at p f = next_by kinds n text at p (mark_at kinds p) f

pub constant_read : (kinds : List TokenKind) (n : ℕ) (p : Place)
    → constant_at kinds n p ≡ and_then (name_read kinds p) (λ text q. constant_after kinds n text p.at q (mark_at kinds q))
constant_read kinds n p =
    constant_by kinds n p (mark_at kinds p) ∙ ap (λ o. and_then o (λ text q. constant_after kinds n text p.at q (mark_at kinds q))) (sym (name_marked kinds p))
