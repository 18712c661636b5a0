-- Single tokens, and what follows them.
use Rattle.std.proofs.Common.{◌≡◌, List, ℕ, Option, Some, None, refl}
use Rattle.c_tokens.specs.declared.token.TokenKind.{TokenKind}
use Rattle.c_tokens.specs.declared.token.TokenKind.TheVariants as token
use Rattle.c_tree.specs.Places.{Place, next}
use Rattle.c_grammar.specs.Kinds.{kind_at, Prefix, Names, prefix, prefix_of}
use Rattle.c_grammar.specs.Marks as spec
use Rattle.c_grammar.specs.Marks.{Mark, mark_of, mark_at}
use Rattle.c_grammar.specs.ReadExpressions.{Outcome, Gives, Refuses, and_then, where_name}
use Rattle.c_cursor.specs.Reads.{name_read}

name_by : {B : Type 0} (s : Prefix) (r : Place) (f : List ℕ → Outcome B) → where_name s f ≡ and_then (where_name s (λ text. Gives text r)) (λ text q. f text)
name_by (Names text) r f = refl
name_by _ r f = refl

pub name_then : {B : Type 0} (kinds : List TokenKind) (p : Place) (f : List ℕ → Outcome B) → where_name (prefix (kind_at kinds p)) f ≡ and_then (name_read kinds p) (λ text q. f text)
unfolding name_read
name_then kinds p f = name_by (prefix (kind_at kinds p)) (next p) f

-- ---- what follows goes on alike

pub name_both : {B C : Type 0} (s : Prefix) (f : List ℕ → Outcome C) (h : List ℕ → Outcome B) (g : B → Place → Outcome C) → ((text : List ℕ) → f text ≡ and_then (h text) g)
    → where_name s f ≡ and_then (where_name s h) g
name_both (Names text) f h g e = e text
name_both _ f h g e = refl

-- ---- the two ways in which a name is read are one

abbrev pub name_of : Place → Mark → Outcome (List ℕ)
name_of p (spec.Name text) = Gives text (next p)
name_of p _ = Refuses

kind_named : (kind : TokenKind) (p : Place) → where_name (prefix_of kind) (λ text. Gives text (next p)) ≡ name_of p (mark_of kind)
kind_named (token.Name text) p = refl
kind_named _ p = refl

token_named : (kind : Option TokenKind) (p : Place) → where_name (prefix kind) (λ text. Gives text (next p)) ≡ name_of p (spec.mark kind)
token_named (Some kind) p = kind_named kind p
token_named None p = refl

pub name_marked : (kinds : List TokenKind) (p : Place) → name_read kinds p ≡ name_of p (mark_at kinds p)
unfolding name_read
name_marked kinds p = token_named (kind_at kinds p) p
