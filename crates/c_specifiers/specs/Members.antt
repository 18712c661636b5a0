-- The members of structs and the constants of enumerations, as the functions that read them divide them.
use Rattle.std.specs.Prelude.{ℕ, false, List}
use Rattle.c_tokens.specs.declared.token.TokenKind.{TokenKind}
use Rattle.c_tree.specs.declared.expression.MemberLine.{MemberLine}
use Rattle.c_tree.specs.declared.expression.Member.{Member}
use Rattle.c_tree.specs.declared.expression.Member.TheVariants as member_node
use Rattle.c_tree.specs.declared.expression.EnumConstant.{EnumConstant}
use Rattle.c_tree.specs.declared.expression.EnumConstant.TheVariants as constant_node
use Rattle.c_tree.specs.Places.{Place, next, declare}
use Rattle.c_grammar.specs.Marks as sign
use Rattle.c_grammar.specs.Marks.{mark_at}
use Rattle.c_grammar.specs.ReadExpressions.{Outcome, Gives, and_then}
use Rattle.c_grammar.specs.ReadTypes as spec
use Rattle.c_grammar.specs.ReadTypes.{Specifies, Titled, Titles, where_semicolon}
use Rattle.c_grammar.specs.Readers.{read, specifiers, declarator}

-- ---- members (6.7.2.1)

abbrev pub member_at : List TokenKind → ℕ → Place → Outcome Member
member_at kinds n p = spec.member kinds (read kinds n) (declarator kinds n) p

-- from the `:` on
abbrev pub unnamed_bit_field : List TokenKind → ℕ → Place → Outcome Member
unnamed_bit_field kinds n p = and_then (read kinds n 2 (next p)) (λ width q. Gives (member_node.UnnamedBitField width p.at) q)

abbrev pub bit_field : List TokenKind → ℕ → Titled → Place → Outcome Member
bit_field kinds n (Titles name parameters inner) p = and_then (read kinds n 2 (next p)) (λ width q. Gives (member_node.BitField inner width p.at) q)

abbrev pub named_member : List TokenKind → ℕ → Place → Outcome Member
named_member kinds n p = and_then (declarator kinds n p) (λ d q. spec.member_after (read kinds n) d q (mark_at kinds q))

abbrev pub members_at : List TokenKind → ℕ → Place → Outcome (List Member)
members_at kinds n p = spec.separated kinds (spec.member kinds (read kinds n) (declarator kinds n)) n p

-- a line of a struct, with the `;` after it
abbrev pub line_members : List TokenKind → ℕ → spec.Specified → Place → Outcome MemberLine
line_members kinds n (Specifies defines list) q =
    and_then (members_at kinds n q) (λ xs r. where_semicolon (mark_at kinds r) (Gives (record { specifiers = list; members = xs }) (next r)))

abbrev pub member_line : List TokenKind → ℕ → Place → Outcome MemberLine
member_line kinds n p = and_then (specifiers kinds n p) (line_members kinds n)

-- ---- enumeration constants (6.7.2.2)

abbrev pub constant_at : List TokenKind → ℕ → Place → Outcome EnumConstant
constant_at kinds n p = spec.constant kinds (read kinds n) p

-- after the name, which stands at this number: from the `=` on
abbrev pub valued_constant : List TokenKind → ℕ → List ℕ → ℕ → Place → Outcome EnumConstant
valued_constant kinds n text at p = and_then (read kinds n 2 (next p)) (λ value q. Gives (constant_node.Valued text value at) (declare q text false))

abbrev pub constant_after : List TokenKind → ℕ → List ℕ → ℕ → Place → sign.Mark → Outcome EnumConstant
constant_after kinds n text at p sign.Equals = valued_constant kinds n text at p
constant_after kinds n text at p _ = Gives (constant_node.Next text at) (declare p text false)
