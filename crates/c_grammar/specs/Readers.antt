-- The readers of expressions, specifiers and declarators, which reach one another.
use Rattle.std.specs.Prelude.{ℕ, zero, suc, List, if◌then◌else◌}
use Rattle.c_tokens.specs.declared.token.TokenKind.{TokenKind}
use Rattle.c_tree.specs.declared.expression.MemberLine.{MemberLine}
use Rattle.c_tree.specs.declared.expression.EnumConstant.{EnumConstant}
use Rattle.c_grammar.specs.Kinds.{kind_at, suffix, goes_on, prefix}
use Rattle.c_grammar.specs.Marks.{mark_at}
use Rattle.c_grammar.specs.ReadExpressions.{Gives, Refuses, ReadsExpression, Continues, Types, items, suffix_taken, prefix_taken}
use Rattle.c_grammar.specs.ReadTypes.{ListOf, ReadsSpecifiers, ReadsDeclarator, ReadsPerhaps, attributes, separated, listed, member, lines, constant, all_specifiers, decorated, perhaps_with, type_name}

-- the lines of a struct, over what reads the parts with this number
abbrev pub struct_with : List TokenKind → ReadsExpression → ReadsSpecifiers → ReadsPerhaps → ℕ → ListOf MemberLine
struct_with kinds rd sp one n = lines kinds sp (separated kinds (member kinds rd (decorated (attributes kinds n) one)) n) n

abbrev pub enum_with : List TokenKind → ReadsExpression → ℕ → ListOf EnumConstant
enum_with kinds rd n = listed kinds (constant kinds rd) n

unfoldable mutual
  -- an expression of this level or above; the number bounds the steps
  pub read : List TokenKind → ℕ → ReadsExpression
  read kinds zero least p = Refuses
  read kinds (suc n) least p = prefix_taken kinds (read kinds n) (type_name kinds (read kinds n) (specifiers kinds n) n) (more kinds n) least p (prefix (kind_at kinds p))

  -- what follows an operand
  pub more : List TokenKind → ℕ → Continues
  more kinds zero reached least x q = if goes_on reached least (suffix (kind_at kinds q)) then Refuses else Gives x q
  more kinds (suc n) reached least x q =
      if goes_on reached least (suffix (kind_at kinds q))
      then suffix_taken kinds (read kinds n) (items kinds (read kinds n) n) (more kinds n) least x q (suffix (kind_at kinds q))
      else Gives x q

  -- specifiers (6.7)
  pub specifiers : List TokenKind → ℕ → ReadsSpecifiers
  specifiers kinds zero p = Refuses
  specifiers kinds (suc n) p = all_specifiers kinds (struct_with kinds (read kinds n) (specifiers kinds n) (perhaps kinds n) n) (enum_with kinds (read kinds n) n) (suc n) p

  -- a declarator, or what stands for one in a parameter (6.7.6)
  pub perhaps : List TokenKind → ℕ → ReadsPerhaps
  perhaps kinds zero p = Refuses
  perhaps kinds (suc n) p = perhaps_with kinds (read kinds n) (specifiers kinds n) (perhaps kinds n) n p (mark_at kinds p)

-- a type name with this number (6.7.7)
abbrev pub types : List TokenKind → ℕ → Types
types kinds n = type_name kinds (read kinds n) (specifiers kinds n) n

-- a declarator with a name, and what has no meaning after it
abbrev pub declarator : List TokenKind → ℕ → ReadsDeclarator
declarator kinds n = decorated (attributes kinds n) (perhaps kinds n)
