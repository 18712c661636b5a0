-- What a token is for a declaration, a type or a statement.
use Rattle.std.specs.Prelude.{ℕ, Bool, true, false, List, Option, Some, None}
use Rattle.kv_num.specs.declared.types.IntType.{IntType}
use Rattle.c_tokens.specs.declared.token.TokenKind.{TokenKind}
use Rattle.c_tokens.specs.declared.token.TokenKind.TheVariants as token
use Rattle.c_tree.specs.declared.expression.StorageWord.{StorageWord}
use Rattle.c_tree.specs.declared.expression.StorageWord.TheVariants as storage
use Rattle.c_tree.specs.declared.expression.FunctionWord.{FunctionWord}
use Rattle.c_tree.specs.declared.expression.FunctionWord.TheVariants as function
use Rattle.c_tree.specs.declared.expression.Qualifier.{Qualifier}
use Rattle.c_tree.specs.declared.expression.Qualifier.TheVariants as qualifier
use Rattle.c_tree.specs.declared.expression.BaseWord.{BaseWord}
use Rattle.c_tree.specs.declared.expression.BaseWord.TheVariants as base
use Rattle.c_tree.specs.Places.{Place}
use Rattle.c_tree.specs.Signs.{Bracket, Round, Square, Curly}
use Rattle.c_grammar.specs.Kinds.{kind_at}

-- ---- brackets

pub data Bracketing : Type 0 where
  Opens : (bracket : Bracket) → Bracketing
  Closes : (bracket : Bracket) → Bracketing
  NoBracket : Bracketing
  NoToken : Bracketing

abbrev pub bracketing_of : TokenKind → Bracketing
bracketing_of token.LeftParenthesis = Opens Round
bracketing_of token.LeftBracket = Opens Square
bracketing_of token.LeftBrace = Opens Curly
bracketing_of token.RightParenthesis = Closes Round
bracketing_of token.RightBracket = Closes Square
bracketing_of token.RightBrace = Closes Curly
bracketing_of _ = NoBracket

abbrev pub bracketing : Option TokenKind → Bracketing
bracketing (Some kind) = bracketing_of kind
bracketing None = NoToken

abbrev pub same_bracket : Bracket → Bracket → Bool
same_bracket Round Round = true
same_bracket Square Square = true
same_bracket Curly Curly = true
same_bracket _ _ = false

-- ---- the other tokens

pub data Mark : Type 0 where
  RoundOpens : Mark
  RoundCloses : Mark
  SquareOpens : Mark
  SquareCloses : Mark
  CurlyOpens : Mark
  CurlyCloses : Mark
  Semicolon : Mark
  Comma : Mark
  Colon : Mark
  Equals : Mark
  Star : Mark
  Ellipsis : Mark
  Name : (text : List ℕ) → Mark
  Attribute : Mark
  Extension : Mark
  Stores : (word : StorageWord) → Mark
  Functions : (word : FunctionWord) → Mark
  Qualifies : (word : Qualifier) → Mark
  Bases : (word : BaseWord) → Mark
  TypeWords : (kind : IntType) → Mark
  Structs : Mark
  Enums : Mark
  Case : Mark
  Default : Mark
  If : Mark
  Else : Mark
  Switch : Mark
  While : Mark
  Do : Mark
  For : Mark
  Break : Mark
  Continue : Mark
  Return : Mark
  NoMark : Mark

abbrev pub mark_of : TokenKind → Mark
mark_of token.LeftParenthesis = RoundOpens
mark_of token.RightParenthesis = RoundCloses
mark_of token.LeftBracket = SquareOpens
mark_of token.RightBracket = SquareCloses
mark_of token.LeftBrace = CurlyOpens
mark_of token.RightBrace = CurlyCloses
mark_of token.Semicolon = Semicolon
mark_of token.Comma = Comma
mark_of token.Colon = Colon
mark_of token.Equal = Equals
mark_of token.Star = Star
mark_of token.Ellipsis = Ellipsis
mark_of (token.Name text) = Name text
mark_of token.Attribute = Attribute
mark_of token.Extension = Extension
mark_of token.Typedef = Stores storage.Typedef
mark_of token.Extern = Stores storage.Extern
mark_of token.Static = Stores storage.Static
mark_of token.Auto = Stores storage.Auto
mark_of token.Register = Stores storage.Register
mark_of token.Inline = Functions function.Inline
mark_of token.Noreturn = Functions function.Noreturn
mark_of token.Const = Qualifies qualifier.Const
mark_of token.Volatile = Qualifies qualifier.Volatile
mark_of token.Restrict = Qualifies qualifier.Restrict
mark_of token.Void = Bases base.Void
mark_of token.Char = Bases base.Char
mark_of token.Short = Bases base.Short
mark_of token.Int = Bases base.Int
mark_of token.Long = Bases base.Long
mark_of token.Signed = Bases base.Signed
mark_of token.Unsigned = Bases base.Unsigned
mark_of token.Bool = Bases base.Bool
mark_of (token.TypeWord kind) = TypeWords kind
mark_of token.Struct = Structs
mark_of token.Enum = Enums
mark_of token.Case = Case
mark_of token.Default = Default
mark_of token.If = If
mark_of token.Else = Else
mark_of token.Switch = Switch
mark_of token.While = While
mark_of token.Do = Do
mark_of token.For = For
mark_of token.Break = Break
mark_of token.Continue = Continue
mark_of token.Return = Return
mark_of _ = NoMark

abbrev pub mark : Option TokenKind → Mark
mark (Some kind) = mark_of kind
mark None = NoMark

abbrev pub mark_at : List TokenKind → Place → Mark
mark_at kinds p = mark (kind_at kinds p)

-- ---- what goes on

-- a declarator, and what has no meaning after it, goes on with it
abbrev pub extends_declarator : Mark → Bool
extends_declarator RoundOpens = true
extends_declarator SquareOpens = true
extends_declarator Attribute = true
extends_declarator Extension = true
extends_declarator _ = false

-- it may follow specifiers
abbrev pub follows_specifiers : Mark → Bool
follows_specifiers (Name text) = true
follows_specifiers RoundOpens = true
follows_specifiers Star = true
follows_specifiers Semicolon = true
follows_specifiers Colon = true
follows_specifiers RoundCloses = true
follows_specifiers Comma = true
follows_specifiers SquareOpens = true
follows_specifiers _ = false
