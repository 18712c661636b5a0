-- The tokens that stand for operators and specifier words. Sections are those of ISO/IEC 9899:2011.
use Rattle.std.specs.Prelude.{ℕ, Bool, true, false}
use Rattle.c_tokens.specs.declared.token.TokenKind.{TokenKind}
use Rattle.c_tokens.specs.declared.token.TokenKind.TheVariants as token
use Rattle.c_tree.specs.declared.expression.Step.{Step}
use Rattle.c_tree.specs.declared.expression.Step.TheVariants as step
use Rattle.c_tree.specs.declared.expression.UnaryOperator.{UnaryOperator}
use Rattle.c_tree.specs.declared.expression.UnaryOperator.TheVariants as unary
use Rattle.c_tree.specs.declared.expression.BinaryOperator.{BinaryOperator}
use Rattle.c_tree.specs.declared.expression.BinaryOperator.TheVariants as binary
use Rattle.c_tree.specs.declared.expression.AssignOperator.{AssignOperator}
use Rattle.c_tree.specs.declared.expression.AssignOperator.TheVariants as assign
use Rattle.c_tree.specs.declared.expression.StorageWord.{StorageWord}
use Rattle.c_tree.specs.declared.expression.StorageWord.TheVariants as storage
use Rattle.c_tree.specs.declared.expression.FunctionWord.{FunctionWord}
use Rattle.c_tree.specs.declared.expression.FunctionWord.TheVariants as function
use Rattle.c_tree.specs.declared.expression.Qualifier.{Qualifier}
use Rattle.c_tree.specs.declared.expression.Qualifier.TheVariants as qualifier
use Rattle.c_tree.specs.declared.expression.BaseWord.{BaseWord}
use Rattle.c_tree.specs.declared.expression.BaseWord.TheVariants as base

-- ---- operators

abbrev pub step_sign : Step → TokenKind
step_sign step.Increment = token.Increment
step_sign step.Decrement = token.Decrement

-- 6.5.3
abbrev pub unary_sign : UnaryOperator → TokenKind
unary_sign unary.Address = token.Ampersand
unary_sign unary.Indirection = token.Star
unary_sign unary.Plus = token.Plus
unary_sign unary.Minus = token.Minus
unary_sign unary.Complement = token.Tilde
unary_sign unary.Not = token.Exclamation

abbrev pub binary_sign : BinaryOperator → TokenKind
binary_sign binary.LogicalOr = token.OrOr
binary_sign binary.LogicalAnd = token.AndAnd
binary_sign binary.BitOr = token.Bar
binary_sign binary.BitXor = token.Caret
binary_sign binary.BitAnd = token.Ampersand
binary_sign binary.Equal = token.EqualEqual
binary_sign binary.NotEqual = token.NotEqual
binary_sign binary.Less = token.Less
binary_sign binary.Greater = token.Greater
binary_sign binary.LessEqual = token.LessEqual
binary_sign binary.GreaterEqual = token.GreaterEqual
binary_sign binary.ShiftLeft = token.ShiftLeft
binary_sign binary.ShiftRight = token.ShiftRight
binary_sign binary.Add = token.Plus
binary_sign binary.Subtract = token.Minus
binary_sign binary.Multiply = token.Star
binary_sign binary.Divide = token.Slash
binary_sign binary.Remainder = token.Percent

-- 6.5.16
abbrev pub assign_sign : AssignOperator → TokenKind
assign_sign assign.Plain = token.Equal
assign_sign assign.Multiply = token.StarEqual
assign_sign assign.Divide = token.SlashEqual
assign_sign assign.Remainder = token.PercentEqual
assign_sign assign.Add = token.PlusEqual
assign_sign assign.Subtract = token.MinusEqual
assign_sign assign.ShiftLeft = token.ShiftLeftEqual
assign_sign assign.ShiftRight = token.ShiftRightEqual
assign_sign assign.BitAnd = token.AmpersandEqual
assign_sign assign.BitXor = token.CaretEqual
assign_sign assign.BitOr = token.BarEqual

-- the levels of expressions: 0 is an expression (6.5.17), 1 an assignment expression (6.5.16), 2 a conditional
-- expression (6.5.15), 3 to 12 the binary levels from 6.5.14 back to 6.5.5, 13 a cast expression (6.5.4),
-- 14 a unary expression (6.5.3), 15 a postfix or primary expression (6.5.2, 6.5.1)
abbrev pub level : BinaryOperator → ℕ
level binary.LogicalOr = 3
level binary.LogicalAnd = 4
level binary.BitOr = 5
level binary.BitXor = 6
level binary.BitAnd = 7
level binary.Equal = 8
level binary.NotEqual = 8
level binary.Less = 9
level binary.Greater = 9
level binary.LessEqual = 9
level binary.GreaterEqual = 9
level binary.ShiftLeft = 10
level binary.ShiftRight = 10
level binary.Add = 11
level binary.Subtract = 11
level binary.Multiply = 12
level binary.Divide = 12
level binary.Remainder = 12

-- ---- words

-- 6.7.1
abbrev pub storage_sign : StorageWord → TokenKind
storage_sign storage.Typedef = token.Typedef
storage_sign storage.Extern = token.Extern
storage_sign storage.Static = token.Static
storage_sign storage.Auto = token.Auto
storage_sign storage.Register = token.Register

abbrev pub is_typedef : StorageWord → Bool
is_typedef storage.Typedef = true
is_typedef storage.Extern = false
is_typedef storage.Static = false
is_typedef storage.Auto = false
is_typedef storage.Register = false

-- 6.7.4
abbrev pub function_sign : FunctionWord → TokenKind
function_sign function.Inline = token.Inline
function_sign function.Noreturn = token.Noreturn

-- 6.7.3
abbrev pub qualifier_sign : Qualifier → TokenKind
qualifier_sign qualifier.Const = token.Const
qualifier_sign qualifier.Volatile = token.Volatile
qualifier_sign qualifier.Restrict = token.Restrict

-- 6.7.2
abbrev pub base_sign : BaseWord → TokenKind
base_sign base.Void = token.Void
base_sign base.Char = token.Char
base_sign base.Short = token.Short
base_sign base.Int = token.Int
base_sign base.Long = token.Long
base_sign base.Signed = token.Signed
base_sign base.Unsigned = token.Unsigned
base_sign base.Bool = token.Bool

-- ---- brackets

-- the brackets that balance (6.4.6)
pub data Bracket : Type 0 where
  Round : Bracket
  Square : Bracket
  Curly : Bracket

abbrev pub opening : Bracket → TokenKind
opening Round = token.LeftParenthesis
opening Square = token.LeftBracket
opening Curly = token.LeftBrace

abbrev pub closing : Bracket → TokenKind
closing Round = token.RightParenthesis
closing Square = token.RightBracket
closing Curly = token.RightBrace

abbrev pub is_bracket : TokenKind → Bool
is_bracket token.LeftParenthesis = true
is_bracket token.LeftBracket = true
is_bracket token.LeftBrace = true
is_bracket token.RightParenthesis = true
is_bracket token.RightBracket = true
is_bracket token.RightBrace = true
is_bracket _ = false
