-- What a token is for an expression: what it is after an operand, and what it is where an operand is due.
use Rattle.std.specs.Prelude.{ℕ, ℤ, ◌+◌, Bool, true, false, ◌&&◌, nat_le, List, Option, Some, None, slice_get}
use Rattle.kv_num.specs.declared.types.IntType.{IntType}
use Rattle.c_tokens.specs.declared.token.TokenKind.{TokenKind}
use Rattle.c_tokens.specs.declared.token.TokenKind.TheVariants as token
use Rattle.c_tree.specs.declared.expression.Step.{Step}
use Rattle.c_tree.specs.declared.expression.Step.TheVariants as step
use Rattle.c_tree.specs.declared.expression.UnaryOperator.{UnaryOperator}
use Rattle.c_tree.specs.declared.expression.UnaryOperator.TheVariants as unary
use Rattle.c_tree.specs.declared.expression.BinaryOperator.TheVariants as binary
use Rattle.c_tree.specs.declared.expression.AssignOperator.TheVariants as assign
use Rattle.c_tree.specs.Places.{Place, names_type}
use Rattle.c_tree.specs.Signs.{level}
pub use Rattle.c_grammar.specs.declared.kinds.Suffix.{Suffix}
pub use Rattle.c_grammar.specs.declared.kinds.Suffix.TheVariants.{Infix, Assigns, Asks, Commas, Subscripts, Calls, Selects, Points, Steps, NoSuffix}

abbrev pub kind_at : List TokenKind → Place → Option TokenKind
kind_at kinds p = slice_get kinds p.at

-- ---- after an operand

abbrev pub suffix_of : TokenKind → Suffix
suffix_of token.OrOr = Infix binary.LogicalOr
suffix_of token.AndAnd = Infix binary.LogicalAnd
suffix_of token.Bar = Infix binary.BitOr
suffix_of token.Caret = Infix binary.BitXor
suffix_of token.Ampersand = Infix binary.BitAnd
suffix_of token.EqualEqual = Infix binary.Equal
suffix_of token.NotEqual = Infix binary.NotEqual
suffix_of token.Less = Infix binary.Less
suffix_of token.Greater = Infix binary.Greater
suffix_of token.LessEqual = Infix binary.LessEqual
suffix_of token.GreaterEqual = Infix binary.GreaterEqual
suffix_of token.ShiftLeft = Infix binary.ShiftLeft
suffix_of token.ShiftRight = Infix binary.ShiftRight
suffix_of token.Plus = Infix binary.Add
suffix_of token.Minus = Infix binary.Subtract
suffix_of token.Star = Infix binary.Multiply
suffix_of token.Slash = Infix binary.Divide
suffix_of token.Percent = Infix binary.Remainder
suffix_of token.Equal = Assigns assign.Plain
suffix_of token.StarEqual = Assigns assign.Multiply
suffix_of token.SlashEqual = Assigns assign.Divide
suffix_of token.PercentEqual = Assigns assign.Remainder
suffix_of token.PlusEqual = Assigns assign.Add
suffix_of token.MinusEqual = Assigns assign.Subtract
suffix_of token.ShiftLeftEqual = Assigns assign.ShiftLeft
suffix_of token.ShiftRightEqual = Assigns assign.ShiftRight
suffix_of token.AmpersandEqual = Assigns assign.BitAnd
suffix_of token.CaretEqual = Assigns assign.BitXor
suffix_of token.BarEqual = Assigns assign.BitOr
suffix_of token.Question = Asks
suffix_of token.Comma = Commas
suffix_of token.LeftBracket = Subscripts
suffix_of token.LeftParenthesis = Calls
suffix_of token.Dot = Selects
suffix_of token.Arrow = Points
suffix_of token.Increment = Steps step.Increment
suffix_of token.Decrement = Steps step.Decrement
suffix_of _ = NoSuffix

abbrev pub suffix : Option TokenKind → Suffix
suffix (Some kind) = suffix_of kind
suffix None = NoSuffix

-- the level that the operand before it needs
abbrev pub needs : Suffix → ℕ
needs (Infix operator) = level operator
needs (Assigns operator) = 14
needs Asks = 3
needs Commas = 1
needs Subscripts = 15
needs Calls = 15
needs Selects = 15
needs Points = 15
needs (Steps step) = 15
needs NoSuffix = 16

-- it goes on only where an expression of a level below this is read; nowhere, where it is no operator
abbrev pub below : Suffix → ℕ
below (Infix operator) = level operator + 1
below (Assigns operator) = 2
below Asks = 3
below Commas = 1
below Subscripts = 16
below Calls = 16
below Selects = 16
below Points = 16
below (Steps step) = 16
below NoSuffix = 0

-- an operand of the first level goes on with it, where an expression of at least the second level is read
abbrev pub goes_on : ℕ → ℕ → Suffix → Bool
goes_on reached least s = nat_le (least + 1) (below s) && nat_le (needs s) reached

-- ---- where an operand is due

pub data Prefix : Type 0 where
  Names : (text : List ℕ) → Prefix
  Constants : (kind : IntType) (value : ℤ) → Prefix
  Texts : Prefix
  Opens : Prefix
  StepsFirst : (step : Step) → Prefix
  Operates : (operator : UnaryOperator) → Prefix
  Sizes : Prefix
  NoPrefix : Prefix

abbrev pub prefix_of : TokenKind → Prefix
prefix_of (token.Name text) = Names text
prefix_of (token.Constant kind value) = Constants kind value
prefix_of token.Text = Texts
prefix_of token.LeftParenthesis = Opens
prefix_of token.Increment = StepsFirst step.Increment
prefix_of token.Decrement = StepsFirst step.Decrement
prefix_of token.Ampersand = Operates unary.Address
prefix_of token.Star = Operates unary.Indirection
prefix_of token.Plus = Operates unary.Plus
prefix_of token.Minus = Operates unary.Minus
prefix_of token.Tilde = Operates unary.Complement
prefix_of token.Exclamation = Operates unary.Not
prefix_of token.Sizeof = Sizes
prefix_of _ = NoPrefix

abbrev pub prefix : Option TokenKind → Prefix
prefix (Some kind) = prefix_of kind
prefix None = NoPrefix

-- ---- where specifiers may begin

pub data Start : Type 0 where
  Word : Start
  TypedefName : (text : List ℕ) → Start
  NoStart : Start

abbrev pub start_of : TokenKind → Start
start_of token.Typedef = Word
start_of token.Extern = Word
start_of token.Static = Word
start_of token.Auto = Word
start_of token.Register = Word
start_of token.Inline = Word
start_of token.Noreturn = Word
start_of token.Const = Word
start_of token.Volatile = Word
start_of token.Restrict = Word
start_of token.Void = Word
start_of token.Char = Word
start_of token.Short = Word
start_of token.Int = Word
start_of token.Long = Word
start_of token.Signed = Word
start_of token.Unsigned = Word
start_of token.Bool = Word
start_of (token.TypeWord kind) = Word
start_of token.Struct = Word
start_of token.Enum = Word
start_of token.Attribute = Word
start_of token.Extension = Word
start_of (token.Name text) = TypedefName text
start_of _ = NoStart

abbrev pub start : Option TokenKind → Start
start (Some kind) = start_of kind
start None = NoStart

abbrev pub is_start : Place → Start → Bool
is_start p Word = true
is_start p (TypedefName text) = names_type p.blocks text
is_start p NoStart = false

-- specifiers may begin here
abbrev pub begins_type : List TokenKind → Place → Bool
begins_type kinds p = is_start p (start (kind_at kinds p))
