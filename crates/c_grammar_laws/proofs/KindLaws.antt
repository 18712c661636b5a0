-- What a token is for an expression says which token it is.
use Rattle.std.proofs.Common.{◌≡◌, ◌+◌, ◌≤◌, Option, Some, None, refl, ap, ◌∙◌, sym, arith, inl, inr}
use Rattle.std.specs.Prelude.{◌⊎◌}
use Rattle.c_tokens.specs.declared.token.TokenKind.{TokenKind}
use Rattle.c_tokens.specs.declared.token.TokenKind.TheVariants as token
use Rattle.c_tree.specs.declared.expression.Step.{Step}
use Rattle.c_tree.specs.declared.expression.Step.TheVariants as step
use Rattle.c_tree.specs.declared.expression.UnaryOperator.{UnaryOperator}
use Rattle.c_tree.specs.declared.expression.UnaryOperator.TheVariants as unary
use Rattle.c_tree.specs.declared.expression.BinaryOperator.{BinaryOperator}
use Rattle.c_tree.specs.declared.expression.BinaryOperator.TheVariants as binary
use Rattle.c_tree.specs.declared.expression.AssignOperator.{AssignOperator}
use Rattle.c_tree.specs.declared.expression.AssignOperator.TheVariants as assign
use Rattle.c_tree.specs.Signs.{step_sign, unary_sign, binary_sign, assign_sign, level}
use Rattle.c_grammar.specs.declared.kinds.Suffix.{Suffix}
use Rattle.c_grammar.specs.declared.kinds.Suffix.TheVariants.{Infix, Assigns, Asks, Commas, Subscripts, Calls, Selects, Points, Steps, NoSuffix}
use Rattle.c_grammar.specs.Kinds.{suffix_of, suffix, needs, below, Prefix, Names, Constants, Texts, Opens, StepsFirst, Operates, Sizes, NoPrefix, prefix_of, prefix}

-- ---- after an operand

abbrev pub suffix_sign : Suffix → Option TokenKind
suffix_sign (Infix operator) = Some (binary_sign operator)
suffix_sign (Assigns operator) = Some (assign_sign operator)
suffix_sign Asks = Some token.Question
suffix_sign Commas = Some token.Comma
suffix_sign Subscripts = Some token.LeftBracket
suffix_sign Calls = Some token.LeftParenthesis
suffix_sign Selects = Some token.Dot
suffix_sign Points = Some token.Arrow
suffix_sign (Steps step) = Some (step_sign step)
suffix_sign NoSuffix = None

suffix_of-sign : (kind : TokenKind) → (suffix_of kind ≡ NoSuffix) ⊎ (Some kind ≡ suffix_sign (suffix_of kind))
suffix_of-sign token.OrOr = inr refl
suffix_of-sign token.AndAnd = inr refl
suffix_of-sign token.Bar = inr refl
suffix_of-sign token.Caret = inr refl
suffix_of-sign token.Ampersand = inr refl
suffix_of-sign token.EqualEqual = inr refl
suffix_of-sign token.NotEqual = inr refl
suffix_of-sign token.Less = inr refl
suffix_of-sign token.Greater = inr refl
suffix_of-sign token.LessEqual = inr refl
suffix_of-sign token.GreaterEqual = inr refl
suffix_of-sign token.ShiftLeft = inr refl
suffix_of-sign token.ShiftRight = inr refl
suffix_of-sign token.Plus = inr refl
suffix_of-sign token.Minus = inr refl
suffix_of-sign token.Star = inr refl
suffix_of-sign token.Slash = inr refl
suffix_of-sign token.Percent = inr refl
suffix_of-sign token.Equal = inr refl
suffix_of-sign token.StarEqual = inr refl
suffix_of-sign token.SlashEqual = inr refl
suffix_of-sign token.PercentEqual = inr refl
suffix_of-sign token.PlusEqual = inr refl
suffix_of-sign token.MinusEqual = inr refl
suffix_of-sign token.ShiftLeftEqual = inr refl
suffix_of-sign token.ShiftRightEqual = inr refl
suffix_of-sign token.AmpersandEqual = inr refl
suffix_of-sign token.CaretEqual = inr refl
suffix_of-sign token.BarEqual = inr refl
suffix_of-sign token.Question = inr refl
suffix_of-sign token.Comma = inr refl
suffix_of-sign token.LeftBracket = inr refl
suffix_of-sign token.LeftParenthesis = inr refl
suffix_of-sign token.Dot = inr refl
suffix_of-sign token.Arrow = inr refl
suffix_of-sign token.Increment = inr refl
suffix_of-sign token.Decrement = inr refl
suffix_of-sign _ = inl refl

abbrev SuffixSign : Option TokenKind → Type 0
SuffixSign kind = (suffix kind ≡ NoSuffix) ⊎ (kind ≡ suffix_sign (suffix kind))

suffix-sign_by : (kind : Option TokenKind) → SuffixSign kind
suffix-sign_by None = inl refl
suffix-sign_by (Some kind) = suffix_of-sign kind

suffix_means_by : (kind : Option TokenKind) (s : Suffix) → suffix kind ≡ s → (s ≡ NoSuffix → ⊥) → SuffixSign kind → kind ≡ suffix_sign s
suffix_means_by kind s e some (inl none) = absurd (some (sym e ∙ none))
suffix_means_by kind s e some (inr is) = is ∙ ap suffix_sign e

pub suffix_means : (kind : Option TokenKind) (s : Suffix) → suffix kind ≡ s → (s ≡ NoSuffix → ⊥) → kind ≡ suffix_sign s
suffix_means kind s e some = suffix_means_by kind s e some (suffix-sign_by kind)

pub suffix-binary_sign : (operator : BinaryOperator) → suffix_of (binary_sign operator) ≡ Infix operator
suffix-binary_sign binary.LogicalOr = refl
suffix-binary_sign binary.LogicalAnd = refl
suffix-binary_sign binary.BitOr = refl
suffix-binary_sign binary.BitXor = refl
suffix-binary_sign binary.BitAnd = refl
suffix-binary_sign binary.Equal = refl
suffix-binary_sign binary.NotEqual = refl
suffix-binary_sign binary.Less = refl
suffix-binary_sign binary.Greater = refl
suffix-binary_sign binary.LessEqual = refl
suffix-binary_sign binary.GreaterEqual = refl
suffix-binary_sign binary.ShiftLeft = refl
suffix-binary_sign binary.ShiftRight = refl
suffix-binary_sign binary.Add = refl
suffix-binary_sign binary.Subtract = refl
suffix-binary_sign binary.Multiply = refl
suffix-binary_sign binary.Divide = refl
suffix-binary_sign binary.Remainder = refl

pub suffix-assign_sign : (operator : AssignOperator) → suffix_of (assign_sign operator) ≡ Assigns operator
suffix-assign_sign assign.Plain = refl
suffix-assign_sign assign.Multiply = refl
suffix-assign_sign assign.Divide = refl
suffix-assign_sign assign.Remainder = refl
suffix-assign_sign assign.Add = refl
suffix-assign_sign assign.Subtract = refl
suffix-assign_sign assign.ShiftLeft = refl
suffix-assign_sign assign.ShiftRight = refl
suffix-assign_sign assign.BitAnd = refl
suffix-assign_sign assign.BitXor = refl
suffix-assign_sign assign.BitOr = refl

pub suffix-step_sign : (step : Step) → suffix_of (step_sign step) ≡ Steps step
suffix-step_sign step.Increment = refl
suffix-step_sign step.Decrement = refl

-- ---- where an operand is due

abbrev pub prefix_sign : Prefix → Option TokenKind
prefix_sign (Names text) = Some (token.Name text)
prefix_sign (Constants kind value) = Some (token.Constant kind value)
prefix_sign Texts = Some token.Text
prefix_sign Opens = Some token.LeftParenthesis
prefix_sign (StepsFirst step) = Some (step_sign step)
prefix_sign (Operates operator) = Some (unary_sign operator)
prefix_sign Sizes = Some token.Sizeof
prefix_sign NoPrefix = None

prefix_of-sign : (kind : TokenKind) → (prefix_of kind ≡ NoPrefix) ⊎ (Some kind ≡ prefix_sign (prefix_of kind))
prefix_of-sign (token.Name text) = inr refl
prefix_of-sign (token.Constant kind value) = inr refl
prefix_of-sign token.Text = inr refl
prefix_of-sign token.LeftParenthesis = inr refl
prefix_of-sign token.Increment = inr refl
prefix_of-sign token.Decrement = inr refl
prefix_of-sign token.Ampersand = inr refl
prefix_of-sign token.Star = inr refl
prefix_of-sign token.Plus = inr refl
prefix_of-sign token.Minus = inr refl
prefix_of-sign token.Tilde = inr refl
prefix_of-sign token.Exclamation = inr refl
prefix_of-sign token.Sizeof = inr refl
prefix_of-sign _ = inl refl

abbrev PrefixSign : Option TokenKind → Type 0
PrefixSign kind = (prefix kind ≡ NoPrefix) ⊎ (kind ≡ prefix_sign (prefix kind))

prefix-sign_by : (kind : Option TokenKind) → PrefixSign kind
prefix-sign_by None = inl refl
prefix-sign_by (Some kind) = prefix_of-sign kind

prefix_means_by : (kind : Option TokenKind) (s : Prefix) → prefix kind ≡ s → (s ≡ NoPrefix → ⊥) → PrefixSign kind → kind ≡ prefix_sign s
prefix_means_by kind s e some (inl none) = absurd (some (sym e ∙ none))
prefix_means_by kind s e some (inr is) = is ∙ ap prefix_sign e

pub prefix_means : (kind : Option TokenKind) (s : Prefix) → prefix kind ≡ s → (s ≡ NoPrefix → ⊥) → kind ≡ prefix_sign s
prefix_means kind s e some = prefix_means_by kind s e some (prefix-sign_by kind)

pub prefix-unary_sign : (operator : UnaryOperator) → prefix_of (unary_sign operator) ≡ Operates operator
prefix-unary_sign unary.Address = refl
prefix-unary_sign unary.Indirection = refl
prefix-unary_sign unary.Plus = refl
prefix-unary_sign unary.Minus = refl
prefix-unary_sign unary.Complement = refl
prefix-unary_sign unary.Not = refl

pub prefix-step_sign : (step : Step) → prefix_of (step_sign step) ≡ StepsFirst step
prefix-step_sign step.Increment = refl
prefix-step_sign step.Decrement = refl

-- ---- levels

pub level_low : (operator : BinaryOperator) → 3 ≤ level operator
level_low binary.LogicalOr = omega arith
level_low binary.LogicalAnd = omega arith
level_low binary.BitOr = omega arith
level_low binary.BitXor = omega arith
level_low binary.BitAnd = omega arith
level_low binary.Equal = omega arith
level_low binary.NotEqual = omega arith
level_low binary.Less = omega arith
level_low binary.Greater = omega arith
level_low binary.LessEqual = omega arith
level_low binary.GreaterEqual = omega arith
level_low binary.ShiftLeft = omega arith
level_low binary.ShiftRight = omega arith
level_low binary.Add = omega arith
level_low binary.Subtract = omega arith
level_low binary.Multiply = omega arith
level_low binary.Divide = omega arith
level_low binary.Remainder = omega arith

pub level_high : (operator : BinaryOperator) → level operator ≤ 12
level_high binary.LogicalOr = omega arith
level_high binary.LogicalAnd = omega arith
level_high binary.BitOr = omega arith
level_high binary.BitXor = omega arith
level_high binary.BitAnd = omega arith
level_high binary.Equal = omega arith
level_high binary.NotEqual = omega arith
level_high binary.Less = omega arith
level_high binary.Greater = omega arith
level_high binary.LessEqual = omega arith
level_high binary.GreaterEqual = omega arith
level_high binary.ShiftLeft = omega arith
level_high binary.ShiftRight = omega arith
level_high binary.Add = omega arith
level_high binary.Subtract = omega arith
level_high binary.Multiply = omega arith
level_high binary.Divide = omega arith
level_high binary.Remainder = omega arith

-- what goes on after an operand makes an expression of no higher level
pub below_needs : (s : Suffix) → below s ≤ needs s + 1
below_needs (Infix operator) = omega arith
below_needs (Assigns operator) = omega arith
below_needs Asks = omega arith
below_needs Commas = omega arith
below_needs Subscripts = omega arith
below_needs Calls = omega arith
below_needs Selects = omega arith
below_needs Points = omega arith
below_needs (Steps step) = omega arith
below_needs NoSuffix = omega arith

-- what may follow an operand of a unary operator ends it
pub ends_unary : (s : Suffix) → (below s ≤ 14) ⊎ (needs s ≤ 14) → below s ≤ 13
ends_unary (Infix operator) h = omega (arith, level_high operator)
ends_unary (Assigns operator) h = omega arith
ends_unary Asks h = omega arith
ends_unary Commas h = omega arith
ends_unary Subscripts (inl h) = omega arith
ends_unary Subscripts (inr h) = omega arith
ends_unary Calls (inl h) = omega arith
ends_unary Calls (inr h) = omega arith
ends_unary Selects (inl h) = omega arith
ends_unary Selects (inr h) = omega arith
ends_unary Points (inl h) = omega arith
ends_unary Points (inr h) = omega arith
ends_unary (Steps step) (inl h) = omega arith
ends_unary (Steps step) (inr h) = omega arith
ends_unary NoSuffix h = omega arith

-- what may follow a conditional expression ends it
pub ends_conditional : (s : Suffix) → needs s ≤ 2 → below s ≤ 1
ends_conditional (Infix operator) h = omega (arith, level_low operator)
ends_conditional (Assigns operator) h = omega arith
ends_conditional Asks h = omega arith
ends_conditional Commas h = omega arith
ends_conditional Subscripts h = omega arith
ends_conditional Calls h = omega arith
ends_conditional Selects h = omega arith
ends_conditional Points h = omega arith
ends_conditional (Steps step) h = omega arith
ends_conditional NoSuffix h = omega arith

-- nothing goes on after an expression with commas
pub ends_whole : (s : Suffix) → needs s ≤ 0 → below s ≤ 0
ends_whole (Infix operator) h = omega (arith, level_low operator)
ends_whole (Assigns operator) h = omega arith
ends_whole Asks h = omega arith
ends_whole Commas h = omega arith
ends_whole Subscripts h = omega arith
ends_whole Calls h = omega arith
ends_whole Selects h = omega arith
ends_whole Points h = omega arith
ends_whole (Steps step) h = omega arith
ends_whole NoSuffix h = omega arith
