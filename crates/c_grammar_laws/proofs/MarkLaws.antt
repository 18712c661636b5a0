-- What a token is for a declaration, a type or a statement says which token it is.
use Rattle.std.proofs.Common.{◌≡◌, Option, Some, None, true, false, refl, ap, ◌∙◌, sym, inl, inr}
use Rattle.std.specs.Prelude.{◌⊎◌}
use Rattle.c_tokens.specs.declared.token.TokenKind.{TokenKind}
use Rattle.c_tokens.specs.declared.token.TokenKind.TheVariants as token
use Rattle.c_tree.specs.declared.expression.StorageWord.{StorageWord}
use Rattle.c_tree.specs.declared.expression.StorageWord.TheVariants as storage
use Rattle.c_tree.specs.declared.expression.FunctionWord.{FunctionWord}
use Rattle.c_tree.specs.declared.expression.FunctionWord.TheVariants as function
use Rattle.c_tree.specs.declared.expression.Qualifier.{Qualifier}
use Rattle.c_tree.specs.declared.expression.Qualifier.TheVariants as qualifier
use Rattle.c_tree.specs.declared.expression.BaseWord.{BaseWord}
use Rattle.c_tree.specs.declared.expression.BaseWord.TheVariants as base
use Rattle.c_tree.specs.Signs.{storage_sign, function_sign, qualifier_sign, base_sign, Bracket, Round, Square, Curly, opening, closing, is_bracket}
use Rattle.c_grammar.specs.Kinds.{Start, Word, TypedefName, NoStart, start, start_of}
use Rattle.c_grammar.specs.Marks as sign
use Rattle.c_grammar.specs.Marks.{Bracketing, Opens, Closes, NoBracket, NoToken, bracketing, bracketing_of, same_bracket, Mark, NoMark, mark, mark_of}

-- ---- marks

abbrev pub mark_sign : Mark → Option TokenKind
mark_sign sign.RoundOpens = Some token.LeftParenthesis
mark_sign sign.RoundCloses = Some token.RightParenthesis
mark_sign sign.SquareOpens = Some token.LeftBracket
mark_sign sign.SquareCloses = Some token.RightBracket
mark_sign sign.CurlyOpens = Some token.LeftBrace
mark_sign sign.CurlyCloses = Some token.RightBrace
mark_sign sign.Semicolon = Some token.Semicolon
mark_sign sign.Comma = Some token.Comma
mark_sign sign.Colon = Some token.Colon
mark_sign sign.Equals = Some token.Equal
mark_sign sign.Star = Some token.Star
mark_sign sign.Ellipsis = Some token.Ellipsis
mark_sign (sign.Name text) = Some (token.Name text)
mark_sign sign.Attribute = Some token.Attribute
mark_sign sign.Extension = Some token.Extension
mark_sign (sign.Stores word) = Some (storage_sign word)
mark_sign (sign.Functions word) = Some (function_sign word)
mark_sign (sign.Qualifies word) = Some (qualifier_sign word)
mark_sign (sign.Bases word) = Some (base_sign word)
mark_sign (sign.TypeWords kind) = Some (token.TypeWord kind)
mark_sign sign.Structs = Some token.Struct
mark_sign sign.Enums = Some token.Enum
mark_sign sign.Case = Some token.Case
mark_sign sign.Default = Some token.Default
mark_sign sign.If = Some token.If
mark_sign sign.Else = Some token.Else
mark_sign sign.Switch = Some token.Switch
mark_sign sign.While = Some token.While
mark_sign sign.Do = Some token.Do
mark_sign sign.For = Some token.For
mark_sign sign.Break = Some token.Break
mark_sign sign.Continue = Some token.Continue
mark_sign sign.Return = Some token.Return
mark_sign sign.NoMark = None

mark_of-sign : (kind : TokenKind) → (mark_of kind ≡ NoMark) ⊎ (Some kind ≡ mark_sign (mark_of kind))
mark_of-sign token.LeftParenthesis = inr refl
mark_of-sign token.RightParenthesis = inr refl
mark_of-sign token.LeftBracket = inr refl
mark_of-sign token.RightBracket = inr refl
mark_of-sign token.LeftBrace = inr refl
mark_of-sign token.RightBrace = inr refl
mark_of-sign token.Semicolon = inr refl
mark_of-sign token.Comma = inr refl
mark_of-sign token.Colon = inr refl
mark_of-sign token.Equal = inr refl
mark_of-sign token.Star = inr refl
mark_of-sign token.Ellipsis = inr refl
mark_of-sign (token.Name text) = inr refl
mark_of-sign token.Attribute = inr refl
mark_of-sign token.Extension = inr refl
mark_of-sign token.Typedef = inr refl
mark_of-sign token.Extern = inr refl
mark_of-sign token.Static = inr refl
mark_of-sign token.Auto = inr refl
mark_of-sign token.Register = inr refl
mark_of-sign token.Inline = inr refl
mark_of-sign token.Noreturn = inr refl
mark_of-sign token.Const = inr refl
mark_of-sign token.Volatile = inr refl
mark_of-sign token.Restrict = inr refl
mark_of-sign token.Void = inr refl
mark_of-sign token.Char = inr refl
mark_of-sign token.Short = inr refl
mark_of-sign token.Int = inr refl
mark_of-sign token.Long = inr refl
mark_of-sign token.Signed = inr refl
mark_of-sign token.Unsigned = inr refl
mark_of-sign token.Bool = inr refl
mark_of-sign (token.TypeWord kind) = inr refl
mark_of-sign token.Struct = inr refl
mark_of-sign token.Enum = inr refl
mark_of-sign token.Case = inr refl
mark_of-sign token.Default = inr refl
mark_of-sign token.If = inr refl
mark_of-sign token.Else = inr refl
mark_of-sign token.Switch = inr refl
mark_of-sign token.While = inr refl
mark_of-sign token.Do = inr refl
mark_of-sign token.For = inr refl
mark_of-sign token.Break = inr refl
mark_of-sign token.Continue = inr refl
mark_of-sign token.Return = inr refl
mark_of-sign _ = inl refl

abbrev MarkSign : Option TokenKind → Type 0
MarkSign kind = (mark kind ≡ NoMark) ⊎ (kind ≡ mark_sign (mark kind))

mark-sign_by : (kind : Option TokenKind) → MarkSign kind
mark-sign_by None = inl refl
mark-sign_by (Some kind) = mark_of-sign kind

mark_means_by : (kind : Option TokenKind) (m : Mark) → mark kind ≡ m → (m ≡ NoMark → ⊥) → MarkSign kind → kind ≡ mark_sign m
mark_means_by kind m e some (inl none) = absurd (some (sym e ∙ none))
mark_means_by kind m e some (inr is) = is ∙ ap mark_sign e

pub mark_means : (kind : Option TokenKind) (m : Mark) → mark kind ≡ m → (m ≡ NoMark → ⊥) → kind ≡ mark_sign m
mark_means kind m e some = mark_means_by kind m e some (mark-sign_by kind)

pub mark-storage_sign : (word : StorageWord) → mark_of (storage_sign word) ≡ sign.Stores word
mark-storage_sign storage.Typedef = refl
mark-storage_sign storage.Extern = refl
mark-storage_sign storage.Static = refl
mark-storage_sign storage.Auto = refl
mark-storage_sign storage.Register = refl

pub mark-function_sign : (word : FunctionWord) → mark_of (function_sign word) ≡ sign.Functions word
mark-function_sign function.Inline = refl
mark-function_sign function.Noreturn = refl

pub mark-qualifier_sign : (word : Qualifier) → mark_of (qualifier_sign word) ≡ sign.Qualifies word
mark-qualifier_sign qualifier.Const = refl
mark-qualifier_sign qualifier.Volatile = refl
mark-qualifier_sign qualifier.Restrict = refl

pub mark-base_sign : (word : BaseWord) → mark_of (base_sign word) ≡ sign.Bases word
mark-base_sign base.Void = refl
mark-base_sign base.Char = refl
mark-base_sign base.Short = refl
mark-base_sign base.Int = refl
mark-base_sign base.Long = refl
mark-base_sign base.Signed = refl
mark-base_sign base.Unsigned = refl
mark-base_sign base.Bool = refl

-- ---- where specifiers may begin

abbrev pub start_marked : Mark → Start
start_marked (sign.Name text) = TypedefName text
start_marked sign.Attribute = Word
start_marked sign.Extension = Word
start_marked (sign.Stores word) = Word
start_marked (sign.Functions word) = Word
start_marked (sign.Qualifies word) = Word
start_marked (sign.Bases word) = Word
start_marked (sign.TypeWords kind) = Word
start_marked sign.Structs = Word
start_marked sign.Enums = Word
start_marked _ = NoStart

start_of-mark : (kind : TokenKind) → start_of kind ≡ start_marked (mark_of kind)
start_of-mark token.Typedef = refl
start_of-mark _ = refl

pub start-mark : (kind : Option TokenKind) → start kind ≡ start_marked (mark kind)
start-mark None = refl
start-mark (Some kind) = start_of-mark kind

-- ---- brackets

pub bracketing-opening : (bracket : Bracket) → bracketing_of (opening bracket) ≡ Opens bracket
bracketing-opening Round = refl
bracketing-opening Square = refl
bracketing-opening Curly = refl

pub bracketing-closing : (bracket : Bracket) → bracketing_of (closing bracket) ≡ Closes bracket
bracketing-closing Round = refl
bracketing-closing Square = refl
bracketing-closing Curly = refl

pub bracketing-none : (kind : TokenKind) → is_bracket kind ≡ false → bracketing_of kind ≡ NoBracket
bracketing-none token.LeftParenthesis h = cc
bracketing-none token.RightParenthesis h = cc
bracketing-none token.LeftBracket h = cc
bracketing-none token.RightBracket h = cc
bracketing-none token.LeftBrace h = cc
bracketing-none token.RightBrace h = cc
bracketing-none _ h = refl

-- what a token is among brackets
abbrev pub Bracketed : Option TokenKind → Bracketing → Type 0
Bracketed kind (Opens bracket) = kind ≡ Some (opening bracket)
Bracketed kind (Closes bracket) = kind ≡ Some (closing bracket)
Bracketed kind NoBracket = (k : TokenKind) × (kind ≡ Some k) × (is_bracket k ≡ false)
Bracketed kind NoToken = Unit {0}

bracketed_of : (kind : TokenKind) → Bracketed (Some kind) (bracketing_of kind)
bracketed_of token.LeftParenthesis = refl
bracketed_of token.RightParenthesis = refl
bracketed_of token.LeftBracket = refl
bracketed_of token.RightBracket = refl
bracketed_of token.LeftBrace = refl
bracketed_of token.RightBrace = refl
bracketed_of _ = (_, refl, refl)

pub bracketed : (kind : Option TokenKind) → Bracketed kind (bracketing kind)
bracketed None = tt
bracketed (Some kind) = bracketed_of kind

pub same_bracket-self : (b : Bracket) → same_bracket b b ≡ true
same_bracket-self Round = refl
same_bracket-self Square = refl
same_bracket-self Curly = refl

pub same_bracket_means : (a b : Bracket) → same_bracket a b ≡ true → a ≡ b
same_bracket_means Round Round h = refl
same_bracket_means Square Square h = refl
same_bracket_means Curly Curly h = refl
same_bracket_means _ _ h = cc
