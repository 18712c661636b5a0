-- The words and punctuators of the accepted C. Sections are those of ISO/IEC 9899:2011.
use Rattle.std.specs.Prelude.{ℕ, List, [], ◌∷◌, ◌++◌, Option, Some, None, map, unwrap_or, if◌then◌else◌, codes}
use Rattle.std.specs.Str.{bytes_eq}
use Rattle.c_tokens.specs.declared.token.TokenKind.{TokenKind}
use Rattle.c_tokens.specs.declared.token.TokenKind.TheVariants as kinds

-- what a table has for a text: that of the first row with this text
abbrev pub lookup : {T : Type 0} → List (List ℕ × T) → List ℕ → Option T
lookup [] text = None
lookup (row ∷ rows) text = if bytes_eq row.0 text then Some row.1 else lookup rows text

-- how a token that the accepted C leaves out is written, each word as it is; none where the token isn't left out
abbrev pub left_out_text : TokenKind → Option (List ℕ)
left_out_text kinds.Float = Some (codes "float")
left_out_text kinds.Double = Some (codes "double")
left_out_text kinds.Complex = Some (codes "_Complex")
left_out_text kinds.Imaginary = Some (codes "_Imaginary")
left_out_text kinds.Union = Some (codes "union")
left_out_text kinds.Goto = Some (codes "goto")
left_out_text kinds.Asm = Some (codes "asm")
left_out_text kinds.UnderscoredAsm = Some (codes "__asm__")
left_out_text kinds.UnderscoreAsm = Some (codes "__asm")
left_out_text kinds.Generic = Some (codes "_Generic")
left_out_text kinds.Atomic = Some (codes "_Atomic")
left_out_text kinds.ThreadLocal = Some (codes "_Thread_local")
left_out_text kinds.Alignas = Some (codes "_Alignas")
left_out_text kinds.Alignof = Some (codes "_Alignof")
left_out_text kinds.StaticAssert = Some (codes "_Static_assert")
left_out_text kinds.FloatingConstant = Some (codes "floating constant")
left_out_text _ = None

-- keywords (6.4.1), and two words of gcc
abbrev pub keywords : List (List ℕ × TokenKind)
keywords =
    (codes "auto", kinds.Auto) ∷ (codes "break", kinds.Break) ∷ (codes "case", kinds.Case) ∷
    (codes "char", kinds.Char) ∷ (codes "const", kinds.Const) ∷ (codes "continue", kinds.Continue) ∷
    (codes "default", kinds.Default) ∷ (codes "do", kinds.Do) ∷ (codes "else", kinds.Else) ∷
    (codes "enum", kinds.Enum) ∷ (codes "extern", kinds.Extern) ∷ (codes "for", kinds.For) ∷ (codes "if", kinds.If) ∷
    (codes "inline", kinds.Inline) ∷ (codes "int", kinds.Int) ∷ (codes "long", kinds.Long) ∷
    (codes "register", kinds.Register) ∷ (codes "restrict", kinds.Restrict) ∷ (codes "return", kinds.Return) ∷
    (codes "short", kinds.Short) ∷ (codes "signed", kinds.Signed) ∷ (codes "sizeof", kinds.Sizeof) ∷
    (codes "static", kinds.Static) ∷ (codes "struct", kinds.Struct) ∷ (codes "switch", kinds.Switch) ∷
    (codes "typedef", kinds.Typedef) ∷ (codes "unsigned", kinds.Unsigned) ∷ (codes "void", kinds.Void) ∷
    (codes "volatile", kinds.Volatile) ∷ (codes "while", kinds.While) ∷ (codes "_Bool", kinds.Bool) ∷
    (codes "_Noreturn", kinds.Noreturn) ∷ (codes "__attribute__", kinds.Attribute) ∷
    (codes "__extension__", kinds.Extension) ∷ []

-- the words that are left out
abbrev pub left_out_words : List TokenKind
left_out_words = kinds.Float ∷ kinds.Double ∷ kinds.Complex ∷ kinds.Imaginary ∷ kinds.Union ∷ kinds.Goto ∷ kinds.Asm ∷ kinds.UnderscoredAsm ∷ kinds.UnderscoreAsm ∷ kinds.Generic ∷ kinds.Atomic ∷ kinds.ThreadLocal ∷ kinds.Alignas ∷ kinds.Alignof ∷ kinds.StaticAssert ∷ []

-- the row of a word that is left out
abbrev pub left_out_row : TokenKind → List ℕ × TokenKind
left_out_row kind = (unwrap_or (left_out_text kind) [], kind)

-- the words of the accepted C, and those that it leaves out
unfoldable pub words : List (List ℕ × TokenKind)
words = keywords ++ map left_out_row left_out_words

-- punctuators (6.4.6)
unfoldable pub punctuators : List (List ℕ × TokenKind)
punctuators =
    (codes "[", kinds.LeftBracket) ∷ (codes "]", kinds.RightBracket) ∷ (codes "(", kinds.LeftParenthesis) ∷
    (codes ")", kinds.RightParenthesis) ∷ (codes "{", kinds.LeftBrace) ∷ (codes "}", kinds.RightBrace) ∷
    (codes ".", kinds.Dot) ∷ (codes "->", kinds.Arrow) ∷ (codes "++", kinds.Increment) ∷
    (codes "--", kinds.Decrement) ∷ (codes "&", kinds.Ampersand) ∷ (codes "*", kinds.Star) ∷
    (codes "+", kinds.Plus) ∷ (codes "-", kinds.Minus) ∷ (codes "~", kinds.Tilde) ∷ (codes "!", kinds.Exclamation) ∷
    (codes "/", kinds.Slash) ∷ (codes "%", kinds.Percent) ∷ (codes "<<", kinds.ShiftLeft) ∷
    (codes ">>", kinds.ShiftRight) ∷ (codes "<", kinds.Less) ∷ (codes ">", kinds.Greater) ∷
    (codes "<=", kinds.LessEqual) ∷ (codes ">=", kinds.GreaterEqual) ∷ (codes "==", kinds.EqualEqual) ∷
    (codes "!=", kinds.NotEqual) ∷ (codes "^", kinds.Caret) ∷ (codes "|", kinds.Bar) ∷ (codes "&&", kinds.AndAnd) ∷
    (codes "||", kinds.OrOr) ∷ (codes "?", kinds.Question) ∷ (codes ":", kinds.Colon) ∷
    (codes ";", kinds.Semicolon) ∷ (codes "...", kinds.Ellipsis) ∷ (codes "=", kinds.Equal) ∷
    (codes "*=", kinds.StarEqual) ∷ (codes "/=", kinds.SlashEqual) ∷ (codes "%=", kinds.PercentEqual) ∷
    (codes "+=", kinds.PlusEqual) ∷ (codes "-=", kinds.MinusEqual) ∷ (codes "<<=", kinds.ShiftLeftEqual) ∷
    (codes ">>=", kinds.ShiftRightEqual) ∷ (codes "&=", kinds.AmpersandEqual) ∷ (codes "^=", kinds.CaretEqual) ∷
    (codes "|=", kinds.BarEqual) ∷ (codes ",", kinds.Comma) ∷ []
