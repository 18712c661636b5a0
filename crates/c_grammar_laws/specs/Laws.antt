-- Laws of the grammar: tokens spell one tree at most, part by part, where what comes next can't go on with the part.
use Rattle.std.specs.Prelude.{◌≡◌, ℕ, ◌<◌, ◌≤◌, Bool, true, false, List, length, Option, ◌↔◌, ◌⊎◌}
use Rattle.std.specs.List.{All}
use Rattle.std.specs.List.Sorted.{IsStrictlyIncreasing}
use Rattle.c_tokens.specs.declared.token.TokenKind.{TokenKind}
use Rattle.c_tokens.specs.declared.token.TokenKind.TheVariants as token
use Rattle.c_tokens.specs.declared.token.Token.{Token}
use Rattle.c_tree.specs.declared.expression.Expression.{Expression}
use Rattle.c_tree.specs.declared.expression.Declarator.{Declarator}
use Rattle.c_tree.specs.declared.expression.Specifier.{Specifier}
use Rattle.c_tree.specs.declared.expression.TypeName.{TypeName}
use Rattle.c_tree.specs.declared.declaration.Initialiser.{Initialiser}
use Rattle.c_tree.specs.declared.declaration.Declaration.{Declaration}
use Rattle.c_tree.specs.declared.declaration.External.{External}
use Rattle.c_tree.specs.declared.declaration.Tree.{Tree}
use Rattle.c_tree.specs.declared.statement.Statement.{Statement}
use Rattle.c_tree.specs.declared.scope.Entry.{Entry}
use Rattle.c_tree.specs.OwnTokens.{expression_tokens, declaration_tokens, statement_tokens, external_tokens, own_tokens}
use Rattle.c_tree.specs.Places.{Place, At}
use Rattle.c_tree.specs.Spells.{IsExpression, IsTypeName, AreSpecifiers, IsDecorated}
use Rattle.c_tree.specs.SpellsStatements.{IsInitialiser, IsDeclaration, IsStatement}
use Rattle.c_tree.specs.SpellsText.{IsExternal, Spells, kinds_of, lines_of}
use Rattle.c_grammar.specs.Kinds.{kind_at, suffix, below}
use Rattle.c_grammar.specs.Marks.{mark_at, extends_declarator, follows_specifiers}
use Rattle.c_grammar.specs.ReadExpressions.{Gives, Refuses}
use Rattle.c_grammar.specs.ReadText.{text}

-- the next token goes on with no expression of this level
abbrev pub EndsExpression : List TokenKind → ℕ → Place → Type 0
EndsExpression kinds k q = below (suffix (kind_at kinds q)) ≤ k

abbrev pub OneExpression : Type 0
OneExpression = (kinds : List TokenKind) (k : ℕ) (p q r : Place) (x y : Expression) → k ≤ 14 → IsExpression kinds k p q x → IsExpression kinds k p r y
    → EndsExpression kinds k q → EndsExpression kinds k r → (x ≡ y) × (q ≡ r)

-- before a `)`
abbrev pub OneTypeName : Type 0
OneTypeName = (kinds : List TokenKind) (p q r : Place) (x y : TypeName) → IsTypeName kinds p q x → IsTypeName kinds p r y
    → At kinds q token.RightParenthesis → At kinds r token.RightParenthesis → (x ≡ y) × (q ≡ r)

-- before a token that may follow specifiers
abbrev pub OneListOfSpecifiers : Type 0
OneListOfSpecifiers = (kinds : List TokenKind) (p q r : Place) (defines defines_too : Bool) (x y : List Specifier) → AreSpecifiers kinds p q defines x → AreSpecifiers kinds p r defines_too y
    → follows_specifiers (mark_at kinds q) ≡ true → follows_specifiers (mark_at kinds r) ≡ true → (x ≡ y) × (q ≡ r) × (defines ≡ defines_too)

-- the next token goes on with no declarator
abbrev pub EndsDeclarator : List TokenKind → Place → Type 0
EndsDeclarator kinds q = extends_declarator (mark_at kinds q) ≡ false

abbrev pub OneDeclarator : Type 0
OneDeclarator = (kinds : List TokenKind) (p q r : Place) (name other : List ℕ) (parameters others : Option (List Entry)) (x y : Declarator)
    → IsDecorated kinds p q name parameters x → IsDecorated kinds p r other others y → EndsDeclarator kinds q → EndsDeclarator kinds r
    → (x ≡ y) × (q ≡ r) × (name ≡ other) × (parameters ≡ others)

-- before a `,`, a `;` or a `}`
abbrev pub EndsInitialiser : List TokenKind → Place → Type 0
EndsInitialiser kinds q = At kinds q token.Comma ⊎ (At kinds q token.Semicolon ⊎ At kinds q token.RightBrace)

abbrev pub OneInitialiser : Type 0
OneInitialiser = (kinds : List TokenKind) (p q r : Place) (x y : Initialiser) → IsInitialiser kinds p q x → IsInitialiser kinds p r y
    → EndsInitialiser kinds q → EndsInitialiser kinds r → (x ≡ y) × (q ≡ r)

abbrev pub OneDeclaration : Type 0
OneDeclaration = (kinds : List TokenKind) (p q r : Place) (x y : Declaration) → IsDeclaration kinds p q x → IsDeclaration kinds p r y → (x ≡ y) × (q ≡ r)

-- where no `else` follows that would belong to it
abbrev pub OneStatement : Type 0
OneStatement = (kinds : List TokenKind) (ends_open ends_so : Bool) (p q r : Place) (x y : Statement) → IsStatement kinds ends_open p q x → IsStatement kinds ends_so p r y
    → (ends_open ≡ true → At kinds q token.Else → ⊥) → (ends_so ≡ true → At kinds r token.Else → ⊥) → (x ≡ y) × (q ≡ r)

abbrev pub OneExternal : Type 0
OneExternal = (kinds : List TokenKind) (p q r : Place) (x y : External) → IsExternal kinds p q x → IsExternal kinds p r y → (x ≡ y) × (q ≡ r)

abbrev pub OneTree : Type 0
OneTree = (tokens : List Token) (x y : Tree) → Spells tokens x → Spells tokens y → x ≡ y

-- these numbers rise, from one number to before another: no two of them are equal
pub record RiseWithin (from to : ℕ) (numbers : List ℕ) : Type 0 where
  pub increasing : IsStrictlyIncreasing numbers
  pub within : All (λ n. (from ≤ n) × (n < to)) numbers

-- the own tokens of the nodes of a part rise, within the tokens that spell it
abbrev pub ExpressionTokensRise : Type 0
ExpressionTokensRise = (kinds : List TokenKind) (k : ℕ) (p q : Place) (x : Expression) → IsExpression kinds k p q x → RiseWithin p.at q.at (expression_tokens x)

abbrev pub DeclarationTokensRise : Type 0
DeclarationTokensRise = (kinds : List TokenKind) (p q : Place) (x : Declaration) → IsDeclaration kinds p q x → RiseWithin p.at q.at (declaration_tokens x)

abbrev pub StatementTokensRise : Type 0
StatementTokensRise = (kinds : List TokenKind) (ends_open : Bool) (p q : Place) (x : Statement) → IsStatement kinds ends_open p q x → RiseWithin p.at q.at (statement_tokens x)

abbrev pub ExternalTokensRise : Type 0
ExternalTokensRise = (kinds : List TokenKind) (p q : Place) (x : External) → IsExternal kinds p q x → RiseWithin p.at q.at (external_tokens x)

-- those of a whole text
abbrev pub OwnTokensRise : Type 0
OwnTokensRise = (tokens : List Token) (tree : Tree) → Spells tokens tree → RiseWithin 0 (length tokens) (own_tokens tree)

-- the reader of texts reads this tree, which has the tokens' lines
abbrev pub IsRead : List Token → Tree → Type 0
IsRead tokens tree = ((q : Place) × (text (kinds_of tokens) ≡ Gives tree.externals q)) × (tree.lines ≡ lines_of tokens)

-- what is spelled is what is read
abbrev pub ReadsWhatIsSpelled : Type 0
ReadsWhatIsSpelled = (tokens : List Token) (tree : Tree) → Spells tokens tree ↔ IsRead tokens tree

-- the reader refuses where no tree is spelled, and only there
abbrev pub RefusesTheRest : Type 0
RefusesTheRest = (tokens : List Token) → (text (kinds_of tokens) ≡ Refuses) ↔ ((tree : Tree) → Spells tokens tree → ⊥)
