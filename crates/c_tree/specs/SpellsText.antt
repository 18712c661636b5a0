-- Which tokens spell a whole text. Sections are those of ISO/IEC 9899:2011.
use Rattle.std.specs.Prelude.{◌≡◌, ℕ, Bool, List, [], ◌∷◌, Option, Some, None, length, map}
use Rattle.c_tokens.specs.declared.token.TokenKind.{TokenKind}
use Rattle.c_tokens.specs.declared.token.TokenKind.TheVariants as token
use Rattle.c_tokens.specs.declared.token.Token.{Token}
use Rattle.c_tree.specs.declared.expression.Specifier.{Specifier}
use Rattle.c_tree.specs.declared.expression.Declarator.{Declarator}
use Rattle.c_tree.specs.declared.declaration.Declaration.{Declaration}
use Rattle.c_tree.specs.declared.declaration.External.{External}
use Rattle.c_tree.specs.declared.declaration.External.TheVariants as external_node
use Rattle.c_tree.specs.declared.declaration.Tree.{Tree}
use Rattle.c_tree.specs.declared.statement.BlockItem.{BlockItem}
use Rattle.c_tree.specs.Places.{Entry, Place, At, next, declare, enter_with, leave}
use Rattle.c_tree.specs.Spells.{AreSpecifiers, IsDecorated}
use Rattle.c_tree.specs.SpellsStatements.{IsDeclaration, AreItems}

-- the parameters that a body sees
abbrev pub parameters_of : Option (List Entry) → List Entry
parameters_of (Some parameters) = parameters
parameters_of None = []

-- 6.9
pub data IsExternal (kinds : List TokenKind) : Place → Place → External → Type 0 where
  empty_external : (p : Place) → At kinds p token.Semicolon → IsExternal kinds p (next p) (external_node.Empty p.at)
  declared_external : (p q : Place) (x : Declaration) → IsDeclaration kinds p q x → IsExternal kinds p q (external_node.Declared x)
  -- 6.9.1; the parameters share the scope of the body (6.2.1p4)
  defined_function : (p q r s : Place) (defines : Bool) (specifiers : List Specifier) (name : List ℕ) (parameters : Option (List Entry)) (inner : Declarator)
      (items : List BlockItem) → AreSpecifiers kinds p q defines specifiers → IsDecorated kinds q r name parameters inner → At kinds r token.LeftBrace
      → AreItems kinds (enter_with (declare (next r) name defines) (parameters_of parameters)) s items → At kinds s token.RightBrace
      → IsExternal kinds p (leave (next s)) (external_node.Defined specifiers inner items r.at)

pub data AreExternals (kinds : List TokenKind) : Place → Place → List External → Type 0 where
  no_externals : (p : Place) → AreExternals kinds p p []
  more_externals : (p q r : Place) (x : External) (further : List External) → IsExternal kinds p q x → AreExternals kinds q r further
      → AreExternals kinds p r (x ∷ further)

abbrev pub kinds_of : List Token → List TokenKind
kinds_of tokens = map (λ token. token.kind) tokens

abbrev pub lines_of : List Token → List ℕ
lines_of tokens = map (λ token. token.line) tokens

-- before the first token, where nothing is declared
abbrev pub beginning : Place
beginning = record { at = 0; blocks = [] ∷ [] }

-- the tokens spell the tree of a translation unit (6.9), which has their lines
pub record Spells (tokens : List Token) (tree : Tree) : Type 0 where
  pub end : Place
  pub all : end.at ≡ length tokens
  pub spelled : AreExternals (kinds_of tokens) beginning end tree.externals
  pub lines_are : tree.lines ≡ lines_of tokens
