-- Which tokens spell a statement or a declaration: a case for each case of the grammar.
-- Each relation goes from the place where its tokens begin to the place where they end.
-- Sections are those of ISO/IEC 9899:2011.
use Rattle.std.specs.Prelude.{ℕ, Bool, true, false, List, [], ◌∷◌, Option, Some, None}
use Rattle.c_tokens.specs.declared.token.TokenKind.{TokenKind}
use Rattle.c_tokens.specs.declared.token.TokenKind.TheVariants as token
use Rattle.c_tree.specs.declared.expression.Expression.{Expression}
use Rattle.c_tree.specs.declared.expression.Specifier.{Specifier}
use Rattle.c_tree.specs.declared.expression.Declarator.{Declarator}
use Rattle.c_tree.specs.declared.declaration.Initialiser.{Initialiser}
use Rattle.c_tree.specs.declared.declaration.Initialiser.TheVariants as initialiser_node
use Rattle.c_tree.specs.declared.declaration.Declared.{Declared}
use Rattle.c_tree.specs.declared.declaration.Declared.TheVariants as declared_node
use Rattle.c_tree.specs.declared.declaration.Declaration.{Declaration}
use Rattle.c_tree.specs.declared.statement.Statement.{Statement}
use Rattle.c_tree.specs.declared.statement.Statement.TheVariants as statement_node
use Rattle.c_tree.specs.declared.statement.Branch.{Branch}
use Rattle.c_tree.specs.declared.statement.BlockItem.{BlockItem}
use Rattle.c_tree.specs.declared.statement.BlockItem.TheVariants as item_node
use Rattle.c_tree.specs.declared.statement.ForStart.{ForStart}
use Rattle.c_tree.specs.declared.statement.ForStart.TheVariants as start_node
use Rattle.c_tree.specs.Places.{Entry, Place, At, next, declare, enter, leave}
use Rattle.c_tree.specs.Spells.{IsExpression, AreSpecifiers, IsDecorated}

-- ---- declarations

mutual
  -- 6.7.9: an assignment expression, or parts in braces, which a comma may end
  pub data IsInitialiser (kinds : List TokenKind) : Place → Place → Initialiser → Type 0 where
    value_initialiser : (p q : Place) (x : Expression) → IsExpression kinds 1 p q x → IsInitialiser kinds p q (initialiser_node.Value x p.at)
    braces : (p q : Place) (parts : List Initialiser) → At kinds p token.LeftBrace → AreParts kinds (next p) q parts → At kinds q token.RightBrace
        → IsInitialiser kinds p (next q) (initialiser_node.Braces parts p.at)

  pub data AreParts (kinds : List TokenKind) : Place → Place → List Initialiser → Type 0 where
    one_part : (p q : Place) (x : Initialiser) → IsInitialiser kinds p q x → AreParts kinds p q (x ∷ [])
    last_part : (p q : Place) (x : Initialiser) → IsInitialiser kinds p q x → At kinds q token.Comma → AreParts kinds p (next q) (x ∷ [])
    more_parts : (p q r : Place) (x : Initialiser) (further : List Initialiser) → IsInitialiser kinds p q x → At kinds q token.Comma
        → AreParts kinds (next q) r further → AreParts kinds p r (x ∷ further)

-- 6.7: a name is declared from the end of its declarator on (6.2.1p7), as a typedef name or not
pub data IsDeclared (kinds : List TokenKind) (defines : Bool) : Place → Place → Declared → Type 0 where
  plain_declared : (p q : Place) (name : List ℕ) (parameters : Option (List Entry)) (inner : Declarator) → IsDecorated kinds p q name parameters inner
      → IsDeclared kinds defines p (declare q name defines) (declared_node.Plain inner)
  initialised_declared : (p q r : Place) (name : List ℕ) (parameters : Option (List Entry)) (inner : Declarator) (x : Initialiser) → IsDecorated kinds p q name parameters inner
      → At kinds q token.Equal → IsInitialiser kinds (declare (next q) name defines) r x → IsDeclared kinds defines p r (declared_node.Initialised inner x q.at)

pub data AreDeclared (kinds : List TokenKind) (defines : Bool) : Place → Place → List Declared → Type 0 where
  one_declared : (p q : Place) (x : Declared) → IsDeclared kinds defines p q x → AreDeclared kinds defines p q (x ∷ [])
  more_declared : (p q r : Place) (x : Declared) (further : List Declared) → IsDeclared kinds defines p q x → At kinds q token.Comma
      → AreDeclared kinds defines (next q) r further → AreDeclared kinds defines p r (x ∷ further)

-- 6.7
pub data IsDeclaration (kinds : List TokenKind) : Place → Place → Declaration → Type 0 where
  no_names : (p q : Place) (defines : Bool) (specifiers : List Specifier) → AreSpecifiers kinds p q defines specifiers → At kinds q token.Semicolon
      → IsDeclaration kinds p (next q) (record { specifiers = specifiers; names = []; at = q.at })
  some_names : (p q r : Place) (defines : Bool) (specifiers : List Specifier) (names : List Declared) → AreSpecifiers kinds p q defines specifiers
      → AreDeclared kinds defines q r names → At kinds r token.Semicolon → IsDeclaration kinds p (next r) (record { specifiers = specifiers; names = names; at = r.at })

-- ---- statements

-- an expression before a `;` or `)`, or nothing
pub data IsOptional (kinds : List TokenKind) : Place → Place → Option Expression → Type 0 where
  no_value : (p : Place) → IsOptional kinds p p None
  some_value : (p q : Place) (x : Expression) → IsExpression kinds 0 p q x → IsOptional kinds p q (Some x)

-- the first part of a `for`, with its `;` (6.8.5.3)
pub data IsForStart (kinds : List TokenKind) : Place → Place → ForStart → Type 0 where
  start_nothing : (p : Place) → At kinds p token.Semicolon → IsForStart kinds p (next p) start_node.Nothing
  start_value : (p q : Place) (x : Expression) → IsExpression kinds 0 p q x → At kinds q token.Semicolon → IsForStart kinds p (next q) (start_node.Value x)
  start_declared : (p q : Place) (x : Declaration) → IsDeclaration kinds p q x → IsForStart kinds p q (start_node.Declared x)

-- `( expression )`
pub data IsTest (kinds : List TokenKind) : Place → Place → Expression → Type 0 where
  bracketed_test : (p q : Place) (x : Expression) → At kinds p token.LeftParenthesis → IsExpression kinds 0 (next p) q x → At kinds q token.RightParenthesis
      → IsTest kinds p (next q) x

mutual
  -- a statement; whether it ends in an `if` to which a following `else` would belong (6.8.4.1p3)
  pub data IsStatement (kinds : List TokenKind) : Bool → Place → Place → Statement → Type 0 where
    -- 6.8.2
    block : (p q : Place) (items : List BlockItem) → At kinds p token.LeftBrace → AreItems kinds (enter (next p)) q items → At kinds q token.RightBrace
        → IsStatement kinds false p (leave (next q)) (statement_node.Block items p.at)
    -- 6.8.3
    empty_statement : (p : Place) → At kinds p token.Semicolon → IsStatement kinds false p (next p) (statement_node.Empty p.at)
    value_statement : (p q : Place) (x : Expression) → IsExpression kinds 0 p q x → At kinds q token.Semicolon → IsStatement kinds false p (next q) (statement_node.Value x q.at)
    -- 6.8.1
    label : (p q : Place) (ends_open : Bool) (name : List ℕ) (body : Statement) → At kinds p (token.Name name) → At kinds (next p) token.Colon
        → IsLabelled kinds ends_open (next (next p)) q body → IsStatement kinds ends_open p q (statement_node.Label name body p.at)
    case_label : (p q r : Place) (ends_open : Bool) (value : Expression) (body : Statement) → At kinds p token.Case → IsExpression kinds 2 (next p) q value → At kinds q token.Colon
        → IsLabelled kinds ends_open (next q) r body → IsStatement kinds ends_open p r (statement_node.Case value body p.at)
    default_label : (p q : Place) (ends_open : Bool) (body : Statement) → At kinds p token.Default → At kinds (next p) token.Colon → IsLabelled kinds ends_open (next (next p)) q body
        → IsStatement kinds ends_open p q (statement_node.Default body p.at)
    -- 6.8.4.1
    if_alone : (p q : Place) (ends_open : Bool) (branches : List Branch) → IsChain kinds ends_open p q branches None → IsStatement kinds ends_open p q (statement_node.If branches)
    if_else : (p q : Place) (ends_open : Bool) (branches : List Branch) (otherwise : Statement) → IsChain kinds ends_open p q branches (Some otherwise)
        → IsStatement kinds ends_open p q (statement_node.IfElse branches otherwise)
    -- 6.8.4.2; the statement is a block, and so is its body (6.8.4p3)
    switch_on : (p q r : Place) (ends_open : Bool) (value : Expression) (body : Statement) → At kinds p token.Switch → IsTest kinds (enter (next p)) q value
        → IsStatement kinds ends_open (enter q) r body → IsStatement kinds ends_open p (leave (leave r)) (statement_node.Switch value body p.at)
    -- 6.8.5; the statement is a block, and so is its body (6.8.5p5)
    while_loop : (p q r : Place) (ends_open : Bool) (test : Expression) (body : Statement) → At kinds p token.While → IsTest kinds (enter (next p)) q test
        → IsStatement kinds ends_open (enter q) r body → IsStatement kinds ends_open p (leave (leave r)) (statement_node.While test body p.at)
    do_loop : (p q r : Place) (ends_open : Bool) (body : Statement) (test : Expression) → At kinds p token.Do → IsStatement kinds ends_open (enter (enter (next p))) q body
        → At kinds q token.While → IsTest kinds (leave (next q)) r test → At kinds r token.Semicolon → IsStatement kinds false p (leave (next r)) (statement_node.Do body test p.at)
    for_loop : (p q r s t : Place) (ends_open : Bool) (first : ForStart) (test step : Option Expression) (body : Statement) → At kinds p token.For
        → At kinds (next p) token.LeftParenthesis → IsForStart kinds (enter (next (next p))) q first → IsOptional kinds q r test → At kinds r token.Semicolon
        → IsOptional kinds (next r) s step → At kinds s token.RightParenthesis → IsStatement kinds ends_open (enter (next s)) t body
        → IsStatement kinds ends_open p (leave (leave t)) (statement_node.For first test step body p.at)
    -- 6.8.6
    break_out : (p : Place) → At kinds p token.Break → At kinds (next p) token.Semicolon → IsStatement kinds false p (next (next p)) (statement_node.Break p.at)
    continue_on : (p : Place) → At kinds p token.Continue → At kinds (next p) token.Semicolon → IsStatement kinds false p (next (next p)) (statement_node.Continue p.at)
    return_from : (p q : Place) (value : Option Expression) → At kinds p token.Return → IsOptional kinds (next p) q value → At kinds q token.Semicolon
        → IsStatement kinds false p (next q) (statement_node.Return value p.at)

  -- what stands after a label: before a `}` also nothing
  pub data IsLabelled (kinds : List TokenKind) : Bool → Place → Place → Statement → Type 0 where
    labelled_statement : (ends_open : Bool) (p q : Place) (x : Statement) → IsStatement kinds ends_open p q x → IsLabelled kinds ends_open p q x
    labelled_end : (p : Place) → At kinds p token.RightBrace → IsLabelled kinds false p p (statement_node.Empty p.at)

  -- `if`, `else if` and so on, and what stands after a last `else`, which is no `if` (6.8.4.1). Each statement is a
  -- block, and so is each substatement (6.8.4p3). An `else` belongs to the nearest `if`: what stands before it ends
  -- in no `if` that it could belong to.
  pub data IsChain (kinds : List TokenKind) : Bool → Place → Place → List Branch → Option Statement → Type 0 where
    last_if : (p q r : Place) (ends_open : Bool) (test : Expression) (body : Statement) → At kinds p token.If → IsTest kinds (enter (next p)) q test
        → IsStatement kinds ends_open (enter q) r body
        → IsChain kinds true p (leave (leave r)) (record { test = test; body = body; at = p.at } ∷ []) None
    last_else : (p q r s : Place) (ends_open : Bool) (test : Expression) (body x : Statement) → At kinds p token.If → IsTest kinds (enter (next p)) q test
        → IsStatement kinds false (enter q) r body → At kinds r token.Else → (At kinds (next r) token.If → ⊥)
        → IsStatement kinds ends_open (enter (leave (next r))) s x
        → IsChain kinds ends_open p (leave (leave s)) (record { test = test; body = body; at = p.at } ∷ []) (Some x)
    else_if : (p q r s : Place) (ends_open : Bool) (test : Expression) (body : Statement) (branches : List Branch) (x : Option Statement) → At kinds p token.If
        → IsTest kinds (enter (next p)) q test → IsStatement kinds false (enter q) r body → At kinds r token.Else
        → IsChain kinds ends_open (enter (leave (next r))) s branches x
        → IsChain kinds ends_open p (leave (leave s)) (record { test = test; body = body; at = p.at } ∷ branches) x

  -- 6.8.2
  pub data AreItems (kinds : List TokenKind) : Place → Place → List BlockItem → Type 0 where
    no_items : (p : Place) → AreItems kinds p p []
    declared_item : (p q r : Place) (x : Declaration) (items : List BlockItem) → IsDeclaration kinds p q x → AreItems kinds q r items
        → AreItems kinds p r (item_node.Declared x ∷ items)
    statement_item : (p q r : Place) (ends_open : Bool) (x : Statement) (items : List BlockItem) → IsStatement kinds ends_open p q x → AreItems kinds q r items
        → AreItems kinds p r (item_node.Run x ∷ items)
