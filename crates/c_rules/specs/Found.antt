-- What is found in the full expressions and declarations of a text, and so the answers of its expressions and its initialisers.
-- Each expression is looked at with all its parts, but for the name of a function that is called and the strings of `__assert_fail`.
use Rattle.std.specs.Prelude.{ℕ, Bool, false, List, [], ◌∷◌, ◌++◌, Option}
use Rattle.c_tree.specs.declared.expression.Expression.{Expression}
use Rattle.c_tree.specs.declared.expression.Specifier.{Specifier}
use Rattle.c_tree.specs.declared.expression.Declarator.{Declarator}
use Rattle.c_tree.specs.declared.expression.Declarator.TheOpen.{Expression-F}
use Rattle.c_tree.specs.declared.expression.Declarator.TheOpen.{Expression-F as e}
use Rattle.c_tree.specs.declared.declaration.Initialiser.{Initialiser}
use Rattle.c_tree.specs.declared.declaration.Initialiser.TheOpen.{Initialiser-F}
use Rattle.c_tree.specs.declared.declaration.Initialiser.TheOpen.{Initialiser-F as i}
use Rattle.c_tree.specs.declared.declaration.Initialiser.TheFolds.{para-Initialiser}
use Rattle.c_tree.specs.declared.declaration.Declared.{Declared}
use Rattle.c_tree.specs.declared.declaration.Declared.TheVariants as declared
use Rattle.c_tree.specs.declared.declaration.Declaration.{Declaration}
use Rattle.c_tree.specs.declared.declaration.External.{External}
use Rattle.c_tree.specs.declared.declaration.External.TheVariants as external
use Rattle.c_tree.specs.declared.declaration.Tree.{Tree}
use Rattle.c_tree.specs.declared.statement.Statement.{Statement}
use Rattle.c_tree.specs.declared.statement.Branch.{Branch}
use Rattle.c_tree.specs.declared.statement.BlockItem.{BlockItem}
use Rattle.c_tree.specs.declared.statement.BlockItem.TheOpen.{Statement-F, BlockItem-F, Branch-F}
use Rattle.c_tree.specs.declared.statement.BlockItem.TheOpen.{Statement-F as t, BlockItem-F as b}
use Rattle.c_tree.specs.declared.statement.BlockItem.TheFolds.{para-BlockItem}
use Rattle.c_tree.specs.declared.statement.ForStart.{ForStart}
use Rattle.c_tree.specs.declared.statement.ForStart.TheVariants as start
use Rattle.c_kinds.specs.declared.answer.Answer.{Answer}
use Rattle.c_rules.specs.Recursion.{Nodes, of_expression, of_specifier, of_declarator}
use Rattle.c_rules.specs.Broken.{of_each, of_option}
use Rattle.c_rules.specs.declared.names.Meaning.{Meaning}
use Rattle.c_rules.specs.Typing.{Given, meaning_at, expression_answer, answer_of}
use Rattle.c_rules.specs.Initialisers.{name_at}
use Rattle.c_rules.specs.Expressions.{in_expression, collecting}

-- what is found in each kind of part, where it is evaluated or, with true, where it isn't
abbrev pub Finding : Type 0 → Type 0
Finding X = Nodes (Bool → List X) (Bool → List X) (Bool → List X) (Bool → List X) (Bool → List X) (Bool → List X) (Bool → List X) (Bool → List X)

-- what is found in an expression, in the other parts of a declaration, and at each declared name
pub record Look (X : Type 0) : Type 0 where
  pub expression : Expression → List X
  pub specifier : Specifier → List X
  pub declarator : Declarator → List X
  pub declared : Declared → List X

-- ---- statements and texts

module _ {X : Type 0} where
  abbrev pub found_in_declaration : Look X → Declaration → List X
  found_in_declaration l x = of_each l.specifier x.specifiers ++ of_each l.declared x.names

  abbrev pub found_in_start : Look X → ForStart → List X
  found_in_start l start.Nothing = []
  found_in_start l (start.Value x) = l.expression x
  found_in_start l (start.Declared x) = found_in_declaration l x

module _ {X B S R : Type 0} where
  abbrev pub branch_found : Look X → (S → List X) → Branch-F B S R → List X
  branch_found l w x = l.expression x.test ++ w x.body

  abbrev pub item_found : Look X → (S → List X) → BlockItem-F B S R → List X
  item_found l w (b.Declared x) = found_in_declaration l x
  item_found l w (b.Run x) = w x

  abbrev pub statement_found : Look X → (B → List X) → (S → List X) → (R → List X) → Statement-F B S R → List X
  statement_found l item w branch (t.Block xs at) = of_each item xs
  statement_found l item w branch (t.Empty at) = []
  statement_found l item w branch (t.Value x at) = l.expression x
  statement_found l item w branch (t.Label name body at) = w body
  statement_found l item w branch (t.Case x body at) = l.expression x ++ w body
  statement_found l item w branch (t.Default body at) = w body
  statement_found l item w branch (t.If branches) = of_each branch branches
  statement_found l item w branch (t.IfElse branches otherwise) = of_each branch branches ++ w otherwise
  statement_found l item w branch (t.Switch x body at) = l.expression x ++ w body
  statement_found l item w branch (t.While test body at) = l.expression test ++ w body
  statement_found l item w branch (t.Do body test at) = w body ++ l.expression test
  statement_found l item w branch (t.For first test step body at) =
      found_in_start l first ++ of_option l.expression test ++ of_option l.expression step ++ w body
  statement_found l item w branch (t.Break at) = []
  statement_found l item w branch (t.Continue at) = []
  statement_found l item w branch (t.Return x at) = of_option l.expression x

unfoldable pub found_in_item : {X : Type 0} → Look X → BlockItem → List X
found_in_item {X = X} l = para-BlockItem (List X) (List X) (List X)
    (item_found {B = BlockItem × List X} {S = Statement × List X} {R = Branch × List X} l (λ x. x.1))
    (statement_found {B = BlockItem × List X} {S = Statement × List X} {R = Branch × List X} l (λ x. x.1) (λ x. x.1) (λ x. x.1))
    (branch_found {B = BlockItem × List X} {S = Statement × List X} {R = Branch × List X} l (λ x. x.1))

module _ {X : Type 0} where
  abbrev pub found_in_external : Look X → External → List X
  found_in_external l (external.Empty at) = []
  found_in_external l (external.Declared x) = found_in_declaration l x
  found_in_external l (external.Defined specifiers inside body at) = of_each l.specifier specifiers ++ l.declarator inside ++ of_each (found_in_item l) body

  abbrev pub found_in_text : Look X → Tree → List X
  found_in_text l tree = of_each (found_in_external l) tree.externals

-- ---- by what is found at each kind of node

abbrev pub initialiser_found : {X I : Type 0} → Finding X → (I → List X) → Initialiser-F I → List X
initialiser_found n w (i.Value x at) = of_expression n x false
initialiser_found n w (i.Braces parts at) = of_each w parts

unfoldable pub found_in_initialiser : {X : Type 0} → Finding X → Initialiser → List X
found_in_initialiser {X = X} n = para-Initialiser (List X) (initialiser_found {I = Initialiser × List X} n (λ x. x.1))

module _ {X : Type 0} where
  abbrev pub found_in_declared : Finding X → Declared → List X
  found_in_declared n (declared.Plain inside) = of_declarator n inside false
  found_in_declared n (declared.Initialised inside value at) = of_declarator n inside false ++ found_in_initialiser n value

  abbrev pub looking : Finding X → Look X
  looking n = record {
    expression = λ x. of_expression n x false;
    specifier = λ x. of_specifier n x false;
    declarator = λ x. of_declarator n x false;
    declared = found_in_declared n;
  }

-- ---- answers

-- an expression's own token, and what it is
pub record AnswerAt : Type 0 where
  pub at : ℕ
  pub answer : Answer

module _ {D C E M S L P T : Type 0} where
  abbrev pub token_of : Expression-F D C E M S L P T → ℕ
  token_of (e.«Expression::Name» name at) = at
  token_of (e.Constant kind n at) = at
  token_of (e.Text at) = at
  token_of (e.Subscript array index at) = at
  token_of (e.Call function arguments at) = at
  token_of (e.Member object name at) = at
  token_of (e.PointedMember pointer name at) = at
  token_of (e.Postfix step operand at) = at
  token_of (e.Prefix step operand at) = at
  token_of (e.Unary operator operand at) = at
  token_of (e.SizeofExpression operand at) = at
  token_of (e.SizeofType type_name at) = at
  token_of (e.Cast type_name operand at) = at
  token_of (e.Binary operator left right at) = at
  token_of (e.Conditional test first otherwise at) = at
  token_of (e.Assign operator target value at) = at
  token_of (e.Comma parts at) = at

  abbrev pub answers_node : Given → (E → Expression) → (E → Bool → List AnswerAt) → (T → Bool → List AnswerAt) → Expression-F D C E M S L P T → Bool → List AnswerAt
  answers_node g tree w named l u =
      in_expression g tree w named l u ++ record { at = token_of l; answer = expression_answer g (λ x. answer_of g (tree x)) tree l u } ∷ []

abbrev pub answering : Given → Finding AnswerAt
answering g = collecting (answers_node g (λ x. x.0) (λ x. x.1) (λ x. x.1))

-- the answers of the expressions of a text
abbrev pub answers_in_text : Given → Tree → List AnswerAt
answers_in_text g tree = found_in_text (looking (answering g)) tree

-- ---- initialisers

-- an initialiser, with what is declared by its declarator, and the `=`
pub record InitialiserOf : Type 0 where
  pub declares : Option Meaning
  pub equals : ℕ
  pub initialiser : Initialiser

abbrev pub initialiser_of : Given → Declared → List InitialiserOf
initialiser_of g (declared.Plain inside) = []
initialiser_of g (declared.Initialised inside value at) = record { declares = meaning_at g.names (name_at inside); equals = at; initialiser = value } ∷ []

-- the initialisers of a text
abbrev pub initialisers_in_text : Given → Tree → List InitialiserOf
initialisers_in_text g tree = found_in_text (record { expression = λ x. []; specifier = λ x. []; declarator = λ x. []; declared = initialiser_of g }) tree
