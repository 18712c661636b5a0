-- What is left to do before the next arrival, at most: as a sum of steps and of calls.
use Rattle.std.specs.Prelude.{ℕ, zero, suc, ◌+◌, ◌<◌, List, [], ◌∷◌, length, drop, Option, Some, None}
use Rattle.c_tree.specs.declared.declaration.Declared.{Declared}
use Rattle.c_tree.specs.declared.declaration.Declared.TheVariants as declared
use Rattle.c_tree.specs.declared.declaration.Initialiser.{Initialiser}
use Rattle.c_tree.specs.declared.declaration.Initialiser.TheFolds.{fold-Initialiser}
use Rattle.c_tree.specs.declared.declaration.Initialiser.TheOpen.{Initialiser-F}
use Rattle.c_tree.specs.declared.declaration.Initialiser.TheOpen.{Initialiser-F as i}
use Rattle.c_tree.specs.declared.expression.Declarator.TheOpen.{Expression-F}
use Rattle.c_tree.specs.declared.expression.Declarator.TheOpen.{Expression-F as e}
use Rattle.c_tree.specs.declared.expression.Expression.{Expression}
use Rattle.c_tree.specs.declared.statement.BlockItem.{BlockItem}
use Rattle.c_tree.specs.declared.statement.BlockItem.TheFolds.{fold-BlockItem, fold-Statement, fold-Branch}
use Rattle.c_tree.specs.declared.statement.BlockItem.TheOpen.{Statement-F, BlockItem-F, Branch-F}
use Rattle.c_tree.specs.declared.statement.BlockItem.TheOpen.{Statement-F as t, BlockItem-F as b}
use Rattle.c_tree.specs.declared.statement.Branch.{Branch}
use Rattle.c_tree.specs.declared.statement.ForStart.{ForStart}
use Rattle.c_tree.specs.declared.statement.ForStart.TheVariants as start
use Rattle.c_tree.specs.declared.statement.Statement.{Statement}
use Rattle.c_rules.specs.declared.names.Meaning.{Meaning}
use Rattle.c_rules.specs.declared.names.Meaning.TheVariants as meaning
use Rattle.c_rules.specs.declared.program.Program.{Program}
use Rattle.c_rules.specs.Recursion.{Nodes, of_expression}
use Rattle.c_model.specs.Functions.{Called, Defined, called, body_of, result_of}
use Rattle.c_model.specs.Programs.{token_of, meaning_at, types_of, types_in, declares}

-- so many steps, two parts one after the other, or a call of a function
pub data Cost : Type 0 where
  Steps : (n : ℕ) → Cost
  Both : (first second : Cost) → Cost
  Calls : (function : ℕ) → Cost

-- so many steps, and then the rest
abbrev pub more : ℕ → Cost → Cost
more n cost = Both (Steps n) cost

-- the steps, where each function has a number for those of its calls
abbrev pub total : (ℕ → ℕ) → Cost → ℕ
total costs (Steps n) = n
total costs (Both first second) = total costs first + total costs second
total costs (Calls function) = costs function

-- a call of this function is among them
pub data Contains (function : ℕ) : Cost → Type 0 where
  here : Contains function (Calls function)
  in_first : (first second : Cost) → Contains function first → Contains function (Both first second)
  in_second : (first second : Cost) → Contains function second → Contains function (Both first second)

-- of each part, with two steps
abbrev pub all_costs : {X : Type 0} → (X → Cost) → List X → Cost
all_costs w [] = Steps 1
all_costs w (x ∷ xs) = more 2 (Both (w x) (all_costs w xs))

-- ---- expressions: `w` is the cost of a part, `k` how many operands are found

-- a call of a function with a body; known functions have none
abbrev pub call_cost : Called → Cost
call_cost (Defined function) = Calls function
call_cost _ = Steps 0

-- a value is read from its place
abbrev pub read_cost : Cost → ℕ → Cost
read_cost place zero = more 2 place
read_cost place (suc k) = Steps 1

module _ {X : Type 0} where
  -- an operand, and one step
  abbrev pub one_cost : (X → Cost) → X → ℕ → Cost
  one_cost w x zero = more 2 (w x)
  one_cost w x (suc k) = Steps 1

  -- two operands, and one step
  abbrev pub two_cost : (X → Cost) → X → X → ℕ → Cost
  two_cost w x y zero = more 4 (Both (w x) (w y))
  two_cost w x y (suc zero) = more 3 (w y)
  two_cost w x y (suc (suc k)) = Steps 1

  -- the operand of `&` may have two operands of its own, each evaluated for the whole
  abbrev pub unary_cost : (X → Cost) → X → ℕ → Cost
  unary_cost w x zero = more 6 (Both (w x) (w x))
  unary_cost w x (suc zero) = more 3 (w x)
  unary_cost w x (suc (suc k)) = Steps 1

  -- one of two operands is evaluated after the test
  abbrev pub choice_cost : (X → Cost) → X → X → X → ℕ → Cost
  choice_cost w test first otherwise zero = more 5 (Both (w test) (Both (w first) (w otherwise)))
  choice_cost w test first otherwise (suc k) = more 3 (Both (w first) (w otherwise))

module _ {D C E M S L P T : Type 0} where
  -- of the place of an lvalue (6.3.2.1p1)
  abbrev pub place_cost : (E → Cost) → Expression-F D C E M S L P T → ℕ → Cost
  place_cost w (e.Subscript array index at) k = two_cost w array index k
  place_cost w (e.Member object name at) k = one_cost w object k
  place_cost w (e.PointedMember pointer name at) k = one_cost w pointer k
  place_cost w (e.Unary operator operand at) k = one_cost w operand k
  place_cost w _ k = Steps 1

  -- `tree` is a part itself
  abbrev pub value_cost : Program → (E → Cost) → (E → Expression) → Expression-F D C E M S L P T → ℕ → Cost
  value_cost p w tree (e.Subscript array index at) k = read_cost (two_cost w array index 0) k
  value_cost p w tree (e.Call function arguments at) k = more 1 (Both (call_cost (called p (meaning_at p (token_of (tree function))))) (all_costs w (drop k arguments)))
  value_cost p w tree (e.Member object name at) k = read_cost (one_cost w object 0) k
  value_cost p w tree (e.PointedMember pointer name at) k = read_cost (one_cost w pointer 0) k
  value_cost p w tree (e.Postfix step operand at) k = one_cost w operand k
  value_cost p w tree (e.Prefix step operand at) k = one_cost w operand k
  value_cost p w tree (e.Unary operator operand at) k = unary_cost w operand k
  value_cost p w tree (e.Cast type_name operand at) k = one_cost w operand k
  value_cost p w tree (e.Binary operator left right at) k = two_cost w left right k
  value_cost p w tree (e.Conditional test first otherwise at) k = choice_cost w test first otherwise k
  value_cost p w tree (e.Assign operator target value at) k = two_cost w target value k
  value_cost p w tree (e.Comma parts at) k = more 1 (all_costs w parts)
  value_cost p w tree _ k = Steps 1

-- the costs of the nodes of an expression; declarators, specifiers and type names in it aren't evaluated
abbrev pub costing : Program → Nodes (Unit {0}) (Unit {0}) Cost (Unit {0}) (Unit {0}) (Unit {0}) (Unit {0}) (Unit {0})
costing p = record {
  declarator = λ _. tt;
  constant = λ _. tt;
  expression = λ l. value_cost p (λ x. x.1) (λ x. x.0) l 0;
  member = λ _. tt;
  specifier = λ _. tt;
  line = λ _. tt;
  parameter = λ _. tt;
  type_name = λ _. tt;
}

-- of an expression (6.5)
unfoldable pub expression_cost : Program → Expression → Cost
expression_cost p x = of_expression (costing p) x

-- ---- declarations

-- the cells from this one on
abbrev pub unset_cost : Program → ℕ → ℕ → Cost
unset_cost p number offset = Steps (1 + length (drop offset (types_in p number)))

-- of an initialiser: each part is evaluated once (6.7.9)
abbrev pub initialiser_node : {I : Type 0} → Program → (I → Cost) → Initialiser-F I → Cost
initialiser_node p w (i.Value value at) = more 2 (expression_cost p value)
initialiser_node p w (i.Braces parts at) = more 2 (all_costs w parts)

-- of an initialiser and all that stands in it
unfoldable pub initialiser_cost : Program → Initialiser → Cost
initialiser_cost p x = fold-Initialiser Cost (initialiser_node p (λ w. w)) x

-- of an object without initialiser; other names do nothing
abbrev pub plain_cost : Program → Option Meaning → Cost
plain_cost p (Some (meaning.Object number)) = unset_cost p number 0
plain_cost p _ = Steps 0

-- of one declarator of a declaration (6.7)
abbrev pub declared_cost : Program → Declared → Cost
declared_cost p (declared.Plain declarator) = plain_cost p (declares p (declared.Plain declarator))
declared_cost p (declared.Initialised declarator initialiser at) = initialiser_cost p initialiser

-- of the declarators that are left
abbrev pub declaring_cost : Program → List Declared → Cost
declaring_cost p names = all_costs (declared_cost p) names

-- ---- statements; a loop ends with the step to its head

-- a statement or an item of a block, and how many labels stand before it
pub record Size : Type 0 where
  pub cost : Cost
  pub labels : ℕ

-- the items of a block
abbrev pub rest_cost : {X : Type 0} → (X → Size) → List X → Cost
rest_cost w items = all_costs (λ x. (w x).cost) items

-- the labels of an item, at each of which the items from there on may run
abbrev pub labels_cost : ℕ → Cost → Cost
labels_cost zero items = Steps 1
labels_cost (suc n) items = more 4 (Both items (labels_cost n items))

-- the items of a `switch` body that are searched
abbrev pub search_cost : {X : Type 0} → (X → Size) → List X → Cost
search_cost w [] = Steps 2
search_cost w (x ∷ xs) = more 2 (Both (labels_cost (w x).labels (rest_cost w (x ∷ xs))) (search_cost w xs))

-- of what follows the last `else`, if there is one
abbrev pub otherwise_cost : {X : Type 0} → (X → Size) → Option X → Cost
otherwise_cost w None = Steps 0
otherwise_cost w (Some x) = (w x).cost

-- of the branches of an `if`, of which each may be tested (6.8.4.1)
abbrev pub branches_cost : {X R : Type 0} → (X → Size) → (R → Cost) → List R → Option X → Cost
branches_cost w branch [] otherwise = more 1 (otherwise_cost w otherwise)
branches_cost w branch (x ∷ xs) otherwise = more 3 (Both (branch x) (branches_cost w branch xs otherwise))

-- of the first part of a `for` (6.8.5.3)
abbrev pub start_cost : Program → ForStart → Cost
start_cost p start.Nothing = Steps 0
start_cost p (start.Value value) = expression_cost p value
start_cost p (start.Declared declaration) = declaring_cost p declaration.names

-- of the expression of a `return`, if it has one (6.8.6.4)
abbrev pub return_cost : Program → Option Expression → Cost
return_cost p None = Steps 0
return_cost p (Some value) = expression_cost p value

-- a statement that is no label
abbrev pub unlabelled : Cost → Size
unlabelled cost = record { cost = cost; labels = 0 }

-- a label before a statement (6.8.1)
abbrev pub labelled : Size → Size
labelled body = record { cost = more 1 body.cost; labels = suc body.labels }

module _ {B X R : Type 0} where
  -- of an item of a block (6.8.2)
  abbrev pub item_node : Program → (X → Size) → BlockItem-F B X R → Size
  item_node p w (b.Declared declaration) = unlabelled (declaring_cost p declaration.names)
  item_node p w (b.Run x) = w x

  -- of a branch: its test and its body (6.8.4.1)
  abbrev pub branch_node : Program → (X → Size) → Branch-F B X R → Cost
  branch_node p w x = Both (expression_cost p x.test) (w x.body).cost

  -- of each kind of statement (6.8)
  abbrev pub statement_node : Program → (B → Size) → (X → Size) → (R → Cost) → Statement-F B X R → Size
  statement_node p item w branch (t.Block items at) = unlabelled (more 4 (Both (rest_cost item items) (search_cost item items)))
  statement_node p item w branch (t.Empty at) = unlabelled (Steps 1)
  statement_node p item w branch (t.Value value at) = unlabelled (more 2 (expression_cost p value))
  statement_node p item w branch (t.Label name body at) = labelled (w body)
  statement_node p item w branch (t.Case value body at) = labelled (w body)
  statement_node p item w branch (t.Default body at) = labelled (w body)
  statement_node p item w branch (t.If branches) = unlabelled (more 1 (branches_cost w branch branches None))
  statement_node p item w branch (t.IfElse branches otherwise) = unlabelled (more 1 (branches_cost w branch branches (Some otherwise)))
  statement_node p item w branch (t.Switch value body at) = unlabelled (more 3 (Both (expression_cost p value) (w body).cost))
  statement_node p item w branch (t.While test body at) = unlabelled (Steps 2)
  statement_node p item w branch (t.Do body test at) = unlabelled (Steps 2)
  statement_node p item w branch (t.For first test step body at) = unlabelled (more 4 (start_cost p first))
  statement_node p item w branch (t.Break at) = unlabelled (Steps 2)
  statement_node p item w branch (t.Continue at) = unlabelled (Steps 2)
  statement_node p item w branch (t.Return value at) = unlabelled (more 4 (return_cost p value))

-- of a statement and all that stands in it
unfoldable pub statement_size : Program → Statement → Size
statement_size p x = fold-Statement Size Size Cost (item_node p (λ w. w)) (statement_node p (λ w. w) (λ w. w) (λ w. w)) (branch_node p (λ w. w)) x

-- of an item of a block
unfoldable pub item_size : Program → BlockItem → Size
item_size p x = fold-BlockItem Size Size Cost (item_node p (λ w. w)) (statement_node p (λ w. w) (λ w. w) (λ w. w)) (branch_node p (λ w. w)) x

-- of a branch of an `if`
unfoldable pub branch_size : Program → Branch → Cost
branch_size p x = fold-Branch Size Size Cost (item_node p (λ w. w)) (statement_node p (λ w. w) (λ w. w) (λ w. w)) (branch_node p (λ w. w)) x

-- ---- functions

-- of the items of a block
abbrev pub block_cost : Program → List BlockItem → Cost
block_cost p items = rest_cost (item_size p) items

-- the cells that are left of a value that no `return` gave
abbrev pub makes_cost : Program → ℕ → ℕ → Cost
makes_cost p f made = Steps (1 + length (drop made (types_of p (result_of p f))))

-- of the end of a call that no `return` left
abbrev pub back_cost : Program → ℕ → Cost
back_cost p f = more 1 (makes_cost p f 0)

-- of a call: the body, and the value
abbrev pub function_cost : Program → ℕ → Cost
function_cost p f = Both (block_cost p (body_of p f)) (back_cost p f)

-- the body of f calls g before it arrives at a loop
abbrev pub MayCall : Program → ℕ → ℕ → Type 0
MayCall p f g = Contains g (function_cost p f)

-- no call leads back to its own function: the functions can be numbered so that each has a higher number than those that it
-- may call
pub record CallsEnd (p : Program) : Type 0 where
  pub rank : ℕ → ℕ
  pub falls : (f g : ℕ) → MayCall p f g → rank g < rank f
