-- How many steps are left at most until the next arrival.
use Rattle.std.proofs.Common.{ℕ, suc, ◌+◌, List, [], ◌∷◌, length, Option, Some, None}
use Rattle.c_tree.specs.declared.expression.Expression.{Expression, out-Expression}
use Rattle.c_tree.specs.declared.statement.BlockItem.{BlockItem}
use Rattle.c_tree.specs.declared.statement.BlockItem.TheOpen.{Statement-F as t}
use Rattle.c_tree.specs.declared.statement.Branch.{Branch, out-Branch}
use Rattle.c_tree.specs.declared.statement.Statement.{Statement, out-Statement}
use Rattle.c_rules.specs.declared.program.Program.{Program}
use Rattle.c_model.specs.Configurations.{Item, Value, Needs, Place, Locates, CommaParts, Work, Tests, Decides, Rest, Branches, Branching, Branched, Seeks, Labels, Loop, Again, Back, Makes, Declaring, Unset, Fills, Parts}
use Rattle.c_model.specs.Programs.{StatementNode}
use Rattle.c_model.specs.Switches.{after_first}
use Rattle.c_model.specs.Costs.{Cost, Steps, Both, more, total, all_costs, place_cost, value_cost, expression_cost, unset_cost, initialiser_cost, declaring_cost, labels_cost, search_cost, branches_cost, statement_size, item_size, branch_size, block_cost, makes_cost, back_cost}

module _ (p : Program) where
  abbrev pub value_left : Expression → ℕ → Cost
  value_left x k = value_cost p (expression_cost p) (λ y. y) (out-Expression x) k

  abbrev pub place_left : Expression → ℕ → Cost
  place_left x k = place_cost (expression_cost p) (out-Expression x) k

  abbrev pub body_cost : Statement → Cost
  body_cost x = (statement_size p x).cost

  -- from the end of the body of a loop
  abbrev pub step_cost : Option Expression → Cost
  step_cost None = Steps 1
  step_cost (Some step) = more 3 (expression_cost p step)

  abbrev pub again_node_cost : StatementNode → Cost
  again_node_cost (t.Do body test at) = more 2 (expression_cost p test)
  again_node_cost (t.For first test step body at) = step_cost step
  again_node_cost _ = Steps 1

  -- of a statement that has the value of its expression
  abbrev pub done_node_cost : StatementNode → Cost
  done_node_cost (t.Switch value body at) = more 1 (body_cost body)
  done_node_cost (t.While test body at) = more 2 (body_cost body)
  done_node_cost (t.For first test step body at) = more 1 (Both (body_cost body) (step_cost step))
  done_node_cost (t.Return value at) = Steps 2
  done_node_cost _ = Steps 1

  abbrev pub test_cost : Option Expression → Cost
  test_cost None = Steps 0
  test_cost (Some test) = expression_cost p test

  -- from the head of a loop
  abbrev pub turn_node_cost : StatementNode → Cost
  turn_node_cost (t.While test body at) = more 3 (Both (expression_cost p test) (body_cost body))
  turn_node_cost (t.Do body test at) = more 3 (Both (expression_cost p test) (body_cost body))
  turn_node_cost (t.For first test step body at) = more 2 (Both (test_cost test) (Both (body_cost body) (step_cost step)))
  turn_node_cost _ = Steps 1

  abbrev pub default_cost : Option (List BlockItem) → Cost
  default_cost None = Steps 0
  default_cost (Some items) = more 2 (block_cost p items)

  abbrev pub choices_cost : List Branch → Option Statement → Cost
  choices_cost left otherwise = branches_cost (statement_size p) (branch_size p) left otherwise

  abbrev pub branched_cost : List Branch → Option Statement → Cost
  branched_cost [] otherwise = Steps 1
  branched_cost (x ∷ left) otherwise = more 1 (Both (body_cost (out-Branch x).body) (choices_cost left otherwise))

  -- of an item; a loop's head below the top ends the block
  abbrev pub item_cost : Item → Cost
  item_cost (Value x found) = value_left x (length found)
  item_cost (Needs x found) = value_left x (suc (length found))
  item_cost (Place x found) = place_left x (length found)
  item_cost (Locates x found) = place_left x (suc (length found))
  item_cost (CommaParts left) = all_costs (expression_cost p) left
  item_cost (Work x) = body_cost x
  item_cost (Tests x) = done_node_cost (out-Statement x)
  item_cost (Decides x v) = done_node_cost (out-Statement x)
  item_cost (Rest left) = block_cost p left
  item_cost (Branches left otherwise) = choices_cost left otherwise
  item_cost (Branching left otherwise) = branched_cost left otherwise
  item_cost (Branched left otherwise v) = branched_cost left otherwise
  item_cost (Seeks kind value left otherwise) = Both (search_cost (item_size p) left) (default_cost otherwise)
  item_cost (Labels kind value x items otherwise) = Both (labels_cost (statement_size p x).labels (block_cost p items)) (Both (search_cost (item_size p) (after_first items)) (default_cost otherwise))
  item_cost (Again x) = again_node_cost (out-Statement x)
  item_cost (Back f objects) = back_cost p f
  item_cost (Makes f made) = makes_cost p f (length made)
  item_cost (Declaring left) = declaring_cost p left
  item_cost (Unset number offset) = unset_cost p number offset
  item_cost (Fills number offset t x) = initialiser_cost p x
  item_cost (Parts number offset t part left) = all_costs (initialiser_cost p) left
  item_cost _ = Steps 1

  -- with numbers for the calls
  module _ (cs : ℕ → ℕ) where
    abbrev pub left : List Item → ℕ
    left [] = 0
    left (item ∷ rest) = total cs (item_cost item) + left rest

    -- from a state; a loop's head on top is left
    abbrev pub steps_left : List Item → ℕ
    steps_left (Loop x ∷ rest) = total cs (turn_node_cost (out-Statement x)) + left rest
    steps_left items = left items
