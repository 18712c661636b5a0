-- Statements (6.8). Sections are those of ISO/IEC 9899:2011.
use Rattle.std.specs.Prelude.{List, [], ◌∷◌, length, Option, Some, None}
use Rattle.c_tree.specs.declared.expression.Expression.{Expression}
use Rattle.c_tree.specs.declared.statement.Statement.{Statement, out-Statement}
use Rattle.c_tree.specs.declared.statement.Branch.{Branch, out-Branch}
use Rattle.c_tree.specs.declared.statement.BlockItem.{BlockItem, out-BlockItem}
use Rattle.c_tree.specs.declared.statement.BlockItem.TheOpen.{Statement-F as t, BlockItem-F as b}
use Rattle.c_rules.specs.declared.program.Program.{Program}
use Rattle.c_model.specs.Programs.{StatementNode, ItemNode}
use Rattle.c_model.specs.declared.values.Scalar.{Scalar}
use Rattle.c_model.specs.Values.{is_no}
use Rattle.c_model.specs.Calls.{objects_of, opens}
use Rattle.c_model.specs.Configurations.{Item, Drops, Work, Tests, Rest, Close, Branches, Branching, Loop, Breaking, Continuing, Leaving, Declaring, State, Move, Goes, Forks}
use Rattle.c_model.specs.Moves.{put, asks}
use Rattle.c_model.specs.Switches.{searches}
use Rattle.c_model.specs.Loops.{starts, turning}

-- ---- blocks (6.8.2)

-- a block's objects live until its end (6.2.4p6)
abbrev pub entering_block : Program → List BlockItem → State → State
entering_block p items c = put (Rest items) (put (Close (length c.store)) (opens p (objects_of p items) c))

-- a declaration, or a statement
abbrev pub item_of_node : ItemNode → Item
item_of_node (b.Declared declaration) = Declaring declaration.names
item_of_node (b.Run statement) = Work statement

-- a declaration or a statement (6.8.2)
abbrev pub item_of_block : BlockItem → Item
item_of_block x = item_of_node (out-BlockItem x)

-- the items of a block in order (6.8p3)
abbrev pub rest_move : List BlockItem → State → Move
rest_move [] c = Goes c
rest_move (item ∷ left) c = Goes (put (item_of_block item) (put (Rest left) c))

-- ---- `if`, with the `else if`s that follow it (6.8.4.1)

-- the controlling expression of a branch (6.8.4p3)
abbrev pub test_of : Branch → Expression
test_of x = (out-Branch x).test

-- its substatement
abbrev pub body_of_branch : Branch → Statement
body_of_branch x = (out-Branch x).body

-- the next branch, or `else`, or nothing (6.8.4.1p2)
abbrev pub branches_move : List Branch → Option Statement → State → Move
branches_move [] None c = Goes c
branches_move [] (Some otherwise) c = Goes (put (Work otherwise) c)
branches_move (branch ∷ left) otherwise c = asks (test_of branch) (Branching (branch ∷ left) otherwise) c

-- the first branch has its test's value
abbrev pub branched_move : List Branch → Option Statement → List Scalar → State → Move
branched_move [] otherwise v c = Goes c
branched_move (branch ∷ left) otherwise v c = Forks (is_no v) (put (Branches left otherwise) c) (put (Work (body_of_branch branch)) c)

-- ---- one statement

-- `return`, with or without an expression (6.8.6.4)
abbrev pub returned : Option Expression → Statement → State → Move
returned None x c = Goes (put (Leaving []) c)
returned (Some value) x c = asks value (Tests x) c

-- each kind of statement (6.8.1 to 6.8.6)
abbrev pub work_node : Program → Statement → StatementNode → State → Move
work_node p x (t.Block items at) c = Goes (entering_block p items c)
work_node p x (t.Empty at) c = Goes c
work_node p x (t.Value value at) c = asks value Drops c
work_node p x (t.Label name body at) c = Goes (put (Work body) c)
work_node p x (t.Case value body at) c = Goes (put (Work body) c)
work_node p x (t.Default body at) c = Goes (put (Work body) c)
work_node p x (t.If branches) c = Goes (put (Branches branches None) c)
work_node p x (t.IfElse branches otherwise) c = Goes (put (Branches branches (Some otherwise)) c)
work_node p x (t.Switch value body at) c = asks value (Tests x) c
work_node p x (t.While test body at) c = Goes (put (Loop x) c)
work_node p x (t.Do body test at) c = Goes (put (Loop x) c)
work_node p x (t.For first test step body at) c = starts p x first c
work_node p x (t.Break at) c = Goes (put Breaking c)
work_node p x (t.Continue at) c = Goes (put Continuing c)
work_node p x (t.Return value at) c = returned value x c

-- a statement begins
abbrev pub work_move : Program → Statement → State → Move
work_move p x c = work_node p x (out-Statement x) c

-- each kind of statement that waits for a value (6.8.4.2, 6.8.5, 6.8.6.4)
abbrev pub decides_node : Program → Statement → StatementNode → List Scalar → State → Move
decides_node p x (t.Switch value body at) v c = searches p value v body c
decides_node p x (t.While test body at) v c = Forks (is_no v) c (turning x body c)
decides_node p x (t.Do body test at) v c = Forks (is_no v) c (put (Loop x) c)
decides_node p x (t.For first test step body at) v c = Forks (is_no v) c (turning x body c)
decides_node p x (t.Return value at) v c = Goes (put (Leaving v) c)
decides_node p x _ v c = Goes c

-- a statement has the value of its expression: a loop ends where its condition is 0 (6.8.5p4)
abbrev pub decides : Program → Statement → List Scalar → State → Move
decides p x v c = decides_node p x (out-Statement x) v c
