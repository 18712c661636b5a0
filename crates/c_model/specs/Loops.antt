-- Loops (6.8.5), and jumps out of statements (6.8.6). Sections are those of ISO/IEC 9899:2011.
use Rattle.std.specs.Prelude.{List, [], ◌∷◌, length, Option, Some, None}
use Rattle.c_tree.specs.declared.expression.Expression.{Expression}
use Rattle.c_tree.specs.declared.statement.Statement.{Statement, out-Statement}
use Rattle.c_tree.specs.declared.statement.BlockItem.TheOpen.{Statement-F as t}
use Rattle.c_tree.specs.declared.statement.ForStart.{ForStart}
use Rattle.c_tree.specs.declared.statement.ForStart.TheVariants as start
use Rattle.c_rules.specs.declared.program.Program.{Program}
use Rattle.c_model.specs.Programs.{StatementNode}
use Rattle.c_model.specs.declared.values.Scalar.{Scalar}
use Rattle.c_model.specs.Calls.{objects_declared, opens, returns}
use Rattle.c_model.specs.Configurations.{Item, Drops, Work, Tests, Close, Switched, Loop, Again, Breaking, Continuing, Leaving, Back, Declaring, State, Move, Goes, Stops}
use Rattle.c_model.specs.Moves.{put, asks, closes}

-- ---- loops. Bringing a loop's head to the top is an arrival.

-- the first part of a `for`; what it declares lives until the loop ends (6.8.5.3p1)
abbrev pub starts : Program → Statement → ForStart → State → Move
starts p x start.Nothing c = Goes (put (Loop x) c)
starts p x (start.Value value) c = asks value Drops (put (Loop x) c)
starts p x (start.Declared declaration) c = Goes (put (Declaring declaration.names) (put (Loop x) (put (Close (length c.store)) (opens p (objects_declared p declaration.names) c))))

-- the body runs once
abbrev pub turning : Statement → Statement → State → State
turning x body c = put (Work body) (put (Again x) c)

-- a `for` without a condition goes on (6.8.5.3p2)
abbrev pub conditions : Option Expression → Statement → Statement → State → Move
conditions None x body c = Goes (turning x body c)
conditions (Some test) x body c = asks test (Tests x) c

-- the third part of a `for` is evaluated after the body (6.8.5.3p1)
abbrev pub third_part : Option Expression → Statement → State → Move
third_part None x c = Goes (put (Loop x) c)
third_part (Some step) x c = asks step Drops (put (Loop x) c)

-- each kind of loop (6.8.5.1, 6.8.5.2, 6.8.5.3)
abbrev pub loop_node : Statement → StatementNode → State → Move
loop_node x (t.While test body at) c = asks test (Tests x) c
loop_node x (t.Do body test at) c = Goes (turning x body c)
loop_node x (t.For first test step body at) c = conditions test x body c
loop_node x _ c = Stops

-- the head: the condition is evaluated, or the body of a `do` begins
abbrev pub loop_move : Statement → State → Move
loop_move x c = loop_node x (out-Statement x) c

-- each kind of loop, after its body
abbrev pub again_node : Statement → StatementNode → State → Move
again_node x (t.While test body at) c = Goes (put (Loop x) c)
again_node x (t.Do body test at) c = asks test (Tests x) c
again_node x (t.For first test step body at) c = third_part step x c
again_node x _ c = Stops

-- the end of the body: the way back to the head
abbrev pub again_move : Statement → State → Move
again_move x c = again_node x (out-Statement x) c

-- ---- jumps: one item is left a step, and each block on the way ends

-- `break` ends the loop or `switch` around it (6.8.6.3p2)
abbrev pub breaks : List Item → State → Move
breaks [] c = Stops
breaks (Switched ∷ rest) c = Goes (record c { control = rest })
breaks (Again x ∷ rest) c = Goes (record c { control = rest })
breaks (Close objects ∷ rest) c = Goes (closes objects (record c { control = Breaking ∷ rest }))
breaks (_ ∷ rest) c = Goes (record c { control = Breaking ∷ rest })

-- `continue` goes to the end of the body of the loop around it (6.8.6.2p2)
abbrev pub continues : List Item → State → Move
continues [] c = Stops
continues (Again x ∷ rest) c = Goes (record c { control = Again x ∷ rest })
continues (Close objects ∷ rest) c = Goes (closes objects (record c { control = Continuing ∷ rest }))
continues (_ ∷ rest) c = Goes (record c { control = Continuing ∷ rest })

-- `main` has no call around it: leaving it ends the execution (5.1.2.2.3)
abbrev pub leaves : Program → List Scalar → List Item → State → Move
leaves p v [] c = Stops
leaves p v (Back function objects ∷ rest) c = returns p function objects v (record c { control = rest })
leaves p v (Close objects ∷ rest) c = Goes (closes objects (record c { control = Leaving v ∷ rest }))
leaves p v (_ ∷ rest) c = Goes (record c { control = Leaving v ∷ rest })
