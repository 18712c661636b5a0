-- `switch` (6.8.4.2): its body is searched for the value, one label a step. Sections are those of ISO/IEC 9899:2011.
use Rattle.std.specs.Prelude.{Bool, false, ℤ, List, [], ◌∷◌, Option, Some, None}
use Rattle.std.specs.Ordering.{int_eq}
use Rattle.kv_num.specs.declared.types.IntType.{IntType}
use Rattle.c_tree.specs.declared.expression.Expression.{Expression}
use Rattle.c_tree.specs.declared.statement.Statement.{Statement, out-Statement}
use Rattle.c_tree.specs.declared.statement.BlockItem.{BlockItem, out-BlockItem}
use Rattle.c_tree.specs.declared.statement.BlockItem.TheOpen.{Statement-F as t, BlockItem-F as b}
use Rattle.c_kinds.specs.Types.{shape_of}
use Rattle.c_kinds.specs.Integers.{promoted}
use Rattle.c_rules.specs.declared.program.Program.{Program}
use Rattle.c_model.specs.declared.values.Scalar.{Scalar}
use Rattle.c_model.specs.Programs.{StatementNode, ItemNode, type_of, case_at}
use Rattle.c_model.specs.Values.{scalar_in, number_as}
use Rattle.c_model.specs.Operators.{integer_of}
use Rattle.c_model.specs.Configurations.{Rest, Seeks, Labels, Switched, State, Move, Goes, Forks}
use Rattle.c_model.specs.Moves.{put}

-- the value is promoted (6.8.4.2p5)
abbrev pub switch_type : Program → Expression → IntType
switch_type p value = promoted (integer_of (shape_of (type_of p value)))

-- the items from here on run, up to a `break`; a `switch` body declares nothing itself
abbrev pub running : List BlockItem → State → State
running items c = put (Rest items) (put Switched c)

-- no label has the value: `default`, or nothing
abbrev pub defaults : Option (List BlockItem) → State → State
defaults None c = c
defaults (Some items) c = running items c

-- one item: the labels of a statement are looked at, a declaration has none
abbrev pub seeks_node : IntType → ℤ → ItemNode → List BlockItem → List BlockItem → Option (List BlockItem) → State → Move
seeks_node kind value (b.Declared declaration) items left otherwise c = Goes (put (Seeks kind value left otherwise) c)
seeks_node kind value (b.Run statement) items left otherwise c = Goes (put (Labels kind value statement items otherwise) c)

-- the items of the body in order: the labels of each statement are looked at (6.8.4.2p5)
abbrev pub seeks_move : IntType → ℤ → List BlockItem → Option (List BlockItem) → State → Move
seeks_move kind value [] otherwise c = Goes (defaults otherwise c)
seeks_move kind value (item ∷ left) otherwise c = seeks_node kind value (out-BlockItem item) (item ∷ left) left otherwise c

-- a label's value, which an accepted program has, equals the switch's
abbrev pub is_equal : Option ℤ → ℤ → Bool
is_equal None value = false
is_equal (Some n) value = int_eq n value

-- the items after the first one
abbrev pub after_first : List BlockItem → List BlockItem
after_first [] = []
after_first (item ∷ left) = left

-- a label, or the statement after the labels (6.8.1)
abbrev pub labels_node : Program → IntType → ℤ → StatementNode → List BlockItem → Option (List BlockItem) → State → Move
labels_node p kind value (t.Label name body at) items otherwise c = Goes (put (Labels kind value body items otherwise) c)
labels_node p kind value (t.Case constant body at) items otherwise c = Forks (is_equal (case_at p at) value) (running items c) (put (Labels kind value body items otherwise) c)
labels_node p kind value (t.Default body at) items otherwise c = Goes (put (Labels kind value body items (Some items)) c)
labels_node p kind value _ items otherwise c = Goes (put (Seeks kind value (after_first items) otherwise) c)

-- the labels of the first item that is left: each `case` is a test, and a `default` is kept
abbrev pub labels_move : Program → IntType → ℤ → Statement → List BlockItem → Option (List BlockItem) → State → Move
labels_move p kind value x items otherwise c = labels_node p kind value (out-Statement x) items otherwise c

-- the body of a `switch`
abbrev pub searches_node : Program → Expression → List Scalar → StatementNode → State → Move
searches_node p value v (t.Block items at) c = Goes (put (Seeks (switch_type p value) (number_as (switch_type p value) (scalar_in v)) items None) c)
searches_node p value v _ c = Goes c

-- a body that is no block does nothing: the accepted C has no label in it, so nothing in it is reached
abbrev pub searches : Program → Expression → List Scalar → Statement → State → Move
searches p value v body c = searches_node p value v (out-Statement body) c
