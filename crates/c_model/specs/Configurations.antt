-- Configurations of the machine: the control stack, the living objects, and the inputs. Sections are those of
-- ISO/IEC 9899:2011.
use Rattle.std.specs.Prelude.{ℕ, Bool, ℤ, List, Option}
use Rattle.kv_num.specs.declared.types.IntType.{IntType}
use Rattle.c_tree.specs.declared.expression.Expression.{Expression}
use Rattle.c_tree.specs.declared.statement.Statement.{Statement}
use Rattle.c_tree.specs.declared.statement.Branch.{Branch}
use Rattle.c_tree.specs.declared.statement.BlockItem.{BlockItem}
use Rattle.c_tree.specs.declared.declaration.Declared.{Declared}
use Rattle.c_tree.specs.declared.declaration.Initialiser.{Initialiser}
use Rattle.c_kinds.specs.declared.types.CType.{CType}
use Rattle.c_rules.specs.declared.checks.CheckKind.{CheckKind}
use Rattle.c_model.specs.declared.values.Scalar.{Scalar}
use Rattle.c_model.specs.declared.values.Object.{Object}

-- An item of the control stack, with the values that wait in it: what its operands gave, from left to right, each as a
-- list of cells. A place that waits is the pointer to its first cell.
pub data Item : Type 0 where
  -- an expression whose value is needed, and one that waits for its next operand
  Value : (x : Expression) (found : List (List Scalar)) → Item
  Needs : (x : Expression) (found : List (List Scalar)) → Item
  -- an expression whose place is needed, and one that waits for its next operand (6.3.2.1)
  Place : (x : Expression) (found : List (List Scalar)) → Item
  Locates : (x : Expression) (found : List (List Scalar)) → Item
  -- the parts of a comma expression that are left (6.5.17)
  CommaParts : (left : List Expression) → Item
  -- what waits for a value: to give whether it is other than 0, to give it in another type, or to drop it
  Truth : Item
  Converts : (to : CType) → Item
  Drops : Item
  -- a value that is to be given
  Result : (value : List Scalar) → Item
  -- a statement, one that waits for its expression's value, and one that has it
  Work : (s : Statement) → Item
  Tests : (s : Statement) → Item
  Decides : (s : Statement) (value : List Scalar) → Item
  -- the items of a block that are left, and the end of a block, after which so many objects live (6.8.2)
  Rest : (left : List BlockItem) → Item
  Close : (objects : ℕ) → Item
  -- the branches of an `if` that are left; the first one waits for its test's value, and has it (6.8.4.1)
  Branches : (left : List Branch) (otherwise : Option Statement) → Item
  Branching : (left : List Branch) (otherwise : Option Statement) → Item
  Branched : (left : List Branch) (otherwise : Option Statement) (value : List Scalar) → Item
  -- the items of a `switch` body that are left to be searched for its value, and those from `default` on; the labels of
  -- the first of them that are left (6.8.4.2)
  Seeks : (kind : IntType) (value : ℤ) (left : List BlockItem) (otherwise : Option (List BlockItem)) → Item
  Labels : (kind : IntType) (value : ℤ) (s : Statement) (left : List BlockItem) (otherwise : Option (List BlockItem)) → Item
  -- the end of a `switch`
  Switched : Item
  -- the head of a loop: a condition is about to be evaluated, or the body of a `do` to begin (6.8.5)
  Loop : (s : Statement) → Item
  -- the end of a loop's body
  Again : (s : Statement) → Item
  -- `break`, `continue` and `return` leave one item after another (6.8.6)
  Breaking : Item
  Continuing : Item
  Leaving : (value : List Scalar) → Item
  -- the end of a call of a function, after which so many objects live (6.9.1)
  Back : (function objects : ℕ) → Item
  -- the cells that were made so far of a value that no `return` gave (6.9.1p12)
  Makes : (function : ℕ) (made : List Scalar) → Item
  -- what a declaration declares further (6.7)
  Declaring : (left : List Declared) → Item
  -- from this cell on an object has no initialiser (6.7.9p10)
  Unset : (number offset : ℕ) → Item
  -- an initialiser of the part of this type of an object, from this cell on; the parts of a braced one that are left (6.7.9)
  Fills : (number offset : ℕ) (t : CType) (initialiser : Initialiser) → Item
  Parts : (number offset : ℕ) (t : CType) (part : ℕ) (left : List Initialiser) → Item
  -- such a part waits for its value, and has it
  Awaits : (number offset : ℕ) (t : CType) → Item
  Keeps : (number offset : ℕ) (value : List Scalar) → Item

-- what the inputs leave alone: what is still to be done, and the objects (5.1.2.3)
pub record State : Type 0 where
  -- the item that is taken next stands first
  pub control : List Item
  -- the living objects, the youngest last; an object's number in pointers is its place
  pub store : List Object

-- the inputs that are left, and those that were taken, each as the number of its type
pub record Feed : Type 0 where
  pub given : List ℕ
  pub taken : List ℤ

-- a state and its inputs
pub record Configuration : Type 0 where
  pub state : State
  pub inputs : Feed

-- What an item does. It is the same for all inputs and goals; how it is answered is said once for the machine and once for
-- the bare machine.
pub data Move : Type 0 where
  -- it leads on
  Goes : (next : State) → Move
  -- a check at a token isn't met; the bare machine, whose checks are all met, goes on
  Unmet : (check : CheckKind) (at : ℕ) (next : State) → Move
  -- a test goes one of two ways: `holds` says which one the machine takes. Most tests ask whether a value is 0, a `case` whether
  -- its value is the one that is sought
  Forks : (holds : Bool) (if_so if_not : State) → Move
  -- an input of this type is taken
  Takes : (kind : IntType) (go : ℤ → State) → Move
  -- an assumption doesn't hold; the bare machine goes on
  Unassumed : (next : State) → Move
  -- the execution ends
  Stops : Move

-- the answer of a step
pub data Answer : Type 0 where
  Next : (c : Configuration) → Answer
  Broken : (check : CheckKind) (line : ℕ) → Answer
  Ended : Answer
  Assumed : Answer
  NeedsInput : Answer
