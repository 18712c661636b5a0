-- Worked examples: the rules that statements break, each beside a statement that doesn't.
use Rattle.std.specs.Prelude.{◌≡◌, ℕ, ◌+◌, pos, List, [], ◌∷◌, Some, None}
use Rattle.kv_num.specs.declared.types.IntType.TheVariants.{Long}
use Rattle.c_tree.specs.declared.expression.BinaryOperator.TheVariants as binary
use Rattle.c_tree.specs.declared.expression.Expression.{Expression}
use Rattle.c_tree.specs.declared.expression.Expression.TheVariants as tree
use Rattle.c_tree.specs.declared.statement.Statement.{Statement}
use Rattle.c_tree.specs.declared.statement.Statement.TheVariants as statement
use Rattle.c_tree.specs.declared.statement.BlockItem.{BlockItem}
use Rattle.c_tree.specs.declared.statement.BlockItem.TheVariants as item
use Rattle.c_kinds.specs.declared.types.CType.{CType}
use Rattle.c_kinds.specs.Types.{void}
use Rattle.c_rules.specs.declared.names.Pair.{Pair}
use Rattle.c_rules.specs.Broken.{pair}
use Rattle.c_rules.specs.Typing.{Given}
use Rattle.c_rules.specs.Statements.{beginning, judge_item, CaseLabel, OfCase}
use Rattle.c_rules.specs.Labels.{labels_in_item}
use Rattle.c_rules.specs.Worked.{int, means, the_object, fails_meant, x_at, number_at}
use Rattle.c_rules.specs.WorkedDeclarations.{int_at}

-- x is the int at token 2, and q the pointer
abbrev pub x_meant : Given
x_meant = means None None (the_object 0)

abbrev pub q_meant : Given
q_meant = means None None (the_object 1)

-- at the beginning of the body of a function that gives this type
abbrev pub in_function : CType → Given → Statement → List Pair
in_function t g s = (judge_item g (item.Run s)).broken (beginning (Some t))

abbrev pub in_main : Given → Statement → List Pair
in_main g s = in_function int g s

abbrev pub run : Statement → BlockItem
run s = item.Run s

-- `case n:;` at this token
abbrev pub case_at : Expression → ℕ → Statement
case_at x at = statement.Case x (statement.Empty (at + 3)) at

-- `switch(1){..}` of two items
abbrev pub switch_of : BlockItem → BlockItem → Statement
switch_of x y = statement.Switch (number_at 1 2) (statement.Block (x ∷ y ∷ []) 4) 0

abbrev pub labels : Statement → List CaseLabel
labels s = labels_in_item x_meant (item.Run s) None

pub record WorkedStatements : Type 0 where
  -- `break;`, `while(1)break;`, `switch(1)continue;`, `switch(1)break;`
  pub break_outside : in_main x_meant (statement.Break 0) ≡ pair 0 18 ∷ []
  pub break_in_a_loop : in_main x_meant (statement.While (number_at 1 2) (statement.Break 4) 0) ≡ []
  pub continue_in_a_switch : in_main x_meant (statement.Switch (number_at 1 2) (statement.Continue 4) 0) ≡ pair 4 18 ∷ []
  pub break_in_a_switch : in_main x_meant (statement.Switch (number_at 1 2) (statement.Break 4) 0) ≡ []
  -- `case 1:;` outside, and directly in the block of a `switch`
  pub case_outside : in_main x_meant (case_at (number_at 1 6) 5) ≡ pair 5 19 ∷ []
  pub cases : in_main x_meant (switch_of (run (case_at (number_at 1 6) 5)) (run (case_at (number_at 2 10) 9))) ≡ []
  pub case_twice : in_main x_meant (switch_of (run (case_at (number_at 1 6) 5)) (run (case_at (number_at 1 10) 9))) ≡ pair 9 19 ∷ []
  -- `case 4294967297:` is 1 as an int
  pub case_twice_as_an_int : in_main x_meant (switch_of (run (case_at (number_at 1 6) 5)) (run (case_at (tree.Constant Long (pos 4294967297) 10) 9))) ≡ pair 9 19 ∷ []
  pub case_value : labels (switch_of (run (case_at (tree.Constant Long (pos 4294967297) 6) 5)) (run (statement.Empty 9))) ≡ OfCase 5 (pos 1) ∷ []
  pub default_twice : in_main x_meant (switch_of (run (statement.Default (statement.Empty 7) 5)) (run (statement.Default (statement.Empty 11) 9))) ≡ pair 9 19 ∷ []
  -- `case 1/0:`, `case x:`
  pub case_without_a_value : in_main x_meant (switch_of (run (case_at (tree.Binary binary.Divide (number_at 1 6) (number_at 0 8) 7) 5)) (run (statement.Empty 11))) ≡ pair 6 25 ∷ []
  pub case_that_varies : in_main x_meant (switch_of (run (case_at (x_at 2) 1)) (run (statement.Empty 11))) ≡ pair 1 19 ∷ []
  -- `int;` directly in the block of a `switch`, and in another block there
  pub declared_in_a_switch : in_main x_meant (switch_of (item.Declared (record { specifiers = int_at 5 ∷ []; names = []; at = 6 })) (run (statement.Empty 7))) ≡ pair 5 19 ∷ []
  pub declared_in_a_block : in_main x_meant (switch_of (run (statement.Block (item.Declared (record { specifiers = int_at 6 ∷ []; names = []; at = 7 }) ∷ []) 5)) (run (statement.Empty 9))) ≡ []
  -- `return;` and `return 1;`, in a function that gives an int and in one that gives nothing
  pub nothing_returned : in_main x_meant (statement.Return None 0) ≡ pair 0 20 ∷ []
  pub int_returned : in_main x_meant (statement.Return (Some (number_at 1 1)) 0) ≡ []
  pub int_returned_from_void : in_function void x_meant (statement.Return (Some (number_at 1 1)) 0) ≡ pair 0 20 ∷ []
  pub nothing_returned_from_void : in_function void x_meant (statement.Return None 0) ≡ []
  pub pointer_returned : in_main q_meant (statement.Return (Some (x_at 2)) 0) ≡ pair 0 20 ∷ []
  -- `if(__assert_fail("a"));`, `if(q);`, `switch(q);`
  pub void_as_a_test : in_main (means None None fails_meant) (statement.If (record { test = tree.Call (x_at 2) (tree.Text 4 ∷ []) 3; body = statement.Empty 6; at = 0 } ∷ [])) ≡ pair 0 12 ∷ []
  pub pointer_as_a_test : in_main q_meant (statement.If (record { test = x_at 2; body = statement.Empty 4; at = 0 } ∷ [])) ≡ []
  pub pointer_is_switched : in_main q_meant (statement.Switch (x_at 2) (statement.Empty 4) 0) ≡ pair 0 12 ∷ []
  -- `while(z);` with an undeclared z breaks the rule on names alone
  pub undeclared_test : in_main (means None None None) (statement.While (x_at 2) (statement.Empty 4) 0) ≡ pair 2 3 ∷ []
