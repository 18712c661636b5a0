-- The labels of the `switch` statements of a text, with the values of their cases (6.8.4.2). Sections are those of
-- ISO/IEC 9899:2011.
use Rattle.std.specs.Prelude.{List, [], ◌++◌, Option, None}
use Rattle.kv_num.specs.declared.types.IntType.{IntType}
use Rattle.c_tree.specs.declared.declaration.External.{External}
use Rattle.c_tree.specs.declared.declaration.External.TheVariants as external
use Rattle.c_tree.specs.declared.declaration.Tree.{Tree}
use Rattle.c_tree.specs.declared.statement.Statement.{Statement}
use Rattle.c_tree.specs.declared.statement.Branch.{Branch}
use Rattle.c_tree.specs.declared.statement.BlockItem.{BlockItem}
use Rattle.c_tree.specs.declared.statement.BlockItem.TheOpen.{Statement-F, BlockItem-F, Branch-F}
use Rattle.c_tree.specs.declared.statement.BlockItem.TheOpen.{Statement-F as t, BlockItem-F as b}
use Rattle.c_tree.specs.declared.statement.BlockItem.TheFolds.{para-BlockItem}
use Rattle.c_rules.specs.Broken.{of_each}
use Rattle.c_rules.specs.Typing.{Given}
use Rattle.c_rules.specs.Statements.{CaseLabel, case_label, switched_type, value_of}

-- the labels in a part, by the type to which its cases are converted
abbrev pub Labelled : Type 0
Labelled = Option IntType → List CaseLabel

module _ {B X R : Type 0} where
  abbrev pub branch_labels : (X → Labelled) → Branch-F B X R → Labelled
  branch_labels w x k = w x.body k

  abbrev pub item_labels : (X → Labelled) → BlockItem-F B X R → Labelled
  item_labels w (b.Declared x) k = []
  item_labels w (b.Run x) k = w x k

  -- a case belongs to the smallest `switch` around it, and has its promoted type (6.8.4.2p4, p5)
  abbrev pub statement_labels : Given → (B → Labelled) → (X → Labelled) → (R → Labelled) → Statement-F B X R → Labelled
  statement_labels g item w branch (t.Block xs at) k = of_each (λ x. item x k) xs
  statement_labels g item w branch (t.Label name body at) k = w body k
  statement_labels g item w branch (t.Case x body at) k = case_label at k (value_of g x) ++ w body k
  statement_labels g item w branch (t.Default body at) k = w body k
  statement_labels g item w branch (t.If branches) k = of_each (λ x. branch x k) branches
  statement_labels g item w branch (t.IfElse branches otherwise) k = of_each (λ x. branch x k) branches ++ w otherwise k
  statement_labels g item w branch (t.Switch x body at) k = w body (switched_type (value_of g x))
  statement_labels g item w branch (t.While test body at) k = w body k
  statement_labels g item w branch (t.Do body test at) k = w body k
  statement_labels g item w branch (t.For first test step body at) k = w body k
  statement_labels g item w branch _ k = []

-- ---- over trees

unfoldable pub labels_in_item : Given → BlockItem → Labelled
labels_in_item g = para-BlockItem Labelled Labelled Labelled
    (item_labels {B = BlockItem × Labelled} {X = Statement × Labelled} {R = Branch × Labelled} (λ x. x.1))
    (statement_labels {B = BlockItem × Labelled} {X = Statement × Labelled} {R = Branch × Labelled} g (λ x. x.1) (λ x. x.1) (λ x. x.1))
    (branch_labels {B = BlockItem × Labelled} {X = Statement × Labelled} {R = Branch × Labelled} (λ x. x.1))

-- outside every `switch` there is no type to convert to
abbrev pub labels_in_external : Given → External → List CaseLabel
labels_in_external g (external.Defined specifiers inside body at) = of_each (λ x. labels_in_item g x None) body
labels_in_external g _ = []

abbrev pub labels_in_text : Given → Tree → List CaseLabel
labels_in_text g tree = of_each (labels_in_external g) tree.externals
