-- The labels in a statement, from those in its parts.
use Rattle.std.proofs.Common.{◌≡◌, Option, ap, sym, ◌∙◌}
use Rattle.kv_num.specs.declared.types.IntType.{IntType}
use Rattle.c_tree.specs.declared.statement.Statement.{Statement, out-Statement}
use Rattle.c_tree.specs.declared.statement.Branch.{Branch}
use Rattle.c_tree.specs.declared.statement.BlockItem.{BlockItem, out-BlockItem}
use Rattle.c_tree.specs.declared.statement.BlockItem.TheViews.{roll-out-BlockItem, roll-out-Statement}
use Rattle.c_tree.specs.declared.statement.BlockItem.TheFolds.{map-BlockItem, map-Statement, para-Statement, para-Branch, para-roll-BlockItem, para-roll-Statement}
use Rattle.c_rules.specs.Typing.{Given}
use Rattle.c_rules.specs.Labels.{Labelled, item_labels, statement_labels, branch_labels, labels_in_item}

module _ (g : Given) where
  unfoldable pub labels_in_statement : Statement → Labelled
  labels_in_statement = para-Statement Labelled Labelled Labelled (item_labels {B = BlockItem × Labelled} {X = Statement × Labelled} {R = Branch × Labelled} (λ x. x.1)) (statement_labels {B = BlockItem × Labelled} {X = Statement × Labelled} {R = Branch × Labelled} g (λ x. x.1) (λ x. x.1) (λ x. x.1)) (branch_labels {B = BlockItem × Labelled} {X = Statement × Labelled} {R = Branch × Labelled} (λ x. x.1))

  unfoldable pub labels_in_branch : Branch → Labelled
  labels_in_branch = para-Branch Labelled Labelled Labelled (item_labels {B = BlockItem × Labelled} {X = Statement × Labelled} {R = Branch × Labelled} (λ x. x.1)) (statement_labels {B = BlockItem × Labelled} {X = Statement × Labelled} {R = Branch × Labelled} g (λ x. x.1) (λ x. x.1) (λ x. x.1)) (branch_labels {B = BlockItem × Labelled} {X = Statement × Labelled} {R = Branch × Labelled} (λ x. x.1))

  pub labels_of_item : (x : BlockItem) (k : Option IntType) → labels_in_item g x k
      ≡ item_labels {B = BlockItem × Labelled} {X = Statement × Labelled} {R = Branch × Labelled} (λ x. x.1) (map-BlockItem BlockItem Statement Branch (BlockItem × Labelled) (Statement × Labelled) (Branch × Labelled) (λ x. (x, labels_in_item g x)) (λ x. (x, labels_in_statement x)) (λ x. (x, labels_in_branch x)) (out-BlockItem x)) k
  unfolding labels_in_item labels_in_statement labels_in_branch
  labels_of_item x k = ap (λ y. labels_in_item g y k) (sym (roll-out-BlockItem x))
      ∙ ap (λ f. f k) (para-roll-BlockItem Labelled Labelled Labelled (item_labels {B = BlockItem × Labelled} {X = Statement × Labelled} {R = Branch × Labelled} (λ x. x.1)) (statement_labels {B = BlockItem × Labelled} {X = Statement × Labelled} {R = Branch × Labelled} g (λ x. x.1) (λ x. x.1) (λ x. x.1)) (branch_labels {B = BlockItem × Labelled} {X = Statement × Labelled} {R = Branch × Labelled} (λ x. x.1)) (out-BlockItem x))

  pub labels_of_statement : (x : Statement) (k : Option IntType) → labels_in_statement x k
      ≡ statement_labels {B = BlockItem × Labelled} {X = Statement × Labelled} {R = Branch × Labelled} g (λ x. x.1) (λ x. x.1) (λ x. x.1) (map-Statement BlockItem Statement Branch (BlockItem × Labelled) (Statement × Labelled) (Branch × Labelled) (λ x. (x, labels_in_item g x)) (λ x. (x, labels_in_statement x)) (λ x. (x, labels_in_branch x)) (out-Statement x)) k
  unfolding labels_in_item labels_in_statement labels_in_branch
  labels_of_statement x k = ap (λ y. labels_in_statement y k) (sym (roll-out-Statement x))
      ∙ ap (λ f. f k) (para-roll-Statement Labelled Labelled Labelled (item_labels {B = BlockItem × Labelled} {X = Statement × Labelled} {R = Branch × Labelled} (λ x. x.1)) (statement_labels {B = BlockItem × Labelled} {X = Statement × Labelled} {R = Branch × Labelled} g (λ x. x.1) (λ x. x.1) (λ x. x.1)) (branch_labels {B = BlockItem × Labelled} {X = Statement × Labelled} {R = Branch × Labelled} (λ x. x.1)) (out-Statement x))
