-- What is found in a statement, from what is found in its parts.
use Rattle.std.proofs.Common.{◌≡◌, List, ap, sym, ◌∙◌}
use Rattle.c_tree.specs.declared.statement.Statement.{Statement, out-Statement}
use Rattle.c_tree.specs.declared.statement.Branch.{Branch, out-Branch}
use Rattle.c_tree.specs.declared.statement.BlockItem.{BlockItem, out-BlockItem}
use Rattle.c_tree.specs.declared.statement.BlockItem.TheOpen.{Statement-F, BlockItem-F, Branch-F}
use Rattle.c_tree.specs.declared.statement.BlockItem.TheViews.{roll-out-BlockItem, roll-out-Statement, roll-out-Branch}
use Rattle.c_tree.specs.declared.statement.BlockItem.TheFolds.{map-BlockItem, map-Statement, map-Branch, para-Statement, para-Branch, para-roll-BlockItem, para-roll-Statement, para-roll-Branch}
use Rattle.c_rules.specs.Found.{Look, item_found, statement_found, branch_found, found_in_item}

module _ {X : Type 0} (l : Look X) where
  unfoldable pub found_in_statement : Statement → List X
  found_in_statement = para-Statement (List X) (List X) (List X) (item_found {B = BlockItem × List X} {S = Statement × List X} {R = Branch × List X} l (λ x. x.1)) (statement_found {B = BlockItem × List X} {S = Statement × List X} {R = Branch × List X} l (λ x. x.1) (λ x. x.1) (λ x. x.1)) (branch_found {B = BlockItem × List X} {S = Statement × List X} {R = Branch × List X} l (λ x. x.1))

  unfoldable pub found_in_branch : Branch → List X
  found_in_branch = para-Branch (List X) (List X) (List X) (item_found {B = BlockItem × List X} {S = Statement × List X} {R = Branch × List X} l (λ x. x.1)) (statement_found {B = BlockItem × List X} {S = Statement × List X} {R = Branch × List X} l (λ x. x.1) (λ x. x.1) (λ x. x.1)) (branch_found {B = BlockItem × List X} {S = Statement × List X} {R = Branch × List X} l (λ x. x.1))

  abbrev pub item_beside : BlockItem-F BlockItem Statement Branch → BlockItem-F (BlockItem × List X) (Statement × List X) (Branch × List X)
  item_beside = map-BlockItem BlockItem Statement Branch (BlockItem × List X) (Statement × List X) (Branch × List X) (λ x. (x, found_in_item l x)) (λ x. (x, found_in_statement x)) (λ x. (x, found_in_branch x))

  abbrev pub statement_beside : Statement-F BlockItem Statement Branch → Statement-F (BlockItem × List X) (Statement × List X) (Branch × List X)
  statement_beside = map-Statement BlockItem Statement Branch (BlockItem × List X) (Statement × List X) (Branch × List X) (λ x. (x, found_in_item l x)) (λ x. (x, found_in_statement x)) (λ x. (x, found_in_branch x))

  abbrev pub branch_beside : Branch-F BlockItem Statement Branch → Branch-F (BlockItem × List X) (Statement × List X) (Branch × List X)
  branch_beside = map-Branch BlockItem Statement Branch (BlockItem × List X) (Statement × List X) (Branch × List X) (λ x. (x, found_in_item l x)) (λ x. (x, found_in_statement x)) (λ x. (x, found_in_branch x))

  pub item_finds : (x : BlockItem) → found_in_item l x ≡ item_found {B = BlockItem × List X} {S = Statement × List X} {R = Branch × List X} l (λ x. x.1) (item_beside (out-BlockItem x))
  unfolding found_in_item found_in_statement found_in_branch
  item_finds x = ap (found_in_item l) (sym (roll-out-BlockItem x)) ∙ para-roll-BlockItem (List X) (List X) (List X) (item_found {B = BlockItem × List X} {S = Statement × List X} {R = Branch × List X} l (λ x. x.1)) (statement_found {B = BlockItem × List X} {S = Statement × List X} {R = Branch × List X} l (λ x. x.1) (λ x. x.1) (λ x. x.1)) (branch_found {B = BlockItem × List X} {S = Statement × List X} {R = Branch × List X} l (λ x. x.1)) (out-BlockItem x)

  pub statement_finds : (x : Statement) → found_in_statement x ≡ statement_found {B = BlockItem × List X} {S = Statement × List X} {R = Branch × List X} l (λ x. x.1) (λ x. x.1) (λ x. x.1) (statement_beside (out-Statement x))
  unfolding found_in_item found_in_statement found_in_branch
  statement_finds x = ap found_in_statement (sym (roll-out-Statement x)) ∙ para-roll-Statement (List X) (List X) (List X) (item_found {B = BlockItem × List X} {S = Statement × List X} {R = Branch × List X} l (λ x. x.1)) (statement_found {B = BlockItem × List X} {S = Statement × List X} {R = Branch × List X} l (λ x. x.1) (λ x. x.1) (λ x. x.1)) (branch_found {B = BlockItem × List X} {S = Statement × List X} {R = Branch × List X} l (λ x. x.1)) (out-Statement x)

  pub branch_finds : (x : Branch) → found_in_branch x ≡ branch_found {B = BlockItem × List X} {S = Statement × List X} {R = Branch × List X} l (λ x. x.1) (branch_beside (out-Branch x))
  unfolding found_in_item found_in_statement found_in_branch
  branch_finds x = ap found_in_branch (sym (roll-out-Branch x)) ∙ para-roll-Branch (List X) (List X) (List X) (item_found {B = BlockItem × List X} {S = Statement × List X} {R = Branch × List X} l (λ x. x.1)) (statement_found {B = BlockItem × List X} {S = Statement × List X} {R = Branch × List X} l (λ x. x.1) (λ x. x.1) (λ x. x.1)) (branch_found {B = BlockItem × List X} {S = Statement × List X} {R = Branch × List X} l (λ x. x.1)) (out-Branch x)
