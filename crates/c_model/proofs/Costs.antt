-- What each node costs, from what its parts cost.
use Rattle.std.proofs.Common.{◌≡◌, List, [], ◌∷◌, map, Option, Some, None, refl, ap, sym, ◌∙◌}
use Rattle.c_tree.specs.declared.declaration.Initialiser.{Initialiser, out-Initialiser}
use Rattle.c_tree.specs.declared.declaration.Initialiser.TheViews.{roll-Initialiser, roll-out-Initialiser}
use Rattle.c_tree.specs.declared.declaration.Initialiser.TheFolds.{map-Initialiser, fold-roll-Initialiser}
use Rattle.c_tree.specs.declared.declaration.Initialiser.TheOpen.{Initialiser-F}
use Rattle.c_tree.specs.declared.declaration.Initialiser.TheOpen.{Initialiser-F as i}
use Rattle.c_tree.specs.declared.expression.Declarator.TheOpen.{Expression-F as e}
use Rattle.c_tree.specs.declared.expression.Expression.{Expression, out-Expression}
use Rattle.c_tree.specs.declared.statement.BlockItem.{BlockItem, out-BlockItem}
use Rattle.c_tree.specs.declared.statement.BlockItem.TheFolds.{map-Statement, map-BlockItem, map-Branch, fold-roll-Statement, fold-roll-BlockItem, fold-roll-Branch}
use Rattle.c_tree.specs.declared.statement.BlockItem.TheOpen.{Branch-F}
use Rattle.c_tree.specs.declared.statement.BlockItem.TheOpen.{Statement-F as t, BlockItem-F as b}
use Rattle.c_tree.specs.declared.statement.BlockItem.TheViews.{roll-Statement, roll-out-Statement, roll-BlockItem, roll-out-BlockItem, roll-Branch, roll-out-Branch}
use Rattle.c_tree.specs.declared.statement.Branch.{Branch, out-Branch}
use Rattle.c_tree.specs.declared.statement.Statement.{Statement, out-Statement}
use Rattle.c_rules.specs.declared.program.Program.{Program}
use Rattle.c_rules.specs.Recursion.{of_expression}
use Rattle.c_rules.proofs.Recursion.{expression_beside, expression_is}
use Rattle.c_model.specs.Programs.{ExpressionNode, StatementNode, ItemNode}
use Rattle.c_model.specs.Functions.{called}
use Rattle.c_model.specs.Programs.{token_of, meaning_at}
use Rattle.c_model.specs.Costs.{Cost, Both, more, all_costs, call_cost, value_cost, costing, expression_cost, initialiser_node, initialiser_cost, Size, unlabelled, rest_cost, labels_cost, search_cost, branches_cost, otherwise_cost, item_node, statement_node, branch_node, statement_size, item_size, branch_size}

abbrev beside : Program → Expression → Expression × Cost
beside p x = (x, of_expression (costing p) x)

costs_mapped : {X Y : Type 0} (g : Y → Cost) (f : X → Y) (xs : List X) → all_costs g (map f xs) ≡ all_costs (λ x. g (f x)) xs
costs_mapped g f [] = refl
costs_mapped g f (x ∷ xs) = ap (λ n. more 2 (Both (g (f x)) n)) (costs_mapped g f xs)

search_mapped : {X : Type 0} (f : X → Size) (xs : List X) → search_cost (λ w. w) (map f xs) ≡ search_cost f xs
search_mapped f [] = refl
search_mapped f (x ∷ xs) =
    ap (λ r. more 2 (Both (labels_cost (f x).labels (more 2 (Both (f x).cost r))) (search_cost (λ w. w) (map f xs)))) (costs_mapped (λ w. w.cost) f xs)
    ∙ ap (λ n. more 2 (Both (labels_cost (f x).labels (rest_cost f (x ∷ xs))) n)) (search_mapped f xs)

branches_mapped : {X R : Type 0} (f : X → Size) (g : R → Cost) (xs : List R) (o : Option X) (o' : Option Size) → otherwise_cost (λ w. w) o' ≡ otherwise_cost f o
    → branches_cost (λ w. w) (λ n. n) (map g xs) o' ≡ branches_cost f g xs o
branches_mapped f g [] o o' e = ap (λ n. more 1 n) e
branches_mapped f g (x ∷ xs) o o' e = ap (λ n. more 3 (Both (g x) n)) (branches_mapped f g xs o o' e)

module _ (p : Program) where
  node_same : (l : ExpressionNode) → value_cost p (λ x. x.1) (λ x. x.0) (expression_beside (costing p) l) 0 ≡ value_cost p (expression_cost p) (λ x. x) l 0
  unfolding expression_cost
  node_same (e.Call function arguments at) = ap (λ n. more 1 (Both (call_cost (called p (meaning_at p (token_of function)))) n)) (costs_mapped (λ (x : Expression × Cost). x.1) (beside p) arguments)
  node_same (e.Comma parts at) = ap (λ n. more 1 n) (costs_mapped (λ (x : Expression × Cost). x.1) (beside p) parts)
  node_same _ = refl

  pub of_expression_is : (x : Expression) → expression_cost p x ≡ value_cost p (expression_cost p) (λ y. y) (out-Expression x) 0
  unfolding expression_cost
  of_expression_is x = expression_is (costing p) x ∙ node_same (out-Expression x)

  pub same_initialiser : (l : Initialiser-F Initialiser) → initialiser_node p (λ w. w) (map-Initialiser Initialiser Cost (initialiser_cost p) l) ≡ initialiser_node p (initialiser_cost p) l
  same_initialiser (i.Value value at) = refl
  same_initialiser (i.Braces parts at) = ap (λ n. more 2 n) (costs_mapped (λ w. w) (initialiser_cost p) parts)

  pub rolled_initialiser : (l : Initialiser-F Initialiser) → initialiser_cost p (roll-Initialiser l) ≡ initialiser_node p (λ w. w) (map-Initialiser Initialiser Cost (initialiser_cost p) l)
  unfolding initialiser_cost
  rolled_initialiser l = fold-roll-Initialiser Cost (initialiser_node p (λ w. w)) l

  pub of_initialiser_is : (x : Initialiser) → initialiser_cost p x ≡ initialiser_node p (initialiser_cost p) (out-Initialiser x)
  of_initialiser_is x = ap (initialiser_cost p) (sym (roll-out-Initialiser x)) ∙ (rolled_initialiser (out-Initialiser x) ∙ same_initialiser (out-Initialiser x))

  pub rolled_item : (l : ItemNode) → item_size p (roll-BlockItem l) ≡ item_node p (λ w. w) (map-BlockItem BlockItem Statement Branch Size Size Cost (item_size p) (statement_size p) (branch_size p) l)
  unfolding item_size statement_size branch_size
  rolled_item l = fold-roll-BlockItem Size Size Cost (item_node p (λ w. w)) (statement_node p (λ w. w) (λ w. w) (λ w. w)) (branch_node p (λ w. w)) l

  pub rolled_statement : (l : StatementNode) → statement_size p (roll-Statement l) ≡ statement_node p (λ w. w) (λ w. w) (λ w. w) (map-Statement BlockItem Statement Branch Size Size Cost (item_size p) (statement_size p) (branch_size p) l)
  unfolding item_size statement_size branch_size
  rolled_statement l = fold-roll-Statement Size Size Cost (item_node p (λ w. w)) (statement_node p (λ w. w) (λ w. w) (λ w. w)) (branch_node p (λ w. w)) l

  pub rolled_branch : (l : Branch-F BlockItem Statement Branch) → branch_size p (roll-Branch l) ≡ branch_node p (λ w. w) (map-Branch BlockItem Statement Branch Size Size Cost (item_size p) (statement_size p) (branch_size p) l)
  unfolding item_size statement_size branch_size
  rolled_branch l = fold-roll-Branch Size Size Cost (item_node p (λ w. w)) (statement_node p (λ w. w) (λ w. w) (λ w. w)) (branch_node p (λ w. w)) l

  pub same_statement : (l : StatementNode) → statement_node p (λ w. w) (λ w. w) (λ w. w) (map-Statement BlockItem Statement Branch Size Size Cost (item_size p) (statement_size p) (branch_size p) l) ≡ statement_node p (item_size p) (statement_size p) (branch_size p) l
  same_statement (t.Block items at) = ap (λ r. unlabelled (more 4 (Both r (search_cost (λ w. w) (map (item_size p) items))))) (costs_mapped (λ w. w.cost) (item_size p) items) ∙ ap (λ n. unlabelled (more 4 (Both (rest_cost (item_size p) items) n))) (search_mapped (item_size p) items)
  same_statement (t.If branches) = ap (λ n. unlabelled (more 1 n)) (branches_mapped (statement_size p) (branch_size p) branches None None refl)
  same_statement (t.IfElse branches otherwise) = ap (λ n. unlabelled (more 1 n)) (branches_mapped (statement_size p) (branch_size p) branches (Some otherwise) (Some (statement_size p otherwise)) refl)
  same_statement _ = refl

  pub same_item : (l : ItemNode) → item_node p (λ w. w) (map-BlockItem BlockItem Statement Branch Size Size Cost (item_size p) (statement_size p) (branch_size p) l) ≡ item_node p (statement_size p) l
  same_item (b.Declared declaration) = refl
  same_item (b.Run statement) = refl

  pub of_statement_is : (x : Statement) → statement_size p x ≡ statement_node p (item_size p) (statement_size p) (branch_size p) (out-Statement x)
  of_statement_is x = ap (statement_size p) (sym (roll-out-Statement x)) ∙ (rolled_statement (out-Statement x) ∙ same_statement (out-Statement x))

  pub of_item_is : (x : BlockItem) → item_size p x ≡ item_node p (statement_size p) (out-BlockItem x)
  of_item_is x = ap (item_size p) (sym (roll-out-BlockItem x)) ∙ (rolled_item (out-BlockItem x) ∙ same_item (out-BlockItem x))

  pub of_branch_is : (x : Branch) → branch_size p x ≡ branch_node p (statement_size p) (out-Branch x)
  of_branch_is x = ap (branch_size p) (sym (roll-out-Branch x)) ∙ rolled_branch (out-Branch x)
