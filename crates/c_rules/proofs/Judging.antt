-- What statements break, from what their parts do.
use Rattle.std.proofs.Common.{◌≡◌, Bool, List, Option, ap, sym, ◌∙◌}
use Rattle.kv_num.specs.declared.types.IntType.{IntType}
use Rattle.c_tree.specs.declared.expression.Expression.{Expression, out-Expression}
use Rattle.c_tree.specs.declared.expression.Specifier.{Specifier, out-Specifier}
use Rattle.c_tree.specs.declared.declaration.Initialiser.{Initialiser, out-Initialiser}
use Rattle.c_tree.specs.declared.declaration.Initialiser.TheViews.{roll-out-Initialiser}
use Rattle.c_tree.specs.declared.declaration.Initialiser.TheFolds.{map-Initialiser, para-roll-Initialiser}
use Rattle.c_tree.specs.declared.statement.Statement.{Statement, out-Statement}
use Rattle.c_tree.specs.declared.statement.Branch.{Branch, out-Branch}
use Rattle.c_tree.specs.declared.statement.BlockItem.{BlockItem, out-BlockItem}
use Rattle.c_tree.specs.declared.statement.BlockItem.TheOpen.{Statement-F, BlockItem-F, Branch-F}
use Rattle.c_tree.specs.declared.statement.BlockItem.TheViews.{roll-out-BlockItem, roll-out-Statement, roll-out-Branch}
use Rattle.c_tree.specs.declared.statement.BlockItem.TheFolds.{map-BlockItem, map-Statement, map-Branch, para-Statement, para-Branch, para-roll-BlockItem, para-roll-Statement, para-roll-Branch}
use Rattle.c_rules.specs.Recursion.{of_expression, of_specifier}
use Rattle.c_rules.specs.declared.names.Pair.{Pair}
use Rattle.c_rules.specs.Initialisers.{Initialised, initialiser_pairs, broken_initialiser}
use Rattle.c_rules.specs.Typing.{Given}
use Rattle.c_rules.specs.Expressions.{in_specifier, expression_pairs, judging}
use Rattle.c_rules.specs.Effects.{effect_node, tracing}
use Rattle.c_rules.proofs.Recursion.{expression_beside, specifier_beside, expression_is, specifier_is}
use Rattle.c_rules.specs.Statements.{Near, Judged, item_pairs, statement_pairs, branch_pairs, judge_item}

-- ---- expressions and specifiers

pub expression_breaks : (g : Given) (x : Expression) (u : Bool) → of_expression (judging g) x u ≡ expression_pairs g (λ x. x.0) (λ x. x.1) (λ x. x.1) (expression_beside (judging g) (out-Expression x)) u
expression_breaks g x u = ap (λ f. f u) (expression_is (judging g) x)

pub specifier_breaks : (g : Given) (x : Specifier) (u : Bool) → of_specifier (judging g) x u ≡ in_specifier (λ x. x.1) (λ x. x.1) (specifier_beside (judging g) (out-Specifier x)) u
specifier_breaks g x u = ap (λ f. f u) (specifier_is (judging g) x)

pub effect_is : (g : Given) (x : Expression) (u : Bool) → of_expression (tracing g) x u ≡ effect_node g (λ x. x.1) (λ x. x.0) (λ x. x.1) (expression_beside (tracing g) (out-Expression x)) u
effect_is g x u = ap (λ f. f u) (expression_is (tracing g) x)

pub initialiser_breaks : (g : Given) (x : Initialiser) (y : Initialised) → broken_initialiser g x y
    ≡ initialiser_pairs g (λ p. p.1) (map-Initialiser Initialiser (Initialiser × (Initialised → List Pair)) (λ p. (p, broken_initialiser g p)) (out-Initialiser x)) y
unfolding broken_initialiser
initialiser_breaks g x y =
    ap (λ p. broken_initialiser g p y) (sym (roll-out-Initialiser x))
    ∙ ap (λ f. f y) (para-roll-Initialiser (Initialised → List Pair) (initialiser_pairs {I = Initialiser × (Initialised → List Pair)} g (λ p. p.1)) (out-Initialiser x))

-- ---- statements

module _ (g : Given) where
  unfoldable pub judge_statement : Statement → Judged
  judge_statement = para-Statement Judged Judged Judged (item_pairs {B = BlockItem × Judged} {X = Statement × Judged} {R = Branch × Judged} g (λ x. x.1)) (statement_pairs {B = BlockItem × Judged} {X = Statement × Judged} {R = Branch × Judged} g (λ x. x.1) (λ x. x.1) (λ x. x.1)) (branch_pairs {B = BlockItem × Judged} {X = Statement × Judged} {R = Branch × Judged} g (λ x. x.1))

  unfoldable pub judge_branch : Branch → Judged
  judge_branch = para-Branch Judged Judged Judged (item_pairs {B = BlockItem × Judged} {X = Statement × Judged} {R = Branch × Judged} g (λ x. x.1)) (statement_pairs {B = BlockItem × Judged} {X = Statement × Judged} {R = Branch × Judged} g (λ x. x.1) (λ x. x.1) (λ x. x.1)) (branch_pairs {B = BlockItem × Judged} {X = Statement × Judged} {R = Branch × Judged} g (λ x. x.1))

  abbrev pub item_beside : BlockItem-F BlockItem Statement Branch → BlockItem-F (BlockItem × Judged) (Statement × Judged) (Branch × Judged)
  item_beside = map-BlockItem BlockItem Statement Branch (BlockItem × Judged) (Statement × Judged) (Branch × Judged) (λ x. (x, judge_item g x)) (λ x. (x, judge_statement x)) (λ x. (x, judge_branch x))

  pub item_is : (x : BlockItem) → judge_item g x ≡ item_pairs {B = BlockItem × Judged} {X = Statement × Judged} {R = Branch × Judged} g (λ x. x.1) (item_beside (out-BlockItem x))
  unfolding judge_item judge_statement judge_branch
  item_is x = ap (judge_item g) (sym (roll-out-BlockItem x)) ∙ para-roll-BlockItem Judged Judged Judged (item_pairs {B = BlockItem × Judged} {X = Statement × Judged} {R = Branch × Judged} g (λ x. x.1)) (statement_pairs {B = BlockItem × Judged} {X = Statement × Judged} {R = Branch × Judged} g (λ x. x.1) (λ x. x.1) (λ x. x.1)) (branch_pairs {B = BlockItem × Judged} {X = Statement × Judged} {R = Branch × Judged} g (λ x. x.1)) (out-BlockItem x)

  abbrev pub statement_beside : Statement-F BlockItem Statement Branch → Statement-F (BlockItem × Judged) (Statement × Judged) (Branch × Judged)
  statement_beside = map-Statement BlockItem Statement Branch (BlockItem × Judged) (Statement × Judged) (Branch × Judged) (λ x. (x, judge_item g x)) (λ x. (x, judge_statement x)) (λ x. (x, judge_branch x))

  pub statement_is : (x : Statement) → judge_statement x ≡ statement_pairs {B = BlockItem × Judged} {X = Statement × Judged} {R = Branch × Judged} g (λ x. x.1) (λ x. x.1) (λ x. x.1) (statement_beside (out-Statement x))
  unfolding judge_item judge_statement judge_branch
  statement_is x = ap (judge_statement) (sym (roll-out-Statement x)) ∙ para-roll-Statement Judged Judged Judged (item_pairs {B = BlockItem × Judged} {X = Statement × Judged} {R = Branch × Judged} g (λ x. x.1)) (statement_pairs {B = BlockItem × Judged} {X = Statement × Judged} {R = Branch × Judged} g (λ x. x.1) (λ x. x.1) (λ x. x.1)) (branch_pairs {B = BlockItem × Judged} {X = Statement × Judged} {R = Branch × Judged} g (λ x. x.1)) (out-Statement x)

  abbrev pub branch_beside : Branch-F BlockItem Statement Branch → Branch-F (BlockItem × Judged) (Statement × Judged) (Branch × Judged)
  branch_beside = map-Branch BlockItem Statement Branch (BlockItem × Judged) (Statement × Judged) (Branch × Judged) (λ x. (x, judge_item g x)) (λ x. (x, judge_statement x)) (λ x. (x, judge_branch x))

  pub branch_is : (x : Branch) → judge_branch x ≡ branch_pairs {B = BlockItem × Judged} {X = Statement × Judged} {R = Branch × Judged} g (λ x. x.1) (branch_beside (out-Branch x))
  unfolding judge_item judge_statement judge_branch
  branch_is x = ap (judge_branch) (sym (roll-out-Branch x)) ∙ para-roll-Branch Judged Judged Judged (item_pairs {B = BlockItem × Judged} {X = Statement × Judged} {R = Branch × Judged} g (λ x. x.1)) (statement_pairs {B = BlockItem × Judged} {X = Statement × Judged} {R = Branch × Judged} g (λ x. x.1) (λ x. x.1) (λ x. x.1)) (branch_pairs {B = BlockItem × Judged} {X = Statement × Judged} {R = Branch × Judged} g (λ x. x.1)) (out-Branch x)

  -- field by field
  pub item_breaks : (x : BlockItem) (near : Near) → (judge_item g x).broken near ≡ (item_pairs {B = BlockItem × Judged} {X = Statement × Judged} {R = Branch × Judged} g (λ x. x.1) (item_beside (out-BlockItem x))).broken near
  item_breaks x near = ap (λ r. r.broken near) (item_is x)

  pub item_labels : (x : BlockItem) (k : Option IntType) → (judge_item g x).labels k ≡ (item_pairs {B = BlockItem × Judged} {X = Statement × Judged} {R = Branch × Judged} g (λ x. x.1) (item_beside (out-BlockItem x))).labels k
  item_labels x k = ap (λ r. r.labels k) (item_is x)

  pub item_inside : (x : BlockItem) (k : Option IntType) → (judge_item g x).in_block k ≡ (item_pairs {B = BlockItem × Judged} {X = Statement × Judged} {R = Branch × Judged} g (λ x. x.1) (item_beside (out-BlockItem x))).in_block k
  item_inside x k = ap (λ r. r.in_block k) (item_is x)

  pub statement_breaks : (x : Statement) (near : Near) → (judge_statement x).broken near ≡ (statement_pairs {B = BlockItem × Judged} {X = Statement × Judged} {R = Branch × Judged} g (λ x. x.1) (λ x. x.1) (λ x. x.1) (statement_beside (out-Statement x))).broken near
  statement_breaks x near = ap (λ r. r.broken near) (statement_is x)

  pub statement_labels : (x : Statement) (k : Option IntType) → (judge_statement x).labels k ≡ (statement_pairs {B = BlockItem × Judged} {X = Statement × Judged} {R = Branch × Judged} g (λ x. x.1) (λ x. x.1) (λ x. x.1) (statement_beside (out-Statement x))).labels k
  statement_labels x k = ap (λ r. r.labels k) (statement_is x)

  pub statement_inside : (x : Statement) (k : Option IntType) → (judge_statement x).in_block k ≡ (statement_pairs {B = BlockItem × Judged} {X = Statement × Judged} {R = Branch × Judged} g (λ x. x.1) (λ x. x.1) (λ x. x.1) (statement_beside (out-Statement x))).in_block k
  statement_inside x k = ap (λ r. r.in_block k) (statement_is x)

  pub branch_breaks : (x : Branch) (near : Near) → (judge_branch x).broken near ≡ (branch_pairs {B = BlockItem × Judged} {X = Statement × Judged} {R = Branch × Judged} g (λ x. x.1) (branch_beside (out-Branch x))).broken near
  branch_breaks x near = ap (λ r. r.broken near) (branch_is x)
