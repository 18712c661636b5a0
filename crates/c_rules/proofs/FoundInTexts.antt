-- Where a text breaks no rule, what is found in it has a property that what is found in its full expressions and declared names
-- has.
use Rattle.std.proofs.Common.{◌≡◌, Bool, true, false, List, [], ◌∷◌, ◌++◌, map, Option, Some, None, ap, sym, subst, ◌∙◌}
use Rattle.c_tree.specs.declared.expression.Expression.{Expression}
use Rattle.c_tree.specs.declared.expression.Specifier.{Specifier}
use Rattle.c_tree.specs.declared.expression.Declarator.{Declarator}
use Rattle.c_tree.specs.declared.declaration.Declared.{Declared}
use Rattle.c_tree.specs.declared.declaration.Declaration.{Declaration}
use Rattle.c_tree.specs.declared.declaration.External.{External}
use Rattle.c_tree.specs.declared.declaration.External.TheVariants as external
use Rattle.c_tree.specs.declared.statement.Statement.{Statement}
use Rattle.c_tree.specs.declared.statement.Branch.{Branch}
use Rattle.c_tree.specs.declared.statement.BlockItem.{BlockItem}
use Rattle.c_tree.specs.declared.statement.BlockItem.TheOpen.{Statement-F, BlockItem-F, Branch-F}
use Rattle.c_tree.specs.declared.statement.BlockItem.TheOpen.{Statement-F as t, BlockItem-F as b}
use Rattle.c_tree.specs.declared.statement.BlockItem.TheViews.{roll-BlockItem, roll-Statement, roll-Branch}
use Rattle.c_tree.specs.declared.statement.BlockItem.TheFolds.{map-BlockItem, map-Statement, map-Branch, para-BlockItem, para-Statement, para-Branch, para-roll-BlockItem, para-roll-Statement, para-roll-Branch, ind-BlockItem}
use Rattle.c_tree.specs.declared.statement.ForStart.{ForStart}
use Rattle.c_tree.specs.declared.statement.ForStart.TheVariants as start
use Rattle.c_kinds.specs.declared.typed.Typed.{Typed}
use Rattle.c_kinds.specs.declared.answer.Answer.{Answer}
use Rattle.c_rules.specs.Broken.{of_each, of_option}
use Rattle.c_rules.specs.Typing.{Given}
use Rattle.c_rules.specs.Recursion.{of_specifier}
use Rattle.c_rules.specs.Expressions.{judging, broken_value, broken_declarator, is_used}
use Rattle.c_rules.specs.Initialisers.{declared_pairs, broken_declaration}
use Rattle.c_rules.specs.Statements.{Near, Judged, item_pairs, statement_pairs, branch_pairs, judge_item, start_pairs, broken_external}
use Rattle.c_rules.specs.Found.{Look, found_in_declaration, found_in_start, item_found, statement_found, branch_found, found_in_item, found_in_external}
use Rattle.c_rules.proofs.Empty.{first_empty, second_empty}

module _ {X : Type 0} (P : List X → Type 0) (none : P []) (joins : (xs ys : List X) → P xs → P ys → P (xs ++ ys)) (g : Given) (look : Look X)
    (expressions : (f : Typed → Answer) (x : Expression) → broken_value g x f ≡ [] → P (look.expression x))
    (specifiers : (x : Specifier) → of_specifier (judging g) x false ≡ [] → P (look.specifier x))
    (declarators : (x : Declarator) → broken_declarator g x ≡ [] → P (look.declarator x))
    (names : (b : Bool) (x : Declared) → declared_pairs g b x ≡ [] → P (look.declared x)) where
  both : {A : Type 0} → (xs ys : List A) (zs ws : List X) → (xs ≡ [] → P zs) → (ys ≡ [] → P ws) → xs ++ ys ≡ [] → P (zs ++ ws)
  both xs ys zs ws f k h = joins zs ws (f (first_empty xs ys h)) (k (second_empty xs ys h))

  all_have : {A B : Type 0} (j : A → List B) (s : A → List X) → ((x : A) → j x ≡ [] → P (s x)) → (xs : List A) → of_each j xs ≡ [] → P (of_each s xs)
  all_have j s f [] h = none
  all_have j s f (x ∷ xs) h = both _ _ _ _ (f x) (all_have j s f xs) h

  option_has : {A B : Type 0} (j : A → List B) (s : A → List X) → ((x : A) → j x ≡ [] → P (s x)) → (x : Option A) → of_option j x ≡ [] → P (of_option s x)
  option_has j s f None h = none
  option_has j s f (Some x) h = f x h

  declaration_clear : (b : Bool) (x : Declaration) → broken_declaration g b x ≡ [] → P (found_in_declaration look x)
  declaration_clear b x h = both _ _ _ _ (all_have _ look.specifier specifiers x.specifiers) (all_have _ look.declared (names _) x.names) h

  start_clear : (x : ForStart) → start_pairs g x ≡ [] → P (found_in_start look x)
  start_clear start.Nothing h = none
  start_clear (start.Value x) h = expressions is_used x h
  start_clear (start.Declared x) h = declaration_clear true x h

  -- ---- statements

  unfoldable judged : BlockItem → Judged
  judged = para-BlockItem Judged Judged Judged (item_pairs {B = BlockItem × Judged} {X = Statement × Judged} {R = Branch × Judged} g (λ x. x.1)) (statement_pairs {B = BlockItem × Judged} {X = Statement × Judged} {R = Branch × Judged} g (λ x. x.1) (λ x. x.1) (λ x. x.1)) (branch_pairs {B = BlockItem × Judged} {X = Statement × Judged} {R = Branch × Judged} g (λ x. x.1))

  unfoldable judged_statement : Statement → Judged
  judged_statement = para-Statement Judged Judged Judged (item_pairs {B = BlockItem × Judged} {X = Statement × Judged} {R = Branch × Judged} g (λ x. x.1)) (statement_pairs {B = BlockItem × Judged} {X = Statement × Judged} {R = Branch × Judged} g (λ x. x.1) (λ x. x.1) (λ x. x.1)) (branch_pairs {B = BlockItem × Judged} {X = Statement × Judged} {R = Branch × Judged} g (λ x. x.1))

  unfoldable judged_branch : Branch → Judged
  judged_branch = para-Branch Judged Judged Judged (item_pairs {B = BlockItem × Judged} {X = Statement × Judged} {R = Branch × Judged} g (λ x. x.1)) (statement_pairs {B = BlockItem × Judged} {X = Statement × Judged} {R = Branch × Judged} g (λ x. x.1) (λ x. x.1) (λ x. x.1)) (branch_pairs {B = BlockItem × Judged} {X = Statement × Judged} {R = Branch × Judged} g (λ x. x.1))

  unfoldable found_item : BlockItem → List X
  found_item = para-BlockItem (List X) (List X) (List X) (item_found {B = BlockItem × List X} {S = Statement × List X} {R = Branch × List X} look (λ x. x.1)) (statement_found {B = BlockItem × List X} {S = Statement × List X} {R = Branch × List X} look (λ x. x.1) (λ x. x.1) (λ x. x.1)) (branch_found {B = BlockItem × List X} {S = Statement × List X} {R = Branch × List X} look (λ x. x.1))

  unfoldable found_statement : Statement → List X
  found_statement = para-Statement (List X) (List X) (List X) (item_found {B = BlockItem × List X} {S = Statement × List X} {R = Branch × List X} look (λ x. x.1)) (statement_found {B = BlockItem × List X} {S = Statement × List X} {R = Branch × List X} look (λ x. x.1) (λ x. x.1) (λ x. x.1)) (branch_found {B = BlockItem × List X} {S = Statement × List X} {R = Branch × List X} look (λ x. x.1))

  unfoldable found_branch : Branch → List X
  found_branch = para-Branch (List X) (List X) (List X) (item_found {B = BlockItem × List X} {S = Statement × List X} {R = Branch × List X} look (λ x. x.1)) (statement_found {B = BlockItem × List X} {S = Statement × List X} {R = Branch × List X} look (λ x. x.1) (λ x. x.1) (λ x. x.1)) (branch_found {B = BlockItem × List X} {S = Statement × List X} {R = Branch × List X} look (λ x. x.1))

  abbrev ClearItem : BlockItem → Type 0
  ClearItem x = (near : Near) → (judged x).broken near ≡ [] → P (found_item x)

  abbrev ClearStatement : Statement → Type 0
  ClearStatement x = (near : Near) → (judged_statement x).broken near ≡ [] → P (found_statement x)

  abbrev ClearBranch : Branch → Type 0
  ClearBranch x = (near : Near) → (judged_branch x).broken near ≡ [] → P (found_branch x)

  items_clear : (near : Near) (ps : List ((x : BlockItem) × ClearItem x))
      → of_each (λ (x : BlockItem × Judged). x.1.broken near) (map (λ x. (x, judged x)) (map (λ p. p.0) ps)) ≡ []
      → P (of_each (λ (x : BlockItem × List X). x.1) (map (λ x. (x, found_item x)) (map (λ p. p.0) ps)))
  items_clear near [] h = none
  items_clear near (p ∷ ps) h = both _ _ _ _ (p.1 near) (items_clear near ps) h

  branches_clear : (near : Near) (ps : List ((x : Branch) × ClearBranch x))
      → of_each (λ (x : Branch × Judged). x.1.broken near) (map (λ x. (x, judged_branch x)) (map (λ p. p.0) ps)) ≡ []
      → P (of_each (λ (x : Branch × List X). x.1) (map (λ x. (x, found_branch x)) (map (λ p. p.0) ps)))
  branches_clear near [] h = none
  branches_clear near (p ∷ ps) h = both _ _ _ _ (p.1 near) (branches_clear near ps) h

  abbrev item_of : BlockItem-F ((x : BlockItem) × ClearItem x) ((x : Statement) × ClearStatement x) ((x : Branch) × ClearBranch x) → BlockItem-F BlockItem Statement Branch
  item_of = map-BlockItem ((x : BlockItem) × ClearItem x) ((x : Statement) × ClearStatement x) ((x : Branch) × ClearBranch x) BlockItem Statement Branch (λ p. p.0) (λ p. p.0) (λ p. p.0)

  abbrev item_judged : BlockItem-F BlockItem Statement Branch → BlockItem-F (BlockItem × Judged) (Statement × Judged) (Branch × Judged)
  item_judged = map-BlockItem BlockItem Statement Branch (BlockItem × Judged) (Statement × Judged) (Branch × Judged) (λ x. (x, judged x)) (λ x. (x, judged_statement x)) (λ x. (x, judged_branch x))

  abbrev item_answered : BlockItem-F BlockItem Statement Branch → BlockItem-F (BlockItem × List X) (Statement × List X) (Branch × List X)
  item_answered = map-BlockItem BlockItem Statement Branch (BlockItem × List X) (Statement × List X) (Branch × List X) (λ x. (x, found_item x)) (λ x. (x, found_statement x)) (λ x. (x, found_branch x))

  abbrev statement_of : Statement-F ((x : BlockItem) × ClearItem x) ((x : Statement) × ClearStatement x) ((x : Branch) × ClearBranch x) → Statement-F BlockItem Statement Branch
  statement_of = map-Statement ((x : BlockItem) × ClearItem x) ((x : Statement) × ClearStatement x) ((x : Branch) × ClearBranch x) BlockItem Statement Branch (λ p. p.0) (λ p. p.0) (λ p. p.0)

  abbrev statement_judged : Statement-F BlockItem Statement Branch → Statement-F (BlockItem × Judged) (Statement × Judged) (Branch × Judged)
  statement_judged = map-Statement BlockItem Statement Branch (BlockItem × Judged) (Statement × Judged) (Branch × Judged) (λ x. (x, judged x)) (λ x. (x, judged_statement x)) (λ x. (x, judged_branch x))

  abbrev statement_answered : Statement-F BlockItem Statement Branch → Statement-F (BlockItem × List X) (Statement × List X) (Branch × List X)
  statement_answered = map-Statement BlockItem Statement Branch (BlockItem × List X) (Statement × List X) (Branch × List X) (λ x. (x, found_item x)) (λ x. (x, found_statement x)) (λ x. (x, found_branch x))

  abbrev branch_of : Branch-F ((x : BlockItem) × ClearItem x) ((x : Statement) × ClearStatement x) ((x : Branch) × ClearBranch x) → Branch-F BlockItem Statement Branch
  branch_of = map-Branch ((x : BlockItem) × ClearItem x) ((x : Statement) × ClearStatement x) ((x : Branch) × ClearBranch x) BlockItem Statement Branch (λ p. p.0) (λ p. p.0) (λ p. p.0)

  abbrev branch_judged : Branch-F BlockItem Statement Branch → Branch-F (BlockItem × Judged) (Statement × Judged) (Branch × Judged)
  branch_judged = map-Branch BlockItem Statement Branch (BlockItem × Judged) (Statement × Judged) (Branch × Judged) (λ x. (x, judged x)) (λ x. (x, judged_statement x)) (λ x. (x, judged_branch x))

  abbrev branch_answered : Branch-F BlockItem Statement Branch → Branch-F (BlockItem × List X) (Statement × List X) (Branch × List X)
  branch_answered = map-Branch BlockItem Statement Branch (BlockItem × List X) (Statement × List X) (Branch × List X) (λ x. (x, found_item x)) (λ x. (x, found_statement x)) (λ x. (x, found_branch x))

  item_layer : (l : BlockItem-F ((x : BlockItem) × ClearItem x) ((x : Statement) × ClearStatement x) ((x : Branch) × ClearBranch x)) (near : Near)
      → (item_pairs g (λ x. x.1) (item_judged (item_of l))).broken near ≡ [] → P (item_found look (λ x. x.1) (item_answered (item_of l)))
  item_layer (b.Declared x) near h = declaration_clear true x (second_empty _ _ h)
  item_layer (b.Run x) near h = x.1 near h

  branch_layer : (l : Branch-F ((x : BlockItem) × ClearItem x) ((x : Statement) × ClearStatement x) ((x : Branch) × ClearBranch x)) (near : Near)
      → (branch_pairs g (λ x. x.1) (branch_judged (branch_of l))).broken near ≡ [] → P (branch_found look (λ x. x.1) (branch_answered (branch_of l)))
  branch_layer l near h = both _ _ _ _ (expressions _ l.test) (l.body.1 _) h

  statement_layer : (l : Statement-F ((x : BlockItem) × ClearItem x) ((x : Statement) × ClearStatement x) ((x : Branch) × ClearBranch x)) (near : Near)
      → (statement_pairs g (λ x. x.1) (λ x. x.1) (λ x. x.1) (statement_judged (statement_of l))).broken near ≡ []
      → P (statement_found look (λ x. x.1) (λ x. x.1) (λ x. x.1) (statement_answered (statement_of l)))
  statement_layer (t.Block xs at) near h = items_clear _ xs h
  statement_layer (t.Empty at) near h = none
  statement_layer (t.Value x at) near h = expressions is_used x h
  statement_layer (t.Label name body at) near h = body.1 _ h
  statement_layer (t.Case x body at) near h = joins _ _ (expressions is_used x (second_empty _ _ (first_empty _ _ (first_empty _ _ h)))) (body.1 _ (second_empty _ _ h))
  statement_layer (t.Default body at) near h = body.1 _ (second_empty _ _ h)
  statement_layer (t.If branches) near h = branches_clear near branches h
  statement_layer (t.IfElse branches otherwise) near h = both _ _ _ _ (branches_clear near branches) (otherwise.1 _) h
  statement_layer (t.Switch x body at) near h = joins _ _ (expressions _ x (first_empty _ _ (first_empty _ _ h))) (body.1 _ (second_empty _ _ h))
  statement_layer (t.While test body at) near h = both _ _ _ _ (expressions _ test) (body.1 _) h
  statement_layer (t.Do body test at) near h = both _ _ _ _ (body.1 _) (expressions _ test) h
  statement_layer (t.For first test step body at) near h =
      both _ _ _ _ (both _ _ _ _ (both _ _ _ _ (start_clear first) (option_has _ look.expression (expressions _) test)) (option_has _ look.expression (expressions _) step)) (body.1 _) h
  statement_layer (t.Break at) near h = none
  statement_layer (t.Continue at) near h = none
  statement_layer (t.Return x at) near h = option_has _ look.expression (expressions is_used) x (second_empty _ _ h)

  item_step : (l : BlockItem-F ((x : BlockItem) × ClearItem x) ((x : Statement) × ClearStatement x) ((x : Branch) × ClearBranch x)) → ClearItem (roll-BlockItem (item_of l))
  unfolding judged judged_statement judged_branch found_item found_statement found_branch
  item_step l near h =
      subst P (sym (para-roll-BlockItem (List X) (List X) (List X) (item_found {B = BlockItem × List X} {S = Statement × List X} {R = Branch × List X} look (λ x. x.1)) (statement_found {B = BlockItem × List X} {S = Statement × List X} {R = Branch × List X} look (λ x. x.1) (λ x. x.1) (λ x. x.1)) (branch_found {B = BlockItem × List X} {S = Statement × List X} {R = Branch × List X} look (λ x. x.1)) (item_of l)))
      (item_layer l near (sym (ap (λ x. x.broken near) (para-roll-BlockItem Judged Judged Judged (item_pairs {B = BlockItem × Judged} {X = Statement × Judged} {R = Branch × Judged} g (λ x. x.1)) (statement_pairs {B = BlockItem × Judged} {X = Statement × Judged} {R = Branch × Judged} g (λ x. x.1) (λ x. x.1) (λ x. x.1)) (branch_pairs {B = BlockItem × Judged} {X = Statement × Judged} {R = Branch × Judged} g (λ x. x.1)) (item_of l))) ∙ h))

  statement_step : (l : Statement-F ((x : BlockItem) × ClearItem x) ((x : Statement) × ClearStatement x) ((x : Branch) × ClearBranch x)) → ClearStatement (roll-Statement (statement_of l))
  unfolding judged judged_statement judged_branch found_item found_statement found_branch
  statement_step l near h =
      subst P (sym (para-roll-Statement (List X) (List X) (List X) (item_found {B = BlockItem × List X} {S = Statement × List X} {R = Branch × List X} look (λ x. x.1)) (statement_found {B = BlockItem × List X} {S = Statement × List X} {R = Branch × List X} look (λ x. x.1) (λ x. x.1) (λ x. x.1)) (branch_found {B = BlockItem × List X} {S = Statement × List X} {R = Branch × List X} look (λ x. x.1)) (statement_of l)))
      (statement_layer l near (sym (ap (λ x. x.broken near) (para-roll-Statement Judged Judged Judged (item_pairs {B = BlockItem × Judged} {X = Statement × Judged} {R = Branch × Judged} g (λ x. x.1)) (statement_pairs {B = BlockItem × Judged} {X = Statement × Judged} {R = Branch × Judged} g (λ x. x.1) (λ x. x.1) (λ x. x.1)) (branch_pairs {B = BlockItem × Judged} {X = Statement × Judged} {R = Branch × Judged} g (λ x. x.1)) (statement_of l))) ∙ h))

  branch_step : (l : Branch-F ((x : BlockItem) × ClearItem x) ((x : Statement) × ClearStatement x) ((x : Branch) × ClearBranch x)) → ClearBranch (roll-Branch (branch_of l))
  unfolding judged judged_statement judged_branch found_item found_statement found_branch
  branch_step l near h =
      subst P (sym (para-roll-Branch (List X) (List X) (List X) (item_found {B = BlockItem × List X} {S = Statement × List X} {R = Branch × List X} look (λ x. x.1)) (statement_found {B = BlockItem × List X} {S = Statement × List X} {R = Branch × List X} look (λ x. x.1) (λ x. x.1) (λ x. x.1)) (branch_found {B = BlockItem × List X} {S = Statement × List X} {R = Branch × List X} look (λ x. x.1)) (branch_of l)))
      (branch_layer l near (sym (ap (λ x. x.broken near) (para-roll-Branch Judged Judged Judged (item_pairs {B = BlockItem × Judged} {X = Statement × Judged} {R = Branch × Judged} g (λ x. x.1)) (statement_pairs {B = BlockItem × Judged} {X = Statement × Judged} {R = Branch × Judged} g (λ x. x.1) (λ x. x.1) (λ x. x.1)) (branch_pairs {B = BlockItem × Judged} {X = Statement × Judged} {R = Branch × Judged} g (λ x. x.1)) (branch_of l))) ∙ h))

  item_clear : (x : BlockItem) → ClearItem x
  item_clear = ind-BlockItem ClearItem ClearStatement ClearBranch
      (λ x y is. subst (λ l. ClearItem (roll-BlockItem l)) is (item_step y))
      (λ x y is. subst (λ l. ClearStatement (roll-Statement l)) is (statement_step y))
      (λ x y is. subst (λ l. ClearBranch (roll-Branch l)) is (branch_step y))

  body_clear : (near : Near) (x : BlockItem) → (judge_item g x).broken near ≡ [] → P (found_in_item look x)
  unfolding judge_item found_in_item judged found_item
  body_clear near x h = item_clear x near h

  -- ---- texts

  external_clear : (x : External) → broken_external g x ≡ [] → P (found_in_external look x)
  external_clear (external.Empty at) h = none
  external_clear (external.Declared x) h = declaration_clear false x h
  external_clear (external.Defined words inside body at) h =
      both _ _ _ _ (both _ _ _ _ (all_have _ look.specifier specifiers words) (declarators inside)) (all_have _ (found_in_item look) (body_clear _) body) h

  pub text_has : (xs : List External) → of_each (broken_external g) xs ≡ [] → P (of_each (found_in_external look) xs)
  text_has xs h = all_have (broken_external g) (found_in_external look) external_clear xs h
