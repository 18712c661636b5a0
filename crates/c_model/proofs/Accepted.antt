-- An accepted program's functions have ranks: each is above those that it may call before it arrives at a loop.
use Rattle.std.specs.List.{All}
use Rattle.std.proofs.Common.{◌≡◌, ℕ, zero, suc, ◌<◌, Bool, true, false, cond, List, [], ◌∷◌, ◌++◌, map, Option, Some, None, refl, ap, sym, subst, ◌∙◌, ◌⊎◌, inl, inr, ⊎_elim}
use Rattle.std.proofs.lemmas.Bool.{eqb-true}
use Rattle.std.proofs.lemmas.List.Elements.{All-head, All-tail}
use Rattle.c_tree.specs.declared.declaration.Declaration.{Declaration}
use Rattle.c_tree.specs.declared.declaration.Declared.{Declared}
use Rattle.c_tree.specs.declared.declaration.Declared.TheVariants as declared
use Rattle.c_tree.specs.declared.declaration.External.{External}
use Rattle.c_tree.specs.declared.declaration.External.TheVariants as external
use Rattle.c_tree.specs.declared.declaration.Initialiser.{Initialiser}
use Rattle.c_tree.specs.declared.declaration.Initialiser.TheFolds.{map-Initialiser, para-roll-Initialiser, ind-Initialiser}
use Rattle.c_tree.specs.declared.declaration.Initialiser.TheOpen.{Initialiser-F}
use Rattle.c_tree.specs.declared.declaration.Initialiser.TheOpen.{Initialiser-F as i}
use Rattle.c_tree.specs.declared.declaration.Initialiser.TheViews.{roll-Initialiser}
use Rattle.c_tree.specs.declared.expression.Declarator.{Declarator}
use Rattle.c_tree.specs.declared.expression.Expression.{Expression}
use Rattle.c_tree.specs.declared.expression.Specifier.{Specifier}
use Rattle.c_tree.specs.declared.statement.BlockItem.{BlockItem}
use Rattle.c_tree.specs.declared.statement.BlockItem.TheFolds.{map-BlockItem, map-Statement, map-Branch, para-BlockItem, para-Statement, para-Branch, para-roll-BlockItem, para-roll-Statement, para-roll-Branch, ind-BlockItem}
use Rattle.c_tree.specs.declared.statement.BlockItem.TheOpen.{Statement-F, BlockItem-F, Branch-F}
use Rattle.c_tree.specs.declared.statement.BlockItem.TheOpen.{Statement-F as t, BlockItem-F as b}
use Rattle.c_tree.specs.declared.statement.BlockItem.TheViews.{roll-BlockItem, roll-Statement, roll-Branch}
use Rattle.c_tree.specs.declared.statement.Branch.{Branch}
use Rattle.c_tree.specs.declared.statement.ForStart.{ForStart}
use Rattle.c_tree.specs.declared.statement.ForStart.TheVariants as start
use Rattle.c_tree.specs.declared.statement.Statement.{Statement}
use Rattle.c_rules.specs.declared.names.Meaning.{Meaning}
use Rattle.c_rules.specs.declared.names.Meaning.TheVariants as meaning
use Rattle.c_rules.specs.declared.program.Program.{Program}
use Rattle.c_rules.specs.Accepted.{given_in, given_of, IsAcceptedProgram}
use Rattle.c_rules.specs.Broken.{of_each, of_option}
use Rattle.c_rules.specs.Effects.{Called as Call, asked_all, asked_of_value, effect_of, asked_in_specifier, asked_in_declarator}
use Rattle.c_rules.specs.Found.{AnswerAt, answering, looking, initialiser_found, found_in_initialiser, found_in_declared, found_in_declaration, found_in_start, item_found, statement_found, branch_found, found_in_item, found_in_external}
use Rattle.c_rules.specs.Initialisers.{name_at}
use Rattle.c_rules.specs.Laws.{IsOfLowerRank}
use Rattle.c_rules.specs.Recursion.{of_expression, of_specifier, of_declarator}
use Rattle.c_rules.specs.Sequencing.{Done, DoneIn, done_all, full_expression, optional_expression, initialiser_done, done_in_initialiser, declared_done, declaration_done, start_done, item_done, statement_done, branch_done, done_in_item, function_meant, done_in_external, done_in_text}
use Rattle.c_rules.specs.Texts.{names_of}
use Rattle.c_rules.proofs.Calls.{calls_descend}
use Rattle.c_rules.proofs.Texts.{text_clear}
use Rattle.c_rules.proofs.Typed.{AllTyped, first_typed, second_typed}
use Rattle.c_model.specs.Functions.{is_function_numbered, body_in}
use Rattle.c_model.specs.Programs.{meaning_at, declares}
use Rattle.c_model.specs.Costs.{Cost, all_costs, expression_cost, initialiser_cost, initialiser_node, plain_cost, declared_cost, declaring_cost, Size, rest_cost, labels_cost, search_cost, otherwise_cost, branches_cost, start_cost, return_cost, item_node, statement_node, branch_node, item_size, statement_size, branch_size, block_cost, MayCall, CallsEnd}
use Rattle.c_model.proofs.Calls.{Among, among, CalledIn, called_first, called_second, past, in_both, expression_counted}
use Rattle.c_model.proofs.Costs.{rolled_initialiser, rolled_item, rolled_statement, rolled_branch, same_initialiser, same_item, same_statement}

in_labels : (h n : ℕ) (c : Cost) → Among h (labels_cost n c) → Among h c
in_labels h zero c i = absurd i
in_labels h (suc n) c i = ⊎_elim (λ j. j) (λ j. in_labels h n c j) (past i)

module _ (p : Program) (h : ℕ) where
  -- ---- declarations

  abbrev Counted : List AnswerAt → Cost → Done → Type 0
  Counted found cost done = AllTyped found → Among h cost → CalledIn h done.asked.calls

  full_counted : (x : Expression) → Counted (of_expression (answering (given_in p)) x false) (expression_cost p x) (full_expression (given_in p) x)
  full_counted x t i = expression_counted p h x t i

  abbrev CountedInitialiser : Initialiser → Type 0
  CountedInitialiser x = Counted (found_in_initialiser (answering (given_in p)) x) (initialiser_cost p x) (done_in_initialiser (given_in p) x)

  abbrev found_beside : Initialiser → Initialiser × List AnswerAt
  found_beside x = (x, found_in_initialiser (answering (given_in p)) x)

  abbrev done_beside : Initialiser → Initialiser × Done
  done_beside x = (x, done_in_initialiser (given_in p) x)

  parts_counted : (qs : List ((x : Initialiser) × CountedInitialiser x))
      → Counted (of_each (λ (x : Initialiser × List AnswerAt). x.1) (map found_beside (map (λ q. q.0) qs))) (all_costs (initialiser_cost p) (map (λ q. q.0) qs)) (done_all (λ (x : Initialiser × Done). x.1) (map done_beside (map (λ q. q.0) qs)))
  parts_counted [] t i = absurd i
  parts_counted (q ∷ qs) t i = in_both h _ _ (q.1 (first_typed _ _ t)) (parts_counted qs (second_typed _ _ t)) (past i)

  abbrev parts_of : Initialiser-F ((x : Initialiser) × CountedInitialiser x) → Initialiser-F Initialiser
  parts_of = map-Initialiser ((x : Initialiser) × CountedInitialiser x) Initialiser (λ q. q.0)

  initialiser_layer : (l : Initialiser-F ((x : Initialiser) × CountedInitialiser x))
      → Counted (initialiser_found (answering (given_in p)) (λ x. x.1) (map-Initialiser Initialiser (Initialiser × List AnswerAt) found_beside (parts_of l)))
      (initialiser_node p (initialiser_cost p) (parts_of l))
      (initialiser_done (given_in p) (λ x. x.1) (map-Initialiser Initialiser (Initialiser × Done) done_beside (parts_of l)))
  initialiser_layer (i.Value x at) t j = full_counted x t (past j)
  initialiser_layer (i.Braces qs at) t j = parts_counted qs t (past j)

  initialiser_step : (l : Initialiser-F ((x : Initialiser) × CountedInitialiser x)) → CountedInitialiser (roll-Initialiser (parts_of l))
  unfolding found_in_initialiser done_in_initialiser
  initialiser_step l t j =
      subst (λ d. CalledIn h d.asked.calls) (sym (para-roll-Initialiser Done (initialiser_done {I = Initialiser × Done} (given_in p) (λ x. x.1)) (parts_of l)))
      (initialiser_layer l (subst AllTyped (para-roll-Initialiser (List AnswerAt) (initialiser_found {I = Initialiser × List AnswerAt} (answering (given_in p)) (λ x. x.1)) (parts_of l)) t)
      (subst (Among h) (rolled_initialiser p (parts_of l) ∙ same_initialiser p (parts_of l)) j))

  initialiser_counted : (x : Initialiser) → CountedInitialiser x
  initialiser_counted = ind-Initialiser CountedInitialiser (λ x y is. subst (λ l. CountedInitialiser (roll-Initialiser l)) is (initialiser_step y))

  plain_counted : (m : Option Meaning) → Among h (plain_cost p m) → ⊥
  plain_counted None i = i
  plain_counted (Some (meaning.Object n)) i = i
  plain_counted (Some (meaning.Constant n)) i = i
  plain_counted (Some (meaning.Function n)) i = i
  plain_counted (Some (meaning.Known function)) i = i
  plain_counted (Some (meaning.Type t star)) i = i

  declared_counted : (x : Declared) → Counted (found_in_declared (answering (given_in p)) x) (declared_cost p x) (declared_done (given_in p) x)
  declared_counted (declared.Plain inside) t i = absurd (plain_counted (declares p (declared.Plain inside)) i)
  declared_counted (declared.Initialised inside value at) t i =
      called_second h (asked_in_declarator (given_in p) inside).calls (done_in_initialiser (given_in p) value).asked.calls
      (initialiser_counted value (second_typed (of_declarator (answering (given_in p)) inside false) (found_in_initialiser (answering (given_in p)) value) t) i)

  names_counted : (xs : List Declared) → Counted (of_each (found_in_declared (answering (given_in p))) xs) (declaring_cost p xs) (done_all (declared_done (given_in p)) xs)
  names_counted [] t i = absurd i
  names_counted (x ∷ xs) t i = in_both h (declared_done (given_in p) x).asked.calls (done_all (declared_done (given_in p)) xs).asked.calls
      (declared_counted x (first_typed _ _ t)) (names_counted xs (second_typed _ _ t)) (past i)

  declaration_counted : (x : Declaration) → Counted (found_in_declaration (looking (answering (given_in p))) x) (declaring_cost p x.names) (declaration_done (given_in p) x)
  declaration_counted x t i =
      called_second h (asked_all (asked_in_specifier (given_in p)) x.specifiers).calls (done_all (declared_done (given_in p)) x.names).asked.calls
      (names_counted x.names (second_typed (of_each (λ (y : Specifier). of_specifier (answering (given_in p)) y false) x.specifiers) (of_each (found_in_declared (answering (given_in p))) x.names) t) i)

  start_counted : (x : ForStart) → Counted (found_in_start (looking (answering (given_in p))) x) (start_cost p x) (start_done (given_in p) x)
  start_counted start.Nothing t i = absurd i
  start_counted (start.Value x) t i = full_counted x t i
  start_counted (start.Declared x) t i = declaration_counted x t i

  return_counted : (x : Option Expression) → Counted (of_option (λ y. of_expression (answering (given_in p)) y false) x) (return_cost p x) (optional_expression (given_in p) x)
  return_counted None t i = absurd i
  return_counted (Some x) t i = full_counted x t i

  -- ---- statements

  unfoldable found_item : BlockItem → List AnswerAt
  found_item = para-BlockItem (List AnswerAt) (List AnswerAt) (List AnswerAt) (item_found {B = BlockItem × List AnswerAt} {S = Statement × List AnswerAt} {R = Branch × List AnswerAt} (looking (answering (given_in p))) (λ x. x.1)) (statement_found {B = BlockItem × List AnswerAt} {S = Statement × List AnswerAt} {R = Branch × List AnswerAt} (looking (answering (given_in p))) (λ x. x.1) (λ x. x.1) (λ x. x.1)) (branch_found {B = BlockItem × List AnswerAt} {S = Statement × List AnswerAt} {R = Branch × List AnswerAt} (looking (answering (given_in p))) (λ x. x.1))

  unfoldable found_statement : Statement → List AnswerAt
  found_statement = para-Statement (List AnswerAt) (List AnswerAt) (List AnswerAt) (item_found {B = BlockItem × List AnswerAt} {S = Statement × List AnswerAt} {R = Branch × List AnswerAt} (looking (answering (given_in p))) (λ x. x.1)) (statement_found {B = BlockItem × List AnswerAt} {S = Statement × List AnswerAt} {R = Branch × List AnswerAt} (looking (answering (given_in p))) (λ x. x.1) (λ x. x.1) (λ x. x.1)) (branch_found {B = BlockItem × List AnswerAt} {S = Statement × List AnswerAt} {R = Branch × List AnswerAt} (looking (answering (given_in p))) (λ x. x.1))

  unfoldable found_branch : Branch → List AnswerAt
  found_branch = para-Branch (List AnswerAt) (List AnswerAt) (List AnswerAt) (item_found {B = BlockItem × List AnswerAt} {S = Statement × List AnswerAt} {R = Branch × List AnswerAt} (looking (answering (given_in p))) (λ x. x.1)) (statement_found {B = BlockItem × List AnswerAt} {S = Statement × List AnswerAt} {R = Branch × List AnswerAt} (looking (answering (given_in p))) (λ x. x.1) (λ x. x.1) (λ x. x.1)) (branch_found {B = BlockItem × List AnswerAt} {S = Statement × List AnswerAt} {R = Branch × List AnswerAt} (looking (answering (given_in p))) (λ x. x.1))

  unfoldable done_of_item : BlockItem → Done
  done_of_item = para-BlockItem Done Done Done (item_done {B = BlockItem × Done} {X = Statement × Done} {R = Branch × Done} (given_in p) (λ x. x.1)) (statement_done {B = BlockItem × Done} {X = Statement × Done} {R = Branch × Done} (given_in p) (λ x. x.1) (λ x. x.1) (λ x. x.1)) (branch_done {B = BlockItem × Done} {X = Statement × Done} {R = Branch × Done} (given_in p) (λ x. x.1))

  unfoldable done_of_statement : Statement → Done
  done_of_statement = para-Statement Done Done Done (item_done {B = BlockItem × Done} {X = Statement × Done} {R = Branch × Done} (given_in p) (λ x. x.1)) (statement_done {B = BlockItem × Done} {X = Statement × Done} {R = Branch × Done} (given_in p) (λ x. x.1) (λ x. x.1) (λ x. x.1)) (branch_done {B = BlockItem × Done} {X = Statement × Done} {R = Branch × Done} (given_in p) (λ x. x.1))

  unfoldable done_of_branch : Branch → Done
  done_of_branch = para-Branch Done Done Done (item_done {B = BlockItem × Done} {X = Statement × Done} {R = Branch × Done} (given_in p) (λ x. x.1)) (statement_done {B = BlockItem × Done} {X = Statement × Done} {R = Branch × Done} (given_in p) (λ x. x.1) (λ x. x.1) (λ x. x.1)) (branch_done {B = BlockItem × Done} {X = Statement × Done} {R = Branch × Done} (given_in p) (λ x. x.1))

  abbrev CountedItem : BlockItem → Type 0
  CountedItem x = Counted (found_item x) (item_size p x).cost (done_of_item x)

  abbrev CountedStatement : Statement → Type 0
  CountedStatement x = Counted (found_statement x) (statement_size p x).cost (done_of_statement x)

  abbrev CountedBranch : Branch → Type 0
  CountedBranch x = Counted (found_branch x) (branch_size p x) (done_of_branch x)

  abbrev items_of : List ((x : BlockItem) × CountedItem x) → List BlockItem
  items_of qs = map (λ q. q.0) qs

  abbrev FoundItems : List ((x : BlockItem) × CountedItem x) → Type 0
  FoundItems qs = AllTyped (of_each (λ (x : BlockItem × List AnswerAt). x.1) (map (λ x. (x, found_item x)) (items_of qs)))

  abbrev CalledItems : List ((x : BlockItem) × CountedItem x) → Type 0
  CalledItems qs = CalledIn h (done_all (λ (x : BlockItem × Done). x.1) (map (λ x. (x, done_of_item x)) (items_of qs))).asked.calls

  rest_counted : (qs : List ((x : BlockItem) × CountedItem x)) → FoundItems qs → Among h (rest_cost (item_size p) (items_of qs)) → CalledItems qs
  rest_counted [] t i = absurd i
  rest_counted (q ∷ qs) t i = in_both h _ _ (q.1 (first_typed _ _ t)) (rest_counted qs (second_typed _ _ t)) (past i)

  search_counted : (qs : List ((x : BlockItem) × CountedItem x)) → FoundItems qs → Among h (search_cost (item_size p) (items_of qs)) → CalledItems qs
  search_counted [] t i = absurd i
  search_counted (q ∷ qs) t i =
      ⊎_elim (λ j. rest_counted (q ∷ qs) t (in_labels h (item_size p q.0).labels _ j)) (λ j. called_second h (done_of_item q.0).asked.calls _ (search_counted qs (second_typed (found_item q.0) _ t) j)) (past i)

  abbrev branches_of : List ((x : Branch) × CountedBranch x) → List Branch
  branches_of qs = map (λ q. q.0) qs

  branches_counted : (otherwise : Option Statement) (qs : List ((x : Branch) × CountedBranch x))
      → AllTyped (of_each (λ (x : Branch × List AnswerAt). x.1) (map (λ x. (x, found_branch x)) (branches_of qs)))
      → Among h (branches_cost (statement_size p) (branch_size p) (branches_of qs) otherwise)
      → CalledIn h (done_all (λ (x : Branch × Done). x.1) (map (λ x. (x, done_of_branch x)) (branches_of qs))).asked.calls ⊎ Among h (otherwise_cost (statement_size p) otherwise)
  branches_counted otherwise [] t i = inr (past i)
  branches_counted otherwise (q ∷ qs) t i =
      ⊎_elim (λ j. inl (called_first h (done_of_branch q.0).asked.calls _ (q.1 (first_typed (found_branch q.0) _ t) j)))
      (λ j. ⊎_elim (λ k. inl (called_second h (done_of_branch q.0).asked.calls _ k)) (λ k. inr k) (branches_counted otherwise qs (second_typed (found_branch q.0) _ t) j))
      (past i)

  abbrev item_of : BlockItem-F ((x : BlockItem) × CountedItem x) ((x : Statement) × CountedStatement x) ((x : Branch) × CountedBranch x) → BlockItem-F BlockItem Statement Branch
  item_of = map-BlockItem ((x : BlockItem) × CountedItem x) ((x : Statement) × CountedStatement x) ((x : Branch) × CountedBranch x) BlockItem Statement Branch (λ q. q.0) (λ q. q.0) (λ q. q.0)

  abbrev item_answered : BlockItem-F BlockItem Statement Branch → BlockItem-F (BlockItem × List AnswerAt) (Statement × List AnswerAt) (Branch × List AnswerAt)
  item_answered = map-BlockItem BlockItem Statement Branch (BlockItem × List AnswerAt) (Statement × List AnswerAt) (Branch × List AnswerAt) (λ x. (x, found_item x)) (λ x. (x, found_statement x)) (λ x. (x, found_branch x))

  abbrev item_did : BlockItem-F BlockItem Statement Branch → BlockItem-F (BlockItem × Done) (Statement × Done) (Branch × Done)
  item_did = map-BlockItem BlockItem Statement Branch (BlockItem × Done) (Statement × Done) (Branch × Done) (λ x. (x, done_of_item x)) (λ x. (x, done_of_statement x)) (λ x. (x, done_of_branch x))

  abbrev statement_of : Statement-F ((x : BlockItem) × CountedItem x) ((x : Statement) × CountedStatement x) ((x : Branch) × CountedBranch x) → Statement-F BlockItem Statement Branch
  statement_of = map-Statement ((x : BlockItem) × CountedItem x) ((x : Statement) × CountedStatement x) ((x : Branch) × CountedBranch x) BlockItem Statement Branch (λ q. q.0) (λ q. q.0) (λ q. q.0)

  abbrev statement_answered : Statement-F BlockItem Statement Branch → Statement-F (BlockItem × List AnswerAt) (Statement × List AnswerAt) (Branch × List AnswerAt)
  statement_answered = map-Statement BlockItem Statement Branch (BlockItem × List AnswerAt) (Statement × List AnswerAt) (Branch × List AnswerAt) (λ x. (x, found_item x)) (λ x. (x, found_statement x)) (λ x. (x, found_branch x))

  abbrev statement_did : Statement-F BlockItem Statement Branch → Statement-F (BlockItem × Done) (Statement × Done) (Branch × Done)
  statement_did = map-Statement BlockItem Statement Branch (BlockItem × Done) (Statement × Done) (Branch × Done) (λ x. (x, done_of_item x)) (λ x. (x, done_of_statement x)) (λ x. (x, done_of_branch x))

  abbrev branch_of : Branch-F ((x : BlockItem) × CountedItem x) ((x : Statement) × CountedStatement x) ((x : Branch) × CountedBranch x) → Branch-F BlockItem Statement Branch
  branch_of = map-Branch ((x : BlockItem) × CountedItem x) ((x : Statement) × CountedStatement x) ((x : Branch) × CountedBranch x) BlockItem Statement Branch (λ q. q.0) (λ q. q.0) (λ q. q.0)

  abbrev branch_answered : Branch-F BlockItem Statement Branch → Branch-F (BlockItem × List AnswerAt) (Statement × List AnswerAt) (Branch × List AnswerAt)
  branch_answered = map-Branch BlockItem Statement Branch (BlockItem × List AnswerAt) (Statement × List AnswerAt) (Branch × List AnswerAt) (λ x. (x, found_item x)) (λ x. (x, found_statement x)) (λ x. (x, found_branch x))

  abbrev branch_did : Branch-F BlockItem Statement Branch → Branch-F (BlockItem × Done) (Statement × Done) (Branch × Done)
  branch_did = map-Branch BlockItem Statement Branch (BlockItem × Done) (Statement × Done) (Branch × Done) (λ x. (x, done_of_item x)) (λ x. (x, done_of_statement x)) (λ x. (x, done_of_branch x))

  item_layer : (l : BlockItem-F ((x : BlockItem) × CountedItem x) ((x : Statement) × CountedStatement x) ((x : Branch) × CountedBranch x))
      → Counted (item_found (looking (answering (given_in p))) (λ x. x.1) (item_answered (item_of l))) (item_node p (statement_size p) (item_of l)).cost (item_done (given_in p) (λ x. x.1) (item_did (item_of l)))
  item_layer (b.Declared x) t i = declaration_counted x t i
  item_layer (b.Run x) t i = x.1 t i

  branch_layer : (l : Branch-F ((x : BlockItem) × CountedItem x) ((x : Statement) × CountedStatement x) ((x : Branch) × CountedBranch x))
      → Counted (branch_found (looking (answering (given_in p))) (λ x. x.1) (branch_answered (branch_of l))) (branch_node p (statement_size p) (branch_of l)) (branch_done (given_in p) (λ x. x.1) (branch_did (branch_of l)))
  branch_layer l t i = in_both h _ _ (full_counted l.test (first_typed _ _ t)) (l.body.1 (second_typed _ _ t)) i

  abbrev found_in : Expression → List AnswerAt
  found_in x = of_expression (answering (given_in p)) x false

  abbrev calls_in : Expression → List Call
  calls_in x = (full_expression (given_in p) x).asked.calls

  statement_layer : (l : Statement-F ((x : BlockItem) × CountedItem x) ((x : Statement) × CountedStatement x) ((x : Branch) × CountedBranch x))
      → Counted (statement_found (looking (answering (given_in p))) (λ x. x.1) (λ x. x.1) (λ x. x.1) (statement_answered (statement_of l)))
      (statement_node p (item_size p) (statement_size p) (branch_size p) (statement_of l)).cost
      (statement_done (given_in p) (λ x. x.1) (λ x. x.1) (λ x. x.1) (statement_did (statement_of l)))
  statement_layer (t.Block xs at) t i = ⊎_elim (λ j. rest_counted xs t j) (λ j. search_counted xs t j) (past i)
  statement_layer (t.Empty at) t i = absurd i
  statement_layer (t.Value x at) t i = full_counted x t (past i)
  statement_layer (t.Label name body at) t i = body.1 t (past i)
  statement_layer (t.Case x body at) t i = called_second h (calls_in x) (done_of_statement body.0).asked.calls (body.1 (second_typed (found_in x) (found_statement body.0) t) (past i))
  statement_layer (t.Default body at) t i = body.1 t (past i)
  statement_layer (t.If branches) t i = ⊎_elim (λ j. j) (λ j. absurd j) (branches_counted None branches t (past i))
  statement_layer (t.IfElse branches otherwise) t i =
      ⊎_elim (λ j. called_first h _ (done_of_statement otherwise.0).asked.calls j) (λ j. called_second h _ (done_of_statement otherwise.0).asked.calls (otherwise.1 (second_typed _ (found_statement otherwise.0) t) j))
      (branches_counted (Some otherwise.0) branches (first_typed _ (found_statement otherwise.0) t) (past i))
  statement_layer (t.Switch x body at) t i =
      in_both h (calls_in x) (done_of_statement body.0).asked.calls (full_counted x (first_typed (found_in x) (found_statement body.0) t)) (body.1 (second_typed (found_in x) (found_statement body.0) t)) (past i)
  statement_layer (t.While test body at) t i = absurd i
  statement_layer (t.Do body test at) t i = absurd i
  statement_layer (t.For first test step body at) t i =
      called_first h (start_done (given_in p) first).asked.calls _ (start_counted first (first_typed _ _ (first_typed _ _ (first_typed _ _ t))) (past i))
  statement_layer (t.Break at) t i = absurd i
  statement_layer (t.Continue at) t i = absurd i
  statement_layer (t.Return x at) t i = return_counted x t (past i)

  item_step : (l : BlockItem-F ((x : BlockItem) × CountedItem x) ((x : Statement) × CountedStatement x) ((x : Branch) × CountedBranch x)) → CountedItem (roll-BlockItem (item_of l))
  unfolding found_item found_statement found_branch done_of_item done_of_statement done_of_branch
  item_step l t i =
      subst (λ d. CalledIn h d.asked.calls) (sym (para-roll-BlockItem Done Done Done (item_done {B = BlockItem × Done} {X = Statement × Done} {R = Branch × Done} (given_in p) (λ x. x.1)) (statement_done {B = BlockItem × Done} {X = Statement × Done} {R = Branch × Done} (given_in p) (λ x. x.1) (λ x. x.1) (λ x. x.1)) (branch_done {B = BlockItem × Done} {X = Statement × Done} {R = Branch × Done} (given_in p) (λ x. x.1)) (item_of l)))
      (item_layer l (subst AllTyped (para-roll-BlockItem (List AnswerAt) (List AnswerAt) (List AnswerAt) (item_found {B = BlockItem × List AnswerAt} {S = Statement × List AnswerAt} {R = Branch × List AnswerAt} (looking (answering (given_in p))) (λ x. x.1)) (statement_found {B = BlockItem × List AnswerAt} {S = Statement × List AnswerAt} {R = Branch × List AnswerAt} (looking (answering (given_in p))) (λ x. x.1) (λ x. x.1) (λ x. x.1)) (branch_found {B = BlockItem × List AnswerAt} {S = Statement × List AnswerAt} {R = Branch × List AnswerAt} (looking (answering (given_in p))) (λ x. x.1)) (item_of l)) t)
      (subst (λ s. Among h s.cost) (rolled_item p (item_of l) ∙ same_item p (item_of l)) i))

  statement_step : (l : Statement-F ((x : BlockItem) × CountedItem x) ((x : Statement) × CountedStatement x) ((x : Branch) × CountedBranch x)) → CountedStatement (roll-Statement (statement_of l))
  unfolding found_item found_statement found_branch done_of_item done_of_statement done_of_branch
  statement_step l t i =
      subst (λ d. CalledIn h d.asked.calls) (sym (para-roll-Statement Done Done Done (item_done {B = BlockItem × Done} {X = Statement × Done} {R = Branch × Done} (given_in p) (λ x. x.1)) (statement_done {B = BlockItem × Done} {X = Statement × Done} {R = Branch × Done} (given_in p) (λ x. x.1) (λ x. x.1) (λ x. x.1)) (branch_done {B = BlockItem × Done} {X = Statement × Done} {R = Branch × Done} (given_in p) (λ x. x.1)) (statement_of l)))
      (statement_layer l (subst AllTyped (para-roll-Statement (List AnswerAt) (List AnswerAt) (List AnswerAt) (item_found {B = BlockItem × List AnswerAt} {S = Statement × List AnswerAt} {R = Branch × List AnswerAt} (looking (answering (given_in p))) (λ x. x.1)) (statement_found {B = BlockItem × List AnswerAt} {S = Statement × List AnswerAt} {R = Branch × List AnswerAt} (looking (answering (given_in p))) (λ x. x.1) (λ x. x.1) (λ x. x.1)) (branch_found {B = BlockItem × List AnswerAt} {S = Statement × List AnswerAt} {R = Branch × List AnswerAt} (looking (answering (given_in p))) (λ x. x.1)) (statement_of l)) t)
      (subst (λ s. Among h s.cost) (rolled_statement p (statement_of l) ∙ same_statement p (statement_of l)) i))

  branch_step : (l : Branch-F ((x : BlockItem) × CountedItem x) ((x : Statement) × CountedStatement x) ((x : Branch) × CountedBranch x)) → CountedBranch (roll-Branch (branch_of l))
  unfolding found_item found_statement found_branch done_of_item done_of_statement done_of_branch
  branch_step l t i =
      subst (λ d. CalledIn h d.asked.calls) (sym (para-roll-Branch Done Done Done (item_done {B = BlockItem × Done} {X = Statement × Done} {R = Branch × Done} (given_in p) (λ x. x.1)) (statement_done {B = BlockItem × Done} {X = Statement × Done} {R = Branch × Done} (given_in p) (λ x. x.1) (λ x. x.1) (λ x. x.1)) (branch_done {B = BlockItem × Done} {X = Statement × Done} {R = Branch × Done} (given_in p) (λ x. x.1)) (branch_of l)))
      (branch_layer l (subst AllTyped (para-roll-Branch (List AnswerAt) (List AnswerAt) (List AnswerAt) (item_found {B = BlockItem × List AnswerAt} {S = Statement × List AnswerAt} {R = Branch × List AnswerAt} (looking (answering (given_in p))) (λ x. x.1)) (statement_found {B = BlockItem × List AnswerAt} {S = Statement × List AnswerAt} {R = Branch × List AnswerAt} (looking (answering (given_in p))) (λ x. x.1) (λ x. x.1) (λ x. x.1)) (branch_found {B = BlockItem × List AnswerAt} {S = Statement × List AnswerAt} {R = Branch × List AnswerAt} (looking (answering (given_in p))) (λ x. x.1)) (branch_of l)) t)
      (subst (Among h) (rolled_branch p (branch_of l)) i))

  item_counted : (x : BlockItem) → CountedItem x
  item_counted = ind-BlockItem CountedItem CountedStatement CountedBranch
      (λ x y is. subst (λ l. CountedItem (roll-BlockItem l)) is (item_step y)) (λ x y is. subst (λ l. CountedStatement (roll-Statement l)) is (statement_step y)) (λ x y is. subst (λ l. CountedBranch (roll-Branch l)) is (branch_step y))

  -- ---- bodies

  body_item_counted : (x : BlockItem) → Counted (found_in_item (looking (answering (given_in p))) x) (item_size p x).cost (done_in_item (given_in p) x)
  unfolding found_in_item done_in_item found_item done_of_item
  body_item_counted x t i = item_counted x t i

  body_counted : (xs : List BlockItem) → Counted (of_each (found_in_item (looking (answering (given_in p)))) xs) (block_cost p xs) (done_all (done_in_item (given_in p)) xs)
  body_counted [] t i = absurd i
  body_counted (x ∷ xs) t i = in_both h (done_in_item (given_in p) x).asked.calls (done_all (done_in_item (given_in p)) xs).asked.calls
      (body_item_counted x (first_typed _ _ t)) (body_counted xs (second_typed _ _ t)) (past i)

  module _ (rank : ℕ → ℕ) (f : ℕ) where
    lower_call : (cs : List Call) → All (IsOfLowerRank rank (Some f)) cs → CalledIn h cs → rank h < rank f
    lower_call [] a i = absurd i
    lower_call (c ∷ cs) a (inl e) = subst (λ n. rank n < rank f) e (All-head (IsOfLowerRank rank (Some f)) c cs a)
    lower_call (c ∷ cs) a (inr i) = lower_call cs (All-tail (IsOfLowerRank rank (Some f)) c cs a) i

    abbrev Ranked : DoneIn → Type 0
    Ranked d = All (IsOfLowerRank rank d.function) d.done.asked.calls

    is_meant : (m : Option Meaning) → is_function_numbered f m ≡ true → function_meant m ≡ Some f
    is_meant None e = cc
    is_meant (Some (meaning.Object n)) e = cc
    is_meant (Some (meaning.Constant n)) e = cc
    is_meant (Some (meaning.Function n)) e = ap Some (eqb-true n f e)
    is_meant (Some (meaning.Known function)) e = cc
    is_meant (Some (meaning.Type t star)) e = cc

    body_falls : (xs : List External) → AllTyped (of_each (found_in_external (looking (answering (given_in p)))) xs) → All Ranked (done_in_text (given_in p) xs) → Among h (block_cost p (body_in p f xs)) → rank h < rank f
    body_falls [] t a i = absurd i
    body_falls (external.Empty at ∷ xs) t a i = body_falls xs t (All-tail Ranked _ _ a) i
    body_falls (external.Declared x ∷ xs) t a i = body_falls xs (second_typed (found_in_declaration (looking (answering (given_in p))) x) _ t) (All-tail Ranked _ _ a) i
    body_falls (external.Defined words inside body at ∷ xs) t a i = one (is_function_numbered f (meaning_at p (name_at inside))) refl i
        (λ j. body_falls xs (second_typed (found_in_external (looking (answering (given_in p))) (external.Defined words inside body at)) _ t) (All-tail Ranked (done_in_external (given_in p) (external.Defined words inside body at)) (done_in_text (given_in p) xs) a) j)
      where
        own : AllTyped (of_each (found_in_item (looking (answering (given_in p)))) body)
        own = second_typed (of_each (λ (y : Specifier). of_specifier (answering (given_in p)) y false) words ++ of_declarator (answering (given_in p)) inside false) (of_each (found_in_item (looking (answering (given_in p)))) body)
            (first_typed (found_in_external (looking (answering (given_in p))) (external.Defined words inside body at)) _ t)

        one : (b : Bool) → is_function_numbered f (meaning_at p (name_at inside)) ≡ b → Among h (block_cost p (cond b body (body_in p f xs))) → (Among h (block_cost p (body_in p f xs)) → rank h < rank f) → rank h < rank f
        one false e j later = later j
        one true e j later =
            lower_call (done_in_external (given_in p) (external.Defined words inside body at)).done.asked.calls
            (subst (λ n. All (IsOfLowerRank rank n) (done_in_external (given_in p) (external.Defined words inside body at)).done.asked.calls) (is_meant (meaning_at p (name_at inside)) e)
            (All-head Ranked (done_in_external (given_in p) (external.Defined words inside body at)) (done_in_text (given_in p) xs) a))
            (called_second h _ (done_all (done_in_item (given_in p)) body).asked.calls (body_counted body own j))

-- ---- programs

given_same : (p : Program) → p.names ≡ names_of p.checks.model p.tree → given_of p.checks.model p.tree ≡ given_in p
given_same p e = ap (λ names. record { names = names; model = p.checks.model }) (sym e)

pub calls_end : (p : Program) → IsAcceptedProgram p → CallsEnd p
calls_end p a =
    let ranks = calls_descend p.checks.model p.tree a.accepted in
    let typed = subst (λ g. AllTyped (of_each (found_in_external (looking (answering g))) p.tree.externals)) (given_same p a.names) (text_clear p.checks.model p.tree a.accepted) in
    let lower = subst (λ g. All (λ d. All (IsOfLowerRank ranks.0 d.function) d.done.asked.calls) (done_in_text g p.tree.externals)) (given_same p a.names) ranks.1 in
    record { rank = ranks.0; falls = λ f h i. ⊎_elim (λ j. body_falls p h ranks.0 f p.tree.externals typed lower j) (λ j. absurd (past j)) (among h _ i) }
