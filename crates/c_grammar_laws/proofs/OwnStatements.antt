-- The own tokens of declarations, statements and whole texts rise, within the tokens that spell them.
use Rattle.std.proofs.Common.{◌≡◌, ℕ, ◌+◌, Bool, false, List, [], ◌∷◌, ◌++◌, Option, Some, None, ap, sym, subst, ◌∙◌, append_assoc, arith}
use Rattle.std.proofs.lemmas.List.{append-nil}
use Rattle.c_tokens.specs.declared.token.TokenKind.{TokenKind}
use Rattle.c_tree.specs.declared.expression.Expression.{Expression}
use Rattle.c_tree.specs.declared.declaration.Initialiser.{Initialiser}
use Rattle.c_tree.specs.declared.declaration.Initialiser.TheVariants as initialiser_node
use Rattle.c_tree.specs.declared.declaration.Initialiser.TheOpen.{Initialiser-F}
use Rattle.c_tree.specs.declared.declaration.Initialiser.TheOpen.{Initialiser-F as i}
use Rattle.c_tree.specs.declared.declaration.Initialiser.TheViews.{roll-Initialiser}
use Rattle.c_tree.specs.declared.declaration.Initialiser.TheFolds.{map-Initialiser, fold-roll-Initialiser}
use Rattle.c_tree.specs.declared.declaration.Declared.{Declared}
use Rattle.c_tree.specs.declared.declaration.Declaration.{Declaration}
use Rattle.c_tree.specs.declared.declaration.External.{External}
use Rattle.c_tree.specs.declared.statement.ForStart.{ForStart}
use Rattle.c_tree.specs.declared.statement.Statement.{Statement}
use Rattle.c_tree.specs.declared.statement.Statement.TheVariants as statement_node
use Rattle.c_tree.specs.declared.statement.Branch.{Branch}
use Rattle.c_tree.specs.declared.statement.Branch as branch_view
use Rattle.c_tree.specs.declared.statement.BlockItem.{BlockItem}
use Rattle.c_tree.specs.declared.statement.BlockItem.TheVariants as item_node
use Rattle.c_tree.specs.declared.statement.BlockItem.TheOpen.{BlockItem-F, Statement-F, Branch-F}
use Rattle.c_tree.specs.declared.statement.BlockItem.TheOpen.{BlockItem-F as b, Statement-F as t}
use Rattle.c_tree.specs.declared.statement.BlockItem.TheViews.{roll-Statement, roll-BlockItem, roll-Branch}
use Rattle.c_tree.specs.declared.statement.BlockItem.TheFolds.{map-Statement, map-BlockItem, map-Branch, fold-roll-Statement, fold-roll-BlockItem, fold-roll-Branch}
use Rattle.c_tree.specs.Places.{Place, next, enter, leave, declare, enter_with}
use Rattle.c_tree.specs.SpellsStatements as grammar
use Rattle.c_tree.specs.SpellsStatements.{IsInitialiser, AreParts, IsDeclared, AreDeclared, IsDeclaration, IsOptional, IsForStart, IsTest, IsStatement, IsLabelled, IsChain, AreItems}
use Rattle.c_tree.specs.SpellsText as whole_text
use Rattle.c_tree.specs.SpellsText.{IsExternal, AreExternals, parameters_of}
use Rattle.c_tree.specs.OwnTokens.{Numbers, each_in_turn, declarator_tokens, expression_tokens, specifier_tokens, initialiser_step, initialiser_tokens, declared_tokens, declaration_tokens, optional_tokens, start_tokens, item_step, statement_step, branch_step, item_tokens, statement_tokens, branch_tokens, external_tokens}
use Rattle.c_grammar_laws.proofs.Rising.{IsRising, rises_none, sooner, later, joined, headed, alone, inside}
use Rattle.c_grammar_laws.proofs.OwnExpressions.{expression_rises, specifiers_rise, decorated_rises}

-- ---- one layer

abbrev layer_initialiser : Initialiser-F Initialiser → Initialiser-F Numbers
layer_initialiser = map-Initialiser Initialiser Numbers initialiser_tokens

as_initialiser : (x : Initialiser) (l : Initialiser-F Initialiser) (a b : ℕ) → roll-Initialiser l ≡ x → IsRising a b (initialiser_step (layer_initialiser l)) → IsRising a b (initialiser_tokens x)
unfolding initialiser_tokens
as_initialiser x l a b e h = subst (IsRising a b) (sym (fold-roll-Initialiser Numbers initialiser_step l) ∙ ap initialiser_tokens e) h

abbrev layer_item : BlockItem-F BlockItem Statement Branch → BlockItem-F Numbers Numbers Numbers
layer_item = map-BlockItem BlockItem Statement Branch Numbers Numbers Numbers item_tokens statement_tokens branch_tokens

as_item : (x : BlockItem) (l : BlockItem-F BlockItem Statement Branch) (n o : ℕ) → roll-BlockItem l ≡ x → IsRising n o (item_step (layer_item l)) → IsRising n o (item_tokens x)
unfolding item_tokens statement_tokens branch_tokens
as_item x l n o e h = subst (IsRising n o) (sym (fold-roll-BlockItem Numbers Numbers Numbers item_step statement_step branch_step l) ∙ ap item_tokens e) h

abbrev layer_statement : Statement-F BlockItem Statement Branch → Statement-F Numbers Numbers Numbers
layer_statement = map-Statement BlockItem Statement Branch Numbers Numbers Numbers item_tokens statement_tokens branch_tokens

as_statement : (x : Statement) (l : Statement-F BlockItem Statement Branch) (n o : ℕ) → roll-Statement l ≡ x → IsRising n o (statement_step (layer_statement l)) → IsRising n o (statement_tokens x)
unfolding item_tokens statement_tokens branch_tokens
as_statement x l n o e h = subst (IsRising n o) (sym (fold-roll-Statement Numbers Numbers Numbers item_step statement_step branch_step l) ∙ ap statement_tokens e) h

abbrev layer_branch : Branch-F BlockItem Statement Branch → Branch-F Numbers Numbers Numbers
layer_branch = map-Branch BlockItem Statement Branch Numbers Numbers Numbers item_tokens statement_tokens branch_tokens

as_branch : (x : Branch) (l : Branch-F BlockItem Statement Branch) (n o : ℕ) → roll-Branch l ≡ x → IsRising n o (branch_step (layer_branch l)) → IsRising n o (branch_tokens x)
unfolding item_tokens statement_tokens branch_tokens
as_branch x l n o e h = subst (IsRising n o) (sym (fold-roll-Branch Numbers Numbers Numbers item_step statement_step branch_step l) ∙ ap branch_tokens e) h

-- ---- declarations

mutual
  pub initialiser_rises : (kinds : List TokenKind) (p q : Place) (x : Initialiser) → IsInitialiser kinds p q x → IsRising p.at q.at (initialiser_tokens x)
  initialiser_rises kinds from to whole (grammar.value_initialiser p q x d) = as_initialiser _ (i.Value x p.at) p.at q.at (initialiser_node.rolls-Value x p.at) (expression_rises kinds 1 p q x d)
  initialiser_rises kinds from to whole (grammar.braces p q parts a d f) =
      as_initialiser _ (i.Braces parts p.at) p.at (q.at + 1) (initialiser_node.rolls-Braces parts p.at)
      (headed p.at (q.at + 1) (each_in_turn initialiser_tokens parts) (later (p.at + 1) q.at (q.at + 1) (each_in_turn initialiser_tokens parts) (omega arith) (parts_rise kinds (next p) q parts d)))

  parts_rise : (kinds : List TokenKind) (p q : Place) (xs : List Initialiser) → AreParts kinds p q xs → IsRising p.at q.at (each_in_turn initialiser_tokens xs)
  parts_rise kinds from to whole (grammar.one_part p q x d) = joined p.at q.at q.at (initialiser_tokens x) [] (initialiser_rises kinds p q x d) (rises_none q.at q.at (omega arith))
  parts_rise kinds from to whole (grammar.last_part p q x d a) = joined p.at q.at (q.at + 1) (initialiser_tokens x) [] (initialiser_rises kinds p q x d) (rises_none q.at (q.at + 1) (omega arith))
  parts_rise kinds from to whole (grammar.more_parts p q r x further d a f) =
      joined p.at q.at r.at (initialiser_tokens x) (each_in_turn initialiser_tokens further) (initialiser_rises kinds p q x d)
      (sooner q.at (q.at + 1) r.at (each_in_turn initialiser_tokens further) (omega arith) (parts_rise kinds (next q) r further f))

declared_rises : (kinds : List TokenKind) (defines : Bool) (p q : Place) (x : Declared) → IsDeclared kinds defines p q x → IsRising p.at q.at (declared_tokens x)
declared_rises kinds defines from to whole (grammar.plain_declared p q name parameters inner d) = decorated_rises kinds p q name parameters inner d
declared_rises kinds defines from to whole (grammar.initialised_declared p q r name parameters inner x d a f) =
    joined p.at q.at r.at (declarator_tokens inner) (q.at ∷ initialiser_tokens x) (decorated_rises kinds p q name parameters inner d)
    (headed q.at r.at (initialiser_tokens x) (initialiser_rises kinds (declare (next q) name defines) r x f))

names_rise : (kinds : List TokenKind) (defines : Bool) (p q : Place) (xs : List Declared) → AreDeclared kinds defines p q xs → IsRising p.at q.at (each_in_turn declared_tokens xs)
names_rise kinds defines from to whole (grammar.one_declared p q x d) = joined p.at q.at q.at (declared_tokens x) [] (declared_rises kinds defines p q x d) (rises_none q.at q.at (omega arith))
names_rise kinds defines from to whole (grammar.more_declared p q r x further d a f) =
    joined p.at q.at r.at (declared_tokens x) (each_in_turn declared_tokens further) (declared_rises kinds defines p q x d)
    (sooner q.at (q.at + 1) r.at (each_in_turn declared_tokens further) (omega arith) (names_rise kinds defines (next q) r further f))

pub declaration_rises : (kinds : List TokenKind) (p q : Place) (x : Declaration) → IsDeclaration kinds p q x → IsRising p.at q.at (declaration_tokens x)
declaration_rises kinds from to whole (grammar.no_names p q defines list d a) =
    joined p.at q.at (q.at + 1) (each_in_turn specifier_tokens list) (q.at ∷ []) (specifiers_rise kinds p q defines list d) (alone q.at (q.at + 1) (omega arith))
declaration_rises kinds from to whole (grammar.some_names p q r defines list names d f a) =
    joined p.at q.at (r.at + 1) (each_in_turn specifier_tokens list) (each_in_turn declared_tokens names ++ r.at ∷ []) (specifiers_rise kinds p q defines list d)
    (joined q.at r.at (r.at + 1) (each_in_turn declared_tokens names) (r.at ∷ []) (names_rise kinds defines q r names f) (alone r.at (r.at + 1) (omega arith)))

-- ---- statements

optional_rises : (kinds : List TokenKind) (p q : Place) (x : Option Expression) → IsOptional kinds p q x → IsRising p.at q.at (optional_tokens x)
optional_rises kinds from to whole (grammar.no_value p) = rises_none p.at p.at (omega arith)
optional_rises kinds from to whole (grammar.some_value p q x d) = expression_rises kinds 0 p q x d

start_rises : (kinds : List TokenKind) (p q : Place) (x : ForStart) → IsForStart kinds p q x → IsRising p.at q.at (start_tokens x)
start_rises kinds from to whole (grammar.start_nothing p a) = rises_none p.at (p.at + 1) (omega arith)
start_rises kinds from to whole (grammar.start_value p q x d a) = later p.at q.at (q.at + 1) (expression_tokens x) (omega arith) (expression_rises kinds 0 p q x d)
start_rises kinds from to whole (grammar.start_declared p q x d) = declaration_rises kinds p q x d

test_rises : (kinds : List TokenKind) (p q : Place) (x : Expression) → IsTest kinds p q x → IsRising p.at q.at (expression_tokens x)
test_rises kinds from to whole (grammar.bracketed_test p q x a d c) = inside p.at q.at (expression_tokens x) (expression_rises kinds 0 (next p) q x d)

abbrev last_tokens : Option Statement → Numbers
last_tokens None = []
last_tokens (Some x) = statement_tokens x

branch_rises : (p q r : ℕ) (test : Expression) (body : Statement) → IsRising (p + 1) q (expression_tokens test) → IsRising q r (statement_tokens body)
    → IsRising p r (branch_tokens (record { test = test; body = body; at = p }) ++ [])
branch_rises p q r test body f g =
    let branch : Branch = record { test = test; body = body; at = p } in
    joined p r r (branch_tokens branch) []
    (as_branch branch (record { test = test; body = body; at = p }) p r (branch_view.rolls-Branch' (record { test = test; body = body; at = p }))
    (headed p r (expression_tokens test ++ statement_tokens body) (joined (p + 1) q r (expression_tokens test) (statement_tokens body) f g)))
    (rises_none r r (omega arith))

mutual
  pub statement_rises : (kinds : List TokenKind) (ends_open : Bool) (p q : Place) (x : Statement) → IsStatement kinds ends_open p q x → IsRising p.at q.at (statement_tokens x)
  statement_rises kinds opens from to whole (grammar.block p q items a d c) =
      as_statement _ (t.Block items p.at) p.at (q.at + 1) (statement_node.rolls-Block items p.at)
      (headed p.at (q.at + 1) (each_in_turn item_tokens items) (later (p.at + 1) q.at (q.at + 1) (each_in_turn item_tokens items) (omega arith) (items_rise kinds (enter (next p)) q items d)))
  statement_rises kinds opens from to whole (grammar.empty_statement p a) =
      as_statement _ (t.Empty p.at) p.at (p.at + 1) (statement_node.rolls-Empty p.at) (rises_none p.at (p.at + 1) (omega arith))
  statement_rises kinds opens from to whole (grammar.value_statement p q x d a) =
      as_statement _ (t.Value x q.at) p.at (q.at + 1) (statement_node.rolls-Value x q.at)
      (joined p.at q.at (q.at + 1) (expression_tokens x) (q.at ∷ []) (expression_rises kinds 0 p q x d) (alone q.at (q.at + 1) (omega arith)))
  statement_rises kinds opens from to whole (grammar.label p q ends name body a c d) =
      as_statement _ (t.Label name body p.at) p.at q.at (statement_node.rolls-Label name body p.at)
      (headed p.at q.at (statement_tokens body) (sooner (p.at + 1) (p.at + 1 + 1) q.at (statement_tokens body) (omega arith) (labelled_rises kinds ends (next (next p)) q body d)))
  statement_rises kinds opens from to whole (grammar.case_label p q r ends value body a d c f) =
      as_statement _ (t.Case value body p.at) p.at r.at (statement_node.rolls-Case value body p.at)
      (headed p.at r.at (expression_tokens value ++ statement_tokens body) (joined (p.at + 1) q.at r.at (expression_tokens value) (statement_tokens body) (expression_rises kinds 2 (next p) q value d)
      (sooner q.at (q.at + 1) r.at (statement_tokens body) (omega arith) (labelled_rises kinds ends (next q) r body f))))
  statement_rises kinds opens from to whole (grammar.default_label p q ends body a c d) =
      as_statement _ (t.Default body p.at) p.at q.at (statement_node.rolls-Default body p.at)
      (headed p.at q.at (statement_tokens body) (sooner (p.at + 1) (p.at + 1 + 1) q.at (statement_tokens body) (omega arith) (labelled_rises kinds ends (next (next p)) q body d)))
  statement_rises kinds opens from to whole (grammar.if_alone p q ends branches d) =
      as_statement _ (t.If branches) p.at q.at (statement_node.rolls-If branches) (subst (IsRising p.at q.at) (append-nil (each_in_turn branch_tokens branches)) (chain_rises kinds ends p q branches None d))
  statement_rises kinds opens from to whole (grammar.if_else p q ends branches otherwise d) =
      as_statement _ (t.IfElse branches otherwise) p.at q.at (statement_node.rolls-IfElse branches otherwise) (chain_rises kinds ends p q branches (Some otherwise) d)
  statement_rises kinds opens from to whole (grammar.switch_on p q r ends value body a d f) =
      as_statement _ (t.Switch value body p.at) p.at r.at (statement_node.rolls-Switch value body p.at)
      (headed p.at r.at (expression_tokens value ++ statement_tokens body)
      (joined (p.at + 1) q.at r.at (expression_tokens value) (statement_tokens body) (test_rises kinds (enter (next p)) q value d) (statement_rises kinds ends (enter q) r body f)))
  statement_rises kinds opens from to whole (grammar.while_loop p q r ends test body a d f) =
      as_statement _ (t.While test body p.at) p.at r.at (statement_node.rolls-While test body p.at)
      (headed p.at r.at (expression_tokens test ++ statement_tokens body)
      (joined (p.at + 1) q.at r.at (expression_tokens test) (statement_tokens body) (test_rises kinds (enter (next p)) q test d) (statement_rises kinds ends (enter q) r body f)))
  statement_rises kinds opens from to whole (grammar.do_loop p q r ends body test a d c f g) =
      as_statement _ (t.Do body test p.at) p.at (r.at + 1) (statement_node.rolls-Do body test p.at)
      (headed p.at (r.at + 1) (statement_tokens body ++ expression_tokens test)
      (joined (p.at + 1) q.at (r.at + 1) (statement_tokens body) (expression_tokens test) (statement_rises kinds ends (enter (enter (next p))) q body d)
      (inside q.at r.at (expression_tokens test) (test_rises kinds (leave (next q)) r test f))))
  statement_rises kinds opens from to whole (grammar.for_loop p q r s u ends first test step body a c d f g h j l) =
      as_statement _ (t.For first test step body p.at) p.at u.at (statement_node.rolls-For first test step body p.at)
      (headed p.at u.at (start_tokens first ++ (optional_tokens test ++ (optional_tokens step ++ statement_tokens body)))
      (joined (p.at + 1) q.at u.at (start_tokens first) (optional_tokens test ++ (optional_tokens step ++ statement_tokens body))
      (sooner (p.at + 1) (p.at + 1 + 1) q.at (start_tokens first) (omega arith) (start_rises kinds (enter (next (next p))) q first d))
      (joined q.at r.at u.at (optional_tokens test) (optional_tokens step ++ statement_tokens body) (optional_rises kinds q r test f)
      (joined r.at s.at u.at (optional_tokens step) (statement_tokens body)
      (sooner r.at (r.at + 1) s.at (optional_tokens step) (omega arith) (optional_rises kinds (next r) s step h))
      (sooner s.at (s.at + 1) u.at (statement_tokens body) (omega arith) (statement_rises kinds ends (enter (next s)) u body l))))))
  statement_rises kinds opens from to whole (grammar.break_out p a c) =
      as_statement _ (t.Break p.at) p.at (p.at + 1 + 1) (statement_node.rolls-Break p.at) (alone p.at (p.at + 1 + 1) (omega arith))
  statement_rises kinds opens from to whole (grammar.continue_on p a c) =
      as_statement _ (t.Continue p.at) p.at (p.at + 1 + 1) (statement_node.rolls-Continue p.at) (alone p.at (p.at + 1 + 1) (omega arith))
  statement_rises kinds opens from to whole (grammar.return_from p q value a d c) =
      as_statement _ (t.Return value p.at) p.at (q.at + 1) (statement_node.rolls-Return value p.at)
      (headed p.at (q.at + 1) (optional_tokens value) (later (p.at + 1) q.at (q.at + 1) (optional_tokens value) (omega arith) (optional_rises kinds (next p) q value d)))

  labelled_rises : (kinds : List TokenKind) (ends_open : Bool) (p q : Place) (x : Statement) → IsLabelled kinds ends_open p q x → IsRising p.at q.at (statement_tokens x)
  labelled_rises kinds opens from to whole (grammar.labelled_statement ends p q x d) = statement_rises kinds ends p q x d
  labelled_rises kinds opens from to whole (grammar.labelled_end p a) = as_statement _ (t.Empty p.at) p.at p.at (statement_node.rolls-Empty p.at) (rises_none p.at p.at (omega arith))

  -- a chain, and what stands after a last `else`
  chain_rises : (kinds : List TokenKind) (ends_open : Bool) (p q : Place) (branches : List Branch) (x : Option Statement) → IsChain kinds ends_open p q branches x
      → IsRising p.at q.at (each_in_turn branch_tokens branches ++ last_tokens x)
  chain_rises kinds opens from to whole otherwise (grammar.last_if p q r ends test body a d f) =
      let one = branch_tokens (record { test = test; body = body; at = p.at }) ++ [] in
      joined p.at r.at r.at one [] (branch_rises p.at q.at r.at test body (test_rises kinds (enter (next p)) q test d) (statement_rises kinds ends (enter q) r body f)) (rises_none r.at r.at (omega arith))
  chain_rises kinds opens from to whole otherwise (grammar.last_else p q r s ends test body x a d f c g h) =
      let one = branch_tokens (record { test = test; body = body; at = p.at }) ++ [] in
      joined p.at r.at s.at one (statement_tokens x) (branch_rises p.at q.at r.at test body (test_rises kinds (enter (next p)) q test d) (statement_rises kinds false (enter q) r body f))
      (sooner r.at (r.at + 1) s.at (statement_tokens x) (omega arith) (statement_rises kinds ends (enter (leave (next r))) s x h))
  chain_rises kinds opens from to whole otherwise (grammar.else_if p q r s ends test body branches x a d f c g) =
      let one = branch_tokens (record { test = test; body = body; at = p.at }) in
      let further = each_in_turn branch_tokens branches in
      subst (IsRising p.at s.at) (sym (append_assoc one further (last_tokens x)))
      (joined p.at r.at s.at one (further ++ last_tokens x)
      (subst (IsRising p.at r.at) (append-nil one) (branch_rises p.at q.at r.at test body (test_rises kinds (enter (next p)) q test d) (statement_rises kinds false (enter q) r body f)))
      (sooner r.at (r.at + 1) s.at (further ++ last_tokens x) (omega arith) (chain_rises kinds ends (enter (leave (next r))) s branches x g)))

  pub items_rise : (kinds : List TokenKind) (p q : Place) (xs : List BlockItem) → AreItems kinds p q xs → IsRising p.at q.at (each_in_turn item_tokens xs)
  items_rise kinds from to whole (grammar.no_items p) = rises_none p.at p.at (omega arith)
  items_rise kinds from to whole (grammar.declared_item p q r x items d f) =
      joined p.at q.at r.at (item_tokens (item_node.Declared x)) (each_in_turn item_tokens items)
      (as_item _ (b.Declared x) p.at q.at (item_node.rolls-Declared x) (declaration_rises kinds p q x d)) (items_rise kinds q r items f)
  items_rise kinds from to whole (grammar.statement_item p q r ends x items d f) =
      joined p.at q.at r.at (item_tokens (item_node.Run x)) (each_in_turn item_tokens items)
      (as_item _ (b.Run x) p.at q.at (item_node.rolls-Run x) (statement_rises kinds ends p q x d)) (items_rise kinds q r items f)

-- ---- whole texts

pub external_rises : (kinds : List TokenKind) (p q : Place) (x : External) → IsExternal kinds p q x → IsRising p.at q.at (external_tokens x)
external_rises kinds from to whole (whole_text.empty_external p a) = alone p.at (p.at + 1) (omega arith)
external_rises kinds from to whole (whole_text.declared_external p q x d) = declaration_rises kinds p q x d
external_rises kinds from to whole (whole_text.defined_function p q r s defines list name parameters inner items d f a g c) =
    joined p.at q.at (s.at + 1) (each_in_turn specifier_tokens list) (declarator_tokens inner ++ r.at ∷ each_in_turn item_tokens items) (specifiers_rise kinds p q defines list d)
    (joined q.at r.at (s.at + 1) (declarator_tokens inner) (r.at ∷ each_in_turn item_tokens items) (decorated_rises kinds q r name parameters inner f)
    (headed r.at (s.at + 1) (each_in_turn item_tokens items)
    (later (r.at + 1) s.at (s.at + 1) (each_in_turn item_tokens items) (omega arith) (items_rise kinds (enter_with (declare (next r) name defines) (parameters_of parameters)) s items g))))

pub externals_rise : (kinds : List TokenKind) (p q : Place) (xs : List External) → AreExternals kinds p q xs → IsRising p.at q.at (each_in_turn external_tokens xs)
externals_rise kinds from to whole (whole_text.no_externals p) = rises_none p.at p.at (omega arith)
externals_rise kinds from to whole (whole_text.more_externals p q r x further d f) =
    joined p.at q.at r.at (external_tokens x) (each_in_turn external_tokens further) (external_rises kinds p q x d) (externals_rise kinds q r further f)
