-- The parts of a statement that breaks no rule break none where they stand.
use Rattle.std.proofs.Common.{◌≡◌, ℕ, Bool, true, false, not, List, [], ◌∷◌, map, refl, sym, subst, ◌∙◌}
use Rattle.c_tree.specs.declared.expression.Expression.{Expression}
use Rattle.c_tree.specs.declared.declaration.Declaration.{Declaration}
use Rattle.c_tree.specs.declared.declaration.Declared.{Declared}
use Rattle.c_tree.specs.declared.statement.Statement.{Statement, out-Statement}
use Rattle.c_tree.specs.declared.statement.Branch.{Branch, out-Branch}
use Rattle.c_tree.specs.declared.statement.BlockItem.{BlockItem, out-BlockItem}
use Rattle.c_tree.specs.declared.statement.BlockItem.TheOpen.{Branch-F}
use Rattle.c_kinds.specs.declared.typed.Typed.{Typed}
use Rattle.c_kinds.specs.declared.answer.Answer.{Answer}
use Rattle.c_rules.specs.declared.program.Program.{Program}
use Rattle.c_rules.specs.Broken.{pair_if, of_each}
use Rattle.c_rules.specs.Recursion.{of_expression}
use Rattle.c_rules.specs.Accepted.{given_in}
use Rattle.c_rules.specs.Expressions.{broken_value}
use Rattle.c_rules.specs.Initialisers.{declared_pairs, broken_declaration}
use Rattle.c_rules.specs.Found.{Look, AnswerAt, answering, looking, found_in_item, found_in_declared, found_in_declaration, item_found, statement_found, branch_found}
use Rattle.c_rules.specs.Statements.{Near, Judged, item_pairs, statement_pairs, branch_pairs, judge_item}
use Rattle.c_rules.proofs.Empty.{first_empty, second_empty}
use Rattle.c_rules.proofs.Judging.{judge_branch, item_breaks, statement_breaks, branch_breaks, item_beside as item_judged, statement_beside as statement_judged, branch_beside as branch_judged}
use Rattle.c_model.specs.Programs.{StatementNode, ItemNode}
use Rattle.c_sound.proofs.Tables.{AreTold, first_told, second_told}
use Rattle.c_sound.proofs.Founds.{found_in_branch, item_finds, statement_finds, branch_finds, item_beside, statement_beside, branch_beside}
use Rattle.c_sound.proofs.Standing.{Each, StatementIn, ItemIn, BranchIn, DeclaredIn, Asked, IsKept}

abbrev pub sought : Program → Look AnswerAt
sought p = looking (answering (given_in p))

-- ---- one layer

pub record NodeIn (p : Program) (near : Near) (l : StatementNode) : Type 0 where
  pub clear : (statement_pairs {B = BlockItem × Judged} {X = Statement × Judged} {R = Branch × Judged} (given_in p) (λ x. x.1) (λ x. x.1) (λ x. x.1) (statement_judged (given_in p) l)).broken near ≡ []
  pub told : AreTold p (statement_found {B = BlockItem × List AnswerAt} {S = Statement × List AnswerAt} {R = Branch × List AnswerAt} (sought p) (λ x. x.1) (λ x. x.1) (λ x. x.1) (statement_beside (sought p) l))

pub node_in : (p : Program) (near : Near) (x : Statement) → StatementIn p near x → NodeIn p near (out-Statement x)
node_in p near x h = record { clear = sym (statement_breaks (given_in p) x near) ∙ h.clear; told = subst (AreTold p) (statement_finds (sought p) x) h.told }

pub record ItemNodeIn (p : Program) (near : Near) (l : ItemNode) : Type 0 where
  pub clear : (item_pairs {B = BlockItem × Judged} {X = Statement × Judged} {R = Branch × Judged} (given_in p) (λ x. x.1) (item_judged (given_in p) l)).broken near ≡ []
  pub told : AreTold p (item_found {B = BlockItem × List AnswerAt} {S = Statement × List AnswerAt} {R = Branch × List AnswerAt} (sought p) (λ x. x.1) (item_beside (sought p) l))

pub item_node_in : (p : Program) (near : Near) (x : BlockItem) → ItemIn p near x → ItemNodeIn p near (out-BlockItem x)
item_node_in p near x h = record { clear = sym (item_breaks (given_in p) x near) ∙ h.clear; told = subst (AreTold p) (item_finds (sought p) x) h.told }

pub record BranchNodeIn (p : Program) (near : Near) (l : Branch-F BlockItem Statement Branch) : Type 0 where
  pub clear : (branch_pairs {B = BlockItem × Judged} {X = Statement × Judged} {R = Branch × Judged} (given_in p) (λ x. x.1) (branch_judged (given_in p) l)).broken near ≡ []
  pub told : AreTold p (branch_found {B = BlockItem × List AnswerAt} {S = Statement × List AnswerAt} {R = Branch × List AnswerAt} (sought p) (λ x. x.1) (branch_beside (sought p) l))

pub branch_node_in : (p : Program) (near : Near) (x : Branch) → BranchIn p near x → BranchNodeIn p near (out-Branch x)
branch_node_in p near x h = record { clear = sym (branch_breaks (given_in p) x near) ∙ h.clear; told = subst (AreTold p) (branch_finds (sought p) x) h.told }

-- ---- lists of parts

pub items_in : (p : Program) (near : Near) (xs : List BlockItem) → of_each (λ (q : BlockItem × Judged). q.1.broken near) (map (λ x. (x, judge_item (given_in p) x)) xs) ≡ []
    → AreTold p (of_each (λ (q : BlockItem × List AnswerAt). q.1) (map (λ x. (x, found_in_item (sought p) x)) xs)) → Each (ItemIn p near) xs
items_in p near [] h t = tt
items_in p near (x ∷ xs) h t = (record { clear = first_empty _ _ h; told = first_told p _ _ t }, items_in p near xs (second_empty _ _ h) (second_told p _ _ t))

pub branches_in : (p : Program) (near : Near) (xs : List Branch) → of_each (λ (q : Branch × Judged). q.1.broken near) (map (λ x. (x, judge_branch (given_in p) x)) xs) ≡ []
    → AreTold p (of_each (λ (q : Branch × List AnswerAt). q.1) (map (λ x. (x, found_in_branch (sought p) x)) xs)) → Each (BranchIn p near) xs
branches_in p near [] h t = tt
branches_in p near (x ∷ xs) h t = (record { clear = first_empty _ _ h; told = first_told p _ _ t }, branches_in p near xs (second_empty _ _ h) (second_told p _ _ t))

pub declared_in : (p : Program) (is_extern : Bool) (xs : List Declared) → of_each (declared_pairs (given_in p) is_extern) xs ≡ [] → AreTold p (of_each (found_in_declared (answering (given_in p))) xs) → Each (DeclaredIn p) xs
declared_in p is_extern [] h t = tt
declared_in p is_extern (x ∷ xs) h t = (record { is_extern = is_extern; clear = first_empty _ _ h; told = first_told p _ _ t }, declared_in p is_extern xs (second_empty _ _ h) (second_told p _ _ t))

pub names_in : (p : Program) (in_block : Bool) (x : Declaration) → broken_declaration (given_in p) in_block x ≡ [] → AreTold p (found_in_declaration (sought p) x) → Each (DeclaredIn p) x.names
names_in p in_block x h t = declared_in p _ x.names (second_empty _ _ h) (second_told p (of_each (sought p).specifier x.specifiers) _ t)

-- ---- expressions of statements

pub value_in : (p : Program) (a : Asked) → IsKept p a → (x : Expression) (f : Typed → Answer) → broken_value (given_in p) x f ≡ [] → AreTold p (of_expression (answering (given_in p)) x false) → a.OfValue x
value_in p a k x f h t = k.full x (first_empty _ _ h) t

pub not_broken : (b : Bool) (at rule : ℕ) → pair_if (not b) at rule ≡ [] → b ≡ true
not_broken true at rule h = refl
not_broken false at rule h = cc
