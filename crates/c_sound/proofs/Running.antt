-- Statements that run leave code on the control stack.
use Rattle.std.proofs.Common.{◌≡◌, ℕ, ℤ, true, List, [], ◌∷◌, length, Option, Some, None, refl, subst}
use Rattle.kv_num.specs.declared.types.IntType.{IntType}
use Rattle.c_tree.specs.declared.expression.Expression.{Expression}
use Rattle.c_tree.specs.declared.declaration.Initialiser.TheOpen.{Initialiser-F as i}
use Rattle.c_tree.specs.declared.statement.Statement.{Statement, out-Statement}
use Rattle.c_tree.specs.declared.statement.Branch.{Branch}
use Rattle.c_tree.specs.declared.statement.BlockItem.{BlockItem, out-BlockItem}
use Rattle.c_tree.specs.declared.statement.BlockItem.TheOpen.{Statement-F as t, BlockItem-F as b}
use Rattle.c_tree.specs.declared.statement.ForStart.{ForStart}
use Rattle.c_tree.specs.declared.statement.ForStart.TheVariants as start
use Rattle.c_kinds.specs.declared.typed.Typed.{Typed}
use Rattle.c_kinds.specs.declared.answer.Answer.{Answer}
use Rattle.c_rules.specs.declared.program.Program.{Program}
use Rattle.c_rules.specs.Accepted.{given_in}
use Rattle.c_rules.specs.Broken.{of_option}
use Rattle.c_rules.specs.Expressions.{broken_value, is_used}
use Rattle.c_rules.specs.Found.{found_in_start}
use Rattle.c_rules.specs.Statements.{Near, apart, in_loop, in_switch, in_block, behind_label, test_value, switch_value, start_pairs}
use Rattle.c_rules.proofs.Empty.{first_empty, second_empty}
use Rattle.c_model.specs.declared.values.Scalar.{Scalar}
use Rattle.c_model.specs.Programs.{StatementNode, ItemNode}
use Rattle.c_model.specs.Loops.{starts, turning, conditions, third_part, loop_node, loop_move, again_node, again_move}
use Rattle.c_model.specs.Switches.{running, defaults, seeks_node, seeks_move, labels_node, searches_node, after_first}
use Rattle.c_model.specs.Statements.{item_of_node, rest_move, test_of, branches_move, branched_move, work_node, work_move, decides_node, decides}
use Rattle.c_model.specs.Moves.{put, asks}
use Rattle.c_model.specs.Configurations.{Work, Tests, Rest, Close, Switched, Again, State, Goes}
use Rattle.c_sound.proofs.Tables.{AreTold, first_told, second_told}
use Rattle.c_sound.proofs.Standing.{Each, Around, StatementIn, ItemIn, ItemsIn, StatementOn, BlockOn, BranchesOn, SwitchOn, Asked, IsKept, AreCode}
use Rattle.c_sound.proofs.Keeping.{Keeps}
use Rattle.c_sound.proofs.Parts.{sought, NodeIn, node_in, ItemNodeIn, item_node_in, branch_node_in, items_in, branches_in, names_in, value_in, not_broken}

module _ (p : Program) (a : Asked) (k : IsKept p a) (c : State) (r : AreCode p a c.control) where
  -- ---- surroundings

  below_close : (near : Near) (n : ℕ) → Around p near c.control → Around p near (Close n ∷ c.control)
  below_close near n h = record { breaks = h.breaks; continues = h.continues; result = h.result }

  below_again : (near : Near) (x : Statement) → Around p near c.control → Around p (in_loop near) (Again x ∷ c.control)
  below_again near x h = record { breaks = λ e. tt; continues = λ e. tt; result = h.result }

  below_switched : (near : Near) → Around p near c.control → Around p (in_block (in_switch near)) (Switched ∷ c.control)
  below_switched near h = record { breaks = λ e. tt; continues = h.continues; result = h.result }

  -- ---- blocks

  block : (near : Near) (items : List BlockItem) (n : ℕ) → Around p near c.control → Each (ItemIn p (in_block near)) items → AreCode p a (Rest items ∷ (Close n ∷ c.control))
  block near items n h is = (record { near = in_block near; around = record { breaks = h.breaks; continues = h.continues; result = h.result }; are = is }, (tt, r))

  node_of : (near : Near) (l : ItemNode) (left : List BlockItem) → Around p near c.control → ItemNodeIn p near l → Each (ItemIn p near) left → AreCode p a (item_of_node l ∷ (Rest left ∷ c.control))
  node_of near (b.Declared x) left h is more = (names_in p true x (second_empty _ _ is.clear) is.told, (record { near = near; around = h; are = more }, r))
  node_of near (b.Run x) left h is more =
      (record { near = near; around = record { breaks = h.breaks; continues = h.continues; result = h.result }; is = record { clear = is.clear; told = is.told } }, (record { near = near; around = h; are = more }, r))

  pub rests : (items : List BlockItem) → BlockOn p c.control items → Keeps p a (rest_move items c)
  rests [] h = r
  rests (x ∷ left) h = node_of h.near (out-BlockItem x) left h.around (item_node_in p h.near x h.are.0) h.are.1

  -- ---- `if`

  pub branches : (xs : List Branch) (otherwise : Option Statement) → BranchesOn p c.control xs otherwise → Keeps p a (branches_move xs otherwise c)
  branches [] None h = r
  branches [] (Some x) h = (record { near = apart h.near; around = record { breaks = h.around.breaks; continues = h.around.continues; result = h.around.result }; is = h.last }, r)
  branches (x ∷ xs) otherwise h =
      let one = branch_node_in p h.near x h.are.0 in
      (value_in p a k (test_of x) _ (first_empty _ _ one.clear) (first_told p _ _ one.told), (h, r))

  pub branched : (xs : List Branch) (otherwise : Option Statement) (v : List Scalar) → BranchesOn p c.control xs otherwise → Keeps p a (branched_move xs otherwise v c)
  branched [] otherwise v h = r
  branched (x ∷ xs) otherwise v h =
      let one = branch_node_in p h.near x h.are.0 in (
        (record { near = h.near; around = h.around; are = h.are.1; last = h.last }, r),
        (record { near = apart h.near; around = record { breaks = h.around.breaks; continues = h.around.continues; result = h.around.result }; is = record { clear = second_empty _ _ one.clear; told = second_told p _ _ one.told } }, r),
      )

  -- ---- `switch`

  runs : (near : Near) (items : List BlockItem) → Around p near (Switched ∷ c.control) → Each (ItemIn p near) items → AreCode p a (running items c).control
  runs near items h is = (record { near = near; around = h; are = is }, (tt, r))

  by_default : (near : Near) (otherwise : Option (List BlockItem)) → Around p near (Switched ∷ c.control) → ItemsIn p near otherwise → AreCode p a (defaults otherwise c).control
  by_default near None h is = r
  by_default near (Some items) h is = runs near items h is

  seeks_by : (kind : IntType) (value : ℤ) (l : ItemNode) (x : BlockItem) (left : List BlockItem) (otherwise : Option (List BlockItem)) → SwitchOn p c.control (x ∷ left) otherwise → Keeps p a (seeks_node kind value l (x ∷ left) left otherwise c)
  seeks_by kind value (b.Declared y) x left otherwise h = (record { near = h.near; around = h.around; are = h.are.1; by_default = h.by_default }, r)
  seeks_by kind value (b.Run y) x left otherwise h = (h, r)

  pub seeks : (kind : IntType) (value : ℤ) (items : List BlockItem) (otherwise : Option (List BlockItem)) → SwitchOn p c.control items otherwise → Keeps p a (seeks_move kind value items otherwise c)
  seeks kind value [] otherwise h = by_default h.near otherwise h.around h.by_default
  seeks kind value (x ∷ left) otherwise h = seeks_by kind value (out-BlockItem x) x left otherwise h

  later : (near : Near) (items : List BlockItem) → Each (ItemIn p near) items → Each (ItemIn p near) (after_first items)
  later near [] h = tt
  later near (x ∷ left) h = h.1

  pub labels : (kind : IntType) (value : ℤ) (l : StatementNode) (items : List BlockItem) (otherwise : Option (List BlockItem)) → SwitchOn p c.control items otherwise → Keeps p a (labels_node p kind value l items otherwise c)
  labels kind value (t.Label name body at) items otherwise h = (h, r)
  labels kind value (t.Case constant body at) items otherwise h = (runs h.near items h.around h.are, (h, r))
  labels kind value (t.Default body at) items otherwise h = (record { near = h.near; around = h.around; are = h.are; by_default = h.are }, r)
  labels kind value _ items otherwise h = (record { near = h.near; around = h.around; are = later h.near items h.are; by_default = h.by_default }, r)

  searched : (near : Near) (value : Expression) (v : List Scalar) (l : StatementNode) → Around p near c.control → NodeIn p (in_switch near) l → Keeps p a (searches_node p value v l c)
  searched near value v (t.Block items at) h is = (record { near = in_block (in_switch near); around = below_switched near h; are = items_in p (in_block (in_switch near)) items is.clear is.told; by_default = tt }, r)
  searched near value v _ h is = r

  -- ---- a statement begins

  module _ (x : Statement) (near : Near) (h : Around p near c.control) (s : StatementIn p near x) where
    itself : StatementOn p c.control x
    itself = record { near = near; around = h; is = s }

    inside : (body : Statement) → StatementIn p (behind_label near) body → Keeps p a (Goes (put (Work body) c))
    inside body is = (record { near = behind_label near; around = record { breaks = h.breaks; continues = h.continues; result = h.result }; is = is }, r)

    turns : (body : Statement) → StatementIn p (in_loop near) body → AreCode p a (turning x body c).control
    turns body is = (record { near = in_loop near; around = below_again near x h; is = is }, (itself, r))

    begins : (first : ForStart) → start_pairs (given_in p) first ≡ [] → AreTold p (found_in_start (sought p) first) → Keeps p a (starts p x first c)
    begins start.Nothing e d = (itself, r)
    begins (start.Value value) e d = (value_in p a k value _ e d, (tt, (itself, r)))
    begins (start.Declared y) e d = (names_in p true y e d, (record { near = near; around = below_close near (length c.store) h; is = s }, (tt, r)))

    tests : (value : Expression) → a.OfValue value → Keeps p a (asks value (Tests x) c)
    tests value i = (i, (itself, r))

    works : (l : StatementNode) → NodeIn p near l → Keeps p a (work_node p x l c)
    works (t.Block items at) is = block near items (length c.store) h (items_in p (in_block near) items is.clear is.told)
    works (t.Empty at) is = r
    works (t.Value value at) is = (value_in p a k value _ is.clear is.told, (tt, r))
    works (t.Label name body at) is = inside body (record { clear = is.clear; told = is.told })
    works (t.Case value body at) is = inside body (record { clear = second_empty _ _ is.clear; told = second_told p _ _ is.told })
    works (t.Default body at) is = inside body (record { clear = second_empty _ _ is.clear; told = is.told })
    works (t.If xs) is = (record { near = near; around = h; are = branches_in p near xs is.clear is.told; last = tt }, r)
    works (t.IfElse xs otherwise) is =
        (record { near = near; around = h; are = branches_in p near xs (first_empty _ _ is.clear) (first_told p _ _ is.told); last = record { clear = second_empty _ _ is.clear; told = second_told p _ _ is.told } }, r)
    works (t.Switch value body at) is = tests value (value_in p a k value (switch_value at) (first_empty _ _ (first_empty _ _ is.clear)) (first_told p _ _ is.told))
    works (t.While test body at) is = (itself, r)
    works (t.Do body test at) is = (itself, r)
    works (t.For first test step body at) is = begins first (first_empty _ _ (first_empty _ _ (first_empty _ _ is.clear))) (first_told p _ _ (first_told p _ _ (first_told p _ _ is.told)))
    works (t.Break at) is = (h.breaks (not_broken near.may_break at 18 is.clear), r)
    works (t.Continue at) is = (h.continues (not_broken near.may_continue at 18 is.clear), r)
    works (t.Return None at) is = (tt, r)
    works (t.Return (Some value) at) is = tests value (value_in p a k value is_used (second_empty _ _ is.clear) is.told)

    decided : (l : StatementNode) (v : List Scalar) → NodeIn p near l → Keeps p a (decides_node p x l v c)
    decided (t.Switch value body at) v is = searched near value v (out-Statement body) h (node_in p (in_switch near) body (record { clear = second_empty _ _ is.clear; told = second_told p _ _ is.told }))
    decided (t.While test body at) v is = (r, turns body (record { clear = second_empty _ _ is.clear; told = second_told p _ _ is.told }))
    decided (t.Do body test at) v is = (r, (itself, r))
    decided (t.For first test step body at) v is = (r, turns body (record { clear = second_empty _ _ is.clear; told = second_told p _ _ is.told }))
    decided (t.Return value at) v is = (tt, r)
    decided _ v is = r

    optional : (f : Typed → Answer) (y : Option Expression) → of_option (λ y. broken_value (given_in p) y f) y ≡ [] → AreTold p (of_option (sought p).expression y) → (x : Expression) → y ≡ Some x → a.OfValue x
    optional f None e d x q = absurd (cc)
    optional f (Some y) e d x q = let same : y ≡ x = cc in subst a.OfValue same (value_in p a k y f e d)

    conditioned : (test : Option Expression) (body : Statement) → StatementIn p (in_loop near) body → ((y : Expression) → test ≡ Some y → a.OfValue y) → Keeps p a (conditions test x body c)
    conditioned None body is d = turns body is
    conditioned (Some test) body is d = tests test (d test refl)

    thirds : (step : Option Expression) → ((y : Expression) → step ≡ Some y → a.OfValue y) → Keeps p a (third_part step x c)
    thirds None d = (itself, r)
    thirds (Some step) d = (d step refl, (tt, (itself, r)))

    loops : (l : StatementNode) → NodeIn p near l → Keeps p a (loop_node x l c)
    loops (t.While test body at) is = tests test (value_in p a k test (test_value at) (first_empty _ _ is.clear) (first_told p _ _ is.told))
    loops (t.Do body test at) is = turns body (record { clear = first_empty _ _ is.clear; told = first_told p _ _ is.told })
    loops (t.For first test step body at) is =
        conditioned test body (record { clear = second_empty _ _ is.clear; told = second_told p _ _ is.told })
        (optional (test_value at) test (second_empty (start_pairs (given_in p) first) _ (first_empty _ _ (first_empty _ _ is.clear))) (second_told p (found_in_start (sought p) first) _ (first_told p _ _ (first_told p _ _ is.told))))
    loops _ is = tt

    repeats : (l : StatementNode) → NodeIn p near l → Keeps p a (again_node x l c)
    repeats (t.While test body at) is = (itself, r)
    repeats (t.Do body test at) is = tests test (value_in p a k test (test_value at) (second_empty _ _ is.clear) (second_told p _ _ is.told))
    repeats (t.For first test step body at) is =
        thirds step (optional is_used step (second_empty _ _ (first_empty _ _ is.clear)) (second_told p _ _ (first_told p _ _ is.told)))
    repeats _ is = tt

  pub work : (x : Statement) → StatementOn p c.control x → Keeps p a (work_move p x c)
  work x h = works x h.near h.around h.is (out-Statement x) (node_in p h.near x h.is)

  pub decision : (x : Statement) (v : List Scalar) → StatementOn p c.control x → Keeps p a (decides p x v c)
  decision x v h = decided x h.near h.around h.is (out-Statement x) v (node_in p h.near x h.is)

  pub loop : (x : Statement) → StatementOn p c.control x → Keeps p a (loop_move x c)
  loop x h = loops x h.near h.around h.is (out-Statement x) (node_in p h.near x h.is)

  pub again : (x : Statement) → StatementOn p c.control x → Keeps p a (again_move x c)
  again x h = repeats x h.near h.around h.is (out-Statement x) (node_in p h.near x h.is)
