-- Each kind of statement.
use Rattle.std.proofs.Common.{◌≡◌, ℕ, ◌≤◌, ℤ, List, [], ◌∷◌, ◌++◌, length, Option, Some, None, refl, sym, subst, arith, length-append}
use Rattle.kv_num.specs.declared.types.IntType.{IntType}
use Rattle.c_tree.specs.declared.expression.Expression.{Expression}
use Rattle.c_tree.specs.declared.statement.Statement.{Statement, out-Statement}
use Rattle.c_tree.specs.declared.statement.Branch.{Branch}
use Rattle.c_tree.specs.declared.statement.BlockItem.{BlockItem, out-BlockItem}
use Rattle.c_tree.specs.declared.statement.BlockItem.TheOpen.{Statement-F as t, BlockItem-F as b}
use Rattle.c_tree.specs.declared.statement.ForStart.{ForStart}
use Rattle.c_tree.specs.declared.statement.ForStart.TheVariants as start
use Rattle.c_kinds.specs.declared.types.CType.{CType}
use Rattle.c_kinds.specs.declared.types.CellType.{CellType}
use Rattle.c_kinds.specs.Types.{void}
use Rattle.c_rules.specs.declared.program.Program.{Program}
use Rattle.c_model.specs.declared.values.Scalar.{Scalar}
use Rattle.c_model.specs.Programs.{StatementNode, ItemNode, types_of}
use Rattle.c_model.specs.Store.{born}
use Rattle.c_model.specs.Calls.{objects_of, objects_declared, opens}
use Rattle.c_model.specs.Moves.{put, asks}
use Rattle.c_model.specs.Loops.{starts, turning, conditions, third_part, loop_node, again_node}
use Rattle.c_model.specs.Switches.{running, defaults, seeks_node, seeks_move, labels_node, searches_node, after_first}
use Rattle.c_model.specs.Statements.{item_of_node, rest_move, test_of, branches_move, branched_move, returned, work_node, decides_node}
use Rattle.c_model.specs.Configurations.{Item, Drops, Work, Tests, Rest, Close, Branches, Branching, Seeks, Labels, Switched, Loop, Again, Breaking, Continuing, Declaring, State}
use Rattle.c_model.specs.Heads.{AreOf}
use Rattle.c_heads.specs.Typed.{IsLaidOut}
use Rattle.c_heads.specs.Waiting.{Given, Runs, Acts, type_given, given_by}
use Rattle.c_heads.specs.Controls.{running_in, MayTest, HasTested, IsSoundControl, IsSoundState}
use Rattle.c_heads.specs.Sound.{IsReturn, IsTypedStatement}
use Rattle.c_heads.proofs.Conversions.{types_of_void}
use Rattle.c_heads.proofs.Stores.{grows_more, opened, born_is}
use Rattle.c_heads.proofs.Moving.{grown_control}
use Rattle.c_heads.proofs.Handing.{asks_is}
use Rattle.c_heads.proofs.Evaluating.{stands_same, AllSound}

module _ (p : Program) where
  -- c is the state without the item
  module _ (c : State) (is : IsLaidOut p c.store) where
    abbrev n : ℕ
    n = length c.store

    abbrev Running : List Item → Type 0
    Running items = IsSoundControl p c.store n Runs items

    pub runs : (below : Given) (items : List Item) → below ≡ Runs → IsSoundControl p c.store n below items → Running items
    runs below items e h = let P : Given → Type 0 = λ g. IsSoundControl p c.store n g items in subst P e h

    pub goes : (items : List Item) → Running items → IsSoundState p (record c { control = items })
    goes items h = record { store = is; top = Runs; active = tt; control = h }

    module _ (r : Running c.control) where
      pub here : IsSoundState p c
      here = record { store = is; top = Runs; active = tt; control = r }

      -- an expression whose value is tested or dropped
      drops : (x : Expression) → AllSound p (asks x Drops c)
      drops x = asks_is p c is x Drops (given_by p x) (stands_same p (given_by p x)) (Runs, tt, tt, r)

      pub tests : (x : Expression) (s : Statement) (l : StatementNode) → out-Statement s ≡ l → MayTest p (running_in c.control) l (type_given (given_by p x)) → AllSound p (asks x (Tests s) c)
      tests x s l q m =
          let P : StatementNode → Type 0 = λ z. MayTest p (running_in c.control) z (type_given (given_by p x)) in
          asks_is p c is x (Tests s) (given_by p x) (stands_same p (given_by p x)) (Runs, subst P (sym q) m, refl, r)

      -- ---- blocks

      opened_control : (numbers : List ℕ) → IsSoundControl p (c.store ++ born p numbers) (length c.store) Runs c.control
      opened_control numbers = grown_control p c.store (c.store ++ born p numbers) (grows_more c.store (born p numbers)) (length c.store) (omega arith) Runs c.control r

      more_live : (numbers : List ℕ) → length c.store ≤ length (c.store ++ born p numbers)
      more_live numbers = omega (arith, length-append c.store (born p numbers))

      block : (items : List BlockItem) (numbers : List ℕ) → IsSoundState p (put (Rest items) (put (Close (length c.store)) (opens p numbers c)))
      block items numbers = record {
        store = opened p c.store (born p numbers) is (born_is p c.store numbers);
        top = Runs;
        active = tt;
        control = (Runs, tt, refl, (Runs, tt, (more_live numbers, refl), opened_control numbers));
      }

      node_of : (l : ItemNode) (left : List BlockItem) → IsSoundState p (put (item_of_node l) (put (Rest left) c))
      node_of (b.Declared declaration) left = goes (Declaring declaration.names ∷ (Rest left ∷ c.control)) (Runs, tt, refl, (Runs, tt, refl, r))
      node_of (b.Run statement) left = goes (Work statement ∷ (Rest left ∷ c.control)) (Runs, tt, refl, (Runs, tt, refl, r))

      pub rests : (items : List BlockItem) → AllSound p (rest_move items c)
      rests [] = here
      rests (item ∷ left) = node_of (out-BlockItem item) left

      -- ---- `if`

      pub branches : (left : List Branch) (otherwise : Option Statement) → AllSound p (branches_move left otherwise c)
      branches [] None = here
      branches [] (Some s) = goes (Work s ∷ c.control) (Runs, tt, refl, r)
      branches (branch ∷ left) otherwise =
          asks_is p c is (test_of branch) (Branching (branch ∷ left) otherwise) (given_by p (test_of branch)) (stands_same p (given_by p (test_of branch))) (Runs, tt, refl, r)

      pub branched : (left : List Branch) (otherwise : Option Statement) (v : List Scalar) → AllSound p (branched_move left otherwise v c)
      branched [] otherwise v = here
      branched (branch ∷ left) otherwise v = (goes (Branches left otherwise ∷ c.control) (Runs, tt, refl, r), goes (Work _ ∷ c.control) (Runs, tt, refl, r))

      -- ---- `switch`

      found_items : (items : List BlockItem) → IsSoundState p (running items c)
      found_items items = goes (Rest items ∷ (Switched ∷ c.control)) (Runs, tt, refl, (Runs, tt, refl, r))

      by_default : (otherwise : Option (List BlockItem)) → IsSoundState p (defaults otherwise c)
      by_default None = here
      by_default (Some items) = found_items items

      seeks_by : (kind : IntType) (value : ℤ) (l : ItemNode) (items left : List BlockItem) (otherwise : Option (List BlockItem)) → AllSound p (seeks_node kind value l items left otherwise c)
      seeks_by kind value (b.Declared declaration) items left otherwise = goes (Seeks kind value left otherwise ∷ c.control) (Runs, tt, refl, r)
      seeks_by kind value (b.Run statement) items left otherwise = goes (Labels kind value statement items otherwise ∷ c.control) (Runs, tt, refl, r)

      pub seeks : (kind : IntType) (value : ℤ) (left : List BlockItem) (otherwise : Option (List BlockItem)) → AllSound p (seeks_move kind value left otherwise c)
      seeks kind value [] otherwise = by_default otherwise
      seeks kind value (item ∷ left) otherwise = seeks_by kind value (out-BlockItem item) (item ∷ left) left otherwise

      pub labels : (kind : IntType) (value : ℤ) (l : StatementNode) (items : List BlockItem) (otherwise : Option (List BlockItem)) → AllSound p (labels_node p kind value l items otherwise c)
      labels kind value (t.Label name body at) items otherwise = goes (Labels kind value body items otherwise ∷ c.control) (Runs, tt, refl, r)
      labels kind value (t.Case constant body at) items otherwise = (found_items items, goes (Labels kind value body items otherwise ∷ c.control) (Runs, tt, refl, r))
      labels kind value (t.Default body at) items otherwise = goes (Labels kind value body items (Some items) ∷ c.control) (Runs, tt, refl, r)
      labels kind value _ items otherwise = goes (Seeks kind value (after_first items) otherwise ∷ c.control) (Runs, tt, refl, r)

      body_sought : (value : Expression) (v : List Scalar) (l : StatementNode) → AllSound p (searches_node p value v l c)
      body_sought value v (t.Block items at) = goes (Seeks _ _ items None ∷ c.control) (Runs, tt, refl, r)
      body_sought value v _ = here

      -- ---- loops

      loop_at : (s : Statement) → IsSoundState p (put (Loop s) c)
      loop_at s = goes (Loop s ∷ c.control) (Runs, tt, refl, r)

      turns : (s body : Statement) → IsSoundState p (turning s body c)
      turns s body = goes (Work body ∷ (Again s ∷ c.control)) (Runs, tt, refl, (Runs, tt, refl, r))

      started : (s : Statement) (first : ForStart) → AllSound p (starts p s first c)
      started s start.Nothing = loop_at s
      started s (start.Value value) = asks_is p (put (Loop s) c) is value Drops (given_by p value) (stands_same p (given_by p value)) (Runs, tt, tt, (Runs, tt, refl, r))
      started s (start.Declared declaration) =
          let numbers = objects_declared p declaration.names in
          record {
            store = opened p c.store (born p numbers) is (born_is p c.store numbers);
            top = Runs;
            active = tt;
            control = (Runs, tt, refl, (Runs, tt, refl, (Runs, tt, (more_live numbers, refl), opened_control numbers)));
          }

      conditioned : (test : Option Expression) (s body : Statement) (l : StatementNode) → out-Statement s ≡ l → ((of : CType) → MayTest p (running_in c.control) l of) → AllSound p (conditions test s body c)
      conditioned None s body l q m = turns s body
      conditioned (Some test) s body l q m = tests test s l q (m (type_given (given_by p test)))

      stepped_on : (step : Option Expression) (s : Statement) → AllSound p (third_part step s c)
      stepped_on None s = loop_at s
      stepped_on (Some step) s = asks_is p (put (Loop s) c) is step Drops (given_by p step) (stands_same p (given_by p step)) (Runs, tt, tt, (Runs, tt, refl, r))

      pub loops : (s : Statement) (l : StatementNode) → out-Statement s ≡ l → AllSound p (loop_node s l c)
      loops s (t.While test body at) q = tests test s (t.While test body at) q tt
      loops s (t.Do body test at) q = turns s body
      loops s (t.For first test step body at) q = conditioned test s body (t.For first test step body at) q (λ of. tt)
      loops s _ q = tt

      pub agains : (s : Statement) (l : StatementNode) → out-Statement s ≡ l → AllSound p (again_node s l c)
      agains s (t.While test body at) q = loop_at s
      agains s (t.Do body test at) q = tests test s (t.Do body test at) q tt
      agains s (t.For first test step body at) q = stepped_on step s
      agains s _ q = tt

      -- ---- statements

      empty_value : AreOf c.store (types_of p void) []
      empty_value = let P : List CellType → Type 0 = λ ts. AreOf c.store ts [] in subst P (sym (types_of_void p void refl)) tt

      returning : (value : Option Expression) (s : Statement) (at : ℕ) → out-Statement s ≡ t.Return value at → IsReturn p (running_in c.control) value → AllSound p (returned value s c)
      returning None s at q y = record { store = is; top = Acts; active = tt; control = (Runs, tt, ((void, y, empty_value), refl), r) }
      returning (Some value) s at q y = tests value s (t.Return (Some value) at) q y

      pub works : (s : Statement) (l : StatementNode) → out-Statement s ≡ l → IsTypedStatement p (running_in c.control) l → AllSound p (work_node p s l c)
      works s (t.Block items at) q y = block items (objects_of p items)
      works s (t.Empty at) q y = here
      works s (t.Value value at) q y = drops value
      works s (t.Label name body at) q y = goes (Work body ∷ c.control) (Runs, tt, refl, r)
      works s (t.Case value body at) q y = goes (Work body ∷ c.control) (Runs, tt, refl, r)
      works s (t.Default body at) q y = goes (Work body ∷ c.control) (Runs, tt, refl, r)
      works s (t.If left) q y = goes (Branches left None ∷ c.control) (Runs, tt, refl, r)
      works s (t.IfElse left otherwise) q y = goes (Branches left (Some otherwise) ∷ c.control) (Runs, tt, refl, r)
      works s (t.Switch value body at) q y = tests value s (t.Switch value body at) q tt
      works s (t.While test body at) q y = loop_at s
      works s (t.Do body test at) q y = loop_at s
      works s (t.For first test step body at) q y = started s first
      works s (t.Break at) q y = goes (Breaking ∷ c.control) (Runs, tt, refl, r)
      works s (t.Continue at) q y = goes (Continuing ∷ c.control) (Runs, tt, refl, r)
      works s (t.Return value at) q y = returning value s at q y

      pub decided : (s : Statement) (l : StatementNode) (v : List Scalar) → HasTested p c.store (running_in c.control) l v → AllSound p (decides_node p s l v c)
      decided s (t.Switch value body at) v y = body_sought value v (out-Statement body)
      decided s (t.While test body at) v y = (here, turns s body)
      decided s (t.Do body test at) v y = (here, loop_at s)
      decided s (t.For first test step body at) v y = (here, turns s body)
      decided s (t.Return value at) v y = record { store = is; top = Acts; active = tt; control = (Runs, tt, (y, refl), r) }
      decided s _ v y = here
