-- Each step of a statement, a declaration or a call leaves fewer steps, or is an arrival.
use Rattle.std.proofs.Common.{◌≡◌, ℕ, zero, suc, ◌+◌, ◌≤◌, List, [], ◌∷◌, ◌++◌, length, drop, map, Bool, true, false, ℤ, Option, Some, None, refl, ap, ◌∙◌, arith, cond, length-append}
use Rattle.std.proofs.lemmas.List.{length-map}
use Rattle.std.proofs.Math.Seq.{drop-cons}
use Rattle.std.proofs.lemmas.Option.{slice_get_within}
use Rattle.std.specs.Prelude.{slice_get}
use Rattle.kv_num.specs.declared.types.IntType.{IntType}
use Rattle.c_tree.specs.declared.declaration.Declared.{Declared}
use Rattle.c_tree.specs.declared.declaration.Declared.TheVariants as declared
use Rattle.c_tree.specs.declared.declaration.Initialiser.{Initialiser, out-Initialiser}
use Rattle.c_tree.specs.declared.declaration.Initialiser.TheOpen.{Initialiser-F}
use Rattle.c_tree.specs.declared.declaration.Initialiser.TheOpen.{Initialiser-F as i}
use Rattle.c_tree.specs.declared.expression.Expression.{Expression, out-Expression}
use Rattle.c_tree.specs.declared.statement.BlockItem.{BlockItem, out-BlockItem}
use Rattle.c_tree.specs.declared.statement.BlockItem.TheOpen.{Statement-F as t, BlockItem-F as b}
use Rattle.c_tree.specs.declared.statement.Branch.{Branch, out-Branch}
use Rattle.c_tree.specs.declared.statement.ForStart.{ForStart}
use Rattle.c_tree.specs.declared.statement.ForStart.TheVariants as start
use Rattle.c_tree.specs.declared.statement.Statement.{Statement, out-Statement}
use Rattle.c_kinds.specs.declared.types.CType.{CType}
use Rattle.c_kinds.specs.declared.types.CellType.{CellType}
use Rattle.c_kinds.specs.declared.types.CellType.TheVariants as cell
use Rattle.c_rules.specs.declared.names.Meaning.{Meaning}
use Rattle.c_rules.specs.declared.names.Meaning.TheVariants as meaning
use Rattle.c_rules.specs.declared.program.Program.{Program}
use Rattle.c_model.specs.declared.values.Scalar.{Scalar}
use Rattle.c_model.specs.declared.values.Scalar.TheVariants.{Number, Wild}
use Rattle.c_model.specs.Calls.{makes_cell}
use Rattle.c_model.specs.Configurations.{Item, Value, Needs, Place, Locates, CommaParts, Drops, Work, Tests, Decides, Rest, Close, Branches, Branching, Branched, Seeks, Labels, Switched, Loop, Again, Breaking, Continuing, Leaving, Back, Makes, Declaring, Unset, Fills, Parts, Awaits, State, Goes}
use Rattle.c_model.specs.Declarations.{unset_cell, fill_node, parts_move, begins_life, declares_by, declaring_move}
use Rattle.c_model.specs.Functions.{result_of}
use Rattle.c_model.specs.Loops.{starts, turning, conditions, third_part, loop_node, again_node, breaks, continues, leaves}
use Rattle.c_model.specs.Moves.{put, gives, all_outlived, item_outlived, closes}
use Rattle.c_model.specs.Store.{outlived}
use Rattle.c_model.specs.Programs.{StatementNode, ItemNode, types_of, types_in, is_static, declares}
use Rattle.c_model.specs.Statements.{entering_block, branches_move, branched_move, returned, work_node, decides_node, rest_move, item_of_node}
use Rattle.c_model.specs.Switches.{running, seeks_node, seeks_move, labels_node, searches_node}
use Rattle.c_model.specs.Costs.{start_cost, return_cost, Cost, total, all_costs, expression_cost, initialiser_node, initialiser_cost, plain_cost, declared_cost, labels_cost, search_cost, item_node, statement_node, statement_size, item_size, branch_size, block_cost, makes_cost}
use Rattle.c_model.proofs.Costs.{of_initialiser_is, of_statement_is, of_item_is, of_branch_is}
use Rattle.c_model.proofs.Measure.{value_left, place_left, step_cost, test_cost, body_cost, again_node_cost, done_node_cost, turn_node_cost, choices_cost, branched_cost, left}
use Rattle.c_model.proofs.Falls.{Less, Falls, of, waiting, onward, arrived, given, asked, some_left, some_place}

module _ (p : Program) (cs : ℕ → ℕ) where
  abbrev rest_left : List Item → ℕ
  rest_left items = left p cs items

  abbrev of_item : Item → ℕ
  of_item item = waiting p cs item

  -- of a statement, and of a node of one
  abbrev body : Statement → ℕ
  body x = total cs (body_cost p x)

  abbrev node : StatementNode → ℕ
  node l = total cs (statement_node p (item_size p) (statement_size p) (branch_size p) l).cost

  pub is_node : (x : Statement) → body x ≡ node (out-Statement x)
  is_node x = ap (λ z. total cs z.cost) (of_statement_is p x)

  body_is : (x : Statement) (l : StatementNode) → out-Statement x ≡ l → body x ≡ node l
  body_is x l o = is_node x ∙ ap node o

  tests : (x : Statement) (l : StatementNode) → out-Statement x ≡ l → of_item (Tests x) ≡ total cs (done_node_cost p l)
  tests x l o = ap (λ z. total cs (done_node_cost p z)) o

  again : (x : Statement) (l : StatementNode) → out-Statement x ≡ l → of_item (Again x) ≡ total cs (again_node_cost p l)
  again x l o = ap (λ z. total cs (again_node_cost p z)) o

  next : (k : ℕ) → k + 1 ≡ suc k
  next k = omega arith

  -- ---- objects that end

  all_outlived_length : (n : ℕ) (found : List (List Scalar)) → length (map (all_outlived n) found) ≡ length found
  all_outlived_length n found = length-map found (all_outlived n)

  outlived_alike : (n : ℕ) (item : Item) → of_item (item_outlived n item) ≡ of_item item
  outlived_alike n (Value x found) = ap (λ k. total cs (value_left p x k)) (all_outlived_length n found)
  outlived_alike n (Needs x found) = ap (λ k. total cs (value_left p x (suc k))) (all_outlived_length n found)
  outlived_alike n (Place x found) = ap (λ k. total cs (place_left p x k)) (all_outlived_length n found)
  outlived_alike n (Locates x found) = ap (λ k. total cs (place_left p x (suc k))) (all_outlived_length n found)
  outlived_alike n (Makes f made) = ap (λ k. total cs (makes_cost p f k)) (length-map made (outlived n))
  outlived_alike n item = refl

  pub closed : (n : ℕ) (items : List Item) → rest_left (map (item_outlived n) items) ≡ rest_left items
  closed n [] = refl
  closed n (item ∷ rest) = ap (λ k. k + rest_left (map (item_outlived n) rest)) (outlived_alike n item) ∙ ap (λ k. of_item item + k) (closed n rest)

  -- ---- each item has a step

  some_all : {X : Type 0} (w : X → Cost) (xs : List X) → 1 ≤ total cs (all_costs w xs)
  some_all w [] = omega arith
  some_all w (x ∷ xs) = omega arith

  some_labels : (n : ℕ) (items : Cost) → 1 ≤ total cs (labels_cost n items)
  some_labels zero items = omega arith
  some_labels (suc n) items = omega arith

  some_search : (items : List BlockItem) → 1 ≤ total cs (search_cost (item_size p) items)
  some_search [] = omega arith
  some_search (x ∷ xs) = omega arith

  some_choices : (xs : List Branch) (otherwise : Option Statement) → 1 ≤ total cs (choices_cost p xs otherwise)
  some_choices [] otherwise = omega arith
  some_choices (x ∷ xs) otherwise = omega arith

  some_branched : (xs : List Branch) (otherwise : Option Statement) → 1 ≤ total cs (branched_cost p xs otherwise)
  some_branched [] otherwise = omega arith
  some_branched (x ∷ xs) otherwise = omega arith

  some_node : (l : StatementNode) → 1 ≤ node l
  some_node (t.Block items at) = omega arith
  some_node (t.Empty at) = omega arith
  some_node (t.Value value at) = omega arith
  some_node (t.Label name inside at) = omega arith
  some_node (t.Case value inside at) = omega arith
  some_node (t.Default inside at) = omega arith
  some_node (t.If branches) = omega arith
  some_node (t.IfElse branches otherwise) = omega arith
  some_node (t.Switch value inside at) = omega arith
  some_node (t.While test inside at) = omega arith
  some_node (t.Do inside test at) = omega arith
  some_node (t.For first test step inside at) = omega arith
  some_node (t.Break at) = omega arith
  some_node (t.Continue at) = omega arith
  some_node (t.Return value at) = omega arith

  some_done : (l : StatementNode) → 1 ≤ total cs (done_node_cost p l)
  some_done (t.Switch value inside at) = omega arith
  some_done (t.While test inside at) = omega arith
  some_done (t.For first test step inside at) = omega arith
  some_done (t.Return value at) = omega arith
  some_done _ = omega arith

  some_step : (step : Option Expression) → 1 ≤ total cs (step_cost p step)
  some_step None = omega arith
  some_step (Some step) = omega arith

  some_again : (l : StatementNode) → 1 ≤ total cs (again_node_cost p l)
  some_again (t.Do inside test at) = omega arith
  some_again (t.For first test step inside at) = some_step step
  some_again _ = omega arith

  some_initialiser : (l : Initialiser-F Initialiser) → 1 ≤ total cs (initialiser_node p (initialiser_cost p) l)
  some_initialiser (i.Value value at) = omega arith
  some_initialiser (i.Braces parts at) = omega arith

  initialiser_is : (x : Initialiser) → total cs (initialiser_cost p x) ≡ total cs (initialiser_node p (initialiser_cost p) (out-Initialiser x))
  initialiser_is x = ap (total cs) (of_initialiser_is p x)

  some_item : (item : Item) → 1 ≤ of_item item
  some_item (Value x found) = some_left p cs (out-Expression x) (length found)
  some_item (Needs x found) = some_left p cs (out-Expression x) (suc (length found))
  some_item (Place x found) = some_place p cs (out-Expression x) (length found)
  some_item (Locates x found) = some_place p cs (out-Expression x) (suc (length found))
  some_item (CommaParts parts) = some_all (expression_cost p) parts
  some_item (Work x) = omega (arith, is_node x, some_node (out-Statement x))
  some_item (Tests x) = some_done (out-Statement x)
  some_item (Decides x v) = some_done (out-Statement x)
  some_item (Rest items) = some_all (λ x. (item_size p x).cost) items
  some_item (Branches xs otherwise) = some_choices xs otherwise
  some_item (Branching xs otherwise) = some_branched xs otherwise
  some_item (Branched xs otherwise v) = some_branched xs otherwise
  some_item (Seeks kind value items otherwise) = omega (arith, some_search items)
  some_item (Labels kind value x items otherwise) = omega (arith, some_labels (statement_size p x).labels (block_cost p items))
  some_item (Again x) = some_again (out-Statement x)
  some_item (Back f objects) = omega arith
  some_item (Makes f made) = omega arith
  some_item (Declaring names) = some_all (declared_cost p) names
  some_item (Unset number offset) = omega arith
  some_item (Fills number offset t x) = omega (arith, initialiser_is x, some_initialiser (out-Initialiser x))
  some_item (Parts number offset t part parts) = some_all (initialiser_cost p) parts
  some_item _ = omega arith

  -- ---- blocks and branches

  pub rest_falls : (items : List BlockItem) (c : State) → Falls p cs (rest_move items c) (of_item (Rest items) + rest_left c.control)
  rest_falls [] c = onward p cs c _ (omega arith)
  rest_falls (x ∷ xs) c = item_falls (out-BlockItem x) refl
    where
      item_falls : (l : ItemNode) → out-BlockItem x ≡ l → Less p cs (put (item_of_node l) (put (Rest xs) c)) (of_item (Rest (x ∷ xs)) + rest_left c.control)
      item_falls (b.Declared declaration) o = onward p cs _ _ (omega (arith, ap (λ z. total cs z.cost) (of_item_is p x ∙ ap (item_node p (statement_size p)) o)))
      item_falls (b.Run statement) o = onward p cs _ _ (omega (arith, ap (λ z. total cs z.cost) (of_item_is p x ∙ ap (item_node p (statement_size p)) o)))

  branch_is : (x : Branch) → total cs (branch_size p x) ≡ of p cs (out-Branch x).test + body (out-Branch x).body
  branch_is x = ap (total cs) (of_branch_is p x)

  pub branches_falls : (xs : List Branch) (otherwise : Option Statement) (c : State) → Falls p cs (branches_move xs otherwise c) (of_item (Branches xs otherwise) + rest_left c.control)
  branches_falls [] None c = onward p cs c _ (omega arith)
  branches_falls [] (Some x) c = onward p cs (put (Work x) c) _ (omega arith)
  branches_falls (x ∷ xs) otherwise c = asked p cs (out-Branch x).test (Branching (x ∷ xs) otherwise) c _ (omega (arith, branch_is x))

  pub branched_falls : (xs : List Branch) (otherwise : Option Statement) (v : List Scalar) (c : State) → Falls p cs (branched_move xs otherwise v c) (of_item (Branched xs otherwise v) + rest_left c.control)
  branched_falls [] otherwise v c = onward p cs c _ (omega arith)
  branched_falls (x ∷ xs) otherwise v c = (onward p cs (put (Branches xs otherwise) c) _ (omega arith), onward p cs (put (Work (out-Branch x).body) c) _ (omega arith))

  -- ---- statements

  starts_falls : (x : Statement) (first : ForStart) (c : State) → Falls p cs (starts p x first c) (4 + total cs (start_cost p first) + rest_left c.control)
  starts_falls x start.Nothing c = arrived p cs x c _
  starts_falls x (start.Value value) c = asked p cs value Drops (put (Loop x) c) _ (omega arith)
  starts_falls x (start.Declared declaration) c = onward p cs _ _ (omega arith)

  returned_falls : (value : Option Expression) (x : Statement) (c : State) → of_item (Tests x) ≡ 2 → Falls p cs (returned value x c) (4 + total cs (return_cost p value) + rest_left c.control)
  returned_falls None x c h = onward p cs (put (Leaving []) c) _ (omega arith)
  returned_falls (Some value) x c h = asked p cs value (Tests x) c _ (omega (arith, h))

  pub work_falls : (x : Statement) (l : StatementNode) → out-Statement x ≡ l → (c : State) → Falls p cs (work_node p x l c) (node l + rest_left c.control)
  work_falls x (t.Block items at) o c = onward p cs (entering_block p items c) _ (omega arith)
  work_falls x (t.Empty at) o c = onward p cs c _ (omega arith)
  work_falls x (t.Value value at) o c = asked p cs value Drops c _ (omega arith)
  work_falls x (t.Label name inside at) o c = onward p cs (put (Work inside) c) _ (omega arith)
  work_falls x (t.Case value inside at) o c = onward p cs (put (Work inside) c) _ (omega arith)
  work_falls x (t.Default inside at) o c = onward p cs (put (Work inside) c) _ (omega arith)
  work_falls x (t.If branches) o c = onward p cs (put (Branches branches None) c) _ (omega arith)
  work_falls x (t.IfElse branches otherwise) o c = onward p cs (put (Branches branches (Some otherwise)) c) _ (omega arith)
  work_falls x (t.Switch value inside at) o c = asked p cs value (Tests x) c _ (omega (arith, tests x _ o))
  work_falls x (t.While test inside at) o c = arrived p cs x c _
  work_falls x (t.Do inside test at) o c = arrived p cs x c _
  work_falls x (t.For first test step inside at) o c = starts_falls x first c
  work_falls x (t.Break at) o c = onward p cs (put Breaking c) _ (omega arith)
  work_falls x (t.Continue at) o c = onward p cs (put Continuing c) _ (omega arith)
  work_falls x (t.Return value at) o c = returned_falls value x c (tests x _ o)

  searches_falls : (value : Expression) (v : List Scalar) (inside : Statement) (l : StatementNode) → out-Statement inside ≡ l → (c : State)
      → Falls p cs (searches_node p value v l c) (1 + body inside + rest_left c.control)
  searches_falls value v inside (t.Block items at) o c = onward p cs _ _ (omega (arith, body_is inside _ o))
  searches_falls value v inside _ o c = onward p cs c _ (omega arith)

  turned : (x inside : Statement) (c : State) (n : ℕ) → 1 + (body inside + (of_item (Again x) + rest_left c.control)) ≤ n → Less p cs (turning x inside c) n
  turned x inside c n h = onward p cs (turning x inside c) n (omega (arith, h))

  pub decides_falls : (x : Statement) (l : StatementNode) → out-Statement x ≡ l → (v : List Scalar) (c : State) → Falls p cs (decides_node p x l v c) (total cs (done_node_cost p l) + rest_left c.control)
  decides_falls x (t.Switch value inside at) o v c = searches_falls value v inside (out-Statement inside) refl c
  decides_falls x (t.While test inside at) o v c = (onward p cs c _ (omega arith), turned x inside c _ (omega (arith, again x _ o)))
  decides_falls x (t.Do inside test at) o v c = (onward p cs c _ (omega arith), arrived p cs x c _)
  decides_falls x (t.For first test step inside at) o v c = (onward p cs c _ (omega arith), turned x inside c _ (omega (arith, again x _ o)))
  decides_falls x (t.Return value at) o v c = onward p cs (put (Leaving v) c) _ (omega arith)
  decides_falls x _ o v c = onward p cs c _ (omega arith)

  conditions_falls : (test step : Option Expression) (x inside : Statement) (c : State) → of_item (Again x) ≡ total cs (step_cost p step) → of_item (Tests x) ≡ 1 + (body inside + total cs (step_cost p step))
      → Falls p cs (conditions test x inside c) (2 + (total cs (test_cost p test) + (body inside + total cs (step_cost p step))) + rest_left c.control)
  conditions_falls None step x inside c h k = turned x inside c _ (omega (arith, h))
  conditions_falls (Some test) step x inside c h k = asked p cs test (Tests x) c _ (omega (arith, k))

  pub loop_falls : (x : Statement) (l : StatementNode) → out-Statement x ≡ l → (c : State) → Falls p cs (loop_node x l c) (total cs (turn_node_cost p l) + rest_left c.control)
  loop_falls x (t.While test inside at) o c = asked p cs test (Tests x) c _ (omega (arith, tests x _ o))
  loop_falls x (t.Do inside test at) o c = turned x inside c _ (omega (arith, again x _ o))
  loop_falls x (t.For first test step inside at) o c = conditions_falls test step x inside c (again x _ o) (tests x _ o)
  loop_falls x _ o c = tt

  third_falls : (step : Option Expression) (x : Statement) (c : State) → Falls p cs (third_part step x c) (total cs (step_cost p step) + rest_left c.control)
  third_falls None x c = arrived p cs x c _
  third_falls (Some step) x c = asked p cs step Drops (put (Loop x) c) _ (omega arith)

  pub again_falls : (x : Statement) (l : StatementNode) → out-Statement x ≡ l → (c : State) → Falls p cs (again_node x l c) (total cs (again_node_cost p l) + rest_left c.control)
  again_falls x (t.While test inside at) o c = arrived p cs x c _
  again_falls x (t.Do inside test at) o c = asked p cs test (Tests x) c _ (omega (arith, tests x _ o))
  again_falls x (t.For first test step inside at) o c = third_falls step x c
  again_falls x _ o c = tt

  -- ---- jumps

  pub breaks_falls : (items : List Item) (c : State) → Falls p cs (breaks items c) (1 + rest_left items)
  breaks_falls [] c = tt
  breaks_falls (Switched ∷ rest) c = onward p cs _ _ (omega arith)
  breaks_falls (Again x ∷ rest) c = onward p cs _ _ (omega (arith, some_item (Again x)))
  breaks_falls (Close objects ∷ rest) c = onward p cs _ _ (omega (arith, closed objects rest))
  breaks_falls (item ∷ rest) c = onward p cs _ _ (omega (arith, some_item item))

  pub continues_falls : (items : List Item) (c : State) → Falls p cs (continues items c) (1 + rest_left items)
  continues_falls [] c = tt
  continues_falls (Again x ∷ rest) c = onward p cs _ _ (omega arith)
  continues_falls (Close objects ∷ rest) c = onward p cs _ _ (omega (arith, closed objects rest))
  continues_falls (item ∷ rest) c = onward p cs _ _ (omega (arith, some_item item))

  pub leaves_falls : (v : List Scalar) (items : List Item) (c : State) → Falls p cs (leaves p v items c) (1 + rest_left items)
  leaves_falls v [] c = tt
  leaves_falls v (Back f objects ∷ rest) c = onward p cs _ _ (omega (arith, closed objects rest))
  leaves_falls v (Close objects ∷ rest) c = onward p cs _ _ (omega (arith, closed objects rest))
  leaves_falls v (item ∷ rest) c = onward p cs _ _ (omega (arith, some_item item))

  -- ---- `switch`

  pub seeks_falls : (kind : IntType) (value : ℤ) (items : List BlockItem) (otherwise : Option (List BlockItem)) (c : State)
      → Falls p cs (seeks_move kind value items otherwise c) (of_item (Seeks kind value items otherwise) + rest_left c.control)
  seeks_falls kind value [] None c = onward p cs c _ (omega arith)
  seeks_falls kind value [] (Some items) c = onward p cs (running items c) _ (omega arith)
  seeks_falls kind value (x ∷ xs) otherwise c = one_falls (out-BlockItem x) refl
    where
      one_falls : (l : ItemNode) → out-BlockItem x ≡ l → Falls p cs (seeks_node kind value l (x ∷ xs) xs otherwise c) (of_item (Seeks kind value (x ∷ xs) otherwise) + rest_left c.control)
      one_falls (b.Declared declaration) o = onward p cs _ _ (omega arith)
      one_falls (b.Run statement) o =
          let same = ap (λ z. total cs (labels_cost z.labels (block_cost p (x ∷ xs)))) (of_item_is p x ∙ ap (item_node p (statement_size p)) o) in
          onward p cs _ _ (omega (arith, same))

  pub labels_falls : (kind : IntType) (value : ℤ) (x : Statement) (l : StatementNode) → out-Statement x ≡ l → (items : List BlockItem) (otherwise : Option (List BlockItem)) (c : State)
      → Falls p cs (labels_node p kind value l items otherwise c) (of_item (Labels kind value x items otherwise) + rest_left c.control)
  labels_falls kind value x (t.Label name inside at) o items otherwise c =
      let same = ap (λ z. total cs (labels_cost z.labels (block_cost p items))) (of_statement_is p x ∙ ap (statement_node p (item_size p) (statement_size p) (branch_size p)) o) in
      onward p cs _ _ (omega (arith, same))
  labels_falls kind value x (t.Case constant inside at) o items otherwise c =
      let same = ap (λ z. total cs (labels_cost z.labels (block_cost p items))) (of_statement_is p x ∙ ap (statement_node p (item_size p) (statement_size p) (branch_size p)) o) in
      (onward p cs (running items c) _ (omega (arith, same)), onward p cs _ _ (omega (arith, same)))
  labels_falls kind value x (t.Default inside at) o items otherwise c =
      let same = ap (λ z. total cs (labels_cost z.labels (block_cost p items))) (of_statement_is p x ∙ ap (statement_node p (item_size p) (statement_size p) (branch_size p)) o) in
      onward p cs _ _ (omega (arith, same))
  labels_falls kind value x _ o items otherwise c = onward p cs _ _ (omega (arith, some_labels (statement_size p x).labels (block_cost p items)))

  -- ---- calls that end, and cells one after another

  pub ends_falls : (is_nothing : Bool) (f n : ℕ) (c : State) → Falls p cs (cond is_nothing (gives [] (closes n c)) (Goes (put (Makes f []) (closes n c)))) (of_item (Back f n) + rest_left c.control)
  ends_falls true f n c = given p cs [] (closes n c) _ (omega (arith, closed n c.control))
  ends_falls false f n c = onward p cs (put (Makes f []) (closes n c)) _ (omega (arith, closed n c.control))

  cells_fall : (types : List CellType) (k : ℕ) (one : CellType) → slice_get types k ≡ Some one → length (drop k types) ≡ 1 + length (drop (suc k) types)
  cells_fall types k one q = omega (arith, ap length (drop-cons types k one (slice_get_within types k one q)))

  one_longer : (made : List Scalar) (s : Scalar) → length (made ++ s ∷ []) ≡ suc (length made)
  one_longer made s = omega (arith, length-append made (s ∷ []))

  pub makes_falls : (f : ℕ) (made : List Scalar) (found : Option CellType) → slice_get (types_of p (result_of p f)) (length made) ≡ found → (c : State)
      → Falls p cs (makes_cell found f made c) (of_item (Makes f made) + rest_left c.control)
  makes_falls f made None q c = given p cs made c _ (omega arith)
  makes_falls f made (Some (cell.Integer kind)) q c =
      λ n. let longer = ap (λ k. length (drop k (types_of p (result_of p f)))) (one_longer made (Number n)) in
      onward p cs _ _ (omega (arith, longer, cells_fall (types_of p (result_of p f)) (length made) _ q))
  makes_falls f made (Some (cell.Pointer pointee)) q c =
      let longer = ap (λ k. length (drop k (types_of p (result_of p f)))) (one_longer made Wild) in
      onward p cs _ _ (omega (arith, longer, cells_fall (types_of p (result_of p f)) (length made) _ q))

  pub unset_falls : (number offset : ℕ) (found : Option CellType) → slice_get (types_in p number) offset ≡ found → (c : State)
      → Falls p cs (unset_cell found number offset c) (of_item (Unset number offset) + rest_left c.control)
  unset_falls number offset None q c = onward p cs c _ (omega arith)
  unset_falls number offset (Some (cell.Integer kind)) q c =
      λ n. onward p cs _ _ (omega (arith, ap (λ k. length (drop k (types_in p number))) (next offset), cells_fall (types_in p number) offset _ q))
  unset_falls number offset (Some (cell.Pointer pointee)) q c =
      onward p cs _ _ (omega (arith, ap (λ k. length (drop k (types_in p number))) (next offset), cells_fall (types_in p number) offset _ q))

  -- ---- declarations

  begins_falls : (x : Declared) (number : ℕ) (xs : List Declared) (c : State) → declares p x ≡ Some (meaning.Object number)
      → Falls p cs (begins_life p x number (put (Declaring xs) c)) (of_item (Declaring (x ∷ xs)) + rest_left c.control)
  begins_falls (declared.Plain declarator) number xs c q = onward p cs _ _ (omega (arith, ap (λ z. total cs (plain_cost p z)) q))
  begins_falls (declared.Initialised declarator initialiser at) number xs c q = onward p cs _ _ (omega arith)

  object_falls : (static : Bool) (x : Declared) (number : ℕ) (xs : List Declared) (c : State) → declares p x ≡ Some (meaning.Object number)
      → Falls p cs (cond static (Goes (put (Declaring xs) c)) (begins_life p x number (put (Declaring xs) c))) (of_item (Declaring (x ∷ xs)) + rest_left c.control)
  object_falls true x number xs c q = onward p cs _ _ (omega arith)
  object_falls false x number xs c q = begins_falls x number xs c q

  declares_falls : (m : Option Meaning) (x : Declared) → declares p x ≡ m → (xs : List Declared) (c : State)
      → Falls p cs (declares_by p m x (put (Declaring xs) c)) (of_item (Declaring (x ∷ xs)) + rest_left c.control)
  declares_falls (Some (meaning.Object number)) x q xs c = object_falls (is_static p number) x number xs c q
  declares_falls _ x q xs c = onward p cs (put (Declaring xs) c) _ (omega arith)

  pub declaring_falls : (xs : List Declared) (c : State) → Falls p cs (declaring_move p xs c) (of_item (Declaring xs) + rest_left c.control)
  declaring_falls [] c = onward p cs c _ (omega arith)
  declaring_falls (x ∷ xs) c = declares_falls (declares p x) x refl xs c

  pub fills_falls : (number offset : ℕ) (of_type : CType) (x : Initialiser) (l : Initialiser-F Initialiser) → out-Initialiser x ≡ l → (c : State)
      → Falls p cs (fill_node number offset of_type l c) (of_item (Fills number offset of_type x) + rest_left c.control)
  fills_falls number offset of_type x (i.Value value at) o c = asked p cs value (Awaits number offset of_type) c _ (omega (arith, initialiser_is x, ap (λ z. total cs (initialiser_node p (initialiser_cost p) z)) o))
  fills_falls number offset of_type x (i.Braces parts at) o c = onward p cs _ _ (omega (arith, initialiser_is x, ap (λ z. total cs (initialiser_node p (initialiser_cost p) z)) o))

  pub parts_falls : (number offset : ℕ) (of_type : CType) (part : ℕ) (xs : List Initialiser) (c : State)
      → Falls p cs (parts_move p number offset of_type part xs c) (of_item (Parts number offset of_type part xs) + rest_left c.control)
  parts_falls number offset of_type part [] c = onward p cs _ _ (omega arith)
  parts_falls number offset of_type part (x ∷ xs) c = onward p cs _ _ (omega arith)
