-- No block is endless, where no call leads back to its own function.
use Rattle.std.proofs.Common.{◌≡◌, ℕ, zero, suc, ◌+◌, ◌≤◌, ◌<◌, List, [], ◌∷◌, Bool, true, false, ℤ, pos, Some, refl, ap, ◌∙◌, subst, arith, cond}
use Rattle.kv_num.specs.declared.types.IntType.{IntType}
use Rattle.kv_num.specs.IntType.{wrap_of}
use Rattle.c_tree.specs.declared.expression.Expression.{out-Expression}
use Rattle.c_tree.specs.declared.statement.Statement.{out-Statement}
use Rattle.c_tree.specs.declared.declaration.Initialiser.{out-Initialiser}
use Rattle.c_kinds.specs.Types.{is_void}
use Rattle.c_rules.specs.declared.program.Program.{Program}
use Rattle.std.specs.Prelude.{slice_get, length}
use Rattle.c_model.specs.Blocks.{at_head, BlockEnd, Arrives, Stops as Halts, block_on, block, Block}
use Rattle.c_model.specs.Configurations.{Item, Value, Place, CommaParts, Result, Work, Decides, Rest, Close, Branches, Branched, Seeks, Labels, Switched, Loop, Again, Breaking, Continuing, Leaving, Back, Makes, Declaring, Unset, Fills, Parts, Keeps, State, Feed, Configuration, Move, Goes, Unmet, Forks, Takes, Unassumed, Stops, Answer, Next, Broken, Ended, Assumed, NeedsInput}
use Rattle.c_model.specs.Costs.{Cost, Steps, Both, Calls, Contains, here, in_first, in_second, total, function_cost, CallsEnd}
use Rattle.c_model.specs.Functions.{result_of}
use Rattle.c_model.specs.Moves.{closes}
use Rattle.c_model.specs.Programs.{checks, line_at, types_of, types_in}
use Rattle.c_model.specs.Statements.{work_move}
use Rattle.c_model.specs.Steps.{goes, item_move, move_by, move_of, answered, taking, step}
use Rattle.c_model.proofs.Arrivals.{next_is, fails_never}
use Rattle.c_model.proofs.Measure.{left, steps_left}
use Rattle.c_model.proofs.Falls.{Less, Falls, weaken, onward, given, value_falls, place_falls, comma_falls}
use Rattle.c_model.proofs.StatementFalls.{is_node, closed, rest_falls, branches_falls, branched_falls, work_falls, decides_falls, loop_falls, again_falls, breaks_falls, continues_falls, leaves_falls, seeks_falls, labels_falls, ends_falls, makes_falls, unset_falls, declaring_falls, fills_falls, parts_falls}

module _ (p : Program) (cs : ℕ → ℕ) (enough : (f : ℕ) → total cs (function_cost p f) ≤ cs f) where
  item_falls : (item : Item) (c : State) → Falls p cs (item_move p item c) (steps_left p cs (item ∷ c.control))
  item_falls (Value x found) c = value_falls p cs enough x (out-Expression x) refl found c
  item_falls (Place x found) c = place_falls p cs x (out-Expression x) refl found c
  item_falls (CommaParts parts) c = comma_falls p cs parts c
  item_falls (Result v) c = given p cs v c _ (omega arith)
  item_falls (Work x) c = weaken p cs (work_move p x c) _ _ (omega (arith, is_node p cs x)) (work_falls p cs x (out-Statement x) refl c)
  item_falls (Decides x v) c = decides_falls p cs x (out-Statement x) refl v c
  item_falls (Rest items) c = rest_falls p cs items c
  item_falls (Close objects) c = onward p cs (closes objects c) _ (omega (arith, closed p cs objects c.control))
  item_falls (Branches xs otherwise) c = branches_falls p cs xs otherwise c
  item_falls (Branched xs otherwise v) c = branched_falls p cs xs otherwise v c
  item_falls (Seeks kind value items otherwise) c = seeks_falls p cs kind value items otherwise c
  item_falls (Labels kind value x items otherwise) c = labels_falls p cs kind value x (out-Statement x) refl items otherwise c
  item_falls Switched c = onward p cs c _ (omega arith)
  item_falls (Loop x) c = loop_falls p cs x (out-Statement x) refl c
  item_falls (Again x) c = again_falls p cs x (out-Statement x) refl c
  item_falls Breaking c = breaks_falls p cs c.control c
  item_falls Continuing c = continues_falls p cs c.control c
  item_falls (Leaving v) c = leaves_falls p cs v c.control c
  item_falls (Back f objects) c = ends_falls p cs (is_void (result_of p f)) f objects c
  item_falls (Makes f made) c = makes_falls p cs f made (slice_get (types_of p (result_of p f)) (length made)) refl c
  item_falls (Declaring xs) c = declaring_falls p cs xs c
  item_falls (Unset number offset) c = unset_falls p cs number offset (slice_get (types_in p number) offset) refl c
  item_falls (Fills number offset of_type x) c = fills_falls p cs number offset of_type x (out-Initialiser x) refl c
  item_falls (Parts number offset of_type part xs) c = parts_falls p cs number offset of_type part xs c
  item_falls (Keeps number offset v) c = onward p cs _ _ (omega arith)
  item_falls _ c = tt

  move_falls : (items : List Item) (c : State) → items ≡ c.control → Falls p cs (move_by p items c) (steps_left p cs items)
  move_falls [] c q = tt
  move_falls (item ∷ rest) c q = item_falls item (record c { control = rest })

  -- ---- a step

  reached : (next : State) (feed : Feed) (d : Configuration) (n : ℕ) → goes next feed ≡ Next d → Less p cs next n → Less p cs d.state n
  reached next feed d n e h = subst (λ z. Less p cs z n) (next_is next feed d e) h

  takes_less : (kind : IntType) (go : ℤ → State) (inputs : List ℕ) (taken : List ℤ) (d : Configuration) (n : ℕ) → ((v : ℤ) → Less p cs (go v) n) → taking kind go inputs taken ≡ Next d → Less p cs d.state n
  takes_less kind go [] taken d n h e = absurd (cc)
  takes_less kind go (i ∷ is) taken d n h e = reached (go (wrap_of kind (pos i))) _ d n e (h (wrap_of kind (pos i)))

  answers_less : (m : Move) (feed : Feed) (d : Configuration) (n : ℕ) → Falls p cs m n → answered p m feed ≡ Next d → Less p cs d.state n
  answers_less (Goes next) feed d n h e = reached next feed d n e h
  answers_less (Unmet kind at next) feed d n h e = absurd (fails_never (checks p).goal kind (line_at p at) d e)
  answers_less (Forks true a b) feed d n h e = reached a feed d n e h.0
  answers_less (Forks false a b) feed d n h e = reached b feed d n e h.1
  answers_less (Takes kind go) feed d n h e = takes_less kind go feed.given feed.taken d n h e
  answers_less (Unassumed next) feed d n h e = absurd (cc)
  answers_less Stops feed d n h e = absurd (cc)

  off_head : (items : List Item) → at_head items ≡ false → steps_left p cs items ≡ left p cs items
  off_head [] q = refl
  off_head (Loop x ∷ rest) q = absurd (cc)
  off_head (item ∷ rest) q = refl

  step_less : (c d : Configuration) → step p c ≡ Next d → at_head d.state.control ≡ false → 1 + steps_left p cs d.state.control ≤ steps_left p cs c.state.control
  step_less c d e q =
      let less = answers_less (move_of p c.state) c.inputs d _ (move_falls c.state.control c.state refl) e in
      omega (arith, less.fewer q, off_head d.state.control q)

  -- ---- the end of a block

  ends_by : (k : ℕ) (c d : Configuration) (end : BlockEnd) → step p c ≡ Next d → at_head d.state.control ≡ false → block p k d ≡ Some end → block p (suc k) c ≡ Some end
  unfolding block
  ends_by k c d end e q h = ap (block_on (block p k) c) e ∙ (ap (λ b. cond b (Some (Arrives d)) (block p k d)) q ∙ h)

  arrives_by : (c d : Configuration) → step p c ≡ Next d → at_head d.state.control ≡ true → block p 1 c ≡ Some (Arrives d)
  unfolding block
  arrives_by c d e q = ap (block_on (block p 0) c) e ∙ ap (λ b. cond b (Some (Arrives d)) (block p 0 d)) q

  stops_by : (c : Configuration) (answer : Answer) → step p c ≡ answer → block_on (block p 0) c answer ≡ Some (Halts c answer) → block p 1 c ≡ Some (Halts c answer)
  unfolding block
  stops_by c answer e h = ap (block_on (block p 0) c) e ∙ h

  -- `more` says the same of fewer steps
  goes_on : (n : ℕ) (more : (d : Configuration) → steps_left p cs d.state.control < n → (end : BlockEnd) × Block p d end) (c d : Configuration) (h : Bool) → at_head d.state.control ≡ h → step p c ≡ Next d
      → steps_left p cs c.state.control < suc n → (end : BlockEnd) × Block p c end
  goes_on n more c d true q e h = (Arrives d, (1, arrives_by c d e q))
  goes_on n more c d false q e h =
      let rest = more d (omega (arith, h, step_less c d e q)) in
      (rest.0, (suc rest.1.0, ends_by rest.1.0 c d rest.0 e q rest.1.1))

  ends_on : (n : ℕ) (more : (d : Configuration) → steps_left p cs d.state.control < n → (end : BlockEnd) × Block p d end) (c : Configuration) (answer : Answer) → step p c ≡ answer
      → steps_left p cs c.state.control < suc n → (end : BlockEnd) × Block p c end
  ends_on n more c (Next d) e h = goes_on n more c d (at_head d.state.control) refl e h
  ends_on n more c (Broken check line) e h = (Halts c (Broken check line), (1, stops_by c (Broken check line) e refl))
  ends_on n more c Ended e h = (Halts c Ended, (1, stops_by c Ended e refl))
  ends_on n more c Assumed e h = (Halts c Assumed, (1, stops_by c Assumed e refl))
  ends_on n more c NeedsInput e h = (Halts c NeedsInput, (1, stops_by c NeedsInput e refl))

  ends_within : (n : ℕ) (c : Configuration) → steps_left p cs c.state.control < n → (end : BlockEnd) × Block p c end
  ends_within zero c h = absurd (omega (arith, h))
  ends_within (suc n) c h = ends_on n (ends_within n) c (step p c) refl h

-- ---- the steps of calls

-- a greater number for each call that is among them
total_within : (a b : ℕ → ℕ) (w : Cost) → ((g : ℕ) → Contains g w → a g ≤ b g) → total a w ≤ total b w
total_within a b (Steps n) h = omega arith
total_within a b (Both first second) h =
    omega (arith, total_within a b first (λ g k. h g (in_first first second k)), total_within a b second (λ g k. h g (in_second first second k)))
total_within a b (Calls f) h = h f here

module _ (p : Program) where
  -- of a call, with at most n calls in one another
  abbrev cost_at : ℕ → ℕ → ℕ
  cost_at zero f = 0
  cost_at (suc n) f = total (cost_at n) (function_cost p f)

  deeper : (n m : ℕ) → n ≤ m → (f : ℕ) → cost_at n f ≤ cost_at m f
  deeper zero m h f = omega arith
  deeper (suc n) zero h f = absurd (omega (arith, h))
  deeper (suc n) (suc m) h f = total_within (cost_at n) (cost_at m) (function_cost p f) (λ g k. deeper n m (omega (arith, h)) g)

  costs_of : CallsEnd p → ℕ → ℕ
  costs_of ends f = cost_at (suc (ends.rank f)) f

  enough_for : (ends : CallsEnd p) (f : ℕ) → total (costs_of ends) (function_cost p f) ≤ costs_of ends f
  unfolding costs_of
  enough_for ends f =
      total_within (costs_of ends) (cost_at (ends.rank f)) (function_cost p f) (λ g k. deeper (suc (ends.rank g)) (ends.rank f) (omega (arith, ends.falls f g k)) g)

  pub no_block_is_endless : CallsEnd p → (c : Configuration) → (end : BlockEnd) × Block p c end
  no_block_is_endless ends c = ends_within p (costs_of ends) (enough_for ends) (suc (steps_left p (costs_of ends) c.state.control)) c (omega arith)
