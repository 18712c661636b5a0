-- Each arrival of the machine is a head configuration.
use Rattle.std.proofs.Common.{◌≡◌, ℕ, zero, suc, Bool, true, false, List, [], ◌∷◌, length, Some, refl, sym, ap, subst, cond, add-one}
use Rattle.std.specs.Prelude.{slice_get}
use Rattle.c_tree.specs.declared.expression.UnaryOperator.TheVariants as u
use Rattle.c_tree.specs.declared.expression.Expression.{Expression, out-Expression}
use Rattle.c_tree.specs.declared.expression.Declarator.TheOpen.{Expression-F as e}
use Rattle.c_rules.specs.declared.program.Program.{Program}
use Rattle.c_model.specs.declared.values.Scalar.{Scalar}
use Rattle.c_model.specs.declared.values.Object.{Object}
use Rattle.c_kinds.specs.declared.types.CType.{CType}
use Rattle.c_kinds.specs.Layouts.{struct_cell_types}
use Rattle.c_model.specs.Programs.{types_of, cell_count, ExpressionNode, type_of}
use Rattle.kv_num.specs.declared.types.IntType.TheVariants.{Int}
use Rattle.c_kinds.specs.Types.{integer}
use Rattle.c_model.specs.Functions.{result_of}
use Rattle.c_model.specs.Configurations.{Item, Value, Needs, Place, Locates, CommaParts, Truth, Converts, Drops, Result, Decides, Close, Branched, Loop, Leaving, Back, Makes, Awaits, Keeps, State, Configuration, Answer, Next, Broken, Ended, Assumed, NeedsInput}
use Rattle.c_model.specs.Steps.{move_of, step, start}
use Rattle.c_model.specs.Executions.{start_on}
use Rattle.c_model.specs.Blocks.{at_head, Arrives, block_on, block, Reaches}
use Rattle.c_model.specs.Heads.{BareRun, here, onward, IsBareArrival, Wait, AsValue, AsPlace, value_wait, array_wait, argument_wait, address_wait, nothing_waits, wait_of, Waits, AllWait, SameControl, nothing, needs, locates, close, back, carries, SameObjects, IsHead}
use Rattle.c_model.proofs.Arrivals.{leads, run_on, arrivals_are_bare}
use Rattle.c_heads.specs.Typed.{AreLaidOut}
use Rattle.c_heads.specs.Waiting.{Given, Runs, Acts, Continues, Evaluates, Hands, IsGiven, given_by, address_awaited, awaited, place_awaited, AreFound, AddressMayWait, MayWait, PlaceMayWait}
use Rattle.c_heads.specs.Controls.{Takes, Delivers, IsResult, DropsTo, last_given, IsSoundItem, IsSoundControl, IsSoundState}
use Rattle.c_heads.specs.Sound.{Sound}
use Rattle.c_heads.proofs.Layouts.{count_is}
use Rattle.c_heads.proofs.Heads.{asked, step_is}

module _ (p : Program) (store : List Object) where
  -- ---- what waits

  given_waits : (n : ℕ) (w : Wait) (v : List Scalar) → IsGiven p store n w v → Waits p store n w v
  given_waits n (AsValue t) v h = h
  given_waits n (AsPlace t) [] h = absurd h
  given_waits n (AsPlace t) (s ∷ []) h = h.0
  given_waits n (AsPlace t) (s ∷ (r ∷ v)) h = absurd h

  waits_as : (n : ℕ) (w a : Wait) (v : List Scalar) → w ≡ a → IsGiven p store n w v → Waits p store n a v
  waits_as n w a v q h = let P : Wait → Type 0 = λ z. Waits p store n z v in subst P q (given_waits n w v h)

  abbrev address_by : ExpressionNode → Wait
  address_by m = elim m as (λ _. Wait) [ e.Subscript array index at ↦ array_wait p array | _ ↦ nothing_waits ]

  abbrev wait_by : ExpressionNode → ℕ → Wait
  wait_by l k = elim l as (λ _. Wait) [
    | e.Subscript array index at ↦ array_wait p array
    | e.Call function arguments at ↦ argument_wait p (slice_get arguments k)
    | e.Binary operator left right at ↦ value_wait p left
    | e.Assign operator target value at ↦ AsPlace (type_of p target)
    | e.Unary operator operand at ↦ address_wait p operand
    | _ ↦ nothing_waits
  ]

  waits_here : (x : Expression) (l : ExpressionNode) → out-Expression x ≡ l → (k : ℕ) → wait_by l k ≡ wait_of p x k
  waits_here x l q k = ap (λ z. wait_by z k) (sym q)

  address_found : (n : ℕ) (operand : Expression) (m : ExpressionNode) → out-Expression operand ≡ m → (v : List Scalar) → AddressMayWait m → IsGiven p store n (address_awaited p operand m 0) v → IsGiven p store n (address_wait p operand) v
  address_found n operand (e.Subscript array index at) q v m h = let P : ExpressionNode → Type 0 = λ z. IsGiven p store n (address_by z) v in subst P (sym q) h
  address_found n operand _ q v m h = absurd m

  arguments_wait : (n : ℕ) (x : Expression) (arguments : List Expression) → ((k : ℕ) → argument_wait p (slice_get arguments k) ≡ wait_of p x k) → (k : ℕ) (found : List (List Scalar))
      → AreFound p store n (λ i. argument_wait p (slice_get arguments i)) k found → AllWait p store n x k found
  arguments_wait n x arguments q k [] f = tt
  arguments_wait n x arguments q k (v ∷ found) f =
      let P : ℕ → Type 0 = λ i. AllWait p store n x i found in
      (waits_as n (argument_wait p (slice_get arguments k)) (wait_of p x k) v (q k) f.0, subst P (sym (add-one k)) (arguments_wait n x arguments q (suc k) found f.1))

  found_wait : (n : ℕ) (x : Expression) (l : ExpressionNode) → out-Expression x ≡ l → (found : List (List Scalar)) → MayWait (length found) l → AreFound p store n (awaited p l) 0 found → AllWait p store n x 0 found
  found_wait n x (e.Call function arguments at) q found m f = arguments_wait n x arguments (waits_here x (e.Call function arguments at) q) 0 found f
  found_wait n x (e.Binary operator left right at) q (v ∷ []) m f = (waits_as n (value_wait p left) (wait_of p x 0) v (waits_here x (e.Binary operator left right at) q 0) f.0, tt)
  found_wait n x (e.Assign operator target value at) q (v ∷ []) m f = (waits_as n (AsPlace (type_of p target)) (wait_of p x 0) v (waits_here x (e.Assign operator target value at) q 0) f.0, tt)
  found_wait n x (e.Unary u.Address operand at) q (v ∷ []) m f =
      (waits_as n (address_wait p operand) (wait_of p x 0) v (waits_here x (e.Unary u.Address operand at) q 0) (address_found n operand (out-Expression operand) refl v m f.0), tt)
  found_wait n x (e.Unary _ operand at) q (v ∷ []) m f = absurd m
  found_wait n x l q [] m f = tt
  found_wait n x l q (v ∷ []) m f = absurd m
  found_wait n x l q (v ∷ (w ∷ found)) m f = absurd m

  place_wait : (n : ℕ) (x : Expression) (l : ExpressionNode) → out-Expression x ≡ l → (found : List (List Scalar)) → PlaceMayWait (length found) l → AreFound p store n (place_awaited p l) 0 found → AllWait p store n x 0 found
  place_wait n x (e.Subscript array index at) q (v ∷ []) m f = (waits_as n (array_wait p array) (wait_of p x 0) v (waits_here x (e.Subscript array index at) q 0) f.0, tt)
  place_wait n x l q [] m f = tt
  place_wait n x l q (v ∷ []) m f = absurd m
  place_wait n x l q (v ∷ (w ∷ found)) m f = absurd m

  -- ---- below the top no item has values of its own

  abbrev IsQuiet : Given → Type 0
  IsQuiet Acts = ⊥
  IsQuiet Evaluates = ⊥
  IsQuiet _ = Unit {0}

  runs_quiet : (g : Given) → g ≡ Runs → IsQuiet g
  runs_quiet g q = let P : Given → Type 0 = λ z. IsQuiet z in subst P (sym q) tt

  delivers_quiet : (w : Wait) (g : Given) → Delivers p w g → IsQuiet g
  delivers_quiet w (Hands a) d = tt
  delivers_quiet w _ d = absurd d

  drops_quiet : (g : Given) → DropsTo g → IsQuiet g
  drops_quiet Runs d = tt
  drops_quiet Continues d = tt
  drops_quiet _ d = absurd d

  result_quiet : (n : ℕ) (v : List Scalar) (g : Given) → IsResult p store n v g → IsQuiet g
  result_quiet n v (Hands a) d = tt
  result_quiet n v _ d = absurd d

  quiet_below : (n : ℕ) (item : Item) (rest : List Item) (below : Given) → IsSoundItem p store n item rest below → IsQuiet below
  quiet_below n (Value x found) rest below h = delivers_quiet (given_by p x) below h.1
  quiet_below n (Needs x found) rest below h = delivers_quiet (given_by p x) below h.1
  quiet_below n (Place x found) rest below h = delivers_quiet (AsPlace (type_of p x)) below h.1
  quiet_below n (Locates x found) rest below h = delivers_quiet (AsPlace (type_of p x)) below h.1
  quiet_below n (CommaParts left) rest below h = delivers_quiet (last_given p left) below h
  quiet_below n Truth rest below h = delivers_quiet (AsValue (integer Int)) below h
  quiet_below n (Converts to) rest below h = delivers_quiet (AsValue to) below h
  quiet_below n Drops rest below h = drops_quiet below h
  quiet_below n (Result v) rest below h = result_quiet n v below h
  quiet_below n (Decides s v) rest below h = runs_quiet below h.1
  quiet_below n (Close objects) rest below h = runs_quiet below h.1
  quiet_below n (Leaving v) rest below h = runs_quiet below h.1
  quiet_below n (Back function objects) rest below h = delivers_quiet (AsValue (result_of p function)) below h.1
  quiet_below n (Makes function made) rest below h = delivers_quiet (AsValue (result_of p function)) below h.1
  quiet_below n (Awaits number offset to) rest below h = runs_quiet below h.1
  quiet_below n (Keeps number offset v) rest below h = runs_quiet below h.1
  quiet_below n item rest below h = runs_quiet below h

  same_control : (n : ℕ) (given : Given) (items : List Item) → IsQuiet given → IsSoundControl p store n given items → SameControl p store n items items
  same_control n given [] k h = nothing n
  same_control n given (Needs x found ∷ rest) k h =
      needs n x found found rest rest refl (found_wait n x (out-Expression x) refl found h.2.2 h.2.0) (same_control n h.0 rest (quiet_below n (Needs x found) rest h.0 h.2) h.3)
  same_control n given (Locates x found ∷ rest) k h =
      locates n x found found rest rest refl (place_wait n x (out-Expression x) refl found h.2.2 h.2.0) (same_control n h.0 rest (quiet_below n (Locates x found) rest h.0 h.2) h.3)
  same_control n given (Close objects ∷ rest) k h = close n objects rest rest (same_control objects h.0 rest (quiet_below n (Close objects) rest h.0 h.2) h.3)
  same_control n given (Back function objects ∷ rest) k h = back n function objects rest rest (same_control objects h.0 rest (quiet_below n (Back function objects) rest h.0 h.2) h.3)
  same_control n given (Value x found ∷ rest) k h = absurd (loud given k h.1)
    where
      loud : (g : Given) → IsQuiet g → Takes p g (Value x found) rest → ⊥
      loud Acts k t = k
      loud Evaluates k t = k
      loud _ k t = t
  same_control n given (Place x found ∷ rest) k h = absurd (loud given k h.1)
    where
      loud : (g : Given) → IsQuiet g → Takes p g (Place x found) rest → ⊥
      loud Acts k t = k
      loud Evaluates k t = k
      loud _ k t = t
  same_control n given (Result v ∷ rest) k h = absurd (loud given k h.1)
    where
      loud : (g : Given) → IsQuiet g → Takes p g (Result v) rest → ⊥
      loud Acts k t = k
      loud Evaluates k t = k
      loud _ k t = t
  same_control n given (Makes f made ∷ rest) k h = absurd (loud given k h.1)
    where
      loud : (g : Given) → IsQuiet g → Takes p g (Makes f made) rest → ⊥
      loud Acts k t = k
      loud Evaluates k t = k
      loud _ k t = t
  same_control n given (Decides s v ∷ rest) k h = absurd (loud given k h.1)
    where
      loud : (g : Given) → IsQuiet g → Takes p g (Decides s v) rest → ⊥
      loud Acts k t = k
      loud Evaluates k t = k
      loud _ k t = t
  same_control n given (Branched left otherwise v ∷ rest) k h = absurd (loud given k h.1)
    where
      loud : (g : Given) → IsQuiet g → Takes p g (Branched left otherwise v) rest → ⊥
      loud Acts k t = k
      loud Evaluates k t = k
      loud _ k t = t
  same_control n given (Leaving v ∷ rest) k h = absurd (loud given k h.1)
    where
      loud : (g : Given) → IsQuiet g → Takes p g (Leaving v) rest → ⊥
      loud Acts k t = k
      loud Evaluates k t = k
      loud _ k t = t
  same_control n given (Keeps number offset v ∷ rest) k h = absurd (loud given k h.1)
    where
      loud : (g : Given) → IsQuiet g → Takes p g (Keeps number offset v) rest → ⊥
      loud Acts k t = k
      loud Evaluates k t = k
      loud _ k t = t
  same_control n given (item ∷ rest) k h = carries n item rest rest refl (same_control n h.0 rest (quiet_below n item rest h.0 h.2) h.3)

  same_objects : (objects : List Object) → AreLaidOut p store objects → SameObjects p store objects objects
  same_objects [] h = tt
  same_objects (o ∷ objects) h = (refl, h.0, same_objects objects h.1)

  loop_quiet : (n : ℕ) (top : Given) (items : List Item) → at_head items ≡ true → IsSoundControl p store n top items → IsQuiet top
  loop_quiet n Acts (Loop s ∷ rest) q h = absurd h.1
  loop_quiet n Evaluates (Loop s ∷ rest) q h = absurd h.1
  loop_quiet n _ (Loop s ∷ rest) q h = tt
  loop_quiet n top [] q h = absurd (cc)
  loop_quiet n top (item ∷ rest) q h = absurd (cc)

module _ (p : Program) (s : Sound p) where
  -- a type has as many cells as it has types of cells
  agree : (t : CType) → cell_count p t ≡ length (types_of p t)
  agree t = count_is p.names.structs (struct_cell_types p.names.structs (length p.names.structs)) t.is_const s.structs t.derived t.base

  -- the bare machine reaches the state, and its values are of their types
  pub record IsReached (c : State) : Type 0 where
    pub run : BareRun p (start p) c
    pub sound : IsSoundState p c

  starts_sound : IsReached (start p)
  starts_sound = record {
    run = here (start p);
    sound = record { store = s.starts; top = Runs; active = tt; control = (Runs, tt, refl, refl) };
  }

  goes_on : (c d : Configuration) → IsReached c.state → step p c ≡ Next d → IsReached d.state
  goes_on c d h q = record {
    run = run_on p (start p) c.state d.state h.run (onward c.state d.state d.state (leads p (move_of p c.state) c.inputs d q) (here d.state));
    sound = step_is p agree c d h.sound (asked p s c.state c.state.control refl h.run) q;
  }

  arrives : (m d : Configuration) → IsReached m.state → Some (Arrives m) ≡ Some (Arrives d) → IsReached d.state
  arrives m d h q =
      let same : m ≡ d = cc in
      let P : Configuration → Type 0 = λ x. IsReached x.state in
      subst P same h

  -- `more` says the same of fewer steps
  one_more : (n : ℕ) (more : (m d : Configuration) → IsReached m.state → block p n m ≡ Some (Arrives d) → IsReached d.state) (m d : Configuration) (b : Bool) → IsReached m.state
      → cond b (Some (Arrives m)) (block p n m) ≡ Some (Arrives d) → IsReached d.state
  one_more n more m d true h q = arrives m d h q
  one_more n more m d false h q = more m d h q

  after : (n : ℕ) (more : (m d : Configuration) → IsReached m.state → block p n m ≡ Some (Arrives d) → IsReached d.state) (c d : Configuration) → IsReached c.state → (a : Answer) → step p c ≡ a
      → block_on (block p n) c a ≡ Some (Arrives d) → IsReached d.state
  after n more c d h (Next m) is q = one_more n more m d (at_head m.state.control) (goes_on c m h is) q
  after n more c d h (Broken check line) is q = absurd (cc)
  after n more c d h Ended is q = absurd (cc)
  after n more c d h Assumed is q = absurd (cc)
  after n more c d h NeedsInput is q = absurd (cc)

  block_reaches : (n : ℕ) (c d : Configuration) → IsReached c.state → block p n c ≡ Some (Arrives d) → IsReached d.state
  unfolding block
  block_reaches zero c d h q = absurd (cc)
  block_reaches (suc n) c d h q = after n (block_reaches n) c d h (step p c) refl q

  blocks_reach : (n : ℕ) (c d : Configuration) → IsReached c.state → Reaches p n c d → IsReached d.state
  blocks_reach zero c d h r = let P : Configuration → Type 0 = λ x. IsReached x.state in subst P r h
  blocks_reach (suc n) c d h r = blocks_reach n r.0 d (block_reaches r.1.0 c r.0 h r.1.1) r.2

  heads : (c : Configuration) → IsBareArrival p c.state → IsSoundState p c.state → IsHead p c
  heads c a h = record {
    bare = c.state;
    arrival = a;
    objects = same_objects p c.state.store c.state.store h.store;
    control = same_control p c.state.store (length c.state.store) h.top c.state.control (loop_quiet p c.state.store (length c.state.store) h.top c.state.control a.arrives h.control) h.control;
  }

  pub arrivals_are_heads : (inputs : List ℕ) (n : ℕ) (c : Configuration) → Reaches p (suc n) (start_on p inputs) c → IsHead p c
  arrivals_are_heads inputs n c r = heads c (arrivals_are_bare p inputs n c r) (blocks_reach (suc n) (start_on p inputs) c starts_sound r).sound
