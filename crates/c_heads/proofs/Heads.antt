-- Each step keeps a state sound, and a sound state at a loop is a head's.
use Rattle.std.proofs.Common.{◌≡◌, ℕ, true, false, ℤ, pos, List, [], ◌∷◌, ◌++◌, length, refl, subst}
use Rattle.kv_num.specs.declared.types.IntType.{IntType}
use Rattle.kv_num.specs.IntType.{wrap_of}
use Rattle.c_tree.specs.declared.declaration.Initialiser.{out-Initialiser}
use Rattle.c_tree.specs.declared.expression.Expression.{out-Expression}
use Rattle.c_tree.specs.declared.statement.Statement.{out-Statement}
use Rattle.c_kinds.specs.declared.types.CType.{CType}
use Rattle.c_rules.specs.declared.program.Program.{Program}
use Rattle.c_model.specs.declared.values.Object.{Object}
use Rattle.c_model.specs.Programs.{checks, line_at, type_of, types_of, cell_count}
use Rattle.c_model.specs.Configurations.{Item, Value, Place, CommaParts, Result, Work, Decides, Rest, Close, Branches, Branched, Seeks, Labels, Switched, Loop, Again, Breaking, Continuing, Leaving, Back, Makes, Declaring, Unset, Fills, Parts, Keeps, State, Feed, Configuration, Move, Goes, Unmet, Forks, Takes as TakesInput, Unassumed, Stops, Next}
use Rattle.c_model.specs.Steps.{item_move, move_by, move_of, goes, taking, answered, step, start}
use Rattle.c_model.specs.Heads.{BareRun}
use Rattle.c_model.proofs.Arrivals.{next_is, fails_never}
use Rattle.c_heads.specs.Typed.{IsLaidOut}
use Rattle.c_heads.specs.Waiting.{Given, Runs}
use Rattle.c_heads.specs.Controls.{running_in, IsTop, IsSoundControl, IsSoundState}
use Rattle.c_heads.specs.Sound.{NamesLive, IsTypedValue, IsTypedPlace, IsTypedStatement, IsTypedInitialiser, JumpsInside, IsNext, Sound}
use Rattle.c_heads.proofs.Numbers.{wraps}
use Rattle.c_heads.proofs.Handing.{gives_is, closed_is}
use Rattle.c_heads.proofs.Evaluating.{AllSound}
use Rattle.c_heads.proofs.Values.{commas}
use Rattle.c_heads.proofs.Calling.{values_by}
use Rattle.c_heads.proofs.Placing.{places_by}
use Rattle.c_heads.proofs.Running.{runs, here as stays, rests, branches, branched, seeks, labels, loops, agains, works, decided}
use Rattle.c_heads.proofs.Leaving.{breaks_are, continues_are, leaves_are, falls, makes_are, declares_are, unset_are, fills_are, parts_are, keeps_are}

abbrev IsTypedExpression : Program → Item → Type 0
IsTypedExpression p (Value x found) = IsTypedValue p (type_of p x) (out-Expression x)
IsTypedExpression p (Place x found) = IsTypedPlace p (type_of p x) (out-Expression x)
IsTypedExpression p _ = Unit {0}

abbrev IsTypedWork : Program → Item → List Item → Type 0
IsTypedWork p (Work s) rest = IsTypedStatement p (running_in rest) (out-Statement s)
IsTypedWork p _ rest = Unit {0}

-- what is asked of the item on top
pub record IsAsked (p : Program) (store : List Object) (item : Item) (rest : List Item) : Type 0 where
  pub values : IsTypedExpression p item
  pub statements : IsTypedWork p item rest
  pub initialisers : IsTypedInitialiser p item
  pub jumps : JumpsInside item rest
  pub names : NamesLive p store item

abbrev pub IsAskedTop : Program → List Object → List Item → Type 0
IsAskedTop p store [] = Unit {0}
IsAskedTop p store (item ∷ rest) = IsAsked p store item rest

module _ (p : Program) (agree : (t : CType) → cell_count p t ≡ length (types_of p t)) where
  -- c is the state without the item
  module _ (c : State) (is : IsLaidOut p c.store) where
    abbrev n : ℕ
    n = length c.store

    pub items_are : (item : Item) (top : Given) → IsTop top → IsSoundControl p c.store n top (item ∷ c.control) → IsAsked p c.store item c.control → AllSound p (item_move p item c)
    items_are (Value x found) top a h y = values_by p agree c is h.0 h.3 x h.2.1 (out-Expression x) refl found h.2.0 y.names y.values
    items_are (Place x found) top a h y = places_by p agree c is h.0 h.3 x h.2.1 (out-Expression x) refl found h.2.0 y.names y.values
    items_are (CommaParts left) top a h y = commas p c is h.0 h.3 left h.2
    items_are (Result v) top a h y = gives_is p c is v h.0 h.2 h.3
    items_are (Work s) top a h y = works p c is (runs p c is h.0 c.control h.2 h.3) s (out-Statement s) refl y.statements
    items_are (Decides s v) top a h y = decided p c is (runs p c is h.0 c.control h.2.1 h.3) s (out-Statement s) v h.2.0
    items_are (Rest left) top a h y = rests p c is (runs p c is h.0 c.control h.2 h.3) left
    items_are (Close objects) top a h y = let P : Given → Type 0 = λ g. IsSoundControl p c.store objects g c.control in closed_is p c is objects h.2.0 Runs tt (subst P h.2.1 h.3)
    items_are (Branches left otherwise) top a h y = branches p c is (runs p c is h.0 c.control h.2 h.3) left otherwise
    items_are (Branched left otherwise v) top a h y = branched p c is (runs p c is h.0 c.control h.2 h.3) left otherwise v
    items_are (Seeks kind value left otherwise) top a h y = seeks p c is (runs p c is h.0 c.control h.2 h.3) kind value left otherwise
    items_are (Labels kind value s left otherwise) top a h y = labels p c is (runs p c is h.0 c.control h.2 h.3) kind value (out-Statement s) left otherwise
    items_are Switched top a h y = stays p c is (runs p c is h.0 c.control h.2 h.3)
    items_are (Loop s) top a h y = loops p c is (runs p c is h.0 c.control h.2 h.3) s (out-Statement s) refl
    items_are (Again s) top a h y = agains p c is (runs p c is h.0 c.control h.2 h.3) s (out-Statement s) refl
    items_are Breaking top a h y = breaks_are p c is c.control y.jumps (runs p c is h.0 c.control h.2 h.3)
    items_are Continuing top a h y = continues_are p c is c.control y.jumps (runs p c is h.0 c.control h.2 h.3)
    items_are (Leaving v) top a h y = leaves_are p c is v c.control h.2.0 (runs p c is h.0 c.control h.2.1 h.3)
    items_are (Back f objects) top a h y = falls p c is f h.0 h.2.1 objects h.2.0 h.3
    items_are (Makes f made) top a h y = makes_are p c is f h.0 h.2.1 made h.2.0 h.3
    items_are (Declaring left) top a h y = declares_are p c is (runs p c is h.0 c.control h.2 h.3) left
    items_are (Unset number offset) top a h y = unset_are p c is (runs p c is h.0 c.control h.2 h.3) number offset y.names
    items_are (Fills number offset to x) top a h y = fills_are p c is (runs p c is h.0 c.control h.2 h.3) number offset to (out-Initialiser x) y.initialisers.0 y.initialisers.1
    items_are (Parts number offset to part left) top a h y = parts_are p c is (runs p c is h.0 c.control h.2 h.3) number offset to part left y.names y.initialisers
    items_are (Keeps number offset v) top a h y = keeps_are p c is (runs p c is h.0 c.control h.2.1 h.3) number offset h.2.0.0 v y.names h.2.0.1 h.2.0.2
    items_are _ top a h y = tt

  moves_by : (items : List Item) (c : State) (top : Given) → IsLaidOut p c.store → IsTop top → IsSoundControl p c.store (length c.store) top items → IsAskedTop p c.store items → AllSound p (move_by p items c)
  moves_by [] c top is a h y = tt
  moves_by (item ∷ rest) c top is a h y = items_are (record c { control = rest }) is item top a h y

  moves_are : (c : State) → IsSoundState p c → IsAskedTop p c.store c.control → AllSound p (move_of p c)
  moves_are c s y = moves_by c.control c s.top s.store s.active s.control y

  -- ---- a step

  reached : (next : State) (feed : Feed) (d : Configuration) → goes next feed ≡ Next d → IsSoundState p next → IsSoundState p d.state
  reached next feed d q h = let P : State → Type 0 = λ z. IsSoundState p z in subst P (next_is next feed d q) h

  takes_are : (kind : IntType) (go : ℤ → State) (given : List ℕ) (taken : List ℤ) (d : Configuration) → AllSound p (TakesInput kind go) → taking kind go given taken ≡ Next d → IsSoundState p d.state
  takes_are kind go [] taken d h q = absurd (cc)
  takes_are kind go (i ∷ more) taken d h q = reached (go (wrap_of kind (pos i))) (record { given = more; taken = taken ++ wrap_of kind (pos i) ∷ [] }) d q (h (wrap_of kind (pos i)) (wraps kind (pos i)))

  answers_are : (m : Move) (feed : Feed) (d : Configuration) → AllSound p m → answered p m feed ≡ Next d → IsSoundState p d.state
  answers_are (Goes next) feed d h q = reached next feed d q h
  answers_are (Unmet kind at next) feed d h q = absurd (fails_never (checks p).goal kind (line_at p at) d q)
  answers_are (Forks true a b) feed d h q = reached a feed d q h.0
  answers_are (Forks false a b) feed d h q = reached b feed d q h.1
  answers_are (TakesInput kind go) feed d h q = takes_are kind go feed.given feed.taken d h q
  answers_are (Unassumed next) feed d h q = absurd (cc)
  answers_are Stops feed d h q = absurd (cc)

  pub step_is : (c d : Configuration) → IsSoundState p c.state → IsAskedTop p c.state.store c.state.control → step p c ≡ Next d → IsSoundState p d.state
  step_is c d s y q = answers_are (move_of p c.state) c.inputs d (moves_are c.state s y) q

-- ---- what is asked of a sound program

module _ (p : Program) (s : Sound p) (c : State) where
  typed_expression : (item : Item) (rest : List Item) → IsNext p c item rest → IsTypedExpression p item
  typed_expression (Value x found) rest next = s.values c x found rest next
  typed_expression (Place x found) rest next = s.places c x found rest next
  typed_expression item rest next = tt

  typed_work : (item : Item) (rest : List Item) → IsNext p c item rest → IsTypedWork p item rest
  typed_work (Work x) rest next = s.statements c x rest next
  typed_work item rest next = tt

  pub asked : (items : List Item) → c.control ≡ items → BareRun p (start p) c → IsAskedTop p c.store items
  asked [] q run = tt
  asked (item ∷ rest) q run =
      let next : IsNext p c item rest = record { run = run; on_top = q } in
      record {
        values = typed_expression item rest next;
        statements = typed_work item rest next;
        initialisers = s.initialisers c item rest next;
        jumps = s.jumps c item rest next;
        names = s.names c item rest next;
      }
