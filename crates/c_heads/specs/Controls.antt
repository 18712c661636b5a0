-- Control stacks whose values have the types that the program gives them. Sections are those of ISO/IEC 9899:2011.
use Rattle.std.specs.Prelude.{◌≡◌, ℕ, ◌≤◌, List, [], ◌∷◌, length, take, drop, Option, Some, None, IsTrue}
use Rattle.kv_num.specs.declared.types.IntType.TheVariants.{Int}
use Rattle.c_tree.specs.declared.expression.Expression.{Expression, out-Expression}
use Rattle.c_tree.specs.declared.statement.Statement.{out-Statement}
use Rattle.c_tree.specs.declared.statement.BlockItem.TheOpen.{Statement-F as t}
use Rattle.c_kinds.specs.declared.types.CType.{CType}
use Rattle.c_kinds.specs.Types.{integer}
use Rattle.c_kinds.specs.Layouts.{begins_with}
use Rattle.c_rules.specs.declared.program.Program.{Program}
use Rattle.c_model.specs.declared.values.Scalar.{Scalar}
use Rattle.c_model.specs.declared.values.Object.{Object}
use Rattle.c_model.specs.Programs.{StatementNode, type_of, types_of, types_in}
use Rattle.c_model.specs.Functions.{result_of}
use Rattle.c_model.specs.Configurations.{Item, Value, Needs, Place, Locates, CommaParts, Truth, Converts, Drops, Result, Work, Tests, Decides, Rest, Close, Branches, Branching, Branched, Seeks, Labels, Switched, Loop, Again, Breaking, Continuing, Leaving, Back, Makes, Declaring, Unset, Fills, Parts, Awaits, Keeps, State}
use Rattle.c_model.specs.Heads.{Wait, AsValue, AsPlace, AreOf, nothing_waits}
use Rattle.c_heads.specs.Typed.{IsOfType, ConvertsTo, IsLaidOut}
use Rattle.c_heads.specs.Waiting.{Given, Runs, Acts, Continues, Evaluates, Hands, type_given, IsGiven, StandsFor, given_by, awaited, place_awaited, AreFound, MayWait, PlaceMayWait}

-- ---- the function whose body runs

-- the function of the next call that is to end; in `main` there is none
abbrev pub running_in : List Item → Option ℕ
running_in [] = None
running_in (Back function objects ∷ rest) = Some function
running_in (_ ∷ rest) = running_in rest

-- a value of this type is one that the function may return (6.8.6.4p3)
abbrev pub ReturnsBy : Program → Option ℕ → CType → Type 0
ReturnsBy p None t = Unit {0}
ReturnsBy p (Some function) t = ConvertsTo p (result_of p function) t

abbrev pub IsReturned : Program → List Object → Option ℕ → List Scalar → Type 0
IsReturned p store function v = (t : CType) × ReturnsBy p function t × IsOfType p store t v

-- a statement that waits for a value of this type: of `return` it must be one to return
abbrev pub MayTest : Program → Option ℕ → StatementNode → CType → Type 0
MayTest p function (t.Return value at) of_type = ReturnsBy p function of_type
MayTest p function _ of_type = Unit {0}

abbrev pub HasTested : Program → List Object → Option ℕ → StatementNode → List Scalar → Type 0
HasTested p store function (t.Return value at) v = IsReturned p store function v
HasTested p store function _ v = Unit {0}

-- ---- what an item takes and gives

-- what is given to an item that waits is what it waits for; an item that doesn't wait takes nothing
abbrev pub Takes : Program → Given → Item → List Item → Type 0
Takes p (Hands w) (Needs x found) rest = w ≡ awaited p (out-Expression x) (length found)
Takes p (Hands w) (Locates x found) rest = w ≡ place_awaited p (out-Expression x) (length found)
Takes p (Hands w) Truth rest = Unit {0}
Takes p (Hands w) (Converts to) rest = ConvertsTo p to (type_given w)
Takes p (Hands w) Drops rest = Unit {0}
Takes p (Hands w) (Tests s) rest = MayTest p (running_in rest) (out-Statement s) (type_given w)
Takes p (Hands w) (Branching left otherwise) rest = Unit {0}
Takes p (Hands w) (Awaits number offset to) rest = ConvertsTo p to (type_given w)
Takes p Evaluates (Value x found) rest = Unit {0}
Takes p Evaluates (Place x found) rest = Unit {0}
Takes p Continues (CommaParts left) rest = Unit {0}
Takes p Evaluates (Result v) rest = Unit {0}
Takes p Evaluates (Makes function made) rest = Unit {0}
Takes p Runs (Work s) rest = Unit {0}
Takes p Acts (Decides s v) rest = Unit {0}
Takes p Runs (Rest left) rest = Unit {0}
Takes p Runs (Close objects) rest = Unit {0}
Takes p Runs (Branches left otherwise) rest = Unit {0}
Takes p Acts (Branched left otherwise v) rest = Unit {0}
Takes p Runs (Seeks kind value left otherwise) rest = Unit {0}
Takes p Runs (Labels kind value s left otherwise) rest = Unit {0}
Takes p Runs Switched rest = Unit {0}
Takes p Runs (Loop s) rest = Unit {0}
Takes p Runs (Again s) rest = Unit {0}
Takes p Runs Breaking rest = Unit {0}
Takes p Runs Continuing rest = Unit {0}
Takes p Acts (Leaving v) rest = Unit {0}
Takes p Runs (Back function objects) rest = Unit {0}
Takes p Runs (Declaring left) rest = Unit {0}
Takes p Runs (Unset number offset) rest = Unit {0}
Takes p Runs (Fills number offset to x) rest = Unit {0}
Takes p Runs (Parts number offset to part left) rest = Unit {0}
Takes p Acts (Keeps number offset v) rest = Unit {0}
Takes p _ _ rest = ⊥

-- an expression gives what may stand for what is awaited below it
abbrev pub Delivers : Program → Wait → Given → Type 0
Delivers p w (Hands awaited) = StandsFor p w awaited
Delivers p w _ = ⊥

abbrev pub IsResult : Program → List Object → ℕ → List Scalar → Given → Type 0
IsResult p store n v (Hands awaited) = IsGiven p store n awaited v
IsResult p store n v _ = ⊥

-- a dropped value hands nothing on
abbrev pub DropsTo : Given → Type 0
DropsTo Runs = Unit {0}
DropsTo Continues = Unit {0}
DropsTo _ = ⊥

-- what stands on top takes no value
abbrev pub IsTop : Given → Type 0
IsTop (Hands w) = ⊥
IsTop _ = Unit {0}

abbrev pub last_given : Program → List Expression → Wait
last_given p [] = nothing_waits
last_given p (x ∷ []) = given_by p x
last_given p (x ∷ (y ∷ rest)) = last_given p (y ∷ rest)

-- the cells of a declared object from this one on begin with those of a type
abbrev pub HasPart : Program → ℕ → ℕ → CType → Type 0
HasPart p number offset t = IsTrue (begins_with (drop offset (types_in p number)) (types_of p t))

-- the first cells of a value of a type
abbrev pub AreFirst : Program → List Object → CType → List Scalar → Type 0
AreFirst p store t made = AreOf store (take (length made) (types_of p t)) made

-- the values that wait in an item, and what it gives; n objects lived when they began to wait
abbrev pub IsSoundItem : Program → List Object → ℕ → Item → List Item → Given → Type 0
IsSoundItem p store n (Value x found) rest below = AreFound p store n (awaited p (out-Expression x)) 0 found × Delivers p (given_by p x) below
IsSoundItem p store n (Needs x found) rest below = AreFound p store n (awaited p (out-Expression x)) 0 found × Delivers p (given_by p x) below × MayWait (length found) (out-Expression x)
IsSoundItem p store n (Place x found) rest below = AreFound p store n (place_awaited p (out-Expression x)) 0 found × Delivers p (AsPlace (type_of p x)) below
IsSoundItem p store n (Locates x found) rest below = AreFound p store n (place_awaited p (out-Expression x)) 0 found × Delivers p (AsPlace (type_of p x)) below × PlaceMayWait (length found) (out-Expression x)
IsSoundItem p store n (CommaParts left) rest below = Delivers p (last_given p left) below
IsSoundItem p store n Truth rest below = Delivers p (AsValue (integer Int)) below
IsSoundItem p store n (Converts to) rest below = Delivers p (AsValue to) below
IsSoundItem p store n Drops rest below = DropsTo below
IsSoundItem p store n (Result v) rest below = IsResult p store n v below
IsSoundItem p store n (Decides s v) rest below = HasTested p store (running_in rest) (out-Statement s) v × (below ≡ Runs)
IsSoundItem p store n (Close objects) rest below = (objects ≤ n) × (below ≡ Runs)
IsSoundItem p store n (Leaving v) rest below = IsReturned p store (running_in rest) v × (below ≡ Runs)
IsSoundItem p store n (Back function objects) rest below = (objects ≤ n) × Delivers p (AsValue (result_of p function)) below
IsSoundItem p store n (Makes function made) rest below = AreFirst p store (result_of p function) made × Delivers p (AsValue (result_of p function)) below
IsSoundItem p store n (Awaits number offset to) rest below = HasPart p number offset to × (below ≡ Runs)
IsSoundItem p store n (Keeps number offset v) rest below = ((to : CType) × HasPart p number offset to × IsOfType p store to v) × (below ≡ Runs)
IsSoundItem p store n item rest below = below ≡ Runs

-- below a call or a block, as many objects lived as live after it
abbrev pub lived_below : ℕ → Item → ℕ
lived_below n (Close objects) = objects
lived_below n (Back function objects) = objects
lived_below n item = n

-- each item takes what the one above gives
abbrev pub IsSoundControl : Program → List Object → ℕ → Given → List Item → Type 0
IsSoundControl p store n given [] = given ≡ Runs
IsSoundControl p store n given (item ∷ rest) = (below : Given) × Takes p given item rest × IsSoundItem p store n item rest below × IsSoundControl p store (lived_below n item) below rest

-- a state whose objects and waiting values have the types that the program gives them
pub record IsSoundState (p : Program) (c : State) : Type 0 where
  pub store : IsLaidOut p c.store
  pub top : Given
  pub active : IsTop top
  pub control : IsSoundControl p c.store (length c.store) top c.control
