-- Head configurations: what an arrival of the bare machine leaves open. They have its control and its living objects, with
-- any values in range; their inputs are free.
use Rattle.std.specs.Prelude.{◌≡◌, ℕ, ◌+◌, ◌≤◌, ◌<◌, Bool, true, false, List, [], ◌∷◌, length, Option, Some, None, IsTrue, slice_get}
use Rattle.kv_num.specs.IntType.{InRange}
use Rattle.c_tree.specs.declared.expression.Expression.{Expression, out-Expression}
use Rattle.c_tree.specs.declared.expression.Declarator.TheOpen.{Expression-F as e}
use Rattle.c_kinds.specs.declared.types.CType.{CType}
use Rattle.c_kinds.specs.declared.types.CellType.{CellType}
use Rattle.c_kinds.specs.declared.types.CellType.TheVariants as cell
use Rattle.c_kinds.specs.declared.types.Shape.{Shape}
use Rattle.c_kinds.specs.declared.types.Shape.TheVariants as shape
use Rattle.c_kinds.specs.Types.{void, shape_of, inner, pointer_to}
use Rattle.c_kinds.specs.Layouts.{begins_with}
use Rattle.c_rules.specs.declared.program.Program.{Program}
use Rattle.c_model.specs.declared.values.Scalar.{Scalar}
use Rattle.c_model.specs.declared.values.Scalar.TheVariants.{Number, Null, Wild, Inside}
use Rattle.c_model.specs.declared.values.Object.{Object}
use Rattle.c_model.specs.Programs.{type_of, types_of, types_in}
use Rattle.c_model.specs.Store.{cells_in, types_from}
use Rattle.c_model.specs.Configurations.{Item, Value, Needs, Place, Locates, Result, Decides, Branched, Leaving, Makes, Keeps, Close, Back, State, Configuration}
use Rattle.c_model.specs.Steps.{move_of, Leads, start}
use Rattle.c_model.specs.Blocks.{at_head}

-- ---- the bare machine

-- some steps of the bare machine lead from one state to another
pub data BareRun (p : Program) : State → State → Type 0 where
  here : (c : State) → BareRun p c c
  onward : (c d e : State) → Leads (move_of p c) d → BareRun p d e → BareRun p c e

-- a state in which the bare machine arrives at a loop's head
pub record IsBareArrival (p : Program) (c : State) : Type 0 where
  pub run : BareRun p (start p) c
  pub arrives : IsTrue (at_head c.control)

-- ---- values in range

-- a cell of this type may hold it: a number of its type, or any pointer into or to the end of a living object
abbrev pub IsOf : List Object → CellType → Scalar → Type 0
IsOf store (cell.Integer kind) (Number n) = InRange kind n
IsOf store (cell.Pointer pointee) Null = Unit {0}
IsOf store (cell.Pointer pointee) Wild = Unit {0}
IsOf store (cell.Pointer pointee) (Inside object offset) = (object < length store) × (offset ≤ length (cells_in (slice_get store object)))
IsOf store _ _ = ⊥

-- each cell holds a value of its type
abbrev pub AreOf : List Object → List CellType → List Scalar → Type 0
AreOf store [] [] = Unit {0}
AreOf store (t ∷ ts) (s ∷ v) = IsOf store t s × AreOf store ts v
AreOf store _ _ = ⊥

-- a place of this type in one of the first n objects
abbrev pub IsPlace : Program → List Object → ℕ → CType → List Scalar → Type 0
IsPlace p store n t (Inside object offset ∷ []) = (object < n) × IsTrue (begins_with (types_from p (slice_get store object) offset) (types_of p t))
IsPlace p store n t _ = ⊥

-- ---- what an operand waits as

-- an operand waits as a value of a type, or as a place of one
pub data Wait : Type 0 where
  AsValue : (t : CType) → Wait
  AsPlace : (t : CType) → Wait

-- an array has become the pointer to its first element (6.3.2.1p3), and waits as any pointer of its type
abbrev pub decayed_by : Shape → CType → CType
decayed_by (shape.Array length) t = pointer_to (inner t)
decayed_by _ t = t

-- a value waits in its own type: an operator converts it only when it is applied (6.3.1.8)
abbrev pub value_wait : Program → Expression → Wait
value_wait p x = AsValue (decayed_by (shape_of (type_of p x)) (type_of p x))

-- an array itself, or a pointer to its elements (6.5.2.1p2)
abbrev pub array_wait_by : Shape → CType → Wait
array_wait_by (shape.Array length) t = AsPlace t
array_wait_by _ t = AsValue t

-- an array whose subscript is still to come is a place
abbrev pub array_wait : Program → Expression → Wait
array_wait p x = array_wait_by (shape_of (type_of p x)) (type_of p x)

-- where no operand waits
abbrev pub nothing_waits : Wait
nothing_waits = AsValue void

-- an argument waits in its own type, and is converted when the call is made (6.5.2.2p7)
abbrev pub argument_wait : Program → Option Expression → Wait
argument_wait p None = nothing_waits
argument_wait p (Some argument) = value_wait p argument

-- the operand of `&`: only a subscript's array waits in it
abbrev pub address_wait : Program → Expression → Wait
address_wait p operand = elim (out-Expression operand) as (λ _. Wait) [ e.Subscript array index at ↦ array_wait p array | _ ↦ nothing_waits ]

-- the operand of this number, from 0, while a later one is evaluated: no value that isn't needed waits
abbrev pub wait_of : Program → Expression → ℕ → Wait
wait_of p x k = elim (out-Expression x) as (λ _. Wait) [
  | e.Subscript array index at ↦ array_wait p array
  | e.Call function arguments at ↦ argument_wait p (slice_get arguments k)
  | e.Binary operator left right at ↦ value_wait p left
  | e.Assign operator target value at ↦ AsPlace (type_of p target)
  | e.Unary operator operand at ↦ address_wait p operand
  | _ ↦ nothing_waits
]

-- what waits is a value in range, or a place of living cells
abbrev pub Waits : Program → List Object → ℕ → Wait → List Scalar → Type 0
Waits p store n (AsValue t) v = AreOf store (types_of p t) v
Waits p store n (AsPlace t) v = IsPlace p store n t v

-- the operands from this one on; n objects lived when they began to wait
abbrev pub AllWait : Program → List Object → ℕ → Expression → ℕ → List (List Scalar) → Type 0
AllWait p store n x k [] = Unit {0}
AllWait p store n x k (v ∷ found) = Waits p store n (wait_of p x k) v × AllWait p store n x (k + 1) found

-- ---- states that differ in values alone

-- an item in which no value waits, and which doesn't bound the lives of objects
abbrev pub carries_none : Item → Bool
carries_none (Value x found) = false
carries_none (Needs x found) = false
carries_none (Place x found) = false
carries_none (Locates x found) = false
carries_none (Result v) = false
carries_none (Decides s v) = false
carries_none (Branched left otherwise v) = false
carries_none (Leaving v) = false
carries_none (Makes function made) = false
carries_none (Keeps number offset v) = false
carries_none (Close objects) = false
carries_none (Back function objects) = false
carries_none _ = true

-- the same control with other values; below a call or a block, as many objects lived as live after it
pub data SameControl (p : Program) (store : List Object) : ℕ → List Item → List Item → Type 0 where
  nothing : (n : ℕ) → SameControl p store n [] []
  needs : (n : ℕ) (x : Expression) (found other : List (List Scalar)) (rest further : List Item) → length found ≡ length other → AllWait p store n x 0 other
      → SameControl p store n rest further → SameControl p store n (Needs x found ∷ rest) (Needs x other ∷ further)
  locates : (n : ℕ) (x : Expression) (found other : List (List Scalar)) (rest further : List Item) → length found ≡ length other → AllWait p store n x 0 other
      → SameControl p store n rest further → SameControl p store n (Locates x found ∷ rest) (Locates x other ∷ further)
  close : (n objects : ℕ) (rest further : List Item) → SameControl p store objects rest further → SameControl p store n (Close objects ∷ rest) (Close objects ∷ further)
  back : (n f objects : ℕ) (rest further : List Item) → SameControl p store objects rest further → SameControl p store n (Back f objects ∷ rest) (Back f objects ∷ further)
  carries : (n : ℕ) (item : Item) (rest further : List Item) → IsTrue (carries_none item) → SameControl p store n rest further → SameControl p store n (item ∷ rest) (item ∷ further)

-- the same objects live, and hold any values of their types
abbrev pub SameObjects : Program → List Object → List Object → List Object → Type 0
SameObjects p store [] [] = Unit {0}
SameObjects p store (a ∷ rest) (b ∷ further) = (a.number ≡ b.number) × AreOf store (types_in p b.number) b.cells × SameObjects p store rest further
SameObjects p store _ _ = ⊥

-- some bare arrival differs from the configuration in values alone
pub record IsHead (p : Program) (c : Configuration) : Type 0 where
  pub bare : State
  pub arrival : IsBareArrival p bare
  pub objects : SameObjects p c.state.store bare.store c.state.store
  pub control : SameControl p c.state.store (length c.state.store) bare.control c.state.control
