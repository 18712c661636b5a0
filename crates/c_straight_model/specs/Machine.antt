-- The machine that runs a straight program: configurations, steps and executions (C11 5.1.2.3).
use Rattle.std.specs.Prelude.{◌≡◌, ℕ, suc, zero, Bool, true, false, ℤ, pos, ◌+ℤ◌, ◌-ℤ◌, List, [], ◌∷◌, ◌++◌, Option, Some, None, find, position, slice_set, if◌then◌else◌}
use Rattle.std.specs.Ordering.{int_eq}
use Rattle.std.specs.Str.{bytes_eq}
use Rattle.kv_num.specs.declared.types.IntType.TheVariants.{Int}
use Rattle.kv_num.specs.IntType.{wrap_of}
use Rattle.c_rules.specs.declared.checks.CheckKind.{CheckKind}
use Rattle.c_rules.specs.declared.checks.CheckKind.TheVariants.{Assertion}
use Rattle.c_straight_model.specs.declared.program.Operand.{Operand}
use Rattle.c_straight_model.specs.declared.program.Operand.TheVariants.{Name, Number}
use Rattle.c_straight_model.specs.declared.program.Sign.{Sign}
use Rattle.c_straight_model.specs.declared.program.Sign.TheVariants.{Plus, Minus}
use Rattle.c_straight_model.specs.declared.program.Addend.{Addend}
use Rattle.c_straight_model.specs.declared.program.Sum.{Sum}
use Rattle.c_straight_model.specs.declared.program.Relation.{Relation}
use Rattle.c_straight_model.specs.declared.program.Relation.TheVariants.{Equal, Unequal}
use Rattle.c_straight_model.specs.declared.program.BlockItem.{BlockItem}
use Rattle.c_straight_model.specs.declared.program.BlockItem.TheVariants.{Declare, Assign, Assert}
use Rattle.c_straight_model.specs.declared.program.Program.{Program}

-- a living object of type int: its name, and the number that it holds (3.15, 6.2.4)
pub record Object : Type 0 where
  pub name : List ℕ
  pub value : ℤ

-- an item of the control stack, with the values that wait in it
pub data Item : Type 0 where
  -- the items of a body that are left, in their order (6.8.2p3)
  Rest : (left : List BlockItem) → Item
  -- an item that is next, with the values of its sums that were found so far
  Work : (item : BlockItem) (found : List ℤ) → Item
  -- an item that waits for the value of its next sum
  Tests : (item : BlockItem) (found : List ℤ) → Item
  -- a sum that is next
  Value : (sum : Sum) → Item
  -- a sum's value up to here, with the addends that are left (6.5.6)
  Adds : (value : ℤ) (left : List Addend) → Item

pub record Configuration : Type 0 where
  -- the item that is taken next stands first
  pub control : List Item
  -- the living objects, the youngest last; an object's number is its place
  pub store : List Object
  -- the inputs that are left
  pub inputs : List ℕ

-- the answer of a step; a straight program assumes nothing and asks for no input
pub data Answer : Type 0 where
  Next : (c : Configuration) → Answer
  Broken : (check : CheckKind) (line : ℕ) → Answer
  Ended : Answer

-- ---- objects and values

abbrev pub is_named : List ℕ → Object → Bool
is_named name object = bytes_eq object.name name

abbrev pub number_in : Option Object → ℤ
number_in None = pos 0
number_in (Some object) = object.value

-- what the object of this name holds (6.3.2.1p2), or 0 where no object has the name
abbrev pub value_of : List ℕ → List Object → ℤ
value_of name store = number_in (find (is_named name) store)

-- the number of the object of this name
abbrev pub place_of : List ℕ → List Object → Option ℕ
place_of name store = position (is_named name) store

-- a name or a constant (6.5.1)
abbrev pub operand_value : Operand → List Object → ℤ
operand_value (Name name) store = value_of name store
operand_value (Number value) store = wrap_of Int (pos value)

-- the result of an additive operator on ints (6.5.6). It wraps: no overflow is checked, and 6.5p5 leaves it open
abbrev pub result_of : Sign → ℤ → ℤ → ℤ
result_of Plus v w = wrap_of Int (v +ℤ w)
result_of Minus v w = wrap_of Int (v -ℤ w)

-- whether a comparison gives 1 (6.5.9p3)
abbrev pub holds : Relation → ℤ → ℤ → Bool
holds Equal v w = int_eq v w
holds Unequal v w = if int_eq v w then false else true

-- ---- steps. What is left of the control stack stands in c.control.

abbrev pub put : Item → Configuration → Configuration
put item c = record c { control = item ∷ c.control }

-- the item with the value that it waited for
abbrev pub handed : ℤ → Item → Item
handed v (Tests item found) = Work item (found ++ v ∷ [])
handed v item = item

abbrev pub give : ℤ → List Item → List Item
give v [] = []
give v (item ∷ rest) = handed v item ∷ rest

-- a value is handed to the item that waits for it
abbrev pub gives : ℤ → Configuration → Answer
gives v c = Next (record c { control = give v c.control })

-- the value of a sum is needed next
abbrev pub asks : Sum → Item → Configuration → Answer
asks sum item c = Next (put (Value sum) (put item c))

-- a new object lives, and holds the value of its initializer (6.7.9p11). By 6.2.4p6 it lives from the beginning
-- of its block; nothing before its declaration can name it (6.2.1p7)
abbrev pub declares : List ℕ → ℤ → Configuration → Configuration
declares name v c = record c { store = c.store ++ record { name = name; value = v } ∷ [] }

abbrev pub store_at : Option ℕ → List ℕ → ℤ → Configuration → Configuration
store_at None name v c = c
store_at (Some place) name v c = record c { store = slice_set c.store place (record { name = name; value = v }) }

-- the value replaces what the object of this name holds (6.5.16.1p2)
abbrev pub assigns : List ℕ → ℤ → Configuration → Configuration
assigns name v c = store_at (place_of name c.store) name v c

-- an item evaluates its sums from left to right, and then takes effect; an assertion is met where its comparison
-- gives 1 (7.2.1.1p2)
abbrev pub work_step : BlockItem → List ℤ → Configuration → Answer
work_step (Declare name value line) [] c = asks value (Tests (Declare name value line) []) c
work_step (Declare name value line) (v ∷ _) c = Next (declares name v c)
work_step (Assign name value line) [] c = asks value (Tests (Assign name value line) []) c
work_step (Assign name value line) (v ∷ _) c = Next (assigns name v c)
work_step (Assert relation left right line) [] c = asks left (Tests (Assert relation left right line) []) c
work_step (Assert relation left right line) (v ∷ []) c = asks right (Tests (Assert relation left right line) (v ∷ [])) c
work_step (Assert relation left right line) (v ∷ w ∷ _) c = if holds relation v w then Next c else Broken Assertion line

-- an item that was taken, with the configuration without it; one that waits never stands on top
abbrev pub item_step : Item → Configuration → Answer
item_step (Rest []) c = Next c
item_step (Rest (item ∷ left)) c = Next (put (Work item []) (put (Rest left) c))
item_step (Work item found) c = work_step item found c
item_step (Tests item found) c = Ended
item_step (Value sum) c = Next (put (Adds (operand_value sum.first c.store) sum.rest) c)
item_step (Adds value []) c = gives value c
item_step (Adds value (addend ∷ left)) c = Next (put (Adds (result_of addend.sign value (operand_value addend.operand c.store)) left) c)

abbrev pub step_at : List Item → Configuration → Answer
step_at [] c = Ended
step_at (item ∷ rest) c = item_step item (record c { control = rest })

-- one item is taken from the control stack
abbrev pub step : Configuration → Answer
step c = step_at c.control c

-- ---- executions

-- an execution makes no further step after such an answer
abbrev pub IsEnd : Answer → Type 0
IsEnd (Next c) = ⊥
IsEnd (Broken check line) = Unit {0}
IsEnd Ended = Unit {0}

abbrev pub goes_on : (Configuration → Answer) → Answer → Answer
goes_on more (Next c) = more c
goes_on more (Broken check line) = Broken check line
goes_on more Ended = Ended

-- the answer after at most this many steps
abbrev pub after : ℕ → Configuration → Answer
after zero c = Next c
after (suc n) c = goes_on (λ d. after n d) (step c)

abbrev pub start : Program → List ℕ → Configuration
start program inputs = record { control = Rest program.items ∷ []; store = []; inputs = inputs }

-- after some number of steps the execution on these inputs has come to this answer
abbrev pub Comes : Program → List ℕ → Answer → Type 0
Comes program inputs answer = (n : ℕ) × (after n (start program inputs) ≡ answer)

-- the execution on these inputs breaks this check at this line
abbrev pub Breaks : Program → List ℕ → CheckKind → ℕ → Type 0
Breaks program inputs check line = Comes program inputs (Broken check line)

-- no inputs break any check
abbrev pub Safe : Program → Type 0
Safe program = (inputs : List ℕ) (check : CheckKind) (line : ℕ) → Breaks program inputs check line → ⊥
