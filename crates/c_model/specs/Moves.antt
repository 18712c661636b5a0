-- What moves are made of. What is left of the control stack, without the item that was taken, stands in c.control.
use Rattle.std.specs.Prelude.{ℕ, not, pos, List, [], ◌∷◌, ◌++◌, map}
use Rattle.c_tree.specs.declared.expression.Expression.{Expression}
use Rattle.c_model.specs.declared.values.Scalar.{Scalar}
use Rattle.c_model.specs.declared.values.Scalar.TheVariants.{Number}
use Rattle.c_model.specs.declared.values.Outcome.{Outcome}
use Rattle.c_model.specs.declared.values.Outcome.TheVariants as outcome
use Rattle.c_model.specs.Values.{truth_of, is_no, value_as}
use Rattle.c_model.specs.Store.{outlived, survivors}
use Rattle.c_model.specs.Configurations.{Item, Value, Needs, Place, Locates, Truth, Converts, Drops, Result, Tests, Decides, Branching, Branched, Leaving, Makes, Awaits, Keeps, State, Move, Goes, Unmet}

-- ---- control

-- the item is taken next
abbrev pub put : Item → State → State
put item c = record c { control = item ∷ c.control }

-- an item with the value that it waited for
abbrev pub handed : List Scalar → Item → Item
handed v (Needs x found) = Value x (found ++ v ∷ [])
handed v (Locates x found) = Place x (found ++ v ∷ [])
handed v Truth = Result (truth_of (not (is_no v)) ∷ [])
handed v (Converts to) = Result (value_as to v)
handed v (Tests s) = Decides s v
handed v (Branching left otherwise) = Branched left otherwise v
handed v (Awaits number offset t) = Keeps number offset (value_as t v)
handed v item = item

-- a value that is dropped leaves nothing (6.8.3p2)
abbrev pub give : List Scalar → List Item → List Item
give v [] = []
give v (Drops ∷ rest) = rest
give v (item ∷ rest) = handed v item ∷ rest

-- a value, given to the item that waits for it
abbrev pub giving : List Scalar → State → State
giving v c = record c { control = give v c.control }

-- the value of an expression is needed next, and the item waits for it
abbrev pub asking : Expression → Item → State → State
asking x item c = put (Value x []) (put item c)

-- it leads on with a value for the item that waits for it
abbrev pub gives : List Scalar → State → Move
gives v c = Goes (giving v c)

-- it leads on to an operand, and the item waits for its value
abbrev pub asks : Expression → Item → State → Move
asks x item c = Goes (asking x item c)

-- its place is needed next
abbrev pub locates : Expression → Item → State → Move
locates x item c = Goes (put (Place x []) (put item c))

-- ---- checks

-- goes on with what an operator gives; where its check isn't met, the bare machine goes on with 0
abbrev pub settles : ℕ → Outcome → (Scalar → State) → Move
settles at (outcome.Gives s) go = Goes (go s)
settles at (outcome.Unmet check) go = Unmet check at (go (Number (pos 0)))

-- one operator after another: the first check that isn't met is the one
abbrev pub and_then : Outcome → (Scalar → Outcome) → Outcome
and_then (outcome.Gives s) f = f s
and_then (outcome.Unmet check) f = outcome.Unmet check

-- ---- ends of lives

-- the same of the cells of a value
abbrev pub all_outlived : ℕ → List Scalar → List Scalar
all_outlived n v = map (outlived n) v

-- the values that wait in an item, where the first n objects live on
abbrev pub item_outlived : ℕ → Item → Item
item_outlived n (Value x found) = Value x (map (all_outlived n) found)
item_outlived n (Needs x found) = Needs x (map (all_outlived n) found)
item_outlived n (Place x found) = Place x (map (all_outlived n) found)
item_outlived n (Locates x found) = Locates x (map (all_outlived n) found)
item_outlived n (Result v) = Result (all_outlived n v)
item_outlived n (Decides s v) = Decides s (all_outlived n v)
item_outlived n (Branched left otherwise v) = Branched left otherwise (all_outlived n v)
item_outlived n (Leaving v) = Leaving (all_outlived n v)
item_outlived n (Makes function made) = Makes function (all_outlived n made)
item_outlived n (Keeps number offset v) = Keeps number offset (all_outlived n v)
item_outlived n item = item

-- the first n objects live on: pointers to the others become wild wherever they stand (6.2.4p2)
abbrev pub closes : ℕ → State → State
closes n c = record { control = map (item_outlived n) c.control; store = survivors n c.store }
