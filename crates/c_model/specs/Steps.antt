-- One step: an item is taken from the control stack, and its move is answered. Sections are those of ISO/IEC 9899:2011.
use Rattle.std.specs.Prelude.{◌≡◌, ℕ, nat_eq, Bool, true, ◌&&◌, ℤ, pos, ◌⊎◌, List, [], ◌∷◌, ◌++◌, if◌then◌else◌}
use Rattle.kv_num.specs.declared.types.IntType.{IntType}
use Rattle.kv_num.specs.IntType.{wrap_of, InRange}
use Rattle.c_rules.specs.declared.checks.CheckKind.{CheckKind}
use Rattle.c_rules.specs.declared.checks.CheckKind.TheVariants as check
use Rattle.c_rules.specs.declared.checks.Goal.{Goal}
use Rattle.c_rules.specs.declared.checks.Goal.TheVariants.{All, Only}
use Rattle.c_rules.specs.declared.program.Program.{Program}
use Rattle.c_model.specs.Programs.{checks, line_at}
use Rattle.c_model.specs.Functions.{main_body}
use Rattle.c_model.specs.Store.{born}
use Rattle.c_model.specs.Statics.{statics}
use Rattle.c_model.specs.Configurations.{Item, Value, Place, CommaParts, Result, Work, Decides, Rest, Close, Branches, Branched, Seeks, Labels, Switched, Loop, Again, Breaking, Continuing, Leaving, Back, Makes, Declaring, Unset, Fills, Parts, Keeps, State, Feed, Configuration, Move, Goes, Unmet, Forks, Takes, Unassumed, Stops, Answer, Next, Broken, Ended, Assumed, NeedsInput}
use Rattle.c_model.specs.Moves.{gives, closes}
use Rattle.c_model.specs.Calls.{falls_off, makes, objects_of}
use Rattle.c_model.specs.Expressions.{value_move, comma_parts}
use Rattle.c_model.specs.Places.{place_move}
use Rattle.c_model.specs.Declarations.{declaring_move, unset_move, fill_move, parts_move, filling}
use Rattle.c_model.specs.Switches.{seeks_move, labels_move}
use Rattle.c_model.specs.Loops.{loop_move, again_move, breaks, continues, leaves}
use Rattle.c_model.specs.Statements.{work_move, decides, rest_move, branches_move, branched_move}

-- ---- what an item does

-- an item that was taken, with the state without it; one that waits never stands on top
abbrev pub item_move : Program → Item → State → Move
item_move p (Value x found) c = value_move p x found c
item_move p (Place x found) c = place_move p x found c
item_move p (CommaParts left) c = comma_parts left c
item_move p (Result v) c = gives v c
item_move p (Work s) c = work_move p s c
item_move p (Decides s v) c = decides p s v c
item_move p (Rest left) c = rest_move left c
item_move p (Close objects) c = Goes (closes objects c)
item_move p (Branches left otherwise) c = branches_move left otherwise c
item_move p (Branched left otherwise v) c = branched_move left otherwise v c
item_move p (Seeks kind value left otherwise) c = seeks_move kind value left otherwise c
item_move p (Labels kind value s left otherwise) c = labels_move p kind value s left otherwise c
item_move p Switched c = Goes c
item_move p (Loop s) c = loop_move s c
item_move p (Again s) c = again_move s c
item_move p Breaking c = breaks c.control c
item_move p Continuing c = continues c.control c
item_move p (Leaving v) c = leaves p v c.control c
item_move p (Back function objects) c = falls_off p function objects c
item_move p (Makes function made) c = makes p function made c
item_move p (Declaring left) c = declaring_move p left c
item_move p (Unset number offset) c = unset_move p number offset c
item_move p (Fills number offset t x) c = fill_move number offset t x c
item_move p (Parts number offset t part left) c = parts_move p number offset t part left c
item_move p (Keeps number offset v) c = Goes (filling number offset v c)
item_move p _ c = Stops

-- what the item on top does, where there is one
abbrev pub move_by : Program → List Item → State → Move
move_by p [] c = Stops
move_by p (item ∷ rest) c = item_move p item (record c { control = rest })

-- what a state does next
abbrev pub move_of : Program → State → Move
move_of p c = move_by p c.control c

-- ---- goals

-- a number for each check, to compare them by
abbrev pub index_of : CheckKind → ℕ
index_of check.Assertion = 0
index_of check.ArrayBounds = 1
index_of check.Dereference = 2
index_of check.PointerArithmetic = 3
index_of check.Division = 4
index_of check.Shift = 5
index_of check.Overflow = 6

-- whether a break counts
abbrev pub is_goal : Goal → CheckKind → ℕ → Bool
is_goal All kind line = true
is_goal (Only one at) kind line = nat_eq (index_of one) (index_of kind) && nat_eq at line

-- a check that isn't met ends the execution, also where it isn't the goal
abbrev pub fails : Goal → CheckKind → ℕ → Answer
fails goal kind line = if is_goal goal kind line then Broken kind line else Ended

-- ---- how the machine answers a move

-- the machine goes on from this state
abbrev pub goes : State → Feed → Answer
goes next feed = Next (record { state = next; inputs = feed })

-- an input is the number of its type that equals it modulo the type's size
abbrev pub taking : IntType → (ℤ → State) → List ℕ → List ℤ → Answer
taking kind go [] taken = NeedsInput
taking kind go (n ∷ ns) taken = goes (go (wrap_of kind (pos n))) (record { given = ns; taken = taken ++ wrap_of kind (pos n) ∷ [] })

-- how the machine answers a move, with the inputs that are left
abbrev pub answered : Program → Move → Feed → Answer
answered p (Goes next) feed = goes next feed
answered p (Unmet kind at next) feed = fails (checks p).goal kind (line_at p at)
answered p (Forks holds if_so if_not) feed = goes (if holds then if_so else if_not) feed
answered p (Takes kind go) feed = taking kind go feed.given feed.taken
answered p (Unassumed next) feed = Assumed
answered p Stops feed = Ended

-- a step of the machine
abbrev pub step : Program → Configuration → Answer
step p c = answered p (move_of p c.state) c.inputs

-- ---- how the bare machine does: every test goes both ways, every check and assumption is met, an input is any number of
-- its type

-- a move of the bare machine may lead to this state
abbrev pub Leads : Move → State → Type 0
Leads (Goes next) d = next ≡ d
Leads (Unmet kind at next) d = next ≡ d
Leads (Forks holds if_so if_not) d = (if_so ≡ d) ⊎ (if_not ≡ d)
Leads (Takes kind go) d = (n : ℤ) × InRange kind n × (go n ≡ d)
Leads (Unassumed next) d = next ≡ d
Leads Stops d = ⊥

-- ---- the start

-- the static objects live with their values, and the body of `main` is entered (5.1.2.2.1): its objects live from the start
abbrev pub start : Program → State
start p = record { control = Rest (main_body p) ∷ []; store = statics p ++ born p (objects_of p (main_body p)) }
