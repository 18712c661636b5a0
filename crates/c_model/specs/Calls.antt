-- Calls of defined functions (6.5.2.2, 6.9.1), and the objects of blocks (6.2.4). Sections are those of ISO/IEC 9899:2011.
use Rattle.std.specs.Prelude.{ℕ, List, [], ◌∷◌, ◌++◌, length, Option, Some, None, slice_get, if◌then◌else◌}
use Rattle.c_tree.specs.declared.expression.Expression.{Expression}
use Rattle.c_tree.specs.declared.statement.BlockItem.{BlockItem, out-BlockItem}
use Rattle.c_tree.specs.declared.statement.BlockItem.TheOpen.{BlockItem-F as b}
use Rattle.c_tree.specs.declared.declaration.Declared.{Declared}
use Rattle.c_kinds.specs.declared.types.CellType.{CellType}
use Rattle.c_kinds.specs.declared.types.CellType.TheVariants as cell
use Rattle.c_kinds.specs.Types.{is_void}
use Rattle.c_rules.specs.declared.names.Meaning.{Meaning}
use Rattle.c_rules.specs.declared.names.Meaning.TheVariants as meaning
use Rattle.c_rules.specs.declared.program.Program.{Program}
use Rattle.c_model.specs.declared.values.Scalar.{Scalar}
use Rattle.c_model.specs.declared.values.Scalar.TheVariants.{Number, Wild}
use Rattle.c_model.specs.declared.values.Object.{Object}
use Rattle.c_model.specs.Programs.{types_of, object_type, is_static, declares}
use Rattle.c_model.specs.Functions.{body_of, result_of, parameters_of}
use Rattle.c_model.specs.Values.{value_as}
use Rattle.c_model.specs.Store.{born}
use Rattle.c_model.specs.Configurations.{Needs, Rest, Back, Result, Makes, State, Move, Goes, Takes}
use Rattle.c_model.specs.Moves.{put, gives, asks, closes}

-- ---- the objects of a block

-- the automatic object that a name names, if it names one (6.2.4p5)
abbrev pub object_in : Program → Option Meaning → List ℕ
object_in p (Some (meaning.Object number)) = if is_static p number then [] else number ∷ []
object_in p _ = []

-- the automatic objects that a declaration declares (6.2.4p5)
abbrev pub objects_declared : Program → List Declared → List ℕ
objects_declared p [] = []
objects_declared p (x ∷ xs) = object_in p (declares p x) ++ objects_declared p xs

-- a statement of a block declares nothing in it (6.8.2)
abbrev pub objects_of_item : Program → BlockItem → List ℕ
objects_of_item p x = elim (out-BlockItem x) as (λ _. List ℕ) [ b.Declared declaration ↦ objects_declared p declaration.names | b.Run statement ↦ [] ]

-- those declared directly in a block: they live from its entry to its end (6.2.4p6)
abbrev pub objects_of : Program → List BlockItem → List ℕ
objects_of p [] = []
objects_of p (x ∷ xs) = objects_of_item p x ++ objects_of p xs

-- further objects live
abbrev pub opens : Program → List ℕ → State → State
opens p objects c = record c { store = c.store ++ born p objects }

-- ---- a defined function

-- the parameters as objects: each gets its argument as if by assignment (6.5.2.2p7)
abbrev pub passed : Program → List ℕ → List (List Scalar) → List Object
passed p [] found = []
passed p (number ∷ numbers) [] = born p (number ∷ numbers)
passed p (number ∷ numbers) (v ∷ found) = record { number = number; cells = value_as (object_type p number) v } ∷ passed p numbers found

-- the body is entered: its parameters and its objects live (6.9.1p9)
abbrev pub entering : Program → ℕ → List (List Scalar) → State → State
entering p f found c = record {
  control = Rest (body_of p f) ∷ Back f (length c.store) ∷ c.control;
  store = c.store ++ passed p (parameters_of p f) found ++ born p (objects_of p (body_of p f));
}

-- the next argument, or the call
abbrev pub call_by : Program → ℕ → Option Expression → Expression → List (List Scalar) → State → Move
call_by p f (Some argument) x found c = asks argument (Needs x found) c
call_by p f None x found c = Goes (entering p f found c)

-- arguments are evaluated before the body is entered (6.5.2.2p4, p10)
abbrev pub defined_call : Program → ℕ → List Expression → Expression → List (List Scalar) → State → Move
defined_call p f arguments x found c = call_by p f (slice_get arguments (length found)) x found c

-- a call is left with a value, which is converted now (6.8.6.4p3)
abbrev pub returns : Program → ℕ → ℕ → List Scalar → State → Move
returns p f objects v c = Goes (closes objects (put (Result (value_as (result_of p f) v)) c))

-- a body is left at its end, without `return` (6.9.1p12): the objects' lives end first
abbrev pub falls_off : Program → ℕ → ℕ → State → Move
falls_off p f objects c = if is_void (result_of p f) then gives [] (closes objects c) else Goes (put (Makes f []) (closes objects c))

-- the next cell of a value that no `return` gave: an integer takes an input, a pointer is wild
abbrev pub makes_cell : Option CellType → ℕ → List Scalar → State → Move
makes_cell None f made c = gives made c
makes_cell (Some (cell.Integer kind)) f made c = Takes kind (λ n. put (Makes f (made ++ Number n ∷ [])) c)
makes_cell (Some (cell.Pointer pointee)) f made c = Goes (put (Makes f (made ++ Wild ∷ [])) c)

-- as many cells as the function's result has
abbrev pub makes : Program → ℕ → List Scalar → State → Move
makes p f made c = makes_cell (slice_get (types_of p (result_of p f)) (length made)) f made c
