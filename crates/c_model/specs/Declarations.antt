-- Declarations, when they are reached (6.7, 6.7.9). Static objects have their values from the start (6.2.4p3). Sections are
-- those of ISO/IEC 9899:2011.
use Rattle.std.specs.Prelude.{ℕ, ◌+◌, ◌*◌, List, [], ◌∷◌, map, drop, Option, Some, None, slice_get, if◌then◌else◌}
use Rattle.c_tree.specs.declared.declaration.Initialiser.TheOpen.{Initialiser-F}
use Rattle.c_tree.specs.declared.declaration.Declared.{Declared}
use Rattle.c_tree.specs.declared.declaration.Declared.TheVariants as declared
use Rattle.c_tree.specs.declared.declaration.Initialiser.{Initialiser, out-Initialiser}
use Rattle.c_tree.specs.declared.declaration.Initialiser.TheOpen.{Initialiser-F as i}
use Rattle.c_kinds.specs.declared.types.CType.{CType}
use Rattle.c_kinds.specs.declared.types.CellType.{CellType}
use Rattle.c_kinds.specs.declared.types.CellType.TheVariants as cell
use Rattle.c_kinds.specs.declared.types.Member.{Member}
use Rattle.c_kinds.specs.declared.types.Shape.{Shape}
use Rattle.c_kinds.specs.declared.types.Shape.TheVariants as shape
use Rattle.c_kinds.specs.Types.{shape_of, inner}
use Rattle.c_rules.specs.declared.names.Meaning.{Meaning}
use Rattle.c_rules.specs.declared.names.Meaning.TheVariants as meaning
use Rattle.c_rules.specs.declared.program.Program.{Program}
use Rattle.c_model.specs.declared.values.Scalar.{Scalar}
use Rattle.c_model.specs.declared.values.Scalar.TheVariants.{Number, Wild}
use Rattle.c_model.specs.Programs.{cell_count, types_of, types_in, members, part_type, object_type, is_static, declares}
use Rattle.c_model.specs.Values.{zero_of}
use Rattle.c_model.specs.Store.{place_of, further}
use Rattle.c_model.specs.Operators.{keeping}
use Rattle.c_model.specs.Configurations.{Declaring, Unset, Fills, Parts, Awaits, State, Move, Goes, Takes}
use Rattle.c_model.specs.Moves.{put, asks}

-- cells of a declared object, from an offset on, get a value
abbrev pub filling : ℕ → ℕ → List Scalar → State → State
filling number offset v c = keeping v (further offset (place_of number c.store)) c

-- ---- without initialiser: an integer takes an input, a pointer becomes wild, cell after cell (6.7.9p10 leaves it open)

-- one cell; after the last one the declaration is done
abbrev pub unset_cell : Option CellType → ℕ → ℕ → State → Move
unset_cell None number offset c = Goes c
unset_cell (Some (cell.Integer kind)) number offset c = Takes kind (λ n. put (Unset number (offset + 1)) (filling number offset (Number n ∷ []) c))
unset_cell (Some (cell.Pointer pointee)) number offset c = Goes (put (Unset number (offset + 1)) (filling number offset (Wild ∷ []) c))

-- the next cell of an object that isn't initialised explicitly (6.7.9p10)
abbrev pub unset_move : Program → ℕ → ℕ → State → Move
unset_move p number offset c = unset_cell (slice_get (types_in p number) offset) number offset c

-- ---- initialisers (6.7.9p11, p13, p17 to p21)

-- all cells of a struct stand before what follows its last member
abbrev pub member_offset : ℕ → Option Member → ℕ
member_offset all None = all
member_offset all (Some member) = member.cell

-- a member stands at its offset, an element after those before it (6.2.5p20)
abbrev pub part_offset_by : Program → Shape → CType → ℕ → ℕ
part_offset_by p (shape.Struct number) t part = member_offset (cell_count p t) (slice_get (members p t) part)
part_offset_by p _ t part = part * cell_count p (inner t)

-- how many cells stand before a part
abbrev pub part_offset : Program → CType → ℕ → ℕ
part_offset p t part = part_offset_by p (shape_of t) t part

-- cells from this part on are 0 or null
abbrev pub left_out : Program → CType → ℕ → List Scalar
left_out p t part = map zero_of (drop (part_offset p t part) (types_of p t))

-- an expression, or a braced list (6.7.9p11, p17)
abbrev pub fill_node : ℕ → ℕ → CType → Initialiser-F Initialiser → State → Move
fill_node number offset t (i.Value value at) c = asks value (Awaits number offset t) c
fill_node number offset t (i.Braces parts at) c = Goes (put (Parts number offset t 0 parts) c)

-- each part is stored when it is found
abbrev pub fill_move : ℕ → ℕ → CType → Initialiser → State → Move
fill_move number offset t x c = fill_node number offset t (out-Initialiser x) c

-- the parts of a braced initialiser, in order, and then those that are left out (6.7.9p21)
abbrev pub parts_move : Program → ℕ → ℕ → CType → ℕ → List Initialiser → State → Move
parts_move p number offset t part [] c = Goes (filling number (offset + part_offset p t part) (left_out p t part) c)
parts_move p number offset t part (x ∷ left) c = Goes (put (Fills number (offset + part_offset p t part) (part_type p t part) x) (put (Parts number offset t (part + 1) left) c))

-- ---- one declared name after another

-- an automatic object is initialised when its declaration is reached (6.2.4p6)
abbrev pub begins_life : Program → Declared → ℕ → State → Move
begins_life p (declared.Plain declarator) number c = Goes (put (Unset number 0) c)
begins_life p (declared.Initialised declarator initialiser at) number c = Goes (put (Fills number 0 (object_type p number) initialiser) c)

-- a static object, a function and a typedef name do nothing when they are reached
abbrev pub declares_by : Program → Option Meaning → Declared → State → Move
declares_by p (Some (meaning.Object number)) x c = if is_static p number then Goes c else begins_life p x number c
declares_by p _ x c = Goes c

-- each declarator of a declaration in order (6.7.6p3)
abbrev pub declaring_move : Program → List Declared → State → Move
declaring_move p [] c = Goes c
declaring_move p (x ∷ left) c = declares_by p (declares p x) x (put (Declaring left) c)
