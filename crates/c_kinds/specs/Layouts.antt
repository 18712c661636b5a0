-- Sizes and cells of types: bytes, as `sizeof` counts them, and the scalar cells of which objects are lists. Sections are
-- those of ISO/IEC 9899:2011.
use Rattle.std.specs.Prelude.{ℕ, zero, suc, ◌*◌, nat_lt, Bool, true, false, not, ◌&&◌, ◌||◌, List, [], ◌∷◌, ◌++◌, length, drop, Option, Some, None, slice_get, if◌then◌else◌}
use Rattle.std.specs.Str.{bytes_eq}
use Rattle.c_tokens.specs.declared.data_model.DataModel.{DataModel}
use Rattle.c_kinds.specs.declared.types.Derivation.{Derivation}
use Rattle.c_kinds.specs.declared.types.Derivation.TheVariants.{Pointer, Array}
use Rattle.c_kinds.specs.declared.types.Base.{Base}
use Rattle.c_kinds.specs.declared.types.Base.TheVariants as base
use Rattle.c_kinds.specs.declared.types.Shape.{Shape}
use Rattle.c_kinds.specs.declared.types.Shape.TheVariants as shape
use Rattle.c_kinds.specs.declared.types.CType.{CType}
use Rattle.c_kinds.specs.declared.types.CellType.{CellType}
use Rattle.c_kinds.specs.declared.types.CellType.TheVariants as cell
use Rattle.c_kinds.specs.declared.types.Member.{Member}
use Rattle.c_kinds.specs.declared.types.Struct.{Struct}
use Rattle.c_kinds.specs.Types.{shape_of, const_of, ends_in_base, same_integer, alike}
use Rattle.c_kinds.specs.Integers.{pointer_bytes, bytes_of}

-- what sizes and cells depend on: the structs and the types of the declared objects, both by number, and the data model
pub record Layout : Type 0 where
  pub structs : List Struct
  pub objects : List (Option CType)
  pub model : DataModel

-- ---- bytes (6.5.3.4)

abbrev pub base_bytes : Base → Option ℕ
base_bytes (base.Integer k) = Some (bytes_of k)
base_bytes _ = None

abbrev pub times : ℕ → Option ℕ → Option ℕ
times n None = None
times n (Some m) = Some (n * m)

abbrev pub bytes_by : DataModel → List Derivation → Base → Option ℕ
bytes_by model [] b = base_bytes b
bytes_by model (Pointer c ∷ rest) b = Some (pointer_bytes model)
bytes_by model (Array n ∷ rest) b = times n (bytes_by model rest b)

-- how many bytes an object of the type has; the accepted C asks it of no struct, array of structs, function or void
abbrev pub size_in_bytes : DataModel → CType → Option ℕ
size_in_bytes model t = bytes_by model t.derived t.base

-- ---- structs (6.7.2.1)

abbrev pub completed_before : ℕ → Option ℕ → Bool
completed_before at None = false
completed_before at (Some end) = nat_lt end at

abbrev pub struct_is_complete : ℕ → Option Struct → Bool
struct_is_complete at None = false
struct_is_complete at (Some s) = completed_before at s.completed_at

abbrev pub is_incomplete_shape : List Struct → ℕ → Shape → Bool
is_incomplete_shape structs at (shape.Struct n) = not (struct_is_complete at (slice_get structs n))
is_incomplete_shape structs at _ = false

-- a struct that isn't complete at this token (6.7.2.1p8)
abbrev pub is_incomplete : List Struct → ℕ → CType → Bool
is_incomplete structs at t = is_incomplete_shape structs at (shape_of t)

-- an array of such structs, in any number of dimensions
abbrev pub lacks_elements : List Struct → ℕ → CType → Bool
lacks_elements structs at t = ends_in_base t.derived && is_incomplete structs at (record { derived = []; base = t.base; is_const = false })

abbrev pub members_by : Option Struct → List Member
members_by None = []
members_by (Some s) = s.members

abbrev pub members_of : List Struct → ℕ → List Member
members_of structs n = members_by (slice_get structs n)

abbrev pub member_in : List Member → List ℕ → Option Member
member_in [] name = None
member_in (m ∷ ms) name = if bytes_eq m.name name then Some m else member_in ms name

abbrev pub struct_has_const : Option Struct → Bool
struct_has_const None = false
struct_has_const (Some s) = s.has_const

abbrev pub base_has_const : List Struct → Base → Bool
base_has_const structs (base.Struct n) = struct_has_const (slice_get structs n)
base_has_const structs _ = false

-- const, or with a const member, through structs and arrays (6.3.2.1p1)
abbrev pub has_const : List Struct → CType → Bool
has_const structs t = const_of t || (ends_in_base t.derived && base_has_const structs t.base)

-- ---- how many cells an object has

abbrev pub struct_cells : Option Struct → ℕ
struct_cells None = 0
struct_cells (Some s) = s.cells

abbrev pub base_cells : List Struct → Base → ℕ
base_cells structs base.Void = 0
base_cells structs (base.Integer k) = 1
base_cells structs (base.Struct n) = struct_cells (slice_get structs n)
base_cells structs (base.Function n) = 0

abbrev pub cells_by : List Struct → List Derivation → Base → ℕ
cells_by structs [] b = base_cells structs b
cells_by structs (Pointer c ∷ rest) b = 1
cells_by structs (Array n ∷ rest) b = n * cells_by structs rest b

abbrev pub cell_count : List Struct → CType → ℕ
cell_count structs t = cells_by structs t.derived t.base

-- ---- the types of the cells, in order

abbrev pub repeated : {A : Type 0} → ℕ → List A → List A
repeated zero xs = []
repeated (suc n) xs = xs ++ repeated n xs

-- `of_struct` gives the cells of a struct
abbrev pub cell_types_by : (ℕ → List CellType) → List Derivation → Base → Bool → List CellType
cell_types_by of_struct [] base.Void is_const = []
cell_types_by of_struct [] (base.Integer k) is_const = cell.Integer k ∷ []
cell_types_by of_struct [] (base.Struct n) is_const = of_struct n
cell_types_by of_struct [] (base.Function n) is_const = []
cell_types_by of_struct (Pointer c ∷ rest) b is_const = cell.Pointer (record { derived = rest; base = b; is_const = is_const }) ∷ []
cell_types_by of_struct (Array n ∷ rest) b is_const = repeated n (cell_types_by of_struct rest b is_const)

abbrev pub member_cells : (ℕ → List CellType) → Option CType → List CellType
member_cells of_struct None = []
member_cells of_struct (Some t) = cell_types_by of_struct t.derived t.base t.is_const

abbrev pub members_cells : (ℕ → List CellType) → List Member → List CellType
members_cells of_struct [] = []
members_cells of_struct (m ∷ ms) = member_cells of_struct m.ctype ++ members_cells of_struct ms

-- a struct's cells follow in member order; structs lie in one another at most as deep as there are structs
abbrev pub struct_cell_types : List Struct → ℕ → ℕ → List CellType
struct_cell_types structs zero n = []
struct_cell_types structs (suc depth) n = members_cells (struct_cell_types structs depth) (members_of structs n)

abbrev pub cell_types : List Struct → CType → List CellType
cell_types structs t = cell_types_by (struct_cell_types structs (length structs)) t.derived t.base t.is_const

abbrev pub same_cell : CellType → CellType → Bool
same_cell (cell.Integer k) (cell.Integer l) = same_integer k l
same_cell (cell.Pointer t) (cell.Pointer u) = alike t u
same_cell _ _ = false

-- the cells there begin with these types
abbrev pub begins_with : List CellType → List CellType → Bool
begins_with there [] = true
begins_with [] (k ∷ ks) = false
begins_with (c ∷ cs) (k ∷ ks) = same_cell c k && begins_with cs ks

-- ---- declared objects

abbrev pub flat : {A : Type 0} → Option (Option A) → Option A
flat None = None
flat (Some x) = x

abbrev pub count_if : List Struct → Option CType → ℕ
count_if structs None = 0
count_if structs (Some t) = cell_count structs t

abbrev pub types_if : List Struct → Option CType → List CellType
types_if structs None = []
types_if structs (Some t) = cell_types structs t

abbrev pub object_cells : Layout → ℕ → ℕ
object_cells l object = count_if l.structs (flat (slice_get l.objects object))

-- the cells of this object from this one on begin with those of the type
abbrev pub leads_to : Layout → ℕ → ℕ → CType → Bool
leads_to l object at t = begins_with (drop at (types_if l.structs (flat (slice_get l.objects object)))) (cell_types l.structs t)
