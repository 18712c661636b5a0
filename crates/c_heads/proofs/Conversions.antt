-- Cells of types, and conversions: each gives a value of its type.
use Rattle.std.proofs.Common.{◌≡◌, ℕ, Bool, List, [], ◌∷◌, refl, subst, sym}
use Rattle.kv_num.specs.declared.types.IntType.{IntType}
use Rattle.c_kinds.specs.declared.types.CType.{CType}
use Rattle.c_kinds.specs.declared.types.CellType.{CellType}
use Rattle.c_kinds.specs.declared.types.CellType.TheVariants as cell
use Rattle.c_kinds.specs.declared.types.Derivation.{Derivation}
use Rattle.c_kinds.specs.declared.types.Derivation.TheVariants.{Pointer, Array}
use Rattle.c_kinds.specs.declared.types.Base.{Base}
use Rattle.c_kinds.specs.declared.types.Base.TheVariants as base
use Rattle.c_kinds.specs.declared.types.Shape.{Shape}
use Rattle.c_kinds.specs.declared.types.Shape.TheVariants as shape
use Rattle.c_kinds.specs.Types.{void, shape_by, shape_of}
use Rattle.c_kinds.specs.Layouts.{cell_types_by, struct_cell_types}
use Rattle.std.specs.Prelude.{length}
use Rattle.c_rules.specs.declared.program.Program.{Program}
use Rattle.c_model.specs.declared.values.Scalar.{Scalar}
use Rattle.c_model.specs.declared.values.Scalar.TheVariants.{Number, Null, Wild, Inside}
use Rattle.c_model.specs.declared.values.Object.{Object}
use Rattle.c_model.specs.Programs.{types_of}
use Rattle.c_model.specs.Values.{scalar_in, as_pointer, number_as, cells_as, value_as}
use Rattle.c_model.specs.Heads.{IsOf, AreOf}
use Rattle.c_heads.specs.Typed.{IsOfType, IsPointer, IsOfShape, ConvertsBy, ConvertsTo}
use Rattle.c_heads.specs.Sound.{IsScalarShape}
use Rattle.c_heads.proofs.Numbers.{number_fits}

-- ---- the cells of a scalar type

module _ (of_struct : ℕ → List CellType) (is_const : Bool) where
  void_cells : (ds : List Derivation) (b : Base) → shape_by ds b ≡ shape.Void → cell_types_by of_struct ds b is_const ≡ []
  void_cells [] base.Void e = refl
  void_cells [] _ e = absurd (cc)
  void_cells (Pointer c ∷ rest) b e = absurd (cc)
  void_cells (Array n ∷ rest) b e = absurd (cc)

  integer_cells : (kind : IntType) (ds : List Derivation) (b : Base) → shape_by ds b ≡ shape.Integer kind → cell_types_by of_struct ds b is_const ≡ cell.Integer kind ∷ []
  integer_cells kind [] (base.Integer k) e = cc
  integer_cells kind [] _ e = absurd (cc)
  integer_cells kind (Pointer c ∷ rest) b e = absurd (cc)
  integer_cells kind (Array n ∷ rest) b e = absurd (cc)

  pointer_cells : (ds : List Derivation) (b : Base) → shape_by ds b ≡ shape.Pointer → (t : CType) × (cell_types_by of_struct ds b is_const ≡ cell.Pointer t ∷ [])
  pointer_cells [] base.Void e = absurd (cc)
  pointer_cells [] (base.Integer k) e = absurd (cc)
  pointer_cells [] (base.Struct n) e = absurd (cc)
  pointer_cells [] (base.Function n) e = absurd (cc)
  pointer_cells (Pointer c ∷ rest) b e = (record { derived = rest; base = b; is_const = is_const }, refl)
  pointer_cells (Array n ∷ rest) b e = absurd (cc)

module _ (p : Program) where
  abbrev of_struct : ℕ → List CellType
  of_struct = struct_cell_types p.names.structs (length p.names.structs)

  pub types_of_void : (t : CType) → shape_of t ≡ shape.Void → types_of p t ≡ []
  types_of_void t e = void_cells of_struct t.is_const t.derived t.base e

  pub types_of_integer : (t : CType) (kind : IntType) → shape_of t ≡ shape.Integer kind → types_of p t ≡ cell.Integer kind ∷ []
  types_of_integer t kind e = integer_cells of_struct t.is_const kind t.derived t.base e

  pub types_of_pointer : (t : CType) → shape_of t ≡ shape.Pointer → (u : CType) × (types_of p t ≡ cell.Pointer u ∷ [])
  types_of_pointer t e = pointer_cells of_struct t.is_const t.derived t.base e

-- ---- one scalar

-- a pointer leads into or to the end of a living object; a number may be any
abbrev pub IsSound : List Object → Scalar → Type 0
IsSound store (Number n) = Unit {0}
IsSound store s = IsPointer store s

module _ (store : List Object) where
  pub cell_is_sound : (k : CellType) (s : Scalar) → IsOf store k s → IsSound store s
  cell_is_sound (cell.Integer kind) (Number n) h = tt
  cell_is_sound (cell.Integer kind) _ h = absurd h
  cell_is_sound (cell.Pointer t) (Number n) h = tt
  cell_is_sound (cell.Pointer t) Null h = tt
  cell_is_sound (cell.Pointer t) Wild h = tt
  cell_is_sound (cell.Pointer t) (Inside object offset) h = h

  pub value_is_sound : (ts : List CellType) (v : List Scalar) → AreOf store ts v → IsSound store (scalar_in v)
  value_is_sound ts [] h = tt
  value_is_sound [] (s ∷ v) h = absurd h
  value_is_sound (t ∷ ts) (s ∷ v) h = cell_is_sound t s h.0

  pub is_pointer : (s : Scalar) → IsSound store s → IsPointer store (as_pointer s)
  is_pointer (Number n) h = tt
  is_pointer Null h = tt
  is_pointer Wild h = tt
  is_pointer (Inside object offset) h = h

-- ---- values of a type

module _ (p : Program) (store : List Object) where
  abbrev Of : Scalar → List CellType → Type 0
  Of s ts = AreOf store ts (s ∷ [])

  scalar_by : (t : CType) (s : Scalar) (of : Shape) → shape_of t ≡ of → IsOfShape store of s → IsOfType p store t (s ∷ [])
  scalar_by t s (shape.Integer kind) e h = let P : List CellType → Type 0 = Of s in subst P (sym (types_of_integer p t kind e)) (h, tt)
  scalar_by t s shape.Pointer e h = let u = types_of_pointer p t e in let P : List CellType → Type 0 = Of s in subst P (sym u.1) (h, tt)
  scalar_by t s _ e h = absurd h

  pub scalar_is : (t : CType) (s : Scalar) → IsOfShape store (shape_of t) s → IsOfType p store t (s ∷ [])
  scalar_is t s h = scalar_by t s (shape_of t) refl h

  converts_by : (t from : CType) (v : List Scalar) (to : Shape) → shape_of t ≡ to → ConvertsBy p to t from → IsOfType p store from v → AreOf store (types_of p t) (cells_as to v)
  converts_by t from v shape.Void e c h = let P : List CellType → Type 0 = λ ts. AreOf store ts [] in subst P (sym (types_of_void p t e)) tt
  converts_by t from v (shape.Integer kind) e c h = scalar_by t (Number (number_as kind (scalar_in v))) (shape.Integer kind) e (number_fits kind (scalar_in v))
  converts_by t from v shape.Pointer e c h = scalar_by t (as_pointer (scalar_in v)) shape.Pointer e (is_pointer store (scalar_in v) (value_is_sound store (types_of p from) v h))
  converts_by t from v _ e c h = let P : List CellType → Type 0 = λ ts. AreOf store ts v in subst P c h

  pub converts_to : (t from : CType) (v : List Scalar) → ConvertsTo p t from → IsOfType p store from v → IsOfType p store t (value_as t v)
  converts_to t from v c h = converts_by t from v (shape_of t) refl c h

  -- what a value of a scalar type is made of
  sound_by : (t : CType) (v : List Scalar) (to : Shape) → shape_of t ≡ to → IsScalarShape to → IsSound store (scalar_in v) → AreOf store (types_of p t) (cells_as to v)
  sound_by t v (shape.Integer kind) e k h = scalar_by t (Number (number_as kind (scalar_in v))) (shape.Integer kind) e (number_fits kind (scalar_in v))
  sound_by t v shape.Pointer e k h = scalar_by t (as_pointer (scalar_in v)) shape.Pointer e (is_pointer store (scalar_in v) h)
  sound_by t v _ e k h = absurd k

  pub sound_is : (t : CType) (v : List Scalar) → IsScalarShape (shape_of t) → IsSound store (scalar_in v) → IsOfType p store t (value_as t v)
  sound_is t v k h = sound_by t v (shape_of t) refl k h

-- a scalar of a shape
pub shaped_is_sound : (store : List Object) (of : Shape) (s : Scalar) → IsOfShape store of s → IsSound store s
shaped_is_sound store (shape.Integer kind) s h = cell_is_sound store (cell.Integer kind) s h
shaped_is_sound store shape.Pointer s h = cell_is_sound store (cell.Pointer void) s h
shaped_is_sound store _ s h = absurd h
