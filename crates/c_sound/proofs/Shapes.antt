-- Types of values: qualifiers change neither the outermost part of a type nor its cells. Sections are those of ISO/IEC 9899:2011.
use Rattle.std.specs.Prelude.{IsTrue}
use Rattle.std.proofs.Common.{length, ◌≡◌, ℕ, nat_eq, Bool, true, false, not, cond, List, [], ◌∷◌, refl, ap, sym, subst, ◌∙◌}
use Rattle.std.proofs.lemmas.Bool.{eqb-true}
use Rattle.c_kinds.specs.declared.types.Base.{Base}
use Rattle.c_kinds.specs.declared.types.Base.TheVariants as base
use Rattle.c_kinds.specs.declared.types.CellType.{CellType}
use Rattle.c_kinds.specs.declared.types.CType.{CType}
use Rattle.c_kinds.specs.declared.types.Derivation.{Derivation}
use Rattle.c_kinds.specs.declared.types.Derivation.TheVariants.{Pointer, Array}
use Rattle.c_kinds.specs.declared.types.Shape.{Shape}
use Rattle.c_kinds.specs.declared.types.Shape.TheVariants as shape
use Rattle.c_kinds.specs.declared.typed.Fixed.TheVariants.{Varies}
use Rattle.c_kinds.specs.declared.typed.Typed.{Typed}
use Rattle.c_kinds.specs.Casts.{fits_by, fits}
use Rattle.c_kinds.specs.Layouts.{cell_types_by, repeated, struct_cell_types}
use Rattle.c_kinds.specs.Types.{shape_by, shape_of, inner, pointer_to, is_array_shape, is_array, is_void_shape, marked, ends_in_base, with_const, unqualified}
use Rattle.c_kinds.specs.Values.{result, converted_value}
use Rattle.c_rules.specs.declared.program.Program.{Program}
use Rattle.c_model.specs.Heads.{array_wait_by}
use Rattle.c_model.specs.Programs.{types_of}
use Rattle.c_heads.specs.Typed.{ConvertsBy, ConvertsTo}
use Rattle.c_heads.specs.Waiting.{type_given}

-- ---- qualifiers

marked_shape : (ds : List Derivation) (b : Base) (c : Bool) → shape_by (marked ds c) b ≡ shape_by ds b
marked_shape [] b c = refl
marked_shape (Pointer old ∷ rest) b c = refl
marked_shape (Array n ∷ rest) b c = refl

marked_cells : (of_struct : ℕ → List CellType) (ds : List Derivation) (b : Base) (c k : Bool) → cell_types_by of_struct (marked ds c) b (cond (ends_in_base ds) c k) ≡ cell_types_by of_struct ds b k
marked_cells of_struct [] base.Void c k = refl
marked_cells of_struct [] (base.Integer kind) c k = refl
marked_cells of_struct [] (base.Struct n) c k = refl
marked_cells of_struct [] (base.Function n) c k = refl
marked_cells of_struct (Pointer old ∷ rest) b c k = refl
marked_cells of_struct (Array n ∷ rest) b c k = ap (λ ts. repeated n ts) (marked_cells of_struct rest b c k)

pub shape_with : (c : Bool) (t : CType) → shape_of (with_const c t) ≡ shape_of t
shape_with c t = marked_shape t.derived t.base c

pub types_with : (p : Program) (c : Bool) (t : CType) → types_of p (with_const c t) ≡ types_of p t
types_with p c t = marked_cells _ t.derived t.base c t.is_const

-- ---- values

-- the type of a value: an array has become a pointer to its first element (6.3.2.1p3)
abbrev pub decayed : CType → CType
decayed t = type_given (array_wait_by (shape_of t) t)

module _ (w : Typed) where
  plain_shape : (b : Bool) → shape_of (cond b (result (unqualified w.ctype) Varies w.named_at w.ends_at) w).ctype ≡ shape_of w.ctype
  plain_shape true = shape_with false w.ctype
  plain_shape false = refl

  plain_types : (p : Program) (b : Bool) → types_of p (cond b (result (unqualified w.ctype) Varies w.named_at w.ends_at) w).ctype ≡ types_of p w.ctype
  plain_types p true = types_with p false w.ctype
  plain_types p false = refl

  shape_by_shape : (s : Shape)
      → shape_of (cond (is_array_shape s) (result (pointer_to (inner w.ctype)) w.fixed w.named_at w.ends_at) (cond w.is_place (result (unqualified w.ctype) Varies w.named_at w.ends_at) w)).ctype
      ≡ shape_of (type_given (array_wait_by s w.ctype))
  shape_by_shape (shape.Array n) = refl
  shape_by_shape s = plain_shape w.is_place

  types_by_shape : (p : Program) (s : Shape)
      → types_of p (cond (is_array_shape s) (result (pointer_to (inner w.ctype)) w.fixed w.named_at w.ends_at) (cond w.is_place (result (unqualified w.ctype) Varies w.named_at w.ends_at) w)).ctype
      ≡ types_of p (type_given (array_wait_by s w.ctype))
  types_by_shape p (shape.Array n) = refl
  types_by_shape p s = plain_types p w.is_place

  pub value_shape : shape_of (converted_value w).ctype ≡ shape_of (decayed w.ctype)
  value_shape = shape_by_shape (shape_of w.ctype)

  pub value_types : (p : Program) → types_of p (converted_value w).ctype ≡ types_of p (decayed w.ctype)
  value_types p = types_by_shape p (shape_of w.ctype)

-- a type of values is no array
decayed_by : (t : CType) (s : Shape) → shape_of t ≡ s → is_array (type_given (array_wait_by s t)) ≡ false
decayed_by t (shape.Array n) q = refl
decayed_by t shape.Void q = ap is_array_shape q
decayed_by t (shape.Integer kind) q = ap is_array_shape q
decayed_by t shape.Pointer q = ap is_array_shape q
decayed_by t (shape.Struct n) q = ap is_array_shape q
decayed_by t (shape.Function n) q = ap is_array_shape q

pub decayed_no_array : (t : CType) → is_array (decayed t) ≡ false
decayed_no_array t = decayed_by t (shape_of t) refl

pub value_no_array : (w : Typed) → is_array (converted_value w).ctype ≡ false
value_no_array w = ap is_array_shape (value_shape w) ∙ decayed_no_array w.ctype

-- ---- conversions

struct_by : (of_struct : ℕ → List CellType) (is_const : Bool) (n : ℕ) (ds : List Derivation) (b : Base) → shape_by ds b ≡ shape.Struct n → cell_types_by of_struct ds b is_const ≡ of_struct n
struct_by of_struct is_const n [] (base.Struct m) e = cc
struct_by of_struct is_const n [] base.Void e = absurd (cc)
struct_by of_struct is_const n [] (base.Integer kind) e = absurd (cc)
struct_by of_struct is_const n [] (base.Function m) e = absurd (cc)
struct_by of_struct is_const n (Pointer c ∷ rest) b e = absurd (cc)
struct_by of_struct is_const n (Array m ∷ rest) b e = absurd (cc)

pub types_of_struct : (p : Program) (t : CType) (n : ℕ) → shape_of t ≡ shape.Struct n → types_of p t ≡ struct_cell_types p.names.structs (length p.names.structs) n
types_of_struct p t n e = struct_by _ t.is_const n t.derived t.base e

-- structs of one number have one form
pub same_structs : (p : Program) (t from : CType) (n m : ℕ) → shape_of t ≡ shape.Struct n → shape_of from ≡ shape.Struct m → nat_eq n m ≡ true → types_of p from ≡ types_of p t
same_structs p t from n m e f q =
    let same : n ≡ m = eqb-true n m q in
    types_of_struct p from m f ∙ ap (struct_cell_types p.names.structs (length p.names.structs)) (sym same) ∙ sym (types_of_struct p t n e)

fits_to : (p : Program) (t into : CType) (v : Typed) (s other : Shape) → shape_of t ≡ s → shape_of v.ctype ≡ other → fits_by s other t v ≡ true → types_of p into ≡ types_of p t → (from : CType) → types_of p from ≡ types_of p v.ctype
    → ConvertsBy p s into from
fits_to p t into v shape.Void other e f h i from j = tt
fits_to p t into v (shape.Integer kind) other e f h i from j = tt
fits_to p t into v shape.Pointer other e f h i from j = tt
fits_to p t into v (shape.Struct n) (shape.Struct m) e f h i from j = j ∙ same_structs p t v.ctype n m e f h ∙ sym i
fits_to p t into v (shape.Struct n) _ e f h i from j = absurd (cc)
fits_to p t into v (shape.Array n) other e f h i from j = absurd (cc)
fits_to p t into v (shape.Function n) other e f h i from j = absurd (cc)

-- what may be assigned to a type converts to it, qualified or not (6.5.16.1p1, p2)
pub fits_converts : (p : Program) (t into : CType) (v : Typed) → fits t v ≡ true → shape_of into ≡ shape_of t → types_of p into ≡ types_of p t → (from : CType) → types_of p from ≡ types_of p v.ctype → ConvertsTo p into from
fits_converts p t into v h s i from j =
    let P : Shape → Type 0 = λ z. ConvertsBy p z into from in
    subst P (sym s) (fits_to p t into v (shape_of t) (shape_of v.ctype) refl refl h i from j)

void_by : (p : Program) (t from : CType) (s : Shape) → is_void_shape s ≡ true → ConvertsBy p s t from
void_by p t from shape.Void h = tt
void_by p t from _ h = absurd (cc)

pub void_converts : (p : Program) (t from : CType) → is_void_shape (shape_of t) ≡ true → ConvertsTo p t from
void_converts p t from h = void_by p t from (shape_of t) h

-- ---- types to which everything converts

abbrev pub IsPlain : Shape → Type 0
IsPlain shape.Void = Unit {0}
IsPlain (shape.Integer kind) = Unit {0}
IsPlain shape.Pointer = Unit {0}
IsPlain _ = ⊥

plain_by : (p : Program) (t from : CType) (s : Shape) → IsPlain s → ConvertsBy p s t from
plain_by p t from shape.Void h = tt
plain_by p t from (shape.Integer kind) h = tt
plain_by p t from shape.Pointer h = tt
plain_by p t from _ h = absurd h

pub plain_converts : (p : Program) (t from : CType) → IsPlain (shape_of t) → ConvertsTo p t from
plain_converts p t from h = plain_by p t from (shape_of t) h

plain_is_result : (s : Shape) → IsPlain s → IsTrue (not (is_array_shape s))
plain_is_result shape.Void h = refl
plain_is_result (shape.Integer kind) h = refl
plain_is_result shape.Pointer h = refl
plain_is_result _ h = absurd h

pub plain_result : (t : CType) → IsPlain (shape_of t) → IsTrue (not (is_array t))
plain_result t h = plain_is_result (shape_of t) h

pub no_array_result : (t : CType) → is_array t ≡ false → IsTrue (not (is_array t))
no_array_result t e = let P : Bool → Type 0 = λ b. IsTrue (not b) in subst P (sym e) refl

-- ---- shapes of values

abbrev pub decayed_shape : Shape → Shape
decayed_shape (shape.Array n) = shape.Pointer
decayed_shape s = s

shape_decays : (t : CType) (s : Shape) → shape_of t ≡ s → shape_of (type_given (array_wait_by s t)) ≡ decayed_shape s
shape_decays t (shape.Array n) q = refl
shape_decays t shape.Void q = q
shape_decays t (shape.Integer kind) q = q
shape_decays t shape.Pointer q = q
shape_decays t (shape.Struct n) q = q
shape_decays t (shape.Function n) q = q

pub decays : (t : CType) → shape_of (decayed t) ≡ decayed_shape (shape_of t)
decays t = shape_decays t (shape_of t) refl

-- ---- what pointers point to

inner_by : (p : Program) (c k : Bool) (ds : List Derivation) (b : Base) → shape_by ds b ≡ shape.Pointer → inner (with_const c (record { derived = ds; base = b; is_const = k })) ≡ inner (record { derived = ds; base = b; is_const = k })
inner_by p c k (Pointer old ∷ rest) b e = refl
inner_by p c k (Array n ∷ rest) b e = absurd (cc)
inner_by p c k [] base.Void e = absurd (cc)
inner_by p c k [] (base.Integer kind) e = absurd (cc)
inner_by p c k [] (base.Struct n) e = absurd (cc)
inner_by p c k [] (base.Function n) e = absurd (cc)

module _ (p : Program) (w : Typed) where
  inner_plain : (b : Bool) → shape_of (cond b (result (unqualified w.ctype) Varies w.named_at w.ends_at) w).ctype ≡ shape.Pointer → inner (cond b (result (unqualified w.ctype) Varies w.named_at w.ends_at) w).ctype ≡ inner w.ctype
  inner_plain true e = inner_by p false w.ctype.is_const w.ctype.derived w.ctype.base (sym (shape_with false w.ctype) ∙ e)
  inner_plain false e = refl

  inner_shape : (s : Shape) → shape_of (cond (is_array_shape s) (result (pointer_to (inner w.ctype)) w.fixed w.named_at w.ends_at) (cond w.is_place (result (unqualified w.ctype) Varies w.named_at w.ends_at) w)).ctype ≡ shape.Pointer
      → inner (cond (is_array_shape s) (result (pointer_to (inner w.ctype)) w.fixed w.named_at w.ends_at) (cond w.is_place (result (unqualified w.ctype) Varies w.named_at w.ends_at) w)).ctype ≡ inner w.ctype
  inner_shape (shape.Array n) e = refl
  inner_shape s e = inner_plain w.is_place e

  -- an array's value points to its elements
  pub value_inner : shape_of (converted_value w).ctype ≡ shape.Pointer → inner (converted_value w).ctype ≡ inner w.ctype
  value_inner e = inner_shape (shape_of w.ctype) e

-- ---- values are no places

place_by : (a : Bool) (w : Typed) (b : Bool) → w.is_place ≡ b → (cond a (result (pointer_to (inner w.ctype)) w.fixed w.named_at w.ends_at) (cond b (result (unqualified w.ctype) Varies w.named_at w.ends_at) w)).is_place ≡ false
place_by true w b q = refl
place_by false w true q = refl
place_by false w false q = q

pub value_no_place : (w : Typed) → (converted_value w).is_place ≡ false
value_no_place w = place_by (is_array w.ctype) w w.is_place refl
