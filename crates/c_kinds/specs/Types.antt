-- Types, their parts and qualifiers, and which types are equal. Sections are those of ISO/IEC 9899:2011.
use Rattle.std.specs.Prelude.{ℕ, ◌+◌, nat_eq, Bool, true, false, not, ◌&&◌, ◌||◌, if◌then◌else◌, List, [], ◌∷◌, length}
use Rattle.kv_num.specs.declared.types.IntType.{IntType}
use Rattle.kv_num.specs.declared.types.IntType.TheVariants.{Bool as B, Char, SChar, UChar, Short, UShort, Int, UInt, Long32, ULong32, Long, ULong, LongLong, ULongLong}
use Rattle.c_kinds.specs.declared.types.Derivation.{Derivation}
use Rattle.c_kinds.specs.declared.types.Derivation.TheVariants.{Pointer, Array}
use Rattle.c_kinds.specs.declared.types.Base.{Base}
use Rattle.c_kinds.specs.declared.types.Base.TheVariants as base
use Rattle.c_kinds.specs.declared.types.Shape.{Shape}
use Rattle.c_kinds.specs.declared.types.Shape.TheVariants as shape
use Rattle.c_kinds.specs.declared.types.CType.{CType}
use Rattle.c_kinds.specs.declared.types.Signature.{Signature}

-- ---- types and their parts (6.2.5)

abbrev pub plain : Base → CType
plain b = record { derived = []; base = b; is_const = false }

abbrev pub integer : IntType → CType
integer kind = plain (base.Integer kind)

abbrev pub void : CType
void = plain base.Void

abbrev pub base_shape : Base → Shape
base_shape base.Void = shape.Void
base_shape (base.Integer kind) = shape.Integer kind
base_shape (base.Struct number) = shape.Struct number
base_shape (base.Function number) = shape.Function number

abbrev pub shape_by : List Derivation → Base → Shape
shape_by [] b = base_shape b
shape_by (Pointer is_const ∷ rest) b = shape.Pointer
shape_by (Array length ∷ rest) b = shape.Array length

-- the outermost part of a type
abbrev pub shape_of : CType → Shape
shape_of t = shape_by t.derived t.base

abbrev pub without_outermost : List Derivation → List Derivation
without_outermost [] = []
without_outermost (d ∷ rest) = rest

-- what a pointer points to, or an element of an array (6.2.5p20)
abbrev pub inner : CType → CType
inner t = record { derived = without_outermost t.derived; base = t.base; is_const = t.is_const }

abbrev pub derived_from : Derivation → CType → CType
derived_from d t = record { derived = d ∷ t.derived; base = t.base; is_const = t.is_const }

abbrev pub pointer_to : CType → CType
pointer_to t = derived_from (Pointer false) t

abbrev pub is_void_shape : Shape → Bool
is_void_shape shape.Void = true
is_void_shape _ = false

abbrev pub is_integer_shape : Shape → Bool
is_integer_shape (shape.Integer kind) = true
is_integer_shape _ = false

abbrev pub is_pointer_shape : Shape → Bool
is_pointer_shape shape.Pointer = true
is_pointer_shape _ = false

abbrev pub is_array_shape : Shape → Bool
is_array_shape (shape.Array length) = true
is_array_shape _ = false

abbrev pub is_struct_shape : Shape → Bool
is_struct_shape (shape.Struct number) = true
is_struct_shape _ = false

abbrev pub is_function_shape : Shape → Bool
is_function_shape (shape.Function number) = true
is_function_shape _ = false

abbrev pub is_void : CType → Bool
is_void t = is_void_shape (shape_of t)

abbrev pub is_integer : CType → Bool
is_integer t = is_integer_shape (shape_of t)

abbrev pub is_pointer : CType → Bool
is_pointer t = is_pointer_shape (shape_of t)

-- integers and pointers (6.2.5p21)
abbrev pub is_scalar : CType → Bool
is_scalar t = is_integer t || is_pointer t

abbrev pub is_array : CType → Bool
is_array t = is_array_shape (shape_of t)

abbrev pub is_struct : CType → Bool
is_struct t = is_struct_shape (shape_of t)

abbrev pub is_function : CType → Bool
is_function t = is_function_shape (shape_of t)

-- an array of arrays: as a value it would be a pointer to an array, which the accepted C leaves out
abbrev pub is_rows : CType → Bool
is_rows t = is_array t && is_array (inner t)

-- ---- qualifiers (6.7.3)

-- an array is const where its elements are (6.7.3p9)
abbrev pub const_by : List Derivation → Bool → Bool
const_by [] is_const = is_const
const_by (Pointer c ∷ rest) is_const = c
const_by (Array length ∷ rest) is_const = const_by rest is_const

-- whether an object of the type is const
abbrev pub const_of : CType → Bool
const_of t = const_by t.derived t.is_const

abbrev pub marked : List Derivation → Bool → List Derivation
marked [] c = []
marked (Pointer old ∷ rest) c = Pointer c ∷ rest
marked (Array length ∷ rest) c = Array length ∷ marked rest c

abbrev pub ends_in_base : List Derivation → Bool
ends_in_base [] = true
ends_in_base (Pointer c ∷ rest) = false
ends_in_base (Array length ∷ rest) = ends_in_base rest

-- the type, const or not; of an array, its elements
abbrev pub with_const : Bool → CType → CType
with_const c t = record { derived = marked t.derived c; base = t.base; is_const = if ends_in_base t.derived then c else t.is_const }

-- const besides, as a member of a const struct is (6.5.2.3p3)
abbrev pub also_const : Bool → CType → CType
also_const c t = if c then with_const true t else t

-- the type of a value has no qualifiers of its own (6.3.2.1p2)
abbrev pub unqualified : CType → CType
unqualified t = with_const false t

-- ---- equal types (6.2.7)

abbrev pub same_bool : Bool → Bool → Bool
same_bool true c = c
same_bool false c = not c

-- a number for each integer type, to compare them by
abbrev pub index_of : IntType → ℕ
index_of B = 0
index_of Char = 1
index_of SChar = 2
index_of UChar = 3
index_of Short = 4
index_of UShort = 5
index_of Int = 6
index_of UInt = 7
index_of Long32 = 8
index_of ULong32 = 9
index_of Long = 10
index_of ULong = 11
index_of LongLong = 12
index_of ULongLong = 13

abbrev pub same_integer : IntType → IntType → Bool
same_integer k l = nat_eq (index_of k) (index_of l)

-- strictly: with the qualifiers
abbrev pub same_derivation : Bool → Derivation → Derivation → Bool
same_derivation strictly (Pointer c) (Pointer d) = not strictly || same_bool c d
same_derivation strictly (Array n) (Array m) = nat_eq n m
same_derivation strictly _ _ = false

abbrev pub same_derivations : Bool → List Derivation → List Derivation → Bool
same_derivations strictly [] [] = true
same_derivations strictly (d ∷ ds) (e ∷ es) = same_derivation strictly d e && same_derivations strictly ds es
same_derivations strictly _ _ = false

abbrev pub same_base : Base → Base → Bool
same_base base.Void base.Void = true
same_base (base.Integer k) (base.Integer l) = same_integer k l
same_base (base.Struct n) (base.Struct m) = nat_eq n m
same_base (base.Function n) (base.Function m) = nat_eq n m
same_base _ _ = false

-- the same type, with its qualifiers
abbrev pub same : CType → CType → Bool
same t u = same_derivations true t.derived u.derived && (same_base t.base u.base && same_bool t.is_const u.is_const)

-- the same type but for qualifiers at all levels: pointers to such types fit each other
abbrev pub alike : CType → CType → Bool
alike t u = same_derivations false t.derived u.derived && same_base t.base u.base

abbrev pub same_all : List CType → List CType → Bool
same_all [] [] = true
same_all (t ∷ ts) (u ∷ us) = same t u && same_all ts us
same_all _ _ = false

abbrev pub same_signature : Signature → Signature → Bool
same_signature f g = same f.result g.result && (same_all f.parameters g.parameters && same_bool f.is_variadic g.is_variadic)

abbrev pub place_from : ℕ → List Signature → Signature → ℕ
place_from n [] g = n
place_from n (f ∷ fs) g = if same_signature f g then n else place_from (n + 1) fs g

-- the number of a signature: equal ones have one; a new one is next
abbrev pub signature_number : List Signature → Signature → ℕ
signature_number fs g = place_from 0 fs g
