-- Lists of numbers that stand for signatures: the same signatures have the same key, and others mostly another.
use Rattle.std.specs.Prelude.{ℕ, Bool, if◌then◌else◌, List, [], ◌∷◌, ◌++◌, map}
use Rattle.c_kinds.specs.declared.types.Derivation.{Derivation}
use Rattle.c_kinds.specs.declared.types.Derivation.TheVariants.{Pointer, Array}
use Rattle.c_kinds.specs.declared.types.Base.{Base}
use Rattle.c_kinds.specs.declared.types.Base.TheVariants as base
use Rattle.c_kinds.specs.declared.types.CType.{CType}
use Rattle.c_kinds.specs.declared.types.Signature.{Signature}
use Rattle.c_kinds.specs.Types.{index_of}

abbrev pub flag : Bool → ℕ
flag b = if b then 1 else 0

abbrev pub derivation_key : Derivation → ℕ
derivation_key (Pointer c) = flag c
derivation_key (Array n) = n

abbrev pub base_key : Base → List ℕ
base_key base.Void = 2 ∷ []
base_key (base.Integer k) = 3 ∷ index_of k ∷ []
base_key (base.Struct n) = 4 ∷ n ∷ []
base_key (base.Function n) = 5 ∷ n ∷ []

abbrev pub type_key : CType → List ℕ
type_key t = map derivation_key t.derived ++ (base_key t.base ++ flag t.is_const ∷ [])

abbrev pub types_key : List CType → List ℕ
types_key [] = []
types_key (t ∷ ts) = type_key t ++ types_key ts

abbrev pub signature_key : Signature → List ℕ
signature_key g = type_key g.result ++ (types_key g.parameters ++ flag g.is_variadic ∷ [])
