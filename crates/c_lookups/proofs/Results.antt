-- The shape of a type doesn't depend on its qualifiers.
use Rattle.std.proofs.Common.{◌≡◌, Bool, [], ◌∷◌, refl}
use Rattle.c_kinds.specs.declared.types.Derivation.TheVariants.{Pointer, Array}
use Rattle.c_kinds.specs.declared.types.CType.{CType}
use Rattle.c_kinds.specs.Types.{shape_by, shape_of, marked, unqualified}
use Rattle.c_kinds.specs.declared.types.Base.{Base}
use Rattle.c_kinds.specs.declared.types.Derivation.{Derivation}
use Rattle.std.specs.Prelude.{List}

marked_shape : (ds : List Derivation) (c : Bool) (b : Base) → shape_by (marked ds c) b ≡ shape_by ds b
marked_shape [] c b = refl
marked_shape (Pointer old ∷ rest) c b = refl
marked_shape (Array length ∷ rest) c b = refl

pub same_shape : (t : CType) → shape_of (unqualified t) ≡ shape_of t
same_shape t = marked_shape t.derived _ t.base
