-- Declared objects, by number.
use Rattle.std.proofs.Common.{◌≡◌, ℕ, zero, suc, List, [], ◌∷◌, Option, Some, None, refl}
use Rattle.std.specs.Prelude.{slice_get}
use Rattle.c_kinds.specs.declared.types.CType.{CType}
use Rattle.c_kinds.specs.Layouts.{flat}
use Rattle.c_rules.specs.declared.names.Object.{Object}
use Rattle.c_rules.specs.Typing.{object_types}

abbrev pub type_in : Option Object → Option CType
type_in None = None
type_in (Some o) = o.ctype

pub object_type_at : (os : List Object) (n : ℕ) → flat (slice_get (object_types os) n) ≡ type_in (slice_get os n)
object_type_at [] n = refl
object_type_at (o ∷ os) zero = refl
object_type_at (o ∷ os) (suc n) = object_type_at os n
