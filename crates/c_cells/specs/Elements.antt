-- Types that are no arrays.
use Rattle.std.specs.Prelude.{List, [], ◌∷◌}
use Rattle.c_kinds.specs.declared.types.Derivation.{Derivation}
use Rattle.c_kinds.specs.declared.types.Derivation.TheVariants.{Pointer, Array}

abbrev pub IsElement : List Derivation → Type 0
IsElement [] = Unit {0}
IsElement (Pointer is_const ∷ rest) = Unit {0}
IsElement (Array length ∷ rest) = ⊥
