-- Arrays in a type. Sections are those of ISO/IEC 9899:2011.
use Rattle.std.specs.Prelude.{ℕ, ◌+◌, List, [], ◌∷◌}
use Rattle.c_kinds.specs.declared.types.Derivation.{Derivation}
use Rattle.c_kinds.specs.declared.types.Derivation.TheVariants.{Pointer, Array}

-- how many arrays stand before the first pointer or the base (6.2.5p20)
abbrev pub leading_arrays : List Derivation → ℕ
leading_arrays [] = 0
leading_arrays (Pointer is_const ∷ rest) = 0
leading_arrays (Array length ∷ rest) = leading_arrays rest + 1
