-- Parts of the definitions, up to where they look at a part of a tree.
use Rattle.std.specs.Prelude.{ℕ, Bool, not, ◌&&◌, List, [], ◌∷◌, ◌++◌, Option, Some, None}
use Rattle.c_kinds.specs.declared.types.CType.{CType}
use Rattle.c_rules.specs.Scopes.{State, note_if}
use Rattle.c_rules.specs.Declarators.{Site, holds, is_too_large, array_of, is_no_element, if_small}

-- a declared array of more cells than an object may have
abbrev pub is_large_array : Site → Option ℕ → Option CType → State → Bool
is_large_array site n t st = not site.is_type_name && holds (is_too_large st) (array_of n t)

-- the state and the type with which the declarator in an array is looked at; `at` is the `[`
abbrev pub array_state : Site → ℕ → Option ℕ → Option CType → State → State
array_state site at n t st = note_if (is_large_array site n t st) at 8 (note_if (holds is_no_element t) site.first 24 st)

abbrev pub array_type : Site → Option ℕ → Option CType → State → Option CType
array_type site n t st = if_small (is_large_array site n t st) (array_of n t)

-- types, and those that follow if all are known
abbrev pub prepended : List CType → Option (List CType) → Option (List CType)
prepended ts None = None
prepended ts (Some us) = Some (ts ++ us)
