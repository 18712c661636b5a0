-- What stands beside the names of a text.
use Rattle.std.specs.Prelude.{ℕ, ◌+◌, nat_eq, if◌then◌else◌, List, [], ◌∷◌, ◌++◌, length, map, Option, Some, None}
use Rattle.c_kinds.specs.declared.types.CType.{CType}
use Rattle.c_kinds.specs.declared.types.Signature.{Signature}
use Rattle.c_kinds.specs.declared.types.Struct.{Struct}
use Rattle.c_kinds.specs.Types.{signature_number}
use Rattle.c_kinds.specs.Layouts.{cell_count}

-- the names of the members of each struct
abbrev pub member_names : List Struct → List (List (List ℕ))
member_names structs = map (λ s. map (λ m. m.name) s.members) structs

-- how many cells there are with those of one more member
abbrev pub cells_after : List Struct → Option CType → ℕ → ℕ
cells_after structs None cells = cells
cells_after structs (Some t) cells = cells + cell_count structs t

-- signatures, with one more if it is new
abbrev pub with_signature : List Signature → Signature → List Signature
with_signature known g = if nat_eq (signature_number known g) (length known) then known ++ g ∷ [] else known
