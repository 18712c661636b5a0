-- Flags by number.
use Rattle.std.specs.Prelude.{ℕ, Bool, false, List, slice_index_or}

-- a flag that isn't there isn't set
abbrev pub flag_at : List Bool → ℕ → Bool
flag_at flags n = slice_index_or flags n false
