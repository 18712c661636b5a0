-- What the declarations of each name say. Sections are those of ISO/IEC 9899:2011.
use Rattle.std.specs.Prelude.{◌≡◌, ℕ, Bool, List, [], ◌∷◌, if◌then◌else◌}
use Rattle.std.specs.HashMap.{HashMap, get_by}
use Rattle.std.specs.List.{flat_map}
use Rattle.std.specs.Option.{unwrap_or}
use Rattle.std.specs.Str.{bytes_eq}
use Rattle.std.specs.declared.vec.Vec.{Vec}
use Rattle.c_tree.specs.declared.scope.Entry.{Entry}

-- for each declaration of a name whether it is a typedef name there (6.7.8), the newest first
abbrev pub meanings : List Entry → List ℕ → List Bool
meanings [] name = []
meanings (entry ∷ entries) name = if bytes_eq entry.name name then entry.is_type ∷ meanings entries name else meanings entries name

-- the declarations of all blocks, the newest first (6.2.1)
abbrev pub entries_of : List (List Entry) → List Entry
entries_of blocks = flat_map (λ block. block) blocks

module _ {X S : Type 0} where
  -- what a map has at a name
  abbrev pub meanings_at : HashMap (Vec ℕ X) (List Bool) S → List ℕ → List Bool
  meanings_at map name = unwrap_or (get_by (λ key. bytes_eq name key.items) map) []

  -- the map has at each name what its declarations say
  abbrev pub HasMeanings : List Entry → HashMap (Vec ℕ X) (List Bool) S → Type 0
  HasMeanings entries map = (name : List ℕ) → meanings_at map name ≡ meanings entries name
