-- Where names stand in a list that has the newest first. The oldest stands at 0.
use Rattle.std.specs.Prelude.{◌≡◌, ℕ, List, [], ◌∷◌, length, Option, Some, None, if◌then◌else◌}
use Rattle.std.specs.HashMap.{HashMap, get_by}
use Rattle.std.specs.Option.{unwrap_or}
use Rattle.std.specs.Str.{bytes_eq}
use Rattle.std.specs.declared.vec.Vec.{Vec}
use Rattle.c_places.specs.declared.places.Places.{Places}

-- the places of a name, the newest first
abbrev pub places_of : List (List ℕ) → List ℕ → List ℕ
places_of [] name = []
places_of (first ∷ names) name = if bytes_eq first name then length names ∷ places_of names name else places_of names name

abbrev pub newest_place : List (List ℕ) → List ℕ → Option ℕ
newest_place [] name = None
newest_place (first ∷ names) name = if bytes_eq first name then Some (length names) else newest_place names name

-- what a map has at a name
abbrev pub places_at : {X S : Type 0} → HashMap (Vec ℕ X) (List ℕ) S → List ℕ → List ℕ
places_at map name = unwrap_or (get_by (λ key. bytes_eq name key.items) map) []

-- at each name its places are there
abbrev pub HasPlaces : List (List ℕ) → Places → Type 0
HasPlaces names places = (name : List ℕ) → places_at places.by_name name ≡ places_of names name
