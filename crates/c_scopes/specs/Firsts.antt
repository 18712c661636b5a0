-- Where keys stand first in a list of keys.
use Rattle.std.specs.Prelude.{◌≡◌, ℕ, List, Option}
use Rattle.std.specs.HashMap.{get_by}
use Rattle.std.specs.List.{position_from}
use Rattle.std.specs.Str.{bytes_eq}
use Rattle.c_scopes.specs.declared.first_places.FirstPlaces.{FirstPlaces}

abbrev pub first_place : List (List ℕ) → List ℕ → Option ℕ
first_place keys key = position_from (λ other. bytes_eq other key) 0 keys

-- each key has its first place
abbrev pub HasFirsts : List (List ℕ) → FirstPlaces → Type 0
HasFirsts keys places = (key : List ℕ) → get_by (λ other. bytes_eq key other.items) places.by_key ≡ first_place keys key
