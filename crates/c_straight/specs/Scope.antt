-- The names that are kept while items are looked at.
use Rattle.std.specs.Prelude.{ℕ, List, map, reverse}
use denote.Ref.{Bor}

-- the names in scope, the last declared first
abbrev pub in_scope : List (Bor (List ℕ)) → List (List ℕ)
in_scope names = reverse (map (λ name. name.now) names)
