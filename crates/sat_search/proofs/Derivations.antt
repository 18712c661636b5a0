-- More literals, or one more clause, keep what propagation sets true.
use Rattle.std.proofs.Common.{ℕ, ◌++◌, List, [], ◌∷◌, refl}
use Rattle.std.specs.List.{Contains}
use Rattle.sat_clause.specs.Propagation.{Derived}
use Rattle.sat_clause.proofs.Propagation.{Derived-more, HasAll-append}

pub Derived-wider : (F : List (List ℕ)) (A B : List ℕ) → ((l : ℕ) → Contains A l → Contains B l) → (l : ℕ) → Derived F A l → Derived F B l
Derived-wider F A B sub l d = Derived-more F F A B (λ i lt. (i, lt, refl)) sub l d

pub Derived-push : (F : List (List ℕ)) (c : List ℕ) (A B : List ℕ) → ((l : ℕ) → Contains A l → Contains B l) → (l : ℕ) → Derived F A l → Derived (F ++ c ∷ []) B l
Derived-push F c A B sub l d = Derived-more F (F ++ c ∷ []) A B (HasAll-append F (c ∷ [])) sub l d
