-- Chains of definitions that come back to a name (C11 6.10.3.4p2), and the marks that are kept of them.
use Rattle.std.specs.Prelude.{◌≡◌, ℕ, zero, suc, ◌+◌, ◌<◌, Bool, true, false, List, [], ◌∷◌, ◌++◌, length, Option, Some, None, slice_index_or, ◌⊎◌}
use Rattle.std.specs.List.{list_any}
use Rattle.std.specs.Option.{is_some}
use Rattle.std.specs.Str.{bytes_eq}
use Rattle.c_macros.specs.Chains.{Definitions, IsNoWord, Edge, name_at}

-- after names that were met, x is replaced n times by names that weren't, and then is z, which was
abbrev pub ComesBack : Definitions → ℕ → List (List ℕ) → List ℕ → List ℕ → Type 0
ComesBack D zero met x z = (x ≡ z) × IsNoWord x × (list_any (bytes_eq x) met ≡ true)
ComesBack D (suc n) met x z = (list_any (bytes_eq x) met ≡ false) × ((y : List ℕ) × Edge D x y × ComesBack D n (met ++ x ∷ []) y z)

-- z is the first name that is met twice from x on
abbrev pub Returns : Definitions → List ℕ → List ℕ → Type 0
Returns D x z = (n : ℕ) × ComesBack D n [] x z

-- the definition at i comes back to the name of the one at j
pub record IsReturn (D : Definitions) (i j : ℕ) : Type 0 where
  pub within : j < length D
  pub returns : Returns D (name_at D i) (name_at D j)

-- what is kept of the definition at i
abbrev pub mark_at : List (Option ℕ) → ℕ → Option ℕ
mark_at marks i = slice_index_or marks i None

abbrev pub is_marked : List (Option ℕ) → ℕ → Bool
is_marked marks i = is_some (mark_at marks i)

-- each mark is right
pub record AreReturns (D : Definitions) (marks : List (Option ℕ)) : Type 0 where
  pub count : length marks ≡ length D
  pub ends : (i j : ℕ) → i < length D → mark_at marks i ≡ Some j → IsReturn D i j

-- a marked definition is replaced by a marked one
abbrev pub AreClosed : Definitions → List (Option ℕ) → Type 0
AreClosed D marks = (i : ℕ) → i < length D → is_marked marks i ≡ true → (j : ℕ) × (j < length D) × Edge D (name_at D i) (name_at D j) × (is_marked marks j ≡ true)

-- the same, but that the definition at last may still be without a mark
abbrev pub AreClosedTo : Definitions → List (Option ℕ) → ℕ → Type 0
AreClosedTo D marks last =
    (i : ℕ) → i < length D → is_marked marks i ≡ true → (j : ℕ) × (j < length D) × Edge D (name_at D i) (name_at D j) × ((is_marked marks j ≡ true) ⊎ (j ≡ last))

-- the marks that are kept are right, and closed
pub record IsMarked (D : Definitions) (marks : List (Option ℕ)) : Type 0 where
  pub are_returns : AreReturns D marks
  pub closed : AreClosed D marks

-- each of these definitions is replaced by the next, and the last by the one at this place
abbrev pub IsTrail : Definitions → List ℕ → ℕ → Type 0
IsTrail D over at =
    (k : ℕ) → k < length over → (slice_index_or over k at < length D) × Edge D (name_at D (slice_index_or over k at)) (name_at D (slice_index_or over (k + 1) at))

-- a trail from the first definition to this one
pub record IsWay (D : Definitions) (first : ℕ) (over : List ℕ) (at : ℕ) : Type 0 where
  pub trail : IsTrail D over at
  pub begins : slice_index_or over 0 at ≡ first
  pub within : at < length D
  pub no_word : IsNoWord (name_at D at)
