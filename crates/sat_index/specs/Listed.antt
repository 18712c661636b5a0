use Rattle.std.specs.Prelude.{ℕ, ◌≡◌, ◌<◌, List, [], length, slice_index_or, Bool, Option, None, Some}
use Rattle.std.specs.List.{Contains, flat_map, insert}
use Rattle.sat_engine.specs.Trail.{IsSet}
use Rattle.sat_index.specs.Signature.{IsSignature}
use Rattle.sat_index.specs.declared.bucket.Bucket.{Bucket}
use Rattle.sat_index.specs.declared.index.Occurrence.{Occurrence}
use Rattle.sat_clause.specs.Propagation.{clause_at, Includes}

-- the occurrences of the buckets, one after another
abbrev pub occurrences_of : List Bucket → List Occurrence
occurrences_of buckets = flat_map (λ bucket. bucket.occurrences.items) buckets

-- a list is another after an occurrence was inserted at some place: what there was keeps its order
abbrev pub IsPut : List Occurrence → Occurrence → List Occurrence → Type 0
IsPut before n after = (place : ℕ) × (after ≡ insert before place n)

-- the occurrence has a clause's number and its signature
pub record IsOccurrence (F : List (List ℕ)) (i : ℕ) (e : Occurrence) : Type 0 where
  pub number : e.number ≡ i
  pub signature : IsSignature (clause_at F i) e.signature

-- a list has an occurrence of the clause
abbrev pub IsListed : List (List ℕ) → List Occurrence → ℕ → Type 0
IsListed F occurrences i = (e : Occurrence) × Contains occurrences e × IsOccurrence F i e

-- each clause is listed under one of its literals
abbrev pub IsIndexed : List (List ℕ) → List (List Occurrence) → Type 0
IsIndexed F lists = (i : ℕ) → i < length F → (l : ℕ) × Contains (clause_at F i) l × IsListed F (slice_index_or lists l []) i

-- the clause of the occurrence, where it is a clause's, has a literal that isn't flagged
abbrev pub IsPassed : List (List ℕ) → List Bool → Occurrence → Type 0
IsPassed F flags e = (i : ℕ) → i < length F → IsOccurrence F i e → ((m : ℕ) → Contains (clause_at F i) m → IsSet flags m) → ⊥

-- no clause that is listed has all its literals flagged
abbrev pub NoneFlagged : List (List ℕ) → List Occurrence → List Bool → Type 0
NoneFlagged F occurrences flags = (i : ℕ) → i < length F → IsListed F occurrences i → ((m : ℕ) → Contains (clause_at F i) m → IsSet flags m) → ⊥

-- a clause of F that c contains, or none
abbrev pub IsEarlier : List (List ℕ) → List ℕ → Option ℕ → Type 0
IsEarlier F c None = (i : ℕ) → i < length F → Includes c (clause_at F i) → ⊥
IsEarlier F c (Some i) = (i < length F) × Includes c (clause_at F i)
