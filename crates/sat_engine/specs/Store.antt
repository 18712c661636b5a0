use Rattle.std.specs.Prelude.{ℕ, ◌≡◌, ◌+◌, ◌-◌, ◌<◌, ◌≤◌, List, map, take, drop, length, slice_index_or}
use Rattle.std.specs.List.{All}
use Rattle.sat_engine.specs.declared.store.Head.{Head}
use Rattle.sat_engine.specs.Tag.{first_tag}

-- the literals of one clause
abbrev pub clause_of : List ℕ → Head → List ℕ
clause_of lits h = take (h.end - h.start) (drop h.start lits)

abbrev pub clauses_of : List ℕ → List Head → List (List ℕ)
clauses_of lits heads = map (clause_of lits) heads

abbrev pub HeadsFit : List ℕ → List Head → Type 0
HeadsFit lits heads = All (λ h. (h.start ≤ h.end) × (h.end ≤ length lits)) heads

abbrev pub none_head : Head
none_head = record { start = 0; end = 0 }

-- the literals of clause n stand after a word at p that says how many they are, and the number
pub record IsTold (words : List ℕ) (heads : List Head) (p n : ℕ) : Type 0 where
  pub within : n < length heads
  pub start : (slice_index_or heads n none_head).start ≡ p + 2
  pub end : (slice_index_or heads n none_head).end ≡ p + 2 + (slice_index_or words p 0 - first_tag)

-- the clauses fit into the words, and a word that begins a clause tells of one
pub record IsLaid (words : List ℕ) (heads : List Head) : Type 0 where
  pub fit : HeadsFit words heads
  pub told : (p : ℕ) → first_tag ≤ slice_index_or words p 0 → IsTold words heads p (slice_index_or words (p + 1) 0)
