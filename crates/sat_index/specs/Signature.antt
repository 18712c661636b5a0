-- Words in which each literal of a clause unsets a bit.
use Rattle.std.specs.Prelude.{ℕ, ◌≡◌, ◌%◌, ◌^◌, ◌*◌, ◌-◌, List}
use Rattle.std.specs.List.{Contains}
use Rattle.std.specs.Int.Bits.{bit_and, bit_xor}
use Rattle.sat_index.specs.declared.index.Occurrence.{Occurrence}

abbrev pub all_set : ℕ
all_set = 2 ^ 128 - 1

-- the word with one bit unset that the literal says
abbrev pub mask_of : ℕ → ℕ
mask_of l = bit_xor all_set (1 * 2 ^ (l % 128) % 2 ^ 128)

-- the word has the literal's bit unset
abbrev pub Lacks : ℕ → ℕ → Type 0
Lacks s l = bit_and s (mask_of l) ≡ s

-- the bits unset in s are unset in t
abbrev pub IsWithin : ℕ → ℕ → Type 0
IsWithin s t = bit_and s t ≡ t

-- the bits unset in the word are unset in the signature of each occurrence
abbrev pub AreWithin : ℕ → List Occurrence → Type 0
AreWithin joint occurrences = (e : Occurrence) → Contains occurrences e → IsWithin joint e.signature

-- the bits unset are those of the clause's literals: each of them is, and no other
pub record IsSignature (c : List ℕ) (s : ℕ) : Type 0 where
  pub whole : IsWithin all_set s
  pub each : (l : ℕ) → Contains c l → Lacks s l
  pub least : (t : ℕ) → IsWithin all_set t → ((l : ℕ) → Contains c l → Lacks t l) → IsWithin s t
