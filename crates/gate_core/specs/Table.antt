-- Tables of gates. The gate at a place gives the variable of that number its truth.
use Rattle.std.specs.Prelude.{ℕ, ◌≡◌, ◌+◌, ◌<◌, ◌≤◌, Bool, true, false, ◌&&◌, List, [], ◌∷◌, ◌++◌, ◌⊎◌, length, take, slice_index_or}
use Rattle.sat_clause.specs.Literals.{variable_of, is_complement_of, is_true, AgreeBelow}
use Rattle.kv_num.specs.Bits.{differ}
use Rattle.gate_core.specs.declared.gate.Gate.{Gate}
use Rattle.gate_core.specs.declared.gate.Gate.TheVariants.{False, Input, And, Xor}

-- the gate at a place
abbrev pub gate_at : List Gate → ℕ → Gate
gate_at gs i = slice_index_or gs i False

-- the truth that a gate gives its variable i, where A gives the truth of all variables
abbrev pub gate_value : (ℕ → Bool) → ℕ → Gate → Bool
gate_value A i False = false
gate_value A i (Input n) = A i
gate_value A i (And a b) = is_true A a && is_true A b
gate_value A i (Xor a b) = differ (is_true A a) (is_true A b)

-- A gives each variable of the table the truth that its gate gives it
pub record Agrees (A : ℕ → Bool) (gs : List Gate) : Type 0 where
  pub at : (i : ℕ) → i < length gs → A i ≡ gate_value A i (gate_at gs i)

-- a literal of the table
abbrev pub IsLitOf : List Gate → ℕ → Type 0
IsLitOf gs l = variable_of l < length gs

-- ---- what every table keeps

abbrev pub IsVarying : Gate → Type 0
IsVarying False = ⊥
IsVarying _ = Unit {0}

-- an operand of the gate at i: a literal of an earlier gate, and not of the constant
pub record IsOperand (gs : List Gate) (i l : ℕ) : Type 0 where
  pub earlier : variable_of l < i
  pub varying : IsVarying (gate_at gs (variable_of l))

-- a gate that may stand at i: its operands are varying literals of two variables, the lower one first, and those of
-- an exclusive or are no complements
abbrev pub IsGateOf : List Gate → ℕ → Gate → Type 0
IsGateOf gs i False = Unit {0}
IsGateOf gs i (Input n) = n ≡ i
IsGateOf gs i (And a b) = IsOperand gs i a × IsOperand gs i b × (variable_of a < variable_of b)
IsGateOf gs i (Xor a b) = IsOperand gs i a × IsOperand gs i b × (variable_of a < variable_of b) × (is_complement_of a ≡ false) × (is_complement_of b ≡ false)

pub record IsTable (gs : List Gate) : Type 0 where
  pub gates : (i : ℕ) → i < length gs → IsGateOf gs i (gate_at gs i)
  pub distinct : (i j : ℕ) → i < j → j < length gs → gate_at gs i ≡ gate_at gs j → ⊥

-- entries keep their places, and so their truths: what agrees with the later table agrees with the earlier
pub record Grows (old new : List Gate) : Type 0 where
  pub longer : length old ≤ length new
  pub front : take (length old) new ≡ old
  pub kept : (A : ℕ → Bool) → Agrees A new → Agrees A old

-- a gate is placed where it stands already, or at the table's end
abbrev pub Places : List Gate → Gate → List Gate → Type 0
Places old g new = (new ≡ old) ⊎ (new ≡ old ++ g ∷ [])

-- ---- patterns of the inputs

abbrev pub IsInput : Gate → Type 0
IsInput (Input n) = Unit {0}
IsInput _ = ⊥

-- A gives the inputs of the table the truths that P gives them
pub record OnInputs (gs : List Gate) (P A : ℕ → Bool) : Type 0 where
  pub at : (i : ℕ) → i < length gs → IsInput (gate_at gs i) → A i ≡ P i

-- each pattern of the inputs has truths that agree with the table
abbrev pub HasTruths : List Gate → Type 0
HasTruths gs = (P : ℕ → Bool) → (A : ℕ → Bool) × Agrees A gs × OnInputs gs P A

-- and only those
abbrev pub HasOneTruth : List Gate → Type 0
HasOneTruth gs = (P A B : ℕ → Bool) → Agrees A gs → Agrees B gs → OnInputs gs P A → OnInputs gs P B → AgreeBelow (length gs) A B

-- the places of the inputs, each of which is named by its own
abbrev pub inputs_of : List Gate → List ℕ
inputs_of [] = []
inputs_of (Input n ∷ gs) = n ∷ inputs_of gs
inputs_of (_ ∷ gs) = inputs_of gs
