-- Literals, clauses and their truth. A literal is twice its variable, plus 1 for the complement.
use Rattle.std.specs.Prelude.{ℕ, ◌≡◌, ◌+◌, ◌-◌, ◌*◌, ◌/◌, ◌%◌, ◌<◌, ◌==◌, Bool, true, false, not, if◌then◌else◌, List, [], ◌∷◌, map, slice_index_or}
use Rattle.std.specs.List.{list_any, list_all, All}

abbrev pub variable_of : ℕ → ℕ
variable_of l = l / 2

abbrev pub is_complement_of : ℕ → Bool
is_complement_of l = l % 2 == 1

abbrev pub complement_of : ℕ → ℕ
complement_of l = 2 * (l / 2) + (1 - l % 2)

-- the literal of the variable that lies `by` further on, complement or not as before
abbrev pub moved : ℕ → ℕ → ℕ
moved by l = l + 2 * by

-- the truth of a literal, a clause and a list of clauses where A gives each variable's
abbrev pub is_true : (ℕ → Bool) → ℕ → Bool
is_true A l = if l % 2 == 0 then A (l / 2) else not (A (l / 2))

abbrev pub clause_holds : (ℕ → Bool) → List ℕ → Bool
clause_holds A c = list_any (is_true A) c

abbrev pub all_hold : (ℕ → Bool) → List (List ℕ) → Bool
all_hold A F = list_all (clause_holds A) F

abbrev pub MeetsAll : (ℕ → Bool) → List (List ℕ) → Type 0
MeetsAll A F = all_hold A F ≡ true

-- the variables' truths that a list gives; those past its end are false
abbrev pub truths : List Bool → ℕ → Bool
truths a v = slice_index_or a v false

-- the variable of each literal is below n
abbrev pub AreBelow : ℕ → List ℕ → Type 0
AreBelow n c = All (λ l. variable_of l < n) c

abbrev pub ClausesAreBelow : ℕ → List (List ℕ) → Type 0
ClausesAreBelow n F = All (AreBelow n) F

-- two assignments give the variables below n the same truths
abbrev pub AgreeBelow : ℕ → (ℕ → Bool) → (ℕ → Bool) → Type 0
AgreeBelow n A B = (v : ℕ) → v < n → A v ≡ B v

-- the truths from the variable n on, as those of variables from 0 on
abbrev pub later : ℕ → (ℕ → Bool) → ℕ → Bool
later n A v = A (v + n)

-- each literal is true
abbrev pub AreTrue : (ℕ → Bool) → List ℕ → Type 0
AreTrue A ls = list_all (is_true A) ls ≡ true

-- each literal as a clause of its own
abbrev pub units : List ℕ → List (List ℕ)
units ls = map (λ l. l ∷ []) ls
