-- The rule of the word, and what its steps tell. The word is 0, or 1 plus the number of the seat that decided.
use Rattle.std.specs.Prelude.{◌≡◌, ◌≢◌, ℕ, zero, suc, ◌+◌, ◌-◌, ◌<◌, ◌^◌, min, Bool, true, false, not, ◌||◌, ◌==◌, if◌then◌else◌, List, [], ◌∷◌, ◌++◌, length, slice_index}
use mathlib.Core.Option.{some}
use lib.ListN.{get_elem?}
use Rattle.atomic_table.specs.Table.{State, Me, Step}
use Rattle.cancel_word.specs.declared.view.View.{View}

-- whether the number is among these
abbrev pub has : ℕ → List ℕ → Bool
has n [] = false
has n (m ∷ ms) = (m == n) || has n ms

-- all of them are below 2 ^ 32, as `Cancel::new` takes them
abbrev pub AreSmall : List ℕ → Type 0
AreSmall ns = (n : ℕ) → has n ns ≡ true → n < 2 ^ 32

-- these but this one
abbrev pub without : ℕ → List ℕ → List ℕ
without n [] = []
without n (m ∷ ms) = if m == n then without n ms else (m ∷ without n ms)

-- the numbers below this one
abbrev pub below : ℕ → List ℕ
below zero = []
below (suc n) = n ∷ below n

-- a count that stays at its last value
abbrev pub raised : ℕ → ℕ
raised n = min (n + 1) (2 ^ 64 - 1)

-- the first seat of a word for so many numbers
abbrev pub first_view : ℕ → View
first_view numbers = record { numbers = below numbers; seen = false; decided = false; loads = 0 }

-- after a load that found the word set, or 0
abbrev pub loaded : Bool → View → View
loaded set v = record { numbers = v.numbers; seen = set; decided = v.decided; loads = raised v.loads }

-- after it set the word
abbrev pub won : View → View
won v = record { numbers = v.numbers; seen = v.seen; decided = true; loads = v.loads }

-- after it found the word set where it would have set it
abbrev pub lost : View → View
lost v = record { numbers = v.numbers; seen = true; decided = v.decided; loads = v.loads }

-- after it gave up a number
abbrev pub kept_back : ℕ → View → View
kept_back n v = record { numbers = without n v.numbers; seen = v.seen; decided = v.decided; loads = v.loads }

-- the new seat, to which the number went
abbrev pub given : ℕ → View → View
given n v = record { numbers = n ∷ []; seen = v.seen; decided = false; loads = 0 }

-- the first seat after a join
abbrev pub united : View → View → View
united v w = record { numbers = v.numbers ++ w.numbers; seen = v.seen || w.seen; decided = v.decided || w.decided; loads = v.loads }

-- the other seat after a join
abbrev pub spent_view : View
spent_view = record { numbers = []; seen = false; decided = false; loads = 0 }

-- the view of the seat at this place among all views
abbrev pub Sees : List View → ℕ → View → Type 0
Sees views seat v = get_elem? views seat ≡ some v

pub record IsKept (most word : ℕ) (views : List View) : Type 0 where
  -- a view has seen the word set only if it isn't 0
  pub seen : (seat : ℕ) (v : View) → Sees views seat v → v.seen ≡ true → word ≢ 0
  -- where the word is 1 plus n, some view that holds n has decided
  pub named : (n : ℕ) → word ≡ n + 1 → (seat : ℕ) × (v : View) × Sees views seat v × (has n v.numbers ≡ true) × (v.decided ≡ true)
  -- where the word is 0, no view has decided
  pub undecided : word ≡ 0 → (seat : ℕ) (v : View) → Sees views seat v → v.decided ≡ false
  -- no two views hold the same number
  pub apart : (n one two : ℕ) (v w : View) → Sees views one v → Sees views two w → has n v.numbers ≡ true → has n w.numbers ≡ true → one ≡ two
  -- views hold numbers below the word's count of them
  pub bounded : (n seat : ℕ) (v : View) → Sees views seat v → has n v.numbers ≡ true → n < most
  -- a view that holds no number, as a join leaves it, has seen nothing, has made no load and has not decided
  pub spent : (seat : ℕ) (v : View) → Sees views seat v → v.numbers ≡ [] → v ≡ spent_view

-- the rule of a word for so many numbers
abbrev pub Holds : ℕ → State (Unit {0}) View → Type 0
Holds most s = (length s.words ≡ 1) × IsKept most (slice_index s.words 0) s.views

-- a load finds the word set, or 0, and never 0 where the seat has seen it set or has decided
abbrev pub Loads : Step (Unit {0}) → Me (Unit {0}) View → ℕ → Me (Unit {0}) View → Type 0
Loads s me found me' =
    (me'.0 ≡ loaded (not (found == 0)) me.0)
    × (me'.1 ≡ me.1)
    × (me.0.seen ≡ true → (found == 0) ≡ false)
    × (me.0.decided ≡ true → (found == 0) ≡ false)

-- the seat decides where the word is 0, and else finds it set; where it has seen it set or has decided, it finds it set
abbrev pub Stops : Step (Unit {0}) → Me (Unit {0}) View → ℕ → Me (Unit {0}) View → Type 0
Stops s me found me' =
    (me'.0 ≡ (if found == 0 then won me.0 else lost me.0))
    × (me'.1 ≡ me.1)
    × (me.0.seen ≡ true → (found == 0) ≡ false)
    × (me.0.decided ≡ true → (found == 0) ≡ false)
