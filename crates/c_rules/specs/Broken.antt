-- Broken rules: pairs of a place and a rule, and the least of them.
use Rattle.std.specs.Prelude.{ℕ, nat_eq, nat_lt, Bool, ◌&&◌, ◌||◌, if◌then◌else◌, List, [], ◌∷◌, ◌++◌, Option, Some, None}
use Rattle.c_kinds.specs.declared.typed.Typed.{Typed}
use Rattle.c_kinds.specs.Layouts.{Layout}
use Rattle.c_kinds.specs.declared.answer.Answer.{Answer}
use Rattle.c_kinds.specs.declared.answer.Answer.TheVariants.{Gives, Breaks, Nothing}
use Rattle.c_kinds.specs.Values.{used}
use Rattle.c_rules.specs.declared.names.Pair.{Pair}

abbrev pub pair : ℕ → ℕ → Pair
pair at rule = record { at = at; rule = rule }

abbrev pub pair_if : Bool → ℕ → ℕ → List Pair
pair_if broken at rule = if broken then pair at rule ∷ [] else []

-- the rule that leaves an expression without a type
abbrev pub broken_in : Answer → List Pair
broken_in (Gives x) = []
broken_in (Breaks rule at) = pair at rule ∷ []
broken_in Nothing = []

-- what using an expression's value breaks, beside what it breaks itself
abbrev pub broken_using : Layout → Answer → (Typed → Answer) → List Pair
broken_using l x f = broken_in (used l x f)

abbrev pub of_each : {A X : Type 0} → (A → List X) → List A → List X
of_each f [] = []
of_each f (x ∷ xs) = f x ++ of_each f xs

abbrev pub of_option : {A X : Type 0} → (A → List X) → Option A → List X
of_option f None = []
of_option f (Some x) = f x

-- by place, and at one place by rule
abbrev pub is_before : Pair → Pair → Bool
is_before p q = nat_lt p.at q.at || (nat_eq p.at q.at && nat_lt p.rule q.rule)

abbrev pub lesser : Pair → Option Pair → Pair
lesser p None = p
lesser p (Some q) = if is_before q p then q else p

-- the least of the broken pairs, which the answer names
abbrev pub least : List Pair → Option Pair
least [] = None
least (p ∷ ps) = Some (lesser p (least ps))
