use Rattle.std.specs.Prelude.{ℕ, ◌≡◌, ◌*◌, ◌<◌, ◌≤◌, List, [], map, length, Bool, true, false}
use Rattle.std.specs.List.{Contains}
use Rattle.sat_clause.specs.Propagation.{clause_at, Derived, HasComplements, Follows}
use Rattle.sat_engine.specs.declared.trail.Reason.{Reason}
use Rattle.sat_engine.specs.declared.trail.Reason.TheVariants.{Free, Assumed, Clause}
use Rattle.sat_engine.specs.declared.trail.SetLiteral.{SetLiteral}
use Rattle.sat_engine.specs.Trail.{IsSet, Before, AreReasons, lit_at, reason_at}
use Rattle.sat_engine.specs.Look.{InRange, AreInRange}
use Rattle.sat_search.specs.declared.parts.Parts.{Parts}
use Rattle.sat_index.specs.Listed.{IsIndexed}
use Rattle.sat_clause.specs.Propagation.{Includes}

abbrev pub is_choice : Reason → Bool
is_choice Free = true
is_choice Assumed = true
is_choice (Clause n) = false

-- the trail as a word, for the measure
abbrev pub word : List SetLiteral → List Bool
word steps = map (λ (s : SetLiteral). is_choice s.reason) steps

-- the trail under the assumptions A: what stands before `start` follows from nothing, and the assumptions stand before each free choice
pub record IsState (F : List (List ℕ)) (A : List ℕ) (steps : List SetLiteral) (start : ℕ) : Type 0 where
  pub reasons : AreReasons F A steps
  pub early : start ≤ length steps
  pub facts : (i : ℕ) → i < start → Derived F [] (lit_at steps i)
  pub unchosen : (i : ℕ) → i < start → is_choice (reason_at steps i) ≡ false
  pub free : (j : ℕ) → j < length steps → reason_at steps j ≡ Free → (a : ℕ) → Contains A a → Before steps j a

pub record IsReady (A : List ℕ) (p : Parts) : Type 0 where
  pub state : IsState p.store A p.trail.steps.items p.start
  pub range : AreInRange p.store (length p.trail.truth.items)
  pub few : length p.store < 4294967296
  pub indexed : IsIndexed p.store p.index
  pub lists : length p.index ≡ length p.trail.truth.items
  pub flags : length p.flags.items ≡ length p.trail.truth.items
  pub unset : (m : ℕ) → IsSet p.flags.items m → ⊥
  pub marks : length p.trail.truth.items ≤ 2 * length p.marks.items
  pub clean : (v : ℕ) → IsSet p.marks.items v → ⊥
  pub small : length p.trail.truth.items < 4294967296

-- the clause follows from F, and is new
pub record IsNew (F : List (List ℕ)) (n : ℕ) (c : List ℕ) : Type 0 where
  pub follows : Follows F c
  pub range : InRange c n
  pub some : 0 < length c
  pub apart : HasComplements c → ⊥
  pub none_in : (i : ℕ) → i < length F → Includes c (clause_at F i) → ⊥
