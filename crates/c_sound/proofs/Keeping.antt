-- Values that are given, and ends of lives, leave code on the control stack.
use Rattle.std.proofs.Common.{◌≡◌, ℕ, ℤ, pos, List, [], ◌∷◌, map, refl}
use Rattle.c_rules.specs.declared.program.Program.{Program}
use Rattle.c_rules.specs.Statements.{Near}
use Rattle.c_model.specs.declared.values.Scalar.{Scalar}
use Rattle.c_model.specs.declared.values.Scalar.TheVariants.{Number}
use Rattle.c_model.specs.declared.values.Outcome.{Outcome}
use Rattle.c_model.specs.declared.values.Outcome.TheVariants as outcome
use Rattle.c_model.specs.Configurations.{Item, Work, Tests, Decides, Rest, Branches, Branching, Branched, Seeks, Labels, Switched, Loop, Again, Breaking, Continuing, Back, Drops, State, Move, Goes, Unmet, Forks, Takes, Unassumed, Stops}
use Rattle.c_model.specs.Moves.{give, settles, item_outlived}
use Rattle.c_heads.specs.Controls.{running_in}
use Rattle.c_sound.proofs.Standing.{MayBreak, MayContinue, Around, Asked, IsCode, AreCode}

-- wherever a move leads, code stands on the control stack
abbrev pub Keeps : Program → Asked → Move → Type 0
Keeps p a (Goes next) = AreCode p a next.control
Keeps p a (Unmet kind at next) = AreCode p a next.control
Keeps p a (Forks holds x y) = AreCode p a x.control × AreCode p a y.control
Keeps p a (Takes kind go) = (n : ℤ) → AreCode p a (go n).control
Keeps p a (Unassumed next) = AreCode p a next.control
Keeps p a Stops = Unit {0}

module _ (p : Program) (a : Asked) where
  pub given : (v : List Scalar) (items : List Item) → AreCode p a items → AreCode p a (give v items)
  given v [] h = tt
  given v (Drops ∷ rest) h = h.1
  given v (item ∷ rest) h = h

  pub settled : (at : ℕ) (o : Outcome) (go : Scalar → State) → ((s : Scalar) → AreCode p a (go s).control) → Keeps p a (settles at o go)
  settled at (outcome.Gives s) go h = h s
  settled at (outcome.Unmet check) go h = h (Number (pos 0))

-- ---- where the first n objects live on

outlived_break : (n : ℕ) (items : List Item) → MayBreak items → MayBreak (map (item_outlived n) items)
outlived_break n [] h = h
outlived_break n (Switched ∷ rest) h = tt
outlived_break n (Again s ∷ rest) h = tt
outlived_break n (Back function objects ∷ rest) h = h
outlived_break n (item ∷ rest) h = outlived_break n rest h

outlived_continue : (n : ℕ) (items : List Item) → MayContinue items → MayContinue (map (item_outlived n) items)
outlived_continue n [] h = h
outlived_continue n (Again s ∷ rest) h = tt
outlived_continue n (Back function objects ∷ rest) h = h
outlived_continue n (item ∷ rest) h = outlived_continue n rest h

outlived_running : (n : ℕ) (items : List Item) → running_in (map (item_outlived n) items) ≡ running_in items
outlived_running n [] = refl
outlived_running n (Back function objects ∷ rest) = refl
outlived_running n (item ∷ rest) = outlived_running n rest

around_outlived : (p : Program) (n : ℕ) (near : Near) (items : List Item) → Around p near items → Around p near (map (item_outlived n) items)
around_outlived p n near items h = record {
  breaks = λ e. outlived_break n items (h.breaks e);
  continues = λ e. outlived_continue n items (h.continues e);
  result = λ f e. h.result f (rw (← outlived_running n items) e);
}

module _ (p : Program) (a : Asked) (n : ℕ) where
  code_outlived : (item : Item) (rest : List Item) → IsCode p a item rest → IsCode p a (item_outlived n item) (map (item_outlived n) rest)
  code_outlived (Work s) rest h = record { near = h.near; around = around_outlived p n h.near rest h.around; is = h.is }
  code_outlived (Tests s) rest h = record { near = h.near; around = around_outlived p n h.near rest h.around; is = h.is }
  code_outlived (Decides s v) rest h = record { near = h.near; around = around_outlived p n h.near rest h.around; is = h.is }
  code_outlived (Rest left) rest h = record { near = h.near; around = around_outlived p n h.near rest h.around; are = h.are }
  code_outlived (Branches left otherwise) rest h = record { near = h.near; around = around_outlived p n h.near rest h.around; are = h.are; last = h.last }
  code_outlived (Branching left otherwise) rest h = record { near = h.near; around = around_outlived p n h.near rest h.around; are = h.are; last = h.last }
  code_outlived (Branched left otherwise v) rest h = record { near = h.near; around = around_outlived p n h.near rest h.around; are = h.are; last = h.last }
  code_outlived (Seeks kind value left otherwise) rest h = record { near = h.near; around = around_outlived p n h.near (Switched ∷ rest) h.around; are = h.are; by_default = h.by_default }
  code_outlived (Labels kind value s left otherwise) rest h = record { near = h.near; around = around_outlived p n h.near (Switched ∷ rest) h.around; are = h.are; by_default = h.by_default }
  code_outlived (Loop s) rest h = record { near = h.near; around = around_outlived p n h.near rest h.around; is = h.is }
  code_outlived (Again s) rest h = record { near = h.near; around = around_outlived p n h.near rest h.around; is = h.is }
  code_outlived Breaking rest h = outlived_break n rest h
  code_outlived Continuing rest h = outlived_continue n rest h
  code_outlived item rest h = h

  pub codes_outlived : (items : List Item) → AreCode p a items → AreCode p a (map (item_outlived n) items)
  codes_outlived [] h = tt
  codes_outlived (item ∷ rest) h = (code_outlived item rest h.0, codes_outlived rest h.1)
