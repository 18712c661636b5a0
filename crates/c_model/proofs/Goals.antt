-- The goal decides how a break is answered, and nothing else.
use Rattle.std.proofs.Common.{◌≡◌, ◌↔◌, ℕ, suc, zero, true, false, nat_eq, ◌&&◌, ℤ, pos, List, [], ◌∷◌, ◌++◌, refl, ◌∙◌, cond, ap, eq-eqb}
use Rattle.kv_num.specs.IntType.{wrap_of}
use Rattle.c_rules.specs.declared.checks.CheckKind.{CheckKind}
use Rattle.c_rules.specs.declared.checks.Goal.TheVariants.{All, Only}
use Rattle.c_rules.specs.declared.program.Program.{Program}
use Rattle.c_model.specs.Programs.{line_at}
use Rattle.c_model.specs.Statics.{initial_cells, in_item}
use Rattle.c_model.specs.Configurations.{State, Configuration, Goes, Unmet, Forks, Takes, Unassumed, Stops, Answer, Broken, Ended}
use Rattle.c_model.specs.Steps.{index_of, is_goal, fails, taking, answered, move_of, start}
use Rattle.c_model.specs.Executions.{goes_on, after, Breaks}
use Rattle.c_model.specs.Laws.{with_goal}

is_own : (kind : CheckKind) (line : ℕ) → is_goal (Only kind line) kind line ≡ true
is_own kind line = ap (λ b. b && nat_eq line line) (eq-eqb (index_of kind) (index_of kind) refl) ∙ eq-eqb line line refl

-- a check that isn't met breaks as the one goal, if it is the one
fails_to : (go : Configuration → Answer) (kind one : CheckKind) (line at : ℕ) → Broken kind line ≡ Broken one at → goes_on go (fails (Only one at) kind line) ≡ Broken one at
fails_to go kind one line at e =
    let same_kind : kind ≡ one = cc in
    let same_line : line ≡ at = cc in
    let own : is_goal (Only one at) kind line ≡ true = ap (λ k. is_goal (Only one at) k line) same_kind ∙ (ap (λ l. is_goal (Only one at) one l) same_line ∙ is_own one at) in
    ap (λ b. goes_on go (cond b (Broken kind line) Ended)) own ∙ e

-- and only if it is
fails_from : (go : Configuration → Answer) (kind one : CheckKind) (line at : ℕ) → goes_on go (fails (Only one at) kind line) ≡ Broken one at → Broken kind line ≡ Broken one at
fails_from go kind one line at =
    elim (is_goal (Only one at) kind line) as (λ b. goes_on go (cond b (Broken kind line) Ended) ≡ Broken one at → Broken kind line ≡ Broken one at) [
      | true ↦ λ e. e
      | false ↦ λ e. cc
    ]

-- ---- each step

-- the state with these inputs left and taken
abbrev at_inputs : State → List ℕ → List ℤ → Configuration
at_inputs c given taken = record { state = c; inputs = record { given = given; taken = taken } }

all_agree : (p : Program) (n : ℕ) (c : State) (given : List ℕ) (taken : List ℤ) (one : CheckKind) (at : ℕ)
    → after (with_goal All p) n (at_inputs c given taken) ≡ Broken one at ↔ after (with_goal (Only one at) p) n (at_inputs c given taken) ≡ Broken one at
all_agree p zero c given taken one at = (λ e. cc, λ e. cc)
all_agree p (suc n) c given taken one at =
    elim (move_of p c) as (λ m. goes_on (λ d. after (with_goal All p) n d) (answered (with_goal All p) m (record { given = given; taken = taken })) ≡ Broken one at
    ↔ goes_on (λ d. after (with_goal (Only one at) p) n d) (answered (with_goal (Only one at) p) m (record { given = given; taken = taken })) ≡ Broken one at) [
      | Goes next ↦ all_agree p n next given taken one at
      | Unmet kind token next ↦ (fails_to (λ d. after (with_goal (Only one at) p) n d) kind one (line_at p token) at, fails_from (λ d. after (with_goal (Only one at) p) n d) kind one (line_at p token) at)
      | Forks holds if_so if_not ↦ all_agree p n (cond holds if_so if_not) given taken one at
      | Takes kind go ↦ elim given as (λ w. goes_on (λ d. after (with_goal All p) n d) (taking kind go w taken) ≡ Broken one at ↔ goes_on (λ d. after (with_goal (Only one at) p) n d) (taking kind go w taken) ≡ Broken one at) [
        | [] ↦ (λ e. e, λ e. e)
        | m ∷ ms ↦ all_agree p n (go (wrap_of kind (pos m))) ms (taken ++ wrap_of kind (pos m) ∷ []) one at
      ]
      | Unassumed next ↦ (λ e. e, λ e. e)
      | Stops ↦ (λ e. e, λ e. e)
    ]

pub breaks_alike : (p : Program) (inputs : List ℕ) (one : CheckKind) (at : ℕ) → Breaks (with_goal All p) inputs one at ↔ Breaks (with_goal (Only one at) p) inputs one at
unfolding initial_cells in_item
breaks_alike p inputs one at = (
  λ e. (e.0, (all_agree p e.0 (start p) inputs [] one at).0 e.1),
  λ e. (e.0, (all_agree p e.0 (start p) inputs [] one at).1 e.1),
)
