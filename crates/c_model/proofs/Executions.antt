-- An execution has one end, and where it takes no input that end is the same on all inputs.
use Rattle.std.proofs.Common.{◌≡◌, ℕ, suc, zero, List, [], sym, ◌∙◌, subst, cond}
use Rattle.c_rules.specs.declared.program.Program.{Program}
use Rattle.c_model.specs.Configurations.{State, Configuration, Goes, Unmet, Forks, Takes, Unassumed, Stops, Answer, Next, Broken, Ended, Assumed, NeedsInput}
use Rattle.c_model.specs.Steps.{answered, move_of, step, start}
use Rattle.c_model.specs.Executions.{IsEnd, goes_on, after, start_on, Comes}

one_end : (p : Program) (n m : ℕ) (c : Configuration) (a b : Answer) → IsEnd a → IsEnd b → after p n c ≡ a → after p m c ≡ b → a ≡ b
one_end p zero m c a b la lb ea eb = absurd (subst IsEnd (sym ea) la)
one_end p (suc n) zero c a b la lb ea eb = absurd (subst IsEnd (sym eb) lb)
one_end p (suc n) (suc m) c a b la lb ea eb =
    elim (step p c) as (λ s. goes_on (λ d. after p n d) s ≡ a → goes_on (λ d. after p m d) s ≡ b → a ≡ b) [
      | Next d ↦ λ ea eb. one_end p n m d a b la lb ea eb
      | Broken check line ↦ λ ea eb. sym ea ∙ eb
      | Ended ↦ λ ea eb. sym ea ∙ eb
      | Assumed ↦ λ ea eb. sym ea ∙ eb
      | NeedsInput ↦ λ ea eb. sym ea ∙ eb
    ] ea eb

pub comes_to_one : (p : Program) (inputs : List ℕ) (a b : Answer) → IsEnd a → IsEnd b → Comes p inputs a → Comes p inputs b → a ≡ b
comes_to_one p inputs a b la lb ca cb = one_end p ca.0 cb.0 (start_on p inputs) a b la lb ca.1 cb.1

-- ---- a run that takes no input

-- the state with these inputs, none of which was taken
abbrev fresh : State → List ℕ → Configuration
fresh c inputs = record { state = c; inputs = record { given = inputs; taken = [] } }

alike : (p : Program) (n : ℕ) (c : State) (inputs : List ℕ) (a : Answer) → IsEnd a → (a ≡ NeedsInput → ⊥) → after p n (fresh c []) ≡ a → after p n (fresh c inputs) ≡ a
alike p zero c inputs a la na e = absurd (subst IsEnd (sym e) la)
alike p (suc n) c inputs a la na e =
    elim (move_of p c) as (λ m. goes_on (λ d. after p n d) (answered p m (fresh c []).inputs) ≡ a → goes_on (λ d. after p n d) (answered p m (fresh c inputs).inputs) ≡ a) [
      | Goes next ↦ λ e. alike p n next inputs a la na e
      | Unmet kind at next ↦ λ e. e
      | Forks holds if_so if_not ↦ λ e. alike p n (cond holds if_so if_not) inputs a la na e
      | Takes kind go ↦ λ e. absurd (na (sym e))
      | Unassumed next ↦ λ e. e
      | Stops ↦ λ e. e
    ] e

pub comes_alike : (p : Program) (inputs : List ℕ) (a : Answer) → IsEnd a → (a ≡ NeedsInput → ⊥) → Comes p [] a → Comes p inputs a
comes_alike p inputs a la na ca = (ca.0, alike p ca.0 (start p) inputs a la na ca.1)
