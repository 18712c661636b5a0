-- Each step of the machine is one of the bare machine.
use Rattle.std.proofs.Common.{◌≡◌, ℕ, suc, zero, Bool, true, false, IsTrue, ℤ, pos, List, [], ◌∷◌, ◌++◌, Some, refl, subst, cond, ap, inl, inr}
use Rattle.kv_num.specs.declared.types.IntType.{IntType}
use Rattle.kv_num.specs.IntType.{width_of, signed_of, wrap_of, InRange}
use Rattle.kv_num.proofs.Shapes.{range-wrap_at}
use Rattle.c_rules.specs.declared.checks.CheckKind.{CheckKind}
use Rattle.c_rules.specs.declared.checks.Goal.{Goal}
use Rattle.c_rules.specs.declared.program.Program.{Program}
use Rattle.c_model.specs.Programs.{checks, line_at}
use Rattle.c_model.specs.Configurations.{State, Feed, Configuration, Move, Goes, Unmet, Forks, Takes, Unassumed, Stops, Answer, Next, Broken, Ended, Assumed, NeedsInput}
use Rattle.c_model.specs.Steps.{is_goal, fails, goes, taking, answered, move_of, step, start, Leads}
use Rattle.c_model.specs.Executions.{start_on}
use Rattle.c_model.specs.Blocks.{at_head, Arrives, block_on, block, Reaches}
use Rattle.c_model.specs.Heads.{BareRun, here, onward, IsBareArrival}

pub next_is : (s : State) (feed : Feed) (d : Configuration) → goes s feed ≡ Next d → s ≡ d.state
next_is s feed d e = let same : (record { state = s; inputs = feed }) ≡ d = cc in ap (λ c. c.state) same

pub fails_never : (goal : Goal) (kind : CheckKind) (line : ℕ) (d : Configuration) → fails goal kind line ≡ Next d → ⊥
fails_never goal kind line d =
    elim (is_goal goal kind line) as (λ b. cond b (Broken kind line) Ended ≡ Next d → ⊥) [ true ↦ λ e. cc | false ↦ λ e. cc ]

wraps : (kind : IntType) (n : ℤ) → InRange kind (wrap_of kind n)
wraps kind n = range-wrap_at (width_of kind) (signed_of kind) n

takes : (kind : IntType) (go : ℤ → State) (given : List ℕ) (taken : List ℤ) (d : Configuration) → taking kind go given taken ≡ Next d → (n : ℤ) × InRange kind n × (go n ≡ d.state)
takes kind go [] taken d e = absurd (cc)
takes kind go (n ∷ ns) taken d e = (wrap_of kind (pos n), wraps kind (pos n), next_is (go (wrap_of kind (pos n))) (record { given = ns; taken = taken ++ wrap_of kind (pos n) ∷ [] }) d e)

pub leads : (p : Program) (m : Move) (feed : Feed) (d : Configuration) → answered p m feed ≡ Next d → Leads m d.state
leads p (Goes next) feed d e = next_is next feed d e
leads p (Unmet kind at next) feed d e = absurd (fails_never (checks p).goal kind (line_at p at) d e)
leads p (Forks true if_so if_not) feed d e = inl (next_is if_so feed d e)
leads p (Forks false if_so if_not) feed d e = inr (next_is if_not feed d e)
leads p (Takes kind go) feed d e = takes kind go feed.given feed.taken d e
leads p (Unassumed next) feed d e = absurd (cc)
leads p Stops feed d e = absurd (cc)

-- ---- blocks and arrivals

pub run_on : (p : Program) (c d e : State) → BareRun p c d → BareRun p d e → BareRun p c e
run_on p _ _ e (here c) more = more
run_on p _ _ e (onward c d f step run) more = onward c d e step (run_on p d f e run more)

-- a block that ends in an arrival
pub record IsBareBlock (p : Program) (c d : State) : Type 0 where
  pub run : BareRun p c d
  pub arrives : IsTrue (at_head d.control)

arrives_at : (p : Program) (m d : Configuration) → at_head m.state.control ≡ true → Some (Arrives m) ≡ Some (Arrives d) → IsBareBlock p m.state d.state
arrives_at p m d h e =
    let same : m ≡ d = cc in
    let P : Configuration → Type 0 = λ x. IsBareBlock p m.state x.state in
    subst P same (record { run = here m.state; arrives = h })

-- `more` says the same of the steps after this one
one_more : (p : Program) (n : ℕ) (more : (m d : Configuration) → block p n m ≡ Some (Arrives d) → IsBareBlock p m.state d.state) (m d : Configuration) (h : Bool) → at_head m.state.control ≡ h
    → cond h (Some (Arrives m)) (block p n m) ≡ Some (Arrives d) → IsBareBlock p m.state d.state
one_more p n more m d true is e = arrives_at p m d is e
one_more p n more m d false is e = more m d e

after : (p : Program) (n : ℕ) (more : (m d : Configuration) → block p n m ≡ Some (Arrives d) → IsBareBlock p m.state d.state) (c d : Configuration) (a : Answer) → step p c ≡ a
    → block_on (block p n) c a ≡ Some (Arrives d) → IsBareBlock p c.state d.state
after p n more c d (Next m) is e =
    let rest : IsBareBlock p m.state d.state = one_more p n more m d (at_head m.state.control) refl e in
    record { run = onward c.state m.state d.state (leads p (move_of p c.state) c.inputs m is) rest.run; arrives = rest.arrives }
after p n more c d (Broken check line) is e = absurd (cc)
after p n more c d Ended is e = absurd (cc)
after p n more c d Assumed is e = absurd (cc)
after p n more c d NeedsInput is e = absurd (cc)

block_leads : (p : Program) (n : ℕ) (c d : Configuration) → block p n c ≡ Some (Arrives d) → IsBareBlock p c.state d.state
unfolding block
block_leads p zero c d e = absurd (cc)
block_leads p (suc n) c d e = after p n (block_leads p n) c d (step p c) refl e

-- so do blocks one after another
blocks_lead : (p : Program) (n : ℕ) (c d : Configuration) → Reaches p (suc n) c d → IsBareBlock p c.state d.state
blocks_lead p zero c d r =
    let P : Configuration → Type 0 = λ x. IsBareBlock p c.state x.state in
    subst P r.2 (block_leads p r.1.0 c r.0 r.1.1)
blocks_lead p (suc n) c d r =
    let rest : IsBareBlock p r.0.state d.state = blocks_lead p n r.0 d r.2 in
    let first : IsBareBlock p c.state r.0.state = block_leads p r.1.0 c r.0 r.1.1 in
    record { run = run_on p c.state r.0.state d.state first.run rest.run; arrives = rest.arrives }

pub arrivals_are_bare : (p : Program) (inputs : List ℕ) (n : ℕ) (c : Configuration) → Reaches p (suc n) (start_on p inputs) c → IsBareArrival p c.state
arrivals_are_bare p inputs n c r =
    let found : IsBareBlock p (start p) c.state = blocks_lead p n (start_on p inputs) c r in
    record { run = found.run; arrives = found.arrives }
