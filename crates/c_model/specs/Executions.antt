-- Executions: step after step (5.1.2.3).
use Rattle.std.specs.Prelude.{◌≡◌, ℕ, suc, zero, List, []}
use Rattle.c_rules.specs.declared.checks.CheckKind.{CheckKind}
use Rattle.c_rules.specs.declared.program.Program.{Program}
use Rattle.c_model.specs.Configurations.{Configuration, Answer, Next, Broken}
use Rattle.c_model.specs.Steps.{step, start}

-- an execution makes no further step after such an answer
abbrev pub IsEnd : Answer → Type 0
IsEnd (Next c) = ⊥
IsEnd _ = Unit {0}

-- an execution goes on after a step that leads to a configuration, and else has its answer
abbrev pub goes_on : (Configuration → Answer) → Answer → Answer
goes_on more (Next c) = more c
goes_on more answer = answer

-- the answer after at most so many steps
abbrev pub after : Program → ℕ → Configuration → Answer
after p zero c = Next c
after p (suc n) c = goes_on (λ d. after p n d) (step p c)

-- the start, with these inputs (5.1.2.2.1)
abbrev pub start_on : Program → List ℕ → Configuration
start_on p inputs = record { state = start p; inputs = record { given = inputs; taken = [] } }

-- after some number of steps the execution on these inputs has come to this answer
abbrev pub Comes : Program → List ℕ → Answer → Type 0
Comes p inputs answer = (n : ℕ) × (after p n (start_on p inputs) ≡ answer)

-- the execution on these inputs breaks this check at this line
abbrev pub Breaks : Program → List ℕ → CheckKind → ℕ → Type 0
Breaks p inputs check line = Comes p inputs (Broken check line)

-- no inputs break any check
abbrev pub Safe : Program → Type 0
Safe p = (inputs : List ℕ) (check : CheckKind) (line : ℕ) → Breaks p inputs check line → ⊥
