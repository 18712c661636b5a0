-- What the laws say.
use Rattle.std.specs.Prelude.{◌≡◌, ◌↔◌, ℕ, suc, List, []}
use Rattle.c_rules.specs.declared.checks.CheckKind.{CheckKind}
use Rattle.c_rules.specs.declared.checks.Goal.{Goal}
use Rattle.c_rules.specs.declared.checks.Goal.TheVariants.{All, Only}
use Rattle.c_rules.specs.declared.program.Program.{Program}
use Rattle.c_rules.specs.Accepted.{IsAcceptedProgram}
use Rattle.c_model.specs.Configurations.{Configuration, Answer, NeedsInput}
use Rattle.c_model.specs.Executions.{IsEnd, Comes, Breaks, start_on}
use Rattle.c_model.specs.Costs.{CallsEnd}
use Rattle.c_model.specs.Blocks.{BlockEnd, Block, Reaches}
use Rattle.c_model.specs.Heads.{IsBareArrival}

-- an execution has at most one end
abbrev pub HasOneEnd : Type 0
HasOneEnd = (p : Program) (inputs : List ℕ) (a b : Answer) → IsEnd a → IsEnd b → Comes p inputs a → Comes p inputs b → a ≡ b

-- an execution that ends without an input, and needs none, ends so on all inputs
abbrev pub EndsAlike : Type 0
EndsAlike = (p : Program) (inputs : List ℕ) (a : Answer) → IsEnd a → (a ≡ NeedsInput → ⊥) → Comes p [] a → Comes p inputs a

-- the same program with another goal
abbrev pub with_goal : Goal → Program → Program
with_goal goal p = record p { checks = record p.checks { goal = goal } }

-- where all checks are goals, a check breaks exactly where it breaks as the one goal
abbrev pub GoalsAgree : Type 0
GoalsAgree = (p : Program) (inputs : List ℕ) (check : CheckKind) (line : ℕ) → Breaks (with_goal All p) inputs check line ↔ Breaks (with_goal (Only check line) p) inputs check line

-- a block has at most one end
abbrev pub BlockHasOneEnd : Type 0
BlockHasOneEnd = (p : Program) (c : Configuration) (a b : BlockEnd) → Block p c a → Block p c b → a ≡ b

-- the state at each arrival is one at which the bare machine arrives
abbrev pub ArrivalsAreBare : Type 0
ArrivalsAreBare = (p : Program) (inputs : List ℕ) (n : ℕ) (c : Configuration) → Reaches p (suc n) (start_on p inputs) c → IsBareArrival p c.state

-- no block is endless: from every configuration it ends after some number of steps, in an arrival, an end or a break
abbrev pub EachBlockEnds : Program → Type 0
EachBlockEnds p = (c : Configuration) → (end : BlockEnd) × Block p c end

-- so it is in accepted programs
abbrev pub NoBlockIsEndless : Type 0
NoBlockIsEndless = (p : Program) → IsAcceptedProgram p → EachBlockEnds p

-- and in others, where no call leads back to its own function
abbrev pub EndsWhereCallsEnd : Type 0
EndsWhereCallsEnd = (p : Program) → CallsEnd p → EachBlockEnds p
