-- Arrivals at loop heads, and the blocks between them.
use Rattle.std.specs.Prelude.{◌≡◌, ℕ, suc, zero, Bool, true, false, List, [], ◌∷◌, Option, Some, None, if◌then◌else◌}
use Rattle.c_tree.specs.declared.statement.Statement.{Statement, out-Statement}
use Rattle.c_tree.specs.declared.statement.BlockItem.TheOpen.{Statement-F as t}
use Rattle.c_rules.specs.declared.checks.CheckKind.{CheckKind}
use Rattle.c_rules.specs.declared.program.Program.{Program}
use Rattle.c_model.specs.Programs.{line_at}
use Rattle.c_model.specs.Configurations.{Item, Loop, Configuration, Answer, Next, Broken}
use Rattle.c_model.specs.Steps.{step}
use Rattle.c_model.specs.Executions.{start_on}

-- ---- arrivals

-- the head of a loop (6.8.5)
abbrev pub is_loop : Item → Bool
is_loop (Loop s) = true
is_loop _ = false

-- a loop's head stands on top: the step that brought it there is an arrival
abbrev pub at_head : List Item → Bool
at_head [] = false
at_head (item ∷ rest) = is_loop item

-- the token of the word with which a loop begins
abbrev pub word_of : Statement → ℕ
word_of x = elim (out-Statement x) as (λ _. ℕ) [ t.While test body at ↦ at | t.Do body test at ↦ at | t.For first test step body at ↦ at | _ ↦ 0 ]

-- the line of the head that stands on top
abbrev pub head_line : Program → List Item → ℕ
head_line p (Loop s ∷ rest) = line_at p (word_of s)
head_line p _ = 0

-- ---- blocks

-- how a block ends: by an arrival, or by the answer of its last step, which was made from this configuration
pub data BlockEnd : Type 0 where
  Arrives : (c : Configuration) → BlockEnd
  Stops : (c : Configuration) (answer : Answer) → BlockEnd

-- a block ends with the step that arrives, or with one after which no step is made
abbrev pub block_on : (Configuration → Option BlockEnd) → Configuration → Answer → Option BlockEnd
block_on go before (Next c) = if at_head c.state.control then Some (Arrives c) else go c
block_on go before answer = Some (Stops before answer)

-- how a block of at most n steps ends
unfoldable pub block : Program → ℕ → Configuration → Option BlockEnd
block p zero c = None
block p (suc n) c = block_on (block p n) c (step p c)

-- the block from here ends so
abbrev pub Block : Program → Configuration → BlockEnd → Type 0
Block p c end = (n : ℕ) × (block p n c ≡ Some end)

-- so many blocks, one after another, end in an arrival
abbrev pub Reaches : Program → ℕ → Configuration → Configuration → Type 0
Reaches p zero c d = c ≡ d
Reaches p (suc n) c d = (e : Configuration) × Block p c (Arrives e) × Reaches p n e d

-- on these inputs the check breaks in this block; blocks are counted from 1
abbrev pub BreaksIn : Program → List ℕ → ℕ → CheckKind → ℕ → Type 0
BreaksIn p inputs zero check line = ⊥
BreaksIn p inputs (suc n) check line = (c d : Configuration) × Reaches p n (start_on p inputs) c × Block p c (Stops d (Broken check line))

-- no inputs break a check in this block
abbrev pub Clear : Program → ℕ → Type 0
Clear p j = (inputs : List ℕ) (check : CheckKind) (line : ℕ) → BreaksIn p inputs j check line → ⊥

-- no execution has so many arrivals
abbrev pub HasEnded : Program → ℕ → Type 0
HasEnded p k = (inputs : List ℕ) (c : Configuration) → Reaches p k (start_on p inputs) c → ⊥

-- ---- runs

-- how a run of at most so many blocks ends
pub data RunEnd : Type 0 where
  Arrival : RunEnd
  Stopping : (c : Configuration) (answer : Answer) → RunEnd

-- it ends so, and makes its arrivals at these lines
abbrev pub Runs : Program → ℕ → Configuration → List ℕ → RunEnd → Type 0
Runs p zero c [] Arrival = Unit {0}
Runs p zero c _ _ = ⊥
Runs p (suc n) c [] Arrival = ⊥
Runs p (suc n) c [] (Stopping d answer) = Block p c (Stops d answer)
Runs p (suc n) c (line ∷ lines) end = (e : Configuration) × Block p c (Arrives e) × (head_line p e.state.control ≡ line) × Runs p n e lines end
