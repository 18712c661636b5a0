-- Known functions: they need no declaration. The place of their checks is the name. Sections are those of ISO/IEC 9899:2011.
use Rattle.std.specs.Prelude.{ℕ, List, [], ◌∷◌, if◌then◌else◌}
use Rattle.c_tree.specs.declared.expression.Expression.{Expression}
use Rattle.c_rules.specs.declared.checks.CheckKind.TheVariants.{Assertion}
use Rattle.c_rules.specs.declared.names.KnownFunction.{KnownFunction}
use Rattle.c_rules.specs.declared.names.KnownFunction.TheVariants as known
use Rattle.c_rules.specs.declared.program.Program.{Program}
use Rattle.c_model.specs.declared.values.Scalar.{Scalar}
use Rattle.c_model.specs.declared.values.Scalar.TheVariants.{Number}
use Rattle.c_model.specs.Functions.{Called, Defined, Known, Neither}
use Rattle.c_model.specs.Values.{is_no}
use Rattle.c_model.specs.Calls.{defined_call}
use Rattle.c_model.specs.Configurations.{Needs, State, Move, Unmet, Takes, Unassumed, Stops}
use Rattle.c_model.specs.Moves.{giving, gives, asks}

-- the one argument, which is compared with 0 in its own type
abbrev pub asks_first : List Expression → Expression → State → Move
asks_first [] x c = gives [] c
asks_first (argument ∷ _) x c = asks argument (Needs x []) c

-- 7.2.1.1
abbrev pub asserts : ℕ → List Scalar → State → Move
asserts at v c = if is_no v then Unmet Assertion at (giving [] c) else gives [] c

-- an execution in which an assumption is 0 ends unbroken
abbrev pub assumes : List Scalar → State → Move
assumes v c = if is_no v then Unassumed (giving [] c) else gives [] c

-- each known function; `assert`, the assumptions and `exit` evaluate their argument first
abbrev pub known_call : KnownFunction → ℕ → List Expression → Expression → List (List Scalar) → State → Move
known_call known.Assert at arguments x [] c = asks_first arguments x c
known_call known.Assert at arguments x (v ∷ _) c = asserts at v c
known_call known.Assume at arguments x [] c = asks_first arguments x c
known_call known.Assume at arguments x (v ∷ _) c = assumes v c
-- 7.22.4.1, 7.22.4.4
known_call known.Abort at arguments x found c = Stops
known_call known.Exit at arguments x [] c = asks_first arguments x c
known_call known.Exit at arguments x (v ∷ _) c = Stops
known_call known.Error at arguments x found c = Unmet Assertion at (giving [] c)
-- its arguments aren't evaluated
known_call known.AssertFail at arguments x found c = Unmet Assertion at (giving [] c)
known_call (known.Nondet kind) at arguments x found c = Takes kind (λ n. giving (Number n ∷ []) c)

-- a call, with the values of its first arguments; `at` is the name
abbrev pub call_move : Program → Called → ℕ → List Expression → Expression → List (List Scalar) → State → Move
call_move p (Defined f) at arguments x found c = defined_call p f arguments x found c
call_move p (Known function) at arguments x found c = known_call function at arguments x found c
call_move p Neither at arguments x found c = gives [] c
