-- Rules of calls (6.5.2.2): a function without a body, and arguments that don't fit. Neither takes the call's type.
use Rattle.std.specs.Prelude.{ℕ, Bool, true, false, not, ◌&&◌, ◌||◌, if◌then◌else◌, List, [], ◌∷◌, ◌++◌, Option, Some, None, slice_get}
use Rattle.c_kinds.specs.declared.types.CType.{CType}
use Rattle.c_kinds.specs.declared.types.Signature.{Signature}
use Rattle.c_kinds.specs.declared.typed.Typed.{Typed}
use Rattle.c_kinds.specs.Types.{is_scalar, is_integer}
use Rattle.c_kinds.specs.Layouts.{Layout}
use Rattle.c_kinds.specs.declared.answer.Answer.{Answer}
use Rattle.c_kinds.specs.declared.answer.Answer.TheVariants.{Gives, Breaks, Nothing}
use Rattle.c_kinds.specs.Values.{used}
use Rattle.c_kinds.specs.Casts.{fits}
use Rattle.c_rules.specs.declared.names.Meaning.{Meaning}
use Rattle.c_rules.specs.declared.names.Meaning.TheVariants as meaning
use Rattle.c_rules.specs.declared.names.KnownFunction.{KnownFunction}
use Rattle.c_rules.specs.declared.names.KnownFunction.TheVariants as known
use Rattle.c_rules.specs.declared.names.Function.{Function}
use Rattle.c_rules.specs.declared.names.Names.{Names}
use Rattle.c_rules.specs.declared.names.Pair.{Pair}
use Rattle.c_rules.specs.Broken.{pair_if}

abbrev pub is_some : {A : Type 0} → Option A → Bool
is_some None = false
is_some (Some x) = true

-- an argument without a value breaks no rule of the call
abbrev pub value_has : Layout → (Typed → Bool) → Answer → Bool
value_has l p x = elim (used l x (λ v. Gives v)) as (λ _. Bool) [ Gives v ↦ p v | Breaks rule at ↦ true | Nothing ↦ true ]

-- as many arguments as parameters, and each may be assigned to its parameter (6.5.2.2p2)
abbrev pub all_fit : Layout → List CType → Bool → List Answer → Bool
all_fit l [] variadic [] = true
all_fit l [] variadic (x ∷ xs) = variadic
all_fit l (t ∷ ts) variadic [] = false
all_fit l (t ∷ ts) variadic (x ∷ xs) = value_has l (fits t) x && all_fit l ts variadic xs

abbrev pub is_one : Layout → (CType → Bool) → List Answer → Bool
is_one l p (x ∷ []) = value_has l (λ v. p v.ctype) x
is_one l p _ = false

abbrev pub is_none : List Answer → Bool
is_none [] = true
is_none _ = false

-- what a known function takes
abbrev pub known_takes : Layout → KnownFunction → List Answer → Bool
known_takes l known.Assert xs = is_one l is_scalar xs
known_takes l known.Assume xs = is_one l is_scalar xs
known_takes l known.Exit xs = is_one l is_integer xs
known_takes l known.AssertFail xs = true
known_takes l _ xs = is_none xs

abbrev pub signature_takes : Layout → Option Signature → List Answer → Bool
signature_takes l None xs = true
signature_takes l (Some g) xs = all_fit l g.parameters g.is_variadic xs

abbrev pub numbered_takes : Layout → Names → Option ℕ → List Answer → Bool
numbered_takes l names None xs = true
numbered_takes l names (Some n) xs = signature_takes l (slice_get names.signatures n) xs

-- a known function without a body takes what it is known to take
abbrev pub function_takes : Layout → Names → Function → List Answer → Bool
function_takes l names f xs = if f.is_defined then numbered_takes l names f.signature xs
    else (elim f.known as (λ _. Bool) [ Some function ↦ known_takes l function xs | None ↦ numbered_takes l names f.signature xs ])

-- rule 5: it has no body, and isn't known; rule 7: the arguments don't fit
abbrev pub function_pairs : Layout → Names → ℕ → Option Function → List Answer → List Pair
function_pairs l names name None xs = []
function_pairs l names name (Some f) xs = pair_if (not (f.is_defined || is_some f.known)) name 5 ++ pair_if (not (function_takes l names f xs)) name 7

abbrev pub call_pairs : Layout → Names → ℕ → Option Meaning → List Answer → List Pair
call_pairs l names name (Some (meaning.Function n)) xs = function_pairs l names name (slice_get names.functions n) xs
call_pairs l names name (Some (meaning.Known function)) xs = pair_if (not (known_takes l function xs)) name 7
call_pairs l names name _ xs = []
