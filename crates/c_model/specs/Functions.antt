-- Functions of a program: bodies, parameters, and what a call calls (6.5.2.2, 6.9.1). Sections are those of ISO/IEC 9899:2011.
use Rattle.std.specs.Prelude.{ℕ, zero, suc, ◌+◌, nat_eq, Bool, false, if◌then◌else◌, List, [], ◌∷◌, length, codes, Option, Some, None, slice_get}
use Rattle.std.specs.Str.{bytes_eq}
use Rattle.c_tree.specs.declared.expression.Declarator.{Declarator}
use Rattle.c_tree.specs.declared.expression.Declarator.TheOpen.{Declarator-F as d}
use Rattle.c_tree.specs.declared.statement.BlockItem.{BlockItem}
use Rattle.c_tree.specs.declared.declaration.External.{External}
use Rattle.c_tree.specs.declared.declaration.External.TheVariants as external
use Rattle.c_kinds.specs.declared.types.CType.{CType}
use Rattle.c_kinds.specs.declared.types.Signature.{Signature}
use Rattle.c_kinds.specs.Types.{void, unqualified}
use Rattle.c_rules.specs.declared.names.Function.{Function}
use Rattle.c_rules.specs.declared.names.KnownFunction.{KnownFunction}
use Rattle.c_rules.specs.declared.names.Meaning.{Meaning}
use Rattle.c_rules.specs.declared.names.Meaning.TheVariants as meaning
use Rattle.c_rules.specs.declared.program.Program.{Program}
use Rattle.c_rules.specs.Initialisers.{name_at}
use Rattle.c_rules.specs.Recursion.{Nodes, DeclaratorOver, of_declarator}
use Rattle.c_model.specs.Programs.{meaning_at}

-- a name of this function
abbrev pub is_function_numbered : ℕ → Option Meaning → Bool
is_function_numbered f (Some (meaning.Function number)) = nat_eq number f
is_function_numbered f _ = false

-- the body of a function: that of the external declaration that defines it
abbrev pub body_in : Program → ℕ → List External → List BlockItem
body_in p f [] = []
body_in p f (external.Defined specifiers declarator body at ∷ rest) = if is_function_numbered f (meaning_at p (name_at declarator)) then body else body_in p f rest
body_in p f (_ ∷ rest) = body_in p f rest

-- the compound statement of a function's definition (6.9.1p1)
abbrev pub body_of : Program → ℕ → List BlockItem
body_of p f = body_in p f p.tree.externals

-- the signature of this number
abbrev pub signature_by : Program → Option ℕ → Option Signature
signature_by p None = None
signature_by p (Some number) = slice_get p.names.signatures number

-- what a function takes and gives (6.7.6.3)
abbrev pub signature_in : Program → Option Function → Option Signature
signature_in p None = None
signature_in p (Some function) = signature_by p function.signature

-- a value has no qualifiers (6.3.2.1p2)
abbrev pub result_by : Option Signature → CType
result_by None = void
result_by (Some signature) = unqualified signature.result

-- the type of what it gives
abbrev pub result_of : Program → ℕ → CType
result_of p f = result_by (signature_in p (slice_get p.names.functions f))

-- so many numbers, from this one on
abbrev pub counted_from : ℕ → ℕ → List ℕ
counted_from first zero = []
counted_from first (suc n) = first ∷ counted_from (first + 1) n

-- a function's parameters are declared one after another (6.9.1p5)
abbrev pub parameters_by : Option Function → Option Signature → List ℕ
parameters_by (Some function) (Some signature) = counted_from function.first (length signature.parameters)
parameters_by _ _ = []

-- the objects that are its parameters, in order
abbrev pub parameters_of : Program → ℕ → List ℕ
parameters_of p f = parameters_by (slice_get p.names.functions f) (signature_in p (slice_get p.names.functions f))

-- what a call calls: a function with a body, or a known function without one
pub data Called : Type 0 where
  Defined : (function : ℕ) → Called
  Known : (function : KnownFunction) → Called
  Neither : Called

-- a function that is only declared is a known one, or the call isn't accepted
abbrev pub known_or_neither : Option KnownFunction → Called
known_or_neither None = Neither
known_or_neither (Some function) = Known function

-- a body comes before what is known of a name
abbrev pub called_by : ℕ → Option Function → Called
called_by f None = Neither
called_by f (Some function) = if function.is_defined then Defined f else known_or_neither function.known

-- the function whose name is called (6.5.2.2p1)
abbrev pub called : Program → Option Meaning → Called
called p (Some (meaning.Function f)) = called_by f (slice_get p.names.functions f)
called p (Some (meaning.Known function)) = Known function
called p _ = Neither

-- ---- `main` (5.1.2.2.1)

-- a declarator declares the one name in it (6.7.6p2)
abbrev pub spelling : DeclaratorOver (List ℕ) (Unit {0}) (Unit {0}) (Unit {0}) (Unit {0}) (Unit {0}) (Unit {0}) (Unit {0}) → List ℕ
spelling (d.«Declarator::Name» name at) = name
spelling (d.Unnamed at) = []
spelling (d.Pointer qualifiers inside at) = inside.1
spelling (d.Array inside size at) = inside.1
spelling (d.OpenArray inside at) = inside.1
spelling (d.«Declarator::Function» inside parameters variadic at) = inside.1

-- names are sought in declarators alone
abbrev pub spellings : Nodes (List ℕ) (Unit {0}) (Unit {0}) (Unit {0}) (Unit {0}) (Unit {0}) (Unit {0}) (Unit {0})
spellings = record { declarator = spelling; constant = λ _. tt; expression = λ _. tt; member = λ _. tt; specifier = λ _. tt; line = λ _. tt; parameter = λ _. tt; type_name = λ _. tt }

-- the name that is declared
unfoldable pub name_of : Declarator → List ℕ
name_of x = of_declarator spellings x

-- the definition of `main` among the external declarations
abbrev pub main_in : List External → List BlockItem
main_in [] = []
main_in (external.Defined specifiers declarator body at ∷ rest) = if bytes_eq (name_of declarator) (codes "main") then body else main_in rest
main_in (_ ∷ rest) = main_in rest

-- the body of `main`; a text without one isn't accepted
abbrev pub main_body : Program → List BlockItem
main_body p = main_in p.tree.externals
