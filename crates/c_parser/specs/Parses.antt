-- What the parser of whole texts ensures.
use Rattle.std.specs.Prelude.{◌≡◌, ℕ, List, Option, None, Result, Ok, Err, position, IsTrue}
use Rattle.c_tokens.specs.declared.token.Token.{Token}
use Rattle.c_tree.specs.declared.declaration.Tree.{Tree}
use Rattle.c_tree.specs.Places.{Place}
use Rattle.c_tree.specs.Nesting.{is_left_out, IsFirstDeeper}
use Rattle.c_tree.specs.SpellsText.{kinds_of, Spells}
use Rattle.c_grammar.specs.ReadExpressions.{Outcome, Gives, Refuses}
use Rattle.c_cursor.specs.declared.fault.Fault.{Fault}
use Rattle.c_cursor.specs.declared.fault.Fault.TheVariants as reading
use Rattle.c_tokens.specs.declared.limits.TheConstants.{MAX_DEPTH, MAX_NESTING}
use Rattle.c_nesting.specs.Depth.{tree_fits}
use Rattle.c_parser.specs.declared.parser.ParseFault.{ParseFault}
use Rattle.c_parser.specs.declared.parser.ParseFault.TheVariants.{LeftOut, TooDeep, Syntax, NoMemory}

-- the number of the first token that the accepted C leaves out
abbrev pub left_out : List Token → Option ℕ
left_out tokens = position (λ token. is_left_out token.kind) tokens

-- this token is the first after which the text is nested too deep; none where there is no such token
abbrev pub IsFirstTooDeep : List Token → Option ℕ → Type 0
IsFirstTooDeep tokens found = IsFirstDeeper MAX_NESTING (kinds_of tokens) found

-- nothing is left out, and nothing is nested too deep
abbrev pub IsWithin : List Token → Type 0
IsWithin tokens = (left_out tokens ≡ None) × IsFirstTooDeep tokens None

-- the tokens are no translation unit
abbrev pub SpellsNone : List Token → Type 0
SpellsNone tokens = (tree : Tree) → Spells tokens tree → ⊥

-- no more than this many expressions, specifiers, declarators, initialisers and statements lie in one another
abbrev pub IsShallow : Tree → Type 0
IsShallow tree = IsTrue (tree_fits tree MAX_DEPTH)

-- the tree that the tokens spell, or none, unless memory is refused
abbrev pub IsWhole : List Token → Result Tree ParseFault → Type 0
IsWhole tokens (Ok tree) = Spells tokens tree
IsWhole tokens (Err (LeftOut at)) = ⊥
IsWhole tokens (Err (TooDeep at)) = ⊥
IsWhole tokens (Err (Syntax at)) = SpellsNone tokens
IsWhole tokens (Err NoMemory) = Unit {0}

-- the outcome, wherever it ends, unless memory is refused
abbrev pub ReadsText : {A : Type 0} → Outcome A → Result A Fault → Type 0
ReadsText outcome (Ok x) = (q : Place) × (outcome ≡ Gives x q)
ReadsText outcome (Err (reading.Syntax at)) = outcome ≡ Refuses
ReadsText outcome (Err reading.NoMemory) = Unit {0}
