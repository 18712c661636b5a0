-- What the laws say.
use Rattle.std.specs.Prelude.{◌≡◌, ℕ, false, List, Option, Some}
use Rattle.c_tree.specs.declared.expression.Expression.{Expression, out-Expression}
use Rattle.c_tree.specs.declared.expression.Declarator.TheOpen.{Expression-F as e}
use Rattle.c_tree.specs.declared.statement.Statement.{Statement, out-Statement}
use Rattle.c_tree.specs.declared.declaration.Initialiser.{Initialiser, out-Initialiser}
use Rattle.c_kinds.specs.declared.types.CType.{CType}
use Rattle.c_kinds.specs.Types.{is_function}
use Rattle.c_rules.specs.declared.names.Meaning.{Meaning}
use Rattle.c_rules.specs.declared.names.Meaning.TheVariants as meaning
use Rattle.c_rules.specs.declared.program.Program.{Program}
use Rattle.c_rules.specs.Accepted.{IsAcceptedProgram}
use Rattle.c_model.specs.Configurations.{Item, Value, Place, Work, Fills, State}
use Rattle.c_model.specs.declared.values.Scalar.{Scalar}
use Rattle.c_model.specs.Programs.{ExpressionNode, token_of, meaning_at, type_of}
use Rattle.c_heads.specs.Controls.{running_in}
use Rattle.c_heads.specs.Sound.{IsFilled, IsTypedValue, IsTypedPlace, IsTypedStatement, JumpsInside, IsNext}

-- no `break` or `continue` leaves a function
abbrev pub JumpsStayInside : Type 0
JumpsStayInside = (p : Program) → IsAcceptedProgram p → (c : State) (item : Item) (rest : List Item) → IsNext p c item rest → JumpsInside item rest

-- what is returned converts to the type of the function's result
abbrev pub ReturnsFit : Type 0
ReturnsFit = (p : Program) → IsAcceptedProgram p → (c : State) (s : Statement) (rest : List Item) → IsNext p c (Work s) rest → IsTypedStatement p (running_in rest) (out-Statement s)

abbrev pub IsNoConstant : Option Meaning → Type 0
IsNoConstant (Some (meaning.Constant n)) = ⊥
IsNoConstant _ = Unit {0}

abbrev pub IsKnownMeaning : Option Meaning → Type 0
IsKnownMeaning (Some (meaning.Known function)) = Unit {0}
IsKnownMeaning _ = ⊥

-- constants, enumeration constants and calls are left out, but for calls of known functions that aren't declared
abbrev pub IsOperation : Program → ExpressionNode → Type 0
IsOperation p (e.«Expression::Name» name at) = IsNoConstant (meaning_at p at)
IsOperation p (e.Constant kind value at) = ⊥
IsOperation p (e.Text at) = ⊥
IsOperation p (e.Call function arguments at) = IsKnownMeaning (meaning_at p (token_of function))
IsOperation p _ = Unit {0}

-- each expression has the type that its operator gives
abbrev pub OperationsHaveTypes : Type 0
OperationsHaveTypes = (p : Program) → IsAcceptedProgram p → (c : State) (x : Expression) (found : List (List Scalar)) (rest : List Item) → IsNext p c (Value x found) rest
    → IsOperation p (out-Expression x) → IsTypedValue p (type_of p x) (out-Expression x)

-- `object.name` and `pointer->name` are left out
abbrev pub IsNoMember : ExpressionNode → Type 0
IsNoMember (e.Member object name at) = ⊥
IsNoMember (e.PointedMember pointer name at) = ⊥
IsNoMember _ = Unit {0}

-- each place is of the type that its operator gives
abbrev pub PlacesHaveTypes : Type 0
PlacesHaveTypes = (p : Program) → IsAcceptedProgram p → (c : State) (x : Expression) (found : List (List Scalar)) (rest : List Item) → IsNext p c (Place x found) rest
    → IsNoMember (out-Expression x) → IsTypedPlace p (type_of p x) (out-Expression x)

-- what is given for a part of an object converts to the part's type; no object is a function
abbrev pub InitialisersConvert : Type 0
InitialisersConvert = (p : Program) → IsAcceptedProgram p → (c : State) (number offset : ℕ) (to : CType) (x : Initialiser) (rest : List Item) → IsNext p c (Fills number offset to x) rest
    → is_function to ≡ false → IsFilled p to (out-Initialiser x)
