-- Accepted and refused texts and programs.
use Rattle.std.specs.Prelude.{◌≡◌, ⊤, false, List, [], ◌++◌, Option, Some, None, slice_get}
use Rattle.std.specs.List.{All}
use Rattle.c_tokens.specs.declared.data_model.DataModel.{DataModel}
use Rattle.c_tree.specs.declared.expression.Expression.{Expression}
use Rattle.c_tree.specs.declared.declaration.Tree.{Tree}
use Rattle.c_kinds.specs.declared.types.CType.{CType}
use Rattle.c_kinds.specs.declared.answer.Answer.{Answer}
use Rattle.c_kinds.specs.declared.answer.Answer.TheVariants.{Gives}
use Rattle.c_rules.specs.declared.program.Program.{Program}
use Rattle.c_rules.specs.declared.names.Pair.{Pair}
use Rattle.c_rules.specs.Broken.{of_each, least}
use Rattle.c_rules.specs.Typing.{Given, answer_of}
use Rattle.c_rules.specs.Found.{answers_in_text}
use Rattle.c_rules.specs.Texts.{names_of}
use Rattle.c_rules.specs.Statements.{CaseLabel, OfCase, OfDefault, broken_external}
use Rattle.c_rules.specs.Labels.{labels_in_text}
use Rattle.c_rules.specs.Sequencing.{broken_sequencing}
use Rattle.c_rules.specs.Told.{untold, end_of}

-- what the names of a text stand for in a data model
abbrev pub given_of : DataModel → Tree → Given
given_of model tree = record { names = names_of model tree; model = model }

-- the rules that a text breaks, with their places: those of its declarations, of its expressions and statements, and of the
-- order of side effects and calls; what stands after the last token is named only where nothing before it is
abbrev pub broken_pairs : DataModel → Tree → List Pair
broken_pairs model tree =
    (names_of model tree).broken ++ of_each (broken_external (given_of model tree)) tree.externals ++ broken_sequencing (given_of model tree) tree.externals ++ untold (end_of tree) (names_of model tree)

-- the text breaks no rule
abbrev pub Accepted : DataModel → Tree → Type 0
Accepted model tree = broken_pairs model tree ≡ []

-- it is refused for the least of its broken pairs
abbrev pub Refused : DataModel → Tree → Pair → Type 0
Refused model tree p = least (broken_pairs model tree) ≡ Some p

-- ---- programs

-- what the names of a program stand for
abbrev pub given_in : Program → Given
given_in p = record { names = p.names; model = p.checks.model }

abbrev pub type_by : Answer → Option CType
type_by (Gives x) = Some x.ctype
type_by _ = None

-- the table has the type of each expression of the text, at its token
abbrev pub HasTypes : Program → Type 0
HasTypes p = All (λ x. slice_get p.types.expressions x.at ≡ Some (type_by x.answer)) (answers_in_text (given_in p) p.tree)

abbrev pub HasCase : Program → CaseLabel → Type 0
HasCase p (OfCase at n) = slice_get p.types.cases at ≡ Some (Some n)
HasCase p (OfDefault at) = ⊤

-- and the value of each case, converted, at its `case`
abbrev pub HasCases : Program → Type 0
HasCases p = All (HasCase p) (labels_in_text (given_in p) p.tree)

-- an accepted text with what its names stand for, the types of its expressions and the values of its cases
pub record IsAcceptedProgram (p : Program) : Type 0 where
  pub accepted : Accepted p.checks.model p.tree
  pub names : p.names ≡ names_of p.checks.model p.tree
  pub types : HasTypes p
  pub cases : HasCases p

-- the type of an expression of a program, before conversions
abbrev pub type_in : Program → Expression → Option CType
type_in p x = type_by (answer_of (given_in p) x false)
