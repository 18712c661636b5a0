-- What the names in expressions and type names stand for, and what specifiers and declarators declare: one case for each kind
-- of node. Each node is looked at from the state before it and gives the state after it. Sections are those of
-- ISO/IEC 9899:2011.
use Rattle.std.specs.Prelude.{ℕ, ◌+◌, pos, Bool, true, false, not, List, [], ◌∷◌, ◌++◌, Option, Some, None}
use Rattle.kv_num.specs.declared.types.IntType.TheVariants.{Int}
use Rattle.c_tree.specs.declared.expression.Expression.{Expression}
use Rattle.c_tree.specs.declared.expression.Specifier.{Specifier}
use Rattle.c_tree.specs.declared.expression.Declarator.{Declarator}
use Rattle.c_tree.specs.declared.expression.EnumConstant.{EnumConstant}
use Rattle.c_tree.specs.declared.expression.Member.{Member}
use Rattle.c_tree.specs.declared.expression.MemberLine.{MemberLine}
use Rattle.c_tree.specs.declared.expression.Parameter.{Parameter}
use Rattle.c_tree.specs.declared.expression.TypeName.{TypeName}
use Rattle.c_tree.specs.declared.expression.Declarator.TheOpen.{Declarator-F, EnumConstant-F, Expression-F, Member-F, Specifier-F, MemberLine-F, Parameter-F, TypeName-F}
use Rattle.c_tree.specs.declared.expression.Declarator.TheOpen.{Declarator-F as d, EnumConstant-F as c, Expression-F as e, Member-F as m, Specifier-F as s}
use Rattle.c_kinds.specs.declared.types.CType.{CType}
use Rattle.c_kinds.specs.Types.{integer}
use Rattle.c_rules.specs.declared.names.Declares.{Declares}
use Rattle.c_rules.specs.declared.names.Declares.TheVariants as declares
use Rattle.c_rules.specs.declared.names.Meaning.{Meaning}
use Rattle.c_rules.specs.declared.names.Meaning.TheVariants as meaning
use Rattle.c_rules.specs.Recursion.{Nodes, of_constant, of_declarator, of_expression, of_line, of_member, of_parameter, of_specifier, of_type_name}
use Rattle.c_rules.specs.Looks.{AtExpression, AtDeclarator, AtConstant, AtMember, AtSpecifier, AtLine, AtParameter, TypeNamed, AtTypeName, Looks, member_site, struct_with, line_with, function_with, parameter_with, type_name_with}
use Rattle.c_rules.specs.Scopes.{State, find, enter, note, note_if, note_all, mean, passes, answer_at}
use Rattle.c_rules.specs.KnownFunctions.{known_named}
use Rattle.c_rules.specs.Specifiers.{Specified, no_specifiers, with_other, in_state, stored, qualified, Named, type_named, specifier_at}
use Rattle.c_rules.specs.Tags.{struct_tag, enum_named, begins_enum, typedef_named, Counted, counts, counts_value, MemberSite, names_member}
use Rattle.c_rules.specs.Declarators.{Site, Built, name_built, holds, const_among, volatile_from, is_unpointed, pointer_if, with_pointers, length_at, array_with, open_length, is_no_result, ParameterBuilt, Listed, next_parameter, only_void}
use Rattle.c_rules.specs.Broken.{pair_if}
use Rattle.c_rules.specs.Calls.{is_some}

-- ---- names in expressions (6.5.1)

-- what a declaration of an ordinary name means where the name is used
abbrev pub means : Declares → Option Meaning
means (declares.Object number) = Some (meaning.Object number)
means (declares.Constant n) = Some (meaning.Constant n)
means (declares.Function number) = Some (meaning.Function number)
means _ = None

abbrev pub known_meaning : State → List ℕ → Option Meaning
known_meaning st name = elim (known_named st.model name) as (λ _. Option Meaning) [ None ↦ None | Some function ↦ Some (meaning.Known function) ]

-- the newest declaration in scope, or else a known function
abbrev pub meaning_of : State → List ℕ → Option Meaning
meaning_of st name = elim (find st.ordinary name) as (λ _. Option Meaning) [ None ↦ known_meaning st name | Some entry ↦ means entry.declares ]

abbrev pub mean_if : ℕ → Option Meaning → State → State
mean_if at None st = st
mean_if at (Some m) st = mean at m st

abbrev pub resolves : List ℕ → ℕ → State → State
resolves name at st = passes at (mean_if at (meaning_of st name) st)

-- nothing under `sizeof` is evaluated (6.5.3.4p2)
abbrev pub unevaluated : AtExpression → State → State
unevaluated look st = record (look (record st { is_unevaluated = true })) { is_unevaluated = st.is_unevaluated }

abbrev pub means_type : ℕ → TypeNamed → State
means_type at x = mean at (meaning.Type x.ctype x.star) x.state

-- a type name under `sizeof`
abbrev pub sizes_type : ℕ → AtTypeName → State → State
sizes_type at look st = unevaluated (λ now. means_type at (look now)) st

abbrev pub in_order : {A : Type 0} → (A → State → State) → List A → State → State
in_order f [] st = st
in_order f (x ∷ xs) st = in_order f xs (f x st)

abbrev pub is_empty : {A : Type 0} → List A → Bool
is_empty [] = true
is_empty (x ∷ xs) = false

module _ {D C E M S L P T : Type 0} where
  abbrev pub resolve_node : Looks D C E M S L P T → Expression-F D C E M S L P T → AtExpression
  resolve_node w (e.«Expression::Name» name at) st = resolves name at st
  resolve_node w (e.Constant kind n at) st = passes at st
  resolve_node w (e.Text at) st = passes at st
  resolve_node w (e.Subscript array index at) st = w.expression index (w.expression array st)
  resolve_node w (e.Call function arguments at) st = in_order w.expression arguments (passes at (w.expression function st))
  resolve_node w (e.Member object name at) st = passes (at + 1) (w.expression object st)
  resolve_node w (e.PointedMember pointer name at) st = passes (at + 1) (w.expression pointer st)
  resolve_node w (e.Postfix step operand at) st = passes at (w.expression operand st)
  resolve_node w (e.Prefix step operand at) st = w.expression operand st
  resolve_node w (e.Unary operator operand at) st = w.expression operand st
  resolve_node w (e.SizeofExpression operand at) st = unevaluated (w.expression operand) st
  resolve_node w (e.SizeofType type_name at) st = sizes_type at (w.type_name type_name) (passes at st)
  resolve_node w (e.Cast type_name operand at) st = w.expression operand (means_type at (w.type_name type_name st))
  resolve_node w (e.Binary operator left right at) st = w.expression right (w.expression left st)
  resolve_node w (e.Conditional test first otherwise at) st = w.expression otherwise (w.expression first (w.expression test st))
  resolve_node w (e.Assign operator target value at) st = w.expression value (w.expression target st)
  resolve_node w (e.Comma parts at) st = in_order w.expression parts st

  -- ---- specifiers (6.7)

  abbrev pub first_of : Looks D C E M S L P T → List S → ℕ
  first_of w [] = 0
  first_of w (x ∷ xs) = specifier_at (w.word x)

  abbrev pub specified_from : Looks D C E M S L P T → Bool → List S → Specified → Specified
  specified_from w is_alone [] x = x
  specified_from w is_alone (y ∷ ys) x = specified_from w is_alone ys (w.specifier y is_alone x)

  abbrev pub named_by : Looks D C E M S L P T → List S → State → Named
  named_by w xs st = type_named (first_of w xs) (specified_from w false xs (no_specifiers st))

  abbrev pub lines_of : Looks D C E M S L P T → ℕ → List L → State → State
  lines_of w n xs st = in_order (λ x. w.line x n) xs st

  -- the members of a struct between its braces
  abbrev pub struct_node : Looks D C E M S L P T → Option (List ℕ) → List L → ℕ → Specified → Specified
  struct_node w tag lines at x = struct_with tag at x (is_empty lines) (λ n st. lines_of w n lines st)

  abbrev pub counted : Looks D C E M S L P T → List C → Counted → Counted
  counted w [] n = n
  counted w (x ∷ xs) n = counted w xs (w.constant x n)

  abbrev pub enum_node : Looks D C E M S L P T → Option (List ℕ) → List C → ℕ → Specified → Specified
  enum_node w tag constants at x =
      with_other (Some (integer Int)) (in_state (counted w constants (record { state = begins_enum tag at x.state; next = Some (pos 0) })).state x)

  abbrev pub specifier_node : Looks D C E M S L P T → Specifier-F D C E M S L P T → AtSpecifier
  specifier_node w (s.Storage which at) is_alone x = stored which x
  specifier_node w (s.«Specifier::Function» which at) is_alone x = x
  specifier_node w (s.Qualified q at) is_alone x = qualified q at x
  specifier_node w (s.Base which at) is_alone x = record x { words = x.words ++ which ∷ [] }
  specifier_node w (s.TypeWord kind at) is_alone x = with_other (Some (integer kind)) x
  specifier_node w (s.Struct tag lines at) is_alone x = struct_node w tag lines at x
  specifier_node w (s.StructTag tag at) is_alone x = struct_tag is_alone tag at x
  specifier_node w (s.Enum tag constants at) is_alone x = enum_node w tag constants at x
  specifier_node w (s.EnumTag tag at) is_alone x = enum_named at (find x.state.tags tag) x
  specifier_node w (s.TypedefName name at) is_alone x = typedef_named (find x.state.ordinary name) x

  -- the value of an enumeration constant begins two tokens after its name
  abbrev pub constant_node : Looks D C E M S L P T → EnumConstant-F D C E M S L P T → AtConstant
  constant_node w (c.Next name at) n = counts name at at n.next n.state
  constant_node w (c.Valued name value at) n =
      let st = w.expression value n.state in counts_value name at (at + 2) (answer_at (w.tree value) st) st

  -- ---- members (6.7.2.1)

  abbrev pub members_of : Looks D C E M S L P T → MemberSite → List M → State → State
  members_of w site xs st = in_order (λ x. w.member x site) xs st

  abbrev pub line_node : Looks D C E M S L P T → MemberLine-F D C E M S L P T → AtLine
  line_node w x n st = line_with n (first_of w x.specifiers) (named_by w x.specifiers st) (λ site now. members_of w site x.members now)

  -- a bit-field breaks rule 10 at its `:`
  abbrev pub member_node : Looks D C E M S L P T → Member-F D C E M S L P T → AtMember
  member_node w (m.Plain x) site st = names_member site (w.declarator x (member_site site) site.ctype st)
  member_node w (m.BitField x width at) site st = w.expression width (note at 10 (names_member site (w.declarator x (member_site site) site.ctype st)))
  member_node w (m.UnnamedBitField width at) site st = w.expression width (note at 10 st)

  -- ---- declarators (6.7.6): the type is made from the outside in

  abbrev pub listed : Looks D C E M S L P T → List P → State → Listed
  listed w [] st = record { state = st; types = []; pointers = []; in_definition = [] }
  listed w (p ∷ ps) st = next_parameter (w.parameter p st) (listed w ps)

  abbrev pub parameters_of : Looks D C E M S L P T → Option ℕ → List P → State → Listed
  parameters_of w variadic (p ∷ []) st = only_void variadic (w.parameter p st) (listed w (p ∷ []) st)
  parameters_of w variadic ps st = listed w ps st

  abbrev pub function_node : Looks D C E M S L P T → D → List P → Option ℕ → ℕ → Site → Option CType → State → Built
  function_node w inside ps variadic at site t st =
      function_with (w.declarator inside) (w.form inside) variadic at site t (parameters_of w variadic ps (enter (note_if (holds is_no_result t) site.first 24 st)))

  abbrev pub array_node : Looks D C E M S L P T → D → E → ℕ → Site → Option CType → State → Built
  array_node w inside size at site t st =
      let now = w.expression size st in
      let n = length_at at (answer_at (w.tree size) now) now in
      array_with site at n.length t (w.declarator inside site) n.state

  -- rule 8 at a `[` without a size, but for a first one that is given elsewhere
  abbrev pub open_array_node : Looks D C E M S L P T → D → ℕ → Site → Option CType → State → Built
  open_array_node w inside at site t st =
      let n = open_length site (w.form inside) in array_with site at n t (w.declarator inside site) (note_if (not (is_some n)) at 8 st)

  abbrev pub pointer_node : Looks D C E M S L P T → D → Bool → ℕ → Site → Option CType → State → Built
  pointer_node w inside is_const at site t st = with_pointers (pair_if (holds is_unpointed t) at 9) (w.declarator inside site (pointer_if is_const t) st)

  abbrev pub declarator_node : Looks D C E M S L P T → Declarator-F D C E M S L P T → AtDeclarator
  declarator_node w (d.«Declarator::Name» name at) site t st = name_built t (Some name) at (passes at st)
  declarator_node w (d.Unnamed at) site t st = name_built t None at st
  declarator_node w (d.Pointer qualifiers inside at) site t st =
      pointer_node w inside (const_among qualifiers) at site t (note_all (volatile_from (at + 1) qualifiers) st)
  declarator_node w (d.Array inside size at) site t st = array_node w inside size at site t (passes at st)
  declarator_node w (d.OpenArray inside at) site t st = open_array_node w inside at site t (passes at st)
  declarator_node w (d.«Declarator::Function» inside ps variadic at) site t st = function_node w inside ps variadic at site t st

  -- 6.7.6.3
  abbrev pub parameter_node : Looks D C E M S L P T → Parameter-F D C E M S L P T → AtParameter
  parameter_node w x st = parameter_with (w.declarator x.declarator) (first_of w x.specifiers) (named_by w x.specifiers st)

  -- 6.7.7
  abbrev pub type_name_node : Looks D C E M S L P T → TypeName-F D C E M S L P T → AtTypeName
  type_name_node w x st = type_name_with (w.declarator x.declarator) (first_of w x.specifiers) (named_by w x.specifiers st)

-- ---- over trees

abbrev pub beside : Looks (Declarator × AtDeclarator) (EnumConstant × AtConstant) (Expression × AtExpression) (Member × AtMember) (Specifier × AtSpecifier) (MemberLine × AtLine) (Parameter × AtParameter) (TypeName × AtTypeName)
beside = record {
  declarator = λ x. x.1;
  form = λ x. x.0;
  constant = λ x. x.1;
  expression = λ x. x.1;
  tree = λ x. x.0;
  member = λ x. x.1;
  specifier = λ x. x.1;
  word = λ x. x.0;
  line = λ x. x.1;
  parameter = λ x. x.1;
  type_name = λ x. x.1;
}

abbrev pub resolving : Nodes AtDeclarator AtConstant AtExpression AtMember AtSpecifier AtLine AtParameter AtTypeName
resolving = record {
  declarator = declarator_node beside;
  constant = constant_node beside;
  expression = resolve_node beside;
  member = member_node beside;
  specifier = specifier_node beside;
  line = line_node beside;
  parameter = parameter_node beside;
  type_name = type_name_node beside;
}

-- the names in an expression
unfoldable pub resolve : Expression → State → State
resolve x = of_expression resolving x

unfoldable pub build : Declarator → Site → Option CType → State → Built
build x = of_declarator resolving x

unfoldable pub specify : Specifier → Bool → Specified → Specified
specify x = of_specifier resolving x

unfoldable pub count : EnumConstant → Counted → Counted
count x = of_constant resolving x

unfoldable pub add_member : Member → MemberSite → State → State
add_member x = of_member resolving x

unfoldable pub add_line : MemberLine → ℕ → State → State
add_line x = of_line resolving x

unfoldable pub take_parameter : Parameter → State → ParameterBuilt
take_parameter x = of_parameter resolving x

unfoldable pub name_type : TypeName → State → TypeNamed
name_type x = of_type_name resolving x

-- a node is looked at as its kind says, with its parts looked at so
abbrev pub on_trees : Looks Declarator EnumConstant Expression Member Specifier MemberLine Parameter TypeName
on_trees = record {
  declarator = build;
  form = λ x. x;
  constant = count;
  expression = resolve;
  tree = λ x. x;
  member = add_member;
  specifier = specify;
  word = λ x. x;
  line = add_line;
  parameter = take_parameter;
  type_name = name_type;
}

-- the specifiers of a declaration, in order; a single one may be the whole declaration
abbrev pub specify_from : Bool → List Specifier → Specified → Specified
specify_from is_alone [] x = x
specify_from is_alone (y ∷ ys) x = specify_from is_alone ys (specify y is_alone x)

abbrev pub specify_all : Bool → List Specifier → State → Specified
specify_all is_alone xs st = specify_from is_alone xs (no_specifiers st)
