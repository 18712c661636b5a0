-- What looking at each part of a declaration gives, from the state before it, and what is made of parts that were looked at.
-- Sections are those of ISO/IEC 9899:2011.
use Rattle.std.specs.Prelude.{ℕ, Bool, true, false, if◌then◌else◌, List, ◌++◌, Option, Some, None, is_some}
use Rattle.c_tree.specs.declared.expression.Expression.{Expression}
use Rattle.c_tree.specs.declared.expression.Specifier.{Specifier}
use Rattle.c_tree.specs.declared.expression.Declarator.{Declarator}
use Rattle.c_kinds.specs.declared.types.CType.{CType}
use Rattle.c_rules.specs.Scopes.{State, leave, block_of}
use Rattle.c_rules.specs.Specifiers.{Specified, with_other, in_state, Named}
use Rattle.c_rules.specs.Tags.{tag_at, begins_struct, ends_struct, struct_type, Counted, MemberSite}
use Rattle.c_rules.specs.Declarators.{Needed, OfParameter, Site, Built, is_direct, signature_of, all_types, function_by, ParameterBuilt, parameter_built, Listed}
use Rattle.c_rules.specs.declared.names.Pair.{Pair}
use Rattle.c_rules.specs.Broken.{least}

-- ---- what looking at a part gives

abbrev pub AtExpression : Type 0
AtExpression = State → State

abbrev pub AtDeclarator : Type 0
AtDeclarator = Site → Option CType → State → Built

abbrev pub AtConstant : Type 0
AtConstant = Counted → Counted

abbrev pub AtMember : Type 0
AtMember = MemberSite → State → State

-- whether the specifier is a whole declaration
abbrev pub AtSpecifier : Type 0
AtSpecifier = Bool → Specified → Specified

-- a line of the struct of this number
abbrev pub AtLine : Type 0
AtLine = ℕ → State → State

abbrev pub AtParameter : Type 0
AtParameter = State → ParameterBuilt

pub record TypeNamed : Type 0 where
  pub state : State
  pub ctype : Option CType
  pub star : Option ℕ

abbrev pub AtTypeName : Type 0
AtTypeName = State → TypeNamed

-- how the parts of a node are looked at; `size` and `form` are the part itself
pub record Looks (D C E M S L P T : Type 0) : Type 0 where
  pub declarator : D → AtDeclarator
  pub form : D → Declarator
  pub constant : C → AtConstant
  pub expression : E → AtExpression
  pub tree : E → Expression
  pub member : M → AtMember
  pub specifier : S → AtSpecifier
  pub word : S → Specifier
  pub line : L → AtLine
  pub parameter : P → AtParameter
  pub type_name : T → AtTypeName

-- where a member, a parameter and a type name's declarator stand
abbrev pub member_site : MemberSite → Site
member_site site = record { first_size = Needed; first = site.first; is_type_name = false }

abbrev pub parameter_site : ℕ → Site
parameter_site first = record { first_size = OfParameter; first = first; is_type_name = false }

abbrev pub type_name_site : ℕ → Site
type_name_site first = record { first_size = Needed; first = first; is_type_name = true }

-- ---- what is made of parts that were looked at

-- a struct; `members` looks at the lines between its braces
abbrev pub struct_with : Option (List ℕ) → ℕ → Specified → Bool → (ℕ → State → State) → Specified
struct_with tag at x is_empty members =
    let begun = begins_struct tag at x.state in
    with_other (struct_type begun.number) (in_state (ends_struct begun.number is_empty (tag_at tag at) (members begun.number begun.state)) x)

abbrev pub line_with : ℕ → ℕ → Named → (MemberSite → State → State) → State
line_with n first k members = members (record { number = n; ctype = k.ctype; first = first }) k.state

-- a function with these parameters, which are a block of their own (6.2.1p4)
abbrev pub function_with : AtDeclarator → Declarator → Option ℕ → ℕ → Site → Option CType → Listed → Built
function_with inside form variadic at site t list =
    let made = function_by (signature_of t (all_types list.types) (is_some variadic)) (leave list.state) in
    let b = inside site made.ctype made.state in
    record b {
      pointers = list.pointers ++ b.pointers;
      in_definition = list.in_definition ++ b.in_definition;
      parameters = if is_direct form then Some (block_of list.state) else b.parameters;
      dots = if is_direct form then variadic else b.dots;
    }

abbrev pub parameter_with : AtDeclarator → ℕ → Named → ParameterBuilt
parameter_with inside first k = parameter_built (parameter_site first) (inside (parameter_site first) k.ctype k.state)

abbrev pub place_of : Option Pair → Option ℕ
place_of None = None
place_of (Some p) = Some p.at

-- the first `*` in a type name that makes a pointer to void, to an array or to a function is its star
abbrev pub type_name_with : AtDeclarator → ℕ → Named → TypeNamed
type_name_with inside first k =
    let b = inside (type_name_site first) k.ctype k.state in record { state = b.state; ctype = b.ctype; star = place_of (least b.pointers) }
