-- One step of looking at a part of a declaration: what its kind of node says, over what looking at its parts gives.
use Rattle.std.proofs.Common.{◌≡◌, ℕ, Bool, false, List, [], ◌∷◌, map, Option, Some, pos, refl, ap, ◌∙◌}
use Rattle.c_tree.specs.declared.expression.Declarator.{Declarator, out-Declarator}
use Rattle.c_tree.specs.declared.expression.EnumConstant.{EnumConstant, out-EnumConstant}
use Rattle.c_tree.specs.declared.expression.Expression.{Expression, out-Expression}
use Rattle.c_tree.specs.declared.expression.Member.{Member, out-Member}
use Rattle.c_tree.specs.declared.expression.Specifier.{Specifier, out-Specifier}
use Rattle.c_tree.specs.declared.expression.MemberLine.{MemberLine, out-MemberLine}
use Rattle.c_tree.specs.declared.expression.Parameter.{Parameter, out-Parameter}
use Rattle.c_tree.specs.declared.expression.TypeName.{TypeName, out-TypeName}
use Rattle.c_tree.specs.declared.expression.Declarator.TheOpen.{Declarator-F, EnumConstant-F, Expression-F, Member-F, Specifier-F, MemberLine-F, Parameter-F, TypeName-F}
use Rattle.c_tree.specs.declared.expression.Declarator.TheOpen.{Declarator-F as d, EnumConstant-F as c, Expression-F as e, Member-F as m, Specifier-F as s}
use Rattle.kv_num.specs.declared.types.IntType.TheVariants.{Int}
use Rattle.c_kinds.specs.declared.types.CType.{CType}
use Rattle.c_kinds.specs.Types.{integer}
use Rattle.c_rules.specs.Scopes.{State, passes, enter, note_if}
use Rattle.c_rules.specs.Specifiers.{Specified, no_specifiers, type_named, with_other, in_state}
use Rattle.c_rules.specs.Tags.{Counted, MemberSite, begins_enum}
use Rattle.c_rules.specs.Declarators.{Site, holds, is_no_result, next_parameter, only_void}
use Rattle.c_rules.specs.Recursion.{of_declarator, of_constant, of_expression, of_member, of_specifier, of_line, of_parameter, of_type_name}
use Rattle.c_rules.specs.Looks.{AtDeclarator, AtConstant, AtExpression, AtMember, AtSpecifier, AtLine, AtParameter, AtTypeName, struct_with, line_with, function_with, parameter_with, type_name_with}
use Rattle.c_rules.specs.Resolving as look
use Rattle.c_rules.specs.Resolving.{resolving, on_trees, build, count, resolve, add_member, specify, add_line, take_parameter, name_type}
use Rattle.c_rules.proofs.Recursion as step

-- ---- lists of parts

in_order_same : {A B : Type 0} (h : A → B) (g : B → State → State) (xs : List A) (st : State) → look.in_order g (map h xs) st ≡ look.in_order (λ x. g (h x)) xs st
in_order_same h g [] st = refl
in_order_same h g (x ∷ xs) st = in_order_same h g xs (g (h x) st)

empty_same : {A B : Type 0} (h : A → B) (xs : List A) → look.is_empty (map h xs) ≡ look.is_empty xs
empty_same h [] = refl
empty_same h (x ∷ xs) = refl

abbrev with_declarator : Declarator → Declarator × AtDeclarator
with_declarator y = (y, of_declarator resolving y)

abbrev with_constant : EnumConstant → EnumConstant × AtConstant
with_constant y = (y, of_constant resolving y)

abbrev with_expression : Expression → Expression × AtExpression
with_expression y = (y, of_expression resolving y)

abbrev with_member : Member → Member × AtMember
with_member y = (y, of_member resolving y)

abbrev with_specifier : Specifier → Specifier × AtSpecifier
with_specifier y = (y, of_specifier resolving y)

abbrev with_line : MemberLine → MemberLine × AtLine
with_line y = (y, of_line resolving y)

abbrev with_parameter : Parameter → Parameter × AtParameter
with_parameter y = (y, of_parameter resolving y)

abbrev with_type_name : TypeName → TypeName × AtTypeName
with_type_name y = (y, of_type_name resolving y)

first_same : (xs : List Specifier) → look.first_of look.beside (map with_specifier xs) ≡ look.first_of on_trees xs
unfolding build count resolve add_member specify add_line take_parameter name_type
first_same [] = refl
first_same (x ∷ xs) = refl

specified_same : (is_alone : Bool) (xs : List Specifier) (x : Specified) → look.specified_from look.beside is_alone (map with_specifier xs) x ≡ look.specified_from on_trees is_alone xs x
unfolding build count resolve add_member specify add_line take_parameter name_type
specified_same is_alone [] x = refl
specified_same is_alone (y ∷ ys) x = specified_same is_alone ys (of_specifier resolving y is_alone x)

named_same : (xs : List Specifier) (st : State) → look.named_by look.beside (map with_specifier xs) st ≡ look.named_by on_trees xs st
unfolding build count resolve add_member specify add_line take_parameter name_type
named_same xs st =
    ap (λ first. type_named first (look.specified_from look.beside false (map with_specifier xs) (no_specifiers st))) (first_same xs)
    ∙ ap (type_named (look.first_of on_trees xs)) (specified_same false xs (no_specifiers st))

counted_same : (xs : List EnumConstant) (n : Counted) → look.counted look.beside (map with_constant xs) n ≡ look.counted on_trees xs n
unfolding build count resolve add_member specify add_line take_parameter name_type
counted_same [] n = refl
counted_same (x ∷ xs) n = counted_same xs (of_constant resolving x n)

listed_same : (ps : List Parameter) (st : State) → look.listed look.beside (map with_parameter ps) st ≡ look.listed on_trees ps st
unfolding build count resolve add_member specify add_line take_parameter name_type
listed_same [] st = refl
listed_same (p ∷ ps) st = ap (next_parameter (of_parameter resolving p st)) (λ i now. listed_same ps now i)

parameters_same : (variadic : Option ℕ) (ps : List Parameter) (st : State) → look.parameters_of look.beside variadic (map with_parameter ps) st ≡ look.parameters_of on_trees variadic ps st
unfolding build count resolve add_member specify add_line take_parameter name_type
parameters_same variadic [] st = refl
parameters_same variadic (p ∷ []) st = ap (only_void variadic (of_parameter resolving p st)) (listed_same (p ∷ []) st)
parameters_same variadic (p ∷ (q ∷ ps)) st = listed_same (p ∷ (q ∷ ps)) st

-- ---- nodes

node_declarator : (l : Declarator-F Declarator EnumConstant Expression Member Specifier MemberLine Parameter TypeName) → look.declarator_node look.beside (step.declarator_beside resolving l) ≡ look.declarator_node on_trees l
unfolding build count resolve add_member specify add_line take_parameter name_type
node_declarator (d.«Declarator::Function» inside ps variadic at) =
    λ i site t now. function_with (of_declarator resolving inside) inside variadic at site t (parameters_same variadic ps (enter (note_if (holds is_no_result t) site.first 24 now)) i)
node_declarator _ = refl

node_constant : (l : EnumConstant-F Declarator EnumConstant Expression Member Specifier MemberLine Parameter TypeName) → look.constant_node look.beside (step.constant_beside resolving l) ≡ look.constant_node on_trees l
unfolding build count resolve add_member specify add_line take_parameter name_type
node_constant (c.Next name at) = refl
node_constant _ = refl

node_expression : (l : Expression-F Declarator EnumConstant Expression Member Specifier MemberLine Parameter TypeName) → look.resolve_node look.beside (step.expression_beside resolving l) ≡ look.resolve_node on_trees l
unfolding build count resolve add_member specify add_line take_parameter name_type
node_expression (e.Call function arguments at) = λ i now. in_order_same with_expression (λ x. x.1) arguments (passes at (of_expression resolving function now)) i
node_expression (e.Comma parts at) = λ i now. in_order_same with_expression (λ x. x.1) parts now i
node_expression _ = refl

node_member : (l : Member-F Declarator EnumConstant Expression Member Specifier MemberLine Parameter TypeName) → look.member_node look.beside (step.member_beside resolving l) ≡ look.member_node on_trees l
unfolding build count resolve add_member specify add_line take_parameter name_type
node_member (m.Plain x) = refl
node_member _ = refl

node_specifier : (l : Specifier-F Declarator EnumConstant Expression Member Specifier MemberLine Parameter TypeName) → look.specifier_node look.beside (step.specifier_beside resolving l) ≡ look.specifier_node on_trees l
unfolding build count resolve add_member specify add_line take_parameter name_type
node_specifier (s.Struct tag lines at) =
    λ i is_alone x. struct_with tag at x (empty_same with_line lines i) (λ n now. in_order_same with_line (λ y. y.1 n) lines now i)
node_specifier (s.Enum tag constants at) =
    λ i is_alone x. with_other (Some (integer Int)) (in_state (counted_same constants (record { state = begins_enum tag at x.state; next = Some (pos 0) }) i).state x)
node_specifier _ = refl

node_line : (l : MemberLine-F Declarator EnumConstant Expression Member Specifier MemberLine Parameter TypeName) → look.line_node look.beside (step.line_beside resolving l) ≡ look.line_node on_trees l
unfolding build count resolve add_member specify add_line take_parameter name_type
node_line l = λ i n now. line_with n (first_same l.specifiers i) (named_same l.specifiers now i) (λ site later. in_order_same with_member (λ y. y.1 site) l.members later i)

node_parameter : (l : Parameter-F Declarator EnumConstant Expression Member Specifier MemberLine Parameter TypeName) → look.parameter_node look.beside (step.parameter_beside resolving l) ≡ look.parameter_node on_trees l
unfolding build count resolve add_member specify add_line take_parameter name_type
node_parameter l = λ i now. parameter_with (of_declarator resolving l.declarator) (first_same l.specifiers i) (named_same l.specifiers now i)

node_type_name : (l : TypeName-F Declarator EnumConstant Expression Member Specifier MemberLine Parameter TypeName) → look.type_name_node look.beside (step.type_name_beside resolving l) ≡ look.type_name_node on_trees l
unfolding build count resolve add_member specify add_line take_parameter name_type
node_type_name l = λ i now. type_name_with (of_declarator resolving l.declarator) (first_same l.specifiers i) (named_same l.specifiers now i)

-- ---- over trees

pub build_is : (y : Declarator) (site : Site) (t : Option CType) (st : State) → build y site t st ≡ look.declarator_node on_trees (out-Declarator y) site t st
unfolding build count resolve add_member specify add_line take_parameter name_type
build_is y site t st = ap (λ f. f site t st) (step.declarator_is resolving y ∙ node_declarator (out-Declarator y))

pub count_is : (y : EnumConstant) (n : Counted) → count y n ≡ look.constant_node on_trees (out-EnumConstant y) n
unfolding build count resolve add_member specify add_line take_parameter name_type
count_is y n = ap (λ f. f n) (step.constant_is resolving y ∙ node_constant (out-EnumConstant y))

pub resolve_is : (y : Expression) (st : State) → resolve y st ≡ look.resolve_node on_trees (out-Expression y) st
unfolding build count resolve add_member specify add_line take_parameter name_type
resolve_is y st = ap (λ f. f st) (step.expression_is resolving y ∙ node_expression (out-Expression y))

pub add_member_is : (y : Member) (site : MemberSite) (st : State) → add_member y site st ≡ look.member_node on_trees (out-Member y) site st
unfolding build count resolve add_member specify add_line take_parameter name_type
add_member_is y site st = ap (λ f. f site st) (step.member_is resolving y ∙ node_member (out-Member y))

pub specify_is : (y : Specifier) (is_alone : Bool) (x : Specified) → specify y is_alone x ≡ look.specifier_node on_trees (out-Specifier y) is_alone x
unfolding build count resolve add_member specify add_line take_parameter name_type
specify_is y is_alone x = ap (λ f. f is_alone x) (step.specifier_is resolving y ∙ node_specifier (out-Specifier y))

pub add_line_is : (y : MemberLine) (n : ℕ) (st : State) → add_line y n st ≡ look.line_node on_trees (out-MemberLine y) n st
unfolding build count resolve add_member specify add_line take_parameter name_type
add_line_is y n st = ap (λ f. f n st) (step.line_is resolving y ∙ node_line (out-MemberLine y))

pub take_parameter_is : (y : Parameter) (st : State) → take_parameter y st ≡ look.parameter_node on_trees (out-Parameter y) st
unfolding build count resolve add_member specify add_line take_parameter name_type
take_parameter_is y st = ap (λ f. f st) (step.parameter_is resolving y ∙ node_parameter (out-Parameter y))

pub name_type_is : (y : TypeName) (st : State) → name_type y st ≡ look.type_name_node on_trees (out-TypeName y) st
unfolding build count resolve add_member specify add_line take_parameter name_type
name_type_is y st = ap (λ f. f st) (step.type_name_is resolving y ∙ node_type_name (out-TypeName y))
