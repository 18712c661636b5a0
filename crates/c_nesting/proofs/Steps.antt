-- One step down a tree: how deep it is, over how deep its parts are.
use Rattle.std.proofs.Common.{◌≡◌, ℕ, zero, suc, ◌-◌, ◌<◌, false, List, [], ◌∷◌, ap, sym, ◌∙◌, refl, map, arith}
use Rattle.std.specs.Prelude.{◌&&◌}
use Rattle.c_tree.specs.declared.expression.Declarator.{Declarator, out-Declarator}
use Rattle.c_tree.specs.declared.expression.EnumConstant.{EnumConstant, out-EnumConstant}
use Rattle.c_tree.specs.declared.expression.Expression.{Expression, out-Expression}
use Rattle.c_tree.specs.declared.expression.Member.{Member, out-Member}
use Rattle.c_tree.specs.declared.expression.Specifier.{Specifier, out-Specifier}
use Rattle.c_tree.specs.declared.expression.MemberLine.{MemberLine, out-MemberLine}
use Rattle.c_tree.specs.declared.expression.Parameter.{Parameter, out-Parameter}
use Rattle.c_tree.specs.declared.expression.TypeName.{TypeName, out-TypeName}
use Rattle.c_tree.specs.declared.expression.Declarator.TheOpen.{Declarator-F, EnumConstant-F, Expression-F, Member-F, Specifier-F, MemberLine-F, Parameter-F, TypeName-F}
use Rattle.c_tree.specs.declared.expression.Declarator.TheOpen.{Declarator-F as d, EnumConstant-F as c, Expression-F as e, Member-F as m, Specifier-F as s}
use Rattle.c_tree.specs.declared.expression.Declarator.TheViews.{roll-Declarator, roll-out-Declarator, roll-EnumConstant, roll-out-EnumConstant, roll-Expression, roll-out-Expression, roll-Member, roll-out-Member, roll-Specifier, roll-out-Specifier, roll-MemberLine, roll-out-MemberLine, roll-Parameter, roll-out-Parameter, roll-TypeName, roll-out-TypeName}
use Rattle.c_tree.specs.declared.expression.Declarator.TheFolds.{map-Declarator, fold-roll-Declarator, map-EnumConstant, fold-roll-EnumConstant, map-Expression, fold-roll-Expression, map-Member, fold-roll-Member, map-Specifier, fold-roll-Specifier, map-MemberLine, fold-roll-MemberLine, map-Parameter, fold-roll-Parameter, map-TypeName, fold-roll-TypeName}
use Rattle.c_tree.specs.declared.declaration.Initialiser.{Initialiser, out-Initialiser}
use Rattle.c_tree.specs.declared.declaration.Initialiser.TheOpen.{Initialiser-F}
use Rattle.c_tree.specs.declared.declaration.Initialiser.TheOpen.{Initialiser-F as i}
use Rattle.c_tree.specs.declared.declaration.Initialiser.TheViews.{roll-Initialiser, roll-out-Initialiser}
use Rattle.c_tree.specs.declared.declaration.Initialiser.TheFolds.{map-Initialiser, fold-roll-Initialiser}
use Rattle.c_tree.specs.declared.statement.BlockItem.{BlockItem, out-BlockItem}
use Rattle.c_tree.specs.declared.statement.Statement.{Statement, out-Statement}
use Rattle.c_tree.specs.declared.statement.Branch.{Branch, out-Branch}
use Rattle.c_tree.specs.declared.statement.BlockItem.TheOpen.{BlockItem-F, Statement-F, Branch-F}
use Rattle.c_tree.specs.declared.statement.BlockItem.TheOpen.{BlockItem-F as b, Statement-F as t}
use Rattle.c_tree.specs.declared.statement.BlockItem.TheViews.{roll-Statement, roll-out-Statement, roll-BlockItem, roll-out-BlockItem, roll-Branch, roll-out-Branch}
use Rattle.c_tree.specs.declared.statement.BlockItem.TheFolds.{map-Statement, map-BlockItem, map-Branch, fold-roll-Statement, fold-roll-BlockItem, fold-roll-Branch}
use Rattle.c_nesting.specs.Depth.{Fits, each, over, folded, trees, declarator_parts, declarator_fits, constant_parts, constant_fits, expression_parts, expression_fits, member_parts, member_fits, specifier_parts, specifier_fits, line_parts, line_fits, parameter_parts, parameter_fits, type_name_parts, type_name_fits, initialiser_parts, initialiser_fits, bodies_folded, bodies, item_parts, item_fits, statement_parts, statement_fits, branch_parts, branch_fits}

each_is : {A : Type 0} (fits : A → Fits) (xs : List A) (n : ℕ) → each (λ (f : Fits). f) (map fits xs) n ≡ each fits xs n
each_is fits [] n = refl
each_is fits (x ∷ xs) n = ap (λ all. fits x n && all) (each_is fits xs n)

one_more : (n : ℕ) → 0 < n → n ≡ suc (n - 1)
one_more n h = omega arith

pub over_none : (f : Fits) (n : ℕ) → n ≡ 0 → over f n ≡ false
over_none f n e = ap (over f) e

pub over_one : (f : Fits) (n : ℕ) → 0 < n → over f n ≡ f (n - 1)
over_one f n h = ap (over f) (one_more n h)

over_is : (f g : Fits) (n : ℕ) → ((k : ℕ) → f k ≡ g k) → over f n ≡ over g n
over_is f g zero h = refl
over_is f g (suc n) h = h n

-- ---- expressions and types

abbrev layer_declarator : Declarator-F Declarator EnumConstant Expression Member Specifier MemberLine Parameter TypeName → Declarator-F Fits Fits Fits Fits Fits Fits Fits Fits
layer_declarator = map-Declarator Declarator EnumConstant Expression Member Specifier MemberLine Parameter TypeName Fits Fits Fits Fits Fits Fits Fits Fits declarator_fits constant_fits expression_fits member_fits specifier_fits line_fits parameter_fits type_name_fits

abbrev layer_constant : EnumConstant-F Declarator EnumConstant Expression Member Specifier MemberLine Parameter TypeName → EnumConstant-F Fits Fits Fits Fits Fits Fits Fits Fits
layer_constant = map-EnumConstant Declarator EnumConstant Expression Member Specifier MemberLine Parameter TypeName Fits Fits Fits Fits Fits Fits Fits Fits declarator_fits constant_fits expression_fits member_fits specifier_fits line_fits parameter_fits type_name_fits

abbrev layer_expression : Expression-F Declarator EnumConstant Expression Member Specifier MemberLine Parameter TypeName → Expression-F Fits Fits Fits Fits Fits Fits Fits Fits
layer_expression = map-Expression Declarator EnumConstant Expression Member Specifier MemberLine Parameter TypeName Fits Fits Fits Fits Fits Fits Fits Fits declarator_fits constant_fits expression_fits member_fits specifier_fits line_fits parameter_fits type_name_fits

abbrev layer_member : Member-F Declarator EnumConstant Expression Member Specifier MemberLine Parameter TypeName → Member-F Fits Fits Fits Fits Fits Fits Fits Fits
layer_member = map-Member Declarator EnumConstant Expression Member Specifier MemberLine Parameter TypeName Fits Fits Fits Fits Fits Fits Fits Fits declarator_fits constant_fits expression_fits member_fits specifier_fits line_fits parameter_fits type_name_fits

abbrev layer_specifier : Specifier-F Declarator EnumConstant Expression Member Specifier MemberLine Parameter TypeName → Specifier-F Fits Fits Fits Fits Fits Fits Fits Fits
layer_specifier = map-Specifier Declarator EnumConstant Expression Member Specifier MemberLine Parameter TypeName Fits Fits Fits Fits Fits Fits Fits Fits declarator_fits constant_fits expression_fits member_fits specifier_fits line_fits parameter_fits type_name_fits

abbrev layer_line : MemberLine-F Declarator EnumConstant Expression Member Specifier MemberLine Parameter TypeName → MemberLine-F Fits Fits Fits Fits Fits Fits Fits Fits
layer_line = map-MemberLine Declarator EnumConstant Expression Member Specifier MemberLine Parameter TypeName Fits Fits Fits Fits Fits Fits Fits Fits declarator_fits constant_fits expression_fits member_fits specifier_fits line_fits parameter_fits type_name_fits

abbrev layer_parameter : Parameter-F Declarator EnumConstant Expression Member Specifier MemberLine Parameter TypeName → Parameter-F Fits Fits Fits Fits Fits Fits Fits Fits
layer_parameter = map-Parameter Declarator EnumConstant Expression Member Specifier MemberLine Parameter TypeName Fits Fits Fits Fits Fits Fits Fits Fits declarator_fits constant_fits expression_fits member_fits specifier_fits line_fits parameter_fits type_name_fits

abbrev layer_type_name : TypeName-F Declarator EnumConstant Expression Member Specifier MemberLine Parameter TypeName → TypeName-F Fits Fits Fits Fits Fits Fits Fits Fits
layer_type_name = map-TypeName Declarator EnumConstant Expression Member Specifier MemberLine Parameter TypeName Fits Fits Fits Fits Fits Fits Fits Fits declarator_fits constant_fits expression_fits member_fits specifier_fits line_fits parameter_fits type_name_fits

rolled_declarator : (l : Declarator-F Declarator EnumConstant Expression Member Specifier MemberLine Parameter TypeName) → declarator_fits (roll-Declarator l) ≡ over (declarator_parts folded (layer_declarator l))
unfolding declarator_fits constant_fits expression_fits member_fits specifier_fits line_fits parameter_fits type_name_fits
rolled_declarator l = fold-roll-Declarator Fits Fits Fits Fits Fits Fits Fits Fits (λ l. over (declarator_parts folded l)) (constant_parts folded) (λ l. over (expression_parts folded l)) (member_parts folded) (λ l. over (specifier_parts folded l)) (line_parts folded) (parameter_parts folded) (type_name_parts folded) l

rolled_constant : (l : EnumConstant-F Declarator EnumConstant Expression Member Specifier MemberLine Parameter TypeName) → constant_fits (roll-EnumConstant l) ≡ constant_parts folded (layer_constant l)
unfolding declarator_fits constant_fits expression_fits member_fits specifier_fits line_fits parameter_fits type_name_fits
rolled_constant l = fold-roll-EnumConstant Fits Fits Fits Fits Fits Fits Fits Fits (λ l. over (declarator_parts folded l)) (constant_parts folded) (λ l. over (expression_parts folded l)) (member_parts folded) (λ l. over (specifier_parts folded l)) (line_parts folded) (parameter_parts folded) (type_name_parts folded) l

rolled_expression : (l : Expression-F Declarator EnumConstant Expression Member Specifier MemberLine Parameter TypeName) → expression_fits (roll-Expression l) ≡ over (expression_parts folded (layer_expression l))
unfolding declarator_fits constant_fits expression_fits member_fits specifier_fits line_fits parameter_fits type_name_fits
rolled_expression l = fold-roll-Expression Fits Fits Fits Fits Fits Fits Fits Fits (λ l. over (declarator_parts folded l)) (constant_parts folded) (λ l. over (expression_parts folded l)) (member_parts folded) (λ l. over (specifier_parts folded l)) (line_parts folded) (parameter_parts folded) (type_name_parts folded) l

rolled_member : (l : Member-F Declarator EnumConstant Expression Member Specifier MemberLine Parameter TypeName) → member_fits (roll-Member l) ≡ member_parts folded (layer_member l)
unfolding declarator_fits constant_fits expression_fits member_fits specifier_fits line_fits parameter_fits type_name_fits
rolled_member l = fold-roll-Member Fits Fits Fits Fits Fits Fits Fits Fits (λ l. over (declarator_parts folded l)) (constant_parts folded) (λ l. over (expression_parts folded l)) (member_parts folded) (λ l. over (specifier_parts folded l)) (line_parts folded) (parameter_parts folded) (type_name_parts folded) l

rolled_specifier : (l : Specifier-F Declarator EnumConstant Expression Member Specifier MemberLine Parameter TypeName) → specifier_fits (roll-Specifier l) ≡ over (specifier_parts folded (layer_specifier l))
unfolding declarator_fits constant_fits expression_fits member_fits specifier_fits line_fits parameter_fits type_name_fits
rolled_specifier l = fold-roll-Specifier Fits Fits Fits Fits Fits Fits Fits Fits (λ l. over (declarator_parts folded l)) (constant_parts folded) (λ l. over (expression_parts folded l)) (member_parts folded) (λ l. over (specifier_parts folded l)) (line_parts folded) (parameter_parts folded) (type_name_parts folded) l

rolled_line : (l : MemberLine-F Declarator EnumConstant Expression Member Specifier MemberLine Parameter TypeName) → line_fits (roll-MemberLine l) ≡ line_parts folded (layer_line l)
unfolding declarator_fits constant_fits expression_fits member_fits specifier_fits line_fits parameter_fits type_name_fits
rolled_line l = fold-roll-MemberLine Fits Fits Fits Fits Fits Fits Fits Fits (λ l. over (declarator_parts folded l)) (constant_parts folded) (λ l. over (expression_parts folded l)) (member_parts folded) (λ l. over (specifier_parts folded l)) (line_parts folded) (parameter_parts folded) (type_name_parts folded) l

rolled_parameter : (l : Parameter-F Declarator EnumConstant Expression Member Specifier MemberLine Parameter TypeName) → parameter_fits (roll-Parameter l) ≡ parameter_parts folded (layer_parameter l)
unfolding declarator_fits constant_fits expression_fits member_fits specifier_fits line_fits parameter_fits type_name_fits
rolled_parameter l = fold-roll-Parameter Fits Fits Fits Fits Fits Fits Fits Fits (λ l. over (declarator_parts folded l)) (constant_parts folded) (λ l. over (expression_parts folded l)) (member_parts folded) (λ l. over (specifier_parts folded l)) (line_parts folded) (parameter_parts folded) (type_name_parts folded) l

rolled_type_name : (l : TypeName-F Declarator EnumConstant Expression Member Specifier MemberLine Parameter TypeName) → type_name_fits (roll-TypeName l) ≡ type_name_parts folded (layer_type_name l)
unfolding declarator_fits constant_fits expression_fits member_fits specifier_fits line_fits parameter_fits type_name_fits
rolled_type_name l = fold-roll-TypeName Fits Fits Fits Fits Fits Fits Fits Fits (λ l. over (declarator_parts folded l)) (constant_parts folded) (λ l. over (expression_parts folded l)) (member_parts folded) (λ l. over (specifier_parts folded l)) (line_parts folded) (parameter_parts folded) (type_name_parts folded) l

same_declarator : (l : Declarator-F Declarator EnumConstant Expression Member Specifier MemberLine Parameter TypeName) (n : ℕ) → declarator_parts folded (layer_declarator l) n ≡ declarator_parts trees l n
same_declarator (d.«Declarator::Function» inner parameters variadic at) n = ap (λ all. declarator_fits inner n && all) (each_is parameter_fits parameters n)
same_declarator _ n = refl

pub declarator_deeper : (x : Declarator) (n : ℕ) → declarator_fits x n ≡ over (declarator_parts trees (out-Declarator x)) n
declarator_deeper x n =
    let l = out-Declarator x in
    ap (λ y. declarator_fits y n) (sym (roll-out-Declarator x)) ∙ ap (λ f. f n) (rolled_declarator l) ∙ over_is (declarator_parts folded (layer_declarator l)) (declarator_parts trees l) n (same_declarator l)

same_constant : (l : EnumConstant-F Declarator EnumConstant Expression Member Specifier MemberLine Parameter TypeName) (n : ℕ) → constant_parts folded (layer_constant l) n ≡ constant_parts trees l n
same_constant (c.Next name at) n = refl
same_constant _ n = refl

pub constant_deeper : (x : EnumConstant) (n : ℕ) → constant_fits x n ≡ constant_parts trees (out-EnumConstant x) n
constant_deeper x n =
    let l = out-EnumConstant x in
    ap (λ y. constant_fits y n) (sym (roll-out-EnumConstant x)) ∙ ap (λ f. f n) (rolled_constant l) ∙ same_constant l n

same_expression : (l : Expression-F Declarator EnumConstant Expression Member Specifier MemberLine Parameter TypeName) (n : ℕ) → expression_parts folded (layer_expression l) n ≡ expression_parts trees l n
same_expression (e.Call x xs at) n = ap (λ all. expression_fits x n && all) (each_is expression_fits xs n)
same_expression (e.Comma xs at) n = each_is expression_fits xs n
same_expression _ n = refl

pub expression_deeper : (x : Expression) (n : ℕ) → expression_fits x n ≡ over (expression_parts trees (out-Expression x)) n
expression_deeper x n =
    let l = out-Expression x in
    ap (λ y. expression_fits y n) (sym (roll-out-Expression x)) ∙ ap (λ f. f n) (rolled_expression l) ∙ over_is (expression_parts folded (layer_expression l)) (expression_parts trees l) n (same_expression l)

same_member : (l : Member-F Declarator EnumConstant Expression Member Specifier MemberLine Parameter TypeName) (n : ℕ) → member_parts folded (layer_member l) n ≡ member_parts trees l n
same_member (m.Plain declarator) n = refl
same_member _ n = refl

pub member_deeper : (x : Member) (n : ℕ) → member_fits x n ≡ member_parts trees (out-Member x) n
member_deeper x n =
    let l = out-Member x in
    ap (λ y. member_fits y n) (sym (roll-out-Member x)) ∙ ap (λ f. f n) (rolled_member l) ∙ same_member l n

same_specifier : (l : Specifier-F Declarator EnumConstant Expression Member Specifier MemberLine Parameter TypeName) (n : ℕ) → specifier_parts folded (layer_specifier l) n ≡ specifier_parts trees l n
same_specifier (s.Struct tag lines at) n = each_is line_fits lines n
same_specifier (s.Enum tag constants at) n = each_is constant_fits constants n
same_specifier _ n = refl

pub specifier_deeper : (x : Specifier) (n : ℕ) → specifier_fits x n ≡ over (specifier_parts trees (out-Specifier x)) n
specifier_deeper x n =
    let l = out-Specifier x in
    ap (λ y. specifier_fits y n) (sym (roll-out-Specifier x)) ∙ ap (λ f. f n) (rolled_specifier l) ∙ over_is (specifier_parts folded (layer_specifier l)) (specifier_parts trees l) n (same_specifier l)

same_line : (l : MemberLine-F Declarator EnumConstant Expression Member Specifier MemberLine Parameter TypeName) (n : ℕ) → line_parts folded (layer_line l) n ≡ line_parts trees l n
same_line l n = ap (λ all. all && each (λ (f : Fits). f) (map member_fits l.members) n) (each_is specifier_fits l.specifiers n) ∙ ap (λ all. each specifier_fits l.specifiers n && all) (each_is member_fits l.members n)

pub line_deeper : (x : MemberLine) (n : ℕ) → line_fits x n ≡ line_parts trees (out-MemberLine x) n
line_deeper x n =
    let l = out-MemberLine x in
    ap (λ y. line_fits y n) (sym (roll-out-MemberLine x)) ∙ ap (λ f. f n) (rolled_line l) ∙ same_line l n

same_parameter : (l : Parameter-F Declarator EnumConstant Expression Member Specifier MemberLine Parameter TypeName) (n : ℕ) → parameter_parts folded (layer_parameter l) n ≡ parameter_parts trees l n
same_parameter l n = ap (λ all. all && declarator_fits l.declarator n) (each_is specifier_fits l.specifiers n)

pub parameter_deeper : (x : Parameter) (n : ℕ) → parameter_fits x n ≡ parameter_parts trees (out-Parameter x) n
parameter_deeper x n =
    let l = out-Parameter x in
    ap (λ y. parameter_fits y n) (sym (roll-out-Parameter x)) ∙ ap (λ f. f n) (rolled_parameter l) ∙ same_parameter l n

same_type_name : (l : TypeName-F Declarator EnumConstant Expression Member Specifier MemberLine Parameter TypeName) (n : ℕ) → type_name_parts folded (layer_type_name l) n ≡ type_name_parts trees l n
same_type_name l n = ap (λ all. all && declarator_fits l.declarator n) (each_is specifier_fits l.specifiers n)

pub type_name_deeper : (x : TypeName) (n : ℕ) → type_name_fits x n ≡ type_name_parts trees (out-TypeName x) n
type_name_deeper x n =
    let l = out-TypeName x in
    ap (λ y. type_name_fits y n) (sym (roll-out-TypeName x)) ∙ ap (λ f. f n) (rolled_type_name l) ∙ same_type_name l n

-- ---- initialisers

abbrev layer_initialiser : Initialiser-F Initialiser → Initialiser-F Fits
layer_initialiser = map-Initialiser Initialiser Fits initialiser_fits

rolled_initialiser : (l : Initialiser-F Initialiser) → initialiser_fits (roll-Initialiser l) ≡ over (initialiser_parts (λ f. f) (layer_initialiser l))
unfolding initialiser_fits
rolled_initialiser l = fold-roll-Initialiser Fits (λ l. over (initialiser_parts (λ f. f) l)) l

same_initialiser : (l : Initialiser-F Initialiser) (n : ℕ) → initialiser_parts (λ (f : Fits). f) (layer_initialiser l) n ≡ initialiser_parts initialiser_fits l n
same_initialiser (i.Value value at) n = refl
same_initialiser (i.Braces parts at) n = each_is initialiser_fits parts n

pub initialiser_deeper : (x : Initialiser) (n : ℕ) → initialiser_fits x n ≡ over (initialiser_parts initialiser_fits (out-Initialiser x)) n
initialiser_deeper x n =
    let l = out-Initialiser x in
    ap (λ y. initialiser_fits y n) (sym (roll-out-Initialiser x)) ∙ ap (λ f. f n) (rolled_initialiser l)
    ∙ over_is (initialiser_parts (λ f. f) (layer_initialiser l)) (initialiser_parts initialiser_fits l) n (same_initialiser l)

-- ---- statements

abbrev layer_item : BlockItem-F BlockItem Statement Branch → BlockItem-F Fits Fits Fits
layer_item = map-BlockItem BlockItem Statement Branch Fits Fits Fits item_fits statement_fits branch_fits

rolled_item : (l : BlockItem-F BlockItem Statement Branch) → item_fits (roll-BlockItem l) ≡ item_parts bodies_folded (layer_item l)
unfolding item_fits statement_fits branch_fits
rolled_item l = fold-roll-BlockItem Fits Fits Fits (item_parts bodies_folded) (λ l. over (statement_parts bodies_folded l)) (branch_parts bodies_folded) l

abbrev layer_statement : Statement-F BlockItem Statement Branch → Statement-F Fits Fits Fits
layer_statement = map-Statement BlockItem Statement Branch Fits Fits Fits item_fits statement_fits branch_fits

rolled_statement : (l : Statement-F BlockItem Statement Branch) → statement_fits (roll-Statement l) ≡ over (statement_parts bodies_folded (layer_statement l))
unfolding item_fits statement_fits branch_fits
rolled_statement l = fold-roll-Statement Fits Fits Fits (item_parts bodies_folded) (λ l. over (statement_parts bodies_folded l)) (branch_parts bodies_folded) l

abbrev layer_branch : Branch-F BlockItem Statement Branch → Branch-F Fits Fits Fits
layer_branch = map-Branch BlockItem Statement Branch Fits Fits Fits item_fits statement_fits branch_fits

rolled_branch : (l : Branch-F BlockItem Statement Branch) → branch_fits (roll-Branch l) ≡ branch_parts bodies_folded (layer_branch l)
unfolding item_fits statement_fits branch_fits
rolled_branch l = fold-roll-Branch Fits Fits Fits (item_parts bodies_folded) (λ l. over (statement_parts bodies_folded l)) (branch_parts bodies_folded) l

same_item : (l : BlockItem-F BlockItem Statement Branch) (n : ℕ) → item_parts bodies_folded (layer_item l) n ≡ item_parts bodies l n
same_item (b.Run statement) n = refl
same_item _ n = refl

same_statement : (l : Statement-F BlockItem Statement Branch) (n : ℕ) → statement_parts bodies_folded (layer_statement l) n ≡ statement_parts bodies l n
same_statement (t.Block items at) n = each_is item_fits items n
same_statement (t.If branches) n = each_is branch_fits branches n
same_statement (t.IfElse branches otherwise) n = ap (λ all. all && statement_fits otherwise n) (each_is branch_fits branches n)
same_statement _ n = refl

pub item_deeper : (x : BlockItem) (n : ℕ) → item_fits x n ≡ item_parts bodies (out-BlockItem x) n
item_deeper x n =
    let l = out-BlockItem x in
    ap (λ y. item_fits y n) (sym (roll-out-BlockItem x)) ∙ ap (λ f. f n) (rolled_item l) ∙ same_item l n

pub branch_deeper : (x : Branch) (n : ℕ) → branch_fits x n ≡ branch_parts bodies (out-Branch x) n
branch_deeper x n =
    let l = out-Branch x in
    ap (λ y. branch_fits y n) (sym (roll-out-Branch x)) ∙ ap (λ f. f n) (rolled_branch l)

pub statement_deeper : (x : Statement) (n : ℕ) → statement_fits x n ≡ over (statement_parts bodies (out-Statement x)) n
statement_deeper x n =
    let l = out-Statement x in
    ap (λ y. statement_fits y n) (sym (roll-out-Statement x)) ∙ ap (λ f. f n) (rolled_statement l)
    ∙ over_is (statement_parts bodies_folded (layer_statement l)) (statement_parts bodies l) n (same_statement l)

pub expression_none : (x : Expression) (n : ℕ) → n ≡ 0 → expression_fits x n ≡ false
expression_none x n e = expression_deeper x n ∙ over_none (expression_parts trees (out-Expression x)) n e

pub expression_down : (x : Expression) (n : ℕ) → 0 < n → expression_fits x n ≡ expression_parts trees (out-Expression x) (n - 1)
expression_down x n h = expression_deeper x n ∙ over_one (expression_parts trees (out-Expression x)) n h

pub specifier_none : (x : Specifier) (n : ℕ) → n ≡ 0 → specifier_fits x n ≡ false
specifier_none x n e = specifier_deeper x n ∙ over_none (specifier_parts trees (out-Specifier x)) n e

pub specifier_down : (x : Specifier) (n : ℕ) → 0 < n → specifier_fits x n ≡ specifier_parts trees (out-Specifier x) (n - 1)
specifier_down x n h = specifier_deeper x n ∙ over_one (specifier_parts trees (out-Specifier x)) n h

pub declarator_none : (x : Declarator) (n : ℕ) → n ≡ 0 → declarator_fits x n ≡ false
declarator_none x n e = declarator_deeper x n ∙ over_none (declarator_parts trees (out-Declarator x)) n e

pub declarator_down : (x : Declarator) (n : ℕ) → 0 < n → declarator_fits x n ≡ declarator_parts trees (out-Declarator x) (n - 1)
declarator_down x n h = declarator_deeper x n ∙ over_one (declarator_parts trees (out-Declarator x)) n h

pub initialiser_none : (x : Initialiser) (n : ℕ) → n ≡ 0 → initialiser_fits x n ≡ false
initialiser_none x n e = initialiser_deeper x n ∙ over_none (initialiser_parts initialiser_fits (out-Initialiser x)) n e

pub initialiser_down : (x : Initialiser) (n : ℕ) → 0 < n → initialiser_fits x n ≡ initialiser_parts initialiser_fits (out-Initialiser x) (n - 1)
initialiser_down x n h = initialiser_deeper x n ∙ over_one (initialiser_parts initialiser_fits (out-Initialiser x)) n h

pub statement_none : (x : Statement) (n : ℕ) → n ≡ 0 → statement_fits x n ≡ false
statement_none x n e = statement_deeper x n ∙ over_none (statement_parts bodies (out-Statement x)) n e

pub statement_down : (x : Statement) (n : ℕ) → 0 < n → statement_fits x n ≡ statement_parts bodies (out-Statement x) (n - 1)
statement_down x n h = statement_deeper x n ∙ over_one (statement_parts bodies (out-Statement x)) n h
