-- What the reader of types and declarators does with a token. It never goes back.
use Rattle.std.specs.Prelude.{ℕ, zero, suc, Bool, true, false, List, [], ◌∷◌, Option, Some, None, if◌then◌else◌}
use Rattle.c_tokens.specs.declared.token.TokenKind.{TokenKind}
use Rattle.c_tree.specs.declared.expression.Qualifier.{Qualifier}
use Rattle.c_tree.specs.declared.expression.Specifier.{Specifier}
use Rattle.c_tree.specs.declared.expression.Specifier.TheVariants as specifier_node
use Rattle.c_tree.specs.declared.expression.MemberLine.{MemberLine}
use Rattle.c_tree.specs.declared.expression.Member.{Member}
use Rattle.c_tree.specs.declared.expression.Member.TheVariants as member_node
use Rattle.c_tree.specs.declared.expression.EnumConstant.{EnumConstant}
use Rattle.c_tree.specs.declared.expression.EnumConstant.TheVariants as constant_node
use Rattle.c_tree.specs.declared.expression.Declarator.{Declarator}
use Rattle.c_tree.specs.declared.expression.Declarator.TheVariants as declarator_node
use Rattle.c_tree.specs.declared.expression.Parameter.{Parameter}
use Rattle.c_tree.specs.declared.expression.TypeName.{TypeName}
use Rattle.c_tree.specs.declared.scope.Entry.{Entry}
use Rattle.c_tree.specs.Places.{Place, next, names_type, declare, enter, leave, first_of}
use Rattle.c_tree.specs.Signs.{Bracket}
use Rattle.c_tree.specs.Spells.{Role, Types, Modifies, storage_role, types_now, defines_now, nearest, InParameter, InTypeName, may_all_qualify}
use Rattle.c_grammar.specs.Kinds.{kind_at, Start, Word, TypedefName, NoStart, start}
use Rattle.c_grammar.specs.Marks as sign
use Rattle.c_grammar.specs.Marks.{Bracketing, Opens, Closes, NoBracket, NoToken, bracketing, same_bracket, Mark, mark_at}
use Rattle.c_grammar.specs.ReadExpressions.{Outcome, Gives, Refuses, and_then, ReadsExpression}
pub use Rattle.c_grammar.specs.ReadExpressions.{where_opens, where_closes, where_square_closes, where_curly_closes, where_semicolon}

-- ---- what has no meaning

abbrev pub Skips : Type 0
Skips = Place → Outcome (Unit {0})

-- after the brackets that are open, the innermost first
abbrev pub balanced_by : (List Bracket → Skips) → List Bracket → Place → Bracketing → Outcome (Unit {0})
balanced_by go pending p (Opens bracket) = go (bracket ∷ pending) (next p)
balanced_by go [] p (Closes bracket) = Gives tt p
balanced_by go (innermost ∷ pending) p (Closes bracket) = if same_bracket innermost bracket then go pending (next p) else Refuses
balanced_by go pending p NoBracket = go pending (next p)
balanced_by go pending p NoToken = Refuses

-- to the first bracket that closes none of these; the number bounds how many tokens there are
unfoldable pub balanced : List TokenKind → ℕ → List Bracket → Skips
balanced kinds zero pending p = Refuses
balanced kinds (suc n) pending p = balanced_by (balanced kinds n) pending p (bracketing (kind_at kinds p))

-- after `__attribute__`
abbrev pub attribute : List TokenKind → Skips → Skips → Place → Outcome (Unit {0})
attribute kinds inside more p =
    where_opens (mark_at kinds p) (where_opens (mark_at kinds (next p)) (and_then (inside (next (next p)))
    (λ u q. where_closes (mark_at kinds q) (where_closes (mark_at kinds (next q)) (more (next (next q)))))))

abbrev pub attributes_by : List TokenKind → Skips → Skips → Place → Mark → Outcome (Unit {0})
attributes_by kinds inside more p sign.Extension = more (next p)
attributes_by kinds inside more p sign.Attribute = attribute kinds inside more (next p)
attributes_by kinds inside more p _ = Gives tt p

-- the number bounds how many tokens there are
unfoldable pub attributes : List TokenKind → ℕ → Skips
attributes kinds zero p = Refuses
attributes kinds (suc n) p = attributes_by kinds (balanced kinds n []) (attributes kinds n) p (mark_at kinds p)

-- ---- lists

abbrev pub ListOf : Type 0 → Type 0
ListOf A = Place → Outcome (List A)

-- one or more with a comma between each two
abbrev pub separated_after : {A : Type 0} → ListOf A → A → Place → Mark → Outcome (List A)
separated_after more x q sign.Comma = and_then (more (next q)) (λ xs r. Gives (x ∷ xs) r)
separated_after more x q _ = Gives (x ∷ []) q

unfoldable pub separated : {A : Type 0} → List TokenKind → (Place → Outcome A) → ℕ → ListOf A
separated kinds one zero p = Refuses
separated kinds one (suc n) p = and_then (one p) (λ x q. separated_after (separated kinds one n) x q (mark_at kinds q))

-- the same, and a comma may end them before a `}`
abbrev pub listed_comma : {A : Type 0} → ListOf A → A → Place → Mark → Outcome (List A)
listed_comma more x q sign.CurlyCloses = Gives (x ∷ []) q
listed_comma more x q _ = and_then (more q) (λ xs r. Gives (x ∷ xs) r)

abbrev pub listed_after : {A : Type 0} → List TokenKind → ListOf A → A → Place → Mark → Outcome (List A)
listed_after kinds more x q sign.Comma = listed_comma more x (next q) (mark_at kinds (next q))
listed_after kinds more x q _ = Gives (x ∷ []) q

unfoldable pub listed : {A : Type 0} → List TokenKind → (Place → Outcome A) → ℕ → ListOf A
listed kinds one zero p = Refuses
listed kinds one (suc n) p = and_then (one p) (λ x q. listed_after kinds (listed kinds one n) x q (mark_at kinds q))

-- ---- specifiers

-- a specifier, and what it is for the others
pub data Specific : Type 0 where
  Plays : (role : Role) (x : Specifier) → Specific

-- specifiers; whether `typedef` is among them
pub data Specified : Type 0 where
  Specifies : (defines : Bool) (list : List Specifier) → Specified

-- a declarator, its name, and the parameters nearest to the name
pub data Titled : Type 0 where
  Titles : (name : List ℕ) (parameters : Option (List Entry)) (inner : Declarator) → Titled

-- what stands inside others
abbrev pub ReadsSpecifiers : Type 0
ReadsSpecifiers = Place → Outcome Specified

abbrev pub ReadsDeclarator : Type 0
ReadsDeclarator = Place → Outcome Titled

abbrev pub qualifiers_by : (Place → Outcome (List Qualifier)) → Place → Mark → Outcome (List Qualifier)
qualifiers_by more p (sign.Qualifies qualifier) = and_then (more (next p)) (λ further q. Gives (qualifier ∷ further) q)
qualifiers_by more p _ = Gives [] p

unfoldable pub qualifiers : List TokenKind → ℕ → Place → Outcome (List Qualifier)
qualifiers kinds zero p = Refuses
qualifiers kinds (suc n) p = qualifiers_by (qualifiers kinds n) p (mark_at kinds p)

-- 6.7.2.1
abbrev pub member_after : ReadsExpression → Titled → Place → Mark → Outcome Member
member_after rd (Titles name parameters inner) q sign.Colon = and_then (rd 2 (next q)) (λ width r. Gives (member_node.BitField inner width q.at) r)
member_after rd (Titles name parameters inner) q _ = Gives (member_node.Plain inner) q

abbrev pub member_by : List TokenKind → ReadsExpression → ReadsDeclarator → Place → Mark → Outcome Member
member_by kinds rd dc p sign.Colon = and_then (rd 2 (next p)) (λ width q. Gives (member_node.UnnamedBitField width p.at) q)
member_by kinds rd dc p _ = and_then (dc p) (λ d q. member_after rd d q (mark_at kinds q))

abbrev pub member : List TokenKind → ReadsExpression → ReadsDeclarator → Place → Outcome Member
member kinds rd dc p = member_by kinds rd dc p (mark_at kinds p)

abbrev pub line_after : List TokenKind → (Place → Outcome (List Member)) → ListOf MemberLine → Specified → Place → Outcome (List MemberLine)
line_after kinds members more (Specifies defines list) q =
    and_then (members q) (λ xs r. where_semicolon (mark_at kinds r)
    (and_then (more (next r)) (λ lines s. Gives (record { specifiers = list; members = xs } ∷ lines) s)))

abbrev pub lines_by : List TokenKind → ReadsSpecifiers → (Place → Outcome (List Member)) → ListOf MemberLine → Place → Mark → Outcome (List MemberLine)
lines_by kinds sp members more p sign.CurlyCloses = Gives [] p
lines_by kinds sp members more p _ = and_then (sp p) (line_after kinds members more)

unfoldable pub lines : List TokenKind → ReadsSpecifiers → (Place → Outcome (List Member)) → ℕ → ListOf MemberLine
lines kinds sp members zero p = Refuses
lines kinds sp members (suc n) p = lines_by kinds sp members (lines kinds sp members n) p (mark_at kinds p)

-- 6.7.2.2
abbrev pub constant_after : ReadsExpression → List ℕ → Place → Mark → Outcome EnumConstant
constant_after rd text p sign.Equals = and_then (rd 2 (next (next p))) (λ value q. Gives (constant_node.Valued text value p.at) (declare q text false))
constant_after rd text p _ = Gives (constant_node.Next text p.at) (declare (next p) text false)

abbrev pub constant_by : List TokenKind → ReadsExpression → Place → Mark → Outcome EnumConstant
constant_by kinds rd p (sign.Name text) = constant_after rd text p (mark_at kinds (next p))
constant_by kinds rd p _ = Refuses

abbrev pub constant : List TokenKind → ReadsExpression → Place → Outcome EnumConstant
constant kinds rd p = constant_by kinds rd p (mark_at kinds p)

-- 6.7.2.1: p is the place of `struct`, q that of what follows it and its tag
abbrev pub struct_body : List TokenKind → ListOf MemberLine → Place → Option (List ℕ) → Place → Outcome Specific
struct_body kinds body p tag q = and_then (body (next q)) (λ xs r. where_curly_closes (mark_at kinds r) (Gives (Plays Types (specifier_node.Struct tag xs p.at)) (next r)))

abbrev pub struct_tagged : List TokenKind → ListOf MemberLine → Place → List ℕ → Place → Mark → Outcome Specific
struct_tagged kinds body p tag q sign.CurlyOpens = struct_body kinds body p (Some tag) q
struct_tagged kinds body p tag q _ = Gives (Plays Types (specifier_node.StructTag tag p.at)) q

abbrev pub struct_by : List TokenKind → ListOf MemberLine → Place → Mark → Outcome Specific
struct_by kinds body p sign.CurlyOpens = struct_body kinds body p None (next p)
struct_by kinds body p (sign.Name tag) = struct_tagged kinds body p tag (next (next p)) (mark_at kinds (next (next p)))
struct_by kinds body p _ = Refuses

-- 6.7.2.2: likewise
abbrev pub enum_body : List TokenKind → ListOf EnumConstant → Place → Option (List ℕ) → Place → Outcome Specific
enum_body kinds body p tag q = and_then (body (next q)) (λ xs r. where_curly_closes (mark_at kinds r) (Gives (Plays Types (specifier_node.Enum tag xs p.at)) (next r)))

abbrev pub enum_tagged : List TokenKind → ListOf EnumConstant → Place → List ℕ → Place → Mark → Outcome Specific
enum_tagged kinds body p tag q sign.CurlyOpens = enum_body kinds body p (Some tag) q
enum_tagged kinds body p tag q _ = Gives (Plays Types (specifier_node.EnumTag tag p.at)) q

abbrev pub enum_by : List TokenKind → ListOf EnumConstant → Place → Mark → Outcome Specific
enum_by kinds body p sign.CurlyOpens = enum_body kinds body p None (next p)
enum_by kinds body p (sign.Name tag) = enum_tagged kinds body p tag (next (next p)) (mark_at kinds (next (next p)))
enum_by kinds body p _ = Refuses

-- a name is a specifier where it is a typedef name and no type stands before it
abbrev pub name_specifier : Bool → Place → List ℕ → Outcome Specific
name_specifier true p text = Refuses
name_specifier false p text = if names_type p.blocks text then Gives (Plays Types (specifier_node.TypedefName text p.at)) (next p) else Refuses

abbrev pub specifier_by : List TokenKind → ListOf MemberLine → ListOf EnumConstant → Bool → Place → Mark → Outcome Specific
specifier_by kinds struct enum typed p (sign.Stores word) = Gives (Plays (storage_role word) (specifier_node.Storage word p.at)) (next p)
specifier_by kinds struct enum typed p (sign.Functions word) = Gives (Plays Modifies (specifier_node.Function word p.at)) (next p)
specifier_by kinds struct enum typed p (sign.Qualifies word) = Gives (Plays Modifies (specifier_node.Qualified word p.at)) (next p)
specifier_by kinds struct enum typed p (sign.Bases word) = Gives (Plays Types (specifier_node.Base word p.at)) (next p)
specifier_by kinds struct enum typed p (sign.TypeWords kind) = Gives (Plays Types (specifier_node.TypeWord kind p.at)) (next p)
specifier_by kinds struct enum typed p sign.Structs = struct_by kinds struct p (mark_at kinds (next p))
specifier_by kinds struct enum typed p sign.Enums = enum_by kinds enum p (mark_at kinds (next p))
specifier_by kinds struct enum typed p (sign.Name text) = name_specifier typed p text
specifier_by kinds struct enum typed p _ = Refuses

-- a further specifier may begin here
abbrev pub is_further : Bool → Place → Start → Bool
is_further typed p Word = true
is_further typed p (TypedefName text) = if typed then false else names_type p.blocks text
is_further typed p NoStart = false

abbrev pub goes_further : List TokenKind → Bool → Place → Bool
goes_further kinds typed p = is_further typed p (start (kind_at kinds p))

abbrev pub joined : Role → Specifier → Specified → Place → Outcome Specified
joined role x (Specifies defines list) q = Gives (Specifies (defines_now role defines) (x ∷ list)) q

abbrev pub further_by : (Bool → ReadsSpecifiers) → Bool → Role → Specifier → Place → Bool → Outcome Specified
further_by more typed role x q true = and_then (more typed q) (joined role x)
further_by more typed role x q false = Gives (Specifies (defines_now role false) (x ∷ [])) q

abbrev pub further_after : List TokenKind → Skips → (Bool → ReadsSpecifiers) → Bool → Specific → Place → Outcome Specified
further_after kinds skip more typed (Plays role x) q =
    and_then (skip q) (λ u r. further_by more (types_now typed role) role x r (goes_further kinds (types_now typed role) r))

-- specifiers after others, among which a type stands or not; the number bounds how many there are
unfoldable pub further : List TokenKind → ListOf MemberLine → ListOf EnumConstant → ℕ → Bool → ReadsSpecifiers
further kinds struct enum zero typed p = Refuses
further kinds struct enum (suc n) typed p =
    and_then (specifier_by kinds struct enum typed p (mark_at kinds p)) (further_after kinds (attributes kinds n) (further kinds struct enum n) typed)

-- 6.7
abbrev pub all_specifiers : List TokenKind → ListOf MemberLine → ListOf EnumConstant → ℕ → ReadsSpecifiers
all_specifiers kinds struct enum n p = and_then (attributes kinds n p) (λ u q. further kinds struct enum n false q)

-- ---- declarators

-- 6.7.6.3: parameters; the number of the `...` that ends them
pub data Takes : Type 0 where
  Taken : (list : List Parameter) (variadic : Option ℕ) → Takes

-- what follows a direct declarator
abbrev pub Suffixes : Type 0
Suffixes = Titled → Place → Outcome Titled

-- after `[`
abbrev pub array_by : List TokenKind → ReadsExpression → Suffixes → Titled → Place → Mark → Outcome Titled
array_by kinds rd go (Titles name parameters inner) q sign.SquareCloses = go (Titles name parameters (declarator_node.OpenArray inner q.at)) (next (next q))
array_by kinds rd go (Titles name parameters inner) q _ =
    and_then (rd 2 (next q)) (λ size r. where_square_closes (mark_at kinds r) (go (Titles name parameters (declarator_node.Array inner size q.at)) (next r)))

-- after `(`
abbrev pub with_parameters : List TokenKind → Suffixes → Titled → Place → Takes → Place → Outcome Titled
with_parameters kinds go (Titles name parameters inner) q (Taken list variadic) r =
    where_closes (mark_at kinds r) (go (Titles name (nearest parameters (first_of r.blocks)) (declarator_node.Function inner list variadic q.at)) (leave (next r)))

abbrev pub function_by : List TokenKind → (Place → Outcome Takes) → Suffixes → Titled → Place → Mark → Outcome Titled
function_by kinds list go (Titles name parameters inner) q sign.RoundCloses =
    go (Titles name (nearest parameters []) (declarator_node.Function inner [] None q.at)) (next (next q))
function_by kinds list go d q _ = and_then (list (enter (next q))) (with_parameters kinds go d q)

abbrev pub suffixes_by : List TokenKind → ReadsExpression → (Place → Outcome Takes) → Suffixes → Titled → Place → Mark → Outcome Titled
suffixes_by kinds rd list go d q sign.SquareOpens = array_by kinds rd go d q (mark_at kinds (next q))
suffixes_by kinds rd list go d q sign.RoundOpens = function_by kinds list go d q (mark_at kinds (next q))
suffixes_by kinds rd list go d q _ = Gives d q

-- the number bounds how many there are
unfoldable pub suffixes : List TokenKind → ReadsExpression → (Place → Outcome Takes) → ℕ → Suffixes
suffixes kinds rd list zero d q = Refuses
suffixes kinds rd list (suc n) d q = suffixes_by kinds rd list (suffixes kinds rd list n) d q (mark_at kinds q)

-- a declarator with a name, or what stands for one in a parameter
pub data Perhaps : Type 0 where
  With : (d : Titled) → Perhaps
  Without : (inner : Declarator) → Perhaps

abbrev pub ReadsPerhaps : Type 0
ReadsPerhaps = Place → Outcome Perhaps

-- with a name, and what has no meaning after it
abbrev pub decorated_by : Skips → Perhaps → Place → Outcome Titled
decorated_by skip (With d) q = and_then (skip q) (λ u r. Gives d r)
decorated_by skip (Without inner) q = Refuses

abbrev pub decorated : Skips → ReadsPerhaps → ReadsDeclarator
decorated skip one p = and_then (one p) (decorated_by skip)

abbrev pub pointed : List Qualifier → ℕ → Perhaps → Place → Outcome Perhaps
pointed list at (With (Titles name parameters inner)) q = Gives (With (Titles name parameters (declarator_node.Pointer list inner at))) q
pointed list at (Without inner) q = if may_all_qualify InParameter list then Gives (Without (declarator_node.Pointer list inner at)) q else Refuses

abbrev pub titled : Titled → Place → Outcome Perhaps
titled d q = Gives (With d) q

abbrev pub perhaps_by : List TokenKind → Suffixes → (Place → Outcome (List Qualifier)) → ReadsDeclarator → ReadsPerhaps → Place → Mark → Outcome Perhaps
perhaps_by kinds go list inside more p sign.Star = and_then (list (next p)) (λ qs q. and_then (more q) (pointed qs p.at))
perhaps_by kinds go list inside more p (sign.Name text) = and_then (go (Titles text None (declarator_node.Name text p.at)) (next p)) titled
perhaps_by kinds go list inside more p sign.RoundOpens =
    and_then (inside (next p)) (λ d q. where_closes (mark_at kinds q) (and_then (go d (next q)) titled))
perhaps_by kinds go list inside more p _ = Gives (Without (declarator_node.Unnamed p.at)) p

-- 6.7.6
abbrev pub parameter_after : Skips → List Specifier → Perhaps → Place → Outcome Parameter
parameter_after skip list (With (Titles name parameters inner)) q =
    and_then (skip q) (λ u r. Gives (record { specifiers = list; declarator = inner }) (declare r name false))
parameter_after skip list (Without inner) q = Gives (record { specifiers = list; declarator = inner }) q

abbrev pub parameter_of : Skips → ReadsPerhaps → Specified → Place → Outcome Parameter
parameter_of skip one (Specifies defines list) q = and_then (one q) (parameter_after skip list)

abbrev pub parameter : Skips → ReadsSpecifiers → ReadsPerhaps → Place → Outcome Parameter
parameter skip sp one p = and_then (sp p) (parameter_of skip one)

abbrev pub first_taken : Parameter → Takes → Place → Outcome Takes
first_taken x (Taken list variadic) q = Gives (Taken (x ∷ list) variadic) q

abbrev pub parameters_comma : (Place → Outcome Takes) → Parameter → Place → Mark → Outcome Takes
parameters_comma more x q sign.Ellipsis = Gives (Taken (x ∷ []) (Some q.at)) (next q)
parameters_comma more x q _ = and_then (more q) (first_taken x)

abbrev pub parameters_after : List TokenKind → (Place → Outcome Takes) → Parameter → Place → Mark → Outcome Takes
parameters_after kinds more x q sign.Comma = parameters_comma more x (next q) (mark_at kinds (next q))
parameters_after kinds more x q _ = Gives (Taken (x ∷ []) None) q

unfoldable pub parameters : List TokenKind → (Place → Outcome Parameter) → ℕ → Place → Outcome Takes
parameters kinds one zero p = Refuses
parameters kinds one (suc n) p = and_then (one p) (λ x q. parameters_after kinds (parameters kinds one n) x q (mark_at kinds q))

-- after a token of a declarator, over what reads the parts with this number
abbrev pub suffixes_with : List TokenKind → ReadsExpression → ReadsSpecifiers → ReadsPerhaps → ℕ → Suffixes
suffixes_with kinds rd sp one n = suffixes kinds rd (parameters kinds (parameter (attributes kinds n) sp one) n) n

-- a declarator or none: one that one token more begins
abbrev pub perhaps_with : List TokenKind → ReadsExpression → ReadsSpecifiers → ReadsPerhaps → ℕ → Place → Mark → Outcome Perhaps
perhaps_with kinds rd sp one n p m = perhaps_by kinds (suffixes_with kinds rd sp one n) (qualifiers kinds n) (decorated (attributes kinds n) one) one p m

-- ---- type names (6.7.7)

abbrev pub arrays_by : List TokenKind → ReadsExpression → (Declarator → Place → Outcome Declarator) → Declarator → Place → Mark → Outcome Declarator
arrays_by kinds rd go inner q sign.SquareOpens =
    and_then (rd 2 (next q)) (λ size r. where_square_closes (mark_at kinds r) (go (declarator_node.Array inner size q.at) (next r)))
arrays_by kinds rd go inner q _ = Gives inner q

unfoldable pub arrays : List TokenKind → ReadsExpression → ℕ → Declarator → Place → Outcome Declarator
arrays kinds rd zero inner q = Refuses
arrays kinds rd (suc n) inner q = arrays_by kinds rd (arrays kinds rd n) inner q (mark_at kinds q)

abbrev pub unnamed_pointed : (Place → Outcome Declarator) → ℕ → List Qualifier → Place → Outcome Declarator
unnamed_pointed more at list q =
    if may_all_qualify InTypeName list then and_then (more q) (λ inner r. Gives (declarator_node.Pointer list inner at) r) else Refuses

abbrev pub unnamed_by : (Declarator → Place → Outcome Declarator) → (Place → Outcome (List Qualifier)) → (Place → Outcome Declarator) → Place → Mark → Outcome Declarator
unnamed_by go list more p sign.Star = and_then (list (next p)) (unnamed_pointed more p.at)
unnamed_by go list more p _ = go (declarator_node.Unnamed p.at) p

unfoldable pub unnamed : List TokenKind → ReadsExpression → ℕ → Place → Outcome Declarator
unnamed kinds rd zero p = Refuses
unnamed kinds rd (suc n) p = unnamed_by (arrays kinds rd (suc n)) (qualifiers kinds n) (unnamed kinds rd n) p (mark_at kinds p)

abbrev pub named_type : (Place → Outcome Declarator) → Specified → Place → Outcome TypeName
named_type one (Specifies defines list) q = and_then (one q) (λ inner r. Gives (record { specifiers = list; declarator = inner }) r)

abbrev pub type_name : List TokenKind → ReadsExpression → ReadsSpecifiers → ℕ → Place → Outcome TypeName
type_name kinds rd sp n p = and_then (sp p) (named_type (unnamed kinds rd n))
