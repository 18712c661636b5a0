-- The readers of declarations and statements.
use Rattle.std.specs.Prelude.{ℕ, zero, suc, Bool, true, false, List, [], ◌∷◌, Option, Some, None}
use Rattle.c_tokens.specs.declared.token.TokenKind.{TokenKind}
use Rattle.c_tree.specs.declared.expression.Expression.{Expression}
use Rattle.c_tree.specs.declared.expression.Specifier.{Specifier}
use Rattle.c_tree.specs.declared.declaration.Initialiser.{Initialiser}
use Rattle.c_tree.specs.declared.declaration.Initialiser.TheVariants as initialiser_node
use Rattle.c_tree.specs.declared.declaration.Declared.{Declared}
use Rattle.c_tree.specs.declared.declaration.Declared.TheVariants as declared_node
use Rattle.c_tree.specs.declared.declaration.Declaration.{Declaration}
use Rattle.c_tree.specs.declared.statement.Statement.{Statement}
use Rattle.c_tree.specs.declared.statement.Statement.TheVariants as statement_node
use Rattle.c_tree.specs.declared.statement.Branch.{Branch}
use Rattle.c_tree.specs.declared.statement.BlockItem.{BlockItem}
use Rattle.c_tree.specs.declared.statement.BlockItem.TheVariants as item_node
use Rattle.c_tree.specs.declared.statement.ForStart.{ForStart}
use Rattle.c_tree.specs.declared.statement.ForStart.TheVariants as start_node
use Rattle.c_tree.specs.Places.{Place, next, declare, enter, leave}
use Rattle.c_grammar.specs.Kinds.{begins_type}
use Rattle.c_grammar.specs.Marks as sign
use Rattle.c_grammar.specs.Marks.{Mark, mark_at}
use Rattle.c_grammar.specs.ReadExpressions.{Outcome, Gives, Refuses, and_then, ReadsExpression}
pub use Rattle.c_grammar.specs.ReadExpressions.{where_colon}
use Rattle.c_grammar.specs.ReadTypes.{where_opens, where_closes, where_curly_closes, where_semicolon, ListOf, separated, listed, Specified, Specifies, Titled, Titles, ReadsDeclarator}
use Rattle.c_grammar.specs.Readers.{read, specifiers, declarator}

-- ---- declarations

abbrev pub ReadsInitialiser : Type 0
ReadsInitialiser = Place → Outcome Initialiser

-- 6.7.9
abbrev pub initialiser_by : List TokenKind → ReadsExpression → ListOf Initialiser → Place → Mark → Outcome Initialiser
initialiser_by kinds rd parts p sign.CurlyOpens =
    and_then (parts (next p)) (λ xs q. where_curly_closes (mark_at kinds q) (Gives (initialiser_node.Braces xs p.at) (next q)))
initialiser_by kinds rd parts p _ = and_then (rd 1 p) (λ x q. Gives (initialiser_node.Value x p.at) q)

unfoldable pub initialiser : List TokenKind → ℕ → ReadsInitialiser
initialiser kinds zero p = Refuses
initialiser kinds (suc n) p = initialiser_by kinds (read kinds (suc n)) (listed kinds (initialiser kinds n) n) p (mark_at kinds p)

-- after a declarator; it declares a typedef name or not
abbrev pub declared_by : ReadsInitialiser → Bool → Titled → Place → Mark → Outcome Declared
declared_by ini defines (Titles name parameters inner) q sign.Equals =
    and_then (ini (declare (next q) name defines)) (λ x r. Gives (declared_node.Initialised inner x q.at) r)
declared_by ini defines (Titles name parameters inner) q _ = Gives (declared_node.Plain inner) (declare q name defines)

abbrev pub declared_after : List TokenKind → ReadsInitialiser → Bool → Titled → Place → Outcome Declared
declared_after kinds ini defines d q = declared_by ini defines d q (mark_at kinds q)

abbrev pub declared : List TokenKind → ReadsDeclarator → ReadsInitialiser → Bool → Place → Outcome Declared
declared kinds dc ini defines p = and_then (dc p) (declared_after kinds ini defines)

-- after all names
abbrev pub declaration_end : List TokenKind → List Specifier → List Declared → Place → Outcome Declaration
declaration_end kinds list names r = where_semicolon (mark_at kinds r) (Gives (record { specifiers = list; names = names; at = r.at }) (next r))

-- after the specifiers (6.7)
abbrev pub declaration_by : List TokenKind → (Bool → ListOf Declared) → Bool → List Specifier → Place → Mark → Outcome Declaration
declaration_by kinds names defines list q sign.Semicolon = Gives (record { specifiers = list; names = []; at = q.at }) (next q)
declaration_by kinds names defines list q _ = and_then (names defines q) (declaration_end kinds list)

abbrev pub declaration_after : List TokenKind → (Bool → ListOf Declared) → Specified → Place → Outcome Declaration
declaration_after kinds names (Specifies defines list) q = declaration_by kinds names defines list q (mark_at kinds q)

-- the names of a declaration with this number
abbrev pub names_with : List TokenKind → ℕ → Bool → ListOf Declared
names_with kinds n defines = separated kinds (declared kinds (declarator kinds n) (initialiser kinds n) defines) n

abbrev pub declaration : List TokenKind → ℕ → Place → Outcome Declaration
declaration kinds n p = and_then (specifiers kinds n p) (declaration_after kinds (names_with kinds n))

-- ---- statements

abbrev pub ReadsStatement : Type 0
ReadsStatement = Place → Outcome Statement

abbrev pub ReadsDeclaration : Type 0
ReadsDeclaration = Place → Outcome Declaration

-- `( expression )`
abbrev pub test : List TokenKind → ReadsExpression → Place → Outcome Expression
test kinds rd p = where_opens (mark_at kinds p) (and_then (rd 0 (next p)) (λ x q. where_closes (mark_at kinds q) (Gives x (next q))))

abbrev pub some : Expression → Place → Outcome (Option Expression)
some x q = Gives (Some x) q

-- an expression or nothing before a `;`, and before a `)`
abbrev pub optional_by : ReadsExpression → Place → Mark → Outcome (Option Expression)
optional_by rd p sign.Semicolon = Gives None p
optional_by rd p _ = and_then (rd 0 p) some

abbrev pub optional_step_by : ReadsExpression → Place → Mark → Outcome (Option Expression)
optional_step_by rd p sign.RoundCloses = Gives None p
optional_step_by rd p _ = and_then (rd 0 p) some

-- 6.8.5.3
abbrev pub start_else : List TokenKind → ReadsExpression → ReadsDeclaration → Place → Bool → Outcome ForStart
start_else kinds rd dn p true = and_then (dn p) (λ x q. Gives (start_node.Declared x) q)
start_else kinds rd dn p false = and_then (rd 0 p) (λ x q. where_semicolon (mark_at kinds q) (Gives (start_node.Value x) (next q)))

abbrev pub start_by : List TokenKind → ReadsExpression → ReadsDeclaration → Place → Mark → Outcome ForStart
start_by kinds rd dn p sign.Semicolon = Gives start_node.Nothing (next p)
start_by kinds rd dn p _ = start_else kinds rd dn p (begins_type kinds p)

-- what stands after a label (6.8.1)
abbrev pub labelled_by : ReadsStatement → Place → Mark → Outcome Statement
labelled_by st p sign.CurlyCloses = Gives (statement_node.Empty p.at) p
labelled_by st p _ = st p

abbrev pub labelled : List TokenKind → ReadsStatement → Place → Outcome Statement
labelled kinds st p = labelled_by st p (mark_at kinds p)

-- `if`, `else if` and so on, and what stands after a last `else`
pub data Chain : Type 0 where
  Chains : (branches : List Branch) (otherwise : Option Statement) → Chain

abbrev pub first_chained : Branch → Chain → Place → Outcome Chain
first_chained branch (Chains branches otherwise) s = Gives (Chains (branch ∷ branches) otherwise) (leave (leave s))

-- after `else`, whose place is r
abbrev pub else_by : ReadsStatement → (Place → Outcome Chain) → Branch → Place → Mark → Outcome Chain
else_by st more branch r sign.If = and_then (more (enter (leave (next r)))) (first_chained branch)
else_by st more branch r _ = and_then (st (enter (leave (next r)))) (λ x s. Gives (Chains (branch ∷ []) (Some x)) (leave (leave s)))

-- after what an `if` runs
abbrev pub chain_by : List TokenKind → ReadsStatement → (Place → Outcome Chain) → Branch → Place → Mark → Outcome Chain
chain_by kinds st more branch r sign.Else = else_by st more branch r (mark_at kinds (next r))
chain_by kinds st more branch r _ = Gives (Chains (branch ∷ []) None) (leave (leave r))

abbrev pub chain_of : List TokenKind → ReadsStatement → (Place → Outcome Chain) → Place → Expression → Place → Outcome Chain
chain_of kinds st more p x q = and_then (st (enter q)) (λ body r. chain_by kinds st more (record { test = x; body = body; at = p.at }) r (mark_at kinds r))

-- p is the place of an `if`; the number bounds how many there are
unfoldable pub chain : List TokenKind → ReadsExpression → ReadsStatement → ℕ → Place → Outcome Chain
chain kinds rd st zero p = Refuses
chain kinds rd st (suc n) p = and_then (test kinds rd (enter (next p))) (chain_of kinds st (chain kinds rd st n) p)

abbrev pub chained : Chain → Place → Outcome Statement
chained (Chains branches None) q = Gives (statement_node.If branches) q
chained (Chains branches (Some x)) q = Gives (statement_node.IfElse branches x) q

-- a name before `:` is a label, also where it is a typedef name
abbrev pub is_colon : Mark → Bool
is_colon sign.Colon = true
is_colon _ = false

abbrev pub declares_by : List TokenKind → Place → Mark → Mark → Bool
declares_by kinds p (sign.Name text) sign.Colon = false
declares_by kinds p m after = begins_type kinds p

-- a declaration begins here, in a block
abbrev pub declares : List TokenKind → Place → Bool
declares kinds p = declares_by kinds p (mark_at kinds p) (mark_at kinds (next p))

abbrev pub item_by : ReadsDeclaration → ReadsStatement → Place → Bool → Outcome BlockItem
item_by dn st p true = and_then (dn p) (λ x q. Gives (item_node.Declared x) q)
item_by dn st p false = and_then (st p) (λ x q. Gives (item_node.Run x) q)

abbrev pub item : List TokenKind → ReadsDeclaration → ReadsStatement → Place → Outcome BlockItem
item kinds dn st p = item_by dn st p (declares kinds p)

abbrev pub block_by : List TokenKind → ReadsDeclaration → ReadsStatement → ListOf BlockItem → Place → Mark → Outcome (List BlockItem)
block_by kinds dn st more p sign.CurlyCloses = Gives [] p
block_by kinds dn st more p _ = and_then (item kinds dn st p) (λ x q. and_then (more q) (λ xs r. Gives (x ∷ xs) r))

-- 6.8.2: to a `}`; the number bounds how many items there are
unfoldable pub block : List TokenKind → ReadsDeclaration → ReadsStatement → ℕ → ListOf BlockItem
block kinds dn st zero p = Refuses
block kinds dn st (suc n) p = block_by kinds dn st (block kinds dn st n) p (mark_at kinds p)

-- 6.8.3
abbrev pub value_statement : List TokenKind → ReadsExpression → Place → Outcome Statement
value_statement kinds rd p = and_then (rd 0 p) (λ x q. where_semicolon (mark_at kinds q) (Gives (statement_node.Value x q.at) (next q)))

abbrev pub block_statement : List TokenKind → ListOf BlockItem → Place → Outcome Statement
block_statement kinds items p =
    and_then (items (enter (next p))) (λ xs q. where_curly_closes (mark_at kinds q) (Gives (statement_node.Block xs p.at) (leave (next q))))

abbrev pub where_while : {B : Type 0} → Mark → Outcome B → Outcome B
where_while sign.While o = o
where_while _ o = Refuses

-- 6.8.1
abbrev pub name_statement : List TokenKind → ReadsExpression → ReadsStatement → Place → List ℕ → Mark → Outcome Statement
name_statement kinds rd st p text sign.Colon = and_then (labelled kinds st (next (next p))) (λ body q. Gives (statement_node.Label text body p.at) q)
name_statement kinds rd st p text _ = value_statement kinds rd p

abbrev pub case_statement : List TokenKind → ReadsExpression → ReadsStatement → Place → Outcome Statement
case_statement kinds rd st p =
    and_then (rd 2 (next p)) (λ x q. where_colon (mark_at kinds q) (and_then (labelled kinds st (next q)) (λ body r. Gives (statement_node.Case x body p.at) r)))

abbrev pub default_statement : List TokenKind → ReadsStatement → Place → Outcome Statement
default_statement kinds st p =
    where_colon (mark_at kinds (next p)) (and_then (labelled kinds st (next (next p))) (λ body q. Gives (statement_node.Default body p.at) q))

-- 6.8.4.2
abbrev pub switch_statement : List TokenKind → ReadsExpression → ReadsStatement → Place → Outcome Statement
switch_statement kinds rd st p =
    and_then (test kinds rd (enter (next p))) (λ x q. and_then (st (enter q)) (λ body r. Gives (statement_node.Switch x body p.at) (leave (leave r))))

-- 6.8.5
abbrev pub while_statement : List TokenKind → ReadsExpression → ReadsStatement → Place → Outcome Statement
while_statement kinds rd st p =
    and_then (test kinds rd (enter (next p))) (λ x q. and_then (st (enter q)) (λ body r. Gives (statement_node.While x body p.at) (leave (leave r))))

abbrev pub do_after : List TokenKind → ReadsExpression → Place → Statement → Place → Outcome Statement
do_after kinds rd p body q =
    where_while (mark_at kinds q) (and_then (test kinds rd (leave (next q)))
    (λ x r. where_semicolon (mark_at kinds r) (Gives (statement_node.Do body x p.at) (leave (next r)))))

abbrev pub do_statement : List TokenKind → ReadsExpression → ReadsStatement → Place → Outcome Statement
do_statement kinds rd st p = and_then (st (enter (enter (next p)))) (do_after kinds rd p)

-- after the first part of a `for`, and after its test
abbrev pub for_step : List TokenKind → ReadsExpression → ReadsStatement → Place → ForStart → Option Expression → Place → Outcome Statement
for_step kinds rd st p first x r =
    where_semicolon (mark_at kinds r) (and_then (optional_step_by rd (next r) (mark_at kinds (next r))) (λ y s. where_closes (mark_at kinds s)
    (and_then (st (enter (next s))) (λ body t. Gives (statement_node.For first x y body p.at) (leave (leave t))))))

abbrev pub for_test : List TokenKind → ReadsExpression → ReadsStatement → Place → ForStart → Place → Outcome Statement
for_test kinds rd st p first q = and_then (optional_by rd q (mark_at kinds q)) (for_step kinds rd st p first)

abbrev pub for_statement : List TokenKind → ReadsExpression → ReadsDeclaration → ReadsStatement → Place → Outcome Statement
for_statement kinds rd dn st p =
    where_opens (mark_at kinds (next p))
    (and_then (start_by kinds rd dn (enter (next (next p))) (mark_at kinds (enter (next (next p))))) (for_test kinds rd st p))

-- 6.8.6
abbrev pub plain_statement : List TokenKind → Statement → Place → Outcome Statement
plain_statement kinds x p = where_semicolon (mark_at kinds (next p)) (Gives x (next (next p)))

abbrev pub return_statement : List TokenKind → ReadsExpression → Place → Outcome Statement
return_statement kinds rd p =
    and_then (optional_by rd (next p) (mark_at kinds (next p))) (λ x q. where_semicolon (mark_at kinds q) (Gives (statement_node.Return x p.at) (next q)))

abbrev pub statement_by : List TokenKind → ReadsExpression → ReadsDeclaration → ReadsStatement → ℕ → Place → Mark → Outcome Statement
statement_by kinds rd dn st n p sign.CurlyOpens = block_statement kinds (block kinds dn st n) p
statement_by kinds rd dn st n p sign.Semicolon = Gives (statement_node.Empty p.at) (next p)
statement_by kinds rd dn st n p (sign.Name text) = name_statement kinds rd st p text (mark_at kinds (next p))
statement_by kinds rd dn st n p sign.Case = case_statement kinds rd st p
statement_by kinds rd dn st n p sign.Default = default_statement kinds st p
statement_by kinds rd dn st n p sign.If = and_then (chain kinds rd st n p) chained
statement_by kinds rd dn st n p sign.Switch = switch_statement kinds rd st p
statement_by kinds rd dn st n p sign.While = while_statement kinds rd st p
statement_by kinds rd dn st n p sign.Do = do_statement kinds rd st p
statement_by kinds rd dn st n p sign.For = for_statement kinds rd dn st p
statement_by kinds rd dn st n p sign.Break = plain_statement kinds (statement_node.Break p.at) p
statement_by kinds rd dn st n p sign.Continue = plain_statement kinds (statement_node.Continue p.at) p
statement_by kinds rd dn st n p sign.Return = return_statement kinds rd p
statement_by kinds rd dn st n p _ = value_statement kinds rd p

-- the number bounds the steps
unfoldable pub statement : List TokenKind → ℕ → ReadsStatement
statement kinds zero p = Refuses
statement kinds (suc n) p = statement_by kinds (read kinds (suc n)) (declaration kinds n) (statement kinds n) (suc n) p (mark_at kinds p)
