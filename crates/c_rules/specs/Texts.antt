-- What declarations, statements and whole texts declare, and what the names of a text stand for. Sections are those of
-- ISO/IEC 9899:2011.
use Rattle.std.specs.Prelude.{ℕ, nat_eq, take, drop, map, Bool, true, false, not, ◌&&◌, ◌||◌, List, [], ◌∷◌, ◌++◌, length, codes, Option, Some, None, slice_get}
use Rattle.c_tokens.specs.declared.data_model.DataModel.{DataModel}
use Rattle.c_tree.specs.declared.expression.Expression.{Expression}
use Rattle.c_tree.specs.declared.expression.Specifier.{Specifier}
use Rattle.c_tree.specs.declared.expression.Declarator.{Declarator}
use Rattle.c_tree.specs.declared.declaration.Initialiser.{Initialiser, out-Initialiser}
use Rattle.c_tree.specs.declared.declaration.Initialiser.TheOpen.{Initialiser-F}
use Rattle.c_tree.specs.declared.declaration.Initialiser.TheOpen.{Initialiser-F as i}
use Rattle.c_tree.specs.declared.declaration.Initialiser.TheFolds.{para-Initialiser}
use Rattle.c_tree.specs.declared.declaration.Declared.{Declared}
use Rattle.c_tree.specs.declared.declaration.Declared.TheVariants as declared
use Rattle.c_tree.specs.declared.declaration.Declaration.{Declaration}
use Rattle.c_tree.specs.declared.declaration.External.{External}
use Rattle.c_tree.specs.declared.declaration.External.TheVariants as external
use Rattle.c_tree.specs.declared.declaration.Tree.{Tree}
use Rattle.c_tree.specs.declared.statement.Statement.{Statement}
use Rattle.c_tree.specs.declared.statement.Branch.{Branch}
use Rattle.c_tree.specs.declared.statement.BlockItem.{BlockItem}
use Rattle.c_tree.specs.declared.statement.BlockItem.TheOpen.{Statement-F, BlockItem-F, Branch-F}
use Rattle.c_tree.specs.declared.statement.BlockItem.TheOpen.{Statement-F as t, BlockItem-F as b}
use Rattle.c_tree.specs.declared.statement.BlockItem.TheFolds.{para-BlockItem}
use Rattle.c_tree.specs.declared.statement.ForStart.{ForStart}
use Rattle.c_tree.specs.declared.statement.ForStart.TheVariants as start
use Rattle.c_kinds.specs.declared.types.CType.{CType}
use Rattle.c_kinds.specs.declared.types.Signature.{Signature}
use Rattle.c_kinds.specs.Layouts.{is_incomplete}
use Rattle.c_rules.specs.declared.names.Declares.TheVariants as declares
use Rattle.c_rules.specs.declared.names.Object.{Object}
use Rattle.c_rules.specs.declared.names.Function.{Function}
use Rattle.c_rules.specs.declared.names.Names.{Names}
use Rattle.c_rules.specs.declared.names.ScopeEntry.{ScopeEntry}
use Rattle.c_rules.specs.declared.names.Pair.{Pair}
use Rattle.c_rules.specs.Broken.{pair}
use Rattle.c_rules.specs.Calls.{is_some}
use Rattle.c_rules.specs.Scopes.{no_scope, State, Block, find, enter, enter_with, leave, is_among, note_if, note_all}
use Rattle.c_rules.specs.Specifiers.{Specified, type_named, first_at}
use Rattle.c_rules.specs.Declarators.{FirstSize, Needed, OfBraces, Site, Built, holds, is_direct}
use Rattle.c_rules.specs.Resolving.{resolve, build, specify_all}
use Rattle.c_rules.specs.Declarations.{How, is_unsaid, signature_number_of, declares_name}

-- ---- initialisers (6.7.9): the names in their expressions

abbrev pub resolve_parts : {I : Type 0} → (I → State → State) → List I → State → State
resolve_parts w [] st = st
resolve_parts w (x ∷ xs) st = resolve_parts w xs (w x st)

abbrev pub initialiser_node : {I : Type 0} → (I → State → State) → Initialiser-F I → State → State
initialiser_node w (i.Value value at) st = resolve value st
initialiser_node w (i.Braces parts at) st = resolve_parts w parts st

unfoldable pub resolve_initialiser : Initialiser → State → State
resolve_initialiser = para-Initialiser (State → State) (initialiser_node {I = Initialiser × (State → State)} (λ x. x.1))

-- ---- declarations (6.7)

abbrev pub how_of : Specified → ℕ → Bool → Bool → How
how_of x first is_initialised has_body = record {
  is_typedef = x.is_typedef;
  is_extern = not x.is_typedef && x.is_extern;
  is_static = not x.is_typedef && (not x.is_extern && x.is_static);
  is_initialised = is_initialised;
  has_body = has_body;
  first = first;
}

-- `()` of the declarator, or of the typedef name of which the declared name is
abbrev pub leaves_unsaid : Specified → Declarator → Bool
leaves_unsaid x inside = is_unsaid inside || (is_direct inside && x.is_unsaid)

-- how many parts in braces give the first size of an array
abbrev pub size_in : Initialiser → FirstSize
size_in x = elim (out-Initialiser x) as (λ _. FirstSize) [ i.Braces parts at ↦ OfBraces (length parts) | _ ↦ Needed ]

abbrev pub site_of : FirstSize → ℕ → Site
site_of size first = record { first_size = size; first = first; is_type_name = false }

abbrev pub one_declared : Specified → ℕ → Option CType → Declared → State → State
one_declared x first t (declared.Plain inside) st =
    declares_name (how_of x first false false) (leaves_unsaid x inside) 0 (build inside (site_of Needed first) t st)
one_declared x first t (declared.Initialised inside value at) st =
    resolve_initialiser value (declares_name (how_of x first true false) (leaves_unsaid x inside) 0 (build inside (site_of (size_in value) first) t st))

abbrev pub all_declared : Specified → ℕ → Option CType → List Declared → State → State
all_declared x first t [] st = st
all_declared x first t (n ∷ ns) st = all_declared x first t ns (one_declared x first t n st)

-- a specifier that is the whole declaration
abbrev pub stands_alone : List Specifier → List Declared → Bool
stands_alone specifiers names = nat_eq (length specifiers) 1 && nat_eq (length names) 0

abbrev pub all_named : ℕ → Specified → List Declared → State → State
all_named first x names st = let k = type_named first (record x { state = st }) in all_declared x first k.ctype names k.state

abbrev pub declaration : Declaration → State → State
declaration x st = let found = specify_all (stands_alone x.specifiers x.names) x.specifiers st in all_named (first_at x.specifiers) found x.names found.state

-- ---- statements (6.8): each block, `if`, `switch` and loop, and each of their statements is a block (6.8.2p2, 6.8.4p3, 6.8.5p5)

abbrev pub resolve_option : Option Expression → State → State
resolve_option None st = st
resolve_option (Some x) st = resolve x st

-- a label stands once in a function (6.8.1p3)
abbrev pub labelled : List ℕ → ℕ → State → State
labelled name at st = record (note_if (is_among name st.labels) at 4 st) { labels = st.labels ++ name ∷ [] }

abbrev pub starts : ForStart → State → State
starts start.Nothing st = st
starts (start.Value x) st = resolve x st
starts (start.Declared x) st = declaration x st

abbrev pub Step : Type 0
Step = State → State

module _ {X : Type 0} where
  abbrev pub inside : (X → Step) → X → Step
  inside w x st = leave (w x (enter st))

  -- a chain of `else if`: each `if` stands in the one before
  abbrev pub chain : (X → Step) → Step → List X → Step
  chain w last [] st = last st
  chain w last (x ∷ xs) st = leave (chain w last xs (w x (enter st)))

  abbrev pub in_order : (X → Step) → List X → Step
  in_order w [] st = st
  in_order w (x ∷ xs) st = in_order w xs (w x st)

module _ {B X R : Type 0} where
  abbrev pub branch_node : (X → Step) → Branch-F B X R → Step
  branch_node w x st = inside w x.body (resolve x.test st)

  abbrev pub item_node : (X → Step) → BlockItem-F B X R → Step
  item_node w (b.Declared x) st = declaration x st
  item_node w (b.Run x) st = w x st

  abbrev pub statement_node : (B → Step) → (X → Step) → (R → Step) → Statement-F B X R → Step
  statement_node item w branch (t.Block xs at) st = leave (in_order item xs (enter st))
  statement_node item w branch (t.Empty at) st = st
  statement_node item w branch (t.Value x at) st = resolve x st
  statement_node item w branch (t.Label name body at) st = w body (labelled name at st)
  statement_node item w branch (t.Case x body at) st = w body (resolve x st)
  statement_node item w branch (t.Default body at) st = w body st
  statement_node item w branch (t.If branches) st = chain branch (λ now. now) branches st
  statement_node item w branch (t.IfElse branches otherwise) st = chain branch (inside w otherwise) branches st
  statement_node item w branch (t.Switch x body at) st = leave (inside w body (resolve x (enter st)))
  statement_node item w branch (t.While test body at) st = leave (inside w body (resolve test (enter st)))
  statement_node item w branch (t.Do body test at) st = leave (resolve test (inside w body (enter st)))
  statement_node item w branch (t.For first test step body at) st =
      leave (inside w body (resolve_option step (resolve_option test (starts first (enter st)))))
  statement_node item w branch (t.Break at) st = st
  statement_node item w branch (t.Continue at) st = st
  statement_node item w branch (t.Return x at) st = resolve_option x st

unfoldable pub declare_item : BlockItem → Step
declare_item = para-BlockItem Step Step Step
    (item_node {B = BlockItem × Step} {X = Statement × Step} {R = Branch × Step} (λ x. x.1))
    (statement_node {B = BlockItem × Step} {X = Statement × Step} {R = Branch × Step} (λ x. x.1) (λ x. x.1) (λ x. x.1))
    (branch_node {B = BlockItem × Step} {X = Statement × Step} {R = Branch × Step} (λ x. x.1))

-- ---- definitions of functions (6.9.1)

abbrev pub owned_by : ℕ → Object → Object
owned_by n o = record o { function = Some n }

-- the parameters, from this number on, belong to the function whose body follows
abbrev pub owns : ℕ → ℕ → State → State
owns n first st = record st {
  names = record st.names { objects = take first st.names.objects ++ map (owned_by n) (drop first st.names.objects) };
  function = Some n;
  labels = [];
}

abbrev pub function_declared : Option ScopeEntry → Option ℕ
function_declared None = None
function_declared (Some entry) = elim entry.declares as (λ _. Option ℕ) [ declares.Function n ↦ Some n | _ ↦ None ]

abbrev pub begins_by : ℕ → Option ℕ → State → State
begins_by first None st = record st { labels = [] }
begins_by first (Some n) st = owns n first st

abbrev pub begins_body : ℕ → Option (List ℕ) → State → State
begins_body first None st = st
begins_body first (Some name) st = begins_by first (function_declared (find st.ordinary name)) st

-- the parameters are declared in the body's block (6.2.1p4)
abbrev pub body_block : Option Block → State → State
body_block None st = enter st
body_block (Some block) st = enter_with block st

abbrev pub result_by : Option Signature → Option CType
result_by None = None
result_by (Some g) = Some g.result

abbrev pub result_of : State → Option ℕ → Option CType
result_of st None = None
result_of st (Some n) = result_by (slice_get st.names.signatures n)

-- rule 24 where the declarator doesn't itself make its name a function, rule 11 at a `...`, rule 10 at a result without cells
abbrev pub definition_pairs : ℕ → Built → State → State
definition_pairs first x st =
    note_if (not (is_some x.parameters)) first 24
    (note_all (elim x.dots as (λ _. List Pair) [ None ↦ [] | Some at ↦ pair at 11 ∷ [] ])
    (note_if (holds (is_incomplete st.names.structs x.at) (result_of st (signature_number_of x.ctype))) x.at 10 st))

abbrev pub ends_body : State → State
ends_body st = record (leave st) { function = None }

abbrev pub defines_by : ℕ → ℕ → Specified → Declarator → Built → List BlockItem → State
defines_by first objects found inside x body =
    let now = declares_name (how_of found first false true) (leaves_unsaid found inside) objects (record x { state = definition_pairs first x x.state }) in
    ends_body (in_order declare_item body (body_block x.parameters (begins_body objects x.name now)))

abbrev pub definition : List Specifier → Declarator → List BlockItem → State → State
definition specifiers inside body st =
    let first = first_at specifiers in
    let found = specify_all false specifiers st in
    let k = type_named first found in
    defines_by first (length k.state.names.objects) found inside (build inside (site_of Needed first) k.ctype k.state) body

-- ---- texts (6.9)

abbrev pub one_external : External → State → State
one_external (external.Empty at) st = st
one_external (external.Declared x) st = declaration x st
one_external (external.Defined specifiers inside body at) st = definition specifiers inside body st

abbrev pub all_externals : List External → State → State
all_externals [] st = st
all_externals (x ∷ xs) st = all_externals xs (one_external x st)

-- after the last token of a text
abbrev pub end_of : Tree → ℕ
end_of tree = length tree.lines

abbrev pub function_is_defined : Option Function → Bool
function_is_defined None = false
function_is_defined (Some f) = f.is_defined

abbrev pub number_is_defined : State → Option ℕ → Bool
number_is_defined st None = false
number_is_defined st (Some n) = function_is_defined (slice_get st.names.functions n)

abbrev pub main_is_defined : State → Bool
main_is_defined st = number_is_defined st (function_declared (find st.linked (codes "main")))

abbrev pub no_names : Names
no_names = record { meanings = []; objects = []; functions = []; structs = []; signatures = []; broken = [] }

-- at the beginning of a text whose file defines these objects
abbrev pub beginning : DataModel → List (List ℕ) → State
beginning model defined = record {
  names = no_names;
  ordinary = no_scope;
  tags = no_scope;
  linked = no_scope;
  begun = [];
  defined = defined;
  defines = [];
  function = None;
  labels = [];
  is_unevaluated = false;
  reached = 0;
  model = model;
}

-- which objects the file defines, after their uses too
abbrev pub defined_in : DataModel → Tree → List (List ℕ)
defined_in model tree = (all_externals tree.externals (beginning model [])).defines

-- rule 1 after the last token
abbrev pub with_main : ℕ → State → State
with_main end st = note_if (not (main_is_defined st)) end 1 st

-- what the names of a text stand for, and the rules that its declarations break
abbrev pub names_of : DataModel → Tree → Names
names_of model tree = (with_main (end_of tree) (all_externals tree.externals (beginning model (defined_in model tree)))).names
