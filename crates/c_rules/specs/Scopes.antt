-- Scopes, and what is known at a place in a text. Sections are those of ISO/IEC 9899:2011.
use Rattle.std.specs.Prelude.{ℕ, zero, suc, ◌+◌, ◌-◌, nat_eq, nat_lt, Bool, if◌then◌else◌, List, [], ◌∷◌, ◌++◌, Option, Some, None}
use Rattle.std.specs.List.{list_any}
use Rattle.std.specs.Str.{bytes_eq}
use Rattle.c_tokens.specs.declared.data_model.DataModel.{DataModel}
use Rattle.c_tree.specs.declared.expression.Expression.{Expression}
use Rattle.c_kinds.specs.Layouts.{Layout}
use Rattle.c_kinds.specs.declared.answer.Answer.{Answer}
use Rattle.c_rules.specs.declared.names.Declares.{Declares}
use Rattle.c_rules.specs.declared.names.ScopeEntry.{ScopeEntry}
use Rattle.c_rules.specs.declared.names.Meaning.{Meaning}
use Rattle.c_rules.specs.declared.names.Object.{Object}
use Rattle.c_rules.specs.declared.names.Names.{Names}
use Rattle.c_rules.specs.declared.names.Pair.{Pair}
use Rattle.c_rules.specs.Broken.{pair, pair_if}
use Rattle.c_rules.specs.Typing.{Given, layout_of, answer_of}

-- ---- scopes (6.2.1)

-- what is declared, the newest first, and how many blocks stand around
pub record Scope : Type 0 where
  pub entries : List ScopeEntry
  pub depth : ℕ

abbrev pub no_scope : Scope
no_scope = record { entries = []; depth = 0 }

abbrev pub find_in : List ScopeEntry → List ℕ → Option ScopeEntry
find_in [] name = None
find_in (entry ∷ entries) name = if bytes_eq entry.name name then Some entry else find_in entries name

-- the newest declaration of a name hides the others (6.2.1p4)
abbrev pub find : Scope → List ℕ → Option ScopeEntry
find scope name = find_in scope.entries name

abbrev pub at_depth : ℕ → Option ScopeEntry → Option ScopeEntry
at_depth depth None = None
at_depth depth (Some entry) = if nat_eq entry.depth depth then Some entry else None

-- a declaration of the name in the innermost block
abbrev pub find_here : Scope → List ℕ → Option ScopeEntry
find_here scope name = at_depth scope.depth (find scope name)

abbrev pub declared_in : Scope → List ℕ → Declares → Scope
declared_in scope name what = record { entries = record { name = name; declares = what; depth = scope.depth } ∷ scope.entries; depth = scope.depth }

abbrev pub entered : Scope → Scope
entered scope = record { entries = scope.entries; depth = scope.depth + 1 }

-- the entries of the innermost block stand in front
abbrev pub of_block : ℕ → List ScopeEntry → List ScopeEntry
of_block depth [] = []
of_block depth (entry ∷ entries) = if nat_eq entry.depth depth then entry ∷ of_block depth entries else []

abbrev pub around_block : ℕ → List ScopeEntry → List ScopeEntry
around_block depth [] = []
around_block depth (entry ∷ entries) = if nat_eq entry.depth depth then around_block depth entries else entry ∷ entries

abbrev pub left : Scope → Scope
left scope = record { entries = around_block scope.depth scope.entries; depth = scope.depth - 1 }

abbrev pub innermost : Scope → List ScopeEntry
innermost scope = of_block scope.depth scope.entries

-- a block begins in which these are declared already
abbrev pub entered_with : List ScopeEntry → Scope → Scope
entered_with block scope = record { entries = block ++ scope.entries; depth = scope.depth + 1 }

-- ---- states

-- what is known at a place in a text
pub record State : Type 0 where
  pub names : Names
  -- objects, functions, typedef names and enumeration constants
  pub ordinary : Scope
  pub tags : Scope
  -- functions and objects with linkage, of the whole text so far (6.2.2)
  pub linked : Scope
  -- the structs whose members have begun
  pub begun : List ℕ
  -- the names that the file defines as objects anywhere, and those that it has defined so far (6.9.2)
  pub defined : List (List ℕ)
  pub defines : List (List ℕ)
  -- the function in whose definition the place is, and the labels of its body so far (6.8.1)
  pub function : Option ℕ
  pub labels : List (List ℕ)
  -- the place is under `sizeof`, which evaluates nothing
  pub is_unevaluated : Bool
  -- the last name, constant or operator after an operand so far
  pub reached : ℕ
  pub model : DataModel

abbrev pub given_at : State → Given
given_at st = record { names = st.names; model = st.model }

abbrev pub layout_at : State → Layout
layout_at st = layout_of (given_at st)

-- what an expression is here
abbrev pub answer_at : Expression → State → Answer
answer_at x st = answer_of (given_at st) x st.is_unevaluated

-- ---- blocks

abbrev pub enter : State → State
enter st = record st { ordinary = entered st.ordinary; tags = entered st.tags }

abbrev pub leave : State → State
leave st = record st { ordinary = left st.ordinary; tags = left st.tags }

-- the names and tags that a block declares
pub record Block : Type 0 where
  pub ordinary : List ScopeEntry
  pub tags : List ScopeEntry

abbrev pub block_of : State → Block
block_of st = record { ordinary = innermost st.ordinary; tags = innermost st.tags }

abbrev pub enter_with : Block → State → State
enter_with block st = record st { ordinary = entered_with block.ordinary st.ordinary; tags = entered_with block.tags st.tags }

abbrev pub is_at_file : State → Bool
is_at_file st = nat_eq st.ordinary.depth 0

-- ---- broken rules

abbrev pub note_all : List Pair → State → State
note_all pairs st = record st { names = record st.names { broken = st.names.broken ++ pairs } }

abbrev pub note : ℕ → ℕ → State → State
note at rule st = note_all (pair at rule ∷ []) st

abbrev pub note_if : Bool → ℕ → ℕ → State → State
note_if broken at rule st = note_all (pair_if broken at rule) st

-- ---- declarations and meanings

-- a table by token number: what isn't there is None
abbrev pub put_at : {A : Type 0} → List (Option A) → ℕ → A → List (Option A)
put_at [] zero v = Some v ∷ []
put_at [] (suc n) v = None ∷ put_at [] n v
put_at (x ∷ xs) zero v = Some v ∷ xs
put_at (x ∷ xs) (suc n) v = x ∷ put_at xs n v

abbrev pub mean : ℕ → Meaning → State → State
mean at what st = record st { names = record st.names { meanings = put_at st.names.meanings at what } }

abbrev pub declare : List ℕ → Declares → State → State
declare name what st = record st { ordinary = declared_in st.ordinary name what }

abbrev pub declare_tag : List ℕ → Declares → State → State
declare_tag name what st = record st { tags = declared_in st.tags name what }

abbrev pub link : List ℕ → Declares → State → State
link name what st = record st { linked = declared_in st.linked name what }

abbrev pub with_object : Object → State → State
with_object o st = record st { names = record st.names { objects = st.names.objects ++ o ∷ [] } }

-- tokens are passed in the order of the text
abbrev pub passes : ℕ → State → State
passes at st = record st { reached = if nat_lt st.reached at then at else st.reached }

abbrev pub is_among : List ℕ → List (List ℕ) → Bool
is_among name names = list_any (λ other. bytes_eq other name) names
