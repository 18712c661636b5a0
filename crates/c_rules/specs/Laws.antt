-- The laws of the definitions.
use Rattle.std.specs.Prelude.{◌≡◌, ◌<◌, ⊤, ℕ, ℤ, Bool, true, false, List, [], Option, Some, None, ◌⊎◌, slice_get}
use Rattle.std.specs.List.{All, Contains}
use Rattle.c_tokens.specs.declared.data_model.DataModel.{DataModel}
use Rattle.c_tree.specs.declared.declaration.Tree.{Tree}
use Rattle.c_tree.specs.declared.expression.Expression.{Expression, out-Expression}
use Rattle.c_tree.specs.declared.expression.Expression.TheVariants as tree
use Rattle.c_tree.specs.declared.expression.TypeName.{TypeName}
use Rattle.c_kinds.specs.declared.types.CType.{CType}
use Rattle.c_kinds.specs.declared.typed.Typed.{Typed}
use Rattle.c_kinds.specs.declared.answer.Answer.TheVariants.{Gives}
use Rattle.c_rules.specs.declared.names.Meaning.{Meaning}
use Rattle.c_rules.specs.declared.names.Meaning.TheVariants as meaning
use Rattle.c_rules.specs.declared.names.Names.{Names}
use Rattle.c_rules.specs.declared.names.Object.{Object}
use Rattle.c_rules.specs.declared.names.Pair.{Pair}
use Rattle.c_rules.specs.declared.program.Program.{Program}
use Rattle.c_rules.specs.Typing.{Given, meaning_at, is_function_meaning, expression_answer, answer_of}
use Rattle.c_rules.specs.Broken.{is_before}
use Rattle.c_rules.specs.Expressions.{has_type}
use Rattle.c_rules.specs.Found.{answers_in_text, initialisers_in_text}
use Rattle.c_rules.specs.Initialisers.{broken_initialiser, initialised_at}
use Rattle.c_rules.specs.Effects.{Called}
use Rattle.c_rules.specs.Sequencing.{done_in_text}
use Rattle.c_rules.specs.Texts.{names_of}
use Rattle.c_rules.specs.Accepted.{Accepted, Refused, broken_pairs, given_of, given_in, IsAcceptedProgram}

-- a text is accepted, or it is refused for a pair
abbrev pub IsAnswered : Type 0
IsAnswered = (model : DataModel) (tree : Tree) → Accepted model tree ⊎ ((p : Pair) × Refused model tree p)

abbrev pub NeverBoth : Type 0
NeverBoth = (model : DataModel) (tree : Tree) (p : Pair) → Accepted model tree → Refused model tree p → ⊥

abbrev pub ForOnePair : Type 0
ForOnePair = (model : DataModel) (tree : Tree) (p q : Pair) → Refused model tree p → Refused model tree q → p ≡ q

-- that pair is broken, and none before it is
abbrev pub ForABrokenPair : Type 0
ForABrokenPair = (model : DataModel) (tree : Tree) (p : Pair) → Refused model tree p → Contains (broken_pairs model tree) p

abbrev pub ForTheLeast : Type 0
ForTheLeast = (model : DataModel) (tree : Tree) (p q : Pair) → Refused model tree p → Contains (broken_pairs model tree) q → is_before q p ≡ false

-- one step of the recursion: an expression's answer is what its kind of node says of the answers of its parts
abbrev pub GoesByParts : Type 0
GoesByParts = (g : Given) (x : Expression) (u : Bool) → answer_of g x u ≡ expression_answer g (answer_of g) (λ y. y) (out-Expression x) u

-- ---- types of expressions

-- in an accepted text each expression has a type
abbrev pub EachHasAType : Type 0
EachHasAType = (model : DataModel) (text : Tree) → Accepted model text → All (λ x. has_type x.answer ≡ true) (answers_in_text (given_of model text) text)

-- and the program's table has it
abbrev pub TableHasEachType : Type 0
TableHasEachType = (p : Program) → IsAcceptedProgram p → All (λ x. (t : CType) × (slice_get p.types.expressions x.at ≡ Some (Some t))) (answers_in_text (given_in p) p.tree)

-- ---- what names stand for where expressions have types

abbrev pub object_type : Option Object → Option CType
object_type None = None
object_type (Some o) = o.ctype

-- an object of this type, or a constant
abbrev pub IsValueNamed : Names → Option Meaning → CType → Type 0
IsValueNamed names (Some (meaning.Object n)) t = object_type (slice_get names.objects n) ≡ Some t
IsValueNamed names (Some (meaning.Constant n)) t = (k : ℤ) × (n ≡ Some k)
IsValueNamed names _ t = ⊥

abbrev pub NamesHaveMeanings : Type 0
NamesHaveMeanings = (g : Given) (name : List ℕ) (at : ℕ) (u : Bool) (v : Typed) → answer_of g (tree.Name name at) u ≡ Gives v → IsValueNamed g.names (meaning_at g.names at) v.ctype

-- what is called by its name is a function
abbrev pub CallsHaveFunctions : Type 0
CallsHaveFunctions = (g : Given) (name : List ℕ) (named_at : ℕ) (arguments : List Expression) (at : ℕ) (u : Bool) (v : Typed)
    → answer_of g (tree.Call (tree.Name name named_at) arguments at) u ≡ Gives v → is_function_meaning (meaning_at g.names named_at) ≡ true

abbrev pub IsTypeNamed : Option Meaning → Type 0
IsTypeNamed m = (t : CType) × (star : Option ℕ) × (m ≡ Some (meaning.Type (Some t) star))

abbrev pub CastsHaveTypes : Type 0
CastsHaveTypes = (g : Given) (named : TypeName) (operand : Expression) (at : ℕ) (u : Bool) (v : Typed) → answer_of g (tree.Cast named operand at) u ≡ Gives v → IsTypeNamed (meaning_at g.names at)

abbrev pub SizesHaveTypes : Type 0
SizesHaveTypes = (g : Given) (named : TypeName) (at : ℕ) (u : Bool) (v : Typed) → answer_of g (tree.SizeofType named at) u ≡ Gives v → IsTypeNamed (meaning_at g.names at)

-- ---- calls

-- in an accepted text functions have ranks, and each call is of a function of a lower rank than the one in which it stands
abbrev pub IsOfLowerRank : (ℕ → ℕ) → Option ℕ → Called → Type 0
IsOfLowerRank rank None c = ⊤
IsOfLowerRank rank (Some f) c = rank c.callee < rank f

abbrev pub CallsDescend : Type 0
CallsDescend = (model : DataModel) (text : Tree) → Accepted model text
    → (rank : ℕ → ℕ) × All (λ d. All (IsOfLowerRank rank d.function) d.done.asked.calls) (done_in_text (given_of model text) text.externals)

-- ---- initialisers

-- in an accepted text each initialiser fits what it initialises
abbrev pub InitialisersFit : Type 0
InitialisersFit = (model : DataModel) (text : Tree) → Accepted model text
    → All (λ x. broken_initialiser (given_of model text) x.initialiser (initialised_at (names_of model text) x.equals x.declares) ≡ []) (initialisers_in_text (given_of model text) text)
