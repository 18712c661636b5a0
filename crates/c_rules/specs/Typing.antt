-- The types of expressions: one case for each kind of node (6.5). What each name stands for is given by its token. Sections
-- are those of ISO/IEC 9899:2011.
use Rattle.std.specs.Prelude.{ℕ, ℤ, Bool, true, false, ◌&&◌, ◌||◌, if◌then◌else◌, List, [], ◌∷◌, Option, Some, None, slice_get}
use Rattle.kv_num.specs.declared.types.IntType.TheVariants.{Int}
use Rattle.c_tokens.specs.declared.data_model.DataModel.{DataModel}
use Rattle.c_tree.specs.declared.expression.AssignOperator.{AssignOperator}
use Rattle.c_tree.specs.declared.expression.UnaryOperator.{UnaryOperator}
use Rattle.c_tree.specs.declared.expression.UnaryOperator.TheVariants as unary
use Rattle.c_tree.specs.declared.expression.Expression.{Expression, out-Expression}
use Rattle.c_tree.specs.declared.expression.Declarator.TheOpen.{Expression-F}
use Rattle.c_tree.specs.declared.expression.Declarator.TheOpen.{Expression-F as e}
use Rattle.c_kinds.specs.declared.types.CType.{CType}
use Rattle.c_kinds.specs.declared.types.Signature.{Signature}
use Rattle.c_kinds.specs.declared.typed.Fixed.TheVariants.{Varies, Number, At}
use Rattle.c_kinds.specs.declared.typed.Fixed.{Fixed}
use Rattle.c_kinds.specs.declared.typed.Typed.{Typed}
use Rattle.c_kinds.specs.Types.{integer, void, unqualified, is_rows}
use Rattle.c_kinds.specs.Layouts.{Layout, flat}
use Rattle.c_kinds.specs.declared.answer.Answer.{Answer}
use Rattle.c_kinds.specs.declared.answer.Answer.TheVariants.{Gives, Breaks, Nothing}
use Rattle.c_kinds.specs.Values.{and_then, unless, part, used, result, place}
use Rattle.c_kinds.specs.Operands.{unary_answer, address_answer, binary_answer, sizeof_answer, sizeof_type_answer}
use Rattle.c_kinds.specs.Casts.{cast_answer, assign_answer, step_answer, conditional_answer, comma_answer}
use Rattle.c_kinds.specs.Elements.{subscript_answer, member_answer, pointed_member_answer}
use Rattle.c_rules.specs.declared.names.Meaning.{Meaning}
use Rattle.c_rules.specs.declared.names.Meaning.TheVariants as meaning
use Rattle.c_rules.specs.declared.names.KnownFunction.{KnownFunction}
use Rattle.c_rules.specs.declared.names.KnownFunction.TheVariants as known
use Rattle.c_rules.specs.declared.names.Object.{Object}
use Rattle.c_rules.specs.declared.names.Function.{Function}
use Rattle.c_rules.specs.declared.names.Names.{Names}
use Rattle.c_rules.specs.Recursion.{Nodes, of_expression}

-- what the names stand for, and the data model
pub record Given : Type 0 where
  pub names : Names
  pub model : DataModel

abbrev pub object_types : List Object → List (Option CType)
object_types [] = []
object_types (o ∷ os) = o.ctype ∷ object_types os

abbrev pub layout_of : Given → Layout
layout_of g = record { structs = g.names.structs; objects = object_types g.names.objects; model = g.model }

-- what stands at a token
abbrev pub meaning_at : Names → ℕ → Option Meaning
meaning_at names at = flat (slice_get names.meanings at)

-- ---- names (6.5.1)

-- the place of an object; that of a static one is constant (6.6p9)
abbrev pub object_place : ℕ → Bool → CType → ℕ → Fixed
object_place number is_static t at = if is_static then At number 0 else Varies

abbrev pub object_typed : ℕ → ℕ → Object → Option CType → Answer
object_typed at number o None = Nothing
object_typed at number o (Some t) = Gives (place t (object_place number o.is_static t at) (object_place number o.is_static t at) at at)

-- an object is defined somewhere where it is used; an operand of `sizeof` is no use (6.9p5)
abbrev pub object_answer : Bool → ℕ → ℕ → Option Object → Answer
object_answer is_unevaluated at number None = Nothing
object_answer is_unevaluated at number (Some o) = if o.is_defined || is_unevaluated then object_typed at number o o.ctype else Breaks 3 at

abbrev pub constant_answer : ℕ → Option ℤ → Answer
constant_answer at None = Nothing
constant_answer at (Some n) = Gives (result (integer Int) (Number n) at at)

-- a name that isn't the function of a call: a function is no value there
abbrev pub name_by : Names → Bool → ℕ → Option Meaning → Answer
name_by names is_unevaluated at (Some (meaning.Object number)) = object_answer is_unevaluated at number (slice_get names.objects number)
name_by names is_unevaluated at (Some (meaning.Constant n)) = constant_answer at n
name_by names is_unevaluated at (Some (meaning.Function number)) = Breaks 9 at
name_by names is_unevaluated at (Some (meaning.Known function)) = Breaks 9 at
name_by names is_unevaluated at _ = Breaks 3 at

abbrev pub name_answer : Names → Bool → ℕ → Answer
name_answer names is_unevaluated at = name_by names is_unevaluated at (meaning_at names at)

-- ---- calls (6.5.2.2)

abbrev pub known_result : KnownFunction → CType
known_result (known.Nondet kind) = integer kind
known_result _ = void

abbrev pub known_or_none : Option KnownFunction → Option CType
known_or_none None = None
known_or_none (Some function) = Some (known_result function)

abbrev pub signature_result : Option Signature → Option CType
signature_result None = None
signature_result (Some g) = Some (unqualified g.result)

abbrev pub function_result : Names → Function → Option CType
function_result names f = elim f.signature as (λ _. Option CType) [ None ↦ known_or_none f.known | Some number ↦ signature_result (slice_get names.signatures number) ]

abbrev pub numbered_result : Names → Option Function → Option CType
numbered_result names None = None
numbered_result names (Some f) = function_result names f

abbrev pub is_assert_fail_by : Option KnownFunction → Bool
is_assert_fail_by (Some known.AssertFail) = true
is_assert_fail_by _ = false

abbrev pub numbered_assert_fail : Option Function → Bool
numbered_assert_fail None = false
numbered_assert_fail (Some f) = is_assert_fail_by f.known

-- a call of `__assert_fail`, whose arguments may be strings
abbrev pub is_assert_fail : Names → Option Meaning → Bool
is_assert_fail names (Some (meaning.Known function)) = is_assert_fail_by (Some function)
is_assert_fail names (Some (meaning.Function n)) = numbered_assert_fail (slice_get names.functions n)
is_assert_fail names _ = false

abbrev pub is_text : Expression → Bool
is_text x = elim (out-Expression x) as (λ _. Bool) [ e.Text at ↦ true | _ ↦ false ]

abbrev pub called_result : ℕ → ℕ → Option CType → Answer
called_result name at None = Nothing
called_result name at (Some t) = Gives (result t Varies name at)

-- a name that is no function is no operand of a call, at the `(`
abbrev pub call_by : Names → Bool → ℕ → ℕ → Option Meaning → Answer
call_by names u name at (Some (meaning.Function n)) = called_result name at (numbered_result names (slice_get names.functions n))
call_by names u name at (Some (meaning.Known function)) = called_result name at (Some (known_result function))
call_by names u name at m = and_then (name_by names u name m) (λ _. Breaks 12 at)

-- ---- type names (6.7.7)

-- a type name whose parts break a rule names no type; where none stands, nothing is declared
abbrev pub cast_to : ℕ → Option Meaning → Typed → Answer
cast_to at (Some (meaning.Type (Some t) star)) v = cast_answer at star t v
cast_to at (Some (meaning.Type None star)) v = Nothing
cast_to at _ v = Breaks 3 at

abbrev pub sizeof_named : Layout → ℕ → Option Meaning → Answer
sizeof_named l at (Some (meaning.Type (Some t) star)) = sizeof_type_answer l at star t
sizeof_named l at (Some (meaning.Type None star)) = Nothing
sizeof_named l at _ = Breaks 3 at

abbrev pub is_function_meaning : Option Meaning → Bool
is_function_meaning (Some (meaning.Function n)) = true
is_function_meaning (Some (meaning.Known function)) = true
is_function_meaning _ = false

-- the expression is the name of a function
abbrev pub names_function : Names → Expression → Bool
names_function names x = elim (out-Expression x) as (λ _. Bool) [ e.«Expression::Name» name at ↦ is_function_meaning (meaning_at names at) | _ ↦ false ]

-- ---- one case for each kind of node; `w` gives the answer of a part, and `tree` the part itself

-- `&` takes a place, each other operator a value
abbrev pub unary_node : Layout → UnaryOperator → ℕ → Answer → Answer
unary_node l unary.Address at x = part x (λ v. address_answer at v)
unary_node l operator at x = used l x (λ v. unary_answer l operator at v)

-- a target and a value (6.5.16); a target that is an array of arrays is left out, whatever the value is
abbrev pub assign_node : Layout → AssignOperator → ℕ → Answer → Answer → Answer
assign_node l operator at target value = part target (λ x. unless (is_rows x.ctype) 9 x.named_at (used l value (λ v. assign_answer l operator at x v)))

-- a call by a name: what the name breaks itself comes first, then its arguments, then what the call breaks; `arguments` goes on
-- where each argument has a value, strings left out or not
abbrev pub named_call : Given → Bool → (Bool → Answer → Answer) → ℕ → ℕ → Option Meaning → Answer
named_call g u arguments name at m =
    let called = arguments (is_assert_fail g.names m) (call_by g.names u name at m) in
    if is_function_meaning m then called else and_then (name_by g.names u name m) (λ _. called)

-- a call, of a function by its name or of what is none
abbrev pub call_answer : Given → Bool → Expression → Answer → (Bool → Answer → Answer) → ℕ → Answer
call_answer g u function found arguments at = elim (out-Expression function) as (λ _. Answer) [
  | e.«Expression::Name» text name ↦ named_call g u arguments name at (meaning_at g.names name)
  | _ ↦ part found (λ _. Breaks 12 at)
]

module _ {E : Type 0} where
  -- arguments in order, each a value; the strings of `__assert_fail` are left out
  abbrev pub with_arguments : Layout → (E → Answer) → (E → Expression) → Bool → List E → Answer → Answer
  with_arguments l w tree texts [] answer = answer
  with_arguments l w tree texts (x ∷ xs) answer =
      if texts && is_text (tree x) then with_arguments l w tree texts xs answer else used l (w x) (λ _. with_arguments l w tree texts xs answer)

  -- each part is a value, and the last one is that of the whole (6.5.17); no parts are no operands
  abbrev pub sequence_answer : Layout → (E → Answer) → ℕ → List E → Answer
  sequence_answer l w at [] = Breaks 12 at
  sequence_answer l w at (x ∷ []) = used l (w x) (λ v. comma_answer at v)
  sequence_answer l w at (x ∷ (y ∷ rest)) = used l (w x) (λ _. sequence_answer l w at (y ∷ rest))

module _ {D C E M S L P T : Type 0} where
  -- `w` answers for a part that is evaluated or, with `true`, for one that isn't
  abbrev pub expression_answer : Given → (E → Bool → Answer) → (E → Expression) → Expression-F D C E M S L P T → Bool → Answer
  expression_answer g w tree (e.«Expression::Name» name at) u = name_answer g.names u at
  expression_answer g w tree (e.Constant kind n at) u = Gives (result (integer kind) (Number n) at at)
  expression_answer g w tree (e.Text at) u = Breaks 22 at
  expression_answer g w tree (e.Subscript array index at) u =
      part (w array u) (λ a. used (layout_of g) (w index u) (λ i. subscript_answer (layout_of g) at a i))
  expression_answer g w tree (e.Call function arguments at) u =
      call_answer g u (tree function) (w function u) (λ texts answer. with_arguments (layout_of g) (λ x. w x u) tree texts arguments answer) at
  expression_answer g w tree (e.Member object name at) u = part (w object u) (λ x. member_answer (layout_of g) at name x)
  expression_answer g w tree (e.PointedMember pointer name at) u = used (layout_of g) (w pointer u) (λ p. pointed_member_answer (layout_of g) at name p)
  expression_answer g w tree (e.Postfix step operand at) u = part (w operand u) (λ x. step_answer (layout_of g) at at x)
  expression_answer g w tree (e.Prefix step operand at) u = part (w operand u) (λ x. step_answer (layout_of g) at x.ends_at x)
  expression_answer g w tree (e.Unary operator operand at) u = unary_node (layout_of g) operator at (w operand u)
  expression_answer g w tree (e.SizeofExpression operand at) u =
      if names_function g.names (tree operand) then Breaks 16 at else part (w operand true) (λ x. sizeof_answer (layout_of g) at x)
  expression_answer g w tree (e.SizeofType type_name at) u = sizeof_named (layout_of g) at (meaning_at g.names at)
  expression_answer g w tree (e.Cast type_name operand at) u = used (layout_of g) (w operand u) (λ v. cast_to at (meaning_at g.names at) v)
  expression_answer g w tree (e.Binary operator left right at) u =
      used (layout_of g) (w left u) (λ x. used (layout_of g) (w right u) (λ y. binary_answer (layout_of g) operator at x y))
  expression_answer g w tree (e.Conditional test first otherwise at) u =
      used (layout_of g) (w test u) (λ t. used (layout_of g) (w first u) (λ x. used (layout_of g) (w otherwise u) (λ y. conditional_answer at t x y)))
  expression_answer g w tree (e.Assign operator target value at) u =
      assign_node (layout_of g) operator at (w target u) (w value u)
  expression_answer g w tree (e.Comma parts at) u = sequence_answer (layout_of g) (λ x. w x u) at parts

-- ---- over trees

abbrev pub Answers : Type 0
Answers = Bool → Answer

abbrev pub typing : Given → Nodes (Unit {0}) (Unit {0}) Answers (Unit {0}) (Unit {0}) (Unit {0}) (Unit {0}) (Unit {0})
typing g = record {
  declarator = λ _. tt;
  constant = λ _. tt;
  expression = expression_answer g (λ x. x.1) (λ x. x.0);
  member = λ _. tt;
  specifier = λ _. tt;
  line = λ _. tt;
  parameter = λ _. tt;
  type_name = λ _. tt;
}

-- what an expression is: it has a type, or a rule is broken; unevaluated is what stands under `sizeof`
unfoldable pub answer_of : Given → Expression → Bool → Answer
answer_of g x = of_expression (typing g) x
