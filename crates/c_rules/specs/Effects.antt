-- What expressions may read and write, and where it is asked whether side effects are unsequenced (6.5p2): one case for each
-- kind of node. Sections are those of ISO/IEC 9899:2011.
use Rattle.std.specs.Prelude.{ℕ, Bool, true, false, if◌then◌else◌, List, [], ◌∷◌, ◌++◌, map, Option, Some, None}
use Rattle.c_tree.specs.declared.expression.BinaryOperator.{BinaryOperator}
use Rattle.c_tree.specs.declared.expression.AssignOperator.{AssignOperator}
use Rattle.c_tree.specs.declared.expression.AssignOperator.TheVariants as assign
use Rattle.c_tree.specs.declared.expression.UnaryOperator.{UnaryOperator}
use Rattle.c_tree.specs.declared.expression.UnaryOperator.TheVariants as unary
use Rattle.c_tree.specs.declared.expression.Expression.{Expression, out-Expression}
use Rattle.c_tree.specs.declared.expression.Specifier.{Specifier}
use Rattle.c_tree.specs.declared.expression.Declarator.{Declarator}
use Rattle.c_tree.specs.declared.expression.Declarator.TheOpen.{Declarator-F, EnumConstant-F, Expression-F, Member-F, Specifier-F}
use Rattle.c_tree.specs.declared.expression.Declarator.TheOpen.{Declarator-F as d, EnumConstant-F as c, Expression-F as e, Member-F as m, Specifier-F as s}
use Rattle.c_kinds.specs.Types.{is_array}
use Rattle.c_kinds.specs.declared.answer.Answer.{Answer}
use Rattle.c_kinds.specs.declared.answer.Answer.TheVariants.{Gives}
use Rattle.c_kinds.specs.declared.family.Family.{Family}
use Rattle.c_kinds.specs.declared.family.Family.TheVariants.{Logical}
use Rattle.c_kinds.specs.Operands.{family}
use Rattle.c_rules.specs.declared.names.Meaning.{Meaning}
use Rattle.c_rules.specs.declared.names.Meaning.TheVariants as meaning
use Rattle.c_rules.specs.Recursion.{Nodes, of_expression, of_specifier, of_declarator}
use Rattle.c_rules.specs.Typing.{Given, meaning_at, is_assert_fail, expression_answer, answer_of}

-- ---- accesses

-- what is accessed: a declared object, as a whole, or what a pointer leads to
pub data Target : Type 0 where
  Object : ℕ → Target
  Pointed : Target

pub data Access : Type 0 where
  Reads : Target → Access
  Writes : Target → Access
  -- all that a function and those that it calls may access
  Calls : ℕ → Access

-- where the rule is asked: of two operands, or of a target and what its right side writes outside calls
pub data Question : Type 0 where
  Between : ℕ → List Access → List Access → Question
  Among : ℕ → Target → List Target → Question

-- a call of a function of this number, at the name
pub record Called : Type 0 where
  pub callee : ℕ
  pub at : ℕ

-- what is asked in a part of a text, which calls stand there, and the objects whose address is taken or whose array becomes
-- a pointer
pub record Asked : Type 0 where
  pub questions : List Question
  pub calls : List Called
  pub taken : List ℕ

abbrev pub nothing_asked : Asked
nothing_asked = record { questions = []; calls = []; taken = [] }

abbrev pub also : Asked → Asked → Asked
also x y = record { questions = x.questions ++ y.questions; calls = x.calls ++ y.calls; taken = x.taken ++ y.taken }

abbrev pub asking : Question → Asked → Asked
asking q x = record x { questions = x.questions ++ q ∷ [] }

abbrev pub taking : List ℕ → Asked → Asked
taking objects x = record x { taken = x.taken ++ objects }

-- what isn't evaluated takes no address; the rule is asked there nevertheless
abbrev pub without_evaluation : Asked → Asked
without_evaluation x = record x { taken = [] }

abbrev pub asked_all : {A : Type 0} → (A → Asked) → List A → Asked
asked_all f [] = nothing_asked
asked_all f (x ∷ xs) = also (f x) (asked_all f xs)

-- what an expression does: what finding its place or value accesses, its place, if it is one, and its writes outside calls
pub record Effect : Type 0 where
  pub finding : List Access
  pub place : Option Target
  pub is_array : Bool
  pub direct : List Target
  pub asked : Asked

-- neither a place nor an array
abbrev pub doing : List Access → List Target → Asked → Effect
doing finding direct asked = record { finding = finding; place = None; is_array = false; direct = direct; asked = asked }

abbrev pub read_of : Bool → Option Target → List Access
read_of is_array None = []
read_of is_array (Some t) = if is_array then [] else Reads t ∷ []

-- what the value of an expression accesses; an array isn't read
abbrev pub accesses : Effect → List Access
accesses x = x.finding ++ read_of x.is_array x.place

abbrev pub object_in : Option Target → List ℕ
object_in (Some (Object n)) = n ∷ []
object_in _ = []

-- what is asked where the value is used: an array becomes a pointer (6.3.2.1p3)
abbrev pub asked_of_value : Effect → Asked
asked_of_value x = if x.is_array then taking (object_in x.place) x.asked else x.asked

abbrev pub targets_of : Option Target → List Target
targets_of None = []
targets_of (Some t) = t ∷ []

abbrev pub writes_of : Option Target → List Access
writes_of None = []
writes_of (Some t) = Writes t ∷ []

-- the target of `=` isn't read, that of a compound assignment is
abbrev pub target_read : AssignOperator → Option Target → List Access
target_read assign.Plain t = []
target_read _ None = []
target_read _ (Some t) = Reads t ∷ []

abbrev pub among_if : ℕ → Option Target → List Target → Asked → Asked
among_if at None writes x = x
among_if at (Some t) writes x = asking (Among at t writes) x

-- each two arguments
abbrev pub asking_pairs : ℕ → List Access → List (List Access) → List Question
asking_pairs at x [] = []
asking_pairs at x (y ∷ ys) = Between at x y ∷ asking_pairs at x ys

abbrev pub asking_arguments : ℕ → List (List Access) → List Question
asking_arguments at [] = []
asking_arguments at (x ∷ xs) = asking_pairs at x xs ++ asking_arguments at xs

abbrev pub joined : {A : Type 0} → List (List A) → List A
joined [] = []
joined (x ∷ xs) = x ++ joined xs

abbrev pub call_access : Option Meaning → List Access
call_access (Some (meaning.Function n)) = Calls n ∷ []
call_access _ = []

abbrev pub called_at : ℕ → Option Meaning → List Called
called_at at (Some (meaning.Function n)) = record { callee = n; at = at } ∷ []
called_at at _ = []

abbrev pub name_target : Option Meaning → Option Target
name_target (Some (meaning.Object n)) = Some (Object n)
name_target _ = None

abbrev pub is_array_answer : Answer → Bool
is_array_answer (Gives x) = is_array x.ctype
is_array_answer _ = false

-- `&&` and `||` have a sequence point between their operands (6.5.13p4, 6.5.14p4)
abbrev pub is_sequenced : Family → Bool
is_sequenced Logical = true
is_sequenced _ = false

-- ---- single operators

abbrev pub with_value : Effect → Effect
with_value x = doing (accesses x) x.direct (asked_of_value x)

abbrev pub at_place : Option Target → Bool → List Access → List Target → Asked → Effect
at_place place array finding direct asked = record { finding = finding; place = place; is_array = array; direct = direct; asked = asked }

-- 6.5.2.1
abbrev pub subscript_effect : ℕ → Bool → Effect → Effect → Effect
subscript_effect at array x y = at_place (if x.is_array then x.place else Some Pointed) array (accesses x ++ accesses y) (x.direct ++ y.direct)
    (asking (Between at (accesses x) (accesses y)) (also x.asked (asked_of_value y)))

abbrev pub pointed_effect : Bool → Effect → Effect
pointed_effect array x = at_place (Some Pointed) array (accesses x) x.direct (asked_of_value x)

abbrev pub step_effect : Effect → Effect
step_effect x = doing (accesses x ++ writes_of x.place) (x.direct ++ targets_of x.place) x.asked

abbrev pub unary_effect : UnaryOperator → Bool → Effect → Effect
unary_effect unary.Address array x = doing x.finding x.direct (taking (object_in x.place) x.asked)
unary_effect unary.Indirection array x = pointed_effect array x
unary_effect operator array x = with_value x

abbrev pub asking_if : Bool → Question → Asked → Asked
asking_if sequenced q x = if sequenced then x else asking q x

abbrev pub binary_effect : BinaryOperator → ℕ → Effect → Effect → Effect
binary_effect operator at x y = doing (accesses x ++ accesses y) (x.direct ++ y.direct)
    (asking_if (is_sequenced (family operator)) (Between at (accesses x) (accesses y)) (also (asked_of_value x) (asked_of_value y)))

-- 6.5.16
abbrev pub assign_effect : AssignOperator → ℕ → Effect → Effect → Effect
assign_effect operator at x y =
    doing (x.finding ++ target_read operator x.place ++ accesses y ++ writes_of x.place) (x.direct ++ y.direct ++ targets_of x.place)
    (among_if at x.place y.direct (asking (Between at (x.finding ++ target_read operator x.place) (accesses y)) (also x.asked (asked_of_value y))))

-- one after the other, with a sequence point between (6.5.15p4, 6.5.17p2)
abbrev pub in_sequence : Effect → Effect → Effect
in_sequence x y = doing (accesses x ++ y.finding) (x.direct ++ y.direct) (also (asked_of_value x) y.asked)

-- ---- calls (6.5.2.2)

module _ {E : Type 0} where
  abbrev pub arguments_asked : (E → Effect) → List E → Asked
  arguments_asked w xs = asked_all (λ x. asked_of_value (w x)) xs

  abbrev pub all_accesses : (E → Effect) → List E → List (List Access)
  all_accesses w xs = map (λ x. accesses (w x)) xs

  -- each two arguments are asked; those of `__assert_fail` aren't evaluated
  abbrev pub named_call_effect : Given → (E → Effect) → ℕ → List E → Option Meaning → Effect
  named_call_effect g w name xs m =
      let asked = also (record { questions = asking_arguments name (all_accesses w xs); calls = called_at name m; taken = [] }) (arguments_asked w xs) in
      if is_assert_fail g.names m then doing [] [] (without_evaluation asked) else doing (joined (all_accesses w xs) ++ call_access m) [] asked

  abbrev pub call_effect : Given → (E → Effect) → (E → Expression) → E → List E → Effect
  call_effect g w tree function xs = elim (out-Expression (tree function)) as (λ _. Effect) [
    | e.«Expression::Name» text name ↦ named_call_effect g w name xs (meaning_at g.names name)
    | _ ↦ doing (joined (all_accesses w xs)) [] (also (w function).asked (arguments_asked w xs))
  ]

  abbrev pub sequence_effect : (E → Effect) → List E → Effect
  sequence_effect w [] = doing [] [] nothing_asked
  sequence_effect w (x ∷ xs) = in_sequence (w x) (sequence_effect w xs)

-- ---- one case for each kind of node; `array` is whether the node itself is an array

module _ {D C E M S L P T : Type 0} where
  abbrev pub effect_by : Given → Bool → (E → Bool → Effect) → (E → Expression) → (T → Asked) → Expression-F D C E M S L P T → Bool → Effect
  effect_by g array w tree named (e.«Expression::Name» name at) u = at_place (name_target (meaning_at g.names at)) array [] [] nothing_asked
  effect_by g array w tree named (e.Constant kind n at) u = doing [] [] nothing_asked
  effect_by g array w tree named (e.Text at) u = doing [] [] nothing_asked
  effect_by g array w tree named (e.Subscript x index at) u = subscript_effect at array (w x u) (w index u)
  effect_by g array w tree named (e.Call function arguments at) u = call_effect g (λ x. w x u) tree function arguments
  effect_by g array w tree named (e.Member object name at) u = record (w object u) { is_array = array }
  effect_by g array w tree named (e.PointedMember pointer name at) u = pointed_effect array (w pointer u)
  effect_by g array w tree named (e.Postfix step operand at) u = step_effect (w operand u)
  effect_by g array w tree named (e.Prefix step operand at) u = step_effect (w operand u)
  effect_by g array w tree named (e.Unary operator operand at) u = unary_effect operator array (w operand u)
  effect_by g array w tree named (e.SizeofExpression operand at) u = doing [] [] (without_evaluation (w operand true).asked)
  effect_by g array w tree named (e.SizeofType type_name at) u = doing [] [] (without_evaluation (named type_name))
  effect_by g array w tree named (e.Cast type_name operand at) u =
      let x = with_value (w operand u) in record x { asked = also (named type_name) x.asked }
  effect_by g array w tree named (e.Binary operator left right at) u = binary_effect operator at (w left u) (w right u)
  effect_by g array w tree named (e.Conditional test first otherwise at) u = in_sequence (w test u) (in_sequence (w first u) (with_value (w otherwise u)))
  effect_by g array w tree named (e.Assign operator target value at) u = assign_effect operator at (w target u) (w value u)
  effect_by g array w tree named (e.Comma parts at) u = sequence_effect (λ x. w x u) parts

  abbrev pub effect_node : Given → (E → Bool → Effect) → (E → Expression) → (T → Asked) → Expression-F D C E M S L P T → Bool → Effect
  effect_node g w tree named l u = effect_by g (is_array_answer (expression_answer g (λ x. answer_of g (tree x)) tree l u)) w tree named l u

  -- the sizes in declarators, the values of constants and the widths of bit-fields are asked, too
  abbrev pub declarator_asked : (D → Asked) → (E → Asked) → (P → Asked) → Declarator-F D C E M S L P T → Asked
  declarator_asked inside w parameter (d.«Declarator::Name» name at) = nothing_asked
  declarator_asked inside w parameter (d.Unnamed at) = nothing_asked
  declarator_asked inside w parameter (d.Pointer qualifiers inner at) = inside inner
  declarator_asked inside w parameter (d.Array inner size at) = also (inside inner) (w size)
  declarator_asked inside w parameter (d.OpenArray inner at) = inside inner
  declarator_asked inside w parameter (d.«Declarator::Function» inner ps variadic at) = also (inside inner) (asked_all parameter ps)

  abbrev pub specifier_asked : (L → Asked) → (C → Asked) → Specifier-F D C E M S L P T → Asked
  specifier_asked line constant (s.Struct tag lines at) = asked_all line lines
  specifier_asked line constant (s.Enum tag constants at) = asked_all constant constants
  specifier_asked line constant _ = nothing_asked

  abbrev pub member_asked : (D → Asked) → (E → Asked) → Member-F D C E M S L P T → Asked
  member_asked declarator w (m.Plain x) = declarator x
  member_asked declarator w (m.BitField x width at) = also (declarator x) (w width)
  member_asked declarator w (m.UnnamedBitField width at) = w width

  abbrev pub constant_asked : (E → Asked) → EnumConstant-F D C E M S L P T → Asked
  constant_asked w (c.Next name at) = nothing_asked
  constant_asked w (c.Valued name value at) = w value

-- ---- over trees

abbrev pub value_asked : {A : Type 0} → A × (Bool → Effect) → Asked
value_asked x = asked_of_value (x.1 false)

abbrev pub tracing : Given → Nodes Asked Asked (Bool → Effect) Asked Asked Asked Asked Asked
tracing g = record {
  declarator = declarator_asked (λ x. x.1) value_asked (λ x. x.1);
  constant = constant_asked value_asked;
  expression = effect_node g (λ x. x.1) (λ x. x.0) (λ x. x.1);
  member = member_asked (λ x. x.1) value_asked;
  specifier = specifier_asked (λ x. x.1) (λ x. x.1);
  line = λ l. also (asked_all (λ x. x.1) l.specifiers) (asked_all (λ x. x.1) l.members);
  parameter = λ l. also (asked_all (λ x. x.1) l.specifiers) l.declarator.1;
  type_name = λ l. also (asked_all (λ x. x.1) l.specifiers) l.declarator.1;
}

unfoldable pub effect_of : Given → Expression → Effect
effect_of g x = of_expression (tracing g) x false

unfoldable pub asked_in_specifier : Given → Specifier → Asked
asked_in_specifier g x = of_specifier (tracing g) x

unfoldable pub asked_in_declarator : Given → Declarator → Asked
asked_in_declarator g x = of_declarator (tracing g) x
