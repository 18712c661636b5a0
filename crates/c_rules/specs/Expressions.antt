-- The rules that expressions break: one case for each kind of node (6.5), and the expressions in declarators, specifiers and
-- type names. Sections are those of ISO/IEC 9899:2011.
use Rattle.std.specs.Prelude.{ℕ, Bool, true, false, ◌&&◌, if◌then◌else◌, List, [], ◌∷◌, ◌++◌, map}
use Rattle.c_tree.specs.declared.expression.AssignOperator.{AssignOperator}
use Rattle.c_tree.specs.declared.expression.Expression.{Expression, out-Expression}
use Rattle.c_tree.specs.declared.expression.Specifier.{Specifier}
use Rattle.c_tree.specs.declared.expression.Declarator.{Declarator}
use Rattle.c_tree.specs.declared.expression.Declarator.TheOpen.{Declarator-F, EnumConstant-F, Expression-F, Member-F, Specifier-F}
use Rattle.c_tree.specs.declared.expression.Declarator.TheOpen.{Declarator-F as d, EnumConstant-F as c, Expression-F as e, Member-F as m, Specifier-F as s}
use Rattle.c_kinds.specs.declared.typed.Typed.{Typed}
use Rattle.c_kinds.specs.Layouts.{Layout}
use Rattle.c_kinds.specs.declared.answer.Answer.{Answer}
use Rattle.c_kinds.specs.declared.answer.Answer.TheVariants.{Gives}
use Rattle.c_kinds.specs.Values.{used}
use Rattle.c_kinds.specs.Casts.{assigns_misfit}
use Rattle.c_rules.specs.declared.names.Pair.{Pair}
use Rattle.c_rules.specs.Recursion.{Nodes, ExpressionOver, of_expression, of_specifier, of_declarator}
use Rattle.c_rules.specs.Broken.{pair_if, broken_in, broken_using, of_each}
use Rattle.c_rules.specs.Calls.{call_pairs}
use Rattle.c_rules.specs.Typing.{Given, layout_of, meaning_at, is_assert_fail, is_text, assign_node, expression_answer, answer_of}

-- what a part breaks, where it is evaluated or, with true, where it isn't
abbrev pub Judged : Type 0
Judged = Bool → List Pair

-- rule 13 of an assignment that has a type: what is assigned doesn't fit (6.5.16.1p1)
abbrev pub misfit : Layout → AssignOperator → ℕ → Answer → Answer → Bool
misfit l operator at (Gives target) value = elim (used l value (λ v. Gives v)) as (λ _. Bool) [ Gives v ↦ assigns_misfit l operator at target v | _ ↦ false ]
misfit l operator at _ value = false

abbrev pub has_type : Answer → Bool
has_type (Gives x) = true
has_type _ = false

abbrev pub misfit_pairs : Layout → AssignOperator → ℕ → Answer → Answer → List Pair
misfit_pairs l operator at target value = pair_if (has_type (assign_node l operator at target value) && misfit l operator at target value) at 13

-- ---- what is found in the parts of a node, one after the other; `tree` is a part itself, `w` what is found in it

module _ {X E : Type 0} where
  -- the strings of `__assert_fail` are left out
  abbrev pub in_arguments : (E → Expression) → (E → Bool → List X) → Bool → Bool → List E → List X
  in_arguments tree w texts u [] = []
  in_arguments tree w texts u (x ∷ xs) = (if texts && is_text (tree x) then [] else w x u) ++ in_arguments tree w texts u xs

  -- the name of a function that is called is no expression by itself
  abbrev pub in_call : Given → (E → Expression) → (E → Bool → List X) → E → List E → Bool → List X
  in_call g tree w function arguments u = elim (out-Expression (tree function)) as (λ _. List X) [
    | e.«Expression::Name» text name ↦ in_arguments tree w (is_assert_fail g.names (meaning_at g.names name)) u arguments
    | _ ↦ w function u ++ in_arguments tree w false u arguments
  ]

module _ {X D C E M S L P T : Type 0} where
  abbrev pub in_expression : Given → (E → Expression) → (E → Bool → List X) → (T → Bool → List X) → Expression-F D C E M S L P T → Bool → List X
  in_expression g tree w named (e.«Expression::Name» name at) u = []
  in_expression g tree w named (e.Constant kind n at) u = []
  in_expression g tree w named (e.Text at) u = []
  in_expression g tree w named (e.Subscript array index at) u = w array u ++ w index u
  in_expression g tree w named (e.Call function arguments at) u = in_call g tree w function arguments u
  in_expression g tree w named (e.Member object name at) u = w object u
  in_expression g tree w named (e.PointedMember pointer name at) u = w pointer u
  in_expression g tree w named (e.Postfix step operand at) u = w operand u
  in_expression g tree w named (e.Prefix step operand at) u = w operand u
  in_expression g tree w named (e.Unary operator operand at) u = w operand u
  in_expression g tree w named (e.SizeofExpression operand at) u = w operand true
  in_expression g tree w named (e.SizeofType type_name at) u = named type_name true
  in_expression g tree w named (e.Cast type_name operand at) u = named type_name u ++ w operand u
  in_expression g tree w named (e.Binary operator left right at) u = w left u ++ w right u
  in_expression g tree w named (e.Conditional test first otherwise at) u = w test u ++ w first u ++ w otherwise u
  in_expression g tree w named (e.Assign operator target value at) u = w target u ++ w value u
  in_expression g tree w named (e.Comma parts at) u = of_each (λ x. w x u) parts

  -- the sizes in a declarator, and its parameters (6.7.6)
  abbrev pub in_declarator : (D → Bool → List X) → (E → Bool → List X) → (P → Bool → List X) → Declarator-F D C E M S L P T → Bool → List X
  in_declarator inside w parameter (d.«Declarator::Name» name at) u = []
  in_declarator inside w parameter (d.Unnamed at) u = []
  in_declarator inside w parameter (d.Pointer qualifiers inner at) u = inside inner u
  in_declarator inside w parameter (d.Array inner size at) u = inside inner u ++ w size u
  in_declarator inside w parameter (d.OpenArray inner at) u = inside inner u
  in_declarator inside w parameter (d.«Declarator::Function» inner ps variadic at) u = inside inner u ++ of_each (λ p. parameter p u) ps

  -- the members and constants of a specifier (6.7.2.1, 6.7.2.2)
  abbrev pub in_specifier : (L → Bool → List X) → (C → Bool → List X) → Specifier-F D C E M S L P T → Bool → List X
  in_specifier line constant (s.Struct tag lines at) u = of_each (λ x. line x u) lines
  in_specifier line constant (s.Enum tag constants at) u = of_each (λ x. constant x u) constants
  in_specifier line constant _ u = []

  abbrev pub in_member : (D → Bool → List X) → (E → Bool → List X) → Member-F D C E M S L P T → Bool → List X
  in_member declarator w (m.Plain x) u = declarator x u
  in_member declarator w (m.BitField x width at) u = declarator x u ++ w width u
  in_member declarator w (m.UnnamedBitField width at) u = w width u

  abbrev pub in_constant : (E → Bool → List X) → EnumConstant-F D C E M S L P T → Bool → List X
  in_constant w (c.Next name at) u = []
  in_constant w (c.Valued name value at) u = w value u

-- what is found in each part of a tree, by what is found at an expression
abbrev pub collecting : {X : Type 0} → (ExpressionOver (Bool → List X) (Bool → List X) (Bool → List X) (Bool → List X) (Bool → List X) (Bool → List X) (Bool → List X) (Bool → List X) → Bool → List X)
    → Nodes (Bool → List X) (Bool → List X) (Bool → List X) (Bool → List X) (Bool → List X) (Bool → List X) (Bool → List X) (Bool → List X)
collecting at_expression = record {
  declarator = in_declarator (λ x. x.1) (λ x. x.1) (λ x. x.1);
  constant = in_constant (λ x. x.1);
  expression = at_expression;
  member = in_member (λ x. x.1) (λ x. x.1);
  specifier = in_specifier (λ x. x.1) (λ x. x.1);
  line = λ l u. of_each (λ x. x.1 u) l.specifiers ++ of_each (λ x. x.1 u) l.members;
  parameter = λ l u. of_each (λ x. x.1 u) l.specifiers ++ l.declarator.1 u;
  type_name = λ l u. of_each (λ x. x.1 u) l.specifiers ++ l.declarator.1 u;
}

-- ---- what an expression breaks

-- the rules 5 and 7 of a call by a name
abbrev pub named_call_pairs : Given → Expression → List Answer → List Pair
named_call_pairs g function arguments = elim (out-Expression function) as (λ _. List Pair) [
  | e.«Expression::Name» text name ↦ call_pairs (layout_of g) g.names name (meaning_at g.names name) arguments
  | _ ↦ []
]

module _ {D C E M S L P T : Type 0} where
  -- the rules that leave the expression its type
  abbrev pub own_pairs : Given → (E → Expression) → Expression-F D C E M S L P T → Judged
  own_pairs g tree (e.Call function arguments at) u = named_call_pairs g (tree function) (map (λ x. answer_of g (tree x) u) arguments)
  own_pairs g tree (e.Assign operator target value at) u = misfit_pairs (layout_of g) operator at (answer_of g (tree target) u) (answer_of g (tree value) u)
  own_pairs g tree _ u = []

  -- what its parts break, what it breaks itself, and the rule that leaves it without a type
  abbrev pub expression_pairs : Given → (E → Expression) → (E → Judged) → (T → Judged) → Expression-F D C E M S L P T → Judged
  expression_pairs g tree w named l u =
      in_expression g tree w named l u ++ own_pairs g tree l u ++ broken_in (expression_answer g (λ x. answer_of g (tree x)) tree l u)

-- ---- over trees

abbrev pub judging : Given → Nodes Judged Judged Judged Judged Judged Judged Judged Judged
judging g = collecting (expression_pairs g (λ x. x.0) (λ x. x.1) (λ x. x.1))

-- the rules that an evaluated expression breaks
abbrev pub broken_expression : Given → Expression → List Pair
broken_expression g x = of_expression (judging g) x false

abbrev pub broken_specifiers : Given → List Specifier → List Pair
broken_specifiers g xs = of_each (λ x. of_specifier (judging g) x false) xs

abbrev pub broken_declarator : Given → Declarator → List Pair
broken_declarator g x = of_declarator (judging g) x false

-- and what using its value breaks besides
abbrev pub broken_value : Given → Expression → (Typed → Answer) → List Pair
broken_value g x f = broken_expression g x ++ broken_using (layout_of g) (answer_of g x false) f

abbrev pub is_used : Typed → Answer
is_used v = Gives v
