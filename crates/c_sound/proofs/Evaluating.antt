-- Expressions that are evaluated leave code on the control stack.
use Rattle.std.proofs.Common.{◌≡◌, ℕ, zero, suc, ℤ, Bool, true, false, cond, List, [], ◌∷◌, length, Option, Some, None, refl, subst, slice_get}
use Rattle.c_tree.specs.declared.expression.BinaryOperator.{BinaryOperator}
use Rattle.c_tree.specs.declared.expression.BinaryOperator.TheVariants as b
use Rattle.c_tree.specs.declared.expression.UnaryOperator.{UnaryOperator}
use Rattle.c_tree.specs.declared.expression.UnaryOperator.TheVariants as u
use Rattle.c_tree.specs.declared.expression.Expression.{Expression, out-Expression}
use Rattle.c_tree.specs.declared.expression.Declarator.TheOpen.{Expression-F as e}
use Rattle.c_kinds.specs.declared.types.CType.{CType}
use Rattle.c_rules.specs.declared.names.KnownFunction.{KnownFunction}
use Rattle.c_rules.specs.declared.names.KnownFunction.TheVariants as known
use Rattle.c_rules.specs.declared.names.Meaning.{Meaning}
use Rattle.c_rules.specs.declared.names.Meaning.TheVariants as meaning
use Rattle.c_rules.specs.declared.program.Program.{Program}
use Rattle.c_rules.specs.declared.checks.CheckKind.TheVariants.{Assertion}
use Rattle.c_rules.specs.Statements.{function_result, beginning}
use Rattle.c_model.specs.declared.values.Scalar.{Scalar}
use Rattle.c_model.specs.Programs.{ExpressionNode, type_at, type_of, meaning_at, token_of}
use Rattle.c_model.specs.Functions.{Called, Defined, Known, Neither, called, body_of}
use Rattle.c_model.specs.Operators.{operate_on, operator_of}
use Rattle.c_model.specs.Values.{scalar_in, is_no}
use Rattle.c_model.specs.Calls.{call_by, entering}
use Rattle.c_model.specs.KnownFunctions.{asks_first, known_call, call_move}
use Rattle.c_model.specs.Expressions.{constant_value, name_value, lvalue, passed_on, place_passed_on, address_pointed, address_element, address_node, unary_value, second, binary_value, assigns, comma_parts, value_node, value_move}
use Rattle.c_model.specs.Places.{named_place, pointed_place, place_node, place_move}
use Rattle.c_model.specs.Configurations.{Item, Needs, Locates, Back, State, Unmet, Unassumed}
use Rattle.c_model.specs.Moves.{giving, gives, asks, locates}
use Rattle.c_sound.proofs.Standing.{Each, Around, ItemIn, Asked, PointedParts, AddressParts, UnaryParts, ValueParts, PlaceParts, IsKept, IsCode, AreCode}
use Rattle.c_sound.proofs.Keeping.{Keeps, given, settled}

each_at : {A : Type 0} (P : A → Type 0) (xs : List A) (n : ℕ) (m : Option A) → slice_get xs n ≡ m → Each P xs → elim m as (λ _. Type 0) [ None ↦ Unit {0} | Some x ↦ P x ]
each_at P [] n None q h = tt
each_at P [] n (Some y) q h = absurd (cc)
each_at P (x ∷ xs) zero None q h = absurd (cc)
each_at P (x ∷ xs) zero (Some y) q h = let e : x ≡ y = cc in subst P e h.0
each_at P (x ∷ xs) (suc n) m q h = each_at P xs n m q h.1

-- the bodies of functions are code
pub record HasBodies (p : Program) : Type 0 where
  pub bodies : (f : ℕ) → Each (ItemIn p (beginning (function_result p.names (slice_get p.names.functions f)))) (body_of p f)

-- at the beginning of a body
pub body_around : (p : Program) (f objects : ℕ) (rest : List Item) → Around p (beginning (function_result p.names (slice_get p.names.functions f))) (Back f objects ∷ rest)
body_around p f objects rest = record { breaks = λ q. absurd (cc); continues = λ q. absurd (cc); result = λ g q. cc }

module _ (p : Program) (a : Asked) (k : IsKept p a) (bodies : HasBodies p) (c : State) (r : AreCode p a c.control) where
  pub gave : (v : List Scalar) → Keeps p a (gives v c)
  gave v = given p a v c.control r

  asked : (x : Expression) (item : Item) → a.OfValue x → IsCode p a item c.control → Keeps p a (asks x item c)
  asked x item h i = (h, (i, r))

  located : (x : Expression) (item : Item) → a.OfPlace x → IsCode p a item c.control → Keeps p a (locates x item c)
  located x item h i = (h, (i, r))

  -- ---- names and lvalues

  constant : (n : Option ℤ) → Keeps p a (constant_value n c)
  constant None = gave []
  constant (Some n) = gave _

  named : (m : Option Meaning) (t : CType) → Keeps p a (name_value p m t c)
  named None t = gave []
  named (Some (meaning.Object number)) t = gave _
  named (Some (meaning.Constant n)) t = constant n
  named (Some m) t = gave []

  of_lvalue : (t : CType) (x : Expression) (found : List (List Scalar)) → a.OfValue x → a.OfPlace x → Keeps p a (lvalue p t x found c)
  of_lvalue t x [] h i = located x (Needs x []) i h
  of_lvalue t x (v ∷ found) h i = gave _

  -- ---- one operand

  of_passed : (operand x : Expression) (found : List (List Scalar)) → a.OfValue x → a.OfValue operand → Keeps p a (passed_on operand x found c)
  of_passed operand x [] h i = asked operand (Needs x []) i h
  of_passed operand x (v ∷ found) h i = gave v

  of_place_passed : (operand x : Expression) (found : List (List Scalar)) → a.OfValue x → a.OfPlace operand → Keeps p a (place_passed_on operand x found c)
  of_place_passed operand x [] h i = located operand (Needs x []) i h
  of_place_passed operand x (v ∷ found) h i = gave v

  of_pointed : (operator : UnaryOperator) (pointer x : Expression) (found : List (List Scalar)) → a.OfValue x → PointedParts a operator pointer → Keeps p a (address_pointed operator pointer x found c)
  of_pointed u.Indirection pointer x found h i = of_passed pointer x found h i
  of_pointed operator pointer x found h i = gave []

  of_element : (at : ℕ) (array index x : Expression) (found : List (List Scalar)) → a.OfValue x → a.OfValue array → a.OfValue index → Keeps p a (address_element p at array index x found c)
  of_element at array index x [] h i j = asked array (Needs x []) i h
  of_element at array index x (v ∷ []) h i j = asked index (Needs x (v ∷ [])) j h
  of_element at array index x (v ∷ (w ∷ found)) h i j = settled p a at _ _ (λ s. given p a (s ∷ []) c.control r)

  of_address : (operand : Expression) (l : ExpressionNode) (x : Expression) (found : List (List Scalar)) → a.OfValue x → AddressParts a operand l → Keeps p a (address_node p operand l x found c)
  of_address operand (e.Unary operator pointer at) x found h i = of_pointed operator pointer x found h i
  of_address operand (e.Subscript array index at) x found h i = of_element at array index x found h i.0 i.1
  of_address operand l x found h i = of_place_passed operand x found h i

  of_unary : (at : ℕ) (operator : UnaryOperator) (operand x : Expression) (found : List (List Scalar)) → a.OfValue x → UnaryParts a operator x operand → Keeps p a (unary_value p at operator operand x found c)
  of_unary at u.Address operand x found h i = of_address operand (out-Expression operand) x found h i
  of_unary at u.Indirection operand x found h i = of_lvalue (type_at p at) x found h i
  of_unary at u.Not operand x [] h i = asked operand (Needs x []) i h
  of_unary at u.Not operand x (v ∷ found) h i = gave _
  of_unary at operator operand x [] h i = asked operand (Needs x []) i h
  of_unary at operator operand x (v ∷ found) h i = settled p a at (operate_on p operator (type_of p operand) (scalar_in v)) (λ s. giving (s ∷ []) c) (λ s. given p a (s ∷ []) c.control r)

  -- ---- two operands

  seconds : (operator : BinaryOperator) (right x : Expression) (v : List Scalar) → a.OfValue x → a.OfValue right → Keeps p a (second operator right x v c)
  seconds b.LogicalAnd right x v h i = (given p a _ c.control r, (i, (tt, r)))
  seconds b.LogicalOr right x v h i = ((i, (tt, r)), given p a _ c.control r)
  seconds operator right x v h i = asked right (Needs x (v ∷ [])) i h

  of_binary : (at : ℕ) (operator : BinaryOperator) (left right x : Expression) (found : List (List Scalar)) → a.OfValue x → a.OfValue left → a.OfValue right → Keeps p a (binary_value p at operator left right x found c)
  of_binary at operator left right x [] h i j = asked left (Needs x []) i h
  of_binary at operator left right x (v ∷ []) h i j = seconds operator right x v h j
  of_binary at operator left right x (v ∷ (w ∷ found)) h i j = settled p a at _ _ (λ s. given p a (s ∷ []) c.control r)

  of_assigned : (at : ℕ) (operator : Option BinaryOperator) (target other : CType) (place : Scalar) (v : List Scalar) → Keeps p a (assigns p at operator target other place v c)
  of_assigned at None target other place v = given p a _ c.control r
  of_assigned at (Some operator) target other place v = settled p a at _ _ (λ s. given p a _ c.control r)

  pub of_commas : (parts : List Expression) → Each a.OfValue parts → Keeps p a (comma_parts parts c)
  of_commas [] h = gave []
  of_commas (x ∷ []) h = (h.0, r)
  of_commas (x ∷ (y ∷ parts)) h = (h.0, (tt, (h.1, r)))

  -- ---- calls

  of_first : (arguments : List Expression) (x : Expression) → a.OfValue x → Each a.OfValue arguments → Keeps p a (asks_first arguments x c)
  of_first [] x h i = gave []
  of_first (argument ∷ arguments) x h i = asked argument (Needs x []) i.0 h

  of_assertion : (q : Bool) (at : ℕ) → Keeps p a (cond q (Unmet Assertion at (giving [] c)) (gives [] c))
  of_assertion true at = gave []
  of_assertion false at = gave []

  of_assumption : (q : Bool) → Keeps p a (cond q (Unassumed (giving [] c)) (gives [] c))
  of_assumption true = gave []
  of_assumption false = gave []

  of_known : (function : KnownFunction) (at : ℕ) (arguments : List Expression) (x : Expression) (found : List (List Scalar)) → a.OfValue x → Each a.OfValue arguments → Keeps p a (known_call function at arguments x found c)
  of_known known.Assert at arguments x [] h i = of_first arguments x h i
  of_known known.Assert at arguments x (v ∷ found) h i = of_assertion (is_no v) at
  of_known known.Assume at arguments x [] h i = of_first arguments x h i
  of_known known.Assume at arguments x (v ∷ found) h i = of_assumption (is_no v)
  of_known known.Abort at arguments x found h i = tt
  of_known known.Exit at arguments x [] h i = of_first arguments x h i
  of_known known.Exit at arguments x (v ∷ found) h i = tt
  of_known known.Error at arguments x found h i = gave []
  of_known known.AssertFail at arguments x found h i = gave []
  of_known (known.Nondet kind) at arguments x found h i = λ n. given p a _ c.control r

  entered : (f : ℕ) (found : List (List Scalar)) → AreCode p a (entering p f found c).control
  entered f found = (record { near = _; around = body_around p f (length c.store) c.control; are = bodies.bodies f }, (tt, r))

  of_argument : (f : ℕ) (m : Option Expression) (x : Expression) (found : List (List Scalar)) → a.OfValue x → elim m as (λ _. Type 0) [ None ↦ Unit {0} | Some y ↦ a.OfValue y ] → Keeps p a (call_by p f m x found c)
  of_argument f None x found h i = entered f found
  of_argument f (Some argument) x found h i = asked argument (Needs x found) i h

  of_call : (what : Called) (at : ℕ) (arguments : List Expression) (x : Expression) (found : List (List Scalar)) → a.OfValue x → Each a.OfValue arguments → Keeps p a (call_move p what at arguments x found c)
  of_call (Defined f) at arguments x found h i = of_argument f (slice_get arguments (length found)) x found h (each_at a.OfValue arguments (length found) (slice_get arguments (length found)) refl i)
  of_call (Known function) at arguments x found h i = of_known function at arguments x found h i
  of_call Neither at arguments x found h i = gave []

  -- ---- each kind of expression

  of_node : (x : Expression) (l : ExpressionNode) (found : List (List Scalar)) → a.OfValue x → ValueParts a x l → Keeps p a (value_node p x l found c)
  of_node x (e.«Expression::Name» name at) found h i = named (meaning_at p at) (type_at p at)
  of_node x (e.Constant kind value at) found h i = gave _
  of_node x (e.Text at) found h i = gave []
  of_node x (e.Subscript array index at) found h i = of_lvalue (type_at p at) x found h i
  of_node x (e.Call function arguments at) found h i = of_call (called p (meaning_at p (token_of function))) (token_of function) arguments x found h i
  of_node x (e.Member object name at) found h i = of_lvalue (type_at p at) x found h i
  of_node x (e.PointedMember pointer name at) found h i = of_lvalue (type_at p at) x found h i
  of_node x (e.Postfix step operand at) [] h i = located operand (Needs x []) i h
  of_node x (e.Postfix step operand at) (v ∷ found) h i = settled p a at _ _ (λ s. given p a _ c.control r)
  of_node x (e.Prefix step operand at) [] h i = located operand (Needs x []) i h
  of_node x (e.Prefix step operand at) (v ∷ found) h i = settled p a at _ _ (λ s. given p a _ c.control r)
  of_node x (e.Unary operator operand at) found h i = of_unary at operator operand x found h i
  of_node x (e.SizeofExpression operand at) found h i = gave _
  of_node x (e.SizeofType type_name at) found h i = gave _
  of_node x (e.Cast type_name operand at) [] h i = asked operand (Needs x []) i h
  of_node x (e.Cast type_name operand at) (v ∷ found) h i = gave _
  of_node x (e.Binary operator left right at) found h i = of_binary at operator left right x found h i.0 i.1
  of_node x (e.Conditional test first otherwise at) [] h i = asked test (Needs x []) i.0 h
  of_node x (e.Conditional test first otherwise at) (v ∷ found) h i = ((i.1.1, (tt, r)), (i.1.0, (tt, r)))
  of_node x (e.Assign operator target value at) [] h i = located target (Needs x []) i.0 h
  of_node x (e.Assign operator target value at) (v ∷ []) h i = asked value (Needs x (v ∷ [])) i.1 h
  of_node x (e.Assign operator target value at) (v ∷ (w ∷ found)) h i = of_assigned at (operator_of operator) _ _ _ w
  of_node x (e.Comma parts at) found h i = of_commas parts i

  pub value_kept : (x : Expression) (found : List (List Scalar)) → a.OfValue x → Keeps p a (value_move p x found c)
  value_kept x found h = of_node x (out-Expression x) found h (k.value x h)

  -- ---- each kind of place

  at_named : (m : Option Meaning) → Keeps p a (named_place m c)
  at_named None = gave []
  at_named (Some (meaning.Object number)) = gave _
  at_named (Some m) = gave []

  at_pointed : (at : ℕ) (operator : UnaryOperator) (pointer x : Expression) (found : List (List Scalar)) → a.OfPlace x → PointedParts a operator pointer → Keeps p a (pointed_place p at operator pointer x found c)
  at_pointed at u.Indirection pointer x [] h i = asked pointer (Locates x []) i h
  at_pointed at u.Indirection pointer x (v ∷ found) h i = settled p a at _ _ (λ s. given p a _ c.control r)
  at_pointed at operator pointer x found h i = gave []

  at_node : (x : Expression) (l : ExpressionNode) (found : List (List Scalar)) → a.OfPlace x → PlaceParts a l → Keeps p a (place_node p x l found c)
  at_node x (e.«Expression::Name» name at) found h i = at_named (meaning_at p at)
  at_node x (e.Subscript array index at) [] h i = asked array (Locates x []) i.0 h
  at_node x (e.Subscript array index at) (v ∷ []) h i = asked index (Locates x (v ∷ [])) i.1 h
  at_node x (e.Subscript array index at) (v ∷ (w ∷ found)) h i = settled p a at _ _ (λ s. given p a _ c.control r)
  at_node x (e.Member object name at) [] h i = located object (Locates x []) i h
  at_node x (e.Member object name at) (v ∷ found) h i = gave _
  at_node x (e.PointedMember pointer name at) [] h i = asked pointer (Locates x []) i h
  at_node x (e.PointedMember pointer name at) (v ∷ found) h i = settled p a at _ _ (λ s. given p a _ c.control r)
  at_node x (e.Unary operator operand at) found h i = at_pointed at operator operand x found h i
  at_node x l found h i = gave []

  pub place_kept : (x : Expression) (found : List (List Scalar)) → a.OfPlace x → Keeps p a (place_move p x found c)
  place_kept x found h = at_node x (out-Expression x) found h (k.place x h)
