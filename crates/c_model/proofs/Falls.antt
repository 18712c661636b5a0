-- Each step that does not arrive leaves fewer steps.
use Rattle.std.proofs.Common.{◌≡◌, ℕ, zero, suc, ◌+◌, ◌≤◌, List, [], ◌∷◌, ◌++◌, length, drop, Bool, true, false, ℤ, Option, Some, None, refl, ap, ◌∙◌, arith, cond, length-append}
use Rattle.std.proofs.Math.Seq.{drop-cons}
use Rattle.std.proofs.lemmas.Option.{get_or_from_slice_get, slice_get_within}
use Rattle.std.specs.Prelude.{slice_get}
use Rattle.c_tree.specs.declared.expression.BinaryOperator.{BinaryOperator}
use Rattle.c_tree.specs.declared.expression.BinaryOperator.TheVariants as bin
use Rattle.c_tree.specs.declared.expression.UnaryOperator.{UnaryOperator}
use Rattle.c_tree.specs.declared.expression.UnaryOperator.TheVariants as un
use Rattle.c_tree.specs.declared.expression.Declarator.TheOpen.{Expression-F as e}
use Rattle.c_tree.specs.declared.expression.Expression.{Expression, out-Expression}
use Rattle.c_tree.specs.declared.statement.BlockItem.TheOpen.{Statement-F as t}
use Rattle.c_tree.specs.declared.statement.Statement.{Statement}
use Rattle.c_kinds.specs.declared.types.CType.{CType}
use Rattle.c_rules.specs.declared.names.KnownFunction.{KnownFunction}
use Rattle.c_rules.specs.declared.names.KnownFunction.TheVariants as known
use Rattle.c_rules.specs.declared.program.Program.{Program}
use Rattle.c_model.specs.declared.values.Scalar.{Scalar}
use Rattle.c_model.specs.declared.values.Outcome.{Outcome}
use Rattle.c_model.specs.declared.values.Outcome.TheVariants as outcome
use Rattle.c_model.specs.Blocks.{at_head}
use Rattle.c_model.specs.Configurations.{Item, Value, Needs, Place, Locates, CommaParts, Truth, Converts, Drops, Loop, State, Move, Goes, Unmet, Forks, Takes, Unassumed, Stops}
use Rattle.c_model.specs.Functions.{Called, Defined, Known, Neither, called}
use Rattle.c_model.specs.KnownFunctions.{asks_first, known_call, call_move}
use Rattle.c_model.specs.Calls.{call_by, entering}
use Rattle.c_model.specs.Operators.{keeping, operator_of}
use Rattle.c_model.specs.Values.{scalar_in, is_no}
use Rattle.c_tree.specs.declared.expression.AssignOperator.{AssignOperator}
use Rattle.c_rules.specs.declared.checks.CheckKind.{CheckKind}
use Rattle.c_model.specs.Moves.{put, give, giving, asking, gives, settles}
use Rattle.c_model.specs.Expressions.{name_value, lvalue, passed_on, place_passed_on, address_pointed, address_element, address_node, unary_value, second, binary_value, conditional_value, assigns, assign_value, comma_parts, value_node}
use Rattle.c_model.specs.Places.{named_place, pointed_place, place_node}
use Rattle.c_rules.specs.declared.checks.CheckKind.TheVariants.{Assertion}
use Rattle.c_model.specs.Programs.{ExpressionNode, token_of, meaning_at, type_at, type_of}
use Rattle.c_rules.specs.declared.names.Meaning.{Meaning}
use Rattle.c_rules.specs.declared.names.Meaning.TheVariants as meaning
use Rattle.c_model.specs.Costs.{total, all_costs, call_cost, place_cost, value_cost, expression_cost, function_cost}
use Rattle.c_model.proofs.Costs.{of_expression_is}
use Rattle.c_model.proofs.Measure.{value_left, place_left, item_cost, left}

module _ (p : Program) (cs : ℕ → ℕ) where
  -- fewer steps are left than n, or it is an arrival
  pub record Less (d : State) (n : ℕ) : Type 0 where
    pub fewer : at_head d.control ≡ false → 1 + left p cs d.control ≤ n

  abbrev pub Falls : Move → ℕ → Type 0
  Falls (Goes d) n = Less d n
  Falls (Unmet check at d) n = Unit {0}
  Falls (Forks holds a b) n = Less a n × Less b n
  Falls (Takes kind go) n = (v : ℤ) → Less (go v) n
  Falls (Unassumed d) n = Unit {0}
  Falls Stops n = Unit {0}

  -- of an expression; of a node of one with k operands found, and of its place; of an item
  abbrev pub of : Expression → ℕ
  of x = total cs (expression_cost p x)

  abbrev pub node : ExpressionNode → ℕ → ℕ
  node l k = total cs (value_cost p (expression_cost p) (λ y. y) l k)

  abbrev pub place : ExpressionNode → ℕ → ℕ
  place l k = total cs (place_cost (expression_cost p) l k)

  abbrev pub waiting : Item → ℕ
  waiting item = total cs (item_cost p item)

  pub is_node : (x : Expression) → of x ≡ node (out-Expression x) 0
  is_node x = ap (total cs) (of_expression_is p x)

  -- ---- what is left after a value is given, an operand asked for, or a place

  pub hands : (v : List Scalar) (items : List Item) → left p cs (give v items) ≤ left p cs items
  hands v [] = omega arith
  hands v (Needs x found ∷ rest) =
      let n : length (found ++ v ∷ []) ≡ suc (length found) = omega (arith, length-append found (v ∷ [])) in
      let q = ap (λ k. total cs (value_left p x k)) n in omega (arith, q)
  hands v (Locates x found ∷ rest) =
      let n : length (found ++ v ∷ []) ≡ suc (length found) = omega (arith, length-append found (v ∷ [])) in
      let q = ap (λ k. total cs (place_left p x k)) n in omega (arith, q)
  hands v (Drops ∷ rest) = omega arith
  hands v (_ ∷ rest) = omega arith

  pub onward : (d : State) (n : ℕ) → 1 + left p cs d.control ≤ n → Less d n
  onward d n e = record { fewer = λ _. e }

  pub arrived : (x : Statement) (c : State) (n : ℕ) → Less (put (Loop x) c) n
  arrived x c n = record { fewer = λ q. absurd (cc) }

  pub given : (v : List Scalar) (c : State) (n : ℕ) → 1 + left p cs c.control ≤ n → Less (giving v c) n
  given v c n e = onward (giving v c) n (omega (arith, hands v c.control, e))

  pub asked : (a : Expression) (item : Item) (c : State) (n : ℕ) → 1 + (of a + (waiting item + left p cs c.control)) ≤ n → Less (asking a item c) n
  asked a item c n e = onward (asking a item c) n (omega (arith, is_node a, e))

  place_within : (l : ExpressionNode) → place l 0 ≤ node l 0
  place_within (e.Subscript array index at) = omega arith
  place_within (e.Member object name at) = omega arith
  place_within (e.PointedMember pointer name at) = omega arith
  place_within (e.Unary operator operand at) = omega arith
  place_within (e.«Expression::Name» name at) = omega arith
  place_within (e.Constant kind value at) = omega arith
  place_within (e.Text at) = omega arith
  place_within (e.Call function arguments at) = omega arith
  place_within (e.Postfix step operand at) = omega arith
  place_within (e.Prefix step operand at) = omega arith
  place_within (e.SizeofExpression operand at) = omega arith
  place_within (e.SizeofType type_name at) = omega arith
  place_within (e.Cast type_name operand at) = omega arith
  place_within (e.Binary operator left right at) = omega arith
  place_within (e.Conditional test first otherwise at) = omega arith
  place_within (e.Assign operator target value at) = omega arith
  place_within (e.Comma parts at) = omega arith

  pub located : (a : Expression) (item : Item) (c : State) (n : ℕ) → 1 + (of a + (waiting item + left p cs c.control)) ≤ n → Less (put (Place a []) (put item c)) n
  located a item c n e = onward (put (Place a []) (put item c)) n (omega (arith, is_node a, place_within (out-Expression a), e))

  pub settled : (at : ℕ) (o : Outcome) (go : Scalar → State) (n : ℕ) → ((s : Scalar) → Less (go s) n) → Falls (settles at o go) n
  settled at (outcome.Gives s) go n h = h s
  settled at (outcome.Unmet check) go n h = tt

  pub weaken : (m : Move) (n k : ℕ) → n ≤ k → Falls m n → Falls m k
  weaken (Goes d) n k e h = record { fewer = λ q. omega (arith, h.fewer q, e) }
  weaken (Unmet check at d) n k e h = tt
  weaken (Forks holds a b) n k e h = (record { fewer = λ q. omega (arith, h.0.fewer q, e) }, record { fewer = λ q. omega (arith, h.1.fewer q, e) })
  weaken (Takes kind go) n k e h = λ v. record { fewer = λ q. omega (arith, (h v).fewer q, e) }
  weaken (Unassumed d) n k e h = tt
  weaken Stops n k e h = tt

  -- ---- each node has a step

  pub some_left : (l : ExpressionNode) (k : ℕ) → 1 ≤ node l k
  some_left (e.Subscript array index at) zero = omega arith
  some_left (e.Subscript array index at) (suc k) = omega arith
  some_left (e.Member object name at) zero = omega arith
  some_left (e.Member object name at) (suc k) = omega arith
  some_left (e.PointedMember pointer name at) zero = omega arith
  some_left (e.PointedMember pointer name at) (suc k) = omega arith
  some_left (e.Postfix step operand at) zero = omega arith
  some_left (e.Postfix step operand at) (suc k) = omega arith
  some_left (e.Prefix step operand at) zero = omega arith
  some_left (e.Prefix step operand at) (suc k) = omega arith
  some_left (e.Unary operator operand at) zero = omega arith
  some_left (e.Unary operator operand at) (suc zero) = omega arith
  some_left (e.Unary operator operand at) (suc (suc k)) = omega arith
  some_left (e.Cast type_name operand at) zero = omega arith
  some_left (e.Cast type_name operand at) (suc k) = omega arith
  some_left (e.Binary operator left right at) zero = omega arith
  some_left (e.Binary operator left right at) (suc zero) = omega arith
  some_left (e.Binary operator left right at) (suc (suc k)) = omega arith
  some_left (e.Conditional test first otherwise at) zero = omega arith
  some_left (e.Conditional test first otherwise at) (suc k) = omega arith
  some_left (e.Assign operator target value at) zero = omega arith
  some_left (e.Assign operator target value at) (suc zero) = omega arith
  some_left (e.Assign operator target value at) (suc (suc k)) = omega arith
  some_left (e.Call function arguments at) k = omega arith
  some_left (e.Comma parts at) k = omega arith
  some_left _ k = omega arith

  pub some_place : (l : ExpressionNode) (k : ℕ) → 1 ≤ place l k
  some_place (e.Subscript array index at) zero = omega arith
  some_place (e.Subscript array index at) (suc zero) = omega arith
  some_place (e.Subscript array index at) (suc (suc k)) = omega arith
  some_place (e.Member object name at) zero = omega arith
  some_place (e.Member object name at) (suc k) = omega arith
  some_place (e.PointedMember pointer name at) zero = omega arith
  some_place (e.PointedMember pointer name at) (suc k) = omega arith
  some_place (e.Unary operator operand at) zero = omega arith
  some_place (e.Unary operator operand at) (suc k) = omega arith
  some_place _ k = omega arith

  -- ---- an expression that waits

  needs : (x : Expression) (l : ExpressionNode) → out-Expression x ≡ l → (found : List (List Scalar)) → waiting (Needs x found) ≡ node l (suc (length found))
  needs x l o found = ap (λ z. node z (suc (length found))) o

  waits : (x : Expression) (l : ExpressionNode) → out-Expression x ≡ l → (found : List (List Scalar)) → waiting (Locates x found) ≡ place l (suc (length found))
  waits x l o found = ap (λ z. place z (suc (length found))) o

  -- a value that is read from its place
  read_falls : (x : Expression) (l : ExpressionNode) → out-Expression x ≡ l → 1 + (place l 0 + node l 1) ≤ node l 0 → (t : CType) (found : List (List Scalar)) (c : State)
      → Falls (lvalue p t x found c) (node l (length found) + left p cs c.control)
  read_falls x l o h t [] c = onward (put (Place x []) (put (Needs x []) c)) _ (omega (arith, h, needs x l o [], ap (λ z. place z 0) o))
  read_falls x l o h t (v ∷ vs) c = given _ c _ (omega (arith, some_left l (suc (length vs))))

  -- ---- names, `&`, and operators

  name_falls : (m : Option Meaning) (t : CType) (c : State) → Falls (name_value p m t c) (1 + left p cs c.control)
  name_falls None t c = given _ c _ (omega arith)
  name_falls (Some (meaning.Object number)) t c = given _ c _ (omega arith)
  name_falls (Some (meaning.Constant None)) t c = given _ c _ (omega arith)
  name_falls (Some (meaning.Constant (Some n))) t c = given _ c _ (omega arith)
  name_falls (Some (meaning.Function number)) t c = given _ c _ (omega arith)
  name_falls (Some (meaning.Known function)) t c = given _ c _ (omega arith)
  name_falls (Some (meaning.Type named star)) t c = given _ c _ (omega arith)

  module _ (x operand : Expression) (at : ℕ) (op : UnaryOperator) (o : out-Expression x ≡ e.Unary op operand at) (c : State) where
    passed_falls : (inside : Expression) → of inside ≤ of operand → (found : List (List Scalar)) → Falls (passed_on inside x found c) (node (e.Unary op operand at) (length found) + left p cs c.control)
    passed_falls inside h [] = asked inside (Needs x []) c _ (omega (arith, h, needs x _ o []))
    passed_falls inside h (v ∷ vs) = given v c _ (omega (arith, some_left (e.Unary op operand at) (suc (length vs))))

    place_passed_falls : (found : List (List Scalar)) → Falls (place_passed_on operand x found c) (node (e.Unary op operand at) (length found) + left p cs c.control)
    place_passed_falls [] = located operand (Needs x []) c _ (omega (arith, needs x _ o []))
    place_passed_falls (v ∷ vs) = given v c _ (omega (arith, some_left (e.Unary op operand at) (suc (length vs))))

    pointed_falls : (inner_op : UnaryOperator) (pointer : Expression) → of pointer ≤ of operand → (found : List (List Scalar)) → Falls (address_pointed inner_op pointer x found c) (node (e.Unary op operand at) (length found) + left p cs c.control)
    pointed_falls un.Indirection pointer h found = passed_falls pointer h found
    pointed_falls _ pointer h found = given _ c _ (omega (arith, some_left (e.Unary op operand at) (length found)))

    element_falls : (token : ℕ) (array index : Expression) → 6 + (of array + of index) ≤ of operand → (found : List (List Scalar)) → Falls (address_element p token array index x found c) (node (e.Unary op operand at) (length found) + left p cs c.control)
    element_falls token array index h [] = asked array (Needs x []) c _ (omega (arith, h, needs x _ o []))
    element_falls token array index h (v ∷ []) = asked index (Needs x (v ∷ [])) c _ (omega (arith, h, needs x _ o (v ∷ [])))
    element_falls token array index h (v ∷ w ∷ vs) = settled token _ _ _ (λ s. given _ c _ (omega arith))

    address_falls : (l : ExpressionNode) → out-Expression operand ≡ l → (found : List (List Scalar)) → Falls (address_node p operand l x found c) (node (e.Unary op operand at) (length found) + left p cs c.control)
    address_falls (e.Unary inner_op pointer token) q found = pointed_falls inner_op pointer (omega (arith, is_node operand, ap (λ z. node z 0) q)) found
    address_falls (e.Subscript array index token) q found = element_falls token array index (omega (arith, is_node operand, ap (λ z. node z 0) q)) found
    address_falls _ q found = place_passed_falls found

  settles_falls : (token : ℕ) (w : Outcome) (c : State) → Falls (settles token w (λ s. giving (s ∷ []) c)) (1 + left p cs c.control)
  settles_falls token w c = settled token w _ _ (λ s. given (s ∷ []) c _ (omega arith))

  unary_falls : (x operand : Expression) (at : ℕ) (op : UnaryOperator) → out-Expression x ≡ e.Unary op operand at → (found : List (List Scalar)) (c : State)
      → Falls (unary_value p at op operand x found c) (node (e.Unary op operand at) (length found) + left p cs c.control)
  unary_falls x operand at un.Address o found c = address_falls x operand at un.Address o c (out-Expression operand) refl found
  unary_falls x operand at un.Indirection o found c = read_falls x (e.Unary un.Indirection operand at) o (omega arith) (type_at p at) found c
  unary_falls x operand at un.Not o [] c = asked operand (Needs x []) c _ (omega (arith, needs x _ o []))
  unary_falls x operand at un.Not o (v ∷ vs) c = given _ c _ (omega (arith, some_left (e.Unary un.Not operand at) (suc (length vs))))
  unary_falls x operand at un.Plus o [] c = asked operand (Needs x []) c _ (omega (arith, needs x _ o []))
  unary_falls x operand at un.Plus o (v ∷ vs) c = given _ c _ (omega (arith, some_left (e.Unary un.Plus operand at) (suc (length vs))))
  unary_falls x operand at un.Minus o [] c = asked operand (Needs x []) c _ (omega (arith, needs x _ o []))
  unary_falls x operand at un.Minus o (v ∷ vs) c = settled at _ _ _ (λ s. given _ c _ (omega (arith, some_left (e.Unary un.Minus operand at) (suc (length vs)))))
  unary_falls x operand at un.Complement o [] c = asked operand (Needs x []) c _ (omega (arith, needs x _ o []))
  unary_falls x operand at un.Complement o (v ∷ vs) c = given _ c _ (omega (arith, some_left (e.Unary un.Complement operand at) (suc (length vs))))

  -- ---- two operands, and choices

  second_falls : (x right : Expression) (l : ExpressionNode) → out-Expression x ≡ l → node l 1 ≡ 3 + of right → node l 2 ≡ 1 → (op : BinaryOperator) (v : List Scalar) (c : State)
      → Falls (second op right x v c) (node l 1 + left p cs c.control)
  second_falls x right l o h h2 bin.LogicalAnd v c = (given _ c _ (omega (arith, h)), asked right Truth c _ (omega (arith, h)))
  second_falls x right l o h h2 bin.LogicalOr v c = (asked right Truth c _ (omega (arith, h)), given _ c _ (omega (arith, h)))
  second_falls x right l o h h2 _ v c = asked right (Needs x (v ∷ [])) c _ (omega (arith, h, h2, needs x l o (v ∷ [])))

  binary_falls : (x first right : Expression) (at : ℕ) (op : BinaryOperator) → out-Expression x ≡ e.Binary op first right at → (found : List (List Scalar)) (c : State)
      → Falls (binary_value p at op first right x found c) (node (e.Binary op first right at) (length found) + left p cs c.control)
  binary_falls x first right at op o [] c = asked first (Needs x []) c _ (omega (arith, needs x _ o []))
  binary_falls x first right at op o (v ∷ []) c = second_falls x right _ o refl refl op v c
  binary_falls x first right at op o (v ∷ w ∷ vs) c = settles_falls at _ c

  conditional_falls : (x test first otherwise : Expression) (at : ℕ) (t : CType) → out-Expression x ≡ e.Conditional test first otherwise at → (found : List (List Scalar)) (c : State)
      → Falls (conditional_value t test first otherwise x found c) (node (e.Conditional test first otherwise at) (length found) + left p cs c.control)
  conditional_falls x test first otherwise at t o [] c = asked test (Needs x []) c _ (omega (arith, needs x _ o []))
  conditional_falls x test first otherwise at t o (v ∷ vs) c = (asked otherwise (Converts t) c _ (omega arith), asked first (Converts t) c _ (omega arith))

  assigns_falls : (at : ℕ) (op : Option BinaryOperator) (target other : CType) (s : Scalar) (v : List Scalar) (c : State) → Falls (assigns p at op target other s v c) (1 + left p cs c.control)
  assigns_falls at None target other s v c = given _ (keeping _ s c) _ (omega arith)
  assigns_falls at (Some op) target other s v c = settled at _ _ _ (λ r. given _ (keeping _ s c) _ (omega arith))

  assign_falls : (x target value : Expression) (at : ℕ) (op : AssignOperator) → out-Expression x ≡ e.Assign op target value at → (found : List (List Scalar)) (c : State)
      → Falls (assign_value p at op target value x found c) (node (e.Assign op target value at) (length found) + left p cs c.control)
  assign_falls x target value at op o [] c = located target (Needs x []) c _ (omega (arith, needs x _ o []))
  assign_falls x target value at op o (v ∷ []) c = asked value (Needs x (v ∷ [])) c _ (omega (arith, needs x _ o (v ∷ [])))
  assign_falls x target value at op o (v ∷ w ∷ vs) c = assigns_falls at (operator_of op) (type_of p target) (type_of p value) (scalar_in v) w c

  pub comma_falls : (parts : List Expression) (c : State) → Falls (comma_parts parts c) (total cs (all_costs (expression_cost p) parts) + left p cs c.control)
  comma_falls [] c = given [] c _ (omega arith)
  comma_falls (part ∷ []) c = onward (put (Value part []) c) _ (omega (arith, is_node part))
  comma_falls (part ∷ (next ∷ parts)) c = asked part Drops (put (CommaParts (next ∷ parts)) c) _ (omega arith)

  -- ---- calls

  next_argument : (arguments : List Expression) (k : ℕ) (a : Expression) → slice_get arguments k ≡ Some a
      → total cs (all_costs (expression_cost p) (drop k arguments)) ≡ 2 + (of a + total cs (all_costs (expression_cost p) (drop (suc k) arguments)))
  next_argument xs k a q =
      let same = get_or_from_slice_get xs k a a q in
      ap (λ ys. total cs (all_costs (expression_cost p) ys)) (drop-cons xs k a (slice_get_within xs k a q)) ∙ ap (λ z. 2 + (of z + total cs (all_costs (expression_cost p) (drop (suc k) xs)))) same

  -- an `if` of a check or an assumption
  asserts_falls : (b : Bool) (at : ℕ) (kind : CheckKind) (d : State) (c : State) → Falls (cond b (Unmet kind at d) (gives [] c)) (1 + left p cs c.control)
  asserts_falls true at kind d c = tt
  asserts_falls false at kind d c = given [] c _ (omega arith)

  assumes_falls : (b : Bool) (d : State) (c : State) → Falls (cond b (Unassumed d) (gives [] c)) (1 + left p cs c.control)
  assumes_falls true d c = tt
  assumes_falls false d c = given [] c _ (omega arith)

  first_falls : (x : Expression) (arguments : List Expression) (c : State) → waiting (Needs x []) ≡ 1 + total cs (all_costs (expression_cost p) (drop 1 arguments))
      → Falls (asks_first arguments x c) (1 + total cs (all_costs (expression_cost p) arguments) + left p cs c.control)
  first_falls x [] c h = given [] c _ (omega arith)
  first_falls x (a ∷ rest) c h = asked a (Needs x []) c _ (omega (arith, h))

  -- a call of a known function, with k of its arguments found
  known_falls : (f : KnownFunction) (at : ℕ) (x : Expression) (arguments : List Expression) (found : List (List Scalar)) (c : State)
      → waiting (Needs x found) ≡ 1 + total cs (all_costs (expression_cost p) (drop (suc (length found)) arguments))
      → Falls (known_call f at arguments x found c) (1 + total cs (all_costs (expression_cost p) (drop (length found) arguments)) + left p cs c.control)
  known_falls known.Assert at x arguments [] c h = first_falls x arguments c h
  known_falls known.Assert at x arguments (v ∷ vs) c h = weaken _ _ _ (omega arith) (asserts_falls (is_no v) at Assertion (giving [] c) c)
  known_falls known.Assume at x arguments [] c h = first_falls x arguments c h
  known_falls known.Assume at x arguments (v ∷ vs) c h = weaken _ _ _ (omega arith) (assumes_falls (is_no v) (giving [] c) c)
  known_falls known.Abort at x arguments found c h = tt
  known_falls known.Exit at x arguments [] c h = first_falls x arguments c h
  known_falls known.Exit at x arguments (v ∷ vs) c h = tt
  known_falls known.Error at x arguments found c h = tt
  known_falls known.AssertFail at x arguments found c h = tt
  known_falls (known.Nondet kind) at x arguments found c h = λ n. given _ c _ (omega arith)

  module _ (enough : (f : ℕ) → total cs (function_cost p f) ≤ cs f) where
    argument_falls : (f : ℕ) (x : Expression) (arguments : List Expression) (found : List (List Scalar)) (a : Option Expression) → slice_get arguments (length found) ≡ a → (c : State)
        → waiting (Needs x found) ≡ 1 + (cs f + total cs (all_costs (expression_cost p) (drop (suc (length found)) arguments)))
        → Falls (call_by p f a x found c) (1 + (cs f + total cs (all_costs (expression_cost p) (drop (length found) arguments))) + left p cs c.control)
    argument_falls f x arguments found None q c h = onward (entering p f found c) _ (omega (arith, enough f))
    argument_falls f x arguments found (Some a) q c h = asked a (Needs x found) c _ (omega (arith, h, next_argument arguments (length found) a q))

    called_falls : (what : Called) (at : ℕ) (x : Expression) (arguments : List Expression) (found : List (List Scalar)) (c : State)
        → waiting (Needs x found) ≡ 1 + (total cs (call_cost what) + total cs (all_costs (expression_cost p) (drop (suc (length found)) arguments)))
        → Falls (call_move p what at arguments x found c) (1 + (total cs (call_cost what) + total cs (all_costs (expression_cost p) (drop (length found) arguments))) + left p cs c.control)
    called_falls (Defined f) at x arguments found c h = argument_falls f x arguments found (slice_get arguments (length found)) refl c h
    called_falls (Known f) at x arguments found c h = weaken (known_call f at arguments x found c) _ _ (omega arith) (known_falls f at x arguments found c (omega (arith, h)))
    called_falls Neither at x arguments found c h = given [] c _ (omega arith)

    -- ---- every expression, and every place

    pub value_falls : (x : Expression) (l : ExpressionNode) → out-Expression x ≡ l → (found : List (List Scalar)) (c : State) → Falls (value_node p x l found c) (node l (length found) + left p cs c.control)
    value_falls x (e.«Expression::Name» name at) o found c = name_falls (meaning_at p at) (type_at p at) c
    value_falls x (e.Constant kind value at) o found c = given _ c _ (omega arith)
    value_falls x (e.Text at) o found c = given _ c _ (omega arith)
    value_falls x (e.Subscript array index at) o found c = read_falls x _ o (omega arith) (type_at p at) found c
    value_falls x (e.Call function arguments at) o found c =
        called_falls (called p (meaning_at p (token_of function))) (token_of function) x arguments found c (needs x _ o found)
    value_falls x (e.Member object name at) o found c = read_falls x _ o (omega arith) (type_at p at) found c
    value_falls x (e.PointedMember pointer name at) o found c = read_falls x _ o (omega arith) (type_at p at) found c
    value_falls x (e.Postfix step operand at) o [] c = located operand (Needs x []) c _ (omega (arith, needs x _ o []))
    value_falls x (e.Postfix step operand at) o (v ∷ vs) c = settled at _ _ _ (λ s. given _ (keeping _ (scalar_in v) c) _ (omega arith))
    value_falls x (e.Prefix step operand at) o [] c = located operand (Needs x []) c _ (omega (arith, needs x _ o []))
    value_falls x (e.Prefix step operand at) o (v ∷ vs) c = settled at _ _ _ (λ s. given _ (keeping _ (scalar_in v) c) _ (omega arith))
    value_falls x (e.Unary operator operand at) o found c = unary_falls x operand at operator o found c
    value_falls x (e.SizeofExpression operand at) o found c = given _ c _ (omega arith)
    value_falls x (e.SizeofType type_name at) o found c = given _ c _ (omega arith)
    value_falls x (e.Cast type_name operand at) o [] c = asked operand (Needs x []) c _ (omega (arith, needs x _ o []))
    value_falls x (e.Cast type_name operand at) o (v ∷ vs) c = given _ c _ (omega arith)
    value_falls x (e.Binary operator first right at) o found c = binary_falls x first right at operator o found c
    value_falls x (e.Conditional test first otherwise at) o found c = conditional_falls x test first otherwise at (type_at p at) o found c
    value_falls x (e.Assign operator target value at) o found c = assign_falls x target value at operator o found c
    value_falls x (e.Comma parts at) o found c = weaken (comma_parts parts c) _ _ (omega arith) (comma_falls parts c)

  named_falls : (m : Option Meaning) (c : State) → Falls (named_place m c) (1 + left p cs c.control)
  named_falls None c = given _ c _ (omega arith)
  named_falls (Some (meaning.Object number)) c = given _ c _ (omega arith)
  named_falls (Some (meaning.Constant value)) c = given _ c _ (omega arith)
  named_falls (Some (meaning.Function number)) c = given _ c _ (omega arith)
  named_falls (Some (meaning.Known function)) c = given _ c _ (omega arith)
  named_falls (Some (meaning.Type named star)) c = given _ c _ (omega arith)

  pointed_place_falls : (x pointer : Expression) (at : ℕ) (op : UnaryOperator) → out-Expression x ≡ e.Unary op pointer at → (found : List (List Scalar)) (c : State)
      → Falls (pointed_place p at op pointer x found c) (place (e.Unary op pointer at) (length found) + left p cs c.control)
  pointed_place_falls x pointer at un.Indirection o [] c = asked pointer (Locates x []) c _ (omega (arith, waits x _ o []))
  pointed_place_falls x pointer at un.Indirection o (v ∷ vs) c = settled at _ _ _ (λ s. given _ c _ (omega arith))
  pointed_place_falls x pointer at op o found c = given _ c _ (omega (arith, some_place (e.Unary op pointer at) (length found)))

  pub place_falls : (x : Expression) (l : ExpressionNode) → out-Expression x ≡ l → (found : List (List Scalar)) (c : State) → Falls (place_node p x l found c) (place l (length found) + left p cs c.control)
  place_falls x (e.«Expression::Name» name at) o found c = named_falls (meaning_at p at) c
  place_falls x (e.Subscript array index at) o [] c = asked array (Locates x []) c _ (omega (arith, waits x _ o []))
  place_falls x (e.Subscript array index at) o (v ∷ []) c = asked index (Locates x (v ∷ [])) c _ (omega (arith, waits x _ o (v ∷ [])))
  place_falls x (e.Subscript array index at) o (v ∷ w ∷ vs) c = settled at _ _ _ (λ s. given _ c _ (omega arith))
  place_falls x (e.Member object name at) o [] c = located object (Locates x []) c _ (omega (arith, waits x _ o []))
  place_falls x (e.Member object name at) o (v ∷ vs) c = given _ c _ (omega arith)
  place_falls x (e.PointedMember pointer name at) o [] c = asked pointer (Locates x []) c _ (omega (arith, waits x _ o []))
  place_falls x (e.PointedMember pointer name at) o (v ∷ vs) c = settled at _ _ _ (λ s. given _ c _ (omega arith))
  place_falls x (e.Unary operator operand at) o found c = pointed_place_falls x operand at operator o found c
  place_falls x _ o found c = given [] c _ (omega arith)
