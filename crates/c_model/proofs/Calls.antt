-- The calls that the cost of an expression counts stand among those that the rule of recursion sees, where each expression has
-- a type.
use Rattle.std.specs.Prelude.{⊤}
use Rattle.std.proofs.Common.{◌≡◌, ℕ, Bool, true, false, ◌&&◌, cond, List, [], ◌∷◌, ◌++◌, map, Option, Some, None, refl, ap, sym, subst, ◌∙◌, ◌⊎◌, inl, inr, ⊎_elim, slice_get}
use Rattle.c_tree.specs.declared.expression.Declarator.{Declarator}
use Rattle.c_tree.specs.declared.expression.EnumConstant.{EnumConstant}
use Rattle.c_tree.specs.declared.expression.Expression.{Expression, out-Expression}
use Rattle.c_tree.specs.declared.expression.Member.{Member}
use Rattle.c_tree.specs.declared.expression.MemberLine.{MemberLine}
use Rattle.c_tree.specs.declared.expression.Parameter.{Parameter}
use Rattle.c_tree.specs.declared.expression.Specifier.{Specifier}
use Rattle.c_tree.specs.declared.expression.TypeName.{TypeName}
use Rattle.c_tree.specs.declared.expression.UnaryOperator.{UnaryOperator}
use Rattle.c_tree.specs.declared.expression.UnaryOperator.TheVariants as unary
use Rattle.c_tree.specs.declared.expression.Declarator.TheFolds.{map-Expression, ind-Expression}
use Rattle.c_tree.specs.declared.expression.Declarator.TheOpen.{Expression-F}
use Rattle.c_tree.specs.declared.expression.Declarator.TheOpen.{Expression-F as e}
use Rattle.c_tree.specs.declared.expression.Declarator.TheViews.{roll-Expression}
use Rattle.c_kinds.specs.declared.answer.Answer.{Answer}
use Rattle.c_kinds.specs.declared.answer.Answer.TheVariants.{Gives, Breaks, Nothing}
use Rattle.c_kinds.specs.Values.{part}
use Rattle.c_rules.specs.declared.names.Function.{Function}
use Rattle.c_rules.specs.declared.names.KnownFunction.{KnownFunction}
use Rattle.c_rules.specs.declared.names.Meaning.{Meaning}
use Rattle.c_rules.specs.declared.names.Meaning.TheVariants as meaning
use Rattle.c_rules.specs.declared.program.Program.{Program}
use Rattle.c_rules.specs.Accepted.{given_in}
use Rattle.c_rules.specs.Broken.{of_each}
use Rattle.c_rules.specs.Effects.{Target, Access, Question, Asked, Effect, Called as Call, also, asking, asking_if, among_if, taking, without_evaluation, asked_all, asked_of_value, doing, called_at, unary_effect, sequence_effect, arguments_asked, all_accesses, joined, named_call_effect, tracing, effect_of}
use Rattle.c_rules.specs.Expressions.{in_arguments}
use Rattle.c_rules.specs.Found.{AnswerAt, token_of as token_in, answering}
use Rattle.c_rules.specs.Recursion.{of_expression, of_type_name}
use Rattle.c_rules.specs.Typing.{meaning_at as meaning_in, is_assert_fail, is_text, named_call, with_arguments, layout_of, answer_of}
use Rattle.c_rules.proofs.Recursion.{expression_beside, expression_rolls}
use Rattle.c_rules.proofs.Typed.{IsTyped, AllTyped, first_typed, second_typed, typed_alone}
use Rattle.c_model.specs.Functions.{Called, Defined, known_or_neither, called_by, called}
use Rattle.c_model.specs.Programs.{ExpressionNode, meaning_at, token_of}
use Rattle.c_model.specs.Costs.{Cost, Steps, Both, Calls, Contains, here, in_first, in_second, all_costs, call_cost, value_cost, costing, expression_cost}
use Rattle.c_model.proofs.Costs.{of_expression_is}

-- ---- a call among costs, and among calls

-- a call of this function is among them
abbrev pub Among : ℕ → Cost → Type 0
Among h (Steps n) = ⊥
Among h (Both first second) = Among h first ⊎ Among h second
Among h (Calls f) = f ≡ h

pub among : (h : ℕ) (c : Cost) → Contains h c → Among h c
among h (Steps n) i = elim i [ ]
among h (Both a b) (in_first _ _ i) = inl (among h a i)
among h (Both a b) (in_second _ _ i) = inr (among h b i)
among h (Calls f) here = refl

-- the same of the calls that stand in a text
abbrev pub CalledIn : ℕ → List Call → Type 0
CalledIn h [] = ⊥
CalledIn h (c ∷ cs) = (c.callee ≡ h) ⊎ CalledIn h cs

pub called_first : (h : ℕ) (xs ys : List Call) → CalledIn h xs → CalledIn h (xs ++ ys)
called_first h [] ys i = absurd i
called_first h (x ∷ xs) ys (inl e) = inl e
called_first h (x ∷ xs) ys (inr i) = inr (called_first h xs ys i)

pub called_second : (h : ℕ) (xs ys : List Call) → CalledIn h ys → CalledIn h (xs ++ ys)
called_second h [] ys i = i
called_second h (x ∷ xs) ys i = inr (called_second h xs ys i)

pub past : {A : Type 0} → ⊥ ⊎ A → A
past (inl i) = absurd i
past (inr i) = i

pub in_both : {A B : Type 0} (h : ℕ) (xs ys : List Call) → (A → CalledIn h xs) → (B → CalledIn h ys) → A ⊎ B → CalledIn h (xs ++ ys)
in_both h xs ys f k (inl i) = called_first h xs ys (f i)
in_both h xs ys f k (inr i) = called_second h xs ys (k i)

-- ---- what is asked besides takes no call away

module _ (h : ℕ) where
  used_by : (b : Bool) (objects : List ℕ) (x : Asked) → CalledIn h x.calls → CalledIn h (cond b (taking objects x) x).calls
  used_by true objects x i = i
  used_by false objects x i = i

  pub of_value : (x : Effect) → CalledIn h x.asked.calls → CalledIn h (asked_of_value x).calls
  of_value x i = used_by x.is_array _ x.asked i

  of_operands : (b : Bool) (q : Question) (x : Asked) → CalledIn h x.calls → CalledIn h (asking_if b q x).calls
  of_operands true q x i = i
  of_operands false q x i = i

  of_target : (at : ℕ) (place : Option Target) (direct : List Target) (x : Asked) → CalledIn h x.calls → CalledIn h (among_if at place direct x).calls
  of_target at None direct x i = i
  of_target at (Some t) direct x i = i

  of_unary : (operator : UnaryOperator) (array : Bool) (x : Effect) → CalledIn h x.asked.calls → CalledIn h (unary_effect operator array x).asked.calls
  of_unary unary.Address array x i = i
  of_unary unary.Indirection array x i = of_value x i
  of_unary unary.Plus array x i = of_value x i
  of_unary unary.Minus array x i = of_value x i
  of_unary unary.Complement array x i = of_value x i
  of_unary unary.Not array x i = of_value x i

  evaluated_or_not : (b : Bool) (accesses : List Access) (x : Asked) → CalledIn h x.calls → CalledIn h (cond b (doing [] [] (without_evaluation x)) (doing accesses [] x)).asked.calls
  evaluated_or_not true accesses x i = i
  evaluated_or_not false accesses x i = i

  -- ---- what a call calls

  with_body : (f : ℕ) (b : Bool) (k : Option KnownFunction) → Among h (call_cost (cond b (Defined f) (known_or_neither k))) → f ≡ h
  with_body f true k i = i
  with_body f false None i = absurd i
  with_body f false (Some k) i = absurd i

  numbered : (f : ℕ) (o : Option Function) → Among h (call_cost (called_by f o)) → f ≡ h
  numbered f None i = absurd i
  numbered f (Some function) i = with_body f function.is_defined function.known i

  of_called : (p : Program) (at : ℕ) (m : Option Meaning) → Among h (call_cost (called p m)) → CalledIn h (called_at at m)
  of_called p at None i = absurd i
  of_called p at (Some (meaning.Object n)) i = absurd i
  of_called p at (Some (meaning.Constant n)) i = absurd i
  of_called p at (Some (meaning.Function f)) i = inl (numbered f (slice_get p.names.functions f) i)
  of_called p at (Some (meaning.Known function)) i = absurd i
  of_called p at (Some (meaning.Type t star)) i = absurd i

-- a call of what is no name has no type
no_call : (found : Answer) (at : ℕ) → IsTyped (part found (λ _. Breaks 12 at)) → ⊥
no_call (Gives v) at t = cc
no_call (Breaks rule place) at t = cc
no_call Nothing at t = cc

module _ (p : Program) (h : ℕ) where
  text_free : (x : Expression) → is_text x ≡ true → Among h (expression_cost p x) → ⊥
  text_free x t i = by_node (out-Expression x) t (subst (Among h) (of_expression_is p x) i)
    where
      by_node : (o : ExpressionNode) → elim o as (λ _. Bool) [ e.Text at ↦ true | _ ↦ false ] ≡ true → Among h (value_cost p (expression_cost p) (λ y. y) o 0) → ⊥
      by_node (e.Text at) t i = i
      by_node _ t i = cc

  -- ---- an expression each of whose calls is among those that are asked

  abbrev sought : Expression → Expression × (Bool → List AnswerAt)
  sought x = (x, of_expression (answering (given_in p)) x)

  abbrev costed : Expression → Expression × Cost
  costed x = (x, of_expression (costing p) x)

  abbrev traced : Expression → Expression × (Bool → Effect)
  traced x = (x, of_expression (tracing (given_in p)) x)

  abbrev found : Expression → List AnswerAt
  found x = (sought x).1 false

  abbrev does : Expression → Effect
  does x = (traced x).1 false

  abbrev Counted : Expression → Type 0
  Counted x = AllTyped ((sought x).1 false) → Among h (costed x).1 → CalledIn h ((traced x).1 false).asked.calls

  abbrev Other : {A : Type 0} → A → Type 0
  Other x = ⊤

  abbrev trees : List ((x : Expression) × Counted x) → List Expression
  trees ps = map (λ q. q.0) ps

  arguments_counted : (texts : Bool) (ps : List ((x : Expression) × Counted x))
      → AllTyped (in_arguments {E = Expression × (Bool → List AnswerAt)} (λ x. x.0) (λ x. x.1) texts false (map sought (trees ps)))
      → Among h (all_costs (λ (x : Expression × Cost). x.1) (map costed (trees ps)))
      → CalledIn h (asked_all (λ (x : Expression × (Bool → Effect)). asked_of_value (x.1 false)) (map traced (trees ps))).calls
  unfolding expression_cost
  arguments_counted texts [] t i = absurd i
  arguments_counted texts (q ∷ ps) t i =
      in_both h _ _ (λ j. of_value h ((traced q.0).1 false) (one (texts && is_text q.0) refl (first_typed _ _ t) j)) (arguments_counted texts ps (second_typed _ _ t)) (past i)
    where
      is_both : (a b : Bool) → (a && b) ≡ true → b ≡ true
      is_both true b e = e
      is_both false b e = cc

      one : (b : Bool) → (texts && is_text q.0) ≡ b → AllTyped (cond b [] ((sought q.0).1 false)) → Among h (costed q.0).1 → CalledIn h ((traced q.0).1 false).asked.calls
      one true e t j = absurd (text_free q.0 (is_both texts (is_text q.0) e) j)
      one false e t j = q.1 t j

  parts_counted : (ps : List ((x : Expression) × Counted x))
      → AllTyped (of_each (λ (x : Expression × (Bool → List AnswerAt)). x.1 false) (map sought (trees ps)))
      → Among h (all_costs (λ (x : Expression × Cost). x.1) (map costed (trees ps)))
      → CalledIn h (sequence_effect (λ (x : Expression × (Bool → Effect)). x.1 false) (map traced (trees ps))).asked.calls
  parts_counted [] t i = absurd i
  parts_counted (q ∷ ps) t i =
      in_both h _ _ (λ j. of_value h ((traced q.0).1 false) (q.1 (first_typed _ _ t) j)) (parts_counted ps (second_typed _ _ t)) (past i)

  -- the name of what is called, in this layer
  call_counted : (function : Expression) (answer : Answer) (arguments : Bool → Answer → Answer) (ps : List ((x : Expression) × Counted x)) (at : ℕ) (o : ExpressionNode)
      → AllTyped (elim o as (λ _. List AnswerAt) [
        | e.«Expression::Name» text name ↦ in_arguments {E = Expression × (Bool → List AnswerAt)} (λ x. x.0) (λ x. x.1) (is_assert_fail p.names (meaning_in p.names name)) false (map sought (trees ps))
        | _ ↦ (sought function).1 false ++ in_arguments {E = Expression × (Bool → List AnswerAt)} (λ x. x.0) (λ x. x.1) false false (map sought (trees ps))
      ])
      → IsTyped (elim o as (λ _. Answer) [
        | e.«Expression::Name» text name ↦ named_call (given_in p) false arguments name at (meaning_in p.names name)
        | _ ↦ part answer (λ _. Breaks 12 at)
      ])
      → Among h (call_cost (called p (meaning_at p (token_in o)))) ⊎ Among h (all_costs (λ (x : Expression × Cost). x.1) (map costed (trees ps)))
      → CalledIn h (elim o as (λ _. Effect) [
        | e.«Expression::Name» text name ↦ named_call_effect (given_in p) (λ (x : Expression × (Bool → Effect)). x.1 false) name (map traced (trees ps)) (meaning_in p.names name)
        | _ ↦ doing (joined (all_accesses (λ (x : Expression × (Bool → Effect)). x.1 false) (map traced (trees ps)))) [] (also ((traced function).1 false).asked (arguments_asked (λ (x : Expression × (Bool → Effect)). x.1 false) (map traced (trees ps))))
      ]).asked.calls
  call_counted function answer arguments ps at (e.«Expression::Name» text name) t u i =
      evaluated_or_not h (is_assert_fail p.names (meaning_in p.names name)) _ _
      (in_both h _ _ (of_called h p name (meaning_in p.names name)) (arguments_counted (is_assert_fail p.names (meaning_in p.names name)) ps t) i)
  call_counted function answer arguments ps at _ t u i = absurd (no_call answer at u)

  abbrev layer_of : Expression-F ((x : Declarator) × Other x) ((x : EnumConstant) × Other x) ((x : Expression) × Counted x) ((x : Member) × Other x) ((x : Specifier) × Other x) ((x : MemberLine) × Other x) ((x : Parameter) × Other x) ((x : TypeName) × Other x) → ExpressionNode
  layer_of = map-Expression ((x : Declarator) × Other x) ((x : EnumConstant) × Other x) ((x : Expression) × Counted x) ((x : Member) × Other x) ((x : Specifier) × Other x) ((x : MemberLine) × Other x) ((x : Parameter) × Other x) ((x : TypeName) × Other x) Declarator EnumConstant Expression Member Specifier MemberLine Parameter TypeName (λ q. q.0) (λ q. q.0) (λ q. q.0) (λ q. q.0) (λ q. q.0) (λ q. q.0) (λ q. q.0) (λ q. q.0)

  node_counted : (y : Expression-F ((x : Declarator) × Other x) ((x : EnumConstant) × Other x) ((x : Expression) × Counted x) ((x : Member) × Other x) ((x : Specifier) × Other x) ((x : MemberLine) × Other x) ((x : Parameter) × Other x) ((x : TypeName) × Other x))
      → AllTyped ((answering (given_in p)).expression (expression_beside (answering (given_in p)) (layer_of y)) false)
      → Among h ((costing p).expression (expression_beside (costing p) (layer_of y)))
      → CalledIn h ((tracing (given_in p)).expression (expression_beside (tracing (given_in p)) (layer_of y)) false).asked.calls
  node_counted (e.«Expression::Name» name at) t i = absurd i
  node_counted (e.Constant kind n at) t i = absurd i
  node_counted (e.Text at) t i = absurd i
  node_counted (e.Subscript array index at) t i =
      let s = first_typed (found array.0 ++ found index.0) _ t in
      in_both h (does array.0).asked.calls (asked_of_value (does index.0)).calls (array.1 (first_typed (found array.0) (found index.0) s))
      (λ j. of_value h (does index.0) (index.1 (second_typed (found array.0) (found index.0) s) j)) (past (past i))
  node_counted (e.Call function arguments at) t i =
      call_counted function.0 (answer_of (given_in p) function.0 false)
      (λ texts answer. with_arguments (layout_of (given_in p)) (λ (x : Expression × (Bool → List AnswerAt)). answer_of (given_in p) x.0 false) (λ x. x.0) texts (map sought (trees arguments)) answer)
      arguments at (out-Expression function.0) (first_typed _ _ t) (typed_alone at _ (second_typed _ _ t)) (past i)
  node_counted (e.Member object name at) t i = object.1 (first_typed _ _ t) (past (past i))
  node_counted (e.PointedMember pointer name at) t i = of_value h (does pointer.0) (pointer.1 (first_typed _ _ t) (past (past i)))
  node_counted (e.Postfix step operand at) t i = operand.1 (first_typed _ _ t) (past i)
  node_counted (e.Prefix step operand at) t i = operand.1 (first_typed _ _ t) (past i)
  node_counted (e.Unary operator operand at) t i = of_unary h operator _ _ (operand.1 (first_typed _ _ t) (⊎_elim (λ j. j) (λ j. j) (past i)))
  node_counted (e.SizeofExpression operand at) t i = absurd i
  node_counted (e.SizeofType type_name at) t i = absurd i
  node_counted (e.Cast named operand at) t i =
      called_second h (of_type_name (tracing (given_in p)) named.0).calls (asked_of_value (does operand.0)).calls
      (of_value h (does operand.0) (operand.1 (second_typed (of_type_name (answering (given_in p)) named.0 false) (found operand.0) (first_typed _ _ t)) (past i)))
  node_counted (e.Binary operator left right at) t i =
      let s = first_typed (found left.0 ++ found right.0) _ t in
      of_operands h _ _ (also (asked_of_value (does left.0)) (asked_of_value (does right.0)))
      (in_both h (asked_of_value (does left.0)).calls (asked_of_value (does right.0)).calls (λ j. of_value h (does left.0) (left.1 (first_typed (found left.0) (found right.0) s) j))
      (λ j. of_value h (does right.0) (right.1 (second_typed (found left.0) (found right.0) s) j)) (past i))
  node_counted (e.Conditional test first otherwise at) t i =
      let s = first_typed (found test.0 ++ found first.0 ++ found otherwise.0) _ t in
      let ts = first_typed (found test.0 ++ found first.0) (found otherwise.0) s in
      in_both h (asked_of_value (does test.0)).calls _ (λ j. of_value h (does test.0) (test.1 (first_typed (found test.0) (found first.0) ts) j))
      (in_both h (asked_of_value (does first.0)).calls (asked_of_value (does otherwise.0)).calls (λ j. of_value h (does first.0) (first.1 (second_typed (found test.0) (found first.0) ts) j))
      (λ j. of_value h (does otherwise.0) (otherwise.1 (second_typed (found test.0 ++ found first.0) (found otherwise.0) s) j)))
      (past i)
  node_counted (e.Assign operator target value at) t i =
      let s = first_typed (found target.0 ++ found value.0) _ t in
      of_target h at (does target.0).place (does value.0).direct _ (in_both h (does target.0).asked.calls (asked_of_value (does value.0)).calls (target.1 (first_typed (found target.0) (found value.0) s))
      (λ j. of_value h (does value.0) (value.1 (second_typed (found target.0) (found value.0) s) j)) (past i))
  node_counted (e.Comma parts at) t i = parts_counted parts (first_typed _ _ t) (past i)

  expression_step : (y : Expression-F ((x : Declarator) × Other x) ((x : EnumConstant) × Other x) ((x : Expression) × Counted x) ((x : Member) × Other x) ((x : Specifier) × Other x) ((x : MemberLine) × Other x) ((x : Parameter) × Other x) ((x : TypeName) × Other x)) → Counted (roll-Expression (layer_of y))
  expression_step y t i =
      subst (λ f. CalledIn h (f false).asked.calls) (sym (expression_rolls (tracing (given_in p)) (layer_of y)))
      (node_counted y (subst (λ f. AllTyped (f false)) (expression_rolls (answering (given_in p)) (layer_of y)) t) (subst (Among h) (expression_rolls (costing p) (layer_of y)) i))

  counted : (x : Expression) → Counted x
  counted = ind-Expression Other Other Counted Other Other Other Other Other (λ x y is. tt) (λ x y is. tt) (λ x y is. subst (λ l. Counted (roll-Expression l)) is (expression_step y)) (λ x y is. tt) (λ x y is. tt) (λ x y is. tt) (λ x y is. tt) (λ x y is. tt)

  -- the calls of a full expression
  pub expression_counted : (x : Expression) → AllTyped (of_expression (answering (given_in p)) x false) → Among h (expression_cost p x) → CalledIn h (asked_of_value (effect_of (given_in p) x)).calls
  unfolding expression_cost effect_of
  expression_counted x t i = of_value h (does x) (counted x t i)
