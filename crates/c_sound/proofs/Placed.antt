-- What expressions of an accepted program are made of, for their places.
use Rattle.std.specs.Prelude.{IsTrue}
use Rattle.std.proofs.Common.{◌≡◌, ℕ, Bool, true, false, not, ◌&&◌, ◌||◌, cond, List, [], ◌∷◌, Option, Some, None, refl, ap, sym, subst, ◌∙◌, slice_get}
use Rattle.c_tree.specs.declared.expression.UnaryOperator.{UnaryOperator}
use Rattle.c_tree.specs.declared.expression.UnaryOperator.TheVariants as u
use Rattle.c_tree.specs.declared.expression.Expression.{Expression, out-Expression}
use Rattle.c_tree.specs.declared.expression.Declarator.TheOpen.{Expression-F as e}
use Rattle.c_kinds.specs.declared.types.CType.{CType}
use Rattle.c_kinds.specs.declared.typed.Typed.{Typed}
use Rattle.c_kinds.specs.declared.answer.Answer.{Answer}
use Rattle.c_kinds.specs.declared.answer.Answer.TheVariants.{Gives, Breaks}
use Rattle.c_kinds.specs.Layouts.{begins_with, size_in_bytes}
use Rattle.c_kinds.specs.Casts.{conditional_answer, conditional_by, arms_type, comma_answer}
use Rattle.c_kinds.specs.Operands.{arithmetic, negation, binary_answer, sizeof_answer}
use Rattle.c_kinds.specs.Types.{inner, shape_of, is_scalar}
use Rattle.c_kinds.specs.Values.{and_then, part, used, converted_value}
use Rattle.c_rules.specs.declared.names.Meaning.{Meaning}
use Rattle.c_rules.specs.declared.names.Meaning.TheVariants as meaning
use Rattle.c_rules.specs.declared.names.Object.{Object}
use Rattle.c_rules.specs.declared.program.Program.{Program}
use Rattle.c_rules.specs.Accepted.{given_in, IsAcceptedProgram}
use Rattle.c_rules.specs.Typing.{layout_of, meaning_at, answer_of, is_text, is_assert_fail, is_function_meaning, called_result, known_result, call_by, named_call, with_arguments, sequence_answer, names_function, object_typed, object_answer, constant_answer, name_by}
use Rattle.c_rules.proofs.Empty.{first_empty}
use Rattle.c_rules.proofs.Told.{Tell}
use Rattle.c_model.specs.Configurations.{Item, Place, State}
use Rattle.c_model.specs.declared.values.Scalar.{Scalar}
use Rattle.c_model.specs.Programs.{ExpressionNode, object_type_by, object_type, type_of, types_of, types_in}
use Rattle.c_heads.proofs.Layouts.{begins_again}
use Rattle.c_heads.specs.Sound.{IsKnownCall, IsCall, IsResultType, IsNamed, IsObjectNamed, IsPointed, IsTypedPlace, IsNext}
use Rattle.c_kinds.specs.Types.{is_array}
use Rattle.c_rules.specs.declared.names.KnownFunction.{KnownFunction}
use Rattle.c_rules.specs.declared.names.KnownFunction.TheVariants as known
use Rattle.c_model.specs.Functions.{called}
use Rattle.c_sound.proofs.Shapes.{no_array_result}
use Rattle.c_sound.specs.Laws.{IsNoConstant, IsKnownMeaning, IsNoMember}
use Rattle.c_sound.proofs.Tables.{first_told}
use Rattle.c_sound.proofs.Shapes.{value_inner, value_no_place}
use Rattle.c_sound.proofs.Rights.{IsRight, NodeRight, node_right, type_is, part_gives, then_gives, unless_gives, used_gives}
use Rattle.c_sound.proofs.Inverse.{resulted, same_typed, subscript_gives, pointed_gives, address_gives, step_gives, assign_gives}
use Rattle.c_sound.proofs.Kept.{IsLvalue, rules_asked, answer_in, NodeGives, node_gives, rules_kept}
use Rattle.c_sound.proofs.Operators.{arithmetic_gives, negation_gives, binary_gives, size_gives, named_size_gives, cast_gives, choice_no_place}
use Rattle.c_sound.proofs.Starting.{accepted_tells, reached_code}

module _ (p : Program) (tells : Tell p.names) where
  -- ---- names

  begins : (n : ℕ) (o : Option Object) (t : CType) → slice_get p.names.objects n ≡ o → object_type_by o ≡ t → IsTrue (begins_with (types_in p n) (types_of p t))
  begins n o t q e =
      let same : object_type p n ≡ t = ap object_type_by q ∙ e in
      let P : CType → Type 0 = λ k. IsTrue (begins_with (types_of p k) (types_of p t)) in
      subst P (sym same) (begins_again (types_of p t))

  typed_is : (at n : ℕ) (o : Object) (t : Option CType) (w : Typed) → o.ctype ≡ t → object_typed at n o t ≡ Gives w → object_type_by (Some o) ≡ w.ctype
  typed_is at n o None w q h = absurd (cc)
  typed_is at n o (Some t) w q h = let same = same_typed _ w h in let own : t ≡ w.ctype = ap (λ z. z.ctype) same in rw q own

  chosen : (b : Bool) (x : Answer) (rule at : ℕ) (w : Typed) → cond b x (Breaks rule at) ≡ Gives w → x ≡ Gives w
  chosen true x rule at w h = h
  chosen false x rule at w h = absurd (cc)

  object_is : (at n : ℕ) (o : Option Object) (w : Typed) → object_answer false at n o ≡ Gives w → object_type_by o ≡ w.ctype
  object_is at n None w h = absurd (cc)
  object_is at n (Some o) w h = typed_is at n o o.ctype w refl (chosen (o.is_defined || false) _ 3 at w h)

  never : (b : Bool) → b ≡ false → b ≡ true → ⊥
  never true q h = cc
  never false q h = cc

  constant_place : (at : ℕ) (n : Option _) (w : Typed) → constant_answer at n ≡ Gives w → w.is_place ≡ true → ⊥
  constant_place at None w h place = cc
  constant_place at (Some n) w h place = never w.is_place (resulted _ w _ h refl refl).no_place place

  named : (at : ℕ) (m : Option Meaning) (w : Typed) → name_by p.names false at m ≡ Gives w → w.is_place ≡ true → IsObjectNamed p w.ctype m
  named at (Some (meaning.Object n)) w h place = begins n (slice_get p.names.objects n) w.ctype refl (object_is at n (slice_get p.names.objects n) w h)
  named at (Some (meaning.Constant n)) w h place = constant_place at n w h place
  named at (Some (meaning.Function n)) w h place = absurd (cc)
  named at (Some (meaning.Known function)) w h place = absurd (cc)
  named at (Some (meaning.Type t star)) w h place = absurd (cc)
  named at None w h place = absurd (cc)

  pub value_named : (at : ℕ) (m : Option Meaning) (w : Typed) → name_by p.names false at m ≡ Gives w → IsNoConstant m → IsNamed p w.ctype m
  value_named at (Some (meaning.Object n)) w h o = begins n (slice_get p.names.objects n) w.ctype refl (object_is at n (slice_get p.names.objects n) w h)
  value_named at (Some (meaning.Constant n)) w h o = absurd o
  value_named at (Some (meaning.Function n)) w h o = absurd (cc)
  value_named at (Some (meaning.Known function)) w h o = absurd (cc)
  value_named at (Some (meaning.Type t star)) w h o = absurd (cc)
  value_named at None w h o = absurd (cc)

  -- ---- pointers that are followed

  pointed : (operator : UnaryOperator) (at : ℕ) (pointer : Expression) (w : Typed) → IsRight p pointer → NodeGives p tells (e.Unary operator pointer at) w → w.is_place ≡ true → IsPointed p operator w.ctype (inner (type_of p pointer))
  pointed u.Indirection at pointer w h g place =
      let v = pointed_gives (layout_of (given_in p)) at (answer_in p tells pointer) w g in
      ap (λ k. types_of p (inner k)) (type_is p pointer h v.operand v.is) ∙ (ap (types_of p) (sym (value_inner p v.operand v.pointer_shape)) ∙ ap (types_of p) (sym v.placed.ctype))
  pointed u.Address at pointer w h g place = never w.is_place (address_gives at (answer_in p tells pointer) w g).result.no_place place
  pointed u.Not at pointer w h g place =
      let v = used_gives (layout_of (given_in p)) (answer_in p tells pointer) (λ x. negation at x) w g in
      never w.is_place (negation_gives at (converted_value v.operand) w v.gives).no_place place
  pointed u.Plus at pointer w h g place =
      let v = used_gives (layout_of (given_in p)) (answer_in p tells pointer) (λ x. arithmetic u.Plus at (shape_of x.ctype) x) w g in
      never w.is_place (arithmetic_gives u.Plus at (shape_of (converted_value v.operand).ctype) (converted_value v.operand) w v.gives).no_place place
  pointed u.Minus at pointer w h g place =
      let v = used_gives (layout_of (given_in p)) (answer_in p tells pointer) (λ x. arithmetic u.Minus at (shape_of x.ctype) x) w g in
      never w.is_place (arithmetic_gives u.Minus at (shape_of (converted_value v.operand).ctype) (converted_value v.operand) w v.gives).no_place place
  pointed u.Complement at pointer w h g place =
      let v = used_gives (layout_of (given_in p)) (answer_in p tells pointer) (λ x. arithmetic u.Complement at (shape_of x.ctype) x) w g in
      never w.is_place (arithmetic_gives u.Complement at (shape_of (converted_value v.operand).ctype) (converted_value v.operand) w v.gives).no_place place

  -- ---- what is no place

  passed : (b : Bool) (x rest : Answer) (w : Typed) → cond b rest (used (layout_of (given_in p)) x (λ _. rest)) ≡ Gives w → rest ≡ Gives w
  passed true x rest w h = h
  passed false x rest w h = (used_gives (layout_of (given_in p)) x (λ _. rest) w h).gives

  after_arguments : (texts : Bool) (xs : List Expression) (answer : Answer) (w : Typed) → with_arguments (layout_of (given_in p)) (answer_in p tells) (λ x. x) texts xs answer ≡ Gives w → answer ≡ Gives w
  after_arguments texts [] answer w h = h
  after_arguments texts (x ∷ xs) answer w h = after_arguments texts xs answer w (passed (texts && is_text x) (answer_in p tells x) _ w h)

  result_no_place : (name at : ℕ) (t : Option CType) (w : Typed) → called_result name at t ≡ Gives w → w.is_place ≡ false
  result_no_place name at None w h = absurd (cc)
  result_no_place name at (Some t) w h = (resulted _ w t h refl refl).no_place

  called_no_place : (name at : ℕ) (m : Option Meaning) (w : Typed) → call_by p.names false name at m ≡ Gives w → w.is_place ≡ false
  called_no_place name at (Some (meaning.Function n)) w h = result_no_place name at _ w h
  called_no_place name at (Some (meaning.Known function)) w h = result_no_place name at (Some (known_result function)) w h
  called_no_place name at (Some (meaning.Object n)) w h = let t = then_gives (name_by p.names false name (Some (meaning.Object n))) (λ _. Breaks 12 at) w h in let e = t.gives in absurd (cc)
  called_no_place name at (Some (meaning.Constant n)) w h = let t = then_gives (name_by p.names false name (Some (meaning.Constant n))) (λ _. Breaks 12 at) w h in let e = t.gives in absurd (cc)
  called_no_place name at (Some (meaning.Type k star)) w h = absurd (cc)
  called_no_place name at None w h = absurd (cc)

  either_call : (b : Bool) (x called : Answer) (w : Typed) → cond b called (and_then x (λ _. called)) ≡ Gives w → called ≡ Gives w
  either_call true x called w h = h
  either_call false x called w h = (then_gives x (λ _. called) w h).gives

  call_no_place : (function : Expression) (xs : List Expression) (at : ℕ) (o : ExpressionNode) (w : Typed)
      → elim o as (λ _. Answer) [
        | e.«Expression::Name» text name ↦ named_call (given_in p) false (λ texts answer. with_arguments (layout_of (given_in p)) (answer_in p tells) (λ x. x) texts xs answer) name at (meaning_at p.names name)
        | _ ↦ part (answer_in p tells function) (λ _. Breaks 12 at)
      ] ≡ Gives w → w.is_place ≡ false
  call_no_place function xs at (e.«Expression::Name» text name) w h =
      called_no_place name at (meaning_at p.names name) w (after_arguments (is_assert_fail p.names (meaning_at p.names name)) xs _ w (either_call (is_function_meaning (meaning_at p.names name)) _ _ w h))
  call_no_place function xs at _ w h = let t = part_gives (answer_in p tells function) (λ _. Breaks 12 at) w h in let e = t.gives in absurd (cc)

  -- ---- calls of known functions

  known_by : (function : KnownFunction) (w : Typed) → w.ctype ≡ known_result function → IsKnownCall p w.ctype function × IsResultType w.ctype
  known_by (known.Nondet kind) w q = (ap shape_of q, no_array_result w.ctype (ap is_array q))
  known_by function w q = (ap (types_of p) q, no_array_result w.ctype (ap is_array q))

  call_known : (name at : ℕ) (m : Option Meaning) (w : Typed) (xs : List Expression) → call_by p.names false name at m ≡ Gives w → IsKnownMeaning m → IsCall p w.ctype xs (called p m)
  call_known name at (Some (meaning.Known function)) w xs h o = known_by function w (resulted _ w (known_result function) h refl refl).ctype
  call_known name at _ w xs h o = absurd o

  pub call_typed : (function : Expression) (xs : List Expression) (at : ℕ) (o : ExpressionNode) (w : Typed)
      → elim o as (λ _. Answer) [
        | e.«Expression::Name» text name ↦ named_call (given_in p) false (λ texts answer. with_arguments (layout_of (given_in p)) (answer_in p tells) (λ x. x) texts xs answer) name at (meaning_at p.names name)
        | _ ↦ part (answer_in p tells function) (λ _. Breaks 12 at)
      ] ≡ Gives w
      → IsKnownMeaning (meaning_at p.names (elim o as (λ _. ℕ) [
        | e.«Expression::Name» name at ↦ at
        | e.Constant kind value at ↦ at
        | e.Text at ↦ at
        | e.Subscript array index at ↦ at
        | e.Call function arguments at ↦ at
        | e.Member object name at ↦ at
        | e.PointedMember pointer name at ↦ at
        | e.Postfix step operand at ↦ at
        | e.Prefix step operand at ↦ at
        | e.Unary operator operand at ↦ at
        | e.SizeofExpression operand at ↦ at
        | e.SizeofType type_name at ↦ at
        | e.Cast type_name operand at ↦ at
        | e.Binary operator left right at ↦ at
        | e.Conditional test first otherwise at ↦ at
        | e.Assign operator target value at ↦ at
        | e.Comma parts at ↦ at
      ]))
      → IsCall p w.ctype xs (called p (meaning_at p.names (elim o as (λ _. ℕ) [
        | e.«Expression::Name» name at ↦ at
        | e.Constant kind value at ↦ at
        | e.Text at ↦ at
        | e.Subscript array index at ↦ at
        | e.Call function arguments at ↦ at
        | e.Member object name at ↦ at
        | e.PointedMember pointer name at ↦ at
        | e.Postfix step operand at ↦ at
        | e.Prefix step operand at ↦ at
        | e.Unary operator operand at ↦ at
        | e.SizeofExpression operand at ↦ at
        | e.SizeofType type_name at ↦ at
        | e.Cast type_name operand at ↦ at
        | e.Binary operator left right at ↦ at
        | e.Conditional test first otherwise at ↦ at
        | e.Assign operator target value at ↦ at
        | e.Comma parts at ↦ at
      ])))
  call_typed function xs at (e.«Expression::Name» text name) w h o =
      call_known name at (meaning_at p.names name) w xs (after_arguments (is_assert_fail p.names (meaning_at p.names name)) xs _ w (either_call (is_function_meaning (meaning_at p.names name)) _ _ w h)) o
  call_typed function xs at _ w h o = let t = part_gives (answer_in p tells function) (λ _. Breaks 12 at) w h in let q = t.gives in absurd (cc)

  sized : (b : Bool) (at : ℕ) (y : Answer) (w : Typed) → cond b (Breaks 16 at) y ≡ Gives w → y ≡ Gives w
  sized true at y w h = absurd (cc)
  sized false at y w h = h

  sequence_no_place : (at : ℕ) (parts : List Expression) (w : Typed) → sequence_answer (layout_of (given_in p)) (answer_in p tells) at parts ≡ Gives w → w.is_place ≡ false
  sequence_no_place at [] w g = absurd (cc)
  sequence_no_place at (x ∷ []) w g =
      let v = used_gives (layout_of (given_in p)) (answer_in p tells x) (λ y. comma_answer at y) w g in
      let same = same_typed _ w v.gives in
      ap (λ y. y.is_place) (sym same) ∙ value_no_place v.operand
  sequence_no_place at (x ∷ (y ∷ rest)) w g =
      let v = used_gives (layout_of (given_in p)) (answer_in p tells x) (λ _. sequence_answer (layout_of (given_in p)) (answer_in p tells) at (y ∷ rest)) w g in
      sequence_no_place at (y ∷ rest) w v.gives

  -- ---- each kind of place

  typed_node : (l : ExpressionNode) (w : Typed) → NodeRight p l → NodeGives p tells l w → w.is_place ≡ true → IsNoMember l → IsTypedPlace p w.ctype l
  typed_node (e.«Expression::Name» name at) w is g place o = named at (meaning_at p.names at) w g place
  typed_node (e.Subscript array index at) w is g place o =
      let s = subscript_gives (layout_of (given_in p)) at (answer_in p tells array) (answer_in p tells index) w g in
      ap (λ k. types_of p (inner k)) (type_is p array (record { clear = first_empty _ _ is.clear; told = first_told p _ _ is.told }) s.operand s.is) ∙ ap (types_of p) (sym s.placed.ctype)
  typed_node (e.Unary operator pointer at) w is g place o = pointed operator at pointer w (record { clear = is.clear; told = is.told }) g place
  typed_node (e.Member object name at) w is g place o = absurd o
  typed_node (e.PointedMember pointer name at) w is g place o = absurd o
  typed_node (e.Constant kind value at) w is g place o = never w.is_place (resulted _ w _ g refl refl).no_place place
  typed_node (e.Text at) w is g place o = absurd (cc)
  typed_node (e.Call function arguments at) w is g place o = never w.is_place (call_no_place function arguments at (out-Expression function) w g) place
  typed_node (e.Postfix step operand at) w is g place o = never w.is_place (step_gives (layout_of (given_in p)) at (λ y. at) (answer_in p tells operand) w g).result.no_place place
  typed_node (e.Prefix step operand at) w is g place o = never w.is_place (step_gives (layout_of (given_in p)) at (λ y. y.ends_at) (answer_in p tells operand) w g).result.no_place place
  typed_node (e.SizeofExpression operand at) w is g place o =
      let v = part_gives (answer_of (given_in p) operand true) (λ x. sizeof_answer (layout_of (given_in p)) at x) w (sized (names_function p.names operand) at _ w g) in
      never w.is_place (size_gives (layout_of (given_in p)) at v.operand.ends_at (size_in_bytes p.checks.model v.operand.ctype) w v.gives).no_place place
  typed_node (e.SizeofType type_name at) w is g place o = never w.is_place (named_size_gives (layout_of (given_in p)) at (meaning_at p.names at) w g).no_place place
  typed_node (e.Cast type_name operand at) w is g place o =
      let v = used_gives (layout_of (given_in p)) (answer_in p tells operand) _ w g in
      never w.is_place (cast_gives at (meaning_at p.names at) (converted_value v.operand) w v.gives).no_place place
  typed_node (e.Binary operator left right at) w is g place o =
      let l = layout_of (given_in p) in
      let x = used_gives l (answer_in p tells left) _ w g in
      let y = used_gives l (answer_in p tells right) (λ y. binary_answer l operator at (converted_value x.operand) y) w x.gives in
      never w.is_place (binary_gives l at operator (converted_value x.operand) (converted_value y.operand) w y.gives).no_place place
  typed_node (e.Conditional test first otherwise at) w is g place o =
      let l = layout_of (given_in p) in
      let t = used_gives l (answer_in p tells test) _ w g in
      let x = used_gives l (answer_in p tells first) _ w t.gives in
      let y = used_gives l (answer_in p tells otherwise) (λ y. conditional_answer at (converted_value t.operand) (converted_value x.operand) y) w x.gives in
      let c = unless_gives (not (is_scalar (converted_value t.operand).ctype)) 12 at (conditional_by at (converted_value t.operand) (converted_value x.operand) (converted_value y.operand) (arms_type (converted_value x.operand) (converted_value y.operand))) w y.gives in
      never w.is_place (choice_no_place at (converted_value t.operand) (converted_value x.operand) (converted_value y.operand) w (arms_type (converted_value x.operand) (converted_value y.operand)) c.gives) place
  typed_node (e.Assign operator target value at) w is g place o = never w.is_place (assign_gives (layout_of (given_in p)) operator at (answer_in p tells target) (answer_in p tells value) w g).result.no_place place
  typed_node (e.Comma parts at) w is g place o = never w.is_place (sequence_no_place at parts w g) place

  typed_place : (x : Expression) → IsLvalue p x → IsNoMember (out-Expression x) → IsTypedPlace p (type_of p x) (out-Expression x)
  typed_place x h o =
      subst (λ k. IsTypedPlace p k (out-Expression x)) (sym (type_is p x h.right h.typed h.answer))
      (typed_node (out-Expression x) h.typed (node_right p x h.right) (node_gives p tells x (out-Expression x) refl h.typed h.answer) h.place o)

pub places_typed : (p : Program) → IsAcceptedProgram p → (c : State) (x : Expression) (found : List (List Scalar)) (rest : List Item) → IsNext p c (Place x found) rest → IsNoMember (out-Expression x)
    → IsTypedPlace p (type_of p x) (out-Expression x)
places_typed p h c x found rest n o =
    let tells = accepted_tells p h in
    typed_place p tells x (reached_code p (rules_asked p) (rules_kept p tells) h c (Place x found) rest n).0 o
