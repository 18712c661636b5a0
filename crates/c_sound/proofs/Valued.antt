-- What expressions of an accepted program are made of, for their values.
use Rattle.std.proofs.Common.{◌≡◌, ℕ, Bool, true, false, not, ◌&&◌, cond, List, [], ◌∷◌, map, Option, Some, None, refl, ap, sym, subst, ◌∙◌}
use Rattle.c_tree.specs.declared.expression.AssignOperator.{AssignOperator}
use Rattle.c_tree.specs.declared.expression.AssignOperator.TheVariants as assign
use Rattle.c_tree.specs.declared.expression.BinaryOperator.{BinaryOperator}
use Rattle.c_tree.specs.declared.expression.UnaryOperator.{UnaryOperator}
use Rattle.c_tree.specs.declared.expression.UnaryOperator.TheVariants as u
use Rattle.c_tree.specs.declared.expression.Expression.{Expression, out-Expression}
use Rattle.c_tree.specs.declared.expression.Declarator.TheOpen.{Expression-F as e}
use Rattle.c_kinds.specs.declared.types.CType.{CType}
use Rattle.c_kinds.specs.declared.types.Shape.{Shape}
use Rattle.c_kinds.specs.declared.types.Shape.TheVariants as shape
use Rattle.c_kinds.specs.declared.typed.Typed.{Typed}
use Rattle.c_kinds.specs.declared.answer.Answer.{Answer}
use Rattle.c_kinds.specs.declared.answer.Answer.TheVariants.{Gives, Breaks}
use Rattle.c_kinds.specs.Casts.{assigns_misfit, plain_operator, assigned, fits, conditional_answer, conditional_by, arms_type, comma_answer}
use Rattle.c_kinds.specs.Layouts.{size_in_bytes}
use Rattle.c_kinds.specs.Operands.{arithmetic, negation, binary_answer, sizeof_answer}
use Rattle.c_kinds.specs.Types.{shape_of, is_array_shape, is_array, is_scalar, unqualified}
use Rattle.c_kinds.specs.Values.{and_then, used, value, converted_value}
use Rattle.c_rules.specs.declared.names.Pair.{Pair}
use Rattle.c_rules.specs.declared.program.Program.{Program}
use Rattle.c_rules.specs.Accepted.{given_in, IsAcceptedProgram}
use Rattle.c_rules.specs.Broken.{of_each, pair_if}
use Rattle.c_rules.specs.Expressions.{has_type, misfit, misfit_pairs}
use Rattle.c_rules.specs.Found.{AnswerAt}
use Rattle.c_rules.specs.Typing.{layout_of, meaning_at, answer_of, assign_node, names_function, sequence_answer}
use Rattle.c_rules.proofs.Empty.{first_empty, second_empty}
use Rattle.c_rules.proofs.Told.{Tell}
use Rattle.c_model.specs.Configurations.{Item, Value, State}
use Rattle.c_model.specs.declared.values.Scalar.{Scalar}
use Rattle.c_model.specs.Operators.{operator_of}
use Rattle.c_model.specs.Programs.{ExpressionNode, type_of, types_of}
use Rattle.c_heads.specs.Sound.{value_type, HasShape, IsScalarShape, SameCells, IsPassedOn, IsAddressed, IsUnary, IsStored, IsLast, IsTypedValue, IsNext}
use Rattle.c_heads.specs.Typed.{binary_shape, unary_shape}
use Rattle.c_sound.specs.Laws.{IsOperation}
use Rattle.c_sound.proofs.Tables.{AreTold, first_told, second_told}
use Rattle.c_sound.proofs.Shapes.{decayed, decayed_shape, decays, shape_with, types_with, value_shape, value_types, value_no_array, fits_converts, plain_converts, plain_result, no_array_result}
use Rattle.c_sound.proofs.Rights.{IsRight, NodeRight, node_right, has_its_type, type_is, part_gives, then_gives, unless_gives, used_gives, value_gives}
use Rattle.c_sound.proofs.Inverse.{IsResult, same_typed, pointed_gives, address_gives, step_gives, IsValued, assign_gives}
use Rattle.c_sound.proofs.Kept.{rules_asked, answer_in, NodeGives, node_gives, rules_kept, judged, answered}
use Rattle.c_sound.proofs.Operators.{binary_gives, binary_scalar, binary_decays, arithmetic_gives, negation_gives, size_gives, named_size_gives, cast_gives, arms_convert}
use Rattle.c_sound.proofs.Standing.{Each}
use Rattle.c_sound.proofs.Placed.{value_named, call_typed}
use Rattle.c_sound.proofs.Starting.{accepted_tells, reached_code}

module _ (p : Program) (tells : Tell p.names) where
  -- the type of an operand's value
  operand_types : (y : Expression) → IsRight p y → (v : Typed) → answer_in p tells y ≡ Gives v → types_of p (value_type p y) ≡ types_of p (converted_value v).ctype
  operand_types y h v q = ap (λ k. types_of p (decayed k)) (type_is p y h v q) ∙ sym (value_types v p)

  operand_shape : (y : Expression) → IsRight p y → (v : Typed) → answer_in p tells y ≡ Gives v → shape_of (value_type p y) ≡ shape_of (converted_value v).ctype
  operand_shape y h v q = ap (λ k. shape_of (decayed k)) (type_is p y h v q) ∙ sym (value_shape v)

  -- its shape, where it isn't an array
  own_shape : (y : Expression) → IsRight p y → (v : Typed) → answer_in p tells y ≡ Gives v → shape_of (converted_value v).ctype ≡ decayed_shape (shape_of (type_of p y))
  own_shape y h v q = sym (operand_shape y h v q) ∙ decays (type_of p y)

  -- ---- steps

  stepped : (y : Expression) → IsRight p y → (w v : Typed) → answer_in p tells y ≡ Gives v → IsResult w (unqualified v.ctype) → is_array v.ctype ≡ false → SameCells p w.ctype (type_of p y)
  stepped y h w v q r n = (
    ap (types_of p) (type_is p y h v q) ∙ (sym (types_with p false v.ctype) ∙ ap (types_of p) (sym r.ctype)),
    no_array_result w.ctype (ap is_array r.ctype ∙ (ap is_array_shape (shape_with false v.ctype) ∙ n)),
  )

  scalar_operand : (y : Expression) → IsRight p y → (v : Typed) → answer_in p tells y ≡ Gives v → IsScalarShape (shape_of v.ctype) → IsScalarShape (shape_of (type_of p y))
  scalar_operand y h v q s = let P : CType → Type 0 = λ k. IsScalarShape (shape_of k) in subst P (sym (type_is p y h v q)) s

  -- ---- one operand

  never : (b : Bool) → b ≡ false → b ≡ true → ⊥
  never true q h = cc
  never false q h = cc

  passed_on : (operator : UnaryOperator) (at : ℕ) (pointer : Expression) (w : Typed) → IsRight p pointer → NodeGives p tells (e.Unary operator pointer at) w → w.is_place ≡ true → IsPassedOn p operator pointer
  passed_on u.Indirection at pointer w h g place =
      let v = pointed_gives (layout_of (given_in p)) at (answer_in p tells pointer) w g in
      operand_shape pointer h v.operand v.is ∙ v.pointer_shape
  passed_on u.Address at pointer w h g place = never w.is_place (address_gives at (answer_in p tells pointer) w g).result.no_place place
  passed_on u.Not at pointer w h g place =
      let v = used_gives (layout_of (given_in p)) (answer_in p tells pointer) (λ x. negation at x) w g in
      never w.is_place (negation_gives at (converted_value v.operand) w v.gives).no_place place
  passed_on u.Plus at pointer w h g place =
      let v = used_gives (layout_of (given_in p)) (answer_in p tells pointer) (λ x. arithmetic u.Plus at (shape_of x.ctype) x) w g in
      never w.is_place (arithmetic_gives u.Plus at (shape_of (converted_value v.operand).ctype) (converted_value v.operand) w v.gives).no_place place
  passed_on u.Minus at pointer w h g place =
      let v = used_gives (layout_of (given_in p)) (answer_in p tells pointer) (λ x. arithmetic u.Minus at (shape_of x.ctype) x) w g in
      never w.is_place (arithmetic_gives u.Minus at (shape_of (converted_value v.operand).ctype) (converted_value v.operand) w v.gives).no_place place
  passed_on u.Complement at pointer w h g place =
      let v = used_gives (layout_of (given_in p)) (answer_in p tells pointer) (λ x. arithmetic u.Complement at (shape_of x.ctype) x) w g in
      never w.is_place (arithmetic_gives u.Complement at (shape_of (converted_value v.operand).ctype) (converted_value v.operand) w v.gives).no_place place

  addressed : (operand : Expression) (l : ExpressionNode) → out-Expression operand ≡ l → NodeRight p l → (w : Typed) → answer_in p tells operand ≡ Gives w → w.is_place ≡ true → IsAddressed p l
  addressed operand (e.Unary operator pointer at) q is w g place =
      passed_on operator at pointer w (record { clear = is.clear; told = is.told }) (node_gives p tells operand (e.Unary operator pointer at) q w g) place
  addressed operand l q is w g place = tt

  undecayed : (s : Shape) (kind : _) → decayed_shape s ≡ shape.Integer kind → s ≡ shape.Integer kind
  undecayed (shape.Array n) kind h = absurd (cc)
  undecayed (shape.Integer k) kind h = h
  undecayed shape.Pointer kind h = h
  undecayed (shape.Struct n) kind h = h
  undecayed (shape.Function n) kind h = h
  undecayed shape.Void kind h = h

  arithmetic_of : (operator : UnaryOperator) (at : ℕ) (operand : Expression) (w : Typed) → IsRight p operand
      → used (layout_of (given_in p)) (answer_in p tells operand) (λ x. arithmetic operator at (shape_of x.ctype) x) ≡ Gives w → HasShape w.ctype (unary_shape (shape_of (type_of p operand)))
  arithmetic_of operator at operand w h g =
      let v = used_gives (layout_of (given_in p)) (answer_in p tells operand) (λ x. arithmetic operator at (shape_of x.ctype) x) w g in
      let r = arithmetic_gives operator at (shape_of (converted_value v.operand).ctype) (converted_value v.operand) w v.gives in
      let s = undecayed (shape_of (type_of p operand)) r.kind (sym (own_shape operand h v.operand v.is) ∙ r.operand) in
      r.result ∙ ap unary_shape (sym s)

  unary_typed : (operator : UnaryOperator) (at : ℕ) (operand : Expression) (w : Typed) → IsRight p operand → NodeGives p tells (e.Unary operator operand at) w → IsUnary p operator w.ctype operand
  unary_typed u.Address at operand w h g =
      let v = address_gives at (answer_in p tells operand) w g in
      (ap shape_of v.result.ctype, addressed operand (out-Expression operand) refl (node_right p operand h) v.typed v.is v.place)
  unary_typed u.Indirection at operand w h g = tt
  unary_typed u.Not at operand w h g =
      let v = used_gives (layout_of (given_in p)) (answer_in p tells operand) (λ x. negation at x) w g in
      (negation_gives at (converted_value v.operand) w v.gives).result
  unary_typed u.Plus at operand w h g = arithmetic_of u.Plus at operand w h g
  unary_typed u.Minus at operand w h g = arithmetic_of u.Minus at operand w h g
  unary_typed u.Complement at operand w h g = arithmetic_of u.Complement at operand w h g

  sized : (b : Bool) (at : ℕ) (y : Answer) (w : Typed) → cond b (Breaks 16 at) y ≡ Gives w → y ≡ Gives w
  sized true at y w h = absurd (cc)
  sized false at y w h = h

  -- ---- assignments

  same_operator : (operator : AssignOperator) → plain_operator operator ≡ operator_of operator
  same_operator assign.Plain = refl
  same_operator assign.Multiply = refl
  same_operator assign.Divide = refl
  same_operator assign.Remainder = refl
  same_operator assign.Add = refl
  same_operator assign.Subtract = refl
  same_operator assign.ShiftLeft = refl
  same_operator assign.ShiftRight = refl
  same_operator assign.BitAnd = refl
  same_operator assign.BitXor = refl
  same_operator assign.BitOr = refl

  abbrev Misfits : Typed → Answer → Bool
  Misfits target made = elim made as (λ _. Bool) [ Gives v ↦ not (fits target.ctype v) | _ ↦ false ]

  not_so : (b : Bool) → not b ≡ false → b ≡ true
  not_so true h = refl
  not_so false h = absurd (cc)

  undecayed_scalar : (s : Shape) → is_array_shape s ≡ false → IsScalarShape (decayed_shape s) → IsScalarShape s
  undecayed_scalar (shape.Array n) q h = absurd (cc)
  undecayed_scalar (shape.Integer k) q h = h
  undecayed_scalar shape.Pointer q h = h
  undecayed_scalar (shape.Struct n) q h = h
  undecayed_scalar (shape.Function n) q h = h
  undecayed_scalar shape.Void q h = h

  stored : (m : Option BinaryOperator) (at : ℕ) (target other made : Typed) (from : CType) → is_array target.ctype ≡ false → types_of p from ≡ types_of p (converted_value other).ctype
      → assigned (layout_of (given_in p)) m at target (converted_value other) ≡ Gives made
      → Misfits target (assigned (layout_of (given_in p)) m at target (converted_value other)) ≡ false → IsStored p m target.ctype from
  stored None at target other made from n t g h = fits_converts p target.ctype target.ctype (converted_value other) (not_so (fits target.ctype (converted_value other)) h) refl refl from t
  stored (Some operator) at target other made from n t g h =
      let old = then_gives (value (layout_of (given_in p)) target) (λ x. binary_answer (layout_of (given_in p)) operator at x (converted_value other)) made g in
      let same = value_gives (layout_of (given_in p)) target old.operand old.is in
      let scalar = binary_scalar (layout_of (given_in p)) at operator old.operand (converted_value other) made old.gives in
      let P : Typed → Type 0 = λ x. IsScalarShape (shape_of x.ctype) in
      let Q : Shape → Type 0 = λ s. IsScalarShape s in
      undecayed_scalar (shape_of target.ctype) n (subst Q (value_shape target ∙ decays target.ctype) (subst P (sym same) scalar))

  and_true : (a b : Bool) → a ≡ true → (a && b) ≡ false → b ≡ false
  and_true true b q h = h
  and_true false b q h = absurd (cc)

  pair_no : (b : Bool) (at rule : ℕ) → pair_if b at rule ≡ [] → b ≡ false
  pair_no true at rule h = absurd (cc)
  pair_no false at rule h = refl

  -- rule 13 isn't broken
  fitting : (operator : AssignOperator) (at : ℕ) (target value : Answer) (w typed other : Typed) → target ≡ Gives typed → value ≡ Gives other → assign_node (layout_of (given_in p)) operator at target value ≡ Gives w
      → IsValued (layout_of (given_in p)) other
      → misfit_pairs (layout_of (given_in p)) operator at target value ≡ [] → Misfits typed (assigned (layout_of (given_in p)) (plain_operator operator) at typed (converted_value other)) ≡ false
  fitting operator at target value w typed other q r g v h =
      let l = layout_of (given_in p) in
      let no = and_true (has_type (assign_node l operator at target value)) (misfit l operator at target value) (ap has_type g) (pair_no (has_type (assign_node l operator at target value) && misfit l operator at target value) at 13 h) in
      let Q : Answer → Type 0 = λ t. misfit l operator at t value ≡ false in
      let R : Answer → Type 0 = λ y. misfit l operator at (Gives typed) y ≡ false in
      let S : Answer → Type 0 = λ y. elim (and_then y (λ z. Gives z)) as (λ _. Bool) [ Gives z ↦ assigns_misfit l operator at typed z | _ ↦ false ] ≡ false in
      subst S v (subst R r (subst Q q no))

  -- ---- commas

  rights : (xs : List Expression) → of_each (λ (x : Expression × (Bool → List Pair)). x.1 false) (map (judged p) xs) ≡ []
      → AreTold p (of_each (λ (x : Expression × (Bool → List AnswerAt)). x.1 false) (map (answered p) xs)) → Each (IsRight p) xs
  rights [] h t = tt
  rights (x ∷ xs) h t = (record { clear = first_empty _ _ h; told = first_told p _ _ t }, rights xs (second_empty _ _ h) (second_told p _ _ t))

  last_typed : (at : ℕ) (parts : List Expression) (w : Typed) → Each (IsRight p) parts → sequence_answer (layout_of (given_in p)) (answer_in p tells) at parts ≡ Gives w → IsLast p w.ctype parts
  last_typed at [] w h g = absurd (cc)
  last_typed at (x ∷ []) w h g =
      let v = used_gives (layout_of (given_in p)) (answer_in p tells x) (λ y. comma_answer at y) w g in
      let same = same_typed _ w v.gives in
      let own : w.ctype ≡ (converted_value v.operand).ctype = ap (λ y. y.ctype) (sym same) in
      (operand_types x h.0 v.operand v.is ∙ ap (types_of p) (sym own), no_array_result w.ctype (ap is_array own ∙ value_no_array v.operand))
  last_typed at (x ∷ (y ∷ rest)) w h g =
      let v = used_gives (layout_of (given_in p)) (answer_in p tells x) (λ _. sequence_answer (layout_of (given_in p)) (answer_in p tells) at (y ∷ rest)) w g in
      last_typed at (y ∷ rest) w h.1 v.gives

  -- ---- each operator

  typed_node : (l : ExpressionNode) (w : Typed) → NodeRight p l → NodeGives p tells l w → IsOperation p l → IsTypedValue p w.ctype l
  typed_node (e.«Expression::Name» name at) w is g o = value_named p tells at (meaning_at p.names at) w g o
  typed_node (e.Constant kind value at) w is g o = absurd o
  typed_node (e.Text at) w is g o = absurd o
  typed_node (e.Call function arguments at) w is g o = call_typed p tells function arguments at (out-Expression function) w g o
  typed_node (e.Subscript array index at) w is g o = tt
  typed_node (e.Member object name at) w is g o = tt
  typed_node (e.PointedMember pointer name at) w is g o = tt
  typed_node (e.Postfix step operand at) w is g o =
      let right : IsRight p operand = record { clear = is.clear; told = is.told } in
      let s = step_gives (layout_of (given_in p)) at (λ y. at) (answer_in p tells operand) w g in
      (stepped operand right w s.typed s.is s.result s.written_is.no_array, scalar_operand operand right s.typed s.is s.scalar)
  typed_node (e.Prefix step operand at) w is g o =
      let right : IsRight p operand = record { clear = is.clear; told = is.told } in
      let s = step_gives (layout_of (given_in p)) at (λ y. y.ends_at) (answer_in p tells operand) w g in
      (stepped operand right w s.typed s.is s.result s.written_is.no_array, scalar_operand operand right s.typed s.is s.scalar)
  typed_node (e.Unary operator operand at) w is g o = unary_typed operator at operand w (record { clear = is.clear; told = is.told }) g
  typed_node (e.SizeofExpression operand at) w is g o =
      let v = part_gives (answer_of (given_in p) operand true) (λ x. sizeof_answer (layout_of (given_in p)) at x) w (sized (names_function p.names operand) at _ w g) in
      (size_gives (layout_of (given_in p)) at v.operand.ends_at (size_in_bytes p.checks.model v.operand.ctype) w v.gives).shape
  typed_node (e.SizeofType type_name at) w is g o = (named_size_gives (layout_of (given_in p)) at (meaning_at p.names at) w g).shape
  typed_node (e.Cast type_name operand at) w is g o =
      let v = used_gives (layout_of (given_in p)) (answer_in p tells operand) _ w g in
      let plain = (cast_gives at (meaning_at p.names at) (converted_value v.operand) w v.gives).plain in
      (plain_converts p w.ctype (value_type p operand) plain, plain_result w.ctype plain)
  typed_node (e.Binary operator left right at) w is g o =
      let l = layout_of (given_in p) in
      let x = used_gives l (answer_in p tells left) _ w g in
      let y = used_gives l (answer_in p tells right) (λ y. binary_answer l operator at (converted_value x.operand) y) w x.gives in
      let left_is : IsRight p left = record { clear = first_empty _ _ is.clear; told = first_told p _ _ is.told } in
      let right_is : IsRight p right = record { clear = second_empty _ _ is.clear; told = second_told p _ _ is.told } in
      (binary_gives l at operator (converted_value x.operand) (converted_value y.operand) w y.gives).shape
      ∙ ap (λ s. binary_shape operator s (shape_of (converted_value y.operand).ctype)) (own_shape left left_is x.operand x.is)
      ∙ ap (λ s. binary_shape operator (decayed_shape (shape_of (type_of p left))) s) (own_shape right right_is y.operand y.is)
      ∙ binary_decays operator (shape_of (type_of p left)) (shape_of (type_of p right))
  typed_node (e.Conditional test first otherwise at) w is g o =
      let l = layout_of (given_in p) in
      let t = used_gives l (answer_in p tells test) _ w g in
      let x = used_gives l (answer_in p tells first) _ w t.gives in
      let y = used_gives l (answer_in p tells otherwise) (λ y. conditional_answer at (converted_value t.operand) (converted_value x.operand) y) w x.gives in
      let c = unless_gives (not (is_scalar (converted_value t.operand).ctype)) 12 at (conditional_by at (converted_value t.operand) (converted_value x.operand) (converted_value y.operand) (arms_type (converted_value x.operand) (converted_value y.operand))) w y.gives in
      let arms = arms_convert p (converted_value x.operand) (converted_value y.operand) at (converted_value t.operand) w c.gives in (
        arms.first (value_type p first) (operand_types first (record { clear = second_empty _ _ (first_empty _ _ is.clear); told = second_told p _ _ (first_told p _ _ is.told) }) x.operand x.is),
        arms.other (value_type p otherwise) (operand_types otherwise (record { clear = second_empty _ _ is.clear; told = second_told p _ _ is.told }) y.operand y.is),
        arms.result,
      )
  typed_node (e.Assign operator target value at) w is g o =
      let s = assign_gives (layout_of (given_in p)) operator at (answer_in p tells target) (answer_in p tells value) w g in
      let target_is : IsRight p target = record { clear = first_empty _ _ is.clear; told = first_told p _ _ is.told } in
      let value_is : IsRight p value = record { clear = second_empty _ _ is.clear; told = second_told p _ _ is.told } in
      let fit = fitting operator at (answer_in p tells target) (answer_in p tells value) w s.typed s.other s.is s.other_is g s.other_valued is.own in
      let store = stored (plain_operator operator) at s.typed s.other s.made (value_type p value) s.written_is.no_array (operand_types value value_is s.other s.other_is) s.made_is fit in (
        stepped target target_is w s.typed s.is s.result s.written_is.no_array,
        subst (λ m. IsStored p m (type_of p target) (value_type p value)) (same_operator operator) (subst (λ k. IsStored p (plain_operator operator) k (value_type p value)) (sym (type_is p target target_is s.typed s.is)) store),
      )
  typed_node (e.Comma parts at) w is g o = last_typed at parts w (rights parts is.clear is.told) g

  typed_value : (x : Expression) → IsRight p x → IsOperation p (out-Expression x) → IsTypedValue p (type_of p x) (out-Expression x)
  typed_value x h o =
      let has = has_its_type p tells x h in
      subst (λ k. IsTypedValue p k (out-Expression x)) (sym has.same) (typed_node (out-Expression x) has.typed (node_right p x h) (node_gives p tells x (out-Expression x) refl has.typed has.answer) o)

  no_text : (l : ExpressionNode) → IsOperation p l → elim l as (λ _. Bool) [ e.Text at ↦ true | _ ↦ false ] ≡ false
  no_text (e.Text at) o = absurd o
  no_text l o = refl

pub operations_typed : (p : Program) → IsAcceptedProgram p → (c : State) (x : Expression) (found : List (List Scalar)) (rest : List Item) → IsNext p c (Value x found) rest → IsOperation p (out-Expression x)
    → IsTypedValue p (type_of p x) (out-Expression x)
operations_typed p h c x found rest n o =
    let tells = accepted_tells p h in
    typed_value p tells x ((reached_code p (rules_asked p) (rules_kept p tells) h c (Value x found) rest n).0 (no_text p tells (out-Expression x) o)) o
