-- What is evaluated breaks no rule and has a type, and what is located is a place: it is so of all parts, where it is so of the whole.
use Rattle.std.proofs.Common.{◌≡◌, ℕ, ◌+◌, Bool, true, false, ◌&&◌, cond, List, [], ◌∷◌, ◌++◌, map, Option, Some, None, refl, ap, sym, subst, ◌∙◌, zero, suc, drop, slice_get, arith, ◌⊎◌, inl, inr}
use Rattle.c_tree.specs.declared.expression.UnaryOperator.{UnaryOperator}
use Rattle.c_tree.specs.declared.expression.UnaryOperator.TheVariants as u
use Rattle.c_tree.specs.declared.expression.Expression.{Expression, out-Expression}
use Rattle.c_tree.specs.declared.expression.Declarator.TheOpen.{Expression-F as e}
use Rattle.c_tree.specs.declared.declaration.Initialiser.{Initialiser, out-Initialiser}
use Rattle.c_tree.specs.declared.declaration.Initialiser.TheOpen.{Initialiser-F}
use Rattle.c_tree.specs.declared.declaration.Initialiser.TheOpen.{Initialiser-F as i}
use Rattle.c_tree.specs.declared.declaration.Initialiser.TheViews.{roll-out-Initialiser}
use Rattle.c_tree.specs.declared.declaration.Initialiser.TheFolds.{map-Initialiser, para-roll-Initialiser}
use Rattle.c_kinds.specs.declared.types.CType.{CType}
use Rattle.c_kinds.specs.declared.types.Shape.{Shape}
use Rattle.c_kinds.specs.declared.types.Shape.TheVariants as shape
use Rattle.c_kinds.specs.declared.typed.Typed.{Typed}
use Rattle.c_kinds.specs.declared.answer.Answer.{Answer}
use Rattle.c_kinds.specs.declared.answer.Answer.TheVariants.{Gives}
use Rattle.c_kinds.specs.Types.{shape_of, is_array}
use Rattle.c_rules.specs.declared.names.Meaning.TheVariants as meaning
use Rattle.c_rules.specs.declared.names.Pair.{Pair}
use Rattle.c_rules.specs.declared.program.Program.{Program}
use Rattle.c_rules.specs.Accepted.{given_in}
use Rattle.c_rules.specs.Broken.{of_each}
use Rattle.c_rules.specs.Declarators.{holds}
use Rattle.c_rules.specs.Recursion.{of_expression}
use Rattle.c_rules.specs.Expressions.{broken_value, in_arguments, is_used, judging}
use Rattle.c_rules.specs.Found.{AnswerAt, answering, initialiser_found, found_in_initialiser}
use Rattle.c_rules.specs.Initialisers.{Initialised, initialised_at, part_of, elements, members, parts_by, parts_pairs, initialiser_pairs, broken_initialiser}
use Rattle.c_rules.specs.Typing.{layout_of, meaning_at, is_assert_fail, is_text, answer_of, unary_node, expression_answer}
use Rattle.c_rules.proofs.Empty.{first_empty, second_empty}
use Rattle.c_rules.proofs.Judging.{initialiser_breaks}
use Rattle.c_rules.proofs.Told.{Tell}
use Rattle.c_rules.proofs.Typings.{answer_is}
use Rattle.c_model.specs.Programs.{ExpressionNode}
use Rattle.c_kinds.specs.declared.types.Base.{Base}
use Rattle.c_kinds.specs.declared.types.Derivation.{Derivation}
use Rattle.c_kinds.specs.declared.types.Derivation.TheVariants as Derived
use Rattle.c_kinds.specs.declared.types.Member.{Member}
use Rattle.c_kinds.specs.Types.{void, shape_by, without_outermost}
use Rattle.c_kinds.specs.Layouts.{members_of}
use Rattle.c_rules.specs.declared.names.Object.{Object as RulesObject}
use Rattle.c_rules.specs.Initialisers.{member_types, object_initialised}
use Rattle.c_model.specs.Programs.{or_else, members_by, type_of_member, part_type_by, part_type, object_type_by}
use Rattle.c_sound.proofs.Tables.{AreTold, first_told, second_told}
use Rattle.c_sound.proofs.Standing.{Each, Asked, PointedParts, AddressParts, UnaryParts, ValueParts, PlaceParts, InitialiserParts, IsKept}
use Rattle.c_sound.proofs.Rights.{IsRight, NodeRight, node_right, has_its_type}
use Rattle.c_sound.proofs.Inverse.{subscript_gives, member_gives, pointed_member_gives, pointed_gives, address_gives, step_gives, assign_gives}

-- ---- what is asked

-- only the strings of a failed assertion aren't looked at, and they aren't evaluated
abbrev pub IsEvaluated : Program → Expression → Type 0
IsEvaluated p x = is_text x ≡ false → IsRight p x

pub record IsLvalue (p : Program) (x : Expression) : Type 0 where
  pub right : IsRight p x
  pub typed : Typed
  pub answer : answer_of (given_in p) x false ≡ Gives typed
  pub place : typed.is_place ≡ true

-- no object has such a type
abbrev pub IsUnsized : Shape → Type 0
IsUnsized shape.Void = Unit {0}
IsUnsized (shape.Function n) = Unit {0}
IsUnsized _ = ⊥

-- what is initialised has this type
abbrev pub IsOfPart : Option CType → CType → Type 0
IsOfPart object t = (object ≡ Some t) ⊎ ((object ≡ None) × IsUnsized (shape_of t))

pub record IsInitialiser (p : Program) (t : CType) (x : Initialiser) : Type 0 where
  pub object : Initialised
  pub typed : IsOfPart object.ctype t
  pub clear : broken_initialiser (given_in p) x object ≡ []
  pub told : AreTold p (found_in_initialiser (answering (given_in p)) x)

abbrev pub PartsRight : Program → CType → ℕ → List Initialiser → Type 0
PartsRight p t part [] = Unit {0}
PartsRight p t part (x ∷ xs) = IsInitialiser p (part_type p t part) x × PartsRight p t (part + 1) xs

abbrev pub rules_asked : Program → Asked
rules_asked p = record { OfValue = IsEvaluated p; OfPlace = IsLvalue p; OfPart = λ number offset t x. IsInitialiser p t x; OfParts = λ number offset t part xs. PartsRight p t part xs }

pub evaluated : (p : Program) (x : Expression) → IsRight p x → IsEvaluated p x
evaluated p x h q = h

-- ---- lists of parts

module _ (p : Program) where
  abbrev pub judged : Expression → Expression × (Bool → List Pair)
  judged x = (x, of_expression (judging (given_in p)) x)

  abbrev pub answered : Expression → Expression × (Bool → List AnswerAt)
  answered x = (x, of_expression (answering (given_in p)) x)

  chosen : {A : Type 0} (texts b : Bool) (xs : List A) → b ≡ false → cond (texts && b) [] xs ≡ xs
  chosen true b xs q = ap (λ v. cond v [] xs) q
  chosen false b xs q = refl

  arguments_right : (texts : Bool) (xs : List Expression) → in_arguments (λ x. x.0) (λ x. x.1) texts false (map judged xs) ≡ []
      → AreTold p (in_arguments (λ x. x.0) (λ x. x.1) texts false (map answered xs)) → Each (IsEvaluated p) xs
  arguments_right texts [] h t = tt
  arguments_right texts (x ∷ xs) h t = (
    λ q. record {
      clear = sym (chosen texts (is_text x) _ q) ∙ first_empty _ _ h;
      told = subst (AreTold p) (chosen texts (is_text x) _ q) (first_told p _ _ t);
    },
    arguments_right texts xs (second_empty _ _ h) (second_told p _ _ t),
  )

  parts_right : (xs : List Expression) → of_each (λ (x : Expression × (Bool → List Pair)). x.1 false) (map judged xs) ≡ []
      → AreTold p (of_each (λ (x : Expression × (Bool → List AnswerAt)). x.1 false) (map answered xs)) → Each (IsEvaluated p) xs
  parts_right [] h t = tt
  parts_right (x ∷ xs) h t = (λ q. record { clear = first_empty _ _ h; told = first_told p _ _ t }, parts_right xs (second_empty _ _ h) (second_told p _ _ t))

  call_right : (function : Expression) (xs : List Expression) (o : ExpressionNode)
      → elim o as (λ _. List Pair) [
        | e.«Expression::Name» text name ↦ in_arguments {E = Expression × (Bool → List Pair)} (λ x. x.0) (λ x. x.1) (is_assert_fail p.names (meaning_at p.names name)) false (map judged xs)
        | _ ↦ of_expression (judging (given_in p)) function false ++ in_arguments {E = Expression × (Bool → List Pair)} (λ x. x.0) (λ x. x.1) false false (map judged xs)
      ] ≡ []
      → AreTold p (elim o as (λ _. List AnswerAt) [
        | e.«Expression::Name» text name ↦ in_arguments {E = Expression × (Bool → List AnswerAt)} (λ x. x.0) (λ x. x.1) (is_assert_fail p.names (meaning_at p.names name)) false (map answered xs)
        | _ ↦ of_expression (answering (given_in p)) function false ++ in_arguments {E = Expression × (Bool → List AnswerAt)} (λ x. x.0) (λ x. x.1) false false (map answered xs)
      ])
      → Each (IsEvaluated p) xs
  call_right function xs (e.«Expression::Name» text name) h t = arguments_right (is_assert_fail p.names (meaning_at p.names name)) xs h t
  call_right function xs _ h t = arguments_right false xs (second_empty (of_expression (judging (given_in p)) function false) _ h) (second_told p (of_expression (answering (given_in p)) function false) _ t)

-- ---- places

module _ (p : Program) (tells : Tell p.names) where
  abbrev pub answer_in : Expression → Answer
  answer_in x = answer_of (given_in p) x false

  abbrev pub NodeGives : ExpressionNode → Typed → Type 0
  NodeGives l w = expression_answer (given_in p) (answer_of (given_in p)) (λ y. y) l false ≡ Gives w

  pub node_gives : (x : Expression) (l : ExpressionNode) → out-Expression x ≡ l → (w : Typed) → answer_in x ≡ Gives w → NodeGives l w
  node_gives x l q w h = sym (ap (λ z. expression_answer (given_in p) (answer_of (given_in p)) (λ y. y) z false) q) ∙ (sym (answer_is (given_in p) x false) ∙ h)

  -- an expression is a place where its node says so
  lvalue_by : (x : Expression) → IsRight p x → ((w : Typed) → answer_in x ≡ Gives w → w.is_place ≡ true) → IsLvalue p x
  lvalue_by x h f = let has = has_its_type p tells x h in record { right = h; typed = has.typed; answer = has.answer; place = f has.typed has.answer }

  -- one that is known to be a place
  known_place : (x : Expression) → IsRight p x → (w : Typed) → answer_in x ≡ Gives w → w.is_place ≡ true → IsLvalue p x
  known_place x h w q place = record { right = h; typed = w; answer = q; place = place }

  -- ---- operators before an operand

  -- where an operator before an operand gives a place, it follows a pointer
  follows : (operator : UnaryOperator) (at : ℕ) (operand : Expression) (w : Typed) → unary_node (layout_of (given_in p)) operator at (answer_in operand) ≡ Gives w → w.is_place ≡ true → IsEvaluated p operand → PointedParts (rules_asked p) operator operand
  follows u.Indirection at operand w h place i = i
  follows operator at operand w h place i = tt

  address_parts : (operand : Expression) (l : ExpressionNode) → out-Expression operand ≡ l → IsRight p operand → NodeRight p l → (w : Typed) → answer_in operand ≡ Gives w → w.is_place ≡ true → AddressParts (rules_asked p) operand l
  address_parts operand (e.Unary operator pointer at) q h is w a place = follows operator at pointer w (node_gives operand (e.Unary operator pointer at) q w a) place (λ r. record { clear = is.clear; told = is.told })
  address_parts operand (e.Subscript array index at) q h is w a place =
      (λ r. record { clear = first_empty _ _ is.clear; told = first_told p _ _ is.told }, λ r. record { clear = second_empty _ _ is.clear; told = second_told p _ _ is.told })
  address_parts operand (e.«Expression::Name» name at) q h is w a place = known_place operand h w a place
  address_parts operand (e.Constant kind value at) q h is w a place = known_place operand h w a place
  address_parts operand (e.Text at) q h is w a place = known_place operand h w a place
  address_parts operand l q h is w a place = known_place operand h w a place

  unary_parts : (operator : UnaryOperator) (at : ℕ) (x operand : Expression) → out-Expression x ≡ e.Unary operator operand at → IsRight p x → NodeRight p (e.Unary operator operand at) → UnaryParts (rules_asked p) operator x operand
  unary_parts u.Address at x operand q h is =
      let has = has_its_type p tells x h in
      let a = address_gives at (answer_in operand) has.typed (node_gives x (e.Unary u.Address operand at) q has.typed has.answer) in
      let right : IsRight p operand = record { clear = is.clear; told = is.told } in
      address_parts operand (out-Expression operand) refl right (node_right p operand right) a.typed a.is a.place
  unary_parts u.Indirection at x operand q h is = lvalue_by x h (λ w a. (pointed_gives (layout_of (given_in p)) at (answer_in operand) w (node_gives x (e.Unary u.Indirection operand at) q w a)).placed.place)
  unary_parts operator at x operand q h is = λ r. record { clear = is.clear; told = is.told }

  -- ---- for the value

  value_parts : (x : Expression) (l : ExpressionNode) → out-Expression x ≡ l → (elim l as (λ _. Bool) [ e.Text at ↦ true | _ ↦ false ] ≡ false → IsRight p x)
      → (elim l as (λ _. Bool) [ e.Text at ↦ true | _ ↦ false ] ≡ false → NodeRight p l) → ValueParts (rules_asked p) x l
  value_parts x (e.«Expression::Name» name at) q h is = tt
  value_parts x (e.Constant kind value at) q h is = tt
  value_parts x (e.Text at) q h is = tt
  value_parts x (e.Subscript array index at) q h is =
      lvalue_by x (h refl) (λ w a. (subscript_gives (layout_of (given_in p)) at (answer_in array) (answer_in index) w (node_gives x (e.Subscript array index at) q w a)).placed.place)
  value_parts x (e.Call function arguments at) q h is = call_right p function arguments (out-Expression function) (is refl).clear (is refl).told
  value_parts x (e.Member object name at) q h is = lvalue_by x (h refl) (λ w a. (member_gives (layout_of (given_in p)) at name (answer_in object) w (node_gives x (e.Member object name at) q w a)).place)
  value_parts x (e.PointedMember pointer name at) q h is = lvalue_by x (h refl) (λ w a. pointed_member_gives (layout_of (given_in p)) at name (answer_in pointer) w (node_gives x (e.PointedMember pointer name at) q w a))
  value_parts x (e.Postfix step operand at) q h is =
      let has = has_its_type p tells x (h refl) in
      let s = step_gives (layout_of (given_in p)) at (λ y. at) (answer_in operand) has.typed (node_gives x (e.Postfix step operand at) q has.typed has.answer) in
      known_place operand (record { clear = (is refl).clear; told = (is refl).told }) s.typed s.is s.written_is.place
  value_parts x (e.Prefix step operand at) q h is =
      let has = has_its_type p tells x (h refl) in
      let s = step_gives (layout_of (given_in p)) at (λ y. y.ends_at) (answer_in operand) has.typed (node_gives x (e.Prefix step operand at) q has.typed has.answer) in
      known_place operand (record { clear = (is refl).clear; told = (is refl).told }) s.typed s.is s.written_is.place
  value_parts x (e.Unary operator operand at) q h is = unary_parts operator at x operand q (h refl) (is refl)
  value_parts x (e.SizeofExpression operand at) q h is = tt
  value_parts x (e.SizeofType type_name at) q h is = tt
  value_parts x (e.Cast type_name operand at) q h is = λ r. record { clear = second_empty _ _ (is refl).clear; told = second_told p _ _ (is refl).told }
  value_parts x (e.Binary operator left right at) q h is =
      (λ r. record { clear = first_empty _ _ (is refl).clear; told = first_told p _ _ (is refl).told }, λ r. record { clear = second_empty _ _ (is refl).clear; told = second_told p _ _ (is refl).told })
  value_parts x (e.Conditional test first otherwise at) q h is = (
    λ r. record { clear = first_empty _ _ (first_empty _ _ (is refl).clear); told = first_told p _ _ (first_told p _ _ (is refl).told) },
    (
      λ r. record { clear = second_empty _ _ (first_empty _ _ (is refl).clear); told = second_told p _ _ (first_told p _ _ (is refl).told) },
      λ r. record { clear = second_empty _ _ (is refl).clear; told = second_told p _ _ (is refl).told },
    ),
  )
  value_parts x (e.Assign operator target value at) q h is =
      let has = has_its_type p tells x (h refl) in
      let s = assign_gives (layout_of (given_in p)) operator at (answer_in target) (answer_in value) has.typed (node_gives x (e.Assign operator target value at) q has.typed has.answer) in (
        known_place target (record { clear = first_empty _ _ (is refl).clear; told = first_told p _ _ (is refl).told }) s.typed s.is s.written_is.place,
        λ r. record { clear = second_empty _ _ (is refl).clear; told = second_told p _ _ (is refl).told },
      )
  value_parts x (e.Comma parts at) q h is = parts_right p parts (is refl).clear (is refl).told

  -- ---- for the place

  place_parts : (x : Expression) (l : ExpressionNode) → out-Expression x ≡ l → IsLvalue p x → NodeRight p l → PlaceParts (rules_asked p) l
  place_parts x (e.Subscript array index at) q h is =
      (λ r. record { clear = first_empty _ _ is.clear; told = first_told p _ _ is.told }, λ r. record { clear = second_empty _ _ is.clear; told = second_told p _ _ is.told })
  place_parts x (e.Member object name at) q h is =
      let m = member_gives (layout_of (given_in p)) at name (answer_in object) h.typed (node_gives x (e.Member object name at) q h.typed h.answer) in
      known_place object (record { clear = is.clear; told = is.told }) m.operand m.is m.operand_place
  place_parts x (e.PointedMember pointer name at) q h is = λ r. record { clear = is.clear; told = is.told }
  place_parts x (e.Unary operator operand at) q h is = follows operator at operand h.typed (node_gives x (e.Unary operator operand at) q h.typed h.answer) h.place (λ r. record { clear = is.clear; told = is.told })
  place_parts x l q h is = tt

-- ---- initialisers

pub initialiser_finds : (p : Program) (x : Initialiser) → found_in_initialiser (answering (given_in p)) x
    ≡ initialiser_found (answering (given_in p)) (λ y. y.1) (map-Initialiser Initialiser (Initialiser × List AnswerAt) (λ y. (y, found_in_initialiser (answering (given_in p)) y)) (out-Initialiser x))
unfolding found_in_initialiser
initialiser_finds p x =
    ap (λ y. found_in_initialiser (answering (given_in p)) y) (sym (roll-out-Initialiser x))
    ∙ para-roll-Initialiser (List AnswerAt) (initialiser_found {I = Initialiser × List AnswerAt} (answering (given_in p)) (λ y. y.1)) (out-Initialiser x)

module _ (p : Program) where
  abbrev breaks_beside : Initialiser → Initialiser × (Initialised → List Pair)
  breaks_beside x = (x, broken_initialiser (given_in p) x)

  abbrev found_beside : Initialiser → Initialiser × List AnswerAt
  found_beside x = (x, found_in_initialiser (answering (given_in p)) x)

  abbrev Found : List Initialiser → Type 0
  Found xs = AreTold p (of_each (λ (x : Initialiser × List AnswerAt). x.1) (map found_beside xs))

  -- elements of one type
  elements_right : (y : Initialised) (t : CType) (part : ℕ) (xs : List Initialiser) → ((k : ℕ) → IsOfPart y.ctype (part_type p t k)) → elements (λ x. x.1) y (map breaks_beside xs) ≡ [] → Found xs → PartsRight p t part xs
  elements_right y t part [] f h d = tt
  elements_right y t part (x ∷ xs) f h d =
      (record { object = y; typed = f part; clear = first_empty _ _ h; told = first_told p _ _ d }, elements_right y t (part + 1) xs f (second_empty _ _ h) (second_told p _ _ d))

  member_of : (m : Option CType) → IsOfPart m (or_else void m)
  member_of None = inr (refl, tt)
  member_of (Some t) = inl refl

  found_at : (ms more : List Member) (n : ℕ) (m : Member) → drop n ms ≡ m ∷ more → slice_get ms n ≡ Some m
  found_at [] more zero m q = absurd (cc)
  found_at [] more (suc n) m q = absurd (cc)
  found_at (k ∷ ms) more zero m q = cc
  found_at (k ∷ ms) more (suc n) m q = found_at ms more n m q

  past : (ms more : List Member) (n : ℕ) (m : Member) → drop n ms ≡ m ∷ more → drop (n + 1) ms ≡ more
  past [] more zero m e = absurd (cc)
  past [] more (suc n) m e = absurd (cc)
  past (k ∷ ms) more zero m e = cc
  past (k ∷ ms) more (suc n) m e = let q : suc n + 1 ≡ suc (n + 1) = omega arith in ap (λ i. drop i (k ∷ ms)) q ∙ past ms more n m e

  -- members, from this one on
  members_right : (y : Initialised) (t : CType) (n : ℕ) → shape_of t ≡ shape.Struct n → (part : ℕ) (ms : List Member) → drop part (members_of p.names.structs n) ≡ ms → (xs : List Initialiser)
      → members (λ x. x.1) y (member_types ms) (map breaks_beside xs) ≡ [] → Found xs → PartsRight p t part xs
  members_right y t n e part ms q [] h d = tt
  members_right y t n e part [] q (x ∷ xs) h d = absurd (cc)
  members_right y t n e part (m ∷ ms) q (x ∷ xs) h d =
      let same : part_type p t part ≡ or_else void m.ctype = ap (λ s. part_type_by p s t part) e ∙ ap (λ i. type_of_member i) (ap (λ s. slice_get (members_by p s) part) e ∙ found_at (members_of p.names.structs n) ms part m q) in (
        record { object = part_of y y.first m.ctype; typed = subst (IsOfPart m.ctype) (sym same) (member_of m.ctype); clear = first_empty _ _ h; told = first_told p _ _ d },
        members_right y t n e (part + 1) ms (past (members_of p.names.structs n) ms part m q) xs (second_empty _ _ h) (second_told p _ _ d),
      )

  inner_unsized : (ds : List Derivation) (b : Base) → IsUnsized (shape_by ds b) → IsUnsized (shape_by (without_outermost ds) b)
  inner_unsized [] b h = h
  inner_unsized (Derived.Pointer c ∷ rest) b h = absurd h
  inner_unsized (Derived.Array n ∷ rest) b h = absurd h

  part_unsized : (t : CType) (s : Shape) (part : ℕ) → shape_of t ≡ s → IsUnsized s → IsUnsized (shape_of (part_type_by p s t part))
  part_unsized t shape.Void part e h = inner_unsized t.derived t.base (subst IsUnsized (sym e) h)
  part_unsized t (shape.Function n) part e h = inner_unsized t.derived t.base (subst IsUnsized (sym e) h)
  part_unsized t _ part e h = absurd h

  shaped_right : (y : Initialised) (first : ℕ) (s : Shape) (t : CType) (xs : List Initialiser) → shape_of t ≡ s → parts_by (given_in p) (λ x. x.1) y first s t (map breaks_beside xs) ≡ [] → Found xs → PartsRight p t 0 xs
  shaped_right y first (shape.Array n) t xs e h d =
      elements_right _ t 0 xs (λ k. inl (ap (λ s. Some (part_type_by p s t k)) (sym e))) (second_empty _ _ h) d
  shaped_right y first (shape.Struct n) t xs e h d = members_right (part_of y first None) t n e 0 (members_of p.names.structs n) refl xs h d
  shaped_right y first (shape.Function n) t xs e h d = elements_right _ t 0 xs (λ k. inr (refl, subst (λ s. IsUnsized (shape_of (part_type_by p s t k))) (sym e) (part_unsized t (shape.Function n) k e tt))) h d
  shaped_right y first shape.Void t xs e h d = elements_right _ t 0 xs (λ k. inr (refl, subst (λ s. IsUnsized (shape_of (part_type_by p s t k))) (sym e) (part_unsized t shape.Void k e tt))) h d
  shaped_right y first (shape.Integer kind) t xs e h d = absurd (cc)
  shaped_right y first shape.Pointer t xs e h d = absurd (cc)

  braced_right : (y : Initialised) (first : ℕ) (m : Option CType) (t : CType) (xs : List Initialiser) → IsOfPart m t → parts_pairs (given_in p) (λ x. x.1) y first m (map breaks_beside xs) ≡ [] → Found xs → PartsRight p t 0 xs
  braced_right y first None t xs (inl e) h d = absurd (cc)
  braced_right y first None t xs (inr e) h d = elements_right _ t 0 xs (λ k. inr (refl, part_unsized t (shape_of t) k refl e.1)) h d
  braced_right y first (Some k) t xs (inl e) h d = let same : k ≡ t = cc in subst (λ z. PartsRight p z 0 xs) same (shaped_right y first (shape_of k) k xs refl h d)
  braced_right y first (Some k) t xs (inr e) h d = let q = e.0 in absurd (cc)

  one_right : (b : Bool) (x : Expression) (q : Pair) (more : List Pair) → cond b (q ∷ []) (broken_value (given_in p) x is_used ++ more) ≡ [] → AreTold p (of_expression (answering (given_in p)) x false) → IsEvaluated p x
  one_right true x q more h t = absurd (cc)
  one_right false x q more h t = λ r. record { clear = first_empty _ _ (first_empty _ _ h); told = t }

  initialiser_parts : (number offset : ℕ) (t : CType) (l : Initialiser-F Initialiser) (y : Initialised) → IsOfPart y.ctype t
      → initialiser_pairs (given_in p) (λ x. x.1) (map-Initialiser Initialiser (Initialiser × (Initialised → List Pair)) breaks_beside l) y ≡ []
      → AreTold p (initialiser_found (answering (given_in p)) (λ x. x.1) (map-Initialiser Initialiser (Initialiser × List AnswerAt) found_beside l)) → InitialiserParts (rules_asked p) number offset t l
  initialiser_parts number offset t (i.Value x at) y o h d = one_right (is_text x && holds is_array y.ctype) x _ _ h d
  initialiser_parts number offset t (i.Braces xs at) y o h d = braced_right y (at + 1) y.ctype t xs o h d

  -- of a whole object
  object_by : (equals : ℕ) (o : Option RulesObject) → IsOfPart (object_initialised equals o).ctype (object_type_by o)
  object_by equals None = inr (refl, tt)
  object_by equals (Some o) = member_of o.ctype

-- ---- all of it

pub rules_kept : (p : Program) → Tell p.names → IsKept p (rules_asked p)
rules_kept p tells = record {
  value = λ x h. value_parts p tells x (out-Expression x) refl h (λ q. node_right p x (h q));
  place = λ x h. place_parts p tells x (out-Expression x) refl h (node_right p x h.right);
  initialiser = λ number offset t x h. initialiser_parts p number offset t (out-Initialiser x) h.object h.typed (sym (initialiser_breaks (given_in p) x h.object) ∙ h.clear) (subst (AreTold p) (initialiser_finds p x) h.told);
  parts = λ number offset t part x xs h. (h.0, h.1);
  full = λ x h t q. record { clear = h; told = t };
  whole = λ number equals x h t. record { object = initialised_at p.names equals (Some (meaning.Object number)); typed = object_by p equals (slice_get p.names.objects number); clear = h; told = t };
}
