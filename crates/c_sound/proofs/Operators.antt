-- The types of the results of operators.
use Rattle.std.specs.Prelude.{IsTrue}
use Rattle.std.proofs.Common.{◌≡◌, ℕ, nat_eq, Bool, true, false, not, ◌&&◌, ◌||◌, cond, Option, Some, None, refl, ap, sym, subst, ◌∙◌}
use Rattle.c_tree.specs.declared.expression.BinaryOperator.{BinaryOperator}
use Rattle.c_tree.specs.declared.expression.BinaryOperator.TheVariants as b
use Rattle.c_tree.specs.declared.expression.UnaryOperator.{UnaryOperator}
use Rattle.kv_num.specs.declared.types.IntType.{IntType}
use Rattle.kv_num.specs.declared.types.IntType.TheVariants.{Int}
use Rattle.c_kinds.specs.declared.types.CType.{CType}
use Rattle.c_kinds.specs.declared.types.Shape.{Shape}
use Rattle.c_kinds.specs.declared.types.Shape.TheVariants as shape
use Rattle.c_kinds.specs.declared.typed.Typed.{Typed}
use Rattle.c_kinds.specs.declared.answer.Answer.{Answer}
use Rattle.c_kinds.specs.declared.answer.Answer.TheVariants.{Gives}
use Rattle.c_kinds.specs.Casts.{cast_if, cast_by, breaks_star, integer_zero, is_bool, where_true, with_null, two_arms, arms_type, conditional_by, composite_pointer}
use Rattle.c_kinds.specs.Integers.{promoted, size_type}
use Rattle.c_kinds.specs.Layouts.{Layout, size_in_bytes}
use Rattle.c_kinds.specs.Operands.{family, pointer_and_integer, integer_and_pointer, two_pointers, binary_by, binary_answer, arithmetic, negation, truth_at, are_comparable, size_answer, sizeof_type_answer}
use Rattle.c_kinds.specs.Types.{shape_of, is_array_shape, is_array, is_pointer_shape, is_pointer, is_scalar, alike, unqualified}
use Rattle.c_rules.specs.declared.names.Meaning.{Meaning}
use Rattle.c_rules.specs.declared.names.Meaning.TheVariants as meaning
use Rattle.c_rules.specs.declared.program.Program.{Program}
use Rattle.c_rules.specs.Typing.{cast_to, sizeof_named}
use Rattle.c_model.specs.Programs.{types_of}
use Rattle.c_heads.specs.Sound.{IsScalarShape}
use Rattle.c_heads.specs.Typed.{mixed_shape, binary_shape, ConvertsBy, ConvertsTo}
use Rattle.c_sound.proofs.Shapes.{decayed_shape, shape_with, IsPlain, plain_converts, plain_result, same_structs, no_array_result}
use Rattle.c_sound.proofs.Rights.{unless_gives}
use Rattle.c_sound.proofs.Inverse.{needs_gives, IsResult, resulted, same_typed}

-- a result with this outermost part of its type; it is no place
pub record ShapeResult (w : Typed) (s : Shape) : Type 0 where
  pub shape : shape_of w.ctype ≡ s
  pub no_place : w.is_place ≡ false

shaped : (v w : Typed) (s : Shape) → Gives v ≡ Gives w → shape_of v.ctype ≡ s → v.is_place ≡ false → ShapeResult w s
shaped v w s e q h = let same = same_typed v w e in record { shape = subst (λ (x : Typed). shape_of x.ctype ≡ s) same q; no_place = subst (λ (x : Typed). x.is_place ≡ false) same h }

-- ---- two operands

-- the operators that two pointers, or a pointer and an integer, may have
module _ (l : Layout) (at : ℕ) where
  with_integer : (op : BinaryOperator) (p n y w : Typed) → shape_of p.ctype ≡ shape.Pointer → pointer_and_integer l op at (family op) p n y ≡ Gives w → ShapeResult w (mixed_shape op)
  with_integer b.Add p n y w s h = shaped _ w shape.Pointer (needs_gives l at p _ w h) s refl
  with_integer b.Subtract p n y w s h = shaped _ w shape.Pointer (needs_gives l at p _ w h) s refl
  with_integer b.Equal p n y w s h = shaped _ w _ (unless_gives (not n.is_null) 12 at (truth_at at y) w h).gives refl refl
  with_integer b.NotEqual p n y w s h = shaped _ w _ (unless_gives (not n.is_null) 12 at (truth_at at y) w h).gives refl refl
  with_integer b.LogicalAnd p n y w s h = shaped _ w _ h refl refl
  with_integer b.LogicalOr p n y w s h = shaped _ w _ h refl refl
  with_integer _ p n y w s h = absurd (cc)

  of_integer : (op : BinaryOperator) (x y w : Typed) → shape_of y.ctype ≡ shape.Pointer → integer_and_pointer l op at x y ≡ Gives w → ShapeResult w (mixed_shape op)
  of_integer b.Subtract x y w s h = absurd (cc)
  of_integer b.Add x y w s h = with_integer b.Add y x y w s h
  of_integer b.Equal x y w s h = with_integer b.Equal y x y w s h
  of_integer b.NotEqual x y w s h = with_integer b.NotEqual y x y w s h
  of_integer b.LogicalAnd x y w s h = with_integer b.LogicalAnd y x y w s h
  of_integer b.LogicalOr x y w s h = with_integer b.LogicalOr y x y w s h
  of_integer _ x y w s h = absurd (cc)

  of_pointers : (op : BinaryOperator) (x y w : Typed) → two_pointers at (family op) x y ≡ Gives w → ShapeResult w (mixed_shape op)
  of_pointers b.Equal x y w h = shaped _ w _ (unless_gives (not (are_comparable x y)) 12 at (truth_at at y) w h).gives refl refl
  of_pointers b.NotEqual x y w h = shaped _ w _ (unless_gives (not (are_comparable x y)) 12 at (truth_at at y) w h).gives refl refl
  of_pointers b.LogicalAnd x y w h = shaped _ w _ h refl refl
  of_pointers b.LogicalOr x y w h = shaped _ w _ h refl refl
  of_pointers _ x y w h = absurd (cc)

  binary_of : (op : BinaryOperator) (s other : Shape) (x y w : Typed) → shape_of x.ctype ≡ s → shape_of y.ctype ≡ other → binary_by l op at s other x y ≡ Gives w → ShapeResult w (binary_shape op s other)
  binary_of op (shape.Integer j) (shape.Integer k) x y w e f h = shaped _ w _ h refl refl
  binary_of op shape.Pointer (shape.Integer k) x y w e f h = with_integer op x y y w e h
  binary_of op (shape.Integer j) shape.Pointer x y w e f h = of_integer op x y w f h
  binary_of op shape.Pointer shape.Pointer x y w e f h = of_pointers op x y w h
  binary_of op _ _ x y w e f h = absurd (cc)

  scalar_of : (op : BinaryOperator) (s other : Shape) (x y w : Typed) → binary_by l op at s other x y ≡ Gives w → IsScalarShape s
  scalar_of op (shape.Integer j) other x y w h = tt
  scalar_of op shape.Pointer other x y w h = tt
  scalar_of op (shape.Array n) other x y w h = absurd (cc)
  scalar_of op (shape.Struct n) other x y w h = absurd (cc)
  scalar_of op (shape.Function n) other x y w h = absurd (cc)
  scalar_of op shape.Void other x y w h = absurd (cc)

  pub binary_gives : (op : BinaryOperator) (x y w : Typed) → binary_answer l op at x y ≡ Gives w → ShapeResult w (binary_shape op (shape_of x.ctype) (shape_of y.ctype))
  binary_gives op x y w h = binary_of op (shape_of x.ctype) (shape_of y.ctype) x y w refl refl h

  pub binary_scalar : (op : BinaryOperator) (x y w : Typed) → binary_answer l op at x y ≡ Gives w → IsScalarShape (shape_of x.ctype)
  binary_scalar op x y w h = scalar_of op (shape_of x.ctype) (shape_of y.ctype) x y w h

-- operands that were arrays are pointers
pub binary_decays : (op : BinaryOperator) (s other : Shape) → binary_shape op (decayed_shape s) (decayed_shape other) ≡ binary_shape op s other
binary_decays op (shape.Integer j) (shape.Integer k) = refl
binary_decays op (shape.Integer j) (shape.Array n) = refl
binary_decays op (shape.Integer j) shape.Pointer = refl
binary_decays op (shape.Integer j) (shape.Struct n) = refl
binary_decays op (shape.Integer j) (shape.Function n) = refl
binary_decays op (shape.Integer j) shape.Void = refl
binary_decays op (shape.Array n) other = refl
binary_decays op shape.Pointer other = refl
binary_decays op (shape.Struct n) other = refl
binary_decays op (shape.Function n) other = refl
binary_decays op shape.Void other = refl

-- ---- one operand

pub record ArithmeticGives (s : Shape) (w : Typed) : Type 0 where
  pub kind : IntType
  pub operand : s ≡ shape.Integer kind
  pub result : shape_of w.ctype ≡ shape.Integer (promoted kind)
  pub no_place : w.is_place ≡ false

pub arithmetic_gives : (op : UnaryOperator) (at : ℕ) (s : Shape) (v w : Typed) → arithmetic op at s v ≡ Gives w → ArithmeticGives s w
arithmetic_gives op at (shape.Integer kind) v w h = let r = resulted _ w _ h refl refl in record { kind = kind; operand = refl; result = ap shape_of r.ctype; no_place = r.no_place }
arithmetic_gives op at (shape.Array n) v w h = absurd (cc)
arithmetic_gives op at (shape.Struct n) v w h = absurd (cc)
arithmetic_gives op at (shape.Function n) v w h = absurd (cc)
arithmetic_gives op at shape.Pointer v w h = absurd (cc)
arithmetic_gives op at shape.Void v w h = absurd (cc)

pub record NegationGives (w : Typed) : Type 0 where
  pub result : shape_of w.ctype ≡ shape.Integer Int
  pub no_place : w.is_place ≡ false

pub negation_gives : (at : ℕ) (v w : Typed) → negation at v ≡ Gives w → NegationGives w
negation_gives at v w h = let r = resulted _ w _ (unless_gives (not (is_scalar v.ctype)) 12 at _ w h).gives refl refl in record { result = ap shape_of r.ctype; no_place = r.no_place }

pub size_gives : (l : Layout) (at ends : ℕ) (n : Option ℕ) (w : Typed) → size_answer l at ends n ≡ Gives w → ShapeResult w (shape.Integer (size_type l.model))
size_gives l at ends None w h = absurd (cc)
size_gives l at ends (Some n) w h = shaped _ w _ h refl refl

sized_by : (l : Layout) (at : ℕ) (star : Option ℕ) (t : CType) (w : Typed) → sizeof_type_answer l at star t ≡ Gives w → ShapeResult w (shape.Integer (size_type l.model))
sized_by l at None t w h = size_gives l at at (size_in_bytes l.model t) w h
sized_by l at (Some star) t w h = absurd (cc)

pub named_size_gives : (l : Layout) (at : ℕ) (m : Option Meaning) (w : Typed) → sizeof_named l at m ≡ Gives w → ShapeResult w (shape.Integer (size_type l.model))
named_size_gives l at (Some (meaning.Type (Some t) star)) w h = sized_by l at star t w h
named_size_gives l at (Some (meaning.Type None star)) w h = absurd (cc)
named_size_gives l at _ w h = absurd (cc)

-- ---- casts

record CastOf (s : Shape) (t : CType) (w : Typed) : Type 0 where
  plain : IsPlain s
  result : IsResult w (unqualified t)

allowed_cast : (allowed : Bool) (at : ℕ) (t : CType) (v w : Typed) → cast_if allowed at t v ≡ Gives w → IsResult w (unqualified t)
allowed_cast allowed at t v w h = resulted _ w (unqualified t) (unless_gives (not allowed) 15 at _ w h).gives refl refl

cast_shape : (s other : Shape) (at : ℕ) (t : CType) (v w : Typed) → cast_by s other at t v ≡ Gives w → CastOf s t w
cast_shape (shape.Array n) other at t v w h = absurd (cc)
cast_shape (shape.Function n) other at t v w h = absurd (cc)
cast_shape (shape.Struct n) shape.Void at t v w h = absurd (cc)
cast_shape (shape.Struct n) _ at t v w h = absurd (cc)
cast_shape shape.Void (shape.Struct n) at t v w h = absurd (cc)
cast_shape shape.Void _ at t v w h = record { plain = tt; result = allowed_cast true at t v w h }
cast_shape (shape.Integer kind) (shape.Struct n) at t v w h = absurd (cc)
cast_shape (shape.Integer kind) shape.Void at t v w h = absurd (cc)
cast_shape (shape.Integer kind) (shape.Integer k) at t v w h = record { plain = tt; result = allowed_cast true at t v w h }
cast_shape (shape.Integer kind) _ at t v w h = record { plain = tt; result = allowed_cast (is_bool kind) at t v w h }
cast_shape shape.Pointer (shape.Struct n) at t v w h = absurd (cc)
cast_shape shape.Pointer shape.Void at t v w h = absurd (cc)
cast_shape shape.Pointer (shape.Integer k) at t v w h = record { plain = tt; result = allowed_cast v.is_null at t v w h }
cast_shape shape.Pointer _ at t v w h = record { plain = tt; result = allowed_cast (alike t v.ctype || v.is_null) at t v w h }

starred : (star : Option ℕ) (v : Typed) (x : Answer) (w : Typed) → breaks_star star v x ≡ Gives w → x ≡ Gives w
starred None v x w h = h
starred (Some star) v x w h = (unless_gives (not (integer_zero v)) 9 star x w h).gives

pub record CastGives (w : Typed) : Type 0 where
  pub plain : IsPlain (shape_of w.ctype)
  pub no_place : w.is_place ≡ false

plain_with : (t : CType) (w : Typed) → CastOf (shape_of t) t w → CastGives w
plain_with t w h = let P : Shape → Type 0 = λ s. IsPlain s in record { plain = subst P (sym (ap shape_of h.result.ctype ∙ shape_with false t)) h.plain; no_place = h.result.no_place }

pub cast_gives : (at : ℕ) (m : Option Meaning) (v w : Typed) → cast_to at m v ≡ Gives w → CastGives w
cast_gives at (Some (meaning.Type (Some t) star)) v w h = plain_with t w (cast_shape (shape_of t) (shape_of v.ctype) at t v w (starred star v _ w h))
cast_gives at (Some (meaning.Type None star)) v w h = absurd (cc)
cast_gives at _ v w h = absurd (cc)

-- ---- choices

-- both arms convert to the common type
pub record ArmsConvert (p : Program) (t : CType) (x y : Typed) : Type 0 where
  pub first : (from : CType) → types_of p from ≡ types_of p x.ctype → ConvertsTo p t from
  pub other : (from : CType) → types_of p from ≡ types_of p y.ctype → ConvertsTo p t from
  pub result : IsTrue (not (is_array t))

module _ (p : Program) (x y : Typed) where
  plain_arms : (t : CType) → IsPlain (shape_of t) → ArmsConvert p t x y
  plain_arms t h = record { first = λ from e. plain_converts p t from h; other = λ from e. plain_converts p t from h; result = plain_result t h }

  same_type : (t u : CType) → Some t ≡ Some u → t ≡ u
  same_type t u e = cc

  plain_some : (t u : CType) → IsPlain (shape_of t) → Some t ≡ Some u → ArmsConvert p u x y
  plain_some t u h e = subst (λ z. ArmsConvert p z x y) (same_type t u e) (plain_arms t h)

  pointer_plain : (s : Shape) → is_pointer_shape s ≡ true → IsPlain s
  pointer_plain shape.Pointer e = tt
  pointer_plain _ e = absurd (cc)

  and_right : (a c : Bool) → (a && c) ≡ true → c ≡ true
  and_right true c e = e
  and_right false c e = absurd (cc)

  chosen_type : (c : Bool) (t u : CType) → where_true c t ≡ Some u → (c ≡ true) × (Some t ≡ Some u)
  chosen_type true t u e = (refl, e)
  chosen_type false t u e = absurd (cc)

  null_by : (c : Bool) (u : CType) → (y.is_null && is_pointer x.ctype) ≡ c → cond c (Some x.ctype) (where_true (x.is_null && is_pointer y.ctype) y.ctype) ≡ Some u → ArmsConvert p u x y
  null_by true u q e = plain_some x.ctype u (pointer_plain (shape_of x.ctype) (and_right y.is_null (is_pointer x.ctype) q)) e
  null_by false u q e =
      let one = chosen_type (x.is_null && is_pointer y.ctype) y.ctype u e in
      plain_some y.ctype u (pointer_plain (shape_of y.ctype) (and_right x.is_null (is_pointer y.ctype) one.0)) one.1

  nulls : (u : CType) → with_null x y ≡ Some u → ArmsConvert p u x y
  nulls u e = null_by (y.is_null && is_pointer x.ctype) u refl e

  pointers : (c : Bool) (u : CType) → cond c (Some (composite_pointer x.ctype y.ctype)) (with_null x y) ≡ Some u → ArmsConvert p u x y
  pointers true u e = plain_some (composite_pointer x.ctype y.ctype) u tt e
  pointers false u e = nulls u e

  struct_arms : (n m : ℕ) → shape_of x.ctype ≡ shape.Struct n → shape_of y.ctype ≡ shape.Struct m → nat_eq n m ≡ true → ArmsConvert p x.ctype x y
  struct_arms n m e f q =
      let P : Shape → CType → Type 0 = λ s from. ConvertsBy p s x.ctype from in
      record {
        first = λ from h. subst (λ s. P s from) (sym e) h;
        other = λ from h. subst (λ s. P s from) (sym e) (h ∙ same_structs p x.ctype y.ctype n m e f q);
        result = no_array_result x.ctype (ap is_array_shape e);
      }

  arms_by : (s other : Shape) (u : CType) → shape_of x.ctype ≡ s → shape_of y.ctype ≡ other → two_arms s other x y ≡ Some u → ArmsConvert p u x y
  arms_by (shape.Integer k) (shape.Integer l) u e f h = plain_some _ u tt h
  arms_by (shape.Struct n) (shape.Struct m) u e f h =
      let one = chosen_type (nat_eq n m) x.ctype u h in
      subst (λ z. ArmsConvert p z x y) (same_type x.ctype u one.1) (struct_arms n m e f one.0)
  arms_by shape.Void shape.Void u e f h = plain_some _ u tt h
  arms_by shape.Pointer shape.Pointer u e f h = pointers (alike x.ctype y.ctype) u h
  arms_by _ _ u e f h = nulls u h

  chosen_gives : (at : ℕ) (test w : Typed) (m : Option CType) → conditional_by at test x y m ≡ Gives w → m ≡ Some w.ctype
  chosen_gives at test w None h = absurd (cc)
  chosen_gives at test w (Some t) h = ap Some (sym (resulted _ w t h refl refl).ctype)

  pub arms_convert : (at : ℕ) (test w : Typed) → conditional_by at test x y (arms_type x y) ≡ Gives w → ArmsConvert p w.ctype x y
  arms_convert at test w h = arms_by (shape_of x.ctype) (shape_of y.ctype) w.ctype refl refl (chosen_gives at test w (arms_type x y) h)

pub choice_no_place : (at : ℕ) (test x y w : Typed) (m : Option CType) → conditional_by at test x y m ≡ Gives w → w.is_place ≡ false
choice_no_place at test x y w None h = absurd (cc)
choice_no_place at test x y w (Some t) h = (resulted _ w t h refl refl).no_place
