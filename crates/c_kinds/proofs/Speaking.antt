-- Each operator has a result, or breaks a rule.
use Rattle.std.proofs.Common.{ℕ, Bool, true, false, Option, Some, None, not, refl}
use Rattle.c_tree.specs.declared.expression.BinaryOperator.{BinaryOperator}
use Rattle.c_tree.specs.declared.expression.BinaryOperator.TheVariants as binary
use Rattle.c_tree.specs.declared.expression.UnaryOperator.{UnaryOperator}
use Rattle.c_tree.specs.declared.expression.UnaryOperator.TheVariants as unary
use Rattle.c_tree.specs.declared.expression.AssignOperator.{AssignOperator}
use Rattle.c_kinds.specs.declared.types.Shape.{Shape}
use Rattle.c_kinds.specs.declared.types.Shape.TheVariants as shape
use Rattle.c_kinds.specs.declared.types.CType.{CType}
use Rattle.c_kinds.specs.declared.typed.Typed.{Typed}
use Rattle.c_kinds.specs.Types.{shape_of, is_rows, is_scalar, is_integer}
use Rattle.c_kinds.specs.Layouts.{Layout, size_in_bytes}
use Rattle.c_kinds.specs.declared.answer.Answer.{Answer}
use Rattle.c_kinds.specs.declared.answer.Answer.TheVariants.{Gives, Breaks, Nothing}
use Rattle.c_kinds.specs.Values.{unless, and_then, value}
use Rattle.c_kinds.specs.declared.family.Family.{Family}
use Rattle.c_kinds.specs.declared.family.Family.TheVariants.{OnIntegers, Additive, Shift, Relational, Equality, Logical}
use Rattle.c_kinds.specs.Operands.{family, needs_cells, pointer_and_integer, two_pointers, integer_and_pointer, binary_by, arithmetic, indirection, unary_answer, size_answer, sizeof_type_answer}
use Rattle.c_kinds.specs.Casts.{cast_by, breaks_star, plain_operator, assigned, assign_answer, steps, arms_type, conditional_by}
use Rattle.c_kinds.specs.Elements.{subscript_by}
use Rattle.c_kinds.specs.Laws.{Speaks, OperatorsSpeak}

pub speaks_unless : (b : Bool) (rule at : ℕ) (x : Answer) → Speaks x → Speaks (unless b rule at x)
speaks_unless true rule at x e = refl
speaks_unless false rule at x e = e

pub speaks_then : (x : Answer) (f : Typed → Answer) → Speaks x → ((v : Typed) → Speaks (f v)) → Speaks (and_then x f)
speaks_then (Gives v) f e h = h v
speaks_then (Breaks rule at) f e h = refl
speaks_then Nothing f e h = e

of_values : (l : Layout) (x : Typed) → Speaks (value l x)
of_values l x = search speaks_unless

of_cells : (l : Layout) (at : ℕ) (p : Typed) (x : Answer) → Speaks x → Speaks (needs_cells l at p x)
of_cells l at p x e = search (speaks_unless, e)

moved_pointer : (l : Layout) (operator : BinaryOperator) (at : ℕ) (f : Family) (p n y : Typed) → Speaks (pointer_and_integer l operator at f p n y)
moved_pointer l operator at OnIntegers p n y = refl
moved_pointer l operator at Additive p n y = search of_cells
moved_pointer l operator at Shift p n y = refl
moved_pointer l operator at Relational p n y = refl
moved_pointer l operator at Equality p n y = search speaks_unless
moved_pointer l operator at Logical p n y = refl

both_pointers : (at : ℕ) (f : Family) (x y : Typed) → Speaks (two_pointers at f x y)
both_pointers at OnIntegers x y = refl
both_pointers at Additive x y = refl
both_pointers at Shift x y = refl
both_pointers at Relational x y = refl
both_pointers at Equality x y = search speaks_unless
both_pointers at Logical x y = refl

integer_first : (l : Layout) (operator : BinaryOperator) (at : ℕ) (x y : Typed) → Speaks (integer_and_pointer l operator at x y)
integer_first l binary.Subtract at x y = refl
integer_first l binary.LogicalOr at x y = refl
integer_first l binary.LogicalAnd at x y = refl
integer_first l binary.BitOr at x y = refl
integer_first l binary.BitXor at x y = refl
integer_first l binary.BitAnd at x y = refl
integer_first l binary.Equal at x y = search speaks_unless
integer_first l binary.NotEqual at x y = search speaks_unless
integer_first l binary.Less at x y = refl
integer_first l binary.Greater at x y = refl
integer_first l binary.LessEqual at x y = refl
integer_first l binary.GreaterEqual at x y = refl
integer_first l binary.ShiftLeft at x y = refl
integer_first l binary.ShiftRight at x y = refl
integer_first l binary.Add at x y = search of_cells
integer_first l binary.Multiply at x y = refl
integer_first l binary.Divide at x y = refl
integer_first l binary.Remainder at x y = refl

by_shapes : (l : Layout) (operator : BinaryOperator) (at : ℕ) (s t : Shape) (x y : Typed) → Speaks (binary_by l operator at s t x y)
by_shapes l operator at (shape.Integer j) (shape.Integer k) x y = refl
by_shapes l operator at shape.Pointer (shape.Integer k) x y = moved_pointer l operator at (family operator) x y y
by_shapes l operator at (shape.Integer k) shape.Pointer x y = integer_first l operator at x y
by_shapes l operator at shape.Pointer shape.Pointer x y = both_pointers at (family operator) x y
by_shapes l operator at _ _ x y = refl

of_arithmetic : (operator : UnaryOperator) (at : ℕ) (s : Shape) (x : Typed) → Speaks (arithmetic operator at s x)
of_arithmetic operator at (shape.Integer k) x = refl
of_arithmetic operator at _ x = refl

of_indirection : (l : Layout) (at : ℕ) (s : Shape) (x : Typed) → Speaks (indirection l at s x)
of_indirection l at shape.Pointer x = search of_cells
of_indirection l at _ x = refl

of_unary : (l : Layout) (operator : UnaryOperator) (at : ℕ) (x : Typed) → Speaks (unary_answer l operator at x)
of_unary l unary.Indirection at x = of_indirection l at (shape_of x.ctype) x
of_unary l unary.Not at x = search speaks_unless
of_unary l unary.Address at x = of_arithmetic unary.Address at (shape_of x.ctype) x
of_unary l unary.Plus at x = of_arithmetic unary.Plus at (shape_of x.ctype) x
of_unary l unary.Minus at x = of_arithmetic unary.Minus at (shape_of x.ctype) x
of_unary l unary.Complement at x = of_arithmetic unary.Complement at (shape_of x.ctype) x

of_size : (l : Layout) (at ends_at : ℕ) (n : Option ℕ) → Speaks (size_answer l at ends_at n)
of_size l at ends_at None = refl
of_size l at ends_at (Some n) = refl

of_sizeof_type : (l : Layout) (at : ℕ) (star : Option ℕ) (t : CType) → Speaks (sizeof_type_answer l at star t)
of_sizeof_type l at (Some star) t = refl
of_sizeof_type l at None t = of_size l at at (size_in_bytes l.model t)

of_cast_by : (s t : Shape) (at : ℕ) (u : CType) (v : Typed) → Speaks (cast_by s t at u v)
of_cast_by (shape.Array n) _ at u v = refl
of_cast_by (shape.Function n) _ at u v = refl
of_cast_by (shape.Struct n) shape.Void at u v = refl
of_cast_by (shape.Struct n) _ at u v = refl
of_cast_by _ (shape.Struct n) at u v = refl
of_cast_by shape.Void _ at u v = refl
of_cast_by _ shape.Void at u v = refl
of_cast_by (shape.Integer k) (shape.Integer l) at u v = refl
of_cast_by (shape.Integer k) _ at u v = search speaks_unless
of_cast_by shape.Pointer (shape.Integer l) at u v = search speaks_unless
of_cast_by shape.Pointer _ at u v = search speaks_unless

of_star : (star : Option ℕ) (v : Typed) (x : Answer) → Speaks x → Speaks (breaks_star star v x)
of_star None v x e = e
of_star (Some star) v x e = search (speaks_unless, e)

of_assigned : (l : Layout) (operator : Option BinaryOperator) (at : ℕ) (target v : Typed) → Speaks (assigned l operator at target v)
of_assigned l None at target v = refl
of_assigned l (Some operator) at target v = speaks_then (value l target) _ (of_values l target) (λ old. by_shapes l operator at (shape_of old.ctype) (shape_of v.ctype) old v)

of_assign : (l : Layout) (operator : AssignOperator) (at : ℕ) (target v : Typed) → Speaks (assign_answer l operator at target v)
of_assign l operator at target v =
    speaks_then (assigned l (plain_operator operator) at target v) _ (of_assigned l (plain_operator operator) at target v) (λ made. search speaks_unless)

of_steps : (l : Layout) (at : ℕ) (s : Shape) (x : Typed) (a : Answer) → Speaks a → Speaks (steps l at s x a)
of_steps l at (shape.Integer k) x a e = e
of_steps l at shape.Pointer x a e = of_cells l at x a e
of_steps l at (shape.Array n) x a e = search (speaks_unless, e)
of_steps l at _ x a e = refl

of_arms : (at : ℕ) (test x y : Typed) (t : Option CType) → Speaks (conditional_by at test x y t)
of_arms at test x y None = refl
of_arms at test x y (Some t) = refl

of_subscript : (l : Layout) (at : ℕ) (s : Shape) (a i : Typed) → Speaks (subscript_by l at s a i)
of_subscript l at (shape.Array n) a i = refl
of_subscript l at shape.Pointer a i = search of_cells
of_subscript l at _ a i = refl

pub operators_speak : OperatorsSpeak
operators_speak = record {
  of_values = of_values;
  of_binary = λ l operator at x y. by_shapes l operator at (shape_of x.ctype) (shape_of y.ctype) x y;
  of_unary = of_unary;
  of_address = λ at x. search speaks_unless;
  of_sizeof = λ l at x. of_size l at x.ends_at (size_in_bytes l.model x.ctype);
  of_sizeof_type = of_sizeof_type;
  of_cast = λ at star t v. of_star star v _ (of_cast_by (shape_of t) (shape_of v.ctype) at t v);
  of_assign = of_assign;
  of_step = λ l at ends_at x. of_steps l at (shape_of x.ctype) x _ (search speaks_unless);
  of_conditional = λ at test x y. speaks_unless (not (is_scalar test.ctype)) 12 at _ (of_arms at test x y (arms_type x y));
  of_comma = λ at v. refl;
  of_subscript = λ l at a i. speaks_unless (not (is_integer i.ctype)) 12 at _ (of_subscript l at (shape_of a.ctype) a i);
}
