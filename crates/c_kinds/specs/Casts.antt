-- Casts, assignments and choices (6.5.4, 6.5.15 to 6.5.17). Sections are those of ISO/IEC 9899:2011.
use Rattle.std.specs.Prelude.{ℕ, nat_eq, Bool, true, false, not, ◌&&◌, ◌||◌, Option, Some, None, if◌then◌else◌}
use Rattle.kv_num.specs.declared.types.IntType.{IntType}
use Rattle.kv_num.specs.declared.types.IntType.TheVariants.{Bool as B}
use Rattle.c_tree.specs.declared.expression.BinaryOperator.{BinaryOperator}
use Rattle.c_tree.specs.declared.expression.BinaryOperator.TheVariants as binary
use Rattle.c_tree.specs.declared.expression.AssignOperator.{AssignOperator}
use Rattle.c_tree.specs.declared.expression.AssignOperator.TheVariants as assign
use Rattle.c_kinds.specs.declared.types.Shape.{Shape}
use Rattle.c_kinds.specs.declared.types.Shape.TheVariants as shape
use Rattle.c_kinds.specs.declared.types.CType.{CType}
use Rattle.c_kinds.specs.declared.typed.Fixed.{Fixed}
use Rattle.c_kinds.specs.declared.typed.Fixed.TheVariants.{Varies, Number, Null}
use Rattle.c_kinds.specs.declared.typed.Typed.{Typed}
use Rattle.c_kinds.specs.Types.{integer, void, shape_of, inner, pointer_to, const_of, also_const, unqualified, alike, is_integer, is_pointer, is_scalar, is_array, is_rows}
use Rattle.c_kinds.specs.Integers.{usual, converted}
use Rattle.c_kinds.specs.Constants.{of_one, chosen_integer, chosen_pointer}
use Rattle.c_kinds.specs.Layouts.{Layout, has_const}
use Rattle.c_kinds.specs.declared.answer.Answer.{Answer}
use Rattle.c_kinds.specs.declared.answer.Answer.TheVariants.{Gives, Breaks}
use Rattle.c_kinds.specs.Values.{and_then, unless, result, value, is_void_pointer}
use Rattle.c_kinds.specs.Operands.{needs_cells, binary_answer}

-- ---- casts (6.5.4)

abbrev pub is_bool : IntType → Bool
is_bool B = true
is_bool _ = false

-- a constant converted to the type (6.3.1.3, 6.3.2.3p3)
abbrev pub converted_constant : Shape → Fixed → Fixed
converted_constant (shape.Integer k) x = of_one x (λ n. Number (converted k n))
converted_constant shape.Pointer (Number n) = Null
converted_constant shape.Pointer x = x
converted_constant _ x = Varies

abbrev pub integer_zero : Typed → Bool
integer_zero v = is_integer v.ctype && v.is_null

-- 0 cast to `void *` is a null pointer constant (6.3.2.3p3)
abbrev pub cast_result : ℕ → CType → Typed → Typed
cast_result at t v =
    let made = result (unqualified t) (converted_constant (shape_of t) v.fixed) at v.ends_at in
    record made { is_null = made.is_null || (is_void_pointer t && integer_zero v) }

abbrev pub cast_if : Bool → ℕ → CType → Typed → Answer
cast_if allowed at t v = unless (not allowed) 15 at (Gives (cast_result at t v))

-- to the first shape from the second
abbrev pub cast_by : Shape → Shape → ℕ → CType → Typed → Answer
cast_by (shape.Array n) _ at t v = Breaks 12 at
cast_by (shape.Function n) _ at t v = Breaks 12 at
cast_by (shape.Struct n) shape.Void at t v = Breaks 12 at
cast_by (shape.Struct n) _ at t v = Breaks 15 at
cast_by _ (shape.Struct n) at t v = Breaks 15 at
cast_by shape.Void _ at t v = cast_if true at t v
cast_by _ shape.Void at t v = Breaks 12 at
cast_by (shape.Integer k) (shape.Integer l) at t v = cast_if true at t v
cast_by (shape.Integer k) _ at t v = cast_if (is_bool k) at t v
cast_by shape.Pointer (shape.Integer l) at t v = cast_if v.is_null at t v
cast_by shape.Pointer _ at t v = cast_if (alike t v.ctype || v.is_null) at t v

abbrev pub breaks_star : Option ℕ → Typed → Answer → Answer
breaks_star None v answer = answer
breaks_star (Some star) v answer = unless (not (integer_zero v)) 9 star answer

-- a value cast to the type, at the `(`; `star` is the `*` of a pointer that only a 0 is cast to
abbrev pub cast_answer : ℕ → Option ℕ → CType → Typed → Answer
cast_answer at star t v = breaks_star star v (cast_by (shape_of t) (shape_of v.ctype) at t v)

-- ---- assignments (6.5.16, 6.5.2.4, 6.5.3.1)

-- a modifiable lvalue (6.3.2.1p1)
abbrev pub is_writable : Layout → Typed → Bool
is_writable l x = x.is_place && not (is_array x.ctype || has_const l.structs x.ctype)

-- the plain operator of a compound assignment (6.5.16.2p3)
abbrev pub plain_operator : AssignOperator → Option BinaryOperator
plain_operator assign.Plain = None
plain_operator assign.Multiply = Some binary.Multiply
plain_operator assign.Divide = Some binary.Divide
plain_operator assign.Remainder = Some binary.Remainder
plain_operator assign.Add = Some binary.Add
plain_operator assign.Subtract = Some binary.Subtract
plain_operator assign.ShiftLeft = Some binary.ShiftLeft
plain_operator assign.ShiftRight = Some binary.ShiftRight
plain_operator assign.BitAnd = Some binary.BitAnd
plain_operator assign.BitXor = Some binary.BitXor
plain_operator assign.BitOr = Some binary.BitOr

-- what is assigned: the value v, or the operator's result from the target's old value and v
abbrev pub assigned : Layout → Option BinaryOperator → ℕ → Typed → Typed → Answer
assigned l None at target v = Gives v
assigned l (Some operator) at target v = and_then (value l target) (λ old. binary_answer l operator at old v)

-- of a target and a value: first the operator's operands, then whether the target may be written
abbrev pub assign_answer : Layout → AssignOperator → ℕ → Typed → Typed → Answer
assign_answer l operator at target v = and_then (assigned l (plain_operator operator) at target v) (λ made.
    unless (not (is_writable l target)) 14 at (Gives (result (unqualified target.ctype) Varies at v.ends_at)))

-- whether a value may be assigned to an object of the type (6.5.16.1p1)
abbrev pub fits_by : Shape → Shape → CType → Typed → Bool
fits_by (shape.Integer k) (shape.Integer l) t v = true
fits_by shape.Pointer (shape.Integer l) t v = v.is_null
fits_by shape.Pointer shape.Pointer t v = alike t v.ctype || v.is_null
fits_by (shape.Struct n) (shape.Struct m) t v = nat_eq n m
fits_by _ _ t v = false

abbrev pub fits : CType → Typed → Bool
fits t v = fits_by (shape_of t) (shape_of v.ctype) t v

-- what is assigned doesn't fit the target: the assignment has its type nevertheless
abbrev pub assigns_misfit : Layout → AssignOperator → ℕ → Typed → Typed → Bool
assigns_misfit l operator at target v = elim (assigned l (plain_operator operator) at target v) as (λ _. Bool) [ Gives made ↦ not (fits target.ctype made) | _ ↦ false ]

-- `++` and `--` take an integer, or a pointer that is moved; an array isn't written
abbrev pub steps : Layout → ℕ → Shape → Typed → Answer → Answer
steps l at (shape.Integer k) x answer = answer
steps l at shape.Pointer x answer = needs_cells l at x answer
steps l at (shape.Array n) x answer = unless (is_rows x.ctype) 9 x.named_at answer
steps l at _ x answer = Breaks 12 at

abbrev pub step_answer : Layout → ℕ → ℕ → Typed → Answer
step_answer l at ends_at x = steps l at (shape_of x.ctype) x (unless (not (is_writable l x)) 14 at (Gives (result (unqualified x.ctype) Varies x.named_at ends_at)))

-- ---- choices (6.5.15)

abbrev pub points_to_const : CType → Bool
points_to_const t = const_of (inner t)

-- a pointer to what either points to, const where either is (6.5.15p6)
abbrev pub composite_pointer : CType → CType → CType
composite_pointer t u = pointer_to (also_const (points_to_const u) (inner t))

abbrev pub where_true : Bool → CType → Option CType
where_true true t = Some t
where_true false t = None

-- a null pointer constant takes the other's type
abbrev pub with_null : Typed → Typed → Option CType
with_null x y = if y.is_null && is_pointer x.ctype then Some x.ctype else where_true (x.is_null && is_pointer y.ctype) y.ctype

abbrev pub two_arms : Shape → Shape → Typed → Typed → Option CType
two_arms (shape.Integer k) (shape.Integer l) x y = Some (integer (usual k l))
two_arms (shape.Struct n) (shape.Struct m) x y = where_true (nat_eq n m) x.ctype
two_arms shape.Void shape.Void x y = Some void
two_arms shape.Pointer shape.Pointer x y = if alike x.ctype y.ctype then Some (composite_pointer x.ctype y.ctype) else with_null x y
two_arms _ _ x y = with_null x y

-- the common type of the two arms (6.5.15p3 to p6)
abbrev pub arms_type : Typed → Typed → Option CType
arms_type x y = two_arms (shape_of x.ctype) (shape_of y.ctype) x y

abbrev pub chosen : Shape → Fixed → Fixed → Fixed → Fixed
chosen (shape.Integer k) test x y = chosen_integer test x y
chosen shape.Pointer test x y = chosen_pointer test x y
chosen _ test x y = Varies

abbrev pub conditional_by : ℕ → Typed → Typed → Typed → Option CType → Answer
conditional_by at test x y None = Breaks 12 at
conditional_by at test x y (Some t) = Gives (result t (converted_constant (shape_of t) (chosen (shape_of t) test.fixed x.fixed y.fixed)) at y.ends_at)

-- of three values, at the `?`
abbrev pub conditional_answer : ℕ → Typed → Typed → Typed → Answer
conditional_answer at test x y = unless (not (is_scalar test.ctype)) 12 at (conditional_by at test x y (arms_type x y))

-- ---- sequences (6.5.17): the value of the last part, at the first comma; it is no constant (6.6p3)

abbrev pub comma_answer : ℕ → Typed → Answer
comma_answer at v = Gives (record v { is_null = false; fixed = Varies; named_at = at })
