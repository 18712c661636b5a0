-- What operators with one and with two operands give (6.5.3 to 6.5.14). Sections are those of ISO/IEC 9899:2011.
use Rattle.std.specs.Prelude.{ℕ, neg_ℤ, pos, Bool, not, ◌||◌, Option, Some, None}
use Rattle.kv_num.specs.declared.types.IntType.{IntType}
use Rattle.kv_num.specs.declared.types.IntType.TheVariants.{Int}
use Rattle.kv_num.specs.IntType.{wrap_of}
use Rattle.c_tree.specs.declared.expression.BinaryOperator.{BinaryOperator}
use Rattle.c_tree.specs.declared.expression.BinaryOperator.TheVariants as binary
use Rattle.c_tree.specs.declared.expression.UnaryOperator.{UnaryOperator}
use Rattle.c_tree.specs.declared.expression.UnaryOperator.TheVariants as unary
use Rattle.c_kinds.specs.declared.family.Family.{Family}
use Rattle.c_kinds.specs.declared.family.Family.TheVariants.{OnIntegers, Additive, Shift, Relational, Equality, Logical}
use Rattle.c_kinds.specs.declared.types.Shape.{Shape}
use Rattle.c_kinds.specs.declared.types.Shape.TheVariants as shape
use Rattle.c_kinds.specs.declared.types.CType.{CType}
use Rattle.c_kinds.specs.declared.typed.Fixed.{Fixed}
use Rattle.c_kinds.specs.declared.typed.Fixed.TheVariants.{Varies, Number}
use Rattle.c_kinds.specs.declared.typed.Typed.{Typed}
use Rattle.c_kinds.specs.Types.{integer, shape_of, inner, pointer_to, is_scalar, is_void, is_array, alike}
use Rattle.c_kinds.specs.Integers.{promoted, usual, size_type}
use Rattle.c_kinds.specs.Constants.{of_one, binary_value, unary_operation}
use Rattle.c_kinds.specs.Addresses.{moved, followed}
use Rattle.c_kinds.specs.Layouts.{Layout, size_in_bytes, is_incomplete}
use Rattle.c_kinds.specs.declared.answer.Answer.{Answer}
use Rattle.c_kinds.specs.declared.answer.Answer.TheVariants.{Gives, Breaks}
use Rattle.c_kinds.specs.Values.{unless, result, place}

-- ---- families of operators: what the standard says of one holds for all of a family

abbrev pub family : BinaryOperator → Family
family binary.Multiply = OnIntegers
family binary.Divide = OnIntegers
family binary.Remainder = OnIntegers
family binary.BitAnd = OnIntegers
family binary.BitXor = OnIntegers
family binary.BitOr = OnIntegers
family binary.Add = Additive
family binary.Subtract = Additive
family binary.ShiftLeft = Shift
family binary.ShiftRight = Shift
family binary.Less = Relational
family binary.Greater = Relational
family binary.LessEqual = Relational
family binary.GreaterEqual = Relational
family binary.Equal = Equality
family binary.NotEqual = Equality
family binary.LogicalAnd = Logical
family binary.LogicalOr = Logical

-- the type in which an operation on two integers is done: that of a shift is the promoted left operand's (6.5.7p3)
abbrev pub operation_type : Family → IntType → IntType → IntType
operation_type Shift k l = promoted k
operation_type _ k l = usual k l

-- the type of its result: comparisons and truths are ints (6.5.8p6, 6.5.9p3, 6.5.13p3)
abbrev pub result_type : Family → IntType → IntType → IntType
result_type Relational k l = Int
result_type Equality k l = Int
result_type Logical k l = Int
result_type f k l = operation_type f k l

-- ---- pointers that are moved and followed

-- a pointer to void is neither moved nor followed, one to a struct only where the struct is complete (6.5.6p2, 6.5.3.2p2)
abbrev pub needs_cells : Layout → ℕ → Typed → Answer → Answer
needs_cells l at p answer = unless (is_void (inner p.ctype)) 12 at (unless (is_incomplete l.structs p.ends_at (inner p.ctype)) 10 p.named_at answer)

-- an index or a distance, counted down for `-`
abbrev pub distance : BinaryOperator → Fixed → Fixed
distance binary.Subtract n = of_one n (λ i. Number (neg_ℤ i))
distance _ n = n

-- ---- two operands, each a value: x stands before the operator, y after it

abbrev pub two_integers : BinaryOperator → ℕ → IntType → IntType → Typed → Typed → Answer
two_integers operator at k l x y =
    Gives (result (integer (result_type (family operator) k l)) (binary_value operator (operation_type (family operator) k l) x.fixed y.fixed) at y.ends_at)

-- a comparison or a truth of pointers is no constant
abbrev pub truth_at : ℕ → Typed → Answer
truth_at at y = Gives (result (integer Int) Varies at y.ends_at)

-- a pointer p and an integer n, in any order; y is the later one (6.5.6p2, 6.5.9p2)
abbrev pub pointer_and_integer : Layout → BinaryOperator → ℕ → Family → Typed → Typed → Typed → Answer
pointer_and_integer l operator at Additive p n y = needs_cells l at p (Gives (result p.ctype (moved l (inner p.ctype) p.fixed (distance operator n.fixed)) at y.ends_at))
pointer_and_integer l operator at Equality p n y = unless (not n.is_null) 12 at (truth_at at y)
pointer_and_integer l operator at Logical p n y = truth_at at y
pointer_and_integer l operator at _ p n y = Breaks 12 at

-- pointers that fit each other, or one and a null pointer constant (6.5.9p2)
abbrev pub are_comparable : Typed → Typed → Bool
are_comparable x y = alike x.ctype y.ctype || (x.is_null || y.is_null)

abbrev pub two_pointers : ℕ → Family → Typed → Typed → Answer
two_pointers at Equality x y = unless (not (are_comparable x y)) 12 at (truth_at at y)
two_pointers at Logical x y = truth_at at y
two_pointers at _ x y = Breaks 12 at

-- no pointer is subtracted from an integer (6.5.6p3)
abbrev pub integer_and_pointer : Layout → BinaryOperator → ℕ → Typed → Typed → Answer
integer_and_pointer l binary.Subtract at x y = Breaks 12 at
integer_and_pointer l operator at x y = pointer_and_integer l operator at (family operator) y x y

abbrev pub binary_by : Layout → BinaryOperator → ℕ → Shape → Shape → Typed → Typed → Answer
binary_by l operator at (shape.Integer j) (shape.Integer k) x y = two_integers operator at j k x y
binary_by l operator at shape.Pointer (shape.Integer k) x y = pointer_and_integer l operator at (family operator) x y y
binary_by l operator at (shape.Integer k) shape.Pointer x y = integer_and_pointer l operator at x y
binary_by l operator at shape.Pointer shape.Pointer x y = two_pointers at (family operator) x y
binary_by l operator at _ _ x y = Breaks 12 at

abbrev pub binary_answer : Layout → BinaryOperator → ℕ → Typed → Typed → Answer
binary_answer l operator at x y = binary_by l operator at (shape_of x.ctype) (shape_of y.ctype) x y

-- ---- one operand

-- `+ - ~` promote an integer (6.5.3.3)
abbrev pub arithmetic : UnaryOperator → ℕ → Shape → Typed → Answer
arithmetic operator at (shape.Integer k) x = Gives (result (integer (promoted k)) (of_one x.fixed (λ n. unary_operation operator (promoted k) (wrap_of (promoted k) n))) at x.ends_at)
arithmetic operator at _ x = Breaks 12 at

-- `!` takes an integer or a pointer (6.5.3.3p5)
abbrev pub negation : ℕ → Typed → Answer
negation at x = unless (not (is_scalar x.ctype)) 12 at (Gives (result (integer Int) (of_one x.fixed (λ n. unary_operation unary.Not Int n)) at x.ends_at))

-- the place that a pointer leads to (6.5.3.2p4); `&*p` is p
abbrev pub pointed : Layout → ℕ → Typed → Answer
pointed l at p = needs_cells l at p (Gives (place (inner p.ctype) (followed l (inner p.ctype) p.fixed) p.fixed at p.ends_at))

abbrev pub indirection : Layout → ℕ → Shape → Typed → Answer
indirection l at shape.Pointer p = pointed l at p
indirection l at _ p = Breaks 12 at

-- of a value
abbrev pub unary_answer : Layout → UnaryOperator → ℕ → Typed → Answer
unary_answer l unary.Indirection at x = indirection l at (shape_of x.ctype) x
unary_answer l unary.Not at x = negation at x
unary_answer l operator at x = arithmetic operator at (shape_of x.ctype) x

-- `&` of an lvalue; a pointer to an array is left out (6.5.3.2p1)
abbrev pub address_answer : ℕ → Typed → Answer
address_answer at x = unless (is_array x.ctype) 9 x.named_at (unless (not x.is_place) 14 at (Gives (result (pointer_to x.ctype) x.address at x.ends_at)))

-- ---- sizes (6.5.3.4)

-- a size is an unsigned long, and wraps like one
abbrev pub size_answer : Layout → ℕ → ℕ → Option ℕ → Answer
size_answer l at ends_at None = Breaks 16 at
size_answer l at ends_at (Some bytes) = Gives (result (integer (size_type l.model)) (Number (wrap_of (size_type l.model) (pos bytes))) at ends_at)

-- the operand isn't evaluated, and an array stays an array
abbrev pub sizeof_answer : Layout → ℕ → Typed → Answer
sizeof_answer l at x = size_answer l at x.ends_at (size_in_bytes l.model x.ctype)

-- of a type name; `star` is the `*` of a pointer that is left out but in a cast of 0
abbrev pub sizeof_type_answer : Layout → ℕ → Option ℕ → CType → Answer
sizeof_type_answer l at (Some star) t = Breaks 9 star
sizeof_type_answer l at None t = size_answer l at at (size_in_bytes l.model t)
