-- Worked examples: what the tables say of particular types and operands. Sections are those of ISO/IEC 9899:2011.
use Rattle.std.specs.Prelude.{◌≡◌, ℕ, pos, negsuc, Bool, true, false, [], ◌∷◌, Some, None}
use Rattle.kv_num.specs.declared.types.IntType.TheVariants.{Bool as B, Char, UChar, Short, Int, UInt, Long32, ULong32, Long, ULong, LongLong, ULongLong}
use Rattle.c_tokens.specs.declared.data_model.DataModel.TheVariants.{Lp64, Ilp32}
use Rattle.c_tree.specs.declared.expression.BinaryOperator.{BinaryOperator}
use Rattle.c_tree.specs.declared.expression.BinaryOperator.TheVariants as binary
use Rattle.c_tree.specs.declared.expression.UnaryOperator.TheVariants as unary
use Rattle.c_tree.specs.declared.expression.AssignOperator.TheVariants as assign
use Rattle.c_kinds.specs.declared.types.Derivation.TheVariants.{Array}
use Rattle.c_kinds.specs.declared.types.Base.TheVariants as base
use Rattle.c_kinds.specs.declared.types.CellType.TheVariants as cell
use Rattle.c_kinds.specs.declared.types.CType.{CType}
use Rattle.c_kinds.specs.declared.types.Struct.{Struct}
use Rattle.c_kinds.specs.declared.typed.Fixed.{Fixed}
use Rattle.c_kinds.specs.declared.typed.Fixed.TheVariants as constant
use Rattle.c_kinds.specs.declared.typed.Typed.{Typed}
use Rattle.c_kinds.specs.Types.{integer, void, pointer_to, derived_from, plain, const_of, also_const, alike, same}
use Rattle.c_kinds.specs.Integers.{promoted, usual, converted, size_type}
use Rattle.c_kinds.specs.Layouts.{Layout, size_in_bytes, cell_count, cell_types, is_incomplete}
use Rattle.c_kinds.specs.Constants.{binary_value, chosen_integer, chosen_pointer}
use Rattle.c_kinds.specs.declared.answer.Answer.{Answer}
use Rattle.c_kinds.specs.declared.answer.Answer.TheVariants.{Gives, Breaks}
use Rattle.c_kinds.specs.Values.{value, result, place, and_then}
use Rattle.c_kinds.specs.Operands.{binary_answer, unary_answer, address_answer, sizeof_answer, sizeof_type_answer}
use Rattle.c_kinds.specs.Casts.{cast_answer, assign_answer, assigns_misfit, step_answer, conditional_answer, fits}
use Rattle.c_kinds.specs.Elements.{subscript_answer, member_answer, pointed_member_answer}

-- ---- conversions of integers (6.3.1)

pub record WorkedConversions : Type 0 where
  pub chars_are_ints : usual Char UChar ≡ Int
  pub unsigned_and_long : usual UInt Long ≡ Long
  -- where long has 32 bits it doesn't represent every unsigned int
  pub unsigned_and_long_of_32_bits : usual UInt Long32 ≡ ULong32
  pub long_long_and_unsigned_long : usual LongLong ULong ≡ ULongLong
  pub bool_is_promoted : promoted B ≡ Int
  pub unsigned_stays : promoted UInt ≡ UInt
  pub two_as_bool : converted B (pos 2) ≡ pos 1
  pub minus_one_as_char : converted UChar (negsuc 0) ≡ pos 255

-- ---- integer constant expressions (6.6)

pub record WorkedConstants : Type 0 where
  -- `1/0`
  pub division_by_zero : binary_value binary.Divide Int (constant.Number (pos 1)) (constant.Number (pos 0)) ≡ constant.NoValue
  -- `1<<31`
  pub shift_into_the_sign : binary_value binary.ShiftLeft Int (constant.Number (pos 1)) (constant.Number (pos 31)) ≡ constant.NoValue
  -- `1u<<31`
  pub shift_of_unsigned : binary_value binary.ShiftLeft UInt (constant.Number (pos 1)) (constant.Number (pos 31)) ≡ constant.Number (pos 2147483648)
  -- `1||1/0`
  pub decided_by_the_left : binary_value binary.LogicalOr Int (constant.Number (pos 1)) constant.NoValue ≡ constant.Number (pos 1)
  -- `0&&n`
  pub no_constant_by_form : binary_value binary.LogicalAnd Int (constant.Number (pos 0)) constant.Varies ≡ constant.Varies
  -- `-1<0u`
  pub less_as_unsigned : binary_value binary.Less UInt (constant.Number (negsuc 0)) (constant.Number (pos 0)) ≡ constant.Number (pos 0)
  -- `2147483647+1`
  pub overflow : binary_value binary.Add Int (constant.Number (pos 2147483647)) (constant.Number (pos 1)) ≡ constant.NoValue
  -- `1?2:1/0`
  pub arm_not_taken : chosen_integer (constant.Number (pos 1)) (constant.Number (pos 2)) constant.NoValue ≡ constant.Number (pos 2)
  -- `1?2:n` is none, `1?&a:q` is one
  pub integer_arm_varies : chosen_integer (constant.Number (pos 1)) (constant.Number (pos 2)) constant.Varies ≡ constant.Varies
  pub pointer_arm_varies : chosen_pointer (constant.Number (pos 1)) (constant.At 0 0) constant.Varies ≡ constant.At 0 0

-- ---- types, sizes and cells

abbrev pub array_of : ℕ → CType → CType
array_of n t = derived_from (Array n) t

abbrev pub int : CType
int = integer Int

abbrev pub const_int : CType
const_int = also_const true int

abbrev pub struct_type : ℕ → CType
struct_type n = plain (base.Struct n)

-- `struct {int a; char b[2];}`, which ends at token 9
abbrev pub pair_of_two : Struct
pair_of_two = record {
  members = record { name = 97 ∷ []; ctype = Some int; cell = 0 } ∷ record { name = 98 ∷ []; ctype = Some (array_of 2 (integer Char)); cell = 1 } ∷ [];
  completed_at = Some 9;
  cells = 3;
  has_const = false;
}

-- a tag that is declared and not completed
abbrev pub open_struct : Struct
open_struct = record { members = []; completed_at = None; cells = 0; has_const = false }

-- number 0 is the struct of two members, number 1 isn't complete; object 0 is `struct .. t[1]`, object 1 `int m[2][3]`
abbrev pub some_layout : Layout
some_layout = record {
  structs = pair_of_two ∷ open_struct ∷ [];
  objects = Some (array_of 1 (struct_type 0)) ∷ Some (array_of 2 (array_of 3 int)) ∷ [];
  model = Lp64;
}

pub record WorkedSizes : Type 0 where
  -- `int *a[3]`
  pub array_of_pointers : size_in_bytes Lp64 (array_of 3 (pointer_to int)) ≡ Some 24
  pub size_of_64_bits : size_type Lp64 ≡ ULong
  pub size_of_32_bits : size_type Ilp32 ≡ UInt
  pub with_pointers_of_32_bits : size_in_bytes Ilp32 (array_of 3 (pointer_to int)) ≡ Some 12
  pub of_a_struct : size_in_bytes Lp64 (array_of 3 (struct_type 0)) ≡ None
  pub of_void : size_in_bytes Lp64 void ≡ None
  pub cells_of_rows : cell_count some_layout.structs (array_of 2 (struct_type 0)) ≡ 6
  pub cells_in_order : cell_types some_layout.structs (struct_type 0) ≡ cell.Integer Int ∷ cell.Integer Char ∷ cell.Integer Char ∷ []
  pub complete_behind_its_end : is_incomplete some_layout.structs 10 (struct_type 0) ≡ false
  pub incomplete_inside : is_incomplete some_layout.structs 9 (struct_type 0) ≡ true

pub record WorkedTypes : Type 0 where
  -- a member array of a const struct has const elements
  pub const_elements : const_of (also_const true (array_of 3 int)) ≡ true
  -- `const int *` and `int *` fit each other, and aren't the same
  pub alike_but_for_const : alike (pointer_to const_int) (pointer_to int) ≡ true
  pub not_the_same : same (pointer_to const_int) (pointer_to int) ≡ false
  pub char_is_not_signed_char : alike (pointer_to (integer Char)) (pointer_to (integer UChar)) ≡ false

-- ---- operators: x at token 20, the operator at 21, y at 22

-- an object in a body, which is no constant
abbrev pub variable : CType → ℕ → Typed
variable t at = place t constant.Varies constant.Varies at at

abbrev pub number : ℕ → ℕ → Typed
number n at = result int (constant.Number (pos n)) at at

abbrev pub of_values : Typed → Typed → (Typed → Typed → Answer) → Answer
of_values x y f = and_then (value some_layout x) (λ v. and_then (value some_layout y) (λ w. f v w))

abbrev pub binary_on : BinaryOperator → Typed → Typed → Answer
binary_on operator x y = of_values x y (λ v w. binary_answer some_layout operator 21 v w)

-- `(void *)0`, and `(const void *)0`
abbrev pub void_null : Answer
void_null = cast_answer 20 (Some 22) (pointer_to void) (number 0 24)

abbrev pub const_void_null : Answer
const_void_null = cast_answer 20 (Some 23) (pointer_to (also_const true void)) (number 0 25)

abbrev pub fits_int_pointer : Answer → Bool
fits_int_pointer (Gives v) = fits (pointer_to int) v
fits_int_pointer _ = false

pub record WorkedOperators : Type 0 where
  pub char_plus_unsigned : binary_on binary.Add (variable (integer Char) 20) (variable (integer UInt) 22) ≡ Gives (result (integer UInt) constant.Varies 21 22)
  pub comparison_is_an_int : binary_on binary.Less (variable (integer Long) 20) (number 3 22) ≡ Gives (result int constant.Varies 21 22)
  pub shift_has_the_left_type : binary_on binary.ShiftLeft (variable (integer Short) 20) (variable (integer Long) 22) ≡ Gives (result int constant.Varies 21 22)
  pub array_plus_integer : binary_on binary.Add (variable (array_of 3 int) 20) (number 1 22) ≡ Gives (result (pointer_to int) constant.Varies 21 22)
  pub integer_minus_pointer : binary_on binary.Subtract (number 1 20) (variable (pointer_to int) 22) ≡ Breaks 12 21
  pub pointers_are_not_subtracted : binary_on binary.Subtract (variable (pointer_to int) 20) (variable (pointer_to int) 22) ≡ Breaks 12 21
  pub pointer_is_null : binary_on binary.Equal (variable (pointer_to int) 20) (number 0 22) ≡ Gives (result int constant.Varies 21 22)
  pub pointer_is_one : binary_on binary.Equal (variable (pointer_to int) 20) (number 1 22) ≡ Breaks 12 21
  -- an array of arrays has no value: the rule is broken at its name
  pub rows_as_a_value : binary_on binary.Add (variable (array_of 2 (array_of 3 int)) 20) (number 1 22) ≡ Breaks 9 20
  pub struct_as_an_operand : binary_on binary.Add (variable (struct_type 0) 20) (number 1 22) ≡ Breaks 12 21
  pub incomplete_as_a_value : binary_on binary.Add (variable (struct_type 1) 20) (number 1 22) ≡ Breaks 10 20
  pub pointer_to_incomplete_moves : binary_on binary.Add (variable (pointer_to (struct_type 1)) 20) (number 1 22) ≡ Breaks 10 20
  pub two_pointers_to_incomplete : binary_on binary.Subtract (variable (pointer_to (struct_type 1)) 20) (variable (pointer_to (struct_type 1)) 22) ≡ Breaks 12 21
  pub minus_of_a_pointer : unary_answer some_layout unary.Minus 21 (result (pointer_to int) constant.Varies 22 22) ≡ Breaks 12 21
  pub not_of_a_pointer : unary_answer some_layout unary.Not 21 (result (pointer_to int) constant.Varies 22 22) ≡ Gives (result int constant.Varies 21 22)
  pub address_of_an_array : address_answer 21 (variable (array_of 3 int) 22) ≡ Breaks 9 22
  pub address_of_a_number : address_answer 21 (number 3 22) ≡ Breaks 14 21
  pub sizeof_an_array : sizeof_answer some_layout 21 (variable (array_of 3 int) 22) ≡ Gives (result (integer ULong) (constant.Number (pos 12)) 21 22)
  pub sizeof_a_struct : sizeof_answer some_layout 21 (variable (struct_type 0) 22) ≡ Breaks 16 21
  pub sizeof_a_void_pointer : sizeof_type_answer some_layout 21 (Some 24) (pointer_to void) ≡ Breaks 9 24

pub record WorkedAssignments : Type 0 where
  pub array_is_not_written : assign_answer some_layout assign.Plain 21 (variable (array_of 3 int) 20) (number 1 22) ≡ Breaks 14 21
  pub array_is_not_stepped : step_answer some_layout 21 21 (variable (array_of 3 int) 20) ≡ Breaks 14 21
  pub const_is_not_written : assign_answer some_layout assign.Plain 21 (variable const_int 20) (number 1 22) ≡ Breaks 14 21
  pub number_is_not_written : assign_answer some_layout assign.Plain 21 (number 1 20) (result (pointer_to int) constant.Varies 22 22) ≡ Breaks 14 21
  -- `x += p` takes the operands of +, and its result doesn't fit x
  pub sum_does_not_fit : assigns_misfit some_layout assign.Add 21 (variable int 20) (result (pointer_to int) constant.Varies 22 22) ≡ true
  pub null_fits_a_pointer : fits (pointer_to int) (number 0 22) ≡ true
  pub void_null_fits : fits_int_pointer void_null ≡ true
  pub const_void_null_does_not : fits_int_pointer const_void_null ≡ false
  -- `1?(void*)0:(void*)0` is no null pointer constant by its form
  pub chosen_null_does_not : fits_int_pointer (and_then void_null (λ v. conditional_answer 21 (number 1 20) v v)) ≡ false
  -- `(void*)(void*)0`
  pub null_is_cast_once : and_then void_null (λ v. cast_answer 16 (Some 18) (pointer_to void) v) ≡ Breaks 9 18
  pub pointer_as_int : cast_answer 20 None int (result (pointer_to int) constant.Varies 22 22) ≡ Breaks 15 20
  pub pointer_as_bool : cast_answer 20 None (integer B) (result (pointer_to int) constant.Varies 22 22) ≡ Gives (result (integer B) constant.Varies 20 22)
  pub struct_as_void : cast_answer 20 None void (result (struct_type 0) constant.Varies 22 22) ≡ Breaks 15 20
  pub void_as_int : cast_answer 20 None int (result void constant.Varies 22 22) ≡ Breaks 12 20
  pub void_as_struct : cast_answer 20 None (struct_type 0) (result void constant.Varies 22 22) ≡ Breaks 12 20
  pub int_as_struct : cast_answer 20 None (struct_type 0) (number 1 22) ≡ Breaks 15 20

-- the static object t is `struct {int a; char b[2];} t[1]`, and m is `int m[2][3]`
abbrev pub static_t : Typed
static_t = place (array_of 1 (struct_type 0)) (constant.At 0 0) (constant.At 0 0) 20 20

abbrev pub static_m : Typed
static_m = place (array_of 2 (array_of 3 int)) (constant.At 1 0) (constant.At 1 0) 20 20

abbrev pub address_in : Answer → Fixed
address_in (Gives x) = x.address
address_in _ = constant.Varies

pub record WorkedAddresses : Type 0 where
  -- `t[0].b`, and `t+1` followed to a member, which is outside
  pub member_of_an_element : address_in (and_then (subscript_answer some_layout 21 static_t (number 0 22)) (member_answer some_layout 24 (98 ∷ []))) ≡ constant.At 0 1
  pub member_one_past : address_in (and_then (binary_on binary.Add static_t (number 1 22)) (pointed_member_answer some_layout 24 (98 ∷ []))) ≡ constant.Breaks
  -- `&m[1][3]` stays in m, though it is past its row; `&m[2][0]` breaks the bounds of `m[2]`
  pub past_a_row : address_in (and_then (subscript_answer some_layout 21 static_m (number 1 22)) (λ row. subscript_answer some_layout 24 row (number 3 25))) ≡ constant.At 1 6
  pub past_the_rows : address_in (and_then (subscript_answer some_layout 21 static_m (number 2 22)) (λ row. subscript_answer some_layout 24 row (number 0 25))) ≡ constant.Breaks
  pub no_such_member : and_then (subscript_answer some_layout 21 static_t (number 0 22)) (member_answer some_layout 24 (99 ∷ [])) ≡ Breaks 3 25
  -- `q[1/0]` of a pointer variable q varies
  pub varies_first : address_in (subscript_answer some_layout 21 (variable (pointer_to int) 20) (result int constant.NoValue 22 22)) ≡ constant.Varies
