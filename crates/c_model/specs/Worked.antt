-- Worked examples: what operators, pointers, conversions and checks give. Sections are those of ISO/IEC 9899:2011.
use Rattle.std.specs.Prelude.{◌≡◌, pos, negsuc, Bool, true, false, List, [], ◌∷◌, Some, None}
use Rattle.kv_num.specs.declared.types.IntType.TheVariants.{Bool as B, Char, UChar, Short, Int, UInt, Long}
use Rattle.c_tokens.specs.declared.data_model.DataModel.TheVariants.{Lp64}
use Rattle.c_tree.specs.declared.expression.BinaryOperator.TheVariants as b
use Rattle.c_tree.specs.declared.expression.Step.TheVariants.{Increment, Decrement}
use Rattle.c_tree.specs.declared.expression.UnaryOperator.TheVariants as u
use Rattle.c_kinds.specs.declared.types.CType.{CType}
use Rattle.c_kinds.specs.declared.types.Derivation.TheVariants.{Array}
use Rattle.c_kinds.specs.Types.{integer, void, pointer_to, derived_from}
use Rattle.c_rules.specs.declared.checks.CheckKind.TheVariants.{Assertion, ArrayBounds, Dereference, PointerArithmetic, Division, Shift, Overflow}
use Rattle.c_rules.specs.declared.checks.Checks.{Checks}
use Rattle.c_rules.specs.declared.checks.Goal.TheVariants.{All}
use Rattle.c_rules.specs.declared.names.Object.{Object as Declared}
use Rattle.c_rules.specs.declared.program.Program.{Program}
use Rattle.c_model.specs.declared.values.Object.{Object}
use Rattle.c_model.specs.declared.values.Outcome.TheVariants as outcome
use Rattle.c_model.specs.declared.values.Scalar.TheVariants.{Number, Null, Wild, Inside}
use Rattle.c_model.specs.Arithmetic.{operation, on_numbers, on_number}
use Rattle.c_model.specs.Configurations.{State, Unmet, Unassumed}
use Rattle.c_model.specs.KnownFunctions.{asserts, assumes}
use Rattle.c_model.specs.Moves.{giving, gives}
use Rattle.c_model.specs.Operators.{operate, moved_by, element_of, stepped, read}
use Rattle.c_model.specs.Store.{place_of, held, stored, followed, outlived, survivors}
use Rattle.c_model.specs.Values.{value_as}

-- whether overflow of signed and of unsigned types is checked
abbrev pub checking : Bool → Bool → Checks
checking signed unsigned = record { signed_overflow = signed; unsigned_overflow = unsigned; model = Lp64; goal = All }

-- no overflow is checked
abbrev pub unchecked : Checks
unchecked = checking false false

-- that of signed types is
abbrev pub signed : Checks
signed = checking true false

-- that of unsigned types is
abbrev pub unsigned : Checks
unsigned = checking false true

-- ---- arithmetic in a type (6.5.5 to 6.5.7)

pub record WorkedArithmetic : Type 0 where
  -- INT_MAX + 1, and one less
  pub sum_overflows : operation signed b.Add Int (pos 2147483647) (pos 1) ≡ outcome.Unmet Overflow
  pub sum_fits : operation signed b.Add Int (pos 2147483646) (pos 1) ≡ outcome.Gives (Number (pos 2147483647))
  pub sum_wraps : operation unchecked b.Add Int (pos 2147483647) (pos 1) ≡ outcome.Gives (Number (negsuc 2147483647))
  pub product_overflows : operation signed b.Multiply Int (pos 65536) (pos 65536) ≡ outcome.Unmet Overflow
  -- 0u - 1u, which only the check of unsigned types asks of
  pub difference_overflows : operation unsigned b.Subtract UInt (pos 0) (pos 1) ≡ outcome.Unmet Overflow
  pub difference_wraps : operation signed b.Subtract UInt (pos 0) (pos 1) ≡ outcome.Gives (Number (pos 4294967295))
  pub difference_fits : operation unsigned b.Subtract UInt (pos 1) (pos 1) ≡ outcome.Gives (Number (pos 0))
  pub signed_is_not_asked : operation unsigned b.Add Int (pos 2147483647) (pos 1) ≡ outcome.Gives (Number (negsuc 2147483647))
  -- 1 / 0, 1 % 0, -7 / 2, -7 % 2
  pub quotient_by_zero : operation unchecked b.Divide Int (pos 1) (pos 0) ≡ outcome.Unmet Division
  pub remainder_by_zero : operation unchecked b.Remainder Int (pos 1) (pos 0) ≡ outcome.Unmet Division
  pub quotient_is_truncated : operation signed b.Divide Int (negsuc 6) (pos 2) ≡ outcome.Gives (Number (negsuc 2))
  pub remainder_has_the_sign : operation signed b.Remainder Int (negsuc 6) (pos 2) ≡ outcome.Gives (Number (negsuc 0))
  -- INT_MIN / -1 and INT_MIN % -1
  pub least_quotient_overflows : operation signed b.Divide Int (negsuc 2147483647) (negsuc 0) ≡ outcome.Unmet Overflow
  pub least_quotient_wraps : operation unchecked b.Divide Int (negsuc 2147483647) (negsuc 0) ≡ outcome.Gives (Number (negsuc 2147483647))
  pub least_remainder_overflows : operation signed b.Remainder Int (negsuc 2147483647) (negsuc 0) ≡ outcome.Unmet Overflow
  pub least_remainder_is_zero : operation unchecked b.Remainder Int (negsuc 2147483647) (negsuc 0) ≡ outcome.Gives (Number (pos 0))

pub record WorkedShifts : Type 0 where
  pub negative_distance : operation unchecked b.ShiftRight Int (pos 1) (negsuc 0) ≡ outcome.Unmet Shift
  pub distance_of_the_width : operation unchecked b.ShiftLeft Int (pos 1) (pos 32) ≡ outcome.Unmet Shift
  pub distance_below_the_width : operation unchecked b.ShiftLeft Int (pos 1) (pos 31) ≡ outcome.Gives (Number (negsuc 2147483647))
  pub into_the_sign : operation signed b.ShiftLeft Int (pos 1) (pos 31) ≡ outcome.Unmet Overflow
  pub below_the_sign : operation signed b.ShiftLeft Int (pos 1) (pos 30) ≡ outcome.Gives (Number (pos 1073741824))
  pub of_a_negative_number : operation signed b.ShiftLeft Int (negsuc 0) (pos 1) ≡ outcome.Unmet Overflow
  -- an unsigned shift isn't asked to fit
  pub of_an_unsigned_number : operation unsigned b.ShiftLeft UInt (pos 3) (pos 31) ≡ outcome.Gives (Number (pos 2147483648))
  pub right_rounds_down : operation signed b.ShiftRight Int (negsuc 2) (pos 1) ≡ outcome.Gives (Number (negsuc 1))
  -- `1 << 4294967296`: the distance isn't converted to int
  pub distance_has_its_own_type : on_numbers unchecked b.ShiftLeft Int Long (Number (pos 1)) (Number (pos 4294967296)) ≡ outcome.Unmet Shift
  -- `x << 40` with a long x
  pub long_by_forty : on_numbers signed b.ShiftLeft Long Int (Number (pos 1)) (Number (pos 40)) ≡ outcome.Gives (Number (pos 1099511627776))
  -- `c << 31` with a char c
  pub promoted_char : on_numbers unchecked b.ShiftLeft Char Int (Number (pos 1)) (Number (pos 31)) ≡ outcome.Gives (Number (negsuc 2147483647))

-- ---- operands of integer types (6.3.1.1, 6.3.1.8, 6.5.3.3)

pub record WorkedOperands : Type 0 where
  -- two chars of 127 and 1
  pub chars_are_ints : on_numbers signed b.Add Char Char (Number (pos 127)) (Number (pos 1)) ≡ outcome.Gives (Number (pos 128))
  -- `-1 < 1u`, `-1 < 1`
  pub less_as_unsigned : on_numbers unchecked b.Less Int UInt (Number (negsuc 0)) (Number (pos 1)) ≡ outcome.Gives (Number (pos 0))
  pub less_as_signed : on_numbers unchecked b.Less Int Int (Number (negsuc 0)) (Number (pos 1)) ≡ outcome.Gives (Number (pos 1))
  -- `1 + 4294967295u`
  pub as_unsigned : on_numbers unsigned b.Add Int UInt (Number (pos 1)) (Number (pos 4294967295)) ≡ outcome.Unmet Overflow
  -- `-0u`, `-1u`, `-INT_MIN`, `~0`
  pub minus_of_zero : on_number unsigned u.Minus UInt (Number (pos 0)) ≡ outcome.Gives (Number (pos 0))
  pub minus_of_one : on_number unsigned u.Minus UInt (Number (pos 1)) ≡ outcome.Unmet Overflow
  pub minus_of_the_least : on_number signed u.Minus Int (Number (negsuc 2147483647)) ≡ outcome.Unmet Overflow
  pub complement_of_zero : on_number signed u.Complement Int (Number (pos 0)) ≡ outcome.Gives (Number (negsuc 0))

-- ---- conversions (6.3.1.2, 6.3.1.3, 6.3.2.2, 6.3.2.3)

pub record WorkedConversions : Type 0 where
  pub minus_one_as_unsigned_char : value_as (integer UChar) (Number (negsuc 0) ∷ []) ≡ Number (pos 255) ∷ []
  pub large_as_char : value_as (integer Char) (Number (pos 255) ∷ []) ≡ Number (negsuc 0) ∷ []
  pub two_as_bool : value_as (integer B) (Number (pos 2) ∷ []) ≡ Number (pos 1) ∷ []
  pub null_as_bool : value_as (integer B) (Null ∷ []) ≡ Number (pos 0) ∷ []
  pub pointer_as_bool : value_as (integer B) (Inside 0 0 ∷ []) ≡ Number (pos 1) ∷ []
  pub wild_as_bool : value_as (integer B) (Wild ∷ []) ≡ Number (pos 1) ∷ []
  pub zero_as_pointer : value_as (pointer_to (integer Int)) (Number (pos 0) ∷ []) ≡ Null ∷ []
  pub pointer_as_pointer : value_as (pointer_to (integer Int)) (Inside 0 0 ∷ []) ≡ Inside 0 0 ∷ []
  pub as_void : value_as void (Number (pos 1) ∷ []) ≡ []

-- ---- a program with some objects: int x; int a[3]; char c; _Bool t, where x is INT_MAX, a is {1, 2, 3}, c is 127 and t is 0

-- `int`
abbrev pub int : CType
int = integer Int

-- `int[3]`
abbrev pub three_ints : CType
three_ints = derived_from (Array 3) int

-- an automatic object of this type
abbrev pub declared_object : CType → Declared
declared_object t = record { ctype = Some t; is_static = false; function = None; is_defined = true; is_initialised = false }

-- the program: its text plays no part here
abbrev pub some_program : Program
some_program = record {
  tree = record { externals = []; lines = [] };
  names = record {
    meanings = [];
    objects = declared_object int ∷ declared_object three_ints ∷ declared_object (integer Char) ∷ declared_object (integer B) ∷ [];
    functions = [];
    structs = [];
    signatures = [];
    broken = [];
  };
  types = record { expressions = []; cases = [] };
  checks = signed;
}

-- the object a
abbrev pub ints : Object
ints = record { number = 1; cells = Number (pos 1) ∷ Number (pos 2) ∷ Number (pos 3) ∷ [] }

-- all four, in this order
abbrev pub some_objects : List Object
some_objects =
    record { number = 0; cells = Number (pos 2147483647) ∷ [] } ∷ ints ∷ record { number = 2; cells = Number (pos 127) ∷ [] } ∷ record { number = 3; cells = Number (pos 0) ∷ [] } ∷ []

pub record WorkedPointers : Type 0 where
  -- `a + 1`, `a + 3`, `a + 4`, `a - 1`, and `1 + p`
  pub moved_inside : operate some_program b.Add three_ints int (Inside 1 0) (Number (pos 1)) some_objects ≡ outcome.Gives (Inside 1 1)
  pub moved_one_past : operate some_program b.Add three_ints int (Inside 1 0) (Number (pos 3)) some_objects ≡ outcome.Gives (Inside 1 3)
  pub moved_further : operate some_program b.Add three_ints int (Inside 1 0) (Number (pos 4)) some_objects ≡ outcome.Unmet PointerArithmetic
  pub moved_before : operate some_program b.Subtract three_ints int (Inside 1 0) (Number (pos 1)) some_objects ≡ outcome.Unmet PointerArithmetic
  pub moved_back : operate some_program b.Subtract (pointer_to int) int (Inside 1 3) (Number (pos 3)) some_objects ≡ outcome.Gives (Inside 1 0)
  pub integer_first : operate some_program b.Add int (pointer_to int) (Number (pos 1)) (Inside 1 0) some_objects ≡ outcome.Gives (Inside 1 1)
  -- a null pointer, and one to what no longer lives, aren't moved, not even by 0
  pub null_is_not_moved : moved_by some_program (pointer_to int) (pos 0) Null some_objects ≡ outcome.Unmet PointerArithmetic
  pub wild_is_not_moved : moved_by some_program (pointer_to int) (pos 0) Wild some_objects ≡ outcome.Unmet PointerArithmetic
  -- `*p`
  pub follows : followed some_program int (Inside 1 2) some_objects ≡ outcome.Gives (Inside 1 2)
  pub one_past_is_not_followed : followed some_program int (Inside 1 3) some_objects ≡ outcome.Unmet Dereference
  pub null_is_not_followed : followed some_program int Null some_objects ≡ outcome.Unmet Dereference
  pub wild_is_not_followed : followed some_program int Wild some_objects ≡ outcome.Unmet Dereference
  pub other_type_is_not_followed : followed some_program (integer Short) (Inside 1 0) some_objects ≡ outcome.Unmet Dereference
  -- `a[2]`, `a[3]`, `a[-1]`, and `p[2]` with p one past x
  pub last_element : element_of some_program three_ints (Inside 1 0) (pos 2) some_objects ≡ outcome.Gives (Inside 1 2)
  pub one_past_the_last : element_of some_program three_ints (Inside 1 0) (pos 3) some_objects ≡ outcome.Unmet ArrayBounds
  pub before_the_first : element_of some_program three_ints (Inside 1 0) (negsuc 0) some_objects ≡ outcome.Unmet ArrayBounds
  pub element_by_pointer : element_of some_program (pointer_to int) (Inside 1 1) (pos 1) some_objects ≡ outcome.Gives (Inside 1 2)
  pub element_by_pointer_outside : element_of some_program (pointer_to int) (Inside 0 1) (pos 2) some_objects ≡ outcome.Unmet PointerArithmetic
  pub element_by_pointer_at_the_end : element_of some_program (pointer_to int) (Inside 1 1) (pos 2) some_objects ≡ outcome.Unmet Dereference
  pub element_by_null : element_of some_program (pointer_to int) Null (pos 0) some_objects ≡ outcome.Unmet PointerArithmetic

-- 6.5.9p6
pub record WorkedComparisons : Type 0 where
  pub same_cell : operate some_program b.Equal (pointer_to int) (pointer_to int) (Inside 1 1) (Inside 1 1) some_objects ≡ outcome.Gives (Number (pos 1))
  pub other_cell : operate some_program b.Equal (pointer_to int) (pointer_to int) (Inside 1 1) (Inside 1 2) some_objects ≡ outcome.Gives (Number (pos 0))
  pub one_past_is_no_start : operate some_program b.Equal (pointer_to int) (pointer_to int) (Inside 0 1) (Inside 1 0) some_objects ≡ outcome.Gives (Number (pos 0))
  pub null_is_zero : operate some_program b.Equal (pointer_to int) int Null (Number (pos 0)) some_objects ≡ outcome.Gives (Number (pos 1))
  pub wild_is_not_zero : operate some_program b.NotEqual (pointer_to int) int Wild (Number (pos 0)) some_objects ≡ outcome.Gives (Number (pos 1))
  pub wild_is_wild : operate some_program b.Equal (pointer_to int) (pointer_to int) Wild Wild some_objects ≡ outcome.Gives (Number (pos 1))

-- ---- reading, storing, and ends of lives (6.2.4, 6.3.2.1, 6.5.2.4, 6.5.16)

pub record WorkedObjects : Type 0 where
  pub place_of_a : place_of 1 some_objects ≡ Inside 1 0
  pub place_of_what_does_not_live : place_of 7 some_objects ≡ Wild
  pub element_is_read : read some_program int (Inside 1 1) some_objects ≡ Number (pos 2) ∷ []
  pub array_is_its_first_element : read some_program three_ints (Inside 1 0) some_objects ≡ Inside 1 0 ∷ []
  pub stored_is_read : held 3 (Inside 1 0) (stored (Number (pos 7) ∷ []) (Inside 1 1) some_objects) ≡ Number (pos 1) ∷ Number (pos 7) ∷ Number (pos 3) ∷ []
  pub others_stay : held 1 (Inside 0 0) (stored (Number (pos 7) ∷ []) (Inside 1 1) some_objects) ≡ Number (pos 2147483647) ∷ []
  -- `x++` with x INT_MAX; `c++` with c 127, which is an int there; `t--` with t 0
  pub step_overflows : stepped some_program Increment int (Inside 0 0) some_objects ≡ outcome.Unmet Overflow
  pub step_of_a_char : stepped some_program Increment (integer Char) (Inside 2 0) some_objects ≡ outcome.Gives (Number (pos 128))
  pub step_of_a_bool : stepped some_program Decrement (integer B) (Inside 3 0) some_objects ≡ outcome.Gives (Number (negsuc 0))
  -- a pointer to what no longer lives is wild
  pub lives_on : outlived 2 (Inside 1 0) ≡ Inside 1 0
  pub no_longer_lives : outlived 1 (Inside 1 0) ≡ Wild
  pub is_not_followed_then : followed some_program int (Inside 1 0) (survivors 1 some_objects) ≡ outcome.Unmet Dereference

-- ---- assertions and assumptions, at token 5 (7.2.1.1)

pub record WorkedAssertions : Type 0 where
  pub breaks : (c : State) → asserts 5 (Number (pos 0) ∷ []) c ≡ Unmet Assertion 5 (giving [] c)
  pub holds : (c : State) → asserts 5 (Number (pos 1) ∷ []) c ≡ gives [] c
  -- 2^32, which as an int would be 0
  pub in_its_own_type : (c : State) → asserts 5 (Number (pos 4294967296) ∷ []) c ≡ gives [] c
  pub null_breaks : (c : State) → asserts 5 (Null ∷ []) c ≡ Unmet Assertion 5 (giving [] c)
  pub wild_is_not_null : (c : State) → asserts 5 (Wild ∷ []) c ≡ gives [] c
  pub assumed_away : (c : State) → assumes (Number (pos 0) ∷ []) c ≡ Unassumed (giving [] c)
  pub assumed : (c : State) → assumes (Number (negsuc 0) ∷ []) c ≡ gives [] c
