-- Worked examples: the rules that initialisers and full expressions break, each beside one that breaks none.
use Rattle.std.specs.Prelude.{◌≡◌, ℕ, Bool, true, false, List, [], ◌∷◌, Some, None}
use Rattle.c_tree.specs.declared.expression.AssignOperator.TheVariants as assign
use Rattle.c_tree.specs.declared.expression.BinaryOperator.TheVariants as binary
use Rattle.c_tree.specs.declared.expression.Expression.{Expression}
use Rattle.c_tree.specs.declared.expression.Expression.TheVariants as tree
use Rattle.c_tree.specs.declared.expression.Declarator.TheVariants as form
use Rattle.c_tree.specs.declared.declaration.Initialiser.{Initialiser}
use Rattle.c_tree.specs.declared.declaration.Initialiser.TheVariants as initialiser
use Rattle.c_kinds.specs.declared.types.Derivation.TheVariants.{Array}
use Rattle.c_kinds.specs.declared.types.CType.{CType}
use Rattle.c_kinds.specs.declared.typed.Fixed.TheVariants.{Varies}
use Rattle.c_kinds.specs.Types.{derived_from, pointer_to, void}
use Rattle.c_kinds.specs.declared.answer.Answer.TheVariants.{Gives}
use Rattle.c_kinds.specs.Values.{result}
use Rattle.c_rules.specs.declared.names.Meaning.TheVariants as meaning
use Rattle.c_rules.specs.declared.names.Pair.{Pair}
use Rattle.c_rules.specs.Broken.{pair}
use Rattle.c_rules.specs.Typing.{Given, answer_of}
use Rattle.c_rules.specs.Expressions.{broken_expression}
use Rattle.c_rules.specs.Initialisers.{broken_initialiser}
use Rattle.c_rules.specs.Worked.{int, means, the_object, fails_meant, x_at, number_at}
use Rattle.c_rules.specs.WorkedDeclarations.{int_at}

-- `T a = x;` with the `=` at token 3
abbrev pub given : Given → Bool → CType → Initialiser → List Pair
given g is_static t x = broken_initialiser g x (record { ctype = Some t; is_static = is_static; equals = 3; first = 4 })

abbrev pub value : Expression → Initialiser
value x = initialiser.Value x 4

abbrev pub part : ℕ → Initialiser
part n = initialiser.Value (number_at n 5) 5

abbrev pub braces : List Initialiser → Initialiser
braces parts = initialiser.Braces parts 4

abbrev pub array : ℕ → CType → CType
array n t = derived_from (Array n) t

-- the int x at token 2, or the pointer there
abbrev pub x_given : Given
x_given = means None None (the_object 0)

abbrev pub p_given : Given
p_given = means None None (the_object 1)

-- `__assert_fail("a")` with the name at token 2
abbrev pub fails : Expression
fails = tree.Call (x_at 2) (tree.Text 4 ∷ []) 3

pub record WorkedInitialisers : Type 0 where
  -- `int a[2] = {1, 2};`, `int a[2] = {1, 2, 3};`, `int a[2] = 1;`, `int a[2] = "a";`
  pub all_elements : given x_given false (array 2 int) (braces (part 1 ∷ part 2 ∷ [])) ≡ []
  pub too_many_elements : given x_given false (array 2 int) (braces (part 1 ∷ part 2 ∷ part 3 ∷ [])) ≡ pair 3 21 ∷ []
  pub value_for_an_array : given x_given false (array 2 int) (value (number_at 1 4)) ≡ pair 3 21 ∷ []
  pub string_for_an_array : given x_given false (array 2 int) (value (tree.Text 4)) ≡ pair 3 21 ∷ []
  -- `int a = {1};`, `int a[1][1] = {{1}};`, `int a[1][1] = {1};`
  pub braces_for_an_int : given x_given false int (braces (part 1 ∷ [])) ≡ pair 3 21 ∷ []
  pub rows_in_braces : given x_given false (array 1 (array 1 int)) (braces (braces (part 1 ∷ []) ∷ [])) ≡ []
  pub rows_without_braces : given x_given false (array 1 (array 1 int)) (braces (part 1 ∷ [])) ≡ pair 3 21 ∷ []
  -- `int a = x;`, `static int a = x;`, `static int a = 1;`, `static int a = 1/0;`
  pub variable : given x_given false int (value (x_at 2)) ≡ []
  pub static_variable : given x_given true int (value (x_at 2)) ≡ pair 3 21 ∷ []
  pub static_constant : given x_given true int (value (number_at 1 4)) ≡ []
  pub static_without_a_value : given x_given true int (value (tree.Binary binary.Divide (number_at 1 4) (number_at 0 6) 5)) ≡ pair 4 25 ∷ []
  -- `int a = p;`, `int *a = p;`, `int *a = 0;`, `int *a = 1;`, `int a = __assert_fail("a");`
  pub pointer_for_an_int : given p_given false int (value (x_at 2)) ≡ pair 3 13 ∷ []
  pub pointer : given p_given false (pointer_to int) (value (x_at 2)) ≡ []
  pub null_pointer : given x_given false (pointer_to int) (value (number_at 0 4)) ≡ []
  pub int_for_a_pointer : given x_given false (pointer_to int) (value (number_at 1 4)) ≡ pair 3 13 ∷ []
  pub void_for_an_int : given (means None None fails_meant) false int (value fails) ≡ pair 3 13 ∷ []
  -- an undeclared name breaks the rule on names alone
  pub undeclared : given (means None None None) true int (value (x_at 2)) ≡ pair 2 3 ∷ []
  -- `x = p`, `p = 0`, `1 = x`, `f("a")` as an expression of its own
  pub pointer_assigned : broken_expression (means (the_object 0) None (the_object 1)) (tree.Assign assign.Plain (x_at 0) (x_at 2) 1) ≡ pair 1 13 ∷ []
  pub null_assigned : broken_expression (means (the_object 1) None None) (tree.Assign assign.Plain (x_at 0) (number_at 0 2) 1) ≡ []
  pub number_assigned : broken_expression x_given (tree.Assign assign.Plain (number_at 1 0) (x_at 2) 1) ≡ pair 1 14 ∷ []
  pub string_alone : broken_expression x_given (tree.Text 0) ≡ pair 0 22 ∷ []
  pub string_of_assert_fail : broken_expression (means None None fails_meant) fails ≡ []
  -- `x ? (void)0 : __assert_fail("a")`, with the `(` of the cast at token 1
  pub arms_of_void : answer_of (means (the_object 0) (Some (meaning.Type (Some void) None)) fails_meant)
      (tree.Conditional (x_at 0) (tree.Cast (record { specifiers = int_at 9 ∷ []; declarator = form.Unnamed 10 }) (number_at 0 11) 1) fails 8) false
      ≡ Gives (result void Varies 8 3)
