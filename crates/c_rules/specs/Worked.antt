-- Worked examples: the answers of expressions over a few names.
use Rattle.std.specs.Prelude.{◌≡◌, ℕ, pos, Bool, true, false, List, [], ◌∷◌, Option, Some, None}
use Rattle.kv_num.specs.declared.types.IntType.TheVariants.{Int, ULong}
use Rattle.c_tokens.specs.declared.data_model.DataModel.TheVariants.{Lp64}
use Rattle.c_tree.specs.declared.expression.AssignOperator.TheVariants as assign
use Rattle.c_tree.specs.declared.expression.BinaryOperator.TheVariants as binary
use Rattle.c_tree.specs.declared.expression.Expression.{Expression}
use Rattle.c_tree.specs.declared.expression.Expression.TheVariants as tree
use Rattle.c_kinds.specs.declared.types.Base.TheVariants as base
use Rattle.c_kinds.specs.declared.types.CType.{CType}
use Rattle.c_kinds.specs.declared.types.Derivation.TheVariants.{Array}
use Rattle.c_kinds.specs.declared.types.Struct.{Struct}
use Rattle.c_kinds.specs.declared.typed.Fixed.TheVariants as constant
use Rattle.c_kinds.specs.Types.{integer, void, plain, pointer_to, derived_from}
use Rattle.c_kinds.specs.declared.answer.Answer.TheVariants.{Gives, Breaks, Nothing}
use Rattle.c_kinds.specs.Values.{result}
use Rattle.c_rules.specs.declared.names.KnownFunction.TheVariants as known
use Rattle.c_rules.specs.declared.names.Meaning.{Meaning}
use Rattle.c_rules.specs.declared.names.Meaning.TheVariants as meaning
use Rattle.c_rules.specs.declared.names.Object.{Object}
use Rattle.c_rules.specs.Typing.{Given, answer_of}

abbrev pub int : CType
int = integer Int

-- an array of arrays
abbrev pub rows : CType
rows = derived_from (Array 2) (derived_from (Array 3) int)

abbrev pub object : CType → Bool → Object
object t is_defined = record { ctype = Some t; is_static = false; function = None; is_defined = is_defined; is_initialised = false }

abbrev pub open_struct : Struct
open_struct = record { members = []; completed_at = None; cells = 0; has_const = false }

-- int x; int *p; struct S *q, which isn't complete; extern int y, which nothing defines; int m[2][3]; int f(int) with a body
abbrev pub some_names : List (Option Meaning) → Given
some_names meanings = record {
  names = record {
    meanings = meanings;
    objects = object int true ∷ object (pointer_to int) true ∷ object (pointer_to (plain (base.Struct 0))) true ∷ object int false ∷ object rows true ∷ [];
    functions = record { signature = Some 0; known = None; is_defined = true; first = 0 } ∷ [];
    structs = open_struct ∷ [];
    signatures = record { result = int; parameters = int ∷ []; is_variadic = false } ∷ [];
    broken = [];
  };
  model = Lp64;
}

abbrev pub x_at : ℕ → Expression
x_at at = tree.Name (120 ∷ []) at

abbrev pub number_at : ℕ → ℕ → Expression
number_at n at = tree.Constant Int (pos n) at

-- what the names at the tokens 0, 1 and 2 mean
abbrev pub means : Option Meaning → Option Meaning → Option Meaning → Given
means a b c = some_names (a ∷ b ∷ c ∷ [])

abbrev pub the_object : ℕ → Option Meaning
the_object n = Some (meaning.Object n)

abbrev pub f_meant : Option Meaning
f_meant = Some (meaning.Function 0)

abbrev pub fails_meant : Option Meaning
fails_meant = Some (meaning.Known known.AssertFail)

-- whole expressions: the names stand at the tokens 0 to 2, the operators between and after them
pub record WorkedAnswers : Type 0 where
  -- `x = 1`
  pub assignment : answer_of (means (the_object 0) None None) (tree.Assign assign.Plain (x_at 0) (number_at 1 2) 1) false ≡ Gives (result int constant.Varies 1 2)
  -- `m = n` of two arrays of arrays: the rule is broken at `m`
  pub assignment_of_rows : answer_of (means (the_object 4) None (the_object 4)) (tree.Assign assign.Plain (x_at 0) (x_at 2) 1) false ≡ Breaks 9 0
  -- `z`, which isn't declared, and `x + z`
  pub undeclared : answer_of (means None None None) (x_at 0) false ≡ Breaks 3 0
  pub undeclared_part : answer_of (means (the_object 0) None None) (tree.Binary binary.Add (x_at 0) (x_at 2) 1) false ≡ Nothing
  -- `y`, which nothing defines, and `sizeof y`
  pub undefined : answer_of (means (the_object 3) None None) (x_at 0) false ≡ Breaks 3 0
  pub size_of_undefined : answer_of (means None (the_object 3) None) (tree.SizeofExpression (x_at 1) 0) false ≡ Gives (result (integer ULong) (constant.Number (pos 4)) 0 1)
  -- `f`, `sizeof f`, `f(x)`, `f(z)`, `x(1)`, `x(z)`
  pub function_as_a_value : answer_of (means f_meant None None) (x_at 0) false ≡ Breaks 9 0
  pub size_of_a_function : answer_of (means None f_meant None) (tree.SizeofExpression (x_at 1) 0) false ≡ Breaks 16 0
  pub call : answer_of (means f_meant None (the_object 0)) (tree.Call (x_at 0) (x_at 2 ∷ []) 1) false ≡ Gives (result int constant.Varies 0 1)
  pub call_of_undeclared : answer_of (means f_meant None None) (tree.Call (x_at 0) (x_at 2 ∷ []) 1) false ≡ Nothing
  pub call_of_an_object : answer_of (means (the_object 0) None None) (tree.Call (x_at 0) (number_at 1 2 ∷ []) 1) false ≡ Breaks 12 1
  pub object_on_undeclared : answer_of (means (the_object 0) None None) (tree.Call (x_at 0) (x_at 2 ∷ []) 1) false ≡ Nothing
  -- `__assert_fail("a")`, `"a"`
  pub string_argument : answer_of (means fails_meant None None) (tree.Call (x_at 0) (tree.Text 2 ∷ []) 1) false ≡ Gives (result void constant.Varies 0 1)
  pub string : answer_of (means None None None) (tree.Text 0) false ≡ Breaks 22 0
  -- `q->a`, `q + 1`, `*q` of a struct that isn't complete
  pub member_of_incomplete : answer_of (means (the_object 2) None None) (tree.PointedMember (x_at 0) (97 ∷ []) 1) false ≡ Breaks 3 2
  pub pointer_to_incomplete : answer_of (means (the_object 2) None None) (tree.Binary binary.Add (x_at 0) (number_at 1 2) 1) false ≡ Breaks 10 0
  -- `x ? z : 1`, `(x, 1)`
  pub choice_of_undeclared : answer_of (means (the_object 0) None None) (tree.Conditional (x_at 0) (x_at 2) (number_at 1 4) 1) false ≡ Nothing
  pub sequence : answer_of (means (the_object 0) None None) (tree.Comma (x_at 0 ∷ number_at 1 2 ∷ []) 1) false ≡ Gives (result int constant.Varies 1 2)
