-- Worked examples: the rules that declared names and calls break, each beside one that breaks none.
use Rattle.std.specs.Prelude.{◌≡◌, ℕ, pos, Bool, true, false, List, [], ◌∷◌, codes, Option, Some, None}
use Rattle.kv_num.specs.declared.types.IntType.TheVariants.{Long32, Long}
use Rattle.c_tokens.specs.declared.data_model.DataModel.TheVariants.{Lp64, Ilp32}
use Rattle.c_kinds.specs.declared.types.Derivation.TheVariants.{Array}
use Rattle.c_kinds.specs.declared.types.Base.TheVariants as base
use Rattle.c_kinds.specs.declared.types.CType.{CType}
use Rattle.c_kinds.specs.declared.typed.Fixed.TheVariants.{NoValue}
use Rattle.c_kinds.specs.Types.{integer, void, plain, pointer_to, derived_from}
use Rattle.c_kinds.specs.declared.answer.Answer.{Answer}
use Rattle.c_kinds.specs.declared.answer.Answer.TheVariants.{Gives}
use Rattle.c_kinds.specs.Values.{result}
use Rattle.c_rules.specs.declared.names.Function.{Function}
use Rattle.c_rules.specs.declared.names.KnownFunction.TheVariants as known
use Rattle.c_rules.specs.declared.names.Pair.{Pair}
use Rattle.c_rules.specs.Broken.{pair}
use Rattle.c_rules.specs.Scopes.{State, Block, enter}
use Rattle.c_rules.specs.Specifiers.{type_named}
use Rattle.c_rules.specs.Declarators.{Built, name_built, length_from, only_void, next_parameter, ParameterBuilt, Listed}
use Rattle.c_rules.specs.Declarations.{How, declares_name}
use Rattle.c_rules.specs.Tags.{counts, adds_member}
use Rattle.c_rules.specs.KnownFunctions.{known_named}
use Rattle.c_rules.specs.Calls.{function_pairs}
use Rattle.c_rules.specs.Typing.{layout_of}
use Rattle.c_rules.specs.Initialisers.{one_value}
use Rattle.c_rules.specs.Texts.{with_main, definition_pairs}
use Rattle.c_rules.specs.Worked.{int, open_struct}
use Rattle.c_rules.specs.WorkedDeclarations.{nothing, first, broken}

-- a declaration that begins at token 0, without a storage word, a value or a body
abbrev pub plainly : How
plainly = record { is_typedef = false; is_extern = false; is_static = false; is_initialised = false; has_body = false; first = 0 }

-- `T name`, with the name at token 1, after this
abbrev pub declared : How → CType → List ℕ → State → State
declared how t name st = declares_name how false 0 (name_built (Some t) (Some name) 1 st)

abbrev pub x_name : List ℕ
x_name = codes "x"

-- the signatures 0, `int (void)`, and 1, `int (int)`, are known, and so is a struct that isn't complete
abbrev pub with_types : State
with_types = record nothing {
  names = record nothing.names {
    signatures = record { result = int; parameters = []; is_variadic = false } ∷ record { result = int; parameters = int ∷ []; is_variadic = false }
        ∷ record { result = plain (base.Struct 0); parameters = []; is_variadic = false } ∷ record { result = void; parameters = []; is_variadic = false } ∷ [];
    structs = open_struct ∷ [];
  };
}

abbrev pub function_type : ℕ → CType
function_type n = plain (base.Function n)

abbrev pub incomplete : CType
incomplete = plain (base.Struct 0)

abbrev pub with_body : How
with_body = record plainly { has_body = true }

-- a definition whose declarator gives this, and has parameters
abbrev pub defined : CType → Option ℕ → Option Block → Built
defined t dots parameters = record (name_built (Some t) (Some x_name) 1 with_types) { dots = dots; parameters = parameters }

abbrev pub no_block : Block
no_block = record { ordinary = []; tags = [] }

-- a function that isn't known
abbrev pub function_of : ℕ → Bool → Function
function_of n is_defined = record { signature = Some n; known = None; is_defined = is_defined; first = 0 }

-- what a call at token 0 breaks
abbrev pub called_with : Function → List Answer → List Pair
called_with f arguments = function_pairs (layout_of (record { names = with_types.names; model = Lp64 })) with_types.names 0 (Some f) arguments

abbrev pub one_int : List Answer
one_int = Gives (result int NoValue 2 2) ∷ []

-- `T x = v` with the `=` at token 2
abbrev pub initialised : Bool → CType → CType → List Pair
initialised is_static t u = one_value (record { ctype = Some t; is_static = is_static; equals = 2; first = 3 }) (Some t) (Gives (result u NoValue 3 3))

-- the parameter `void` without a name, whose specifiers begin at token 7
abbrev pub void_parameter : ParameterBuilt
void_parameter = record { state = nothing; ctype = Some void; pointers = []; in_definition = []; first = 7; is_nothing = true }

abbrev pub no_more : State → Listed
no_more st = record { state = st; types = []; pointers = []; in_definition = [] }

-- `int *x(..)`, a function with a parameter that no definition may have, with a pointer that is left out
abbrev pub faulty : Built
faulty = record (defined (function_type 0) None (Some no_block)) { pointers = pair 1 9 ∷ []; in_definition = pair 4 10 ∷ [] }

abbrev pub array_of_two : CType → CType
array_of_two t = derived_from (Array 2) t

-- the struct has a const member
abbrev pub with_const : State
with_const = record with_types { names = record with_types.names { structs = record open_struct { has_const = true } ∷ [] } }

pub record WorkedNames : Type 0 where
  -- a text of five tokens without `main`, and one with it
  pub no_main : broken (with_main 5 nothing) ≡ pair 5 1 ∷ []
  pub main_defined : broken (with_main 5 (declared with_body (function_type 0) (codes "main") with_types)) ≡ []
  -- `int main;`, `int main(int);`, `int f;`
  pub main_as_an_object : broken (declared plainly int (codes "main") nothing) ≡ pair 1 2 ∷ []
  pub main_with_a_parameter : broken (declared plainly (function_type 1) (codes "main") with_types) ≡ pair 1 2 ∷ []
  pub another_object : broken (declared plainly int (codes "f") nothing) ≡ []
  -- `int x; int x;` in a block and in the file, `int x; long x;`
  pub twice_in_a_block : broken (declared plainly int x_name (declared plainly int x_name (enter nothing))) ≡ pair 1 4 ∷ []
  pub twice_in_the_file : broken (declared plainly int x_name (declared plainly int x_name nothing)) ≡ []
  pub with_another_type : broken (declared plainly (integer Long) x_name (declared plainly int x_name nothing)) ≡ pair 1 4 ∷ []
  -- `int x; extern int x;` in a block
  pub extern_after_a_local : broken (declared (record plainly { is_extern = true }) int x_name (declared plainly int x_name (enter nothing))) ≡ pair 1 4 ∷ []
  -- a call of a function without a body, and of one with it: of one parameter, and with too few arguments
  pub no_body : called_with (function_of 1 false) one_int ≡ pair 0 5 ∷ []
  pub called : called_with (function_of 1 true) one_int ≡ []
  pub too_few_arguments : called_with (function_of 1 true) [] ≡ pair 0 7 ∷ []
  pub too_many_arguments : called_with (function_of 0 true) one_int ≡ pair 0 7 ∷ []
  -- `struct S x;` of a struct that isn't complete, `extern struct S x;`, `extern struct S x = ..;`
  pub incomplete_object : broken (declared plainly incomplete x_name with_types) ≡ pair 1 10 ∷ []
  pub incomplete_elsewhere : broken (declared (record plainly { is_extern = true }) incomplete x_name with_types) ≡ []
  pub incomplete_initialised : broken (declared (record plainly { is_extern = true; is_initialised = true }) incomplete x_name with_types) ≡ pair 1 10 ∷ []
  -- `struct S x(void){..}`, `int x(void, ...){..}` with the `...` at token 4, `int x(void){..}`
  pub incomplete_result : broken (definition_pairs 0 (defined (function_type 2) None (Some no_block)) with_types) ≡ pair 1 10 ∷ []
  pub variadic_definition : broken (definition_pairs 0 (defined (function_type 0) (Some 4) (Some no_block)) with_types) ≡ pair 4 11 ∷ []
  pub definition : broken (definition_pairs 0 (defined (function_type 0) None (Some no_block)) with_types) ≡ []
  -- a body after a typedef name of a function
  pub body_of_a_typedef : broken (definition_pairs 0 (defined (function_type 0) None None) with_types) ≡ pair 0 24 ∷ []
  -- `int abort;`, `typedef int abort;` in the file, and `int abort;` in a block
  pub known_as_an_object : broken (declared plainly int (codes "abort") nothing) ≡ pair 1 23 ∷ []
  pub known_as_a_typedef : broken (declared (record plainly { is_typedef = true }) int (codes "abort") nothing) ≡ pair 1 23 ∷ []
  pub known_as_a_local : broken (declared plainly int (codes "abort") (enter nothing)) ≡ []
  -- `int abort(void);`, `void abort(void);`, `void abort(void){..}`, `void reach_error(void){..}`
  pub known_of_another_type : broken (declared plainly (function_type 0) (codes "abort") with_types) ≡ pair 1 23 ∷ []
  pub known_function : broken (declared plainly (function_type 3) (codes "abort") with_types) ≡ []
  pub known_with_a_body : broken (declared with_body (function_type 3) (codes "abort") with_types) ≡ pair 1 23 ∷ []
  -- `void exit(struct U *x){..}`, a definition whose type isn't known, and the same without a body
  pub known_with_an_unknown_type : broken (declares_name with_body false 0 (record (defined (function_type 3) None (Some no_block)) { ctype = None; name = Some (codes "exit") })) ≡ pair 1 23 ∷ []
  pub prototype_of_a_known : broken (declares_name plainly false 0 (record (defined (function_type 3) None (Some no_block)) { ctype = None; name = Some (codes "exit") })) ≡ []
  pub error_with_a_body : broken (declared with_body (function_type 3) (codes "reach_error") with_types) ≡ []
  -- `void x;`, `typedef int x = ..;`, `typedef int x;`
  pub void_object : broken (declared plainly void x_name nothing) ≡ pair 0 24 ∷ []
  pub typedef_with_a_value : broken (declared (record plainly { is_typedef = true; is_initialised = true }) int x_name nothing) ≡ pair 0 24 ∷ []
  pub typedef_name : broken (declared (record plainly { is_typedef = true }) int x_name nothing) ≡ []
  -- specifiers that name no type
  pub no_type_named : broken (type_named 0 first).state ≡ pair 0 24 ∷ []
  -- `int x[1/0]` with the `[` at token 2, `enum {A = 2147483648}` with the value at token 4
  pub size_without_a_value : broken (length_from 2 NoValue nothing).state ≡ pair 3 25 ∷ []
  pub constant_too_large : broken (counts (codes "A") 2 4 (Some (pos 2147483648)) nothing).state ≡ pair 4 25 ∷ []
  -- `enum {abort}` in the file, and in a block
  pub constant_of_a_known_name : broken (counts (codes "abort") 2 2 (Some (pos 0)) nothing).state ≡ pair 2 23 ∷ []
  pub constant_in_a_block : broken (counts (codes "abort") 2 2 (Some (pos 0)) (enter nothing)).state ≡ []
  pub constant_of_an_enum : broken (counts (codes "A") 2 4 (Some (pos 2147483647)) nothing).state ≡ []
  -- `static int x = 1/0;`, `int x = 1/0;`, `int x = p;`, `int x[2] = 1;`
  pub static_without_a_value : initialised true int int ≡ pair 3 25 ∷ []
  pub automatic_without_a_value : initialised false int int ≡ []
  pub pointer_for_an_int : initialised false int (pointer_to int) ≡ pair 2 13 ∷ []
  -- `nondet_long` has the data model's long
  pub long_of_64_bits : known_named Lp64 (codes "nondet_long") ≡ Some (known.Nondet Long)
  pub long_of_32_bits : known_named Ilp32 (codes "nondet_long") ≡ Some (known.Nondet Long32)
  -- `int f(void, ...)`: the parameter's first specifier; `int f(void)`
  pub void_and_dots : broken (only_void (Some 9) void_parameter (next_parameter void_parameter (λ st. no_more st))).state ≡ pair 7 24 ∷ []
  pub void_alone : broken (only_void None void_parameter (next_parameter void_parameter (λ st. no_more st))).state ≡ []
  -- what parameters break in a definition: in a definition, in a typedef of a function, in a prototype
  pub parameter_of_a_definition : broken (declares_name with_body false 0 faulty) ≡ pair 1 9 ∷ pair 4 10 ∷ []
  pub parameter_of_a_typedef : broken (declares_name (record plainly { is_typedef = true }) false 0 faulty) ≡ pair 1 9 ∷ []
  pub parameter_of_a_prototype : broken (declares_name plainly false 0 faulty) ≡ []
  -- `void *f(struct U *p);` is a function still, without a type
  pub prototype_without_a_type : broken (declares_name plainly false 0 (record faulty { ctype = None })) ≡ []
  -- an array of structs with a const member has one
  pub const_elements : (adds_member with_const x_name (Some (array_of_two (plain (base.Struct 0)))) open_struct).has_const ≡ true
  pub elements_without_const : (adds_member with_types x_name (Some (array_of_two (plain (base.Struct 0)))) open_struct).has_const ≡ false
