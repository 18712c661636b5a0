-- Each worked example of declared names holds by computation.
use Rattle.std.proofs.Common.{refl}
use Rattle.c_rules.specs.KnownFunctions.{known_named}
use Rattle.c_rules.specs.WorkedNames.{WorkedNames}

pub worked_names : WorkedNames
unfolding known_named
worked_names = record {
  no_main = refl;
  main_defined = refl;
  main_as_an_object = refl;
  main_with_a_parameter = refl;
  another_object = refl;
  twice_in_a_block = refl;
  twice_in_the_file = refl;
  with_another_type = refl;
  extern_after_a_local = refl;
  no_body = refl;
  called = refl;
  too_few_arguments = refl;
  too_many_arguments = refl;
  incomplete_object = refl;
  incomplete_elsewhere = refl;
  incomplete_initialised = refl;
  incomplete_result = refl;
  variadic_definition = refl;
  definition = refl;
  body_of_a_typedef = refl;
  known_as_an_object = refl;
  known_as_a_typedef = refl;
  known_as_a_local = refl;
  known_of_another_type = refl;
  known_function = refl;
  known_with_a_body = refl;
  known_with_an_unknown_type = refl;
  prototype_of_a_known = refl;
  error_with_a_body = refl;
  void_object = refl;
  typedef_with_a_value = refl;
  typedef_name = refl;
  no_type_named = refl;
  size_without_a_value = refl;
  constant_too_large = refl;
  constant_of_a_known_name = refl;
  constant_in_a_block = refl;
  constant_of_an_enum = refl;
  static_without_a_value = refl;
  automatic_without_a_value = refl;
  pointer_for_an_int = refl;
  long_of_64_bits = refl;
  long_of_32_bits = refl;
  void_and_dots = refl;
  void_alone = refl;
  parameter_of_a_definition = refl;
  parameter_of_a_typedef = refl;
  parameter_of_a_prototype = refl;
  prototype_without_a_type = refl;
  const_elements = refl;
  elements_without_const = refl;
}
