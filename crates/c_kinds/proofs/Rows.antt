-- Each worked example holds by computation.
use Rattle.std.proofs.Common.{refl}
use Rattle.c_kinds.specs.Worked.{WorkedConversions, WorkedConstants, WorkedSizes, WorkedTypes, WorkedOperators, WorkedAssignments, WorkedAddresses}

pub worked_conversions : WorkedConversions
worked_conversions = record {
  chars_are_ints = refl;
  unsigned_and_long = refl;
  unsigned_and_long_of_32_bits = refl;
  long_long_and_unsigned_long = refl;
  bool_is_promoted = refl;
  unsigned_stays = refl;
  two_as_bool = refl;
  minus_one_as_char = refl;
}

pub worked_constants : WorkedConstants
worked_constants = record {
  division_by_zero = refl;
  shift_into_the_sign = refl;
  shift_of_unsigned = refl;
  decided_by_the_left = refl;
  no_constant_by_form = refl;
  less_as_unsigned = refl;
  overflow = refl;
  arm_not_taken = refl;
  integer_arm_varies = refl;
  pointer_arm_varies = refl;
}

pub worked_sizes : WorkedSizes
worked_sizes = record {
  array_of_pointers = refl;
  size_of_64_bits = refl;
  size_of_32_bits = refl;
  with_pointers_of_32_bits = refl;
  of_a_struct = refl;
  of_void = refl;
  cells_of_rows = refl;
  cells_in_order = refl;
  complete_behind_its_end = refl;
  incomplete_inside = refl;
}

pub worked_types : WorkedTypes
worked_types = record {
  const_elements = refl;
  alike_but_for_const = refl;
  not_the_same = refl;
  char_is_not_signed_char = refl;
}

pub worked_operators : WorkedOperators
worked_operators = record {
  char_plus_unsigned = refl;
  comparison_is_an_int = refl;
  shift_has_the_left_type = refl;
  array_plus_integer = refl;
  integer_minus_pointer = refl;
  pointers_are_not_subtracted = refl;
  pointer_is_null = refl;
  pointer_is_one = refl;
  rows_as_a_value = refl;
  struct_as_an_operand = refl;
  incomplete_as_a_value = refl;
  pointer_to_incomplete_moves = refl;
  two_pointers_to_incomplete = refl;
  minus_of_a_pointer = refl;
  not_of_a_pointer = refl;
  address_of_an_array = refl;
  address_of_a_number = refl;
  sizeof_an_array = refl;
  sizeof_a_struct = refl;
  sizeof_a_void_pointer = refl;
}

pub worked_assignments : WorkedAssignments
worked_assignments = record {
  array_is_not_written = refl;
  array_is_not_stepped = refl;
  const_is_not_written = refl;
  number_is_not_written = refl;
  sum_does_not_fit = refl;
  null_fits_a_pointer = refl;
  void_null_fits = refl;
  const_void_null_does_not = refl;
  chosen_null_does_not = refl;
  null_is_cast_once = refl;
  pointer_as_int = refl;
  pointer_as_bool = refl;
  struct_as_void = refl;
  void_as_int = refl;
  void_as_struct = refl;
  int_as_struct = refl;
}

pub worked_addresses : WorkedAddresses
worked_addresses = record {
  member_of_an_element = refl;
  member_one_past = refl;
  past_a_row = refl;
  past_the_rows = refl;
  no_such_member = refl;
  varies_first = refl;
}
