-- Each worked example holds by computation.
use Rattle.std.proofs.Common.{refl}
use Rattle.c_model.specs.Worked.{WorkedArithmetic, WorkedShifts, WorkedOperands, WorkedConversions, WorkedPointers, WorkedComparisons, WorkedObjects, WorkedAssertions}

pub worked_arithmetic : WorkedArithmetic
worked_arithmetic = record {
  sum_overflows = refl;
  sum_fits = refl;
  sum_wraps = refl;
  product_overflows = refl;
  difference_overflows = refl;
  difference_wraps = refl;
  difference_fits = refl;
  signed_is_not_asked = refl;
  quotient_by_zero = refl;
  remainder_by_zero = refl;
  quotient_is_truncated = refl;
  remainder_has_the_sign = refl;
  least_quotient_overflows = refl;
  least_quotient_wraps = refl;
  least_remainder_overflows = refl;
  least_remainder_is_zero = refl;
}

pub worked_shifts : WorkedShifts
worked_shifts = record {
  negative_distance = refl;
  distance_of_the_width = refl;
  distance_below_the_width = refl;
  into_the_sign = refl;
  below_the_sign = refl;
  of_a_negative_number = refl;
  of_an_unsigned_number = refl;
  right_rounds_down = refl;
  distance_has_its_own_type = refl;
  long_by_forty = refl;
  promoted_char = refl;
}

pub worked_operands : WorkedOperands
worked_operands = record {
  chars_are_ints = refl;
  less_as_unsigned = refl;
  less_as_signed = refl;
  as_unsigned = refl;
  minus_of_zero = refl;
  minus_of_one = refl;
  minus_of_the_least = refl;
  complement_of_zero = refl;
}

pub worked_conversions : WorkedConversions
worked_conversions = record {
  minus_one_as_unsigned_char = refl;
  large_as_char = refl;
  two_as_bool = refl;
  null_as_bool = refl;
  pointer_as_bool = refl;
  wild_as_bool = refl;
  zero_as_pointer = refl;
  pointer_as_pointer = refl;
  as_void = refl;
}

pub worked_pointers : WorkedPointers
worked_pointers = record {
  moved_inside = refl;
  moved_one_past = refl;
  moved_further = refl;
  moved_before = refl;
  moved_back = refl;
  integer_first = refl;
  null_is_not_moved = refl;
  wild_is_not_moved = refl;
  follows = refl;
  one_past_is_not_followed = refl;
  null_is_not_followed = refl;
  wild_is_not_followed = refl;
  other_type_is_not_followed = refl;
  last_element = refl;
  one_past_the_last = refl;
  before_the_first = refl;
  element_by_pointer = refl;
  element_by_pointer_outside = refl;
  element_by_pointer_at_the_end = refl;
  element_by_null = refl;
}

pub worked_comparisons : WorkedComparisons
worked_comparisons = record {
  same_cell = refl;
  other_cell = refl;
  one_past_is_no_start = refl;
  null_is_zero = refl;
  wild_is_not_zero = refl;
  wild_is_wild = refl;
}

pub worked_objects : WorkedObjects
worked_objects = record {
  place_of_a = refl;
  place_of_what_does_not_live = refl;
  element_is_read = refl;
  array_is_its_first_element = refl;
  stored_is_read = refl;
  others_stay = refl;
  step_overflows = refl;
  step_of_a_char = refl;
  step_of_a_bool = refl;
  lives_on = refl;
  no_longer_lives = refl;
  is_not_followed_then = refl;
}

pub worked_assertions : WorkedAssertions
worked_assertions = record {
  breaks = λ c. refl;
  holds = λ c. refl;
  in_its_own_type = λ c. refl;
  null_breaks = λ c. refl;
  wild_is_not_null = λ c. refl;
  assumed_away = λ c. refl;
  assumed = λ c. refl;
}
