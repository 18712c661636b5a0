use Rattle.kv_num.proofs.Powers.{right_floor, right_of-right_of, left_of-left_of, right_of-left_of, bit_of-right_of, bit_of-left_of, bit_of-left_of_low}
use Rattle.kv_num.proofs.Signs.{false_is}
use Rattle.kv_num.proofs.laws.shifts_are_products.Goals as goal

pub returns-clause-floor : goal.returns-clause-floor
returns-clause-floor c = right_floor

pub returns-clause-right : goal.returns-clause-right
returns-clause-right c = right_of-right_of

pub returns-clause-left : goal.returns-clause-left
returns-clause-left c = left_of-left_of

pub returns-clause-back : goal.returns-clause-back
returns-clause-back c = right_of-left_of

pub returns-clause-right_bits : goal.returns-clause-right_bits
returns-clause-right_bits c = bit_of-right_of

pub returns-clause-left_bits : goal.returns-clause-left_bits
returns-clause-left_bits c = bit_of-left_of

pub returns-clause-left_zeros : goal.returns-clause-left_zeros
returns-clause-left_zeros c = λ a d k h. false_is _ (bit_of-left_of_low a d k h)
