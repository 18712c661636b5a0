use Rattle.kv_num.proofs.Division.{quotient_by_sign, remainder_by_sign, remainder_small, quotient_fits, quotient_overflows}
use Rattle.kv_num.proofs.laws.division_goes_by_sign.Goals as goal

pub returns-clause-quotient : goal.returns-clause-quotient
returns-clause-quotient c = quotient_by_sign

pub returns-clause-remainder : goal.returns-clause-remainder
returns-clause-remainder c = remainder_by_sign

pub returns-clause-small : goal.returns-clause-small
returns-clause-small c = remainder_small

pub returns-clause-fits : goal.returns-clause-fits
returns-clause-fits c = quotient_fits

pub returns-clause-over : goal.returns-clause-over
returns-clause-over c = quotient_overflows
