use Rattle.std.proofs.Common.{arith, ap, ◌∙◌}
use Rattle.std.proofs.lemmas.Int.{ints}
use Rattle.c_kinds.specs.declared.typed.Fixed.TheVariants.{Number}
use Rattle.c_kinds.specs.Addresses.{moved}
use Rattle.c_operators.proofs.Distances.{far_as_far}
use Rattle.c_operators.proofs.moves.opposite.Goals as goal

pub returns-then-n-eqminus170141183460469231731687303715884105728 : goal.returns-then-n-eqminus170141183460469231731687303715884105728
returns-then-n-eqminus170141183460469231731687303715884105728 c = λ l pointee p fits.
    far_as_far l pointee p fits ∙ ap (λ x. moved l pointee p (Number x)) (omega (arith, ints))

pub returns : goal.returns
returns c = λ l pointee p fits. ap (λ x. moved l pointee p (Number x)) (omega (arith, ints))
