use Rattle.std.proofs.Common.{sym, ◌*ℤ◌}
use Rattle.std.proofs.lemmas.Int.{to_z-of_z}
use Rattle.std.specs.Int.{w128}
use Rattle.kv_num.proofs.Range.{same_fits}
use Rattle.kv_num.proofs.typed.mul.Goals as goal

pub returns-clause-fits : goal.returns-clause-fits
returns-clause-fits c =
    same_fits _ _ _ _ _ _ _ c.mul_at.ensures.fits (sym c.width.ensures) (sym c.is_signed.ensures) (λ i. to_z-of_z w128 c.args.a c.ranges.a i *ℤ to_z-of_z w128 c.args.b c.ranges.b i)
