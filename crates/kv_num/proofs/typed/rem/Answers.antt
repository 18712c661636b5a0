use Rattle.std.proofs.Common.{sym}
use Rattle.std.proofs.lemmas.Int.{to_z-of_z}
use Rattle.std.specs.Int.{w128}
use Rattle.kv_num.specs.Quotient.{quotient_of}
use Rattle.kv_num.proofs.Range.{same_fits}
use Rattle.kv_num.proofs.typed.rem.Goals as goal

pub returns-clause-fits : goal.returns-clause-fits
returns-clause-fits c =
    same_fits _ _ _ _ _ _ _ c.rem_at.ensures.fits (sym c.width.ensures) (sym c.is_signed.ensures) (λ i. quotient_of (to_z-of_z w128 c.args.a c.ranges.a i) (to_z-of_z w128 c.args.b c.ranges.b i))
