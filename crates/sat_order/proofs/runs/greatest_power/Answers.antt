use Rattle.std.proofs.Common.{suc, refl, arith}
use Rattle.std.proofs.Math.Nat.{pow-suc}
use Rattle.sat_order.proofs.runs.greatest_power.Goals as goal

pub loop-power-init : goal.loop-power-init
loop-power-init c = record { low = omega arith; some = omega arith; is = (0, refl) }

pub loop-power-preserved : goal.loop-power-preserved
loop-power-preserved c =
    let i = c.loop-power.invariant in
    let low = i.low in let some = i.some in
    record { low = omega arith; some = omega arith; is = (suc i.is.0, omega (arith, i.is.1, pow-suc 2 i.is.0)) }
