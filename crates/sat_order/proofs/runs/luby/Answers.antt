use Rattle.std.proofs.Common.{ℕ, ◌≡◌, ◌+◌, ◌-◌, ◌*◌, ◌^◌, ◌<◌, ◌≤◌, sym, subst, arith}
use Rattle.sat_order.specs.Luby.{IsLuby, peak, again}
use Rattle.sat_order.proofs.runs.luby.Goals as goal

-- one step down from a place that is no peak
step : (rest power k x : ℕ) → power ≡ 2 ^ k → power ≤ rest → rest + 1 < 2 * power → IsLuby (rest + 1 - power) x → IsLuby rest x
step rest power k x e low high h = again rest k x (omega arith) (omega arith) (subst (λ (p : ℕ). IsLuby (rest + 1 - p) x) e h)

at_peak : (rest power k : ℕ) → power ≡ 2 ^ k → rest + 1 ≡ 2 * power → IsLuby rest power
at_peak rest power k e h = subst (λ (p : ℕ). IsLuby rest p) (sym e) (peak rest k (omega arith))

pub returns-then-rest-power : goal.returns-then-rest-power
returns-then-rest-power c =
    let e = c.greatest_power-power.ensures in
    c.runs.invariant.is c.greatest_power-power.result (at_peak c.runs.rest c.greatest_power-power.result e.power.0 e.power.1 (omega (arith, e.low, c.runs.invariant.some, c.if-rest-power.true)))

pub runs-preserved : goal.runs-preserved
runs-preserved c =
    let e = c.greatest_power-power.ensures in
    let low = e.low in let high = e.high in let some = c.runs.invariant.some in
    record {
      some = omega arith;
      is = λ x h. c.runs.invariant.is x (step c.runs.rest c.greatest_power-power.result e.power.0 x e.power.1 low (omega (arith, c.if-rest-power.false))
          (subst (λ (n : ℕ). IsLuby n x) (omega arith) h));
    }
