use Rattle.std.proofs.Common.{arith, ◌≡◌, ◌+◌, ◌-◌, length, ap}
use Rattle.word_sums.proofs.Numbers.{raised_value}
use Rattle.word_sums.proofs.compares.raised.Goals as goal

pub returns-clause-value : goal.returns-clause-value
returns-clause-value c = λ A.
    let e = c.as_slice-bits.ensures in
    let bits = c.as_slice-bits.result.now in
    let len : length bits ≡ (length bits - 1) + 1 = omega (arith, ap length e) in
    let r = raised_value A bits c.in_ok-word.word c.push.new.self (length bits - 1) c.index-bits-top.result c.flipped.result c.args.signed len c.index-bits-top.is c.in_ok-word.ensures c.in_ok-push.ensures.ok c.flipped.ensures in
    rw e at r
