use Rattle.std.proofs.Common.{rules, arith, ◌≡◌, ◌≤◌, length, ap, length-take}
use Rattle.word_gates.proofs.Widths.{resized}
use Rattle.word_gates.proofs.resizes.resize.Goals as goal

pub returns-then-width-len-clause-value : goal.returns-then-width-len-clause-value
returns-then-width-len-clause-value c = λ A wide h.
    let short : c.args.width ≤ length c.args.a.now = first_of (omega arith, search rules) in
    let len : length c.in_ok-word.word ≡ c.args.width = omega (arith, ap length c.in_ok-word.ensures, length-take c.args.width c.args.a.now) in
    resized A c.args.signed wide c.args.a.now c.in_ok-word.word c.args.width short len c.in_ok-word.ensures
