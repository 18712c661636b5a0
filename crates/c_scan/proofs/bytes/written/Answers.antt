use Rattle.std.proofs.Common.{◌^◌, ◌∙◌, get_or, arith}
use Rattle.c_tokens.specs.Pieces.{digit_value}
use Rattle.c_scan.proofs.Digits.{stays_large, large_product, large_sum}
use Rattle.c_scan.proofs.bytes.written.Goals as goal

pub returns-in_default : goal.returns-in_default
returns-in_default c = λ small.
    let d = digit_value (get_or c.args.digits.now c.loop-c.c-index 0) in
    let large = stays_large c.args.base c.loop-c.value c.loop-c.c-index (2 ^ 64) c.args.digits.now (omega arith) c.loop-c.invariant.value (omega arith)
    (large_product c.loop-c.value c.from.result c.args.base d (2 ^ 64) c.from.ensures c.in_default.ensures) in
    omega (arith, large)

pub returns-in_default-checked_add : goal.returns-in_default-checked_add
returns-in_default-checked_add c = λ small.
    let d = digit_value (get_or c.args.digits.now c.loop-c.c-index 0) in
    let large = stays_large c.args.base c.loop-c.value c.loop-c.c-index (2 ^ 64) c.args.digits.now (omega arith) c.loop-c.invariant.value (omega arith)
    (large_sum c.loop-c.value c.from.result c.args.base c.in-Some.scaled c.from-in-loop-c.result d (2 ^ 64) c.from.ensures c.in-Some.ensures.1
    (c.from-in-loop-c.ensures ∙ c.digit_value.ensures.value) c.in_default-checked_add.ensures) in
    omega (arith, large)
