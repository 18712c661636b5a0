use Rattle.std.proofs.Common.{rules, ◌-◌, ◌^◌, pos, FitsSigned, ap, sym, ◌∙◌}
use Rattle.std.proofs.lemmas.Int.{to_z-of_z}
use Rattle.std.specs.Int.{w128}
use Rattle.kv_num.specs.Bits.{bit_of}
use Rattle.kv_num.specs.Shape.{bits_at, not_at}
use Rattle.kv_num.proofs.EachBit.{complement_bits, complement_held}
use Rattle.kv_num.proofs.Patterns.{bit_of-wrap_at, same_from_bits_of}
use Rattle.kv_num.proofs.Shapes.{range-wrap_at}
use Rattle.kv_num.proofs.bitwise.bit_not_at.Goals as goal

pub returns-clause-bits : goal.returns-clause-bits
returns-clause-bits c = λ k h.
    let made : FitsSigned w128 c.wrap_at.result = search rules in
    ap (λ z. bit_of z k) (to_z-of_z w128 c.wrap_at.result made ∙ c.wrap_at.ensures.value) ∙ (bit_of-wrap_at c.args.width c.args.signed _ k h ∙ complement_held c.args.a k c.ranges.a)

pub returns-clause-value : goal.returns-clause-value
returns-clause-value c =
    let made : FitsSigned w128 c.wrap_at.result = search rules in
    to_z-of_z w128 c.wrap_at.result made
    ∙ same_from_bits_of c.args.width c.args.signed c.wrap_at.result (not_at c.args.width c.args.signed c.args.a) c.wrap_at.ensures.range (range-wrap_at c.args.width c.args.signed (pos (2 ^ c.args.width - 1 - bits_at c.args.width c.args.a)))
    (λ k h. ap (λ z. bit_of z k) c.wrap_at.ensures.value ∙ (bit_of-wrap_at c.args.width c.args.signed _ k h ∙ (complement_held c.args.a k c.ranges.a ∙ sym (complement_bits c.args.width c.args.signed c.args.a k h))))
