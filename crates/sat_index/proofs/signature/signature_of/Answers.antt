use Rattle.std.proofs.Common.{ℕ, ◌+◌, take, sym, subst}
use Rattle.std.specs.Int.Bits.{bit_and}
use Rattle.sat_index.specs.Signature.{IsSignature}
use Rattle.sat_index.proofs.Signatures.{IsSignature-more}
use Rattle.sat_index.proofs.signature.signature_of.Goals as goal

pub loop-lit-preserved : goal.loop-lit-preserved
loop-lit-preserved c =
    let made = IsSignature-more c.args.clause.now c.loop-lit.made c.loop-lit.lit-index 0 c.loop-lit-test.true c.loop-lit.invariant in
    subst (λ (x : ℕ). IsSignature (take (c.loop-lit.lit-index + 1) c.args.clause.now) (bit_and c.loop-lit.made x)) (sym c.mask-made.ensures) made
