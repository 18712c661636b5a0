use Rattle.std.proofs.Common.{take}
use Rattle.sat_index.specs.Signature.{IsSignature}
use Rattle.sat_index.proofs.signature.signature_of.Given as goal

abbrev pub invariant-loop-lit : goal.invariant-loop-lit
invariant-loop-lit l = IsSignature (take l.lit-index l.clause) l.made
