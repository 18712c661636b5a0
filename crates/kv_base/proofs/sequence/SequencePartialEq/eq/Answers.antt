use Rattle.std.proofs.Common.{◌∙◌}
use Rattle.std.specs.Cmp.Lexicographic.{pointwise}
use Rattle.std.proofs.lemmas.Slice.Eq.{slice_eq-Decides}
use Rattle.kv_base.proofs.sequence.SequencePartialEq.eq.Goals as goal

pub returns-clause-same : goal.returns-clause-same
returns-clause-same g c =
    slice_eq-Decides g.met.T.Exact.decides c.args.self.now c.args.other.now c.eq.result
    (c.eq.ensures ∙ (λ i. pointwise g.T.PartialEq.eq (c.as_slice.ensures i) (c.as_slice-2.ensures i)))
