use Rattle.std.proofs.Common.{[], ◌∷◌, ◌++◌, ap, ◌∙◌}
use Rattle.std.proofs.lemmas.List.{replicate_more}
use Rattle.word_sums.proofs.parts.above.Goals as goal

pub loop-i-preserved : goal.loop-i-preserved
loop-i-preserved c = c.in_ok-push.ensures.ok ∙ (ap (λ z. z ++ c.args.fill ∷ []) c.loop-i.invariant ∙ replicate_more c.loop-i._i c.args.fill)
