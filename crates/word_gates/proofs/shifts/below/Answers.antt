use Rattle.std.proofs.Common.{[], ◌∷◌, ◌++◌, ap, ◌∙◌, append_assoc}
use Rattle.std.proofs.Math.ListN.{replicate}
use Rattle.std.proofs.lemmas.List.{replicate_more}
use Rattle.word_gates.proofs.shifts.below.Goals as goal

pub loop-i-preserved : goal.loop-i-preserved
loop-i-preserved c =
    c.in_ok-push.ensures.ok ∙ (ap (λ z. z ++ c.args.fill ∷ []) c.loop-i.invariant
    ∙ (append_assoc c.args.word.now (replicate c.loop-i._i c.args.fill) (c.args.fill ∷ []) ∙ ap (λ z. c.args.word.now ++ z) (replicate_more c.loop-i._i c.args.fill)))
