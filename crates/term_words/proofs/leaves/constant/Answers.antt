use Rattle.std.proofs.Common.{ap, ◌∙◌}
use Rattle.std.proofs.lemmas.Int.{to_z-of_z}
use Rattle.std.specs.Int.{w128}
use Rattle.kv_num.specs.Shape.{wrap_at}
use Rattle.kv_num.proofs.Shapes.{wrap_at-in_shape}
use Rattle.term_words.proofs.leaves.constant.Goals as goal

pub returns-clause-value : goal.returns-clause-value
returns-clause-value c = λ A h.
    let s = c.args.shape in
    c.in_ok-word.ensures.value A s.signed h ∙ (ap (wrap_at s.width s.signed) (to_z-of_z w128 c.args.value c.ranges.value) ∙ wrap_at-in_shape s.width s.signed c.args.value c.requires.value)
