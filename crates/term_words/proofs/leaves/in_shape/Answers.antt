use Rattle.std.proofs.Common.{ap, ◌∙◌}
use Rattle.kv_num.specs.Shape.{wrap_at}
use Rattle.word_sums.proofs.Numbers.{word_value-unsigned}
use Rattle.term_words.proofs.leaves.in_shape.Goals as goal

pub returns-clause-value : goal.returns-clause-value
returns-clause-value c = λ A h.
    let s = c.args.shape in
    c.in_ok-word-2.ensures.value A s.signed h ∙ ap (wrap_at s.width s.signed) (word_value-unsigned A c.args.own.now)
