use Rattle.std.proofs.Common.{rules, arith, ◌≡◌, length, ap, ◌∙◌}
use Rattle.std.proofs.lemmas.Grind.{common_steps}
use Rattle.kv_num.specs.Shape.{wrap_at}
use Rattle.word_sums.specs.Words.{word_value}
use Rattle.word_gates.proofs.Widths.{stretched_value}
use Rattle.word_gates.proofs.resizes.stretched.Goals as goal

pub returns-clause-value : goal.returns-clause-value
returns-clause-value c = λ A wide h.
    let len : length c.in_ok-word.word ≡ c.args.width = first_of (search rules, grind (arith, common_steps)) in
    stretched_value A c.args.signed wide c.as_slice-bits.result.now c.in_ok-word.word c.in_ok-fill.fill _ c.args.width c.in_ok-word.ensures len (c.in_ok-fill.ensures.value A h)
    ∙ ap (λ z. wrap_at c.args.width wide (word_value A c.args.signed z)) c.as_slice-bits.ensures
