use Rattle.word_gates.proofs.Exact.{in_range_value}
use Rattle.word_gates.proofs.signs.is_in_range.Goals as goal

pub returns-then-signed-clause-value : goal.returns-then-signed-clause-value
returns-then-signed-clause-value c = λ A h.
    let h1 = c.in_ok-past.ensures.grows.kept A h in
    in_range_value A c.args.signed c.args.absolute_top c.args.word_top c.args.negative _ _ _ _ c.if-signed.true (c.in_ok-least.ensures.value A h1) c.complement.ensures (c.in_ok-past.ensures.value A h) c.complement-then-signed.ensures
