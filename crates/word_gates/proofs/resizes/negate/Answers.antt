use Rattle.std.proofs.Common.{◌≡◌, ℕ, List, pos, ◌-ℤ◌, length, subst}
use Rattle.kv_num.specs.Shape.{wrap_at}
use Rattle.sat_clause.specs.Literals.{is_true}
use Rattle.word_sums.specs.Words.{word_value}
use Rattle.word_gates.proofs.Widths.{negated_value}
use Rattle.word_gates.proofs.resizes.negate.Goals as goal

pub returns-clause-value : goal.returns-clause-value
returns-clause-value c = λ A signed h.
    let P : List ℕ → Type 0 = λ z. word_value A signed c.in_ok-word.word ≡ wrap_at (length z) signed (pos 0 -ℤ word_value A signed z) in
    let before = c.in_ok-word.ensures.grows.kept A h in
    subst P c.as_slice.ensures
    (negated_value A signed c.as_slice.result.now c.in_ok-word.word (is_true A c.in_ok-always.always) c.in_ok-word.ensures.len (c.in_ok-always.ensures.value A before) (c.in_ok-word.ensures.value A h))
