use Rattle.std.proofs.Common.{arith, ◌≡◌, ◌+◌, ◌-◌, ◌*◌, ◌^◌, Bool, length, sym, subst, pos, ◌-ℤ◌}
use Rattle.sat_clause.specs.Literals.{is_true}
use Rattle.word_sums.specs.Words.{bit, number, word_value}
use Rattle.word_gates.proofs.Negations.{value_signed, value_unsigned}
use Rattle.word_gates.proofs.signs.sign.Goals as goal

pub returns-then-signed-clause-value : goal.returns-then-signed-clause-value
returns-then-signed-clause-value c = λ A h.
    let w = c.args.word.now in
    let l = c.index-word-word.result in
    let len : length c.args.word.now ≡ (length c.args.word.now - 1) + 1 = omega arith in
    let P : Bool → Type 0 = λ s. word_value A s w ≡ pos (number A w) -ℤ pos (2 ^ length w * bit (is_true A l)) in
    subst P (sym c.if-signed.true) (value_signed A w (length w - 1) l len c.index-word-word.is)

pub returns-clause-value : goal.returns-clause-value
returns-clause-value c = λ A h.
    let w = c.args.word.now in
    let l = c.in_ok-never.never in
    let P : Bool → Type 0 = λ s. word_value A s w ≡ pos (number A w) -ℤ pos (2 ^ length w * bit (is_true A l)) in
    subst P (sym c.if-signed.false) (value_unsigned A w (is_true A l) (c.in_ok-never.ensures.value A h))
