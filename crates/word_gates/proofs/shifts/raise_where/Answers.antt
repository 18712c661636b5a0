use Rattle.word_sums.proofs.Growth.{Grows-trans}
use Rattle.std.proofs.Common.{arith, ◌≤◌, ◌-◌, ◌==◌, ◌&&◌, ◌||◌, not, length, drop, ap, ◌∙◌, if◌then◌else◌, refl}
use Rattle.sat_clause.specs.Literals.{is_true}
use Rattle.word_sums.specs.Words.{number}
use Rattle.word_sums.proofs.Pieces.{rest_is}
use Rattle.word_gates.proofs.Moves.{raised_value, raised_past, swapped_choice}
use Rattle.word_gates.proofs.shifts.raise_where.Goals as goal

pub returns-clause-value : goal.returns-clause-value
returns-clause-value c = λ A h.
    let h4 = c.in_ok-word.ensures.grows.kept A h in
    let h3 = c.in_ok-lost.ensures.grows.kept A h4 in
    let h2 = c.in_ok-falls.ensures.grows.kept A h3 in
    let h1 = c.in_ok-past.ensures.grows.kept A h2 in
    let bits = c.as_slice-bits.result.now in
    let e = c.as_slice-bits.ensures in
    let w = c.args.word.now in
    let room : c.args.places ≤ length bits = omega (arith, ap length e) in
    let r = raised_value A bits c.in_ok-moved.moved c.args.places (length bits - c.args.places) c.in_ok-never.never room refl c.in_ok-moved.ensures (c.in_ok-never.ensures.value A h1) in
    c.in_ok-word.ensures.value A h ∙ (swapped_choice A c.args.test c.complement.result (number A w) (number A c.in_ok-moved.moved) c.complement.ensures
    ∙ ap (λ z. if is_true A c.args.test then z else number A w) (rw e at r))

pub returns-clause-over : goal.returns-clause-over
returns-clause-over c = λ A h.
    let h4 = c.in_ok-word.ensures.grows.kept A h in
    let h3 = c.in_ok-lost.ensures.grows.kept A h4 in
    let h2 = c.in_ok-falls.ensures.grows.kept A h3 in
    let h1 = c.in_ok-past.ensures.grows.kept A h2 in
    let bits = c.as_slice-bits.result.now in
    let e = c.as_slice-bits.ensures in
    let t = is_true A c.args.test in
    let room : c.args.places ≤ length bits = omega (arith, ap length e) in
    let kept : length bits - c.args.places ≤ length bits = omega arith in
    let r = raised_past A bits c.in_ok-moved.moved c.args.places (length bits - c.args.places) c.in_ok-never.never room refl c.in_ok-moved.ensures (c.in_ok-never.ensures.value A h1) in
    c.in_ok-lost.ensures.value A h4 ∙ ap (λ z. is_true A c.args.lost || z) (c.in_ok-falls.ensures.value A h3 ∙ ap (λ z. t && z) (c.in_ok-past.ensures.value A h2 ∙ (ap (λ z. not (number A z == 0)) (rest_is (length bits - c.args.places) bits kept) ∙ (ap (λ z. not (number A (drop (length z - c.args.places) z) == 0)) e ∙ (rw e at r)))))

pub returns-in_err-never-clause-grows : goal.returns-in_err-never-clause-grows
returns-in_err-never-clause-grows c = c.in_err-never.ensures.grows

pub returns-in_err-moved-clause-grows : goal.returns-in_err-moved-clause-grows
returns-in_err-moved-clause-grows c = c.in_ok-never.ensures.grows

pub returns-in_err-past-clause-grows : goal.returns-in_err-past-clause-grows
returns-in_err-past-clause-grows c = Grows-trans _ _ _ c.in_ok-never.ensures.grows c.in_err-past.ensures.grows

pub returns-in_err-falls-clause-grows : goal.returns-in_err-falls-clause-grows
returns-in_err-falls-clause-grows c = Grows-trans _ _ _ c.in_ok-never.ensures.grows (Grows-trans _ _ _ c.in_ok-past.ensures.grows c.in_err-falls.ensures.grows)

pub returns-in_err-lost-clause-grows : goal.returns-in_err-lost-clause-grows
returns-in_err-lost-clause-grows c = Grows-trans _ _ _ c.in_ok-never.ensures.grows (Grows-trans _ _ _ c.in_ok-past.ensures.grows (Grows-trans _ _ _ c.in_ok-falls.ensures.grows c.in_err-lost.ensures.grows))

pub returns-in_err-word-clause-grows : goal.returns-in_err-word-clause-grows
returns-in_err-word-clause-grows c = Grows-trans _ _ _ c.in_ok-never.ensures.grows (Grows-trans _ _ _ c.in_ok-past.ensures.grows (Grows-trans _ _ _ c.in_ok-falls.ensures.grows (Grows-trans _ _ _ c.in_ok-lost.ensures.grows c.in_err-word.ensures.grows)))

pub returns-clause-grows : goal.returns-clause-grows
returns-clause-grows c = Grows-trans _ _ _ c.in_ok-never.ensures.grows (Grows-trans _ _ _ c.in_ok-past.ensures.grows (Grows-trans _ _ _ c.in_ok-falls.ensures.grows (Grows-trans _ _ _ c.in_ok-lost.ensures.grows c.in_ok-word.ensures.grows)))
