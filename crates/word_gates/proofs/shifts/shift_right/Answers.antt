use Rattle.std.proofs.Common.{arith, ◌≡◌, ◌*◌, ◌<◌, ◌≤◌, length, ap, ◌∙◌}
use Rattle.kv_num.specs.Shift.{right_of}
use Rattle.sat_clause.specs.Literals.{is_true}
use Rattle.term_core.specs.Term.{right_by}
use Rattle.word_sums.specs.Words.{bit, number, word_value, continued_value}
use Rattle.word_gates.proofs.Bounds.{as_wrapped, cut_distance, right_kept}
use Rattle.word_gates.proofs.Moves.{right_value}
use Rattle.word_gates.proofs.shifts.shift_right.Goals as goal

pub returns-clause-exact : goal.returns-clause-exact
returns-clause-exact c = λ A sign h.
    let h3 = c.in_ok-word.ensures.grows.kept A h in
    let h2 = c.in_ok-moved.ensures.grows.kept A h3 in
    let h1 = c.in_ok-fill.ensures.grows.kept A h2 in
    let s = c.args.signed in
    let a = c.args.a.now in
    let bits = c.as_slice-bits.result.now in
    let ds = c.as_slice-distance.result.now in
    let e = c.as_slice-bits.ensures in
    let e2 = c.as_slice-distance.ensures in
    let used = c.min-used.result in
    let k = c.distance_bits.result in
    let l = c.in_ok-fill.fill in
    let n = length bits in
    let t = is_true A c.in_ok-near.near in
    let some : 0 < length bits = omega (arith, ap length e, c.requires.some) in
    let most : c.min-used.result ≤ c.distance_bits.result = omega (arith, c.min-used.ensures) in
    let room : c.min-used.result ≤ length ds = omega (arith, c.min-used.ensures) in
    let mask : number A c.in_ok-word.word ≡ number A c.in_ok-moved.moved * bit t = c.in_ok-word.ensures.value A h ∙ ap (λ w. number A w * bit t) c.as_slice.ensures in
    let len : length c.in_ok-word.word ≡ length bits = omega (arith, c.in_ok-word.ensures.len, ap length c.as_slice.ensures, c.in_ok-moved.ensures.len) in
    right_kept A s sign t c.in_ok-word.word c.in_ok-moved.moved ds n (word_value A s bits) some len c.in_ok-moved.ensures.len (c.in_ok-near.ensures.value A h1) mask
    (λ near.
    let short = cut_distance A ds k used n most room (λ (less : used < k). omega (arith, c.min-used.ensures)) c.distance_bits.ensures.enough near in
    right_value A s bits c.in_ok-moved.moved l (number A ds) some c.in_ok-moved.ensures.len (c.in_ok-fill.ensures.value A h2) (c.in_ok-moved.ensures.value A h3 ∙ ap (right_of (continued_value A l bits)) short))
    ∙ (λ j. right_by (length (e j)) (length (e2 j)) (word_value A s (e j)) (word_value A sign (e2 j)))

pub returns-clause-value : goal.returns-clause-value
returns-clause-value c = λ A sign h.
    let len : length c.in_ok-word.word ≡ length c.args.a.now = omega (arith, c.in_ok-word.ensures.len, ap length c.as_slice.ensures, c.in_ok-moved.ensures.len, ap length c.as_slice-bits.ensures) in
    as_wrapped A c.args.signed c.in_ok-word.word (length c.args.a.now) _ len (returns-clause-exact c A sign h)
