use Rattle.std.proofs.Common.{arith, ◌≡◌, ◌*◌, ◌<◌, ◌≤◌, ◌^◌, ◌&&◌, ◌||◌, not, length, ap, ◌∙◌, subst, ℕ, List, pos, ◌≤ℤ◌, IsTrue, ◌↔◌}
use Rattle.kv_num.specs.Shape.{InShape, wrap_at}
use Rattle.kv_num.specs.Shift.{left_of}
use Rattle.sat_clause.specs.Literals.{is_true}
use Rattle.sat_clause.proofs.Truths.{is_true-complement}
use Rattle.term_core.specs.Term.{left_by}
use Rattle.word_sums.specs.Words.{bit, number, word_value}
use Rattle.word_sums.proofs.Growth.{Grows-trans}
use Rattle.word_sums.proofs.Numbers.{number-bound}
use Rattle.word_gates.proofs.Bounds.{cut_distance, left_kept, left_kept_fits}
use Rattle.word_gates.proofs.shifts.shift_left.Goals as goal

pub returns-clause-value : goal.returns-clause-value
returns-clause-value c = λ A sign h.
    let h5 = c.in_ok-over.ensures.grows.kept A h in
    let h4 = c.in_ok-past.ensures.grows.kept A h5 in
    let h3 = c.in_ok-negative.ensures.grows.kept A h4 in
    let h2 = c.in_ok-value.ensures.grows.kept A h3 in
    let h1 = c.in_ok-moved.ensures.grows.kept A h2 in
    let s = c.args.signed in
    let bits = c.as_slice-bits.result.now in
    let ds = c.as_slice-distance.result.now in
    let e = c.as_slice-bits.ensures in
    let e2 = c.as_slice-distance.ensures in
    let used = c.min-used.result in
    let k = c.distance_bits.result in
    let n = length bits in
    let t = is_true A c.in_ok-near.near in
    let w = c.in_ok-moved.moved.value in
    let some : 0 < length bits = omega (arith, ap length e, c.requires.some) in
    let most : c.min-used.result ≤ c.distance_bits.result = omega (arith, c.min-used.ensures) in
    let room : c.min-used.result ≤ length ds = omega (arith, c.min-used.ensures) in
    let mask : number A c.in_ok-value.value ≡ number A w * bit t = c.in_ok-value.ensures.value A h3 ∙ ap (λ z. number A z * bit t) c.as_slice.ensures in
    let len : length c.in_ok-value.value ≡ length bits = omega (arith, c.in_ok-value.ensures.len, ap length c.as_slice.ensures, c.in_ok-moved.ensures.len) in
    left_kept A s sign t c.in_ok-value.value w ds n (word_value A s bits) some len c.in_ok-moved.ensures.len (c.in_ok-near.ensures.value A h1) mask
    (λ near.
    let short = cut_distance A ds k used n most room (λ (less : used < k). omega (arith, c.min-used.ensures)) c.distance_bits.ensures.enough near in
    c.in_ok-moved.ensures.value A h2 ∙ ap (λ d. wrap_at n s (left_of (word_value A s bits) d)) short)
    ∙ (λ j. wrap_at (length (e j)) s (left_by (length (e j)) (length (e2 j)) (word_value A s (e j)) (word_value A sign (e2 j))))

pub returns-clause-fits : goal.returns-clause-fits
returns-clause-fits c = λ A sign h.
    let h5 = c.in_ok-over.ensures.grows.kept A h in
    let h4 = c.in_ok-past.ensures.grows.kept A h5 in
    let h3 = c.in_ok-negative.ensures.grows.kept A h4 in
    let h2 = c.in_ok-value.ensures.grows.kept A h3 in
    let h1 = c.in_ok-moved.ensures.grows.kept A h2 in
    let s = c.args.signed in
    let bits = c.as_slice-bits.result.now in
    let ds = c.as_slice-distance.result.now in
    let e = c.as_slice-bits.ensures in
    let e2 = c.as_slice-distance.ensures in
    let used = c.min-used.result in
    let k = c.distance_bits.result in
    let n = length bits in
    let v = word_value A s bits in
    let t = is_true A c.in_ok-near.near in
    let f = is_true A c.in_ok-moved.moved.fits in
    let neg = is_true A c.in_ok-negative.negative in
    let g = is_true A c.complement-2.result in
    let some : 0 < length bits = omega (arith, ap length e, c.requires.some) in
    let most : c.min-used.result ≤ c.distance_bits.result = omega (arith, c.min-used.ensures) in
    let room : c.min-used.result ≤ length ds = omega (arith, c.min-used.ensures) in
    let past : is_true A c.in_ok-past.past ≡ (t && not f) = c.in_ok-past.ensures.value A h5 ∙ ap (λ z. t && z) (ap (is_true A) c.complement.ensures ∙ is_true-complement A c.in_ok-moved.moved.fits) in
    let over : g ≡ not ((t && not f) || neg) = ap (is_true A) c.complement-2.ensures ∙ (is_true-complement A c.in_ok-over.over ∙ ap not (c.in_ok-over.ensures.value A h ∙ ap (λ z. z || neg) past)) in
    let P : List ℕ → Type 0 = λ w. IsTrue g ↔ ((pos 0 ≤ℤ word_value A s w) × InShape (length w) s (left_by (length w) (length ds) (word_value A s w) (word_value A sign ds))) in
    let Q : List ℕ → Type 0 = λ w. IsTrue g ↔ ((pos 0 ≤ℤ word_value A s c.args.a.now) × InShape (length c.args.a.now) s (left_by (length c.args.a.now) (length w) (word_value A s c.args.a.now) (word_value A sign w))) in
    subst Q e2 (subst P e
    (left_kept_fits A sign t f neg g ds n (number A bits) (2 ^ length bits) s v some (c.in_ok-near.ensures.value A h1) (number-bound A bits) (c.in_ok-negative.ensures.value A h4)
    (λ near.
    let short = cut_distance A ds k used n most room (λ (less : used < k). omega (arith, c.min-used.ensures)) c.distance_bits.ensures.enough near in
    let R : ℕ → Type 0 = λ d. IsTrue f ↔ ((pos 0 ≤ℤ v) × InShape n s (left_of v d)) in
    subst R short (c.in_ok-moved.ensures.fits A h2))
    over))

pub returns-clause-grows : goal.returns-clause-grows
returns-clause-grows c = Grows-trans _ _ _ c.in_ok-near.ensures.grows (Grows-trans _ _ _ c.in_ok-moved.ensures.grows (Grows-trans _ _ _ c.in_ok-value.ensures.grows (Grows-trans _ _ _ c.in_ok-negative.ensures.grows (Grows-trans _ _ _ c.in_ok-past.ensures.grows c.in_ok-over.ensures.grows))))
