use Rattle.std.proofs.Common.{arith, ◌≡◌, length, ap, sym, subst, ◌∙◌, false}
use Rattle.kv_num.specs.Bits.{differ}
use Rattle.kv_num.specs.Shape.{wrap_at, InShape}
use Rattle.sat_clause.specs.Literals.{is_true}
use Rattle.word_sums.specs.Words.{number, signed_number, word_value}
use Rattle.word_sums.proofs.Growth.{Grows-trans}
use Rattle.word_sums.proofs.Totals.{same_shape_at}
use Rattle.term_core.specs.Term.{remainder_by}
use Rattle.word_gates.proofs.Bounds.{as_wrapped}
use Rattle.word_gates.proofs.Divisions.{total_quotient_is, total_remainder_is, total_remainder_shape, remainder_value, shape_of_word}
use Rattle.word_gates.proofs.quotients.div_rem.Goals as goal

pub returns-in_err-negative-clause-grows : goal.returns-in_err-negative-clause-grows
returns-in_err-negative-clause-grows c = Grows-trans _ _ _ c.in_ok-x.ensures.grows (Grows-trans _ _ _ c.in_ok-y.ensures.grows (Grows-trans _ _ _ c.in_ok-exact.ensures.grows c.in_err-negative.ensures.grows))

pub returns-in_err-quotient-clause-grows : goal.returns-in_err-quotient-clause-grows
returns-in_err-quotient-clause-grows c = Grows-trans _ _ _ c.in_ok-x.ensures.grows (Grows-trans _ _ _ c.in_ok-y.ensures.grows (Grows-trans _ _ _ c.in_ok-exact.ensures.grows (Grows-trans _ _ _ c.in_ok-negative.ensures.grows c.in_err-quotient.ensures.grows)))

pub returns-in_err-remainder-clause-grows : goal.returns-in_err-remainder-clause-grows
returns-in_err-remainder-clause-grows c = Grows-trans _ _ _ c.in_ok-x.ensures.grows (Grows-trans _ _ _ c.in_ok-y.ensures.grows (Grows-trans _ _ _ c.in_ok-exact.ensures.grows (Grows-trans _ _ _ c.in_ok-negative.ensures.grows (Grows-trans _ _ _ c.in_ok-quotient.ensures.grows c.in_err-remainder.ensures.grows))))

pub returns-clause-grows : goal.returns-clause-grows
returns-clause-grows c = Grows-trans _ _ _ c.in_ok-x.ensures.grows (Grows-trans _ _ _ c.in_ok-y.ensures.grows (Grows-trans _ _ _ c.in_ok-exact.ensures.grows (Grows-trans _ _ _ c.in_ok-negative.ensures.grows (Grows-trans _ _ _ c.in_ok-quotient.ensures.grows c.in_ok-remainder.ensures.grows))))

pub returns-clause-quotient : goal.returns-clause-quotient
returns-clause-quotient c = λ A h.
    let h5 = c.in_ok-remainder.ensures.grows.kept A h in
    let h4 = c.in_ok-quotient.ensures.grows.kept A h5 in
    let h3 = c.in_ok-negative.ensures.grows.kept A h4 in
    let h2 = c.in_ok-exact.ensures.grows.kept A h3 in
    let h1 = c.in_ok-y.ensures.grows.kept A h2 in
    let s = c.args.signed in
    let nx = number A c.in_ok-x.x.word in
    let ny = number A c.in_ok-y.y.word in
    let sx = is_true A c.in_ok-x.x.negative in
    let sy = is_true A c.in_ok-y.y.negative in
    let neg = is_true A c.in_ok-negative.negative in
    let va = word_value A s c.args.a.now in
    let vb = word_value A s c.args.b.now in
    let ea : va ≡ signed_number sx nx = ap (word_value A s) (sym c.as_slice.ensures) ∙ c.in_ok-x.ensures.value A h1 in
    let eb : vb ≡ signed_number sy ny = ap (word_value A s) (sym c.as_slice-2.ensures) ∙ c.in_ok-y.ensures.value A h2 in
    let en = c.in_ok-negative.ensures.value A h4 in
    let digits = c.as_slice-digits.result.now in
    let is = rw (c.as_slice-3.ensures, c.as_slice-4.ensures) at (c.in_ok-exact.ensures.value A h3) in
    let exact = total_quotient_is va vb sx sy neg nx ny (number A c.in_ok-exact.exact.quotient) (number A c.in_ok-exact.exact.remainder) ea eb en is in
    let len : length digits ≡ length c.args.a.now = omega (arith, ap length c.as_slice-digits.ensures, c.in_ok-exact.ensures.quotient_len, ap length c.as_slice-3.ensures, c.in_ok-x.ensures.len, ap length c.as_slice.ensures) in
    c.in_ok-quotient.ensures.value A h5 ∙ (ap (λ k. wrap_at k s (signed_number neg (number A digits))) len ∙ ap (wrap_at (length c.args.a.now) s) (ap (λ z. signed_number neg (number A z)) c.as_slice-digits.ensures ∙ exact))

pub returns-clause-fits : goal.returns-clause-fits
returns-clause-fits c = λ A h.
    let h5 = c.in_ok-remainder.ensures.grows.kept A h in
    let h4 = c.in_ok-quotient.ensures.grows.kept A h5 in
    let h3 = c.in_ok-negative.ensures.grows.kept A h4 in
    let h2 = c.in_ok-exact.ensures.grows.kept A h3 in
    let h1 = c.in_ok-y.ensures.grows.kept A h2 in
    let s = c.args.signed in
    let nx = number A c.in_ok-x.x.word in
    let ny = number A c.in_ok-y.y.word in
    let sx = is_true A c.in_ok-x.x.negative in
    let sy = is_true A c.in_ok-y.y.negative in
    let neg = is_true A c.in_ok-negative.negative in
    let va = word_value A s c.args.a.now in
    let vb = word_value A s c.args.b.now in
    let ea : va ≡ signed_number sx nx = ap (word_value A s) (sym c.as_slice.ensures) ∙ c.in_ok-x.ensures.value A h1 in
    let eb : vb ≡ signed_number sy ny = ap (word_value A s) (sym c.as_slice-2.ensures) ∙ c.in_ok-y.ensures.value A h2 in
    let en = c.in_ok-negative.ensures.value A h4 in
    let digits = c.as_slice-digits.result.now in
    let is = rw (c.as_slice-3.ensures, c.as_slice-4.ensures) at (c.in_ok-exact.ensures.value A h3) in
    let exact = total_quotient_is va vb sx sy neg nx ny (number A c.in_ok-exact.exact.quotient) (number A c.in_ok-exact.exact.remainder) ea eb en is in
    let len : length digits ≡ length c.args.a.now = omega (arith, ap length c.as_slice-digits.ensures, c.in_ok-exact.ensures.quotient_len, ap length c.as_slice-3.ensures, c.in_ok-x.ensures.len, ap length c.as_slice.ensures) in
    same_shape_at (length digits) (length c.args.a.now) s (is_true A c.in_ok-quotient.quotient.fits) (signed_number neg (number A digits)) _ len (ap (λ z. signed_number neg (number A z)) c.as_slice-digits.ensures ∙ exact)
    (c.in_ok-quotient.ensures.fits A h5 (λ (plain : s ≡ false). en ∙ (ap (λ z. differ z sy) (c.in_ok-x.ensures.plain A h1 plain) ∙ c.in_ok-y.ensures.plain A h2 plain)))

pub returns-clause-exact_remainder : goal.returns-clause-exact_remainder
returns-clause-exact_remainder c = λ A h.
    let h5 = c.in_ok-remainder.ensures.grows.kept A h in
    let h4 = c.in_ok-quotient.ensures.grows.kept A h5 in
    let h3 = c.in_ok-negative.ensures.grows.kept A h4 in
    let h2 = c.in_ok-exact.ensures.grows.kept A h3 in
    let h1 = c.in_ok-y.ensures.grows.kept A h2 in
    let s = c.args.signed in
    let nx = number A c.in_ok-x.x.word in
    let ny = number A c.in_ok-y.y.word in
    let sx = is_true A c.in_ok-x.x.negative in
    let sy = is_true A c.in_ok-y.y.negative in
    let neg = is_true A c.in_ok-negative.negative in
    let va = word_value A s c.args.a.now in
    let vb = word_value A s c.args.b.now in
    let ea : va ≡ signed_number sx nx = ap (word_value A s) (sym c.as_slice.ensures) ∙ c.in_ok-x.ensures.value A h1 in
    let eb : vb ≡ signed_number sy ny = ap (word_value A s) (sym c.as_slice-2.ensures) ∙ c.in_ok-y.ensures.value A h2 in
    let en = c.in_ok-negative.ensures.value A h4 in
    let left = c.as_slice-left.result.now in
    let r = number A left in
    let is = rw (c.as_slice-3.ensures, c.as_slice-4.ensures, sym c.as_slice-left.ensures) at (c.in_ok-exact.ensures.value A h3) in
    let len : length c.args.a.now ≡ length left = omega (arith, ap length c.as_slice-left.ensures, c.in_ok-exact.ensures.remainder_len, ap length c.as_slice-3.ensures, c.in_ok-x.ensures.len, ap length c.as_slice.ensures) in
    let shape = total_remainder_shape va vb sx sy neg nx ny (number A c.in_ok-exact.exact.quotient) r ea eb en is (length c.args.a.now) s c.requires.some (shape_of_word A s c.args.a.now) in
    let exact = remainder_value A s sx left c.in_ok-remainder.remainder c.in_ok-remainder.ensures.len (c.in_ok-remainder.ensures.value A h) (subst (λ k. InShape k s (signed_number sx r)) len shape)
    ∙ total_remainder_is va vb sx sy neg nx ny (number A c.in_ok-exact.exact.quotient) r ea eb en is in
    exact

pub returns-clause-remainder : goal.returns-clause-remainder
returns-clause-remainder c = λ A h.
    let h5 = c.in_ok-remainder.ensures.grows.kept A h in
    let h4 = c.in_ok-quotient.ensures.grows.kept A h5 in
    let h3 = c.in_ok-negative.ensures.grows.kept A h4 in
    let h2 = c.in_ok-exact.ensures.grows.kept A h3 in
    let h1 = c.in_ok-y.ensures.grows.kept A h2 in
    let s = c.args.signed in
    let nx = number A c.in_ok-x.x.word in
    let ny = number A c.in_ok-y.y.word in
    let sx = is_true A c.in_ok-x.x.negative in
    let sy = is_true A c.in_ok-y.y.negative in
    let neg = is_true A c.in_ok-negative.negative in
    let va = word_value A s c.args.a.now in
    let vb = word_value A s c.args.b.now in
    let ea : va ≡ signed_number sx nx = ap (word_value A s) (sym c.as_slice.ensures) ∙ c.in_ok-x.ensures.value A h1 in
    let eb : vb ≡ signed_number sy ny = ap (word_value A s) (sym c.as_slice-2.ensures) ∙ c.in_ok-y.ensures.value A h2 in
    let en = c.in_ok-negative.ensures.value A h4 in
    let left = c.as_slice-left.result.now in
    let r = number A left in
    let is = rw (c.as_slice-3.ensures, c.as_slice-4.ensures, sym c.as_slice-left.ensures) at (c.in_ok-exact.ensures.value A h3) in
    let len : length c.args.a.now ≡ length left = omega (arith, ap length c.as_slice-left.ensures, c.in_ok-exact.ensures.remainder_len, ap length c.as_slice-3.ensures, c.in_ok-x.ensures.len, ap length c.as_slice.ensures) in
    let shape = total_remainder_shape va vb sx sy neg nx ny (number A c.in_ok-exact.exact.quotient) r ea eb en is (length c.args.a.now) s c.requires.some (shape_of_word A s c.args.a.now) in
    let exact = remainder_value A s sx left c.in_ok-remainder.remainder c.in_ok-remainder.ensures.len (c.in_ok-remainder.ensures.value A h) (subst (λ k. InShape k s (signed_number sx r)) len shape)
    ∙ total_remainder_is va vb sx sy neg nx ny (number A c.in_ok-exact.exact.quotient) r ea eb en is in
    as_wrapped A s c.in_ok-remainder.remainder (length c.args.a.now) (remainder_by va vb) (c.in_ok-remainder.ensures.len ∙ sym len) exact

pub returns-in_err-x-clause-grows : goal.returns-in_err-x-clause-grows
returns-in_err-x-clause-grows c = c.in_err-x.ensures.grows

pub returns-in_err-y-clause-grows : goal.returns-in_err-y-clause-grows
returns-in_err-y-clause-grows c = Grows-trans _ _ _ c.in_ok-x.ensures.grows c.in_err-y.ensures.grows

pub returns-in_err-exact-clause-grows : goal.returns-in_err-exact-clause-grows
returns-in_err-exact-clause-grows c = Grows-trans _ _ _ c.in_ok-x.ensures.grows (Grows-trans _ _ _ c.in_ok-y.ensures.grows c.in_err-exact.ensures.grows)

pub negated_where-requires-clause-some : goal.negated_where-requires-clause-some
negated_where-requires-clause-some c = omega (arith, ap length c.as_slice-left.ensures, c.in_ok-exact.ensures.remainder_len, ap length c.as_slice-3.ensures, c.in_ok-x.ensures.len, ap length c.as_slice.ensures)
