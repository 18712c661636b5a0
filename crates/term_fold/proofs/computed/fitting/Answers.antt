use Rattle.std.proofs.Common.{rules, arith, ◌≡◌, ◌-ℤ◌, ◌*ℤ◌, pos, to_z, of_z, sym, subst}
use Rattle.std.proofs.lemmas.Grind.{common_steps}
use Rattle.std.proofs.lemmas.Int.{to_z-of_z}
use Rattle.std.specs.Int.{w128}
use Rattle.kv_num.specs.Quotient.{quotient_of}
use Rattle.kv_num.proofs.Held.{fits_as}
use Rattle.term_core.specs.declared.term.BinaryOp.{BinaryOp}
use Rattle.term_core.specs.Term.{fits_value}
use Rattle.term_fold.proofs.Constants.{fits_constant, fits_quotient}
use Rattle.term_fold.proofs.computed.fitting.Goals as goal

pub returns-in-Sub : goal.returns-in-Sub
returns-in-Sub c =
    let ca : to_z w128 (of_z w128 c.args.a) ≡ c.args.a = to_z-of_z w128 c.args.a c.ranges.a in
    let cb : to_z w128 (of_z w128 c.args.b) ≡ c.args.b = to_z-of_z w128 c.args.b c.ranges.b in
    let exact = fits_as c.args.shape.width c.args.shape.signed c.sub_at.result.fits (to_z w128 (of_z w128 c.args.a) -ℤ to_z w128 (of_z w128 c.args.b)) (c.args.a -ℤ c.args.b) (λ i. ca i -ℤ cb i) c.sub_at.ensures.fits in
    let P : BinaryOp → Type 0 = λ op. c.sub_at.result.fits ≡ fits_value c.args.shape c.args.other op c.args.a c.args.b in
    subst P (sym c.in-Sub.is) (fits_constant c.args.shape (c.args.a -ℤ c.args.b) c.sub_at.result.fits exact)

pub returns-in-Mul : goal.returns-in-Mul
returns-in-Mul c =
    let ca : to_z w128 (of_z w128 c.args.a) ≡ c.args.a = to_z-of_z w128 c.args.a c.ranges.a in
    let cb : to_z w128 (of_z w128 c.args.b) ≡ c.args.b = to_z-of_z w128 c.args.b c.ranges.b in
    let exact = fits_as c.args.shape.width c.args.shape.signed c.mul_at.result.fits (to_z w128 (of_z w128 c.args.a) *ℤ to_z w128 (of_z w128 c.args.b)) (c.args.a *ℤ c.args.b) (λ i. ca i *ℤ cb i) c.mul_at.ensures.fits in
    let P : BinaryOp → Type 0 = λ op. c.mul_at.result.fits ≡ fits_value c.args.shape c.args.other op c.args.a c.args.b in
    subst P (sym c.in-Mul.is) (fits_constant c.args.shape (c.args.a *ℤ c.args.b) c.mul_at.result.fits exact)

pub returns-in-Div : goal.returns-in-Div
returns-in-Div c =
    let ca : to_z w128 (of_z w128 c.args.a) ≡ c.args.a = to_z-of_z w128 c.args.a c.ranges.a in
    let cb : to_z w128 (of_z w128 c.args.b) ≡ c.args.b = to_z-of_z w128 c.args.b c.ranges.b in
    let exact = fits_as c.args.shape.width c.args.shape.signed c.div_at.result.fits (quotient_of (to_z w128 (of_z w128 c.args.a)) (to_z w128 (of_z w128 c.args.b))) (quotient_of c.args.a c.args.b) (λ i. quotient_of (ca i) (cb i)) c.div_at.ensures.fits in
    let nonzero : (c.args.b ≡ pos 0 → ⊥) = first_of (search rules, grind (arith, common_steps)) in
    let P : BinaryOp → Type 0 = λ op. c.div_at.result.fits ≡ fits_value c.args.shape c.args.other op c.args.a c.args.b in
    subst P (sym c.in-Div.is) (fits_quotient c.args.shape c.args.a c.args.b c.div_at.result.fits exact nonzero)

pub returns-in-Rem : goal.returns-in-Rem
returns-in-Rem c =
    let ca : to_z w128 (of_z w128 c.args.a) ≡ c.args.a = to_z-of_z w128 c.args.a c.ranges.a in
    let cb : to_z w128 (of_z w128 c.args.b) ≡ c.args.b = to_z-of_z w128 c.args.b c.ranges.b in
    let exact = fits_as c.args.shape.width c.args.shape.signed c.rem_at.result.fits (quotient_of (to_z w128 (of_z w128 c.args.a)) (to_z w128 (of_z w128 c.args.b))) (quotient_of c.args.a c.args.b) (λ i. quotient_of (ca i) (cb i)) c.rem_at.ensures.fits in
    let nonzero : (c.args.b ≡ pos 0 → ⊥) = first_of (search rules, grind (arith, common_steps)) in
    let P : BinaryOp → Type 0 = λ op. c.rem_at.result.fits ≡ fits_value c.args.shape c.args.other op c.args.a c.args.b in
    subst P (sym c.in-Rem.is) (fits_quotient c.args.shape c.args.a c.args.b c.rem_at.result.fits exact nonzero)
