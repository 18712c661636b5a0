use Rattle.std.proofs.Common.{rules, arith, ◌≡◌, ℤ, pos, to_z, of_z, sym, subst, ◌∙◌}
use Rattle.std.proofs.lemmas.Grind.{common_steps}
use Rattle.std.proofs.lemmas.Int.{to_z-of_z}
use Rattle.std.specs.Int.{w128}
use Rattle.kv_num.specs.Quotient.{remainder_of}
use Rattle.kv_num.proofs.Held.{held}
use Rattle.term_core.specs.declared.term.BinaryOp.{BinaryOp}
use Rattle.term_core.specs.Term.{binary_value}
use Rattle.term_fold.proofs.Constants.{rem_constant}
use Rattle.term_fold.proofs.computed.arithmetic.Goals as goal

pub returns-in-Rem : goal.returns-in-Rem
returns-in-Rem c =
    let v : ℤ = c.rem_at.result.value in
    let ca : to_z w128 (of_z w128 c.args.a) ≡ c.args.a = to_z-of_z w128 c.args.a c.ranges.a in
    let cb : to_z w128 (of_z w128 c.args.b) ≡ c.args.b = to_z-of_z w128 c.args.b c.ranges.b in
    let nonzero : (c.args.b ≡ pos 0 → ⊥) = first_of (search rules, grind (arith, common_steps)) in
    let P : BinaryOp → Type 0 = λ op. to_z w128 (of_z w128 v) ≡ binary_value c.args.shape c.args.shape op c.args.a c.args.b in
    subst P (sym c.in-Rem.is) (to_z-of_z w128 v (held c.args.shape.width c.args.shape.signed (record { some = c.requires.valid.0; few = c.requires.valid.1 }) v c.rem_at.ensures.range) ∙ rem_constant c.args.shape c.args.a c.args.b v (c.rem_at.ensures.value ∙ (λ i. remainder_of (ca i) (cb i))) nonzero c.rem_at.ensures.range)
