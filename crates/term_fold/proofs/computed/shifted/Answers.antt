use Rattle.std.proofs.Common.{◌≡◌, ℤ, to_z, of_z, refl, sym, subst, ◌∙◌}
use Rattle.std.proofs.lemmas.Int.{to_z-of_z}
use Rattle.std.specs.Int.{w128}
use Rattle.kv_num.proofs.Held.{held}
use Rattle.term_core.specs.declared.term.BinaryOp.{BinaryOp}
use Rattle.term_core.specs.Term.{binary_value}
use Rattle.term_fold.proofs.Constants.{shl_from, shr_from}
use Rattle.term_fold.proofs.computed.shifted.Goals as goal

pub returns-in-ShiftLeft : goal.returns-in-ShiftLeft
returns-in-ShiftLeft c =
    let v : ℤ = c.shl_at.result.value in
    let P : BinaryOp → Type 0 = λ op. to_z w128 (of_z w128 v) ≡ binary_value c.args.shape c.args.other op c.args.a c.args.b in
    subst P (sym c.in-ShiftLeft.is) (to_z-of_z w128 v (held c.args.shape.width c.args.shape.signed (record { some = c.requires.valid.0; few = c.requires.valid.1 }) v c.shl_at.ensures.range)
    ∙ shl_from c.args.shape c.args.other c.args.a v c.args.b c.args.shape.width c.requires.valid c.ranges.a c.ranges.b refl c.if-b-lt0.false c.if-b-shape.false c.requires.right c.shl_at.ensures.value)

pub returns-in-ShiftRight : goal.returns-in-ShiftRight
returns-in-ShiftRight c =
    let v : ℤ = c.shr_at.result in
    let P : BinaryOp → Type 0 = λ op. to_z w128 (of_z w128 v) ≡ binary_value c.args.shape c.args.other op c.args.a c.args.b in
    subst P (sym c.in-ShiftRight.is) (to_z-of_z w128 v (held c.args.shape.width c.args.shape.signed (record { some = c.requires.valid.0; few = c.requires.valid.1 }) v c.shr_at.ensures.range)
    ∙ shr_from c.args.shape c.args.other c.args.a v c.args.b c.args.shape.width c.requires.valid c.ranges.a c.ranges.b refl c.if-b-lt0.false c.if-b-shape.false c.requires.right c.shr_at.ensures.range c.shr_at.ensures.value)
