use Rattle.std.proofs.Common.{ℤ, sym, subst}
use Rattle.std.proofs.lemmas.Int.{to_z-of_z}
use Rattle.std.specs.Int.{w128}
use Rattle.kv_num.proofs.Held.{held}
use Rattle.term_core.specs.Shape.{HasShape}
use Rattle.term_tests.proofs.folds.shaped.Goals as goal

pub add-requires : goal.add-requires
add-requires c =
    let n : ℤ = c.wrap_at-number.result in
    let P : ℤ → Type 0 = λ m. HasShape c.args.shape m in
    (c.requires, subst P (sym (to_z-of_z w128 n (held c.args.shape.width c.args.shape.signed (record { some = c.requires.0; few = c.requires.1 }) n c.wrap_at-number.ensures.range))) c.wrap_at-number.ensures.range)
