use Rattle.std.proofs.Common.{ℤ, length, sym, subst}
use Rattle.std.proofs.lemmas.Int.{to_z-of_z}
use Rattle.std.specs.Int.{w128}
use Rattle.kv_num.specs.IntType.{width_of, signed_of}
use Rattle.kv_num.proofs.Range.{width_valid}
use Rattle.kv_num.proofs.Held.{held}
use Rattle.term_core.specs.declared.term.TermKind.TheVariants.{Constant}
use Rattle.term_core.specs.Table.{IsTermAt}
use Rattle.term_tests.proofs.Fitting.{constant_fits}
use Rattle.term_tests.proofs.folds.constant.Goals as goal

pub add-requires : goal.add-requires
add-requires c =
    let n : ℤ = c.wrap-number.result in
    let P : ℤ → Type 0 = λ m. IsTermAt c.args.terms.now (length c.args.terms.now) (record { shape = c.of.result; kind = Constant m }) in
    subst P (sym (to_z-of_z w128 n (held (width_of c.args.t) (signed_of c.args.t) (width_valid c.args.t) n c.wrap-number.ensures.range))) (constant_fits c.args.terms.now c.args.t c.of.result n c.of.ensures c.wrap-number.ensures.range)
