use Rattle.std.proofs.Common.{rules, ◌≡◌, ℤ, to_z, of_z, sym, subst, ◌∙◌}
use Rattle.std.specs.Int.{w128}
use Rattle.std.proofs.lemmas.Int.{to_z-of_z}
use Rattle.term_core.specs.Term.{fits_value}
use Rattle.term_fold.specs.declared.operands.Pick.TheVariants.{Number}
use Rattle.term_fold.specs.Picks.{IsFitsPick}
use Rattle.term_fold.proofs.Constants.{fits_picked_of, flag_number}
use Rattle.term_fold.proofs.picks.fits_picked.Goals as goal

pub returns-in-Some-fitting : goal.returns-in-Some-fitting
returns-in-Some-fitting c =
    let ca : to_z w128 (of_z w128 c.in-Some.a) ≡ c.in-Some.a = to_z-of_z w128 c.in-Some.a (search rules) in
    let cb : to_z w128 (of_z w128 c.in-Some-right.b) ≡ c.in-Some-right.b = to_z-of_z w128 c.in-Some-right.b (search rules) in
    let P : ℤ → Type 0 = λ m. IsFitsPick c.args.op c.args.o (Number m) in
    subst P (sym (flag_number c.in-Some-fitting.fits)) (fits_picked_of c.args.o c.args.op c.in-Some.a c.in-Some-right.b c.in-Some-fitting.fits c.in-Some.is c.in-Some-right.is (c.in-Some-fitting.ensures ∙ (λ i. fits_value c.args.o.shape c.args.o.other c.args.op (ca i) (cb i))))
