use Rattle.std.proofs.Common.{rules, ◌≡◌, ℤ, to_z, of_z, sym, subst, ◌∙◌}
use Rattle.std.proofs.lemmas.Int.{to_z-of_z}
use Rattle.std.specs.Int.{w128}
use Rattle.term_fold.specs.declared.operands.Pick.TheVariants.{Number}
use Rattle.term_core.specs.Term.{binary_value}
use Rattle.term_fold.specs.Picks.{IsPickOf}
use Rattle.term_fold.proofs.Constants.{constant_picked}
use Rattle.term_fold.proofs.picks.computed.Goals as goal

pub returns-in-Some-constant : goal.returns-in-Some-constant
returns-in-Some-constant c =
    let n : ℤ = c.in-Some-constant.number in
    let same : to_z w128 (of_z w128 n) ≡ n = to_z-of_z w128 n (search rules) in
    let ca : to_z w128 (of_z w128 c.in-Some.a) ≡ c.in-Some.a = to_z-of_z w128 c.in-Some.a (search rules) in
    let cb : to_z w128 (of_z w128 c.in-Some-right.b) ≡ c.in-Some-right.b = to_z-of_z w128 c.in-Some-right.b (search rules) in
    let P : ℤ → Type 0 = λ m. IsPickOf c.args.op c.args.o (Number m) in
    subst P (sym same) (constant_picked c.args.o c.args.op c.in-Some.a c.in-Some-right.b n c.in-Some.is c.in-Some-right.is (c.in-Some-constant.ensures ∙ (λ i. binary_value c.args.o.shape c.args.o.other c.args.op (ca i) (cb i))))
