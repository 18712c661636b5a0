use Rattle.std.proofs.Common.{rules, if◌then◌else◌, sym, ap, ◌∙◌, FitsSigned}
use Rattle.std.specs.Int.{w128}
use Rattle.std.proofs.lemmas.Int.{to_z-of_z}
use Rattle.c_kinds.specs.declared.typed.Fixed.TheVariants.{NoValue, Number}
use Rattle.c_arithmetic.proofs.Divisions.{divided_is}
use Rattle.c_arithmetic.proofs.constants.divided.Goals as goal

pub returns-then-num : goal.returns-then-num
returns-then-num c = λ k a b r h v f.
    let fits : FitsSigned w128 c.args.num.value = search rules in
    ap Number (to_z-of_z w128 c.args.num.value fits)
    ∙ (sym (ap (λ t. if t then Number c.args.num.value else NoValue) c.if-num.true) ∙ divided_is k c.args.num a b r h v f)

pub returns-else-num : goal.returns-else-num
returns-else-num c = λ k a b r h v f.
    sym (ap (λ t. if t then Number c.args.num.value else NoValue) c.if-num.false) ∙ divided_is k c.args.num a b r h v f
