use Rattle.std.proofs.Common.{◌<◌, ℕ, List, subst, refl, arith}
use Rattle.std.proofs.lemmas.List.{take_all}
use Rattle.std.proofs.lemmas.List.Elements.{All-more}
use Rattle.sat_clause.specs.Literals.{variable_of, AreBelow}
use Rattle.sat_clause.proofs.below.are_below.Goals as goal

pub loop-lit-preserved : goal.loop-lit-preserved
loop-lit-preserved c =
    let here : variable_of c.lit-item.result < c.args.n = omega (arith, c.variable.ensures) in
    All-more (λ (l : ℕ). variable_of l < c.args.n) c.as_slice-lit-items.result.now c.loop-lit.lit-index c.lit-item.result c.loop-lit-test.true c.loop-lit.invariant
    (subst (λ (l : ℕ). variable_of l < c.args.n) c.lit-item.is here)

pub returns : goal.returns
returns c =
    let items : List ℕ = c.as_slice-lit-items.result.now in
    let whole = subst (AreBelow c.args.n) (take_all c.loop-lit.lit-index items c.loop-lit-test.false) c.loop-lit.invariant in
    ((λ _. subst (AreBelow c.args.n) c.as_slice-lit-items.ensures whole), (λ _. refl))
