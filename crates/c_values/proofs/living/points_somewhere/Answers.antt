use Rattle.std.proofs.Common.{◌≡◌, false, subst, sym, ◌∙◌}
use Rattle.std.proofs.lemmas.List.{take_all}
use Rattle.std.proofs.lemmas.List.Elements.{All-more}
use Rattle.c_values.specs.Pointing.{points, AreNoPointers}
use Rattle.c_values.proofs.living.points_somewhere.Goals as goal

pub loop-scalar-preserved : goal.loop-scalar-preserved
loop-scalar-preserved c =
    All-more (λ s. points s ≡ false) c.args.value.now c.loop-scalar.scalar-index _ c.loop-scalar-test.true c.loop-scalar.invariant (sym c.points_inside.ensures ∙ c.if-points_inside.false)

pub returns : goal.returns
returns c = λ _. subst AreNoPointers (take_all c.loop-scalar.scalar-index c.args.value.now c.loop-scalar-test.false) c.loop-scalar.invariant
