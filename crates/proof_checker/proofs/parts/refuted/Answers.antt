use Rattle.std.proofs.Common.{refl}
use Rattle.proof_checker.proofs.Bases.{Refuted-alone}
use Rattle.proof_checker.proofs.parts.refuted.Goals as goal

pub returns-then-parts-clause-exact : goal.returns-then-parts-clause-exact
returns-then-parts-clause-exact c =
    ((λ _. Refuted-alone c.args.parts.now.store c.args.asked.now (c.requires.ready.refuted c.if-parts.true)), (λ _. refl))
