use Rattle.std.proofs.Common.{◌≡◌, subst, sym}
use Rattle.gate_core.specs.Table.{HasTruths, HasOneTruth}
use Rattle.gate_core.proofs.Truths.{has_truths, has_one_truth}
use Rattle.gate_core.proofs.table.Gates.truths_are_fixed.Goals as goal

pub returns-clause-exist : goal.returns-clause-exist
returns-clause-exist c =
    let e : c.args.self.now ≡ c.self.inside.gates.keys = cc in
    subst HasTruths (sym e) (has_truths c.self.inside.gates.keys c.self.invariant.0)

pub returns-clause-only : goal.returns-clause-only
returns-clause-only c =
    let e : c.args.self.now ≡ c.self.inside.gates.keys = cc in
    subst HasOneTruth (sym e) (has_one_truth c.self.inside.gates.keys c.self.invariant.0)
