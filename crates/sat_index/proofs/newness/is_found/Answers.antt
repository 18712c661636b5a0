use Rattle.std.proofs.Common.{refl}
use Rattle.sat_index.proofs.newness.is_found.Goals as goal

pub returns-then-not-is_within-clause-no : goal.returns-then-not-is_within-clause-no
returns-then-not-is_within-clause-no c = λ no i lt e all. c.if-not-is_within.ensures refl (e.signature.least c.args.signature c.requires.signature (λ l w. c.requires.flagged l (all l w)))
