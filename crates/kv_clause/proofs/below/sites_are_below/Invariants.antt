use Rattle.std.proofs.Common.{◌<◌, take}
use Rattle.std.specs.List.{All}
use Rattle.sat_clause.specs.Literals.{variable_of, AreBelow}
use Rattle.kv_clause.proofs.below.sites_are_below.Given as goal

abbrev pub invariant-loop-site : goal.invariant-loop-site
invariant-loop-site l = All (λ s. variable_of s.taken < l.n) (take l.site-index l.site-items) × All (λ s. AreBelow l.n s.bits) (take l.site-index l.site-items)
