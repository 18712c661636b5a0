use Rattle.std.proofs.Common.{map}
use Rattle.c_macros.specs.Chains.{name_at}
use Rattle.c_macros.specs.Tables.{macros_view}
use Rattle.c_macros.proofs.Chains.{unmet}
use Rattle.c_macros.proofs.Trails.{IsWalk}
use Rattle.c_macros.proofs.macros.Macros.walk.Given as goal

abbrev pub invariant-chain : goal.invariant-chain
invariant-chain l = IsWalk (macros_view l.self).defined l.first l.over.keys l.at

-- how many definitions weren't met
abbrev pub decreases-chain : goal.decreases-chain
decreases-chain l = unmet (macros_view l.self).defined (map (name_at (macros_view l.self).defined) l.over.keys)
