use Rattle.std.proofs.Common.{◌≡◌, ◌++◌, drop}
use Rattle.c_rules.specs.Declarators.{volatile_from}
use Rattle.c_decls.proofs.declarators.volatile_pairs.Given as goal

abbrev pub invariant-loop-qualifier : goal.invariant-loop-qualifier
invariant-loop-qualifier l = l.pairs ++ volatile_from l.at (drop l.qualifier-index l.qualifiers) ≡ volatile_from l.first l.qualifiers
