use Rattle.std.proofs.Common.{◌≡◌, drop}
use Rattle.c_rules.specs.Declarators.{const_among}
use Rattle.c_decls.proofs.declarators.const_among.Given as goal

abbrev pub invariant-loop-qualifier : goal.invariant-loop-qualifier
invariant-loop-qualifier l = const_among (drop l.qualifier-index l.qualifiers) ≡ const_among l.qualifiers
