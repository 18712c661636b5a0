use Rattle.std.proofs.Common.{◌≡◌, drop}
use Rattle.c_tokens.specs.Constants.{first_for}
use Rattle.c_scan.proofs.constants.first_for.Given as goal

-- no type so far can represent the value
abbrev pub invariant-loop-t : goal.invariant-loop-t
invariant-loop-t l = first_for (drop l.t-index l.types) l.value ≡ first_for l.types l.value
