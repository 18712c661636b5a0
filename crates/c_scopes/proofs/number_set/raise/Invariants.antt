use Rattle.std.proofs.Common.{◌≡◌, ℕ, ◌+◌, ◌-◌, length}
use Rattle.c_scopes.specs.Flags.{flag_at}
use Rattle.c_scopes.proofs.number_set.raise.Given as goal

abbrev pub invariant-loop-flags : goal.invariant-loop-flags
invariant-loop-flags l = (n : ℕ) → flag_at l.flags n ≡ flag_at l.fn.flags n

abbrev pub decreases-loop-flags : goal.decreases-loop-flags
decreases-loop-flags l = l.number + 1 - length l.flags
