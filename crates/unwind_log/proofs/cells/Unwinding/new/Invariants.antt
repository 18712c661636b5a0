use Rattle.std.proofs.Common.{◌≡◌, length}
use Rattle.unwind_log.proofs.cells.Unwinding.new.Given as goal

abbrev pub invariant-loop : goal.invariant-loop
invariant-loop l = length l.cells.items ≡ l.counter
