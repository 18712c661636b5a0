use Rattle.std.proofs.Common.{◌≡◌, ◌+◌, drop}
use Rattle.c_tokens.specs.Pieces.{run_size}
use Rattle.c_scan.specs.Runs.{goes_on}
use Rattle.c_scan.proofs.bytes.run_size.Given as goal

-- the run goes on up to here
abbrev pub invariant-loop-i : goal.invariant-loop-i
invariant-loop-i l = l.i + run_size (goes_on l.run) l.last (drop l.i l.bytes) ≡ run_size (goes_on l.run) l.before l.bytes
