use Rattle.std.proofs.Common.{◌≡◌, ◌<◌, ◌^◌, take}
use Rattle.c_tokens.specs.Pieces.{written}
use Rattle.c_scan.proofs.bytes.written.Given as goal

-- the number that the digits so far write
abbrev pub invariant-loop-c : goal.invariant-loop-c
invariant-loop-c l = record { value : l.value ≡ written l.base (take l.c-index l.digits); bound : l.value < 2 ^ 64 }
