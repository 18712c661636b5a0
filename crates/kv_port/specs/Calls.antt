-- The calls of a form in memory, counted for each method.
use Rattle.std.specs.Prelude.{ℕ, ◌+◌, ◌-◌, ◌^◌, min}
use Rattle.kv_port.specs.declared.calls.Call.{Call}
use Rattle.kv_port.specs.declared.calls.Call.TheVariants.{Open, Read, Create, Write}
use Rattle.kv_port.specs.declared.calls.Counts.{Counts}

-- how many calls of a method there were, which is the number of the last one
abbrev pub number_of : Counts → Call → ℕ
number_of counts Open = counts.opens
number_of counts Read = counts.reads
number_of counts Create = counts.creates
number_of counts Write = counts.writes

-- one more, up to the last number
abbrev pub one_more : ℕ → ℕ
one_more number = min (number + 1) (2 ^ 32 - 1)

-- the counts after one more call of a method
abbrev pub counted : Counts → Call → Counts
counted counts Open = record counts { opens = one_more counts.opens }
counted counts Read = record counts { reads = one_more counts.reads }
counted counts Create = record counts { creates = one_more counts.creates }
counted counts Write = record counts { writes = one_more counts.writes }
