-- What the end of a run, and a step, say in the machine's terms.
use Rattle.std.specs.Prelude.{◌≡◌, Option, Some, None, Result, Ok, Err}
use Rattle.c_straight_model.specs.Machine as spec
use Rattle.c_replay.specs.declared.run.RunEnd.{RunEnd}
use Rattle.c_replay.specs.declared.run.RunEnd.TheVariants as end

abbrev pub answer_of : RunEnd → spec.Answer
answer_of (end.Broken check line) = spec.Broken check line
answer_of end.Ended = spec.Ended

-- what a function that makes a step ensures
abbrev pub Steps : {E : Type 0} → spec.Answer → Result (Option RunEnd) E → spec.Configuration → Type 0
Steps answer (Ok None) new = answer ≡ spec.Next new
Steps answer (Ok (Some end)) new = answer ≡ answer_of end
Steps answer (Err e) new = Unit {0}
