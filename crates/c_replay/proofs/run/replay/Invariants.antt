use Rattle.std.proofs.Common.{◌≡◌, ℕ}
use Rattle.c_straight_model.specs.Machine.{Answer, after, Comes}
use Rattle.c_straight_model.proofs.Measure.{steps_left}
use Rattle.c_replay.proofs.run.replay.Given as goal

-- what comes from here comes from the start
abbrev pub invariant-loop-machine : goal.invariant-loop-machine
invariant-loop-machine l = (answer : Answer) (n : ℕ) → after n l.machine ≡ answer → Comes l.program l.inputs answer

abbrev pub decreases-loop-machine : goal.decreases-loop-machine
decreases-loop-machine l = steps_left l.machine.control
