use Rattle.std.proofs.Common.{rules, ◌≡◌, suc}
use Rattle.c_straight_model.specs.Machine.{step, Next}
use Rattle.c_straight_model.proofs.Measure.{step_falls}
use Rattle.c_replay.specs.RunEnd.{answer_of}
use Rattle.c_replay.proofs.Turns.{turns, stops}
use Rattle.c_replay.proofs.run.replay.Goals as goal

pub returns-in-Some : goal.returns-in-Some
returns-in-Some c =
    let e : step c.loop-machine.machine ≡ answer_of c.in-Some.end = search rules in
    c.loop-machine.invariant _ 1 (stops c.loop-machine.machine c.in-Some.end e)

pub loop-machine-smaller : goal.loop-machine-smaller
loop-machine-smaller c =
    let e : step c.loop-machine.machine ≡ Next c.step.new.self = search rules in
    step_falls c.loop-machine.machine c.step.new.self e

pub loop-machine-preserved : goal.loop-machine-preserved
loop-machine-preserved c = λ answer n h.
    let e : step c.loop-machine.machine ≡ Next c.step.new.self = search rules in
    c.loop-machine.invariant answer (suc n) (turns c.loop-machine.machine c.step.new.self e n answer h)
