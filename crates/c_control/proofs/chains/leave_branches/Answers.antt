use Rattle.std.proofs.Common.{◌-◌, ◌∙◌, ap, sym, arith}
use Rattle.c_tree.specs.Places.{leave}
use Rattle.c_control.proofs.Leaving.{leaves_none, leaves_goes_on, leaves_begins}
use Rattle.c_control.proofs.chains.leave_branches.Goals as goal

pub loop-turn-init : goal.loop-turn-init
loop-turn-init c = leaves_begins c.args.count (c.args.count - 0) c.args.place.now (omega arith)

pub loop-turn-preserved : goal.loop-turn-preserved
loop-turn-preserved c =
    c.loop-turn.invariant
    ∙ leaves_goes_on c.args.count c.loop-turn._turn c.loop-turn.place c.leave-in-loop-turn.new.self (omega arith)
    (c.leave-in-loop-turn.ensures.left ∙ ap leave c.leave.ensures.left)

pub returns : goal.returns
returns c = sym (c.loop-turn.invariant ∙ leaves_none (c.args.count - c.loop-turn._turn) c.loop-turn.place (omega arith))
