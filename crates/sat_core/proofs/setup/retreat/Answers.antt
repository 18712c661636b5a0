use Rattle.std.proofs.Common.{length, refl, ◌∙◌, ap}
use Rattle.std.proofs.lemmas.List.{length-take-le}
use Rattle.sat_core.proofs.Idle.{IsState-retreat, IsIdle-from}
use Rattle.sat_core.proofs.setup.retreat.Goals as goal

pub returns-clause-idle : goal.returns-clause-idle
returns-clause-idle c =
    let p = c.args.parts.now in
    let t = c.rewind.new.trail in
    let r = c.requires in
    IsIdle-from p _ c.args._assumed.now r (IsState-retreat p.store c.args._assumed.now p.trail.steps.items t.steps.items p.start r.state c.rewind.ensures.steps) c.rewind.ensures.size r.range r.few r.indexed refl refl r.unset refl r.clean
    (ap length c.rewind.ensures.steps ∙ length-take-le p.start p.trail.steps.items r.state.early)
