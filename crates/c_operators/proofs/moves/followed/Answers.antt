use Rattle.std.proofs.Common.{rules, ◌<◌, ◌^◌}
use Rattle.c_operators.proofs.Cells.{led_on}
use Rattle.c_operators.proofs.moves.followed.Goals as goal

pub returns-then-leads-clause-room : goal.returns-then-leads-clause-room
returns-then-leads-clause-room c = λ l pointee is by.
    let in_range : c.in-At.cell < 2 ^ 64 = search rules in
    led_on l is pointee c.args.pointer c.in-At.object c.in-At.cell c.args.leads c.in-At.is c.if-leads.true by in_range
