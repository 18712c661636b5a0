use Rattle.std.proofs.Common.{◌<◌, length, get_or, set, ap, ◌∙◌, add-one, arith}
use Rattle.c_rules.specs.Texts.{owned_by}
use Rattle.c_scopes.proofs.Members.{mapped_more}
use Rattle.c_scopes.proofs.name_table.own_all.Goals as goal

pub loop-object-preserved : goal.loop-object-preserved
loop-object-preserved c =
    let at = c.loop-object.object-index in
    let within : at < length c.args.objects.now = omega arith in
    rw add-one (ap (λ objects. set objects at (owned_by c.args.number (get_or objects at c.object-item.result))) c.loop-object.invariant
    ∙ mapped_more (owned_by c.args.number) c.args.objects.now at c.object-item.result within)
