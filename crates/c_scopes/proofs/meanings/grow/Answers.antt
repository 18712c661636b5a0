use Rattle.std.proofs.Common.{◌≤◌, length, ap, ◌∙◌, arith}
use Rattle.c_rules.specs.Scopes.{put_at}
use Rattle.c_scopes.proofs.Tables.{put_at-push}
use Rattle.c_scopes.proofs.meanings.grow.Goals as goal

pub loop-table-preserved : goal.loop-table-preserved
loop-table-preserved c meaning =
    let ends : length c.loop-table.table ≤ c.args.at = omega arith in
    ap (λ table. put_at table c.args.at meaning) c.in_ok-push.ensures.ok ∙ put_at-push c.loop-table.table c.args.at meaning ends ∙ c.loop-table.invariant meaning
