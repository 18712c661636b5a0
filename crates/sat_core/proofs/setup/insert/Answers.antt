use Rattle.std.proofs.Common.{◌≡◌, length, sym, ◌∙◌}
use Rattle.std.proofs.lemmas.Bool.{false≢true, eqb-true}
use Rattle.sat_core.proofs.Idle.{Conflict-empty}
use Rattle.sat_core.proofs.setup.insert.Goals as goal

pub returns-then-is_empty-clause-kept : goal.returns-then-is_empty-clause-kept
returns-then-is_empty-clause-kept c =
    let none : length c.args.clause.now ≡ 0 = eqb-true (length c.args.clause.now) 0 (sym c.is_empty.ensures ∙ c.if-is_empty.true) in
    (λ e. Conflict-empty c.fit.new.parts.store c.push.new.self c.args.clause.now c.in_ok-push.ensures.ok none, λ e. absurd (false≢true (sym e)))
