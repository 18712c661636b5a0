use Rattle.std.proofs.Common.{ℕ, List, length, sym, subst, ◌∙◌}
use Rattle.std.proofs.lemmas.Bool.{false≢true}
use Rattle.sat_core.specs.Finding.{AreWider}
use Rattle.sat_core.proofs.Idle.{Conflict-push}
use Rattle.sat_core.proofs.Rooms.{IsRoom-wider}
use Rattle.sat_core.proofs.solver.add_to.Goals as goal

pub returns-then-is_refuted-clause-kept : goal.returns-then-is_refuted-clause-kept
returns-then-is_refuted-clause-kept c =
    (λ e. Conflict-push c.args.parts.now.store c.push.new.self c.as_slice-then-is_refuted.result.now c.in_ok-push.ensures.ok (c.requires.0 c.if-is_refuted.true), λ e. absurd (false≢true (sym e)))

pub returns-clause-room : goal.returns-clause-room
returns-clause-room c =
    let p = c.args.parts.now in
    let q = c.insert.new.parts in
    let same = c.as_slice-2.ensures.value ∙ c.in_ok-lits.ensures ∙ c.as_slice.ensures in
    let wider : AreWider c.args.clause.now (length p.trail.truth.items) (length q.trail.truth.items) = subst (λ (x : List ℕ). AreWider x (length p.trail.truth.items) (length q.trail.truth.items)) same c.in_ok-refuted.ensures.wider in
    IsRoom-wider c.args.clause.now (length p.trail.truth.items) (length q.trail.truth.items) p.trail.ok.even q.trail.ok.even wider
