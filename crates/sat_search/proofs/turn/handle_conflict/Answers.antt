use Rattle.std.proofs.Common.{ℕ, List, subst, sym, inl}
use Rattle.sat_clause.specs.Propagation.{Conflict}
use Rattle.sat_search.specs.declared.once.Once.{Once}
use Rattle.sat_search.specs.Once.{OnceSays}
use Rattle.sat_search.proofs.Flips.{flip_rank}
use Rattle.sat_search.proofs.turn.handle_conflict.Goals as goal

pub returns-in-Flipped : goal.returns-in-Flipped
returns-in-Flipped c =
    let p = c.args.parts.now in
    let q = c.resolve_conflict.new.parts in
    let h = subst (λ (x : Once). OnceSays c.args.assumed.now p q x) c.in-Flipped.is c.in_ok-resolve_conflict.ensures.says in
    (h.0, h.1, h.2, flip_rank p.trail.steps.items q.trail.steps.items p.trail.truth.items p.trail.place.items p.trail.ok h.3)

pub returns-in-Refuted : goal.returns-in-Refuted
returns-in-Refuted c =
    let p = c.args.parts.now in
    let q = c.resolve_conflict.new.parts in
    let h = subst (λ (x : Once). OnceSays c.args.assumed.now p q x) c.in-Refuted.is c.in_ok-resolve_conflict.ensures.says in
    (h.3, h.1, h.2.size, inl (subst (λ (x : List (List ℕ)). Conflict x c.args.assumed.now) (sym h.3) h.0))
