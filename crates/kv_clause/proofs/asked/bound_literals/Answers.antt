use Rattle.std.proofs.Common.{◌≡◌, ℕ, List, sym, ap, subst, ◌∙◌}
use Rattle.std.proofs.lemmas.List.{take_all}
use Rattle.sat_clause.specs.Literals.{AreBelow}
use Rattle.kv_clause.specs.declared.bound.BoundLit.{BoundLit}
use Rattle.kv_clause.specs.Queries.{lits_of}
use Rattle.kv_clause.proofs.Ranges.{lits_below}
use Rattle.kv_clause.proofs.asked.bound_literals.Goals as goal

pub returns-clause-below : goal.returns-clause-below
returns-clause-below c =
    let P : List ℕ → Type 0 = λ ls. AreBelow c.args.t.now.vars ls in
    let all = take_all c.loop-candidate.candidate-index c.as_slice-candidate-items.result.now c.loop-candidate-test.false in
    let made : c.loop-candidate.made ≡ lits_of c.args.t.now.bounds c.args.set.now =
    c.loop-candidate.invariant ∙ ap (λ (cs : List BoundLit). lits_of cs c.args.set.now) (all ∙ c.as_slice-candidate-items.ensures) in
    subst P (sym made) (lits_below c.args.t.now.vars c.args.t.now.bounds c.args.set.now c.args.t.now.bounds_below)
