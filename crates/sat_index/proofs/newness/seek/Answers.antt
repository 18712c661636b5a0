use Rattle.std.proofs.Common.{ℕ, ◌≡◌, [], List, get_or, subst, sym, arith, below_more, ◌∙◌}
use Rattle.std.proofs.lemmas.List.{get_or_default}
use Rattle.sat_index.specs.declared.index.Occurrence.{Occurrence}
use Rattle.sat_index.specs.Listed.{IsListed, NoneFlagged}
use Rattle.sat_index.proofs.newness.seek.Goals as goal

pub returns : goal.returns
returns c = λ i lt inc.
    let w = c.requires.indexed i lt in
    let v = inc w.0 w.1 in
    let e : get_or c.args.clause.now v.0 0 ≡ w.0 = get_or_default c.args.clause.now v.0 0 w.0 v.1 ∙ v.2 in
    c.loop-m.invariant v.0 (omega (arith, v.1)) i lt (subst (λ (x : ℕ). IsListed c.args.store.now (get_or c.args.index.now x []) i) (sym e) w.2) (λ m h. c.requires.flagged m (inc m h))

pub loop-m-preserved : goal.loop-m-preserved
loop-m-preserved c = below_more _ _ c.loop-m.invariant
    (subst (λ (x : List Occurrence). NoneFlagged c.args.store.now x c.args.flags.now) c.get.ensures c.in-None.ensures)
