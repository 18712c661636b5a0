use Rattle.std.proofs.Common.{◌≡◌, ◌+◌, ◌-◌, ◌<◌, length, sym, ap, ◌∙◌, arith, subst, get_or}
use Rattle.c_macros.specs.Chains.{Edge, name_at}
use Rattle.c_macros.specs.Tables.{macros_view}
use Rattle.c_macros.proofs.Trails.{same_default}
use Rattle.c_macros.proofs.macros.Macros.mark_leads.Goals as goal

pub mark_lead-requires-clause-edge : goal.mark_lead-requires-clause-edge
mark_lead-requires-clause-edge c =
    let D = (macros_view c.args.self.now).defined in
    let over = c.args.over.now in
    let at = c.args.at in
    let next = c.loop-left.next in
    let k = c.loop-left.left - 1 in
    let within = c.loop-left.invariant.within in
    let less : k < length over = omega arith in
    let left : k + 1 ≡ c.loop-left.left = omega arith in
    let after : get_or over (k + 1) at ≡ next = ap (λ i. get_or over i at) left ∙ sym c.loop-left.invariant.next_is in
    let step = c.requires.trail k less in
    let edge : Edge D (name_at D (get_or over k 0)) (name_at D next) =
    subst (λ j. Edge D (name_at D (get_or over k 0)) (name_at D j)) after
    (subst (λ i. Edge D (name_at D i) (name_at D (get_or over (k + 1) at))) (same_default over k at 0 less) step.1) in
    subst (λ n. Edge n.defined (name_at n.defined (get_or over k 0)) (name_at n.defined next)) (sym c.loop-left.invariant.macros) edge
