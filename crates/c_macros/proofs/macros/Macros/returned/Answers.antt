use Rattle.std.proofs.Common.{◌≡◌, true, ◌<◌, length, get_or, sym, subst}
use Rattle.c_macros.specs.Chains.{Becomes, name_at}
use Rattle.c_macros.specs.Circles.{IsTrail, IsWay, Returns, is_marked}
use Rattle.c_macros.specs.Nexts.{IsChain}
use Rattle.c_macros.specs.Tables.{macros_view}
use Rattle.c_macros.proofs.Links.{kind_of_end}
use Rattle.c_macros.proofs.macros.Macros.returned.Goals as goal

pub returns-in-Ends-clause-kind : goal.returns-in-Ends-clause-kind
returns-in-Ends-clause-kind c =
    let macros = macros_view c.args.self.now in
    let model = c.args.self.now.model in
    let end : Becomes model macros (name_at macros.defined c.args.first) c.in-Ends.kind =
    subst (IsChain model macros c.args.self.now.returns.items c.args.first) c.in-Ends.is c.in_ok-kind.ensures in
    sym (kind_of_end model macros (name_at macros.defined c.args.first) c.in-Ends.kind end)

pub mark_leads-requires-clause-trail : goal.mark_leads-requires-clause-trail
mark_leads-requires-clause-trail c =
    let macros = macros_view c.args.self.now in
    let marks = c.args.self.now.returns.items in
    let over = c.in-Joins.over.keys in
    let at = c.in-Joins.at in
    let chain : IsWay macros.defined c.args.first over at × (is_marked marks at ≡ true) = subst (IsChain c.args.self.now.model macros marks c.args.first) c.in-Joins.is c.in_ok-kind.ensures in
    subst (λ s. IsTrail macros.defined s at) (sym c.as_slice.ensures.keys) chain.0.trail

pub mark_circle-requires-clause-trail : goal.mark_circle-requires-clause-trail
mark_circle-requires-clause-trail c =
    let macros = macros_view c.args.self.now in
    let D = macros.defined in
    let over = c.in-Circles.over.keys in
    let at = c.in-Circles.at in
    let chain : IsWay D c.args.first over at × (c.in-Circles.from < length over) × (get_or over c.in-Circles.from 0 ≡ at) × Returns D (name_at D at) (name_at D at) =
    subst (IsChain c.args.self.now.model macros c.args.self.now.returns.items c.args.first) c.in-Circles.is c.in_ok-kind.ensures in
    subst (λ s. IsTrail D s at) (sym c.as_slice-in-Circles.ensures.keys) chain.0.trail

pub mark_leads-requires-in-Circles-clause-trail : goal.mark_leads-requires-in-Circles-clause-trail
mark_leads-requires-in-Circles-clause-trail c =
    let macros = macros_view c.args.self.now in
    let D = macros.defined in
    let over = c.in-Circles.over.keys in
    let at = c.in-Circles.at in
    let chain : IsWay D c.args.first over at × (c.in-Circles.from < length over) × (get_or over c.in-Circles.from 0 ≡ at) × Returns D (name_at D at) (name_at D at) =
    subst (IsChain c.args.self.now.model macros c.args.self.now.returns.items c.args.first) c.in-Circles.is c.in_ok-kind.ensures in
    let trail : IsTrail D c.as_slice-in-Circles-2.result.now at = subst (λ s. IsTrail D s at) (sym c.as_slice-in-Circles-2.ensures.keys) chain.0.trail in
    subst (λ n. IsTrail n.defined c.as_slice-in-Circles-2.result.now at) (sym c.mark_circle.ensures.macros) trail
