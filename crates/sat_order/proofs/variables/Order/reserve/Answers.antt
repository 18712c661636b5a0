use Rattle.std.proofs.Common.{ℕ, ◌≡◌, ◌+◌, ◌↔◌, List, Bool, length, ◌++◌, ap, subst, ◌∙◌, arith}
use Rattle.std.proofs.lemmas.List.{length-append}
use Rattle.sat_order.specs.Members.{members, IsIn, IsArranged}
use Rattle.sat_order.proofs.Arranged.{members-longer}
use Rattle.sat_order.proofs.variables.Order.reserve.Goals as goal

pub returns-clause-same : goal.returns-clause-same
returns-clause-same c = λ v.
    let h = c.self.inside.heap in
    let m = c.lengthen.new.self in
    let here : List ℕ = c.extend_from_slice.new.self.items in
    let e = c.in_ok-lengthen.ensures in
    let numbers = c.in_ok-more.ensures in
    let here_is = c.in_ok-extend_from_slice.ensures.items in
    let size : length here ≡ length m.vars.items + length c.in_ok-more.more.items = ap length here_is ∙ ap length (ap (λ (xs : List ℕ). m.vars.items ++ xs) c.as_slice.ensures.value) ∙ length-append m.vars.items c.in_ok-more.more.items in
    let vars : m.vars.items ≡ h.vars.items = e.vars in
    let arranged : IsArranged h.vars.items m.places.items = subst (λ (xs : List ℕ). IsArranged xs m.places.items) vars m.ok in
    subst (λ (s : List Bool). IsIn (members here m.places.items c.self.inside.count) v ↔ IsIn s v) c.self.view_is
    (members-longer h.vars.items h.places.items here m.places.items c.self.inside.count v h.ok arranged c.self.invariant e.front
    (omega (arith, size, ap length vars)) (omega (arith, size, ap length vars, numbers.size, e.enough, c.len-old.ensures)))
