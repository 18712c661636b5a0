use Rattle.std.proofs.Common.{ℕ, ◌≡◌, ◌+◌, ◌-◌, ◌<◌, ◌≤◌, List, Bool, false, length, get_or, set, refl, ap, sym, subst, ◌∙◌, arith}
use Rattle.std.proofs.lemmas.List.{get_or_read}
use Rattle.sat_order.specs.Members.{members, IsIn, IsEmpty}
use Rattle.sat_order.proofs.Arranged.{members-none, members-take, taken_in}
use Rattle.sat_order.proofs.variables.Order.take.Goals as goal

pub returns-then-self-eq0 : goal.returns-then-self-eq0
returns-then-self-eq0 c =
    let h = c.self.inside.heap in
    let none : IsEmpty (members h.vars.items h.places.items c.self.inside.count) = subst (λ (n : ℕ). IsEmpty (members h.vars.items h.places.items n)) (sym c.if-self-eq0.true) (members-none h.vars.items h.places.items h.ok.room) in
    (subst IsEmpty c.self.view_is none, refl)

pub returns : goal.returns
returns c =
    let h = c.self.inside.heap in
    let m = c.exchange.new.self in
    let k : ℕ = c.self.inside.count in
    let v : ℕ = c.index-var.result.now in
    let le : k ≤ length h.vars.items = c.self.invariant in
    let some : 0 < k = omega (arith, c.if-self-eq0.false) in
    let first : v ≡ get_or h.vars.items 0 0 = get_or_read h.vars.items 0 v (omega arith) c.index-var.ensures 0 in
    let one : k ≡ k - 1 + 1 = omega arith in
    let there : IsIn (members h.vars.items h.places.items k) v = taken_in h.vars.items h.places.items h.ok 0 (k - 1) (omega arith) (omega arith) k v first some in
    let left : members m.vars.items m.places.items (k - 1) ≡ set (members h.vars.items h.places.items (k - 1 + 1)) v false = members-take h.vars.items h.places.items h.ok 0 (k - 1) (omega arith) (omega arith) m.vars.items m.places.items v c.exchange.ensures.places c.exchange.ensures.size m.ok.room first (omega arith) in
    let same : members m.vars.items m.places.items (k - 1) ≡ set (members h.vars.items h.places.items k) v false = left ∙ ap (λ (n : ℕ). set (members h.vars.items h.places.items n) v false) (sym one) in
    (subst (λ (s : List Bool). IsIn s v) c.self.view_is there, c.sink.ensures.same ∙ same ∙ ap (λ (s : List Bool). set s v false) c.self.view_is)
