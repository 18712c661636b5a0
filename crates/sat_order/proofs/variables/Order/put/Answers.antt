use Rattle.std.proofs.Common.{ℕ, ◌≡◌, ◌<◌, length, get_or, ap, ◌∙◌, arith}
use Rattle.std.proofs.lemmas.List.{get_or_read}
use Rattle.sat_order.proofs.Arranged.{members-length, members-again, members-put}
use Rattle.sat_order.proofs.variables.Order.put.Goals as goal

pub returns-then-place-self : goal.returns-then-place-self
returns-then-place-self c =
    let h = c.self.inside.heap in
    let len = members-length h.vars.items h.places.items c.self.inside.count h.ok.room in
    let lt : c.args.var < length h.vars.items = omega (arith, c.requires, ap length c.self.view_is) in
    let room = h.ok.room in
    let p : c.index-place.result.now ≡ get_or h.places.items c.args.var 0 = get_or_read h.places.items c.args.var c.index-place.result.now (omega arith) c.index-place.ensures 0 in
    rw (← c.self.view_is) (members-again h.vars.items h.places.items c.self.inside.count c.args.var h.ok lt (omega (arith, p, c.if-place-self.true)))

pub returns : goal.returns
returns c =
    let h = c.self.inside.heap in
    let m = c.exchange.new.self in
    let k : ℕ = c.self.inside.count in
    let len = members-length h.vars.items h.places.items k h.ok.room in
    let lt : c.args.var < length h.vars.items = omega (arith, c.requires, ap length c.self.view_is) in
    let room = h.ok.room in
    let p : c.index-place.result.now ≡ get_or h.places.items c.args.var 0 = get_or_read h.places.items c.args.var c.index-place.result.now (omega arith) c.index-place.ensures 0 in
    let there = (h.ok.there c.args.var lt).0 in
    rw (← c.self.view_is)
    (c.rise.ensures.same ∙ members-put h.vars.items h.places.items h.ok c.index-place.result.now k (omega arith) (omega (arith, p, c.if-place-self.false)) m.vars.items m.places.items c.args.var c.exchange.ensures.places c.exchange.ensures.size m.ok.room lt p (omega (arith, c.if-place-self.false)))
