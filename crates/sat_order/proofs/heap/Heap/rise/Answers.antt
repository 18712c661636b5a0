use Rattle.std.proofs.Common.{◌-◌, ◌/◌, ◌∙◌, arith}
use Rattle.sat_order.proofs.Arranged.{members-exchange}
use Rattle.sat_order.proofs.heap.Heap.rise.Goals as goal

pub loop-at-preserved : goal.loop-at-preserved
loop-at-preserved c =
    let old = c.loop-at.self in
    let new = c.exchange.new.self in
    let i = c.loop-at.invariant in
    record {
      within = omega arith;
      size = c.exchange.ensures.size ∙ i.size;
      same = members-exchange old.vars.items old.places.items old.ok c.loop-at.at ((c.loop-at.at - 1) / 2) (omega arith) (omega arith) new.vars.items new.places.items c.args.count c.exchange.ensures.places c.exchange.ensures.size new.ok.room (omega arith) (omega arith) ∙ i.same;
    }
