use Rattle.std.proofs.Common.{◌≡◌, ◌≢◌, ◌+◌, length, subst, ap, ◌∙◌, arith}
use Rattle.sat_search.specs.declared.turn.Turn.{Turn}
use Rattle.sat_search.specs.Turn.{TurnSays}
use Rattle.sat_core.specs.Counts.{raised}
use Rattle.sat_core.proofs.Finds.{grown_learnt, grown_same, smaller_learnt, asked_more}
use Rattle.sat_core.proofs.find.find.Goals as goal

pub returns-in-Met-clause-says : goal.returns-in-Met-clause-says
returns-in-Met-clause-says g c =
    let p = c.args.parts.now in
    let m = c.turns.parts in
    let q = c.turn_once.new.parts in
    let i = c.turns.invariant in
    let h = subst (λ (x : Turn). TurnSays c.args.assumed.now m q x) c.in-Met.is c.in_ok-turn_once.ensures in
    record { ready = h.1; grown = grown_same p.store m.store q.store (length p.trail.truth.items) h.0 i.grown; size = h.2 ∙ i.size; within = λ b. omega (arith, ap length h.0, i.counted b); answer = (h.3, h.4) }

pub returns-in-Refuted-clause-says : goal.returns-in-Refuted-clause-says
returns-in-Refuted-clause-says g c =
    let p = c.args.parts.now in
    let m = c.turns.parts in
    let q = c.turn_once.new.parts in
    let i = c.turns.invariant in
    let h = subst (λ (x : Turn). TurnSays c.args.assumed.now m q x) c.in-Refuted.is c.in_ok-turn_once.ensures in
    record { ready = h.1; grown = grown_same p.store m.store q.store (length p.trail.truth.items) h.0 i.grown; size = h.2 ∙ i.size; within = λ b. omega (arith, ap length h.0, i.counted b); answer = h.3 }

pub returns-then-is_spent-clause-says : goal.returns-then-is_spent-clause-says
returns-then-is_spent-clause-says g c =
    let p = c.args.parts.now in
    let m = c.turns.parts in
    let q = c.turn_once.new.parts in
    let i = c.turns.invariant in
    let h = subst (λ (x : Turn). TurnSays c.args.assumed.now m q x) c.in-Learnt.is c.in_ok-turn_once.ensures in
    let t = grown_learnt c.args.assumed.now p.store (length p.trail.truth.items) m q i.grown i.size h in
    let s = c.is_spent.ensures.spent c.if-is_spent.true in
    record { ready = h.0; grown = t.0; size = h.1 ∙ i.size; within = λ b. omega (arith, t.1, i.counted b); answer = (s.0, omega (arith, t.1, i.counted s.0, c.counted-learnt.ensures.one s.0, s.1)) }

pub returns-then-stop-clause-says : goal.returns-then-stop-clause-says
returns-then-stop-clause-says g c =
    let p = c.args.parts.now in
    let m = c.turns.parts in
    let q = c.turn_once.new.parts in
    let i = c.turns.invariant in
    let h = subst (λ (x : Turn). TurnSays c.args.assumed.now m q x) c.in-Learnt.is c.in_ok-turn_once.ensures in
    let t = grown_learnt c.args.assumed.now p.store (length p.trail.truth.items) m q i.grown i.size h in
    record { ready = h.0; grown = t.0; size = h.1 ∙ i.size; within = λ b. omega (arith, t.1, i.counted b); answer = tt }

pub turns-smaller : goal.turns-smaller
turns-smaller g c =
    let p = c.args.parts.now in
    let m = c.turns.parts in
    let q = c.turn_once.new.parts in
    let i = c.turns.invariant in
    let h = subst (λ (x : Turn). TurnSays c.args.assumed.now m q x) c.in-Learnt.is c.in_ok-turn_once.ensures in
    smaller_learnt c.args.assumed.now p.store (length p.trail.truth.items) (length p.trail.truth.items) m q (omega arith) i.grown i.size h

pub turns-preserved : goal.turns-preserved
turns-preserved g c =
    let p = c.args.parts.now in
    let m = c.turns.parts in
    let q = c.turn_once.new.parts in
    let i = c.turns.invariant in
    let h = subst (λ (x : Turn). TurnSays c.args.assumed.now m q x) c.in-Learnt.is c.in_ok-turn_once.ensures in
    let t = grown_learnt c.args.assumed.now p.store (length p.trail.truth.items) m q i.grown i.size h in
    let stop = c.stop.ensures in
    let longer = i.grown.longer in
    record {
      ready = h.0;
      grown = t.0;
      size = h.1 ∙ i.size;
      poll = record { again = stop.ready; same = stop.held ∙ i.poll.same };
      yeses = stop.no c.if-stop.false ∙ i.yeses;
      asks = asked_more (length p.store) (length m.store) (length q.store) (g.P.Poll.asks c.args.poll.now) (g.P.Poll.asks c.turns.poll) (g.P.Poll.asks c.stop.new.self) t.1 longer i.asks stop.asks;
      counted = λ b.
          let one : c.counted-learnt.result ≡ c.turns.learnt + 1 = c.counted-learnt.ensures.one b in
          let ne : c.counted-learnt.result ≢ c.args.budget = c.is_spent.ensures.not_spent c.if-is_spent.false b in
          let k = i.counted b in
          (omega (arith, t.1, k, one), omega (arith, k, one, ne));
    }

pub returns-then-stop-clause-asked : goal.returns-then-stop-clause-asked
returns-then-stop-clause-asked g c =
    let p = c.args.parts.now in
    let m = c.turns.parts in
    let q = c.turn_once.new.parts in
    let i = c.turns.invariant in
    let h = subst (λ (x : Turn). TurnSays c.args.assumed.now m q x) c.in-Learnt.is c.in_ok-turn_once.ensures in
    let t = grown_learnt c.args.assumed.now p.store (length p.trail.truth.items) m q i.grown i.size h in
    let stop = c.stop.ensures in
    let longer = i.grown.longer in
    record {
      asked = asked_more (length p.store) (length m.store) (length q.store) (g.P.Poll.asks c.args.poll.now) (g.P.Poll.asks c.turns.poll) (g.P.Poll.asks c.stop.new.self) t.1 longer i.asks stop.asks;
      said_yes = stop.yes c.if-stop.true ∙ ap raised i.yeses;
    }

pub returns-then-is_spent-clause-asked : goal.returns-then-is_spent-clause-asked
returns-then-is_spent-clause-asked g c =
    let p = c.args.parts.now in
    let m = c.turns.parts in
    let q = c.turn_once.new.parts in
    let i = c.turns.invariant in
    let h = subst (λ (x : Turn). TurnSays c.args.assumed.now m q x) c.in-Learnt.is c.in_ok-turn_once.ensures in
    let t = grown_learnt c.args.assumed.now p.store (length p.trail.truth.items) m q i.grown i.size h in
    let stop = c.stop.ensures in
    let longer = i.grown.longer in
    record {
      asked = asked_more (length p.store) (length m.store) (length q.store) (g.P.Poll.asks c.args.poll.now) (g.P.Poll.asks c.turns.poll) (g.P.Poll.asks c.stop.new.self) t.1 longer i.asks stop.asks;
      said_yes = stop.no c.if-stop.false ∙ i.yeses;
    }
