use Rattle.std.proofs.Common.{ℕ, ◌≡◌, ◌+◌, ◌<◌, get_or, max, arith, below_more}
use Rattle.sat_engine.proofs.room.room_for.Goals as goal

pub loop-lit-preserved : goal.loop-lit-preserved
loop-lit-preserved c =
    let i = c.loop-lit.invariant in
    let k : ℕ = c.loop-lit.lit-index in
    let next : c.max-room.result ≡ max c.loop-lit.room (get_or c.args.lits.now k 0 + 1) = c.max-room.ensures in
    record {
      longer = let l = i.longer in omega arith;
      room = below_more (λ (j : ℕ). get_or c.args.lits.now j 0 < c.max-room.result) k (λ j h. let b = i.room j h in omega arith) (omega arith);
      least = λ n old all. let before = i.least n old (λ j h. all j (omega arith)) in let here = all k (omega arith) in omega arith;
    }

pub returns : goal.returns
returns c =
    let i = c.loop-lit.invariant in
    let past = c.loop-lit-test.false in
    record {
      longer = i.longer;
      room = λ k lt. i.room k (omega arith);
      least = λ n old all. i.least n old (λ j h. all j (let end = c.loop-lit.auto.lit-index-end in omega arith));
    }
