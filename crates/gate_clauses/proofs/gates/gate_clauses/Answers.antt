use Rattle.std.proofs.Common.{arith, ◌<◌, ◌≤◌, length}
use Rattle.gate_clauses.proofs.Pushed.{agrees_more, meets_more, agrees_whole}
use Rattle.gate_clauses.proofs.gates.gate_clauses.Goals as goal

pub loop-at-preserved : goal.loop-at-preserved
loop-at-preserved c =
    let within : c.loop-at.at < length c.args.gates.now = omega (arith, c.len-at-end.ensures.length, c.loop-at-test.true) in
    record {
      gives = λ A met. agrees_more A c.args.gates.now c.loop-at.at c.gate.result c.loop-at.clauses c.push_gate.new.clauses c.gate.ensures (c.in_ok-push_gate.ensures.says A) (c.loop-at.invariant.gives A) met;
      meets = λ A h. meets_more A c.args.gates.now c.loop-at.at c.gate.result c.loop-at.clauses c.push_gate.new.clauses c.gate.ensures (c.in_ok-push_gate.ensures.says A) (c.loop-at.invariant.meets A h) (h.at c.loop-at.at within);
      below = c.in_ok-push_gate.ensures.below (length c.args.gates.now) within c.loop-at.invariant.below;
      few = omega (arith, c.in_ok-push_gate.ensures.few, c.loop-at.invariant.few);
    }

pub returns-clause-extends : goal.returns-clause-extends
returns-clause-extends c = λ P.
    let t = c.truths_are_fixed.ensures.exist P in
    (t.0, c.loop-at.invariant.meets t.0 t.1, t.2)

pub returns-clause-only : goal.returns-clause-only
returns-clause-only c = λ P A B a b p q.
    let all : length c.args.gates.now ≤ c.loop-at.at = omega (arith, c.len-at-end.ensures.length, c.loop-at-test.false) in
    c.truths_are_fixed.ensures.only P A B
    (agrees_whole A c.args.gates.now c.loop-at.at all (c.loop-at.invariant.gives A a)) (agrees_whole B c.args.gates.now c.loop-at.at all (c.loop-at.invariant.gives B b)) p q
