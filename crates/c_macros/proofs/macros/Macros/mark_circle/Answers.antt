use Rattle.std.proofs.Common.{◌≡◌, ◌+◌, ◌<◌, length, true, Some, sym, ap, ◌∙◌, arith, subst, get_or, set}
use Rattle.std.proofs.lemmas.List.{get_or_past}
use Rattle.c_macros.specs.Chains.{name_at}
use Rattle.c_macros.specs.Circles.{AreReturns, AreClosedTo, is_marked}
use Rattle.c_macros.specs.Tables.{macros_view}
use Rattle.c_macros.proofs.Circles.{returns_around}
use Rattle.c_macros.proofs.Marks.{are_returns_set, closed_on, closed_all}
use Rattle.c_macros.proofs.Trails.{marked_on, same_default, trail_within, trail_no_word}
use Rattle.c_macros.proofs.Known.{others_join, known_again}
use Rattle.c_macros.proofs.macros.Macros.mark_circle.Goals as goal

pub loop-k-preserved : goal.loop-k-preserved
loop-k-preserved c =
    let D = (macros_view c.args.self.now).defined in
    let over = c.args.over.now in
    let at = c.args.at in
    let k = c.loop-k.k in
    let marks = c.loop-k.self.returns.items in
    let new = c.note_return.new.self.returns.items in
    let here = get_or over k at in
    let next = get_or over (k + 1) at in
    let less : k < length over = c.loop-k-test.true in
    let step = c.requires.trail k less in
    let within : here < length D = step.0 in
    let count = c.loop-k.invariant.are_returns.count in
    let inside : here < length marks = omega arith in
    let put : new ≡ set marks here (Some here) = c.note_return.ensures.marks ∙ ap (λ i. set marks i (Some i)) (same_default over k 0 at less) in
    let next_within = trail_within D over at c.requires.trail c.requires.within (k + 1) in
    let next_no_word = trail_no_word D over at c.requires.trail c.requires.no_word (k + 1) in
    record {
      others = others_join c.args.self.now c.loop-k.self c.note_return.new.self c.loop-k.invariant.others c.note_return.ensures.others;
      are_returns = subst (AreReturns D) (sym put) (are_returns_set marks here here inside D c.loop-k.invariant.are_returns (record { within = within; returns = c.loop-k.invariant.circle }));
      closed = subst (λ m. AreClosedTo D m next) (sym put) (closed_on marks here here inside D next c.loop-k.invariant.closed next_within step.1);
      marked = λ later. subst (λ m. is_marked m at ≡ true) (sym put)
          (marked_on marks over at c.args.from k less inside c.requires.from c.requires.begins c.loop-k.auto.k c.loop-k.invariant.marked);
      circle = returns_around D (name_at D here) (name_at D next) step.1 next_no_word c.loop-k.invariant.circle;
    }

pub returns-clause-known : goal.returns-clause-known
returns-clause-known c =
    let D = (macros_view c.args.self.now).defined in
    let marks = c.loop-k.self.returns.items in
    let last : get_or c.args.over.now c.loop-k.k c.args.at ≡ c.args.at = get_or_past c.args.over.now c.loop-k.k c.args.at c.loop-k-test.false in
    let from = c.requires.from in
    let end = c.loop-k-test.false in
    let known : is_marked marks c.args.at ≡ true = c.loop-k.invariant.marked (omega arith) in
    let closed = closed_all D marks c.args.at (subst (AreClosedTo D marks) last c.loop-k.invariant.closed) known in
    known_again c.args.self.now c.loop-k.self c.requires.known c.loop-k.invariant.others (record { are_returns = c.loop-k.invariant.are_returns; closed = closed })
