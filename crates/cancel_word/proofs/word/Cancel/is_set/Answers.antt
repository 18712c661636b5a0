use Rattle.std.proofs.Common.{rules, ap, sym, subst, ◌∙◌}
use Rattle.cancel_word.specs.Word.{has, AreSmall}
use Rattle.cancel_word.specs.declared.view.View.{View}
use Rattle.cancel_word.proofs.Moves.{looks}
use Rattle.cancel_word.proofs.word.Cancel.is_set.Goals as goal

pub load-found-requires : goal.load-found-requires
load-found-requires c = (search rules, search rules, looks _ _ _ _ _ c.args.seat.now.holds_own)

pub invariant_of-seat : goal.invariant_of-seat
invariant_of-seat c = let e = ap (λ (v : View). v.numbers) c.load-found.ensures.2.0 in record {
  bare = c.load-found.ensures.2.1 ∙ c.args.seat.now.bare;
  holds_own = ap (has c.args.seat.now.own) e ∙ c.args.seat.now.holds_own;
  small = subst AreSmall (sym e) c.args.seat.now.small;
}
