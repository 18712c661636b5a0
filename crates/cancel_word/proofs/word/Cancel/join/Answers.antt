use Rattle.std.proofs.Common.{rules, ap, sym, subst, ◌∙◌}
use Rattle.cancel_word.specs.Word.{has, AreSmall}
use Rattle.cancel_word.specs.declared.view.View.{View}
use Rattle.cancel_word.proofs.Moves.{unites, has-left, small-append}
use Rattle.cancel_word.proofs.word.Cancel.join.Goals as goal

pub join_seat-requires : goal.join_seat-requires
join_seat-requires c = (search rules, search rules, search rules, search rules, unites _ _ _ _ _ _ c.args.seat.now.holds_own)

pub invariant_of-seat : goal.invariant_of-seat
invariant_of-seat c = let e = ap (λ (m : View × _). m.0.numbers) c.join_seat.ensures.2 in record {
  bare = ap (λ (m : View × _). m.1) c.join_seat.ensures.2 ∙ c.args.seat.now.bare;
  holds_own = ap (has c.args.seat.now.own) e ∙ has-left c.args.seat.now.own c.args.seat.now.seat.me.0.numbers c.args.other.seat.me.0.numbers c.args.seat.now.holds_own;
  small = subst AreSmall (sym e) (small-append _ _ c.args.seat.now.small c.args.other.small);
}
