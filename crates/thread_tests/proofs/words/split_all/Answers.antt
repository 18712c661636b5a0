use Rattle.std.proofs.Common.{List, arith, ap, sym, subst, ◌∙◌}
use Rattle.std.specs.Prelude.{All}
use Rattle.std.proofs.lemmas.List.Elements.{All-push}
use Rattle.cancel_word.specs.Seats.{IsOf}
use Rattle.cancel_word.specs.declared.word.StopSeat.{StopSeat}
use Rattle.cancel_word.specs.Word.{has}
use Rattle.cancel_word.specs.declared.view.View.{View}
use Rattle.cancel_word.proofs.Moves.{without-keeps}
use Rattle.thread_tests.proofs.words.split_all.Goals as goal

pub loop-number-preserved : goal.loop-number-preserved
loop-number-preserved c = let i = c.loop-number.invariant in record {
  seat = c.split.ensures.seat;
  own = c.split.ensures.own ∙ i.own;
  undecided = ap (λ (v : View). v.decided) c.split.ensures.view ∙ i.undecided;
  numbers = λ n from below. ap (λ (v : View). has n v.numbers) c.split.ensures.view ∙ without-keeps n c.loop-number.number _ (i.numbers n (omega arith) below) (λ e. omega arith);
  seats = subst (λ (xs : List StopSeat). All (IsOf c.args.word.now) xs) (sym c.in_ok-push.ensures.items) (All-push (IsOf c.args.word.now) _ _ i.seats c.split.ensures.new_seat);
}
