use Rattle.std.proofs.Common.{rules, ap, sym, subst, ℕ, ◌≡◌, ◌∙◌, true}
use Rattle.cancel_word.specs.Word.{has, AreSmall}
use Rattle.cancel_word.specs.declared.view.View.{View}
use Rattle.cancel_word.proofs.Moves.{cuts, without-keeps, small-without}
use Rattle.cancel_word.proofs.word.Cancel.split_off.Goals as goal

pub split_seat-new-requires : goal.split_seat-new-requires
split_seat-new-requires g c = (search rules, search rules, cuts _ _ c.args.seat.now.own _ _ c.args.seat.now.holds_own (λ e. c.requires.other (c.requires.number ∙ sym e)) (subst (λ (n : ℕ). has n c.args.seat.now.seat.me.0.numbers ≡ true) c.requires.number c.requires.held) c.requires.undecided)

pub invariant_of-seat : goal.invariant_of-seat
invariant_of-seat g c = let e = ap (λ (m : View × _). m.0.numbers) c.split_seat-new.ensures.2 in record {
  bare = ap (λ (m : View × _). m.1) c.split_seat-new.ensures.2 ∙ c.args.seat.now.bare;
  holds_own = ap (has c.args.seat.now.own) e ∙ without-keeps _ _ _ c.args.seat.now.holds_own (λ e. c.requires.other (c.requires.number ∙ sym e));
  small = subst AreSmall (sym e) (small-without _ _ c.args.seat.now.small);
}
