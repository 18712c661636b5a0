use Rattle.std.proofs.Common.{ap, sym, subst, ◌∙◌, ◌-◌, arith, refl}
use Rattle.cancel_word.specs.Word.{has, AreSmall}
use Rattle.cancel_word.specs.declared.view.View.{View}
use Rattle.cancel_word.proofs.Moves.{begins, in_below, has-below}
use Rattle.cancel_word.proofs.word.Cancel.new.Goals as goal

pub invariant_of-seat : goal.invariant_of-seat
invariant_of-seat c = let e = ap (λ (m : View × _). m.0.numbers) c.in_ok-table.ensures.4 in record {
  bare = ap (λ (m : View × _). m.1) c.in_ok-table.ensures.4;
  holds_own = ap (has (c.args.numbers - 1)) e ∙ in_below c.args.numbers (c.args.numbers - 1) (let some = c.requires.some in omega arith);
  small = subst AreSmall (sym e) (λ n h. let is = has-below c.args.numbers n h in let few = c.requires.few in omega arith);
}

pub of_words-requires : goal.of_words-requires
of_words-requires c = (refl, begins c.args.numbers c.requires.some)
