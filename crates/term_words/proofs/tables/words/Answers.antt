use Rattle.std.proofs.Common.{arith, sym, ◌∙◌}
use Rattle.std.proofs.lemmas.Grind.{common_steps}
use Rattle.word_sums.proofs.Growth.{Grows-trans}
use Rattle.term_words.proofs.Lists.{words_grown, words_pushed, wide_pushed, give_pushed}
use Rattle.term_words.proofs.tables.words.Goals as goal

pub loop-at-preserved : goal.loop-at-preserved
loop-at-preserved c =
    let made = c.loop-at.made in
    let word = c.in_ok-word.word in
    let pushed = c.in_ok-push.ensures.ok in
    let before = c.loop-at.invariant in
    let more = c.in_ok-word.ensures in
    record {
      grows = Grows-trans _ _ _ before.grows more.grows;
      len = grind (arith, common_steps);
      words = words_pushed made _ word pushed _ (words_grown _ _ made more.grows before.words) more.word;
      wide = wide_pushed made _ word pushed c.args.terms.now c.loop-at.at before.len before.wide more.len;
      value = λ A V h t.
          let give = before.value A V (more.grows.kept A h) t in
          give_pushed made _ word pushed A c.args.terms.now V c.loop-at.at before.len give (more.value A V h give ∙ sym (t.at c.loop-at.at (omega (arith, c.len-at-end.ensures))));
    }
