use Rattle.std.proofs.Common.{List, ℕ, pos, sym, ap, ◌∙◌}
use Rattle.term_core.specs.Shape.{wrap_to}
use Rattle.word_sums.specs.Words.{number}
use Rattle.term_words.proofs.Lists.{word_past}
use Rattle.term_words.proofs.leaves.variable.Goals as goal

pub returns-in_ok-word-in-None-clause-value : goal.returns-in_ok-word-in-None-clause-value
returns-in_ok-word-in-None-clause-value c = λ A h.
    c.in_ok-word-in-None.ensures.value A c.args.shape.signed h ∙ ap (λ (w : List ℕ). wrap_to c.args.shape (pos (number A w))) (sym (word_past c.args.vars.now c.args.variable (sym c.in-None.ensures.value)))
