use Rattle.std.proofs.Common.{ap, ◌∙◌}
use Rattle.cancel_word.specs.Word.{has}
use Rattle.cancel_word.specs.declared.view.View.{View}
use Rattle.cancel_word.proofs.Moves.{in_below}
use Rattle.thread_tests.proofs.words.one_of_64_threads_wins.Goals as goal

pub split_all-requires-clause-numbers : goal.split_all-requires-clause-numbers
split_all-requires-clause-numbers g c n below = ap (λ (v : View). has n v.numbers) c.in_ok-word.ensures.view ∙ in_below 65 n below
