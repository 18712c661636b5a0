use Rattle.cancel_word.specs.Seats.{IsOf}
use Rattle.thread_tests.proofs.words.join_all.Given as goal

abbrev pub invariant-loop-racer : goal.invariant-loop-racer
invariant-loop-racer l = IsOf l.word l.first
