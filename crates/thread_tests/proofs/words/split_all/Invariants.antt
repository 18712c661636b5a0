use Rattle.std.proofs.Common.{◌≡◌, ◌≤◌, ◌<◌, ℕ, true, false}
use Rattle.std.specs.Prelude.{All}
use Rattle.cancel_word.specs.Word.{has}
use Rattle.cancel_word.specs.Seats.{IsOf, view_of}
use Rattle.thread_tests.proofs.words.split_all.Given as goal

abbrev pub invariant-loop-number : goal.invariant-loop-number
invariant-loop-number l = record {
  seat : IsOf l.word l.first;
  own : l.first.own ≡ 64;
  undecided : (view_of l.first).decided ≡ false;
  numbers : (n : ℕ) → l.number ≤ n → n < 65 → has n (view_of l.first).numbers ≡ true;
  seats : All (IsOf l.word) l.seats.items;
}
