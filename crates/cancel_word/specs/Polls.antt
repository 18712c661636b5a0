-- What a poll over a word was made with, and what it is for an ask.
use Rattle.std.specs.Prelude.{◌≡◌, ◌<◌, ℕ, Bool, true, List}
use base.Fml.{GName}
use Rattle.cancel_word.specs.declared.poll.WordPoll.{WordPoll}
use Rattle.cancel_word.specs.declared.word.Cancel.{Cancel}
use Rattle.cancel_word.specs.Seats.{IsOf, view_of}

-- what no ask changes: the word, which seat is lent, its numbers, its own number, and whether it has decided
pub record Reader : Type 0 where
  pub word : Cancel
  pub lent : GName
  pub numbers : List ℕ
  pub own : ℕ
  pub decided : Bool

abbrev pub reader_of : WordPoll → Reader
reader_of p = record { word = p.word.now; lent = p.seat.ghost_name; numbers = (view_of p.seat.now).numbers; own = p.seat.now.own; decided = (view_of p.seat.now).decided }

-- the seat is of the word, and has seen it set where the poll said yes
pub record IsReady (p : WordPoll) : Type 0 where
  pub of : IsOf p.word.now p.seat.now
  pub seen : 0 < p.yeses → (view_of p.seat.now).seen ≡ true
