-- What contracts say of seats.
use Rattle.std.specs.Prelude.{ℕ, ◌≡◌}
use Rattle.cancel_word.specs.declared.view.View.{View}
use Rattle.cancel_word.specs.declared.word.Cancel.{Cancel}
use Rattle.cancel_word.specs.declared.word.StopSeat.{StopSeat}

-- the seat is of this word
abbrev pub IsOf : Cancel → StopSeat → Type 0
IsOf word seat = seat.seat.table_id ≡ word.table.shared.table_id

-- how many numbers the word was made for
abbrev pub count_of : Cancel → ℕ
count_of word = word.table.shared.key

-- what the seat knows
abbrev pub view_of : StopSeat → View
view_of seat = seat.seat.me.0
