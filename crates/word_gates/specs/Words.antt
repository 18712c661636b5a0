-- Words of literals and their numbers, as `word_sums` defines them; quotients of numbers without signs.
use Rattle.std.specs.Prelude.{ℕ, ◌≡◌, ◌<◌, ◌+◌, ◌*◌}
pub use Rattle.word_sums.specs.Words.{bit, number, word_value, continued_value, signed_number, IsWordOf}

-- n divided by d is q and leaves r; by 0 it is 0 and leaves 0
pub record IsDivision (n d q r : ℕ) : Type 0 where
  pub whole : 0 < d → q * d + r ≡ n
  pub small : 0 < d → r < d
  pub none : d ≡ 0 → (q ≡ 0) × (r ≡ 0)
