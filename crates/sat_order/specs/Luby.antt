-- The lengths of a search's runs: 1, 1, 2, 1, 1, 2, 4, 1, 1, 2, 1, 1, 2, 4, 8, ..
use Rattle.std.specs.Prelude.{ℕ, ◌+◌, ◌-◌, ◌*◌, ◌^◌, ◌<◌, ◌≤◌, ◌≡◌}

-- the i-th number, counted from 1: 2 ^ k where i is 2 ^ (k + 1) - 1, and between two such places the numbers from the
-- first one on
pub data IsLuby : ℕ → ℕ → Type 0 where
  peak : (i k : ℕ) → i + 1 ≡ 2 * 2 ^ k → IsLuby i (2 ^ k)
  again : (i k x : ℕ) → 2 ^ k ≤ i → i + 1 < 2 * 2 ^ k → IsLuby (i + 1 - 2 ^ k) x → IsLuby i x
