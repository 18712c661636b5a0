-- Counts of cells, computed up to the greatest `u64`.
use Rattle.std.proofs.Common.{◌≡◌, ℕ, ◌^◌, min, nat_lt, arith}
use Rattle.std.proofs.lemmas.Bool.Decides.{nat_tests}
use Rattle.c_tags.specs.Parts.{exceeds}

pub exceeds_capped : (cells : ℕ) → exceeds (min cells 18446744073709551615) ≡ exceeds cells
exceeds_capped cells = grind (arith, nat_tests)
