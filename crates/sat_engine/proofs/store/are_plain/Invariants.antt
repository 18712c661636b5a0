use Rattle.std.proofs.Common.{ℕ, ◌<◌, get_or}
use Rattle.sat_engine.specs.Tag.{first_tag}
use Rattle.sat_engine.proofs.store.are_plain.Given as goal

abbrev pub invariant-loop-word : goal.invariant-loop-word
invariant-loop-word l = (k : ℕ) → k < l.word-index → get_or l.words k 0 < first_tag
