use Rattle.std.proofs.Common.{◌≡◌, ℕ, ◌<◌, nat_eq, true}
use Rattle.c_rules.specs.Specifiers.{count_of}
use Rattle.c_tags.proofs.words.same_words.Given as goal

abbrev pub invariant-loop-index : goal.invariant-loop-index
invariant-loop-index l = (k : ℕ) → k < l.index → nat_eq (count_of k l.left) (count_of k l.right) ≡ true
