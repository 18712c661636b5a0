use Rattle.std.proofs.Common.{◌≡◌, ◌+◌, ◌≤◌, drop}
use Rattle.c_rules.specs.Specifiers.{count_of}
use Rattle.c_tags.proofs.words.count_of.Given as goal

abbrev pub invariant-loop-word : goal.invariant-loop-word
invariant-loop-word l = record {
  counted : l.count + count_of l.index (drop l.word-index l.words) ≡ count_of l.index l.words;
  small : l.count ≤ l.word-index;
}
