use Rattle.std.proofs.Common.{length}
use Rattle.c_tags.proofs.known.+behind.Given as goal

abbrev pub decreases-behind : goal.decreases-behind
decreases-behind l = length l.prefix.now
