use Rattle.std.proofs.Common.{ap, ◌++◌}
use Rattle.c_tokens.specs.Words.{keywords, words}
use Rattle.c_scan.proofs.words.Words.new.Goals as goal

pub returns : goal.returns
unfolding words
returns c = ap (λ rest. keywords ++ rest) c.left_out_rows.ensures
