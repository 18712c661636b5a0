use Rattle.std.proofs.Common.{refl}
use Rattle.c_tokens.specs.Words.{punctuators}
use Rattle.c_scan.proofs.words.Vocabulary.new.Goals as goal

pub returns-clause-punctuators : goal.returns-clause-punctuators
unfolding punctuators
returns-clause-punctuators c = refl
