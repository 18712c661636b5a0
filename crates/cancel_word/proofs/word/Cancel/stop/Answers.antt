use Rattle.std.proofs.Common.{rules}
use Rattle.cancel_word.proofs.Moves.{decides}
use Rattle.cancel_word.proofs.word.Cancel.stop.Goals as goal

pub compare_exchange-found-requires : goal.compare_exchange-found-requires
compare_exchange-found-requires c = (search rules, search rules, decides _ _ _ _ _ c.args.seat.now.holds_own)
