use Rattle.cancel_word.proofs.Moves.{ends_named, ends_bounded}
use Rattle.cancel_word.proofs.word.Cancel.close.Goals as goal

pub returns-clause-named : goal.returns-clause-named
returns-clause-named c = ends_named _ _ _ _ _ _ c.word-word.ensures c.close_with-closed.ensures.values.2

pub returns-clause-number : goal.returns-clause-number
returns-clause-number c = ends_bounded _ _ _ _ _ _ c.word-word.ensures c.close_with-closed.ensures.values.2
