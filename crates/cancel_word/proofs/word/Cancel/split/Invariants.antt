use Rattle.cancel_word.proofs.word.Cancel.split.Given as goal

abbrev pub ghosts-split_off : goal.ghosts-split_off
ghosts-split_off a = record { number = a.number }
