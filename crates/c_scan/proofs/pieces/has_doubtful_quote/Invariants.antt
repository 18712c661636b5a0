use Rattle.std.proofs.Common.{◌≡◌, drop}
use Rattle.c_tokens.specs.Pieces.{has_doubtful_quote}
use Rattle.c_scan.proofs.pieces.has_doubtful_quote.Given as goal

-- none stands before this place
abbrev pub invariant-loop-i : goal.invariant-loop-i
invariant-loop-i l = has_doubtful_quote (drop l.i l.text) ≡ has_doubtful_quote l.text
