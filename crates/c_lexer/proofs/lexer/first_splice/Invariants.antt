use Rattle.std.proofs.Common.{◌≡◌, ◌+◌, drop}
use Rattle.c_tokens.specs.Reading.{splice_from}
use Rattle.c_lexer.proofs.lexer.first_splice.Given as goal

-- none stands before this place
abbrev pub invariant-loop-i : goal.invariant-loop-i
invariant-loop-i l = l.i + splice_from (drop l.i l.bytes) ≡ splice_from l.bytes
