use Rattle.std.proofs.Common.{◌≡◌, take}
use Rattle.c_tree.specs.SpellsText.{lines_of}
use Rattle.c_parser.proofs.parser.lines_of.Given as goal

-- the lines of the tokens so far
abbrev pub invariant-loop-token : goal.invariant-loop-token
invariant-loop-token l = l.lines ≡ lines_of (take l.token-index l.tokens)
