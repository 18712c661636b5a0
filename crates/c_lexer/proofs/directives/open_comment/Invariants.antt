use Rattle.std.proofs.Common.{◌≡◌, drop}
use Rattle.c_tokens.specs.Directives.{open_comment, Outside}
use Rattle.c_lexer.specs.Forms.{context_view}
use Rattle.c_lexer.proofs.directives.open_comment.Given as goal

-- the answer is still to come
abbrev pub invariant-loop-i : goal.invariant-loop-i
invariant-loop-i l = open_comment (context_view l.context) l.began l.i (drop l.i l.bytes) ≡ open_comment Outside 0 0 l.bytes
