use Rattle.std.proofs.Common.{◌≡◌, ◌++◌, drop, vec_len}
use Rattle.c_tokens.specs.Directives.{line_from, Outside}
use Rattle.c_lexer.specs.Forms.{context_view}
use Rattle.c_lexer.proofs.directives.line_of.Given as goal

-- the line goes on from here
abbrev pub invariant-loop-i : goal.invariant-loop-i
invariant-loop-i l = record { line : l.line.items ++ line_from (context_view l.context) (drop l.i l.bytes) ≡ line_from Outside l.bytes; len : vec_len l.line ≡ l.i }
