use Rattle.std.proofs.Common.{arith}
use Rattle.c_lexer.proofs.Dividing.{splice_here, splice_later, splice_end}
use Rattle.c_lexer.proofs.lexer.first_splice.Goals as goal

pub returns-then-moves_lines-clause-value : goal.returns-then-moves_lines-clause-value
returns-then-moves_lines-clause-value c = splice_here c.loop-i.i _ c.args.bytes.now (omega arith) c.if-moves_lines.ensures c.loop-i.invariant

pub loop-i-preserved : goal.loop-i-preserved
loop-i-preserved c = splice_later c.loop-i.i _ c.args.bytes.now (omega arith) c.if-moves_lines.ensures c.loop-i.invariant

pub returns-clause-value : goal.returns-clause-value
returns-clause-value c = splice_end c.loop-i.i _ c.args.bytes.now (omega arith) (omega arith) c.loop-i.invariant
