use Rattle.std.proofs.Common.{◌≡◌, drop}
use Rattle.c_straight.specs.Straight.{body_of}
use Rattle.c_straight.proofs.Bodies.{prefixed}
use Rattle.c_straight.proofs.program.body.Given as goal

-- the items so far stand before those to come
abbrev pub invariant-items : goal.invariant-items
invariant-items l = body_of l.reader.lines.now l.reader.depth l.items ≡ prefixed l.found (body_of l.reader.lines.now l.reader.depth (drop l.at l.items))
