use Rattle.std.proofs.Common.{◌&&◌, refl}
use Rattle.std.specs.Prelude.{bit_and}
use Rattle.kv_num.proofs.EachBit.{value_is, range_is, bits_are, each_and}
use Rattle.kv_num.proofs.bitwise.bit_and_at.Goals as goal

pub returns-clause-value : goal.returns-clause-value
returns-clause-value c = value_is bit_and (λ x y. x && y) each_and refl c.args.width c.args.signed (record { some = c.requires.some; few = c.requires.few }) c.args.a c.args.b c.requires.left c.requires.right

pub returns-clause-range : goal.returns-clause-range
returns-clause-range c = range_is bit_and (λ x y. x && y) each_and refl c.args.width c.args.signed (record { some = c.requires.some; few = c.requires.few }) c.args.a c.args.b c.requires.left c.requires.right

pub returns-clause-bits : goal.returns-clause-bits
returns-clause-bits c = bits_are bit_and (λ x y. x && y) each_and refl c.args.a c.args.b c.ranges.a c.ranges.b
