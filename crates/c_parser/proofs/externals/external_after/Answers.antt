use Rattle.std.proofs.Common.{rules}
use Rattle.c_tree.specs.SpellsText.{kinds_of}
use Rattle.c_cursor.specs.Reads.{titled_of}
use Rattle.c_parser.proofs.ExternalEnds.{external_goes_on}
use Rattle.c_parser.proofs.externals.external_after.Goals as goal

pub returns : goal.returns
returns c =
    external_goes_on (kinds_of c.args.tokens.now) c.args.depth c.args.specified.defines c.args.specified.list c.args.place.now c.declarator.new.place
    c.external_named.new.place (titled_of c.in_ok-titled.titled) c.external_named.result (search rules) c.in_ok-titled.ensures c.external_named.ensures
