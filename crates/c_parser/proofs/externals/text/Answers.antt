use Rattle.std.proofs.Common.{rules}
use Rattle.c_parser.proofs.Texts.{text_read}
use Rattle.c_parser.proofs.externals.text.Goals as goal

pub returns : goal.returns
returns c = text_read c.args.tokens.now _ _ _ _ (search rules) (search rules) c.externals.ensures
