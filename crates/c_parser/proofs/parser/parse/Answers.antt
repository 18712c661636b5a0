use Rattle.std.proofs.Common.{rules}
use Rattle.c_parser.proofs.WholeTexts.{refused_whole}
use Rattle.c_parser.proofs.parser.parse.Goals as goal

pub returns-clause-syntax : goal.returns-clause-syntax
returns-clause-syntax c at is =
    refused_whole c.args.tokens.now c.as_slice-tokens.result.now c.bounded.result at (search rules) (search rules) (search rules) c.bounded.ensures.tree is
