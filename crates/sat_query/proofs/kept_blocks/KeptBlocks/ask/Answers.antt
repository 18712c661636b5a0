use Rattle.std.proofs.Common.{sym, subst}
use Rattle.sat_query.specs.HeldBlocks.{HeldBlocks}
use Rattle.sat_query.specs.KeepingBlocks.{IsOver}
use Rattle.sat_query.proofs.kept_blocks.KeptBlocks.ask.Goals as goal

pub grow-requires-clause-holds : goal.grow-requires-clause-holds
grow-requires-clause-holds g c =
    subst (λ (h : HeldBlocks). IsOver (g.B.Blocks.of c.args.blocks.now) h) (sym c.self.view_is) c.requires.over c.if-self.false
