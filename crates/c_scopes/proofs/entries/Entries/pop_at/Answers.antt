use Rattle.c_scopes.proofs.Blocks.{around_other, of_other, around_none, of_none}
use Rattle.c_scopes.proofs.entries.Entries.pop_at.Goals as goal

pub returns-then-entry-depth-clause-done : goal.returns-then-entry-depth-clause-done
returns-then-entry-depth-clause-done c = (
  around_other c.args.depth c.args.self.now c.in-Some.entry.now c.in-Some.ensures c.if-entry-depth.true,
  of_other c.args.depth c.args.self.now c.in-Some.entry.now c.in-Some.ensures c.if-entry-depth.true,
)

pub returns-in-None-clause-done : goal.returns-in-None-clause-done
returns-in-None-clause-done c = (around_none c.args.depth c.args.self.now c.in-None.ensures, of_none c.args.depth c.args.self.now c.in-None.ensures)
