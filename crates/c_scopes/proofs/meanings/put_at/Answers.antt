use Rattle.std.proofs.Common.{sym, ◌∙◌}
use Rattle.c_scopes.proofs.Tables.{put_at_within}
use Rattle.c_scopes.proofs.meanings.put_at.Goals as goal

pub returns : goal.returns
returns c = c.set.ensures ∙ sym (put_at_within c.grow.new.table c.args.at c.args.meaning c.in_ok-grow.ensures.within) ∙ c.in_ok-grow.ensures.same c.args.meaning
