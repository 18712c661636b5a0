use Rattle.std.proofs.Common.{rules, sym, ◌∙◌}
use Rattle.c_cursor.proofs.SameMark.{one_mark}
use Rattle.c_cursor.proofs.marks.take.Goals as goal

pub returns : goal.returns
returns c = (sym c.mark_at.ensures.value ∙ one_mark _ _ (sym c.ne.ensures ∙ c.if-ne.false), search rules)
