use Rattle.c_straight_model.proofs.Executions.{safe_from_end}
use Rattle.esbmc_cli.proofs.decide.decide_bytes.Goals as goal

pub returns-in-Ok-Ended : goal.returns-in-Ok-Ended
returns-in-Ok-Ended c = (c.in-Ok.program, c.in-Ok.ensures, safe_from_end c.in-Ok.program (rw c.in-Ok-Ended.field-0-is at c.in-Ok-Ended.ensures))
