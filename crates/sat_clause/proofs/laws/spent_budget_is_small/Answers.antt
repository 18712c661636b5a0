use Rattle.sat_clause.proofs.Counting.{spent_few}
use Rattle.sat_clause.proofs.laws.spent_budget_is_small.Goals as goal

pub returns : goal.returns
returns c = λ n budget F log s. spent_few n F budget log s
