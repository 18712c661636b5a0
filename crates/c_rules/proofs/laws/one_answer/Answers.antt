use Rattle.c_rules.specs.Accepted.{broken_pairs}
use Rattle.c_rules.proofs.Least.{empty_or_least, never_both, one_least, contained, none_before}
use Rattle.c_rules.proofs.laws.one_answer.Goals as goal

pub returns-clause-answered : goal.returns-clause-answered
returns-clause-answered c = λ model tree. empty_or_least (broken_pairs model tree)

pub returns-clause-never_both : goal.returns-clause-never_both
returns-clause-never_both c = λ model tree. never_both (broken_pairs model tree)

pub returns-clause-one : goal.returns-clause-one
returns-clause-one c = λ model tree. one_least (broken_pairs model tree)

pub returns-clause-broken : goal.returns-clause-broken
returns-clause-broken c = λ model tree. contained (broken_pairs model tree)

pub returns-clause-least : goal.returns-clause-least
returns-clause-least c = λ model tree. none_before (broken_pairs model tree)
