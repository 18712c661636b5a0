use Rattle.std.proofs.Common.{ℕ, List, subst}
use Rattle.sat_clause.specs.Literals.{ClausesAreBelow}
use Rattle.sat_query.specs.Asking.{AskedSays}
use Rattle.sat_query.proofs.asking.ask.Goals as goal

pub search_with-requires-clause-vars : goal.search_with-requires-clause-vars
search_with-requires-clause-vars g c = λ n all. c.in_ok-begin.ensures.vars n (subst (ClausesAreBelow n) c.in_ok-begin.ensures.clauses all)

pub returns-clause-answer : goal.returns-clause-answer
returns-clause-answer g c =
    subst (λ (F : List (List ℕ)). AskedSays c.args.cnf.now.vars F c.args.budget c.in_ok-asked.asked) c.in_ok-begin.ensures.clauses (c.in_ok-asked.ensures.answer c.args.cnf.now.vars)
