use Rattle.std.proofs.Common.{subst}
use Rattle.sat_core.specs.declared.solver.Answer.{Answer}
use Rattle.sat_core.specs.Solving.{AnswerSays}
use Rattle.sat_query.proofs.kept.asked_of.Goals as goal

pub returns-in-Sat-clause-answer : goal.returns-in-Sat-clause-answer
returns-in-Sat-clause-answer g c =
    let e = c.in_ok-found.ensures in
    let s = c.args.solver.now in
    let t = c.solve.new.self in
    let says = subst (λ (x : Answer). AnswerSays t.vars s.clauses t.clauses c.args.asked.now c.args.budget x) c.in-Sat.is e.answer in
    says

pub returns-in-Unsat-clause-answer : goal.returns-in-Unsat-clause-answer
returns-in-Unsat-clause-answer g c =
    let e = c.in_ok-found.ensures in
    let s = c.args.solver.now in
    let t = c.solve.new.self in
    let says = subst (λ (x : Answer). AnswerSays t.vars s.clauses t.clauses c.args.asked.now c.args.budget x) c.in-Unsat.is e.answer in
    record { none_meets = says.1; refuted = says.0 }
