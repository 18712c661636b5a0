use Rattle.std.proofs.Common.{◌↔◌, IfOk, IsTrue, sym, subst}
use Rattle.sat_query.specs.Asking.{IsConfirmed}
use Rattle.sat_query.specs.declared.asking.Asked.{Asked}
use Rattle.sat_query.proofs.asking.is_confirmed.Goals as goal

pub returns-in-Unsat-clause-exact : goal.returns-in-Unsat-clause-exact
returns-in-Unsat-clause-exact c =
    subst (λ (x : Asked). IfOk c.refutes.result (λ confirmed. IsTrue confirmed ↔ IsConfirmed c.args.cnf.now.clauses c.args.budget x)) (sym c.in-Unsat.is) c.refutes.ensures

pub returns-in-Spent-clause-exact : goal.returns-in-Spent-clause-exact
returns-in-Spent-clause-exact c =
    subst (λ (x : Asked). IfOk c.spends.result (λ confirmed. IsTrue confirmed ↔ IsConfirmed c.args.cnf.now.clauses c.args.budget x)) (sym c.in-Spent.is) c.spends.ensures
