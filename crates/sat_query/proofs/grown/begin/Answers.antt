use Rattle.std.proofs.Common.{ℕ, ◌++◌, List, subst, sym, ap, ◌∙◌}
use Rattle.sat_clause.specs.Literals.{ClausesAreBelow}
use Rattle.sat_query.proofs.Blockwise.{HoldsBlocks-first}
use Rattle.sat_query.proofs.grown.begin.Goals as goal

pub returns-clause-holds : goal.returns-clause-holds
returns-clause-holds c =
    let e = c.in_ok-add_all.ensures in
    let is = c.first_clauses.ensures in
    HoldsBlocks-first c.args.template.now c.args.from_start c.args.kept.now c.add_all.new.kept c.requires (e.clauses ∙ ap (λ (x : List (List ℕ)). c.args.kept.now.clauses ++ x) is) e.log (λ n le below. e.vars n le (subst (ClausesAreBelow n) (sym is) below))
