use Rattle.std.proofs.Common.{ℕ, ◌≡◌, ◌<◌, ◌++◌, List, [], ◌∷◌, length, get_or, take, append_assoc, sym, ap, subst, ◌∙◌, arith}
use Rattle.std.proofs.lemmas.List.{take_more, get_or_read}
use Rattle.sat_clause.specs.Literals.{AreBelow}
use Rattle.sat_query.proofs.grown.add_all.Goals as goal

pub loop-clause-preserved : goal.loop-clause-preserved
loop-clause-preserved c =
    let F : List (List ℕ) = c.args.clauses.now in
    let K : List (List ℕ) = c.args.kept.now.clauses in
    let k : ℕ = c.loop-clause.clause-index in
    let i = c.loop-clause.invariant in
    let e = c.in_ok-add.ensures in
    let same = c.as_slice-clause-items.ensures in
    let lt : k < length F = omega (arith, c.loop-clause-test.true, ap length same) in
    let item : c.clause-item.result ≡ get_or F k [] = get_or_read c.as_slice-clause-items.result.now k c.clause-item.result c.loop-clause-test.true c.clause-item.is [] ∙ ap (λ (x : List (List ℕ)). get_or x k []) same in
    record {
      clauses = e.clauses ∙ ap (λ (x : List (List ℕ)). x ++ c.clause-item.result ∷ []) i.clauses
          ∙ append_assoc K (take k F) (c.clause-item.result ∷ [])
          ∙ ap (λ (x : List ℕ). K ++ (take k F ++ x ∷ [])) item
          ∙ ap (λ (x : List (List ℕ)). K ++ x) (sym (take_more F k [] lt));
      log = e.log ∙ i.log;
      vars = λ n old all. e.vars.least n (i.vars n old (λ j h. all j (omega arith))) (subst (AreBelow n) (sym item) (all k (omega arith)));
    }

pub returns-clause-vars : goal.returns-clause-vars
returns-clause-vars c = λ n old all. c.loop-clause.invariant.vars n old (λ j h. all j [] (omega (arith, h, c.loop-clause.auto.clause-index-end, ap length c.as_slice-clause-items.ensures)))
