use Rattle.std.proofs.Common.{ℕ, ◌≡◌, ◌++◌, List, [], ◌∷◌, Bool, if◌then◌else◌, sym, subst, ◌∙◌, below_more}
use Rattle.std.proofs.lemmas.Bool.{false≢true}
use Rattle.sat_clause.specs.Propagation.{clause_at}
use Rattle.proof_checker.specs.Checking.{IsFirstBad, IsRefutation}
use Rattle.proof_checker.proofs.Checkings.{first_bad, refutation, onward, taken, element_at}
use Rattle.proof_checker.proofs.verdict.check.Goals as goal

pub returns-then-not-branch : goal.returns-then-not-branch
returns-then-not-branch c =
    let F : List (List ℕ) = c.args.cnf.now.clauses in
    let L : List (List ℕ) = c.as_slice-clause-items.result.now in
    let n : ℕ = c.loop-step.step in
    let e = element_at L c.clause-item.result n c.loop-step-test.true c.clause-item.is in
    subst (λ (x : List (List ℕ)). IsFirstBad F x n) c.as_slice-clause-items.ensures
    (first_bad F L c.loop-step.checker.clauses c.clause-item.result n c.in_ok-learn.field-0 c.loop-step.invariant.clauses c.loop-step-test.true e c.loop-step.invariant.follow c.in_ok-learn.ensures.exact c.if-not-branch.true)

pub returns-then-is_empty : goal.returns-then-is_empty
returns-then-is_empty c =
    let F : List (List ℕ) = c.args.cnf.now.clauses in
    let L : List (List ℕ) = c.as_slice-clause-items.result.now in
    let n : ℕ = c.loop-step.step in
    let e = element_at L c.clause-item.result n c.loop-step-test.true c.clause-item.is in
    subst (λ (x : List (List ℕ)). IsRefutation F x) c.as_slice-clause-items.ensures
    (refutation F L c.loop-step.checker.clauses c.clause-item.result n c.in_ok-learn.field-0 c.loop-step.invariant.clauses c.loop-step-test.true e c.loop-step.invariant.follow c.loop-step.invariant.nonempty c.in_ok-learn.ensures.exact c.if-not-branch.false (c.is_empty.ensures.0 c.if-is_empty.true))

pub loop-step-preserved : goal.loop-step-preserved
loop-step-preserved c =
    let F : List (List ℕ) = c.args.cnf.now.clauses in
    let L : List (List ℕ) = c.as_slice-clause-items.result.now in
    let K : List (List ℕ) = c.loop-step.checker.clauses in
    let d : List ℕ = c.clause-item.result in
    let n : ℕ = c.loop-step.step in
    let e = element_at L d n c.loop-step-test.true c.clause-item.is in
    let grown : c.learn.new.self.clauses ≡ K ++ d ∷ [] =
    subst (λ (b : Bool). c.learn.new.self.clauses ≡ (if b then K ++ d ∷ [] else K)) c.if-not-branch.false c.in_ok-learn.ensures.clauses in
    record {
      clauses = grown ∙ taken F L K d n c.loop-step.invariant.clauses c.loop-step-test.true c.clause-item.is;
      follow = onward F L K d n c.in_ok-learn.field-0 c.loop-step.invariant.clauses e c.loop-step.invariant.follow c.in_ok-learn.ensures.exact c.if-not-branch.false;
      nonempty = below_more (λ (i : ℕ). clause_at L i ≡ [] → ⊥) n c.loop-step.invariant.nonempty
          (λ none. false≢true (sym c.if-is_empty.false ∙ c.is_empty.ensures.1 (sym e ∙ none)));
    }
