use Rattle.std.proofs.Common.{ℕ, ◌≡◌, ◌/◌, List, Bool, length, ap, subst, ◌∙◌}
use Rattle.sat_clause.specs.Literals.{MeetsAll, AreTrue}
use Rattle.sat_core.specs.Held.{Held}
use Rattle.sat_core.specs.Solving.{AnswerSays}
use Rattle.sat_core.proofs.Answering.{refuted_answer}
use Rattle.sat_core.proofs.solver.Solver.solve.Goals as goal

pub returns-then-self-2-clause-answer : goal.returns-then-self-2-clause-answer
returns-then-self-2-clause-answer g c =
    let F : List (List ℕ) = c.self.inside.parts.store in
    let A : List ℕ = c.args.assumed.now in
    let same : F ≡ c.args.self.now.clauses = ap (λ (h : Held). h.clauses) c.self.view_is in
    let r = refuted_answer F A ((c.self.invariant c.if-self.false).0 c.if-self-2.true) in
    (r.0, subst (λ (x : List (List ℕ)). (B : ℕ → Bool) → MeetsAll B x → AreTrue B A → ⊥) same r.1)

pub returns-clause-answer : goal.returns-clause-answer
returns-clause-answer g c =
    let F : List (List ℕ) = c.self.inside.parts.store in
    let q = c.search.new.parts in
    let n : ℕ = length q.trail.truth.items / 2 in
    let same : F ≡ c.args.self.now.clauses = ap (λ (h : Held). h.clauses) c.self.view_is in
    let lits : c.as_slice-2.result.now ≡ c.args.assumed.now = c.as_slice-2.ensures.value ∙ c.in_ok-lits.ensures ∙ c.as_slice.ensures in
    subst (λ (x : List (List ℕ)). AnswerSays n x q.store c.args.assumed.now c.args.budget c.in_ok-answer.answer) same
    (subst (λ (x : List ℕ). AnswerSays n F q.store x c.args.budget c.in_ok-answer.answer) lits c.in_ok-answer.ensures.answer)
