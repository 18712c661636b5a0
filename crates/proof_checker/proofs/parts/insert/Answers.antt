use Rattle.std.proofs.Common.{ℕ, ◌≡◌, ◌<◌, List, [], Bool, length, refl, sym, ap, subst, ◌∙◌, arith}
use Rattle.std.proofs.lemmas.List.{length_push, get_or_push}
use Rattle.sat_clause.specs.Propagation.{clause_at}
use Rattle.sat_engine.specs.Look.{AreFalse}
use Rattle.proof_checker.proofs.Bases.{Conflict-false}
use Rattle.proof_checker.proofs.Ready.{IsReady-same}
use Rattle.proof_checker.proofs.parts.insert.Goals as goal

pub returns-in-False-clause-ready : goal.returns-in-False-clause-ready
returns-in-False-clause-ready c =
    let p = c.append.new.parts in
    let t = p.trail in
    let cl : List ℕ = c.args.clause.now in
    let old : List (List ℕ) = c.args.parts.now.store in
    let n : ℕ = c.in_ok-number.number in
    let ok = c.in_ok-number.ensures in
    let lt : n < length p.store = omega (arith, ok.number, ap length ok.store, length_push old cl) in
    let same : clause_at p.store n ≡ cl = ap (λ (F : List (List ℕ)). clause_at F n) ok.store ∙ get_or_push old cl [] n (sym ok.number) in
    let off : AreFalse cl t.truth.items = subst (λ (x : List Bool). AreFalse cl x) c.deref.ensures.value c.in-False.ensures in
    let all : AreFalse (clause_at p.store n) t.truth.items = subst (λ (x : List ℕ). AreFalse x t.truth.items) (sym same) off in
    IsReady-same p _ refl refl (λ _. Conflict-false p.store [] t.steps.items t.truth.items t.place.items n t.ok ok.ready.base lt all) ok.ready
