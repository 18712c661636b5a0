use Rattle.std.proofs.Common.{ℕ, ◌≡◌, ◌+◌, ◌<◌, List, Bool, length, subst, ap, ◌∙◌, arith}
use Rattle.std.proofs.lemmas.Bool.{false_from_ne_true}
use Rattle.std.proofs.lemmas.List.{get_or_default, length_push}
use Rattle.sat_clause.specs.Propagation.{clause_at}
use Rattle.sat_engine.specs.declared.trail.Reason.TheVariants.{Clause}
use Rattle.sat_engine.specs.declared.trail.SetLiteral.{SetLiteral}
use Rattle.sat_engine.proofs.Trails.{IsTrail-length}
use Rattle.sat_engine.proofs.Growing.{Grows-trans, Grows-imply}
use Rattle.proof_checker.specs.Scan.{IsSettled, ScanSays}
use Rattle.proof_checker.specs.declared.scan.Scan.TheVariants.{Unit as OneOf}
use Rattle.proof_checker.proofs.scan.close.Goals as goal

pub returns-in-Some-clause-grows : goal.returns-in-Some-clause-grows
returns-in-Some-clause-grows c = Grows-trans c.args.store.now _ _ _ c.rounds.invariant.grows c.propagate.ensures.grows

pub returns-in-Closed-clause-grows : goal.returns-in-Closed-clause-grows
returns-in-Closed-clause-grows c = Grows-trans c.args.store.now _ _ _ c.rounds.invariant.grows c.propagate.ensures.grows

pub returns-in-False-clause-grows : goal.returns-in-False-clause-grows
returns-in-False-clause-grows c = Grows-trans c.args.store.now _ _ _ c.rounds.invariant.grows c.propagate.ensures.grows

pub returns-in-Closed-clause-closes : goal.returns-in-Closed-clause-closes
returns-in-Closed-clause-closes c = subst (λ (x : List Bool). (i : ℕ) → i < length c.args.store.now → IsSettled (clause_at c.args.store.now i) x) c.deref.ensures.value c.in-Closed.ensures

pub push-requires-clause-fits : goal.push-requires-clause-fits
push-requires-clause-fits c =
    let t = c.propagate.new.trail in
    let F : List (List ℕ) = c.args.store.now in
    let T : List Bool = t.truth.items in
    let h : ScanSays F T (OneOf c.in-Unit.i c.in-Unit.m) = subst (λ (x : List Bool). ScanSays F x (OneOf c.in-Unit.i c.in-Unit.m)) c.deref.ensures.value c.in-Unit.ensures in
    let w = h.1 in
    let r = c.requires.range c.in-Unit.i h.0 w.0 w.1 in
    omega (arith, r, get_or_default (clause_at F c.in-Unit.i) w.0 0 c.in-Unit.m w.1, w.2, c.propagate.ensures.size, c.rounds.invariant.size)

pub push-requires-clause-unset : goal.push-requires-clause-unset
push-requires-clause-unset c =
    let t = c.propagate.new.trail in
    let F : List (List ℕ) = c.args.store.now in
    let T : List Bool = t.truth.items in
    let h : ScanSays F T (OneOf c.in-Unit.i c.in-Unit.m) = subst (λ (x : List Bool). ScanSays F x (OneOf c.in-Unit.i c.in-Unit.m)) c.deref.ensures.value c.in-Unit.ensures in
    false_from_ne_true _ h.3

pub push-requires-clause-free : goal.push-requires-clause-free
push-requires-clause-free c =
    let t = c.propagate.new.trail in
    let F : List (List ℕ) = c.args.store.now in
    let T : List Bool = t.truth.items in
    let h : ScanSays F T (OneOf c.in-Unit.i c.in-Unit.m) = subst (λ (x : List Bool). ScanSays F x (OneOf c.in-Unit.i c.in-Unit.m)) c.deref.ensures.value c.in-Unit.ensures in
    false_from_ne_true _ h.4

pub rounds-smaller : goal.rounds-smaller
rounds-smaller c =
    let t = c.propagate.new.trail in
    let F : List (List ℕ) = c.args.store.now in
    let T : List Bool = t.truth.items in
    let h : ScanSays F T (OneOf c.in-Unit.i c.in-Unit.m) = subst (λ (x : List Bool). ScanSays F x (OneOf c.in-Unit.i c.in-Unit.m)) c.deref.ensures.value c.in-Unit.ensures in
    let n = c.push.new.self in
    let s : SetLiteral = record { lit = c.in-Unit.m; reason = Clause c.in-Unit.i } in
    let len : length n.steps.items ≡ length t.steps.items + 1 = ap length c.in_ok-push-in-Unit.ensures.ok ∙ length_push t.steps.items s in
    omega (arith, len, c.push.ensures.size, c.propagate.ensures.size, c.propagate.ensures.grows.longer, IsTrail-length n.steps.items n.truth.items n.place.items n.ok, n.ok.even)

pub rounds-preserved : goal.rounds-preserved
rounds-preserved c =
    let t = c.propagate.new.trail in
    let F : List (List ℕ) = c.args.store.now in
    let T : List Bool = t.truth.items in
    let h : ScanSays F T (OneOf c.in-Unit.i c.in-Unit.m) = subst (λ (x : List Bool). ScanSays F x (OneOf c.in-Unit.i c.in-Unit.m)) c.deref.ensures.value c.in-Unit.ensures in
    let n = c.push.new.self in
    record {
      grows = Grows-trans F _ _ _ c.rounds.invariant.grows (Grows-trans F _ _ _ c.propagate.ensures.grows (Grows-imply F t.steps.items n.steps.items T t.place.items c.in-Unit.m c.in-Unit.i t.ok h.0 h.1 h.2 c.in_ok-push-in-Unit.ensures.ok));
      size = c.push.ensures.size ∙ c.propagate.ensures.size ∙ c.rounds.invariant.size;
    }
