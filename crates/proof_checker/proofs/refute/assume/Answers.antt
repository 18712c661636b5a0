use Rattle.std.proofs.Common.{ℕ, List, false, refl, get_or, subst, sym, ◌∙◌, arith, below_more}
use Rattle.std.proofs.lemmas.List.{get_or_read}
use Rattle.std.proofs.lemmas.List.Elements.{Contains-get_or}
use Rattle.sat_clause.specs.Literals.{complement_of}
use Rattle.sat_engine.specs.declared.trail.Reason.TheVariants.{Assumed}
use Rattle.sat_engine.specs.declared.trail.SetLiteral.{SetLiteral}
use Rattle.sat_engine.specs.Trail.{IsSet}
use Rattle.sat_engine.proofs.Trails.{each_Contains}
use Rattle.proof_checker.proofs.Bases.{Refuted-clash, IsBase-assume, IsBase-wider, IsFront-push, IsFront-refl, set_push, set_last}
use Rattle.proof_checker.proofs.refute.assume.Goals as goal

pub loop-lit-init : goal.loop-lit-init
loop-lit-init c = record {
  base = IsBase-wider c.args.store.now c.args.asked.now c.args.trail.now.steps.items c.requires.base;
  front = IsFront-refl c.args.trail.now.steps.items;
  size = refl;
  on = λ k h. absurd (omega arith);
}

pub returns-then-index : goal.returns-then-index
returns-then-index c =
    let t = c.loop-lit.trail in
    let A : List ℕ = c.args.asked.now in
    let i : ℕ = c.loop-lit.lit-index in
    let l : ℕ = get_or A i 0 in
    let r = c.requires.range i c.loop-lit-test.true in
    let off : IsSet t.truth.items (complement_of l) =
    subst (λ (x : ℕ). IsSet t.truth.items x) c.complement.ensures
    (sym (get_or_read t.truth.items c.complement.result c.index.result.now (omega (arith, r, c.loop-lit.invariant.size, t.ok.even, c.complement.ensures)) c.index.ensures false) ∙ c.if-index.true) in
    ((Refuted-clash c.args.store.now A t.steps.items t.truth.items t.place.items l t.ok c.loop-lit.invariant.base (Contains-get_or A i 0 c.loop-lit-test.true) off, c.loop-lit.invariant.front), c.loop-lit.invariant.size)

pub loop-lit-preserved : goal.loop-lit-preserved
loop-lit-preserved c =
    let t = c.loop-lit.trail in
    let n = c.push.new.self in
    let F : List (List ℕ) = c.args.store.now in
    let A : List ℕ = c.args.asked.now in
    let i : ℕ = c.loop-lit.lit-index in
    let l : ℕ = get_or A i 0 in
    let s : SetLiteral = record { lit = l; reason = Assumed } in
    record {
      base = IsBase-assume F A t.steps.items n.steps.items l c.loop-lit.invariant.base (Contains-get_or A i 0 c.loop-lit-test.true) c.in_ok-push.ensures.ok;
      front = IsFront-push c.args.trail.now.steps.items t.steps.items n.steps.items s c.loop-lit.invariant.front c.in_ok-push.ensures.ok;
      size = c.push.ensures.size ∙ c.loop-lit.invariant.size;
      on = below_more (λ (k : ℕ). IsSet n.truth.items (get_or A k 0)) i
          (λ k lt. set_push t.steps.items n.steps.items s t.truth.items n.truth.items t.place.items n.place.items (get_or A k 0) t.ok n.ok c.in_ok-push.ensures.ok (c.loop-lit.invariant.on k lt))
          (set_last t.steps.items n.steps.items s n.truth.items n.place.items n.ok c.in_ok-push.ensures.ok);
    }

pub returns : goal.returns
returns c =
    ((c.loop-lit.invariant.base, each_Contains (λ m. IsSet c.loop-lit.trail.truth.items m) c.args.asked.now (λ k lt. c.loop-lit.invariant.on k (omega arith)), c.loop-lit.invariant.front), c.loop-lit.invariant.size)
