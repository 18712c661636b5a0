use Rattle.std.proofs.Common.{ℕ, ◌≡◌, List, Bool, Option, None, false, length, get_or, inr, subst, sym, ap, ◌∙◌, arith}
use Rattle.std.proofs.lemmas.Bool.{both_ways}
use Rattle.std.proofs.lemmas.List.Elements.{Contains-get_or}
use Rattle.sat_clause.specs.Literals.{complement_of}
use Rattle.proof_checker.specs.Scan.{SoFar, IsHeld}
use Rattle.proof_checker.proofs.Scans.{held_false, held_unit}
use Rattle.proof_checker.proofs.scan.classify.Goals as goal

pub returns-then-other-m : goal.returns-then-other-m
returns-then-other-m c =
    let cl : List ℕ = c.args.clause.now in
    let T : List Bool = c.args.truth.now in
    let i : ℕ = c.loop-m.m-index in
    let m : ℕ = get_or cl i 0 in
    let h : IsHeld cl T i c.in-Some.other = subst (λ (x : Option ℕ). SoFar cl T i x) c.in-Some.is c.loop-m.invariant in
    let f : get_or T (complement_of m) false ≡ false = ap (λ (x : ℕ). get_or T x false) (sym c.complement.ensures) ∙ c.if-truth-complement.false in
    inr (c.in-Some.other, m, h.has, Contains-get_or cl i 0 c.loop-m-test.true, c.if-other-m.true, h.unfalse, λ s. both_ways _ f s)

pub returns-in-None-held : goal.returns-in-None-held
returns-in-None-held c =
    let cl : List ℕ = c.args.clause.now in
    let T : List Bool = c.args.truth.now in
    let h : SoFar cl T c.loop-m.m-index None = subst (λ (x : Option ℕ). SoFar cl T c.loop-m.m-index x) c.in-None-held.is c.loop-m.invariant in
    held_false cl T (λ j lt. h j (omega arith))

pub returns-in-Some-held : goal.returns-in-Some-held
returns-in-Some-held c =
    let cl : List ℕ = c.args.clause.now in
    let T : List Bool = c.args.truth.now in
    let m : ℕ = c.in-Some-held.m in
    let h : IsHeld cl T c.loop-m.m-index m = subst (λ (x : Option ℕ). SoFar cl T c.loop-m.m-index x) c.in-Some-held.is c.loop-m.invariant in
    let g : IsHeld cl T (length cl) m = record { has = h.has; unset = h.unset; unfalse = h.unfalse; others = λ j lt ne. h.others j (omega arith) ne } in
    (h.has, held_unit cl T m g, h.unset, h.unfalse)
