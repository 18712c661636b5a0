use Rattle.std.proofs.Common.{ℕ, ◌≡◌, ◌+◌, ◌/◌, ◌<◌, ◌++◌, inl, inr, List, [], ◌∷◌, Bool, length, get_or, sym, subst, ◌∙◌, arith}
use Rattle.std.specs.List.{Contains}
use Rattle.std.proofs.lemmas.Bool.{cases_lt}
use Rattle.std.proofs.lemmas.List.{get_or_default}
use Rattle.std.proofs.lemmas.List.Elements.{Contains-push, Contains-append_left, Contains-push_cases, Contains-get_or}
use Rattle.sat_engine.specs.Trail.{IsSet}
use Rattle.sat_search.proofs.shorten.still_marked.Goals as goal

-- the marked ones of the first literals are listed
abbrev Lists : (lits kept : List ℕ) (marks : List Bool) (i : ℕ) → Type 0
Lists lits kept marks i = (k : ℕ) → k < i → IsSet marks (get_or lits k 0 / 2) → Contains kept (get_or lits k 0)

one_more : (lits kept : List ℕ) (marks : List Bool) (i : ℕ) → Lists lits kept marks i → Lists lits (kept ++ get_or lits i 0 ∷ []) marks (i + 1)
one_more lits kept marks i all k lt h = elim (cases_lt k i) [
  | inl a ↦ Contains-append_left kept (get_or lits i 0 ∷ []) (get_or lits k 0) (all k a h)
  | inr b ↦ let same : i ≡ k = omega arith in subst (λ (x : ℕ). Contains (kept ++ get_or lits i 0 ∷ []) (get_or lits x 0)) same (Contains-push kept (get_or lits i 0))
]

from_lits : (lits kept : List ℕ) (i m : ℕ) → i < length lits → ((x : ℕ) → Contains kept x → Contains lits x) → Contains (kept ++ get_or lits i 0 ∷ []) m → Contains lits m
from_lits lits kept i m lt only w = elim (Contains-push_cases kept (get_or lits i 0) m w) [
  | inl a ↦ only m a
  | inr e ↦ subst (λ (x : ℕ). Contains lits x) e (Contains-get_or lits i 0 lt)
]

pub loop-lit-preserved : goal.loop-lit-preserved
loop-lit-preserved c =
    let lits : List ℕ = c.args.lits.now in
    let kept : List ℕ = c.loop-lit.kept.items in
    let i : ℕ = c.loop-lit.lit-index in
    record {
      only = λ m w. from_lits lits kept i m c.loop-lit-test.true c.loop-lit.invariant.only (subst (λ (x : List ℕ). Contains x m) c.in_ok-push.ensures.items w);
      all = λ k lt h. subst (λ (x : List ℕ). Contains x (get_or lits k 0)) (sym c.in_ok-push.ensures.items) (one_more lits kept c.args.marks.now i c.loop-lit.invariant.all k lt h);
    }

pub returns-clause-all : goal.returns-clause-all
returns-clause-all c = λ l w h.
    let lits : List ℕ = c.args.lits.now in
    let here : get_or lits w.0 0 ≡ l = get_or_default lits w.0 0 l w.1 ∙ w.2 in
    subst (λ (x : ℕ). Contains c.loop-lit.kept.items x) here (c.loop-lit.invariant.all w.0 (omega (arith, w.1)) (subst (λ (x : ℕ). IsSet c.args.marks.now (x / 2)) (sym here) h))
