use Rattle.std.proofs.Common.{ℕ, ◌≡◌, ◌+◌, ◌-◌, ◌≤◌, ◌++◌, List, [], ◌∷◌, length, take, drop, refl, sym, ap, ◌∙◌, arith}
use Rattle.std.proofs.lemmas.List.{length-drop, drop-append-le, take-append-le, drop_at, take_all, map-append}
use Rattle.std.proofs.lemmas.List.Elements.{All-head, All-tail}
use Rattle.sat_engine.specs.declared.store.Head.{Head}
use Rattle.sat_engine.specs.Store.{clause_of, clauses_of, HeadsFit}

clause_of-append : (lits c : List ℕ) (h : Head) → (h.start ≤ h.end) × (h.end ≤ length lits) → clause_of (lits ++ c) h ≡ clause_of lits h
clause_of-append lits c h fit =
    ap (take (h.end - h.start)) (drop-append-le h.start lits c (omega arith))
    ∙ take-append-le (h.end - h.start) (drop h.start lits) c (omega (arith, length-drop h.start lits))

Fit : List ℕ → Head → Type 0
Fit lits h = (h.start ≤ h.end) × (h.end ≤ length lits)

-- more literals leave each clause as it was
pub clauses_of-append : (lits c : List ℕ) (heads : List Head) → HeadsFit lits heads → clauses_of (lits ++ c) heads ≡ clauses_of lits heads
clauses_of-append lits c [] fit = refl
clauses_of-append lits c (h ∷ hs) fit =
    let P : Head → Type 0 = λ (x : Head). (x.start ≤ x.end) × (x.end ≤ length lits) in
    let one : clause_of (lits ++ c) h ≡ clause_of lits h = clause_of-append lits c h (All-head P h hs fit) in
    let more : clauses_of (lits ++ c) hs ≡ clauses_of lits hs = clauses_of-append lits c hs (All-tail P h hs fit) in
    cc

-- the literals pushed last are the last clause
pub clauses_of-push : (lits c : List ℕ) (heads : List Head) (s e : ℕ) → s ≡ length lits → e ≡ length lits + length c → HeadsFit lits heads
    → clauses_of (lits ++ c) (heads ++ record { start = s; end = e } ∷ []) ≡ clauses_of lits heads ++ c ∷ []
clauses_of-push lits c heads s e p q fit =
    let last : take (e - s) (drop s (lits ++ c)) ≡ c = ap (take (e - s)) (drop_at lits c s (sym p)) ∙ take_all (e - s) c (omega arith) in
    map-append (clause_of (lits ++ c)) heads (record { start = s; end = e } ∷ [])
    ∙ ap (λ (x : List (List ℕ)). x ++ take (e - s) (drop s (lits ++ c)) ∷ []) (clauses_of-append lits c heads fit)
    ∙ ap (λ (x : List ℕ). clauses_of lits heads ++ x ∷ []) last
