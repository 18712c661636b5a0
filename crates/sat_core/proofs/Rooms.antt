-- Room for variables, counted in literals and in variables.
use Rattle.std.proofs.Common.{ℕ, ◌≡◌, ◌*◌, ◌/◌, ◌%◌, ◌<◌, ◌≤◌, List, [], get_or, subst, arith}
use Rattle.std.proofs.lemmas.List.{get_or_default}
use Rattle.sat_clause.specs.Literals.{variable_of, AreBelow, ClausesAreBelow}
use Rattle.sat_clause.specs.Propagation.{clause_at}
use Rattle.sat_engine.specs.Look.{InRange, AreInRange}
use Rattle.sat_core.specs.Finding.{AreWider}
use Rattle.sat_core.specs.Solving.{IsRoom}

pub InRange-below : (n : ℕ) (lits : List ℕ) → AreBelow n lits → InRange lits (2 * n)
InRange-below n lits h k lt = let r = h k 0 lt in omega arith

pub AreBelow-range : (n size : ℕ) (lits : List ℕ) → size ≤ 2 * n → InRange lits size → AreBelow n lits
AreBelow-range n size lits le h k d lt =
    let r = h k lt in
    let e : get_or lits k 0 ≡ get_or lits k d = get_or_default lits k 0 d lt in
    subst (λ (x : ℕ). variable_of x < n) e (omega arith)

pub ClausesAreBelow-range : (n size : ℕ) (F : List (List ℕ)) → size ≤ 2 * n → AreInRange F size → ClausesAreBelow n F
ClausesAreBelow-range n size F le h i d lt =
    subst (AreBelow n) (get_or_default F i [] d lt) (AreBelow-range n size (clause_at F i) le (h i lt))

pub IsRoom-same : (lits : List ℕ) (n : ℕ) → IsRoom lits n n
IsRoom-same lits n = record { longer = omega arith; least = λ m le h. le }

pub IsRoom-wider : (lits : List ℕ) (old new : ℕ) → old % 2 ≡ 0 → new % 2 ≡ 0 → AreWider lits old new → IsRoom lits (old / 2) (new / 2)
IsRoom-wider lits old new e f w = record {
  longer = let l = w.longer in omega arith;
  least = λ n le h. let l = w.least n (omega arith) (InRange-below n lits h) in omega arith;
}
