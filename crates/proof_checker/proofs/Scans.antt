use Rattle.std.proofs.Common.{ℕ, ◌≢◌, ◌<◌, inl, inr, List, length, Bool, None, sym, subst, ◌∙◌}
use Rattle.std.proofs.lemmas.Bool.{cases_eq}
use Rattle.sat_clause.specs.Literals.{complement_of}
use Rattle.sat_clause.specs.Propagation.{clause_at, Refuted}
use Rattle.sat_clause.proofs.Propagation.{IsClosed, Refuted-closed}
use Rattle.sat_engine.specs.Trail.{IsSet}
use Rattle.sat_engine.specs.Look.{AreFalse, AreFalseBut}
use Rattle.sat_engine.proofs.Trails.{each_Contains}
use Rattle.proof_checker.specs.Base.{AreSet}
use Rattle.proof_checker.specs.Scan.{IsSettled, IsHeld, SoFar}

-- where each clause is settled, what is set is closed under propagation
pub closed_from : (F : List (List ℕ)) (truth : List Bool) → ((l : ℕ) → IsSet truth l → IsSet truth (complement_of l) → ⊥) → ((i : ℕ) → i < length F → IsSettled (clause_at F i) truth) → IsClosed F (IsSet truth)
closed_from F truth apart all = record {
  no_unit = λ i lt l has others. elim (all i lt) [
    | inl t ↦ elim (cases_eq t.0 l) [ inl e ↦ subst (λ (x : ℕ). IsSet truth x) e t.2 | inr ne ↦ absurd (apart t.0 t.2 (others t.0 t.1 ne)) ]
    | inr p ↦ elim (cases_eq p.0 l) [
      | inl e ↦ absurd (p.6 (others p.1 p.3 (λ f. p.4 (e ∙ sym f))))
      | inr ne ↦ absurd (p.5 (others p.0 p.2 ne))
    ]
  ];
  no_false = λ i lt none. elim (all i lt) [
    | inl t ↦ apart t.0 t.2 (none t.0 t.1)
    | inr p ↦ p.5 (none p.0 p.2)
  ];
}

-- and then literals that are set are not refuted
pub not_refuted : (F : List (List ℕ)) (A : List ℕ) (truth : List Bool) → ((l : ℕ) → IsSet truth l → IsSet truth (complement_of l) → ⊥) → ((i : ℕ) → i < length F → IsSettled (clause_at F i) truth) → AreSet A truth → Refuted F A → ⊥
not_refuted F A truth apart all set_all r = Refuted-closed F A (IsSet truth) (closed_from F truth apart all) apart set_all r

pub held_false : (c : List ℕ) (truth : List Bool) → SoFar c truth (length c) None → AreFalse c truth
held_false c truth h = each_Contains (λ m. IsSet truth (complement_of m)) c h

pub held_unit : (c : List ℕ) (truth : List Bool) (o : ℕ) → IsHeld c truth (length c) o → AreFalseBut c truth o
held_unit c truth o h m w = each_Contains (λ m. m ≢ o → IsSet truth (complement_of m)) c h.others m w
