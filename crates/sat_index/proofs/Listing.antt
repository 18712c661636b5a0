use Rattle.std.proofs.Common.{ℕ, ◌≡◌, ◌<◌, ◌++◌, inl, inr, List, [], ◌∷◌, length, get_or, set, sym, subst, ◌∙◌, arith}
use Rattle.std.specs.List.{Contains}
use Rattle.std.proofs.lemmas.Bool.{cases_eq, cases_lt}
use Rattle.std.proofs.lemmas.List.{length-append, get_or_append_left, get_or_push, get_or-set_same, get_or-set_other}
use Rattle.sat_clause.specs.Propagation.{clause_at}
use Rattle.sat_index.specs.declared.index.Occurrence.{Occurrence}
use Rattle.sat_index.specs.Signature.{IsSignature}
use Rattle.sat_index.specs.Listed.{IsOccurrence, IsPut, IsIndexed}
use Rattle.sat_index.proofs.Buckets.{IsPut-has, IsPut-keeps}

-- Where the lists have each clause of the store, a further clause n is put into the list of the literal l, which it
-- has, and the store gets that clause: the lists have each clause again.
pub IsIndexed-push : (F : List (List ℕ)) (lists : List (List Occurrence)) (c : List ℕ) (l : ℕ) (n : Occurrence) (here : List Occurrence) → IsIndexed F lists → l < length lists → Contains c l → n.number ≡ length F → IsSignature c n.signature → IsPut (get_or lists l []) n here → IsIndexed (F ++ c ∷ []) (set lists l here)
IsIndexed-push F lists c l n here ix lt has e sk put i h = elim (cases_lt i (length F)) [
  | inl below ↦
      let w = ix i below in
      let same : clause_at F i ≡ clause_at (F ++ c ∷ []) i = sym (get_or_append_left F (c ∷ []) [] i below) in
      let was : IsOccurrence F i w.2.0 = w.2.2 in
      let is : IsOccurrence (F ++ c ∷ []) i w.2.0 = record {
        number = was.number;
        signature = subst (λ (x : List ℕ). IsSignature x w.2.0.signature) same was.signature;
      } in
      (w.0, subst (λ (x : List ℕ). Contains x w.0) same w.1, (w.2.0, kept w.0 w.2.0 w.2.1, is))
  | inr above ↦
      let len = length-append F (c ∷ []) in
      let same : length F ≡ i = omega (arith, len, h) in
      let clause : c ≡ clause_at (F ++ c ∷ []) i = sym (get_or_push F c [] i same) in
      let is : IsOccurrence (F ++ c ∷ []) i n = record {
        number = e ∙ same;
        signature = subst (λ (x : List ℕ). IsSignature x n.signature) clause sk;
      } in (
        l,
        subst (λ (x : List ℕ). Contains x l) clause has,
        (n, subst (λ (x : List Occurrence). Contains x n) (sym (get_or-set_same lists l here [] lt)) (IsPut-has (get_or lists l []) here n put), is),
      )
]
  where
    kept : (m : ℕ) (i : Occurrence) → Contains (get_or lists m []) i → Contains (get_or (set lists l here) m []) i
    kept m i w = elim (cases_eq m l) [
      | inl e ↦ subst (λ (x : ℕ). Contains (get_or (set lists l here) x []) i) (sym e)
          (subst (λ (x : List Occurrence). Contains x i) (sym (get_or-set_same lists l here [] lt)) (IsPut-keeps (get_or lists l []) here n i put (subst (λ (x : ℕ). Contains (get_or lists x []) i) e w)))
      | inr ne ↦ subst (λ (x : List Occurrence). Contains x i) (sym (get_or-set_other lists l m here [] ne)) w
    ]
