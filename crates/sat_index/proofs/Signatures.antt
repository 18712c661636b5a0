use Rattle.std.proofs.Common.{ℕ, ◌≡◌, ◌+◌, ◌<◌, ◌++◌, ◌∷◌, [], Bool, true, false, cond, List, length, get_or, take, inl, inr, sym, ap, subst, ◌∙◌, arith}
use Rattle.std.specs.Int.Bits.{bit_and, bit_or, and_self}
use Rattle.std.proofs.lemmas.Nat.{and_assoc, and_comm, or_comm, and_or_self}
use Rattle.std.proofs.lemmas.List.{take_more}
use Rattle.std.proofs.lemmas.List.Elements.{Contains-push_cases, Contains-push, Contains-append_left}
use Rattle.sat_index.specs.declared.index.Occurrence.{Occurrence}
use Rattle.sat_index.specs.Signature.{all_set, mask_of, Lacks, IsWithin, AreWithin, IsSignature}

-- two words in either order after a third
and_swap : (s a b : ℕ) → bit_and (bit_and s a) b ≡ bit_and (bit_and s b) a
and_swap s a b = and_assoc b s a ∙ ap (λ (x : ℕ). bit_and s x) (and_comm a b) ∙ sym (and_assoc a s b)

pub IsSignature-none : IsSignature [] all_set
IsSignature-none = record {
  whole = and_self all_set;
  each = λ l w. absurd (omega (arith, w.1));
  least = λ t whole each. whole;
}

pub IsSignature-more : (c : List ℕ) (s k d : ℕ) → k < length c → IsSignature (take k c) s → IsSignature (take (k + 1) c) (bit_and s (mask_of (get_or c k d)))
IsSignature-more c s k d lt h =
    let l : ℕ = get_or c k d in
    let more : take (k + 1) c ≡ take k c ++ l ∷ [] = take_more c k d lt in
    let made : IsSignature (take k c ++ l ∷ []) (bit_and s (mask_of l)) = record {
      whole = sym (and_assoc (mask_of l) all_set s) ∙ ap (λ (x : ℕ). bit_and x (mask_of l)) h.whole;
      each = λ m w. elim (Contains-push_cases (take k c) l m w) [
        | inl old ↦ and_swap s (mask_of l) (mask_of m) ∙ ap (λ (x : ℕ). bit_and x (mask_of l)) (h.each m old)
        | inr new ↦ subst (λ (x : ℕ). Lacks (bit_and s (mask_of l)) x) new (and_assoc (mask_of l) s (mask_of l) ∙ ap (λ (x : ℕ). bit_and s x) (and_self (mask_of l)))
      ];
      least = λ t whole each.
          let old : IsWithin s t = h.least t whole (λ m w. each m (Contains-append_left (take k c) (l ∷ []) m w)) in
          let new : Lacks t l = each l (Contains-push (take k c) l) in
          and_assoc t s (mask_of l) ∙ ap (λ (x : ℕ). bit_and s x) (and_comm (mask_of l) t ∙ new) ∙ old;
    } in
    subst (λ (x : List ℕ). IsSignature x (bit_and s (mask_of l))) (sym more) made

pub IsWithin-through : (r s t : ℕ) → IsWithin r s → IsWithin s t → IsWithin r t
IsWithin-through r s t one two = ap (λ (x : ℕ). bit_and r x) (sym two) ∙ sym (and_assoc t r s) ∙ ap (λ (x : ℕ). bit_and x t) one ∙ two

-- the joint word is within each that it was joined from
IsWithin-left : (r s : ℕ) → IsWithin (bit_or r s) r
IsWithin-left r s = ap (λ (x : ℕ). bit_and x r) (or_comm r s) ∙ and_or_self r s

IsWithin-right : (r s : ℕ) → IsWithin (bit_or r s) s
IsWithin-right r s = and_or_self s r

AreWithin-raised : (joint s : ℕ) (occurrences : List Occurrence) → AreWithin joint occurrences → AreWithin (bit_or joint s) occurrences
AreWithin-raised joint s occurrences h e w = IsWithin-through (bit_or joint s) joint e.signature (IsWithin-left joint s) (h e w)

pub AreWithin-put : (b : Bool) (joint : ℕ) (occurrences after : List Occurrence) (n : Occurrence) → AreWithin joint occurrences → after ≡ cond b (occurrences ++ n ∷ []) occurrences → AreWithin (bit_or joint n.signature) after
AreWithin-put false joint occurrences after n h is = subst (AreWithin (bit_or joint n.signature)) (sym is) (AreWithin-raised joint n.signature occurrences h)
AreWithin-put true joint occurrences after n h is = subst (AreWithin (bit_or joint n.signature)) (sym is) (λ e w. elim (Contains-push_cases occurrences n e w) [
  | inl old ↦ AreWithin-raised joint n.signature occurrences h e old
  | inr new ↦ subst (λ (x : Occurrence). IsWithin (bit_or joint n.signature) x.signature) new (IsWithin-right joint n.signature)
])
