-- Lists of clauses as sets.
use Rattle.std.proofs.Common.{ℕ, zero, suc, ◌≡◌, ◌+◌, ◌-◌, ◌<◌, ◌≤◌, ◌++◌, inl, inr, List, [], length, take, Bool, true, refl, sym, ap, subst, ◌∙◌, arith}
use Rattle.std.proofs.lemmas.Bool.{cases_lt}
use Rattle.std.proofs.lemmas.List.{length-append, get_or_append_left, get_or-append_right, get_or-take, length-take-le}
use Rattle.sat_clause.specs.Literals.{clause_holds, MeetsAll}
use Rattle.sat_clause.specs.Propagation.{clause_at, Follows, Includes, IncludesNone, IsProper, Spent}
use Rattle.sat_clause.specs.Sets.{HasAll, SameClauses}
use Rattle.sat_clause.proofs.Truths.{met_at, met_both, met-from_each}
use Rattle.sat_clause.proofs.Propagation.{Follows-more, Follows-sound, HasAll-append}

pub HasAll-trans : (F G H : List (List ℕ)) → HasAll G F → HasAll H G → HasAll H F
HasAll-trans F G H g h i lt =
    let v = g i lt in
    let w = h v.0 v.1 in
    (w.0, w.1, w.2 ∙ v.2)

pub HasAll-append_right : (F G : List (List ℕ)) → HasAll (F ++ G) G
HasAll-append_right F G i lt =
    let back : length F + i - length F ≡ i = omega arith in
    (length F + i, omega (arith, length-append F G), get_or-append_right F G (length F) (length F + i) [] refl (omega arith) ∙ ap (clause_at G) back)

pub HasAll-both : (F G H : List (List ℕ)) → HasAll H F → HasAll H G → HasAll H (F ++ G)
HasAll-both F G H f g i lt = elim (cases_lt i (length F)) [
  | inl old ↦ let w = f i old in (w.0, w.1, w.2 ∙ sym (get_or_append_left F G [] i old))
  | inr new ↦
      let w = g (i - length F) (omega (arith, length-append F G)) in
      (w.0, w.1, w.2 ∙ sym (get_or-append_right F G (length F) i [] refl new))
]

pub HasAll-append_both : (F G H : List (List ℕ)) → HasAll G F → HasAll (G ++ H) (F ++ H)
HasAll-append_both F G H g = HasAll-both F H (G ++ H) (HasAll-trans F G (G ++ H) g (HasAll-append G H)) (HasAll-append_right G H)

pub SameClauses-refl : (F : List (List ℕ)) → SameClauses F F
SameClauses-refl F = record { first = λ i lt. (i, lt, refl); second = λ i lt. (i, lt, refl) }

pub SameClauses-append : (F G H : List (List ℕ)) → SameClauses F G → SameClauses (F ++ H) (G ++ H)
SameClauses-append F G H s = record { first = HasAll-append_both G F H s.first; second = HasAll-append_both F G H s.second }

-- the order of what is put at the end is free
HasAll-swap : (F G H : List (List ℕ)) → HasAll (F ++ H ++ G) (F ++ G ++ H)
HasAll-swap F G H =
    let all : List (List ℕ) = F ++ H ++ G in
    let front : HasAll all (F ++ H) = HasAll-append (F ++ H) G in
    HasAll-both (F ++ G) H all
    (HasAll-both F G all (HasAll-trans F (F ++ H) all (HasAll-append F H) front) (HasAll-append_right (F ++ H) G))
    (HasAll-trans H (F ++ H) all (HasAll-append_right F H) front)

pub SameClauses-swap : (F G H : List (List ℕ)) → SameClauses (F ++ G ++ H) (F ++ H ++ G)
SameClauses-swap F G H = record { first = HasAll-swap F H G; second = HasAll-swap F G H }

pub SameClauses-trans : (F G H : List (List ℕ)) → SameClauses F G → SameClauses G H → SameClauses F H
SameClauses-trans F G H s t = record { first = HasAll-trans H G F t.first s.first; second = HasAll-trans F G H s.second t.second }

-- what includes none of many clauses includes none of fewer
pub IncludesNone-fewer : (F G : List (List ℕ)) (c : List ℕ) → HasAll G F → IncludesNone G c → IncludesNone F c
IncludesNone-fewer F G c sup none i lt inc = let w = sup i lt in none w.0 w.1 (subst (Includes c) (sym w.2) inc)

pub MeetsAll-fewer : (A : ℕ → Bool) (F G : List (List ℕ)) → HasAll G F → MeetsAll A G → MeetsAll A F
MeetsAll-fewer A F G sup m = met-from_each A F (λ i lt. let w = sup i lt in ap (clause_holds A) (sym w.2) ∙ met_at A G m w.0 w.1)

-- clauses that follow one after another are true where the first ones are
pub log_met : (A : ℕ → Bool) (F L : List (List ℕ)) → MeetsAll A F → ((i : ℕ) → i < length L → Follows (F ++ take i L) (clause_at L i)) → MeetsAll A (F ++ L)
log_met A F L m follows = met-from_each A (F ++ L) (λ i lt. elim (cases_lt i (length F)) [
  | inl old ↦ ap (clause_holds A) (get_or_append_left F L [] i old) ∙ met_at A F m i old
  | inr new ↦ ap (clause_holds A) (get_or-append_right F L (length F) i [] refl new) ∙ below (suc (i - length F)) (i - length F) (omega arith) (omega (arith, length-append F L))
])
  where
    below : (b i : ℕ) → i < b → i < length L → clause_holds A (clause_at L i) ≡ true
    below zero i h lt = absurd (omega arith)
    below (suc b) i h lt =
        let size : length (take i L) ≡ i = length-take-le i L (omega arith) in
        let before : MeetsAll A (take i L) = met-from_each A (take i L) (λ j k. ap (clause_holds A) (get_or-take i L j [] (omega arith)) ∙ below b j (omega arith) (omega arith)) in
        Follows-sound A (F ++ take i L) (clause_at L i) (met_both A F (take i L) m before) (follows i lt)

pub IsProper-wider : (m n : ℕ) (c : List ℕ) → m ≤ n → IsProper m c → IsProper n c
IsProper-wider m n c le p = record { below = λ k d lt. let b = p.below k d lt in omega arith; nonempty = p.nonempty; apart = p.apart }

-- a log stays one where further clauses are added to those that it begins with
pub Spent-more : (m n : ℕ) (F G L : List (List ℕ)) → m ≤ n → HasAll G F → Spent m F 0 L → Spent n G 0 L
Spent-more m n F G L le sup s = record {
  enough = omega arith;
  proper = λ i lt. IsProper-wider m n (clause_at L i) le (s.proper i lt);
  follows = λ i lt. Follows-more (F ++ take i L) (G ++ take i L) (clause_at L i) (HasAll-append_both F G (take i L) sup) (s.follows i lt);
  fresh = λ i lt late. absurd (omega arith);
}
