use Rattle.std.proofs.Common.{ℕ, suc, zero, ◌≡◌, ◌+◌, ◌-◌, ◌<◌, ◌≤◌, ◌++◌, inl, inr, List, [], ◌∷◌, length, get_or, set, refl, sym, ap, subst, ◌∙◌, arith}
use Rattle.std.proofs.Math.Seq.{set-append_seam}
use Rattle.std.proofs.lemmas.List.{length_push, length-append, get_or_push, get_or_append_left, get_or-append-add, append_assoc}
use Rattle.std.proofs.Math.ListN.{get_or-eq_default}
use Rattle.std.proofs.lemmas.List.Elements.{All-push, All-get_or, All-weaker}
use Rattle.std.proofs.lemmas.Bool.{cases_lt}
use Rattle.sat_engine.specs.declared.store.Head.{Head}
use Rattle.sat_engine.specs.Look.{InRange}
use Rattle.sat_engine.specs.Tag.{first_tag}
use Rattle.sat_engine.specs.Store.{clauses_of, none_head, HeadsFit, IsTold, IsLaid}
use Rattle.sat_engine.proofs.Laid.{clauses_of-append, clauses_of-push}

abbrev Fits : List ℕ → Head → Type 0
Fits words h = (h.start ≤ h.end) × (h.end ≤ length words)

-- what tells of a clause stands within the words
told_within : (words : List ℕ) (heads : List Head) (p n : ℕ) → HeadsFit words heads → IsTold words heads p n → p + 2 ≤ length words
told_within words heads p n fit t =
    let f : Fits words (get_or heads n none_head) = All-get_or (Fits words) heads n none_head t.within fit in
    let s = t.start in
    omega (arith, f.0, f.1, s)

-- the heads fit into more words
pub fit_more : (words more : List ℕ) (heads : List Head) → HeadsFit words heads → HeadsFit (words ++ more) heads
fit_more words more heads fit = All-weaker (Fits words) (Fits (words ++ more)) (λ h f. (f.0, omega (arith, f.1, length-append words more))) heads fit

-- a word among plain ones begins no clause
plain : (words : List ℕ) (p : ℕ) → InRange words first_tag → first_tag ≤ get_or words p 0 → ⊥
plain words p all tag = elim (cases_lt p (length words)) [
  | inl below ↦ let a = all p below in omega arith
  | inr above ↦ let e : get_or words p 0 ≡ 0 = get_or-eq_default words 0 above in omega arith
]

-- a told clause is told when words and heads are added
told_more : (words more : List ℕ) (heads : List Head) (h : Head) (p : ℕ) → HeadsFit words heads → IsTold words heads p (get_or words (p + 1) 0)
    → IsTold (words ++ more) (heads ++ h ∷ []) p (get_or (words ++ more) (p + 1) 0)
told_more words more heads h p fit t =
    let within : p + 2 ≤ length words = told_within words heads p (get_or words (p + 1) 0) fit t in
    let n : ℕ = get_or words (p + 1) 0 in
    let here : get_or (words ++ more) p 0 ≡ get_or words p 0 = get_or_append_left words more 0 p (omega arith) in
    let next : get_or (words ++ more) (p + 1) 0 ≡ n = get_or_append_left words more 0 (p + 1) (omega arith) in
    let head : get_or (heads ++ h ∷ []) n none_head ≡ get_or heads n none_head = get_or_append_left heads (h ∷ []) none_head n t.within in
    subst (λ (x : ℕ). IsTold (words ++ more) (heads ++ h ∷ []) p x) (sym next) (record {
      within = let w = t.within in omega (arith, length_push heads h);
      start = ap (λ (x : Head). x.start) head ∙ t.start;
      end = ap (λ (x : Head). x.end) head ∙ t.end ∙ ap (λ (x : ℕ). p + 2 + (x - first_tag)) (sym here);
    })

told_same : (words more : List ℕ) (heads : List Head) (p : ℕ) → HeadsFit words heads → IsTold words heads p (get_or words (p + 1) 0)
    → IsTold (words ++ more) heads p (get_or (words ++ more) (p + 1) 0)
told_same words more heads p fit t =
    let within : p + 2 ≤ length words = told_within words heads p (get_or words (p + 1) 0) fit t in
    let n : ℕ = get_or words (p + 1) 0 in
    let here : get_or (words ++ more) p 0 ≡ get_or words p 0 = get_or_append_left words more 0 p (omega arith) in
    let next : get_or (words ++ more) (p + 1) 0 ≡ n = get_or_append_left words more 0 (p + 1) (omega arith) in
    subst (λ (x : ℕ). IsTold (words ++ more) heads p x) (sym next) (record {
      within = t.within;
      start = t.start;
      end = t.end ∙ ap (λ (x : ℕ). p + 2 + (x - first_tag)) (sym here);
    })

-- words that begin no clause may follow
pub IsLaid-append : (words more : List ℕ) (heads : List Head) → InRange more first_tag → IsLaid words heads → IsLaid (words ++ more) heads
IsLaid-append words more heads all laid = record {
  fit = fit_more words more heads laid.fit;
  told = λ p tag. elim (cases_lt p (length words)) [
    | inl below ↦
        let here : get_or (words ++ more) p 0 ≡ get_or words p 0 = get_or_append_left words more 0 p below in
        told_same words more heads p laid.fit (laid.told p (subst (λ (x : ℕ). first_tag ≤ x) here tag))
    | inr above ↦
        let k : ℕ = p - length words in
        let here : get_or (words ++ more) p 0 ≡ get_or more k 0 = ap (λ (x : ℕ). get_or (words ++ more) x 0) (omega arith) ∙ get_or-append-add words more k 0 in
        absurd (plain more k all (subst (λ (x : ℕ). first_tag ≤ x) here tag))
  ];
}

-- a clause after the words, told by two of them
pub IsLaid-push : (words c : List ℕ) (heads : List Head) (s e : ℕ) → s ≡ length words + 2 → e ≡ length words + 2 + length c → length heads < first_tag → InRange c first_tag → IsLaid words heads
    → IsLaid (words ++ (first_tag + (e - s)) ∷ length heads ∷ c) (heads ++ record { start = s; end = e } ∷ [])
IsLaid-push words c heads s e is_s is_e few all laid =
    let t : ℕ = first_tag + (e - s) in
    let more : List ℕ = t ∷ length heads ∷ c in
    let h : Head = record { start = s; end = e } in
    let long : length (words ++ more) ≡ length words + 2 + length c = omega (arith, length-append words more) in
    record {
      fit = All-push (Fits (words ++ more)) heads h (fit_more words more heads laid.fit) (omega arith, omega (arith, long));
      told = λ p tag. elim (cases_lt p (length words)) [
        | inl below ↦
            let here : get_or (words ++ more) p 0 ≡ get_or words p 0 = get_or_append_left words more 0 p below in
            told_more words more heads h p laid.fit (laid.told p (subst (λ (x : ℕ). first_tag ≤ x) here tag))
        | inr above ↦ behind p (p - length words) (omega arith) tag
      ];
    }
  where
    told_last : (p : ℕ) → p ≡ length words + 0 → IsTold (words ++ (first_tag + (e - s)) ∷ length heads ∷ c) (heads ++ record { start = s; end = e } ∷ []) p (get_or (words ++ (first_tag + (e - s)) ∷ length heads ∷ c) (p + 1) 0)
    told_last p is_p =
        let t : ℕ = first_tag + (e - s) in
        let more : List ℕ = t ∷ length heads ∷ c in
        let h : Head = record { start = s; end = e } in
        let here : get_or (words ++ more) p 0 ≡ t = ap (λ (x : ℕ). get_or (words ++ more) x 0) is_p ∙ get_or-append-add words more 0 0 in
        let next : get_or (words ++ more) (p + 1) 0 ≡ length heads = ap (λ (x : ℕ). get_or (words ++ more) x 0) (omega arith) ∙ get_or-append-add words more 1 0 in
        let head : get_or (heads ++ h ∷ []) (length heads) none_head ≡ h = get_or_push heads h none_head (length heads) refl in
        subst (λ (x : ℕ). IsTold (words ++ more) (heads ++ h ∷ []) p x) (sym next) (record {
          within = omega (arith, length_push heads h);
          start = ap (λ (x : Head). x.start) head ∙ omega arith;
          end = ap (λ (x : Head). x.end) head ∙ omega (arith, here);
        })

    behind : (p k : ℕ) → p ≡ length words + k → first_tag ≤ get_or (words ++ (first_tag + (e - s)) ∷ length heads ∷ c) p 0 → IsTold (words ++ (first_tag + (e - s)) ∷ length heads ∷ c) (heads ++ record { start = s; end = e } ∷ []) p (get_or (words ++ (first_tag + (e - s)) ∷ length heads ∷ c) (p + 1) 0)
    behind p zero is_p tag = told_last p is_p
    behind p (suc zero) is_p tag =
        let more : List ℕ = (first_tag + (e - s)) ∷ length heads ∷ c in
        let here : get_or (words ++ more) p 0 ≡ length heads = ap (λ (x : ℕ). get_or (words ++ more) x 0) is_p ∙ get_or-append-add words more 1 0 in
        absurd (omega (arith, here))
    behind p (suc (suc k)) is_p tag =
        let more : List ℕ = (first_tag + (e - s)) ∷ length heads ∷ c in
        let here : get_or (words ++ more) p 0 ≡ get_or c k 0 = ap (λ (x : ℕ). get_or (words ++ more) x 0) is_p ∙ get_or-append-add words more (suc (suc k)) 0 in
        absurd (plain c k all (subst (λ (x : ℕ). first_tag ≤ x) here tag))

-- two words that begin no clause
pub pair_plain : (n : ℕ) → n < first_tag → InRange (0 ∷ n ∷ []) first_tag
pair_plain n lt zero k = omega arith
pair_plain n lt (suc zero) k = lt
pair_plain n lt (suc (suc i)) k = absurd (omega arith)

-- the first of two words is written when the others stand
pub set_lead : (words c : List ℕ) (n t p : ℕ) → p ≡ length words → set (words ++ 0 ∷ n ∷ [] ++ c) p t ≡ words ++ t ∷ n ∷ c
set_lead words c n t p is_p =
    ap (λ (x : List ℕ). set x p t) (append_assoc words (0 ∷ n ∷ []) c)
    ∙ ap (λ (x : ℕ). set (words ++ 0 ∷ n ∷ c) x t) is_p
    ∙ set-append_seam words 0 (n ∷ c) t

-- the literals that stand last are the last clause
pub clauses_of-laid : (words c : List ℕ) (heads : List Head) (s e t n : ℕ) → s ≡ length words + 2 → e ≡ length words + 2 + length c → IsLaid words heads
    → clauses_of (words ++ t ∷ n ∷ c) (heads ++ record { start = s; end = e } ∷ []) ≡ clauses_of words heads ++ c ∷ []
clauses_of-laid words c heads s e t n is_s is_e laid =
    let lead : List ℕ = words ++ t ∷ n ∷ [] in
    let long : length lead ≡ length words + 2 = omega (arith, length-append words (t ∷ n ∷ [])) in
    ap (λ (x : List ℕ). clauses_of x (heads ++ record { start = s; end = e } ∷ [])) (sym (append_assoc words (t ∷ n ∷ []) c))
    ∙ clauses_of-push lead c heads s e (omega (arith, long)) (omega (arith, long)) (fit_more words (t ∷ n ∷ []) heads laid.fit)
    ∙ ap (λ (x : List (List ℕ)). x ++ c ∷ []) (clauses_of-append words (t ∷ n ∷ []) heads laid.fit)
