-- In an accepted text functions have ranks, and each call is of a function of a lower rank.
use Rattle.std.specs.List.{All, flat_map}
use Rattle.std.proofs.Common.{◌≡◌, ℕ, zero, suc, ◌<◌, Bool, true, false, cond, List, [], ◌∷◌, length, slice_index_or, Option, Some, None, refl, ap, sym, subst, ◌∙◌, inl, inr, arith}
use Rattle.std.proofs.lemmas.Bool.{eqb-true, eq-eqb}
use Rattle.c_rules.specs.Broken.{pair_if}
use Rattle.c_rules.specs.Effects.{Called}
use Rattle.c_rules.specs.Sequencing.{DoneIn, Text, is_number, own_calls, with_body, with_bodies, reached, called_in, is_among, leads_back, broken_by, text_of, done_in_text}
use Rattle.c_rules.specs.Accepted.{given_of}
use Rattle.c_rules.specs.Laws.{IsOfLowerRank, CallsDescend}
use Rattle.c_rules.proofs.Empty.{first_empty, second_empty}
use Rattle.c_rules.proofs.Ranks.{In, in_some, in_which, rank, descends}

-- ---- lists

none_in : {A B : Type 0} (f : A → List B) (xs : List A) (x : A) → flat_map f xs ≡ [] → In x xs → f x ≡ []
none_in f [] x h i = absurd i
none_in f (y ∷ xs) x h (inl e) = ap f e ∙ first_empty (f y) (flat_map f xs) h
none_in f (y ∷ xs) x h (inr i) = none_in f xs x (second_empty (f y) (flat_map f xs) h) i

at_place : {A : Type 0} (xs : List A) (k : ℕ) (d : A) → k < length xs → In (slice_index_or xs k d) xs
at_place [] k d l = absurd (omega (arith, l))
at_place (x ∷ xs) zero d l = inl refl
at_place (x ∷ xs) (suc k) d l = inr (at_place xs k d (let m : suc k < suc (length xs) = l in omega (arith, m)))

all_of : {A : Type 0} (P : A → Type 0) (xs : List A) → ((x : A) → In x xs → P x) → All P xs
all_of P xs f k d l = f (slice_index_or xs k d) (at_place xs k d l)

-- ---- calls

no_pair : (b : Bool) (at rule : ℕ) → pair_if b at rule ≡ [] → b ≡ false
no_pair true at rule h = cc
no_pair false at rule h = refl

-- a call in a function's body, with the part of the text in which it stands
module _ (x : Text) where
  abbrev IsCall : ℕ → Called → DoneIn → Type 0
  IsCall f c d = In d x.done × ((d.function ≡ Some f) × In c d.done.asked.calls)

  numbered : (f : ℕ) (n : Option ℕ) (b : Bool) → is_number f n ≡ true → n ≡ Some f
  numbered f None b h = cc
  numbered f (Some m) b h = ap Some (eqb-true m f h)

  chosen : (f : ℕ) (c : Called) (d : DoneIn) (b : Bool) → is_number f d.function ≡ b → In c (cond b d.done.asked.calls []) → (d.function ≡ Some f) × In c d.done.asked.calls
  chosen f c d true e i = (numbered f d.function true e, i)
  chosen f c d false e i = absurd i

  whose : (f : ℕ) (c : Called) → In c (own_calls x.done f) → (d : DoneIn) × IsCall f c d
  whose f c i =
      let w = in_which (λ d. cond (is_number f d.function) d.done.asked.calls []) x.done c i in
      (w.0, (w.1.0, chosen f c w.0 (is_number f w.0.function) refl w.1.1))

  which_call : (f g : ℕ) → In g (called_in x f) → (c : Called) × ((g ≡ c.callee) × ((d : DoneIn) × IsCall f c d))
  which_call f g i =
      let w = in_which (λ (c : Called). c.callee ∷ []) (own_calls x.done f) g i in
      (w.0, (only w.0 w.1.1, whose f w.0 w.1.0))
    where
      only : (c : Called) → In g (c.callee ∷ []) → g ≡ c.callee
      only c (inl e) = e
      only c (inr i) = absurd i

  with_its_body : (f : ℕ) (d : DoneIn) → In d x.done → d.function ≡ Some f → In f (with_bodies x.done)
  with_its_body f d i e = in_some (λ (y : DoneIn). with_body y.function) x.done f d i (subst (λ n. In f (with_body n)) (sym e) (inl refl))

  own : (f : ℕ) (c : Called) (d : DoneIn) → IsCall f c d → In c (own_calls x.done f)
  own f c d h = in_some (λ y. cond (is_number f y.function) y.done.asked.calls []) x.done c d h.0
      (subst (λ b. In c (cond b d.done.asked.calls [])) (sym (ap (is_number f) h.1.0 ∙ eq-eqb f f refl)) h.1.1)

  called : (f : ℕ) (c : Called) (d : DoneIn) → IsCall f c d → In c.callee (called_in x f)
  called f c d h = in_some (λ (y : Called). y.callee ∷ []) (own_calls x.done f) c.callee c (own f c d h) (inl refl)

  module _ (clear : (d : DoneIn) → In d x.done → broken_by x d ≡ []) where
    never_back : (f : ℕ) (c : Called) (d : DoneIn) → IsCall f c d → is_among (reached (length (with_bodies x.done)) (called_in x) c.callee) f ≡ false
    never_back f c d h =
        no_pair _ c.at 6 (sym (ap (λ n. leads_back x n c) h.1.0) ∙ none_in (leads_back x d.function) d.done.asked.calls c (second_empty _ _ (clear d h.0)) h.1.1)

    has_body : (f g : ℕ) → In g (called_in x f) → In f (with_bodies x.done)
    has_body f g i = let w = which_call f g i in with_its_body f w.1.1.0 w.1.1.1.0 w.1.1.1.1.0

    apart : (f g : ℕ) → In g (called_in x f) → is_among (reached (length (with_bodies x.done)) (called_in x) g) f ≡ false
    apart f g i =
        let w = which_call f g i in
        subst (λ n. is_among (reached (length (with_bodies x.done)) (called_in x) n) f ≡ false) (sym w.1.0) (never_back f w.0 w.1.1.0 w.1.1.1)

    abbrev level : ℕ → ℕ
    level = rank (called_in x) (with_bodies x.done) has_body apart

    lower : (d : DoneIn) (n : Option ℕ) (c : Called) → In d x.done → d.function ≡ n → In c d.done.asked.calls → IsOfLowerRank level n c
    lower d None c i e j = tt
    lower d (Some f) c i e j = descends (called_in x) (with_bodies x.done) has_body apart f c.callee (called f c d (i, (e, j)))

    ranked : (rank : ℕ → ℕ) × All (λ d. All (IsOfLowerRank rank d.function) d.done.asked.calls) x.done
    ranked = (level, all_of (λ d. All (IsOfLowerRank level d.function) d.done.asked.calls) x.done (λ d i. all_of (IsOfLowerRank level d.function) d.done.asked.calls (λ c j. lower d d.function c i refl j)))

pub calls_descend : CallsDescend
calls_descend model text accepted =
    ranked (text_of (given_of model text) text.externals)
    (λ d i. none_in (broken_by (text_of (given_of model text) text.externals)) (done_in_text (given_of model text) text.externals) d (second_empty _ _ (first_empty _ _ accepted)) i)
