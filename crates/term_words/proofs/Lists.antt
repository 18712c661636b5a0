-- Lists of words, and their places.
use Rattle.std.proofs.Common.{arith, ◌≡◌, ℕ, zero, suc, ◌<◌, Bool, ℤ, List, [], ◌∷◌, ◌++◌, length, slice_get, None, refl, sym, subst, ⊎_elim, length-append}
use Rattle.std.proofs.lemmas.Bool.{cases_lt}
use Rattle.std.proofs.lemmas.List.{get_or_append_left, get_or_push}
use Rattle.std.proofs.lemmas.Option.{none-some}
use Rattle.std.proofs.lemmas.List.Elements.{All-push}
use Rattle.gate_core.specs.declared.gate.Gate.{Gate}
use Rattle.gate_core.specs.Table.{Grows}
use Rattle.term_core.specs.declared.term.Term.{Term}
use Rattle.term_core.specs.Table.{shape_at}
use Rattle.word_sums.specs.Words.{word_value, IsWordOf}
use Rattle.word_sums.proofs.Growth.{word_grown}
use Rattle.term_words.specs.Words.{word_at, AreWordsOf, AreWide, Give}

pub words_grown : (old new : List Gate) (ws : List (List ℕ)) → Grows old new → AreWordsOf old ws → AreWordsOf new ws
words_grown old new ws g h = λ k d low. word_grown old new _ g (h k d low)

-- what holds of each place of a list and of a further word
at_push : (P : ℕ → List ℕ → Type 0) (ws : List (List ℕ)) (w : List ℕ) → ((i : ℕ) → i < length ws → P i (word_at ws i)) → P (length ws) w → (i : ℕ) → i < length (ws ++ w ∷ []) → P i (word_at (ws ++ w ∷ []) i)
at_push P ws w before last i small = ⊎_elim
    (λ low. subst (P i) (sym (get_or_append_left ws (w ∷ []) [] i low)) (before i low))
    (λ high. let e : i ≡ length ws = omega (arith, length-append ws (w ∷ [])) in
    let Q : ℕ → Type 0 = λ k. P k w in
    subst (P i) (sym (get_or_push ws w [] i (sym e))) (subst Q (sym e) last))
    (cases_lt i (length ws))

module _ (ws new : List (List ℕ)) (w : List ℕ) (made : new ≡ ws ++ w ∷ []) where
  pub words_pushed : (gs : List Gate) → AreWordsOf gs ws → IsWordOf gs w → AreWordsOf gs new
  words_pushed gs before last = let R : List (List ℕ) → Type 0 = λ x. AreWordsOf gs x in subst R (sym made) (All-push (IsWordOf gs) ws w before last)

  pub wide_pushed : (ts : List Term) (i : ℕ) → length ws ≡ i → AreWide ts ws → length w ≡ (shape_at ts i).width → AreWide ts new
  wide_pushed ts i len before last =
      let Q : ℕ → Type 0 = λ k. length w ≡ (shape_at ts k).width in
      subst (AreWide ts) (sym made) (record { at = at_push (λ k x. length x ≡ (shape_at ts k).width) ws w before.at (subst Q (sym len) last) })

  pub give_pushed : (A : ℕ → Bool) (ts : List Term) (V : ℕ → ℤ) (i : ℕ) → length ws ≡ i → Give A ts ws V → word_value A (shape_at ts i).signed w ≡ V i → Give A ts new V
  give_pushed A ts V i len before last =
      let Q : ℕ → Type 0 = λ k. word_value A (shape_at ts k).signed w ≡ V k in
      let R : List (List ℕ) → Type 0 = λ x. Give A ts x V in
      subst R (sym made) (record { at = at_push (λ k x. word_value A (shape_at ts k).signed x ≡ V k) ws w before.at (subst Q (sym len) last) })

-- a place past the end has the empty word
pub word_past : (ws : List (List ℕ)) (i : ℕ) → slice_get ws i ≡ None → word_at ws i ≡ []
word_past [] i e = refl
word_past (w ∷ ws) zero e = absurd (none-some w (sym e))
word_past (w ∷ ws) (suc i) e = word_past ws i e
