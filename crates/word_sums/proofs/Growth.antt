-- Literals and truths of a table that has grown.
use Rattle.std.proofs.Common.{ℕ, zero, suc, ◌≡◌, ◌<◌, ◌∷◌, ◌++◌, [], List, Bool, true, false, not, if◌then◌else◌, length, take, drop, get_or, sym, ap, subst, ◌∙◌, arith}
use Rattle.std.proofs.lemmas.List.{take-take}
use Rattle.std.proofs.lemmas.List.Elements.{All-push, All-tail}
use Rattle.sat_clause.specs.Literals.{variable_of, complement_of, is_true, AreBelow}
use Rattle.sat_clause.proofs.Truths.{complement_variable, is_true-complement}
use Rattle.gate_core.specs.declared.gate.Gate.{Gate}
use Rattle.gate_core.specs.Table.{IsLitOf, Grows}
use Rattle.word_sums.specs.Words.{IsWordOf}

pub Grows-trans : (a b c : List Gate) → Grows a b → Grows b c → Grows a c
Grows-trans a b c p q = record {
  longer = omega (arith, p.longer, q.longer);
  front = sym (take-take (length a) (length b) c p.longer) ∙ (ap (take (length a)) q.front ∙ p.front);
  kept = λ A h. p.kept A (q.kept A h);
}

pub word_grown : (old new : List Gate) (ws : List ℕ) → Grows old new → IsWordOf old ws → IsWordOf new ws
word_grown old new ws g is = λ k d h. let e = is k d h in omega (arith, e, g.longer)

pub word_pushed : (gs : List Gate) (ws new : List ℕ) (l : ℕ) → new ≡ ws ++ l ∷ [] → IsWordOf gs ws → IsLitOf gs l → IsWordOf gs new
word_pushed gs ws new l e w i = subst (IsWordOf gs) (sym e) (All-push (IsLitOf gs) ws l w i)

pub complement_pushed : (n : ℕ) (ws new : List ℕ) (x y : ℕ) → new ≡ ws ++ y ∷ [] → y ≡ complement_of x → AreBelow n ws → variable_of x < n → AreBelow n new
complement_pushed n ws new x y e f w h =
    let below : variable_of y < n = subst (λ v. v < n) (sym (ap variable_of f ∙ complement_variable x)) h in
    subst (AreBelow n) (sym e) (All-push (λ l. variable_of l < n) ws y w below)

-- the truth of a literal that may be turned over
pub flipped_value : (A : ℕ → Bool) (flip : Bool) (l out : ℕ) → out ≡ (if flip then complement_of l else l) → is_true A out ≡ (if flip then not (is_true A l) else is_true A l)
flipped_value A true l out e = ap (is_true A) e ∙ is_true-complement A l
flipped_value A false l out e = ap (is_true A) e

pub literal_grown : (old new : List Gate) (l : ℕ) → Grows old new → IsLitOf old l → IsLitOf new l
literal_grown old new l g is = omega (arith, is, g.longer)

pub word_rest : (gs : List Gate) (ws : List ℕ) → IsWordOf gs ws → IsWordOf gs (drop 1 ws)
word_rest gs [] w = w
word_rest gs (l ∷ ls) w = All-tail (IsLitOf gs) l ls w

-- a word with a new lowest literal
pub word_below : (gs : List Gate) (ws new : List ℕ) (l : ℕ) → new ≡ l ∷ ws → IsWordOf gs ws → IsLitOf gs l → IsWordOf gs new
word_below gs ws new l e w i = subst (IsWordOf gs) (sym e) by
  where
    by : IsWordOf gs (l ∷ ws)
    by zero d h = i
    by (suc k) d h = w k d (omega arith)

-- a literal of an earlier table's word
pub word_literal : (old new : List Gate) (ws : List ℕ) (i l : ℕ) → Grows old new → IsWordOf old ws → i < length ws → l ≡ get_or ws i l → IsLitOf new l
word_literal old new ws i l g w h e = literal_grown old new l g (subst (IsLitOf old) (sym e) (w i l h))

pub word_along : (gs : List Gate) (ws vs : List ℕ) → vs ≡ ws → IsWordOf gs ws → IsWordOf gs vs
word_along gs ws vs e w = subst (IsWordOf gs) (sym e) w

-- the lowest literal of a word
pub word_head : (gs : List Gate) (ws : List ℕ) (l : ℕ) → IsWordOf gs ws → 0 < length ws → l ≡ get_or ws 0 l → IsLitOf gs l
word_head gs ws l w h e = subst (IsLitOf gs) (sym e) (w 0 l h)
