-- Truths as words of one bit.
use Rattle.std.proofs.Common.{◌≡◌, ℕ, ◌+◌, ◌*◌, Bool, true, false, List, [], ◌∷◌, length, get_or, pos, refl, sym, ap, ◌∙◌, arith}
use Rattle.sat_clause.specs.Literals.{is_true}
use Rattle.term_core.specs.Term.{truth}
use Rattle.word_sums.specs.Words.{bit, number, word_value}
use Rattle.word_sums.proofs.Numbers.{word_value-unsigned}

bit_number : (b : Bool) → pos (bit b + 2 * 0) ≡ truth b
bit_number true = refl
bit_number false = refl

pub value_of_literal : (A : ℕ → Bool) (l : ℕ) (w : List ℕ) → w ≡ l ∷ [] → word_value A false w ≡ truth (is_true A l)
value_of_literal A l w e = word_value-unsigned A w ∙ (ap (λ v. pos (number A v)) e ∙ bit_number (is_true A l))

-- a word of one bit is its lowest literal
pub only_literal : (w : List ℕ) (l : ℕ) → length w ≡ 1 → l ≡ get_or w 0 l → w ≡ l ∷ []
only_literal [] l e f = absurd (omega arith)
only_literal (x ∷ []) l e f = ap (λ z. z ∷ []) (sym f)
only_literal (x ∷ (y ∷ ls)) l e f = absurd (omega arith)

pub value_of_head : (A : ℕ → Bool) (l : ℕ) (w : List ℕ) → length w ≡ 1 → l ≡ get_or w 0 l → word_value A false w ≡ truth (is_true A l)
value_of_head A l w e f = value_of_literal A l w (only_literal w l e f)
