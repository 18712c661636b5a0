-- One step of a scan by places.
use Rattle.std.proofs.Common.{◌≡◌, ℕ, zero, suc, ◌+◌, ◌<◌, Bool, false, ◌||◌, nat_eq, cond, List, [], ◌∷◌, length, take, drop, ◌-◌, Option, Some, arith, refl, sym, ap, ◌∙◌, codes, add-one}
use Rattle.std.specs.List.{starts_with}
use Rattle.std.proofs.lemmas.Slice.{between_to_end}
use Rattle.c_tokens.specs.Pieces.{has_doubtful_quote}
use Rattle.c_scan.specs.Fronts.{block_from}

starts_later : (i : ℕ) (text pattern : List ℕ) → false ≡ starts_with nat_eq (take (length text - i) (drop i text)) pattern → starts_with nat_eq (drop i text) pattern ≡ false
starts_later i text pattern e = sym (ap (λ s. starts_with nat_eq s pattern) (between_to_end text i (length text) (omega arith))) ∙ sym e

doubtful-drop : (i : ℕ) (text : List ℕ) → i < length text → has_doubtful_quote (drop i text) ≡ (starts_with nat_eq (drop i text) (codes "\\\\\"") || has_doubtful_quote (drop (suc i) text))
doubtful-drop i [] h = absurd (omega arith)
doubtful-drop zero (c ∷ cs) h = refl
doubtful-drop (suc i) (c ∷ cs) h = doubtful-drop i cs (omega arith)

pub doubtful_later : (i : ℕ) (text : List ℕ) (all : Bool) → i < length text → false ≡ starts_with nat_eq (take (length text - i) (drop i text)) (codes "\\\\\"") → has_doubtful_quote (drop i text) ≡ all → has_doubtful_quote (drop (i + 1) text) ≡ all
doubtful_later i text all h starts e = rw (add-one i) (sym (ap (λ b. b || has_doubtful_quote (drop (suc i) text)) (starts_later i text (codes "\\\\\"") starts)) ∙ sym (doubtful-drop i text h) ∙ e)

block-drop : (at i : ℕ) (text : List ℕ) → i < length text → block_from at (drop i text) ≡ cond (starts_with nat_eq (drop i text) (codes "*/")) (Some (at + 2)) (block_from (at + 1) (drop (suc i) text))
block-drop at i [] h = absurd (omega arith)
block-drop at zero (c ∷ cs) h = refl
block-drop at (suc i) (c ∷ cs) h = block-drop at i cs (omega arith)

pub block_later : (at i : ℕ) (text : List ℕ) (all : Option ℕ) → i < length text → false ≡ starts_with nat_eq (take (length text - i) (drop i text)) (codes "*/") → block_from at (drop i text) ≡ all → block_from (at + 1) (drop (i + 1) text) ≡ all
block_later at i text all h starts e = rw (add-one i) (sym (ap (λ b. cond b (Some (at + 2)) (block_from (at + 1) (drop (suc i) text))) (starts_later i text (codes "*/") starts)) ∙ sym (block-drop at i text h) ∙ e)
