-- A piece takes some bytes, and no more than there are.
use Rattle.std.proofs.Common.{◌≡◌, ℕ, zero, suc, ◌<◌, ◌≤◌, Bool, true, false, nat_lt, cond, List, length, take, Option, Some, None, arith, refl, codes, sym, subst}
use Rattle.std.proofs.lemmas.Bool.Decides.{nat_tests}
use Rattle.c_tokens.specs.Pieces.{Shape, Piece, shape_of, longest, longest_piece, first_piece, begins_prefixed, begins_with}
use Rattle.c_scan.specs.Fronts.{piece}

pub record HasSize (low n : ℕ) (p : Piece) : Type 0 where
  pub above : low < p.size
  pub within : p.size ≤ n

same_size : (low n : ℕ) (a b : Piece) → a ≡ b → HasSize low n a → HasSize low n b
same_size low n a b e h = subst (λ (x : Piece). HasSize low n x) e h

longest_size : (low n : ℕ) (text : List ℕ) (p : Piece) → longest low n text ≡ Some p → HasSize low n p
unfolding longest
longest_size low zero text p e = absurd (let never : ⊥ = cc in never)
longest_size low (suc n) text p e = by_test (nat_lt low (suc n)) (shape_of (take (suc n) text)) refl e (longest_size low n text p)
  where
    by_test : (above : Bool) (found : Option Shape) → nat_lt low (suc n) ≡ above
        → cond above (elim found as (λ _. Option Piece) [ Some shape ↦ Some (record { size = suc n; shape = shape }) | None ↦ longest low n text ]) None ≡ Some p
        → (longest low n text ≡ Some p → HasSize low n p) → HasSize low (suc n) p
    by_test false found test e later = absurd (let never : ⊥ = cc in never)
    by_test true None test e later = let h = later e in record { above = h.above; within = (let w = h.within in omega arith) }
    by_test true (Some shape) test e later =
        let same : piece (suc n) shape ≡ p = cc in
        let a : low < suc n = grind (arith, nat_tests) in
        same_size low (suc n) (piece (suc n) shape) p same (record { above = a; within = omega arith })

longest_piece_size : (text : List ℕ) (p : Piece) → longest_piece text ≡ Some p → HasSize 0 (length text) p
unfolding longest_piece
longest_piece_size text p e = by_low (begins_with (codes "/*") text) e
  where
    by_low : (comment : Bool) → longest (cond comment 1 0) (length text) text ≡ Some p → HasSize 0 (length text) p
    by_low true e = let h = longest_size 1 (length text) text p e in record { above = (let a = h.above in omega arith); within = h.within }
    by_low false e = longest_size 0 (length text) text p e

pub first_size : (text : List ℕ) (p : Piece) → Some p ≡ first_piece text → HasSize 0 (length text) p
unfolding first_piece
first_size text p e = by_prefix (begins_prefixed text) (sym e)
  where
    by_prefix : (prefixed : Bool) → cond prefixed None (longest_piece text) ≡ Some p → HasSize 0 (length text) p
    by_prefix true e = absurd (let never : ⊥ = cc in never)
    by_prefix false e = longest_piece_size text p e
