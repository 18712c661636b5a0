-- What tests of the first bytes say.
use Rattle.std.proofs.Common.{◌≡◌, ℕ, Bool, true, false, ◌&&◌, nat_eq, List, [], ◌∷◌, length, Option, Some, None, arith, refl, sym}
use Rattle.std.specs.List.{starts_with, between}
use Rattle.std.proofs.lemmas.Bool.{false≢true, eqb-true}
use Rattle.std.proofs.lemmas.Slice.{between_to_end}
use Rattle.c_tokens.specs.Pieces.{Piece as SpecPiece}
use Rattle.c_scan.specs.Fronts.{or_else}

and_left : (a b : Bool) → (a && b) ≡ true → a ≡ true
and_left true b h = refl
and_left false b h = h

and_right : (a b : Bool) → (a && b) ≡ true → b ≡ true
and_right true b h = h
and_right false b h = absurd (false≢true h)

two_step : (a b c d : ℕ) (cs : List ℕ) → (nat_eq a c && (nat_eq b d && true)) ≡ true → (let T : Type 0 = List ℕ in c ∷ d ∷ cs) ≡ a ∷ b ∷ cs
two_step a b c d cs h =
    let first : a ≡ c = eqb-true a c (and_left (nat_eq a c) _ h) in
    let second : b ≡ d = eqb-true b d (and_left (nat_eq b d) true (and_right (nat_eq a c) _ h)) in
    cc

-- a text that begins with two bytes is these and the rest
pub two_bytes : (a b : ℕ) (text : List ℕ) → true ≡ starts_with nat_eq text (a ∷ b ∷ []) → text ≡ a ∷ b ∷ between 2 (length text) text
two_bytes a b [] h = absurd (false≢true (sym h))
two_bytes a b (c ∷ []) h = absurd (false≢true (and_right (nat_eq a c) false (sym h)))
two_bytes a b (c ∷ d ∷ cs) h = rw (between_to_end (c ∷ d ∷ cs) 2 (length (c ∷ d ∷ cs)) (omega arith)) (two_step a b c d cs (sym h))

pub or_else_none : (p : Option SpecPiece) → or_else p None ≡ p
or_else_none None = refl
or_else_none (Some p) = refl
