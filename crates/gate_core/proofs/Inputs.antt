-- The inputs of a table with one more gate.
use Rattle.std.proofs.Common.{ℕ, ◌≡◌, ◌<◌, ◌+◌, List, [], ◌∷◌, ◌++◌, length, take, refl, sym, ap, ◌∙◌}
use Rattle.std.proofs.lemmas.List.{take_more}
use Rattle.gate_core.specs.declared.gate.Gate.{Gate}
use Rattle.gate_core.specs.declared.gate.Gate.TheVariants.{False, Input, And, Xor}
use Rattle.gate_core.specs.Table.{gate_at, inputs_of}

inputs_of-append : (gs : List Gate) (g : Gate) → inputs_of (gs ++ g ∷ []) ≡ inputs_of gs ++ inputs_of (g ∷ [])
inputs_of-append [] g = refl
inputs_of-append (False ∷ gs) g = inputs_of-append gs g
inputs_of-append (Input n ∷ gs) g = ap (λ ns. n ∷ ns) (inputs_of-append gs g)
inputs_of-append (And a b ∷ gs) g = inputs_of-append gs g
inputs_of-append (Xor a b ∷ gs) g = inputs_of-append gs g

pub inputs_more : (gs : List Gate) (i : ℕ) (g : Gate) (made new : List ℕ) → i < length gs → g ≡ gate_at gs i → made ≡ inputs_of (take i gs) → new ≡ made ++ inputs_of (g ∷ []) → new ≡ inputs_of (take (i + 1) gs)
inputs_more gs i g made new h is before step =
    step ∙ ((λ j. before j ++ inputs_of (is j ∷ [])) ∙ (sym (inputs_of-append (take i gs) (gate_at gs i)) ∙ ap inputs_of (sym (take_more gs i False h))))
