use Rattle.std.proofs.Common.{◌≡◌, ◌≤◌, ◌∷◌, ℕ}
use Rattle.c_tree.specs.Nesting.{counts_after, measure, depth_after}
use Rattle.c_tree.specs.SpellsText.{kinds_of}
use Rattle.c_nesting.proofs.nesting.first_too_deep.Given as goal

-- the counts are those after the tokens so far, and the text isn't nested too deep so far
abbrev pub invariant-loop-i : goal.invariant-loop-i
invariant-loop-i l = (l.counts.depth ≡ measure (l.counts.top ∷ l.counts.below))
    × (l.counts.top ∷ l.counts.below ≡ counts_after (kinds_of l.tokens) l.i)
    × ((n : ℕ) → n ≤ l.i → depth_after (kinds_of l.tokens) n ≤ 500)
