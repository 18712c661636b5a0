-- A block has one end.
use Rattle.std.proofs.Common.{◌≡◌, ℕ, suc, zero, true, false, Some, sym, ◌∙◌, cond}
use Rattle.c_rules.specs.declared.program.Program.{Program}
use Rattle.c_model.specs.Configurations.{Configuration, Next, Broken, Ended, Assumed, NeedsInput}
use Rattle.c_model.specs.Steps.{step}
use Rattle.c_model.specs.Blocks.{at_head, BlockEnd, Arrives, block_on, block, Block}

some_is : (a b : BlockEnd) → Some a ≡ Some b → a ≡ b
some_is a b e = cc

ends_alike : (p : Program) (n m : ℕ) (c : Configuration) (a b : BlockEnd) → block p n c ≡ Some a → block p m c ≡ Some b → a ≡ b
unfolding block
ends_alike p zero m c a b ea eb = cc
ends_alike p (suc n) zero c a b ea eb = cc
ends_alike p (suc n) (suc m) c a b ea eb =
    elim (step p c) as (λ s. block_on (block p n) c s ≡ Some a → block_on (block p m) c s ≡ Some b → a ≡ b) [
      | Next d ↦ elim (at_head d.state.control) as (λ h. cond h (Some (Arrives d)) (block p n d) ≡ Some a → cond h (Some (Arrives d)) (block p m d) ≡ Some b → a ≡ b) [
        | true ↦ λ ea eb. some_is a b (sym ea ∙ eb)
        | false ↦ λ ea eb. ends_alike p n m d a b ea eb
      ]
      | Broken check line ↦ λ ea eb. some_is a b (sym ea ∙ eb)
      | Ended ↦ λ ea eb. some_is a b (sym ea ∙ eb)
      | Assumed ↦ λ ea eb. some_is a b (sym ea ∙ eb)
      | NeedsInput ↦ λ ea eb. some_is a b (sym ea ∙ eb)
    ] ea eb

pub one_block_end : (p : Program) (c : Configuration) (a b : BlockEnd) → Block p c a → Block p c b → a ≡ b
one_block_end p c a b ha hb = ends_alike p ha.0 hb.0 c a b ha.1 hb.1
