-- An execution has one end, and that of a straight program doesn't depend on the inputs.
use Rattle.std.proofs.Common.{◌≡◌, ℕ, suc, zero, Bool, true, false, List, [], ◌∷◌, ℤ, Option, Some, None, refl, sym, ◌∙◌, subst, cond, ap}
use Rattle.c_rules.specs.declared.checks.CheckKind.TheVariants.{Assertion}
use Rattle.c_straight_model.specs.declared.program.BlockItem.{BlockItem}
use Rattle.c_straight_model.specs.declared.program.BlockItem.TheVariants.{Declare, Assign, Assert}
use Rattle.c_straight_model.specs.declared.program.Program.{Program}
use Rattle.c_straight_model.specs.Machine.{Item, Rest, Work, Tests, Value, Adds, Configuration, Answer, Next, Broken, Ended, IsEnd, store_at, work_step, item_step, step_at, step, place_of, goes_on, after, start, Comes, Safe}

one_end : (n m : ℕ) (c : Configuration) (a b : Answer) → IsEnd a → IsEnd b → after n c ≡ a → after m c ≡ b → a ≡ b
one_end zero m c a b la lb ea eb = absurd (subst IsEnd (sym ea) la)
one_end (suc n) zero c a b la lb ea eb = absurd (subst IsEnd (sym eb) lb)
one_end (suc n) (suc m) c a b la lb ea eb =
    elim (step c) as (λ s. goes_on (λ d. after n d) s ≡ a → goes_on (λ d. after m d) s ≡ b → a ≡ b) [
      | Next d ↦ λ ea eb. one_end n m d a b la lb ea eb
      | Broken check line ↦ λ ea eb. sym ea ∙ eb
      | Ended ↦ λ ea eb. sym ea ∙ eb
    ] ea eb

pub comes_to_one : (program : Program) (inputs : List ℕ) (a b : Answer) → IsEnd a → IsEnd b → Comes program inputs a → Comes program inputs b → a ≡ b
comes_to_one program inputs a b la lb ca cb = one_end ca.0 cb.0 (start program inputs) a b la lb ca.1 cb.1

-- the configuration with other inputs
abbrev swap : List ℕ → Configuration → Configuration
swap w c = record c { inputs = w }

abbrev swapped : List ℕ → Answer → Answer
swapped w (Next c) = Next (swap w c)
swapped w (Broken check line) = Broken check line
swapped w Ended = Ended

asserts : (w : List ℕ) (b : Bool) (line : ℕ) (c : Configuration) → cond b (Next (swap w c)) (Broken Assertion line) ≡ swapped w (cond b (Next c) (Broken Assertion line))
asserts w true line c = refl
asserts w false line c = refl

stores : (w : List ℕ) (place : Option ℕ) (name : List ℕ) (v : ℤ) (c : Configuration) → Next (store_at place name v (swap w c)) ≡ swapped w (Next (store_at place name v c))
stores w None name v c = refl
stores w (Some place) name v c = refl

works : (w : List ℕ) (item : BlockItem) (found : List ℤ) (c : Configuration) → work_step item found (swap w c) ≡ swapped w (work_step item found c)
works w (Declare name value line) [] c = refl
works w (Declare name value line) (v ∷ vs) c = refl
works w (Assign name value line) [] c = refl
works w (Assign name value line) (v ∷ vs) c = stores w (place_of name c.store) name v c
works w (Assert relation left right line) [] c = refl
works w (Assert relation left right line) (v ∷ []) c = refl
works w (Assert relation left right line) (v ∷ u ∷ vs) c = asserts w _ line c

takes : (w : List ℕ) (item : Item) (c : Configuration) → item_step item (swap w c) ≡ swapped w (item_step item c)
takes w (Rest []) c = refl
takes w (Rest (item ∷ left)) c = refl
takes w (Work item found) c = works w item found c
takes w (Tests item found) c = refl
takes w (Value sum) c = refl
takes w (Adds value []) c = refl
takes w (Adds value (addend ∷ left)) c = refl

steps : (w : List ℕ) (items : List Item) (c : Configuration) → step_at items (swap w c) ≡ swapped w (step_at items c)
steps w [] c = refl
steps w (item ∷ rest) c = takes w item (record c { control = rest })

runs : (n : ℕ) (w : List ℕ) (c : Configuration) → after n (swap w c) ≡ swapped w (after n c)
runs zero w c = refl
runs (suc n) w c = ap (goes_on (λ d. after n d)) (steps w c.control c)
    ∙ elim (step c) as (λ s. goes_on (λ d. after n d) (swapped w s) ≡ swapped w (goes_on (λ d. after n d) s)) [
      | Next d ↦ runs n w d
      | Broken check line ↦ refl
      | Ended ↦ refl
    ]

unswapped : (w : List ℕ) (a : Answer) → IsEnd a → swapped w a ≡ a
unswapped w (Next c) end = absurd end
unswapped w (Broken check line) end = refl
unswapped w Ended end = refl

pub comes_alike : (program : Program) (inputs others : List ℕ) (a : Answer) → IsEnd a → Comes program inputs a → Comes program others a
comes_alike program inputs others a end comes = (comes.0, runs comes.0 others (start program inputs) ∙ ap (swapped others) comes.1 ∙ unswapped others a end)

pub safe_from_end : (program : Program) → Comes program [] Ended → Safe program
safe_from_end program ends inputs check line breaks =
    let same : Ended ≡ Broken check line = comes_to_one program [] Ended (Broken check line) tt tt ends (comes_alike program inputs [] (Broken check line) tt breaks) in
    cc
