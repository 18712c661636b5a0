-- How many steps are left, and that each step leaves fewer.
use Rattle.std.proofs.Common.{arith, ◌≡◌, ℕ, zero, suc, ◌+◌, ◌<◌, ◌≤◌, Bool, true, false, List, [], ◌∷◌, ◌++◌, length, ℤ, Option, Some, None, refl, sym, ap, ◌∙◌, cond, length-append}
use Rattle.c_rules.specs.declared.checks.CheckKind.{CheckKind}
use Rattle.c_straight_model.specs.declared.program.Sum.{Sum}
use Rattle.c_straight_model.specs.declared.program.BlockItem.{BlockItem}
use Rattle.c_straight_model.specs.declared.program.BlockItem.TheVariants.{Declare, Assign, Assert}
use Rattle.c_straight_model.specs.declared.program.Program.{Program}
use Rattle.c_straight_model.specs.Machine.{Item, Rest, Work, Tests, Value, Adds, Configuration, Answer, Next, Broken, Ended, IsEnd, give, store_at, place_of, holds, work_step, item_step, step_at, step, goes_on, after, start, Comes}

abbrev pub sum_steps : Sum → ℕ
sum_steps sum = 2 + length sum.rest

-- of an item with this many values
abbrev pub work_steps : BlockItem → ℕ → ℕ
work_steps (Declare name value line) zero = 2 + sum_steps value
work_steps (Declare name value line) (suc k) = 1
work_steps (Assign name value line) zero = 2 + sum_steps value
work_steps (Assign name value line) (suc k) = 1
work_steps (Assert relation left right line) zero = 3 + sum_steps left + sum_steps right
work_steps (Assert relation left right line) (suc zero) = 2 + sum_steps right
work_steps (Assert relation left right line) (suc (suc k)) = 1

abbrev pub rest_steps : List BlockItem → ℕ
rest_steps [] = 1
rest_steps (item ∷ left) = 1 + work_steps item 0 + rest_steps left

abbrev pub item_steps : Item → ℕ
item_steps (Rest left) = rest_steps left
item_steps (Work item found) = work_steps item (length found)
item_steps (Tests item found) = work_steps item (suc (length found))
item_steps (Value sum) = sum_steps sum
item_steps (Adds value left) = 1 + length left

abbrev pub steps_left : List Item → ℕ
steps_left [] = 0
steps_left (item ∷ rest) = item_steps item + steps_left rest

next : (c d : Configuration) → Next c ≡ Next d → steps_left d.control ≡ steps_left c.control
next c d q = let z : c ≡ d = cc in ap (λ z. steps_left z.control) (sym z)

hands : (v : ℤ) (items : List Item) → steps_left (give v items) ≡ steps_left items
hands v [] = refl
hands v (Tests item found ∷ rest) =
    let n : length (found ++ v ∷ []) ≡ suc (length found) = omega (arith, length-append found (v ∷ [])) in
    ap (λ n. work_steps item n + steps_left rest) n
hands v (Rest left ∷ rest) = refl
hands v (Work item found ∷ rest) = refl
hands v (Value sum ∷ rest) = refl
hands v (Adds value left ∷ rest) = refl

asserted : (b : Bool) (check : CheckKind) (line : ℕ) (c d : Configuration) → cond b (Next c) (Broken check line) ≡ Next d → steps_left d.control ≡ steps_left c.control
asserted true check line c d q = next c d q
asserted false check line c d q = cc

stored : (place : Option ℕ) (name : List ℕ) (v : ℤ) (c d : Configuration) → Next (store_at place name v c) ≡ Next d → steps_left d.control ≡ steps_left c.control
stored None name v c d q = next _ d q
stored (Some place) name v c d q = next _ d q

works : (item : BlockItem) (found : List ℤ) (c d : Configuration) → work_step item found c ≡ Next d → 1 + steps_left d.control ≤ work_steps item (length found) + steps_left c.control
works (Declare name value line) [] c d q = omega (arith, next _ d q)
works (Declare name value line) (v ∷ vs) c d q = omega (arith, next _ d q)
works (Assign name value line) [] c d q = omega (arith, next _ d q)
works (Assign name value line) (v ∷ vs) c d q = omega (arith, stored (place_of name c.store) name v c d q)
works (Assert relation left right line) [] c d q = omega (arith, next _ d q)
works (Assert relation left right line) (v ∷ []) c d q = omega (arith, next _ d q)
works (Assert relation left right line) (v ∷ w ∷ vs) c d q = omega (arith, asserted (holds relation v w) _ line c d q)

takes : (item : Item) (c d : Configuration) → item_step item c ≡ Next d → 1 + steps_left d.control ≤ item_steps item + steps_left c.control
takes (Rest []) c d q = omega (arith, next _ d q)
takes (Rest (item ∷ left)) c d q = omega (arith, next _ d q)
takes (Work item found) c d q = works item found c d q
takes (Tests item found) c d q = cc
takes (Value sum) c d q = omega (arith, next _ d q)
takes (Adds value []) c d q = omega (arith, next _ d q, hands value c.control)
takes (Adds value (addend ∷ left)) c d q = omega (arith, next _ d q)

falls : (items : List Item) (c d : Configuration) → step_at items c ≡ Next d → 1 + steps_left d.control ≤ steps_left items
falls [] c d q = cc
falls (item ∷ rest) c d q = takes item (record c { control = rest }) d q

pub step_falls : (c d : Configuration) → step c ≡ Next d → steps_left d.control < steps_left c.control
step_falls c d q = omega (arith, falls c.control c d q)

abbrev Ends : Configuration → Type 0
Ends c = (a : Answer) × (n : ℕ) × IsEnd a × (after n c ≡ a)

stops : (c : Configuration) (s : Answer) → step c ≡ s → ((d : Configuration) → s ≡ Next d → Ends d) → Ends c
stops c (Next d) q more = let e = more d refl in (e.0, suc e.1, e.2, ap (goes_on (λ d. after e.1 d)) q ∙ e.3)
stops c (Broken check line) q more = (Broken check line, 1, tt, ap (goes_on (λ d. after 0 d)) q)
stops c Ended q more = (Ended, 1, tt, ap (goes_on (λ d. after 0 d)) q)

-- with fuel for the steps that are left
ends : (fuel : ℕ) (c : Configuration) → steps_left c.control < fuel → Ends c
ends zero c h = absurd (omega arith)
ends (suc fuel) c h = stops c (step c) refl (λ d q. ends fuel d (omega (arith, step_falls c d q)))

pub comes_to_end : (program : Program) (inputs : List ℕ) → (a : Answer) × IsEnd a × Comes program inputs a
comes_to_end program inputs =
    let c : Configuration = start program inputs in
    let e = ends (suc (steps_left c.control)) c (omega arith) in
    (e.0, e.2, (e.1, e.3))
