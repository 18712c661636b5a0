-- No item that waits ever stands on top, so an execution ends with nothing left to do.
use Rattle.std.proofs.Common.{◌≡◌, ℕ, zero, suc, Bool, true, false, List, [], ◌∷◌, ℤ, Option, Some, None, refl, subst, cond}
use Rattle.c_rules.specs.declared.checks.CheckKind.{CheckKind}
use Rattle.c_rules.specs.declared.checks.CheckKind.TheVariants.{Assertion}
use Rattle.c_straight_model.specs.declared.program.BlockItem.{BlockItem}
use Rattle.c_straight_model.specs.declared.program.BlockItem.TheVariants.{Declare, Assign, Assert}
use Rattle.c_straight_model.specs.declared.program.Program.{Program}
use Rattle.c_straight_model.specs.Machine.{Item, Rest, Work, Tests, Value, Adds, Configuration, Next, Broken, Ended, give, store_at, place_of, holds, work_step, item_step, step_at, step, goes_on, after, start, Comes}

-- each item that waits stands right below the sum that it waits for, and each sum right above such an item;
-- the first argument is whether a sum stands right above these items
abbrev IsFit : Bool → List Item → Type 0
IsFit false [] = Unit {0}
IsFit false (Rest left ∷ rest) = IsFit false rest
IsFit false (Work item found ∷ rest) = IsFit false rest
IsFit false (Value sum ∷ rest) = IsFit true rest
IsFit false (Adds value left ∷ rest) = IsFit true rest
IsFit true (Tests item found ∷ rest) = IsFit false rest
IsFit awaited items = ⊥

abbrev IsReady : List Item → Type 0
IsReady items = IsFit false items

next : (c d : Configuration) → Next c ≡ Next d → IsReady c.control → IsReady d.control
next c d q r = let z : c ≡ d = cc in let P : Configuration → Type 0 = λ c. IsReady c.control in subst P z r

asserted : (b : Bool) (check : CheckKind) (line : ℕ) (c d : Configuration) → cond b (Next c) (Broken check line) ≡ Next d → IsReady c.control → IsReady d.control
asserted true check line c d q r = next c d q r
asserted false check line c d q r = cc

stored : (place : Option ℕ) (name : List ℕ) (v : ℤ) (c d : Configuration) → Next (store_at place name v c) ≡ Next d → IsReady c.control → IsReady d.control
stored None name v c d q r = next c d q r
stored (Some place) name v c d q r = next _ d q r

works : (item : BlockItem) (found : List ℤ) (c d : Configuration) → work_step item found c ≡ Next d → IsReady c.control → IsReady d.control
works (Declare name value line) [] c d q r = next _ d q r
works (Declare name value line) (v ∷ vs) c d q r = next _ d q r
works (Assign name value line) [] c d q r = next _ d q r
works (Assign name value line) (v ∷ vs) c d q r = stored (place_of name c.store) name v c d q r
works (Assert relation left right line) [] c d q r = next _ d q r
works (Assert relation left right line) (v ∷ []) c d q r = next _ d q r
works (Assert relation left right line) (v ∷ w ∷ vs) c d q r = asserted (holds relation v w) _ line c d q r

hands : (v : ℤ) (rest : List Item) → IsFit true rest → IsReady (give v rest)
hands v (Tests item found ∷ rest) r = r
hands v [] r = absurd r
hands v (Rest left ∷ rest) r = absurd r
hands v (Work item found ∷ rest) r = absurd r
hands v (Value sum ∷ rest) r = absurd r
hands v (Adds value left ∷ rest) r = absurd r

takes : (item : Item) (c d : Configuration) → item_step item c ≡ Next d → IsReady (item ∷ c.control) → IsReady d.control
takes (Rest []) c d q r = next _ d q r
takes (Rest (item ∷ left)) c d q r = next _ d q r
takes (Work item found) c d q r = works item found c d q r
takes (Tests item found) c d q r = absurd r
takes (Value sum) c d q r = next _ d q r
takes (Adds value []) c d q r = next _ d q (hands value c.control r)
takes (Adds value (addend ∷ left)) c d q r = next _ d q r

steps : (items : List Item) (c d : Configuration) → step_at items c ≡ Next d → IsReady items → IsReady d.control
steps [] c d q r = cc
steps (item ∷ rest) c d q r = takes item (record c { control = rest }) d q r

stays : (n : ℕ) (c d : Configuration) → after n c ≡ Next d → IsReady c.control → IsReady d.control
stays zero c d q r = next c d q r
stays (suc n) c d q r =
    elim (step c) as (λ s. step c ≡ s → goes_on (λ d. after n d) s ≡ Next d → IsReady d.control) [
      | Next b ↦ λ e q. stays n b d q (steps c.control c b e r)
      | Broken check line ↦ λ e q. cc
      | Ended ↦ λ e q. cc
    ] refl q

-- what ends with items left would have one on top that waits, or a sum that nothing awaits
works_on : (item : BlockItem) (found : List ℤ) (c : Configuration) → work_step item found c ≡ Ended → ⊥
works_on (Declare name value line) [] c q = cc
works_on (Declare name value line) (v ∷ vs) c q = cc
works_on (Assign name value line) [] c q = cc
works_on (Assign name value line) (v ∷ vs) c q = cc
works_on (Assert relation left right line) [] c q = cc
works_on (Assert relation left right line) (v ∷ []) c q = cc
works_on (Assert relation left right line) (v ∷ w ∷ vs) c q =
    elim (holds relation v w) as (λ b. cond b (Next c) (Broken Assertion line) ≡ Ended → ⊥) [ true ↦ λ q. cc | false ↦ λ q. cc ] q

ended : (items : List Item) (c : Configuration) → IsReady items → step_at items c ≡ Ended → items ≡ []
ended [] c r q = refl
ended (Rest [] ∷ rest) c r q = cc
ended (Rest (item ∷ left) ∷ rest) c r q = cc
ended (Work item found ∷ rest) c r q = absurd (works_on item found (record c { control = rest }) q)
ended (Tests item found ∷ rest) c r q = absurd r
ended (Value sum ∷ rest) c r q = cc
ended (Adds value [] ∷ rest) c r q = cc
ended (Adds value (addend ∷ left) ∷ rest) c r q = cc

pub ends_with_nothing : (program : Program) (inputs : List ℕ) (c : Configuration) → Comes program inputs (Next c) → step c ≡ Ended → c.control ≡ []
ends_with_nothing program inputs c comes q = ended c.control c (stays comes.0 (start program inputs) c comes.1 tt) q
