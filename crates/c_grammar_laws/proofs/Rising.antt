-- Lists of numbers that rise, from one number to before another.
use Rattle.std.proofs.Common.{◌≡◌, ℕ, zero, suc, ◌+◌, ◌<◌, ◌≤◌, List, [], ◌∷◌, ◌++◌, length, get_or, arith}

pub data IsRising : ℕ → ℕ → List ℕ → Type 0 where
  rises_none : (from to : ℕ) → from ≤ to → IsRising from to []
  rises_more : (from to at : ℕ) (further : List ℕ) → from ≤ at → IsRising (at + 1) to further → IsRising from to (at ∷ further)

pub sooner : (a b c : ℕ) (xs : List ℕ) → a ≤ b → IsRising b c xs → IsRising a c xs
sooner a from to whole le (rises_none b c h) = rises_none a c (omega arith)
sooner a from to whole le (rises_more b c at xs h r) = rises_more a c at xs (omega arith) r

pub later : (a b c : ℕ) (xs : List ℕ) → b ≤ c → IsRising a b xs → IsRising a c xs
later from to c whole le (rises_none a b h) = rises_none a c (omega arith)
later from to c whole le (rises_more a b at xs h r) = rises_more a c at xs h (later (at + 1) b c xs le r)

pub joined : (a b c : ℕ) (xs ys : List ℕ) → IsRising a b xs → IsRising b c ys → IsRising a c (xs ++ ys)
joined from to c whole ys (rises_none a b h) s = sooner a b c ys h s
joined from to c whole ys (rises_more a b at xs h r) s = rises_more a c at (xs ++ ys) h (joined (at + 1) b c xs ys r s)

-- a number, and those behind it
pub headed : (at to : ℕ) (xs : List ℕ) → IsRising (at + 1) to xs → IsRising at to (at ∷ xs)
headed at to xs r = rises_more at to at xs (omega arith) r

pub alone : (at to : ℕ) → at + 1 ≤ to → IsRising at to (at ∷ [])
alone at to h = headed at to [] (rises_none (at + 1) to h)

-- inside a pair of brackets
pub inside : (a b : ℕ) (xs : List ℕ) → IsRising (a + 1) b xs → IsRising a (b + 1) xs
inside a b xs r = sooner a (a + 1) (b + 1) xs (omega arith) (later (a + 1) b (b + 1) xs (omega arith) r)

pub room : (a b : ℕ) (xs : List ℕ) → IsRising a b xs → a ≤ b
room from to whole (rises_none a b h) = h
room from to whole (rises_more a b at xs h r) = let further = room (at + 1) b xs r in omega arith

pub rising_within : (a b : ℕ) (xs : List ℕ) (k d : ℕ) → IsRising a b xs → k < length xs → (a ≤ get_or xs k d) × (get_or xs k d < b)
rising_within from to whole k d (rises_none a b h) lt = absurd (omega arith)
rising_within from to whole zero d (rises_more a b at xs h r) lt = let further = room (at + 1) b xs r in (h, omega arith)
rising_within from to whole (suc k) d (rises_more a b at xs h r) lt =
    let i = rising_within (at + 1) b xs k d r (omega arith) in
    let ge : at + 1 ≤ get_or xs k d = i.0 in
    (omega arith, i.1)

rising_next : (a b : ℕ) (xs : List ℕ) (k : ℕ) → IsRising a b xs → suc k < length xs → get_or xs k 0 < get_or xs (suc k) 0
rising_next from to whole k (rises_none a b h) lt = absurd (omega arith)
rising_next from to whole zero (rises_more a b at xs h r) lt =
    let i = rising_within (at + 1) b xs zero 0 r (omega arith) in
    let ge : at + 1 ≤ get_or xs zero 0 = i.0 in
    omega arith
rising_next from to whole (suc k) (rises_more a b at xs h r) lt = rising_next (at + 1) b xs k r (omega arith)

pub rising_steps : (a b : ℕ) (xs : List ℕ) (k : ℕ) → IsRising a b xs → k + 1 < length xs → get_or xs k 0 < get_or xs (k + 1) 0
rising_steps a b xs k r lt =
    let e : k + 1 ≡ suc k = omega arith in
    let h : get_or xs k 0 < get_or xs (suc k) 0 = rising_next a b xs k r (omega arith) in
    rw e h
