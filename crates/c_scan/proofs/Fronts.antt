-- The longest piece at the front of a text, class by class.
use Rattle.std.proofs.Common.{◌≡◌, ℕ, zero, suc, ◌+◌, ◌<◌, ◌≤◌, Bool, true, false, not, ◌&&◌, nat_eq, nat_lt, cond, List, [], ◌∷◌, length, take, Option, Some, None, arith, refl, sym, ap, ◌∙◌, ◌⊎◌, inl, inr}
use Rattle.std.proofs.lemmas.Bool.{false≢true, eqb-true}
use Rattle.std.proofs.lemmas.Bool.Decides.{nat_tests}
use Rattle.c_tokens.specs.Pieces.{Shape, shape_of, longest, is_run, run_size, is_quoted, is_block, is_empty}
use Rattle.c_scan.specs.Fronts.{piece, quoted_from, block_from}

-- ---- the longest front

lt_true : (a b : ℕ) → a < b → nat_lt a b ≡ true
lt_true a b h = grind (arith, nat_tests)

equal_or_below : (size n : ℕ) → size ≤ suc n → (size ≡ suc n) ⊎ (size ≤ n)
equal_or_below size n h = grind arith

longest_here : (low n : ℕ) (text : List ℕ) (s : Shape) → low < suc n → shape_of (take (suc n) text) ≡ Some s → longest low (suc n) text ≡ Some (piece (suc n) s)
unfolding longest
longest_here low n text s above is = rw (lt_true low (suc n) above, is)

longest_below : (low n : ℕ) (text : List ℕ) → low < suc n → shape_of (take (suc n) text) ≡ None → longest low (suc n) text ≡ longest low n text
unfolding longest
longest_below low n text above is = rw (lt_true low (suc n) above, is)

pub longest_found : (low size n : ℕ) (text : List ℕ) (s : Shape) → low < size → size ≤ n → shape_of (take size text) ≡ Some s
    → ((m : ℕ) → size < m → m ≤ n → shape_of (take m text) ≡ None) → longest low n text ≡ Some (piece size s)
longest_found low size zero text s above within is longer = absurd (omega arith)
longest_found low size (suc n) text s above within is longer =
    elim (equal_or_below size n within) [
      | inl e ↦ rw e (longest_here low n text s (omega arith) (rw e at is))
      | inr below ↦ longest_below low n text (omega arith) (longer (suc n) (omega arith) (omega arith))
          ∙ longest_found low size n text s above below is (λ m more less. longer m more (omega arith))
    ]

below_or_not : (low n : ℕ) → (low < suc n) ⊎ (suc n ≤ low)
below_or_not low n = grind arith

longest_over : (low n : ℕ) (text : List ℕ) → suc n ≤ low → longest low (suc n) text ≡ None
unfolding longest
longest_over low n text over = let e : nat_lt low (suc n) ≡ false = grind (arith, nat_tests) in rw e

pub longest_none : (low n : ℕ) (text : List ℕ) → ((m : ℕ) → low < m → m ≤ n → shape_of (take m text) ≡ None) → longest low n text ≡ None
unfolding longest
longest_none low zero text none = refl
longest_none low (suc n) text none =
    elim (below_or_not low n) [
      | inl above ↦ longest_below low n text above (none (suc n) above (omega arith))
          ∙ longest_none low n text (λ m more less. none m more (omega arith))
      | inr over ↦ longest_over low n text over
    ]

-- ---- runs

within_step : (size m : ℕ) (goes rest : Bool) → (m ≤ size → rest ≡ true) → suc m ≤ cond goes (size + 1) 0 → (goes && rest) ≡ true
within_step size m true rest later h = later (omega arith)
within_step size m false rest later h = absurd (omega arith)

pub run_within : (goes_on : ℕ → ℕ → Bool) (before m : ℕ) (cs : List ℕ) → m ≤ run_size goes_on before cs → is_run goes_on before (take m cs) ≡ true
run_within goes_on before zero cs h = refl
run_within goes_on before (suc m) [] h = refl
run_within goes_on before (suc m) (c ∷ cs) h = within_step (run_size goes_on c cs) m (goes_on before c) (is_run goes_on c (take m cs)) (run_within goes_on c m cs) h

beyond_step : (size m : ℕ) (goes rest : Bool) → (size < m → rest ≡ false) → cond goes (size + 1) 0 < suc m → (goes && rest) ≡ false
beyond_step size m true rest later h = later (omega arith)
beyond_step size m false rest later h = refl

pub run_beyond : (goes_on : ℕ → ℕ → Bool) (before m : ℕ) (cs : List ℕ) → run_size goes_on before cs < m → m ≤ length cs → is_run goes_on before (take m cs) ≡ false
run_beyond goes_on before zero cs h within = absurd (omega arith)
run_beyond goes_on before (suc m) [] h within = absurd (omega arith)
run_beyond goes_on before (suc m) (c ∷ cs) h within =
    beyond_step (run_size goes_on c cs) m (goes_on before c) (is_run goes_on c (take m cs)) (λ more. run_beyond goes_on c m cs more (omega arith)) h

pub run_size-within : (goes_on : ℕ → ℕ → Bool) (before : ℕ) (cs : List ℕ) → run_size goes_on before cs ≤ length cs
run_size-within goes_on before [] = omega arith
run_size-within goes_on before (c ∷ cs) = size_step (goes_on before c) (run_size goes_on c cs) (length cs) (run_size-within goes_on c cs)
  where
    size_step : (b : Bool) (n m : ℕ) → n ≤ m → cond b (n + 1) 0 ≤ suc m
    size_step true n m h = omega arith
    size_step false n m h = omega arith

-- ---- quoted texts

-- only the front up to the closing quote is quoted
empty-take : (m : ℕ) (cs : List ℕ) → is_empty (take m cs) ≡ true → m ≤ length cs → m ≡ 0
empty-take zero cs h within = refl
empty-take (suc m) [] h within = absurd (omega arith)
empty-take (suc m) (c ∷ cs) h within = absurd (false≢true h)

quoted_only_step : (at quote m c : ℕ) (taken newline closes : Bool) (cs : List ℕ)
    → ((later : Bool) → is_quoted quote later (take m cs) ≡ true → quoted_from (at + 1) quote later cs ≡ Some (at + 1 + m))
    → suc m ≤ suc (length cs)
    → cond newline false (cond taken (is_quoted quote false (take m cs)) (cond closes (is_empty (take m cs)) (is_quoted quote (nat_eq c 92) (take m cs)))) ≡ true
    → cond newline None (cond (not taken && closes) (Some (at + 1)) (quoted_from (at + 1) quote (not taken && nat_eq c 92) cs)) ≡ Some (at + suc m)
quoted_only_step at quote m c taken true closes cs later within h = absurd (false≢true h)
quoted_only_step at quote m c true false closes cs later within h = later false h ∙ ap Some (omega arith)
quoted_only_step at quote m c false false true cs later within h = ap Some (let e = empty-take m cs h (omega arith) in omega arith)
quoted_only_step at quote m c false false false cs later within h = later (nat_eq c 92) h ∙ ap Some (omega arith)

pub quoted_only : (at quote m : ℕ) (taken : Bool) (cs : List ℕ) → m ≤ length cs → is_quoted quote taken (take m cs) ≡ true → quoted_from at quote taken cs ≡ Some (at + m)
quoted_only at quote zero taken cs within h = absurd (false≢true h)
quoted_only at quote (suc m) taken [] within h = absurd (omega arith)
quoted_only at quote (suc m) taken (c ∷ cs) within h =
    quoted_only_step at quote m c taken (nat_eq c 10) (nat_eq c quote) cs (λ later. quoted_only (at + 1) quote m later cs (omega arith)) within h

-- the front up to the closing quote is quoted
pub record IsEnd (holds : List ℕ → Bool) (at end : ℕ) (cs : List ℕ) : Type 0 where
  pub size : ℕ
  pub place : end ≡ at + size
  pub within : size ≤ length cs
  pub front : holds (take size cs) ≡ true

some_inj : (a b : ℕ) → (let T : Type 0 = Option ℕ in Some a) ≡ Some b → a ≡ b
some_inj a b e = cc

pub quoted_found : (at quote end : ℕ) (taken : Bool) (cs : List ℕ) → quoted_from at quote taken cs ≡ Some end → IsEnd (is_quoted quote taken) at end cs
quoted_found at quote end taken [] e = absurd (let no : ⊥ = cc in no)
quoted_found at quote end taken (c ∷ cs) e =
    found_step at quote end c taken (nat_eq c 10) (nat_eq c quote) cs refl refl (λ later. quoted_found (at + 1) quote end later cs) e
  where
    found_step : (at quote end c : ℕ) (taken newline closes : Bool) (cs : List ℕ) → nat_eq c 10 ≡ newline → nat_eq c quote ≡ closes
        → ((later : Bool) → quoted_from (at + 1) quote later cs ≡ Some end → IsEnd (is_quoted quote later) (at + 1) end cs)
        → cond newline None (cond (not taken && closes) (Some (at + 1)) (quoted_from (at + 1) quote (not taken && nat_eq c 92) cs)) ≡ Some end
        → IsEnd (is_quoted quote taken) at end (c ∷ cs)
    found_step at quote end c taken true closes cs newline_is closes_is later e = absurd (let no : ⊥ = cc in no)
    found_step at quote end c true false closes cs newline_is closes_is later e =
        let l = later false e in
        record { size = suc l.size; place = l.place ∙ omega arith; within = let w = l.within in omega arith; front = rw newline_is l.front }
    found_step at quote end c false false true cs newline_is closes_is later e =
        record { size = 1; place = sym (let same : at + 1 ≡ end = cc in same); within = omega arith; front = rw (newline_is, closes_is) refl }
    found_step at quote end c false false false cs newline_is closes_is later e =
        let l = later (nat_eq c 92) e in
        record { size = suc l.size; place = l.place ∙ omega arith; within = let w = l.within in omega arith; front = rw (newline_is, closes_is) l.front }

-- ---- comments

no_half : (b ends : Bool) → cond (b && false) ends false ≡ true → ⊥
no_half true ends h = false≢true h
no_half false ends h = false≢true h

length-take-one : (m : ℕ) (cs : List ℕ) → m ≤ length cs → nat_eq (suc (length (take m cs))) 1 ≡ true → m ≡ 0
length-take-one zero cs within h = refl
length-take-one (suc m) [] within h = absurd (omega arith)
length-take-one (suc m) (c ∷ cs) within h = absurd (let e : suc (suc (length (take m cs))) ≡ 1 = eqb-true _ _ h in omega arith)

block_step : (at m : ℕ) (closes one later : Bool) (rest : Option ℕ) → (one ≡ true → m ≡ 0) → (later ≡ true → rest ≡ Some (at + 1 + suc m))
    → cond closes one later ≡ true → cond closes (Some (at + 2)) rest ≡ Some (at + suc (suc m))
block_step at m true one later rest ends on h = ap Some (let e = ends h in omega arith)
block_step at m false one later rest ends on h = on h ∙ ap Some (omega arith)

-- what follows `/*` is a comment only up to the first `*/`
pub block_only : (at m : ℕ) (cs : List ℕ) → m ≤ length cs → is_block (take m cs) ≡ true → block_from at cs ≡ Some (at + m)
block_only at zero cs within h = absurd (false≢true h)
block_only at (suc m) [] within h = absurd (omega arith)
block_only at (suc zero) (c ∷ cs) within h = absurd (no_half (nat_eq 42 c) _ h)
block_only at (suc (suc m)) (c ∷ []) within h = absurd (omega arith)
block_only at (suc (suc m)) (c ∷ d ∷ cs) within h =
    block_step at m (nat_eq 42 c && (nat_eq 47 d && true)) (nat_eq (suc (length (take m cs))) 1) (is_block (d ∷ take m cs)) (block_from (at + 1) (d ∷ cs))
    (length-take-one m cs (omega arith)) (λ on. block_only (at + 1) (suc m) (d ∷ cs) (omega arith) on) h

no_half_end : (b : Bool) (place end : ℕ) → cond (b && false) (Some place) None ≡ Some end → ⊥
no_half_end true place end h = cc
no_half_end false place end h = cc

pub block_found : (at end : ℕ) (cs : List ℕ) → block_from at cs ≡ Some end → IsEnd is_block at end cs
block_found at end [] e = absurd (let no : ⊥ = cc in no)
block_found at end (c ∷ []) e = absurd (no_half_end (nat_eq 42 c) (at + 2) end e)
block_found at end (c ∷ d ∷ cs) e =
    found_step (nat_eq 42 c && (nat_eq 47 d && true)) refl (block_found (at + 1) end (d ∷ cs)) e
  where
    prolonged : (size : ℕ) → (nat_eq 42 c && (nat_eq 47 d && true)) ≡ false → end ≡ at + 1 + size → size ≤ length (d ∷ cs) → is_block (take size (d ∷ cs)) ≡ true → IsEnd is_block at end (c ∷ d ∷ cs)
    prolonged zero unclosed place within front = absurd (false≢true front)
    prolonged (suc size) unclosed place within front = record { size = suc (suc size); place = place ∙ omega arith; within = omega arith; front = rw unclosed front }

    found_step : (closes : Bool) → (nat_eq 42 c && (nat_eq 47 d && true)) ≡ closes → (block_from (at + 1) (d ∷ cs) ≡ Some end → IsEnd is_block (at + 1) end (d ∷ cs))
        → cond closes (Some (at + 2)) (block_from (at + 1) (d ∷ cs)) ≡ Some end → IsEnd is_block at end (c ∷ d ∷ cs)
    found_step true closes_is later e = record { size = 2; place = sym (let same : at + 2 ≡ end = cc in same); within = omega arith; front = rw closes_is refl }
    found_step false closes_is later e = let l = later e in prolonged l.size closes_is l.place l.within l.front
