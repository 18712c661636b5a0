-- One step of a division, and the places of faults in a directive.
use Rattle.std.proofs.Common.{◌≡◌, ℕ, zero, suc, ◌+◌, ◌-◌, ◌<◌, ◌≤◌, Bool, true, false, ◌&&◌, ◌||◌, cond, List, [], ◌∷◌, length, take, drop, Option, Some, None, arith, refl, sym, ap, ◌∙◌, add-one, codes, length-drop, nat_lt, nat_le}
use Rattle.c_tokens.specs.declared.data_model.DataModel.{DataModel}
use Rattle.c_tokens.specs.Directives.{Context, Outside, Form, Nothing, Includes, Defines, Wrong, replacement, define_form, include_form, form_of, open_comment, after, ends_line, opens_block, first_or_0, is_in_block, is_blank, in_spelling, without_space, word_size}
use Rattle.std.specs.Str.{bytes_eq}
use Rattle.c_tokens.specs.Pieces.{begins_digit, begins_number, is_empty, run_size}
use Rattle.c_tokens.specs.Constants.{number_of}
use Rattle.c_tokens.specs.Headers.{Header, headers}
use Rattle.c_tokens.specs.Words.{lookup}
use Rattle.std.proofs.lemmas.Slice.{between_to_end}
use Rattle.c_tokens.specs.Reading.{State, Advance, Goes, Stops, Fault, Reading, Read, Fails, divided, large_constant, is_too_large, moves_lines, splice_from, with_splice, place_of}
use Rattle.c_tokens.specs.declared.token.Token.{Token}
use Rattle.std.proofs.lemmas.Bool.Decides.{nat_tests}
use Rattle.c_lexer.specs.States.{step_at, IsReady, IsStop, IsFault, fault_place}
use Rattle.c_lexer.specs.declared.lexer.LexFault.{LexFault}
use Rattle.c_lexer.specs.declared.lexer.LexFault.TheVariants as faults
use Rattle.c_tokens.specs.Reading.{NoToken, Directive, LongConstant, TooManyTokens}
use Rattle.c_lexer.specs.declared.lexer.Lexer.{Lexer}

abbrev after_step : ℕ → DataModel → State → List ℕ → Advance → Reading
after_step n model state rest s = elim s as (λ _. Reading) [ Goes size later ↦ divided n model later (drop size rest) | Stops fault ↦ Fails fault ]

pub record IsNext (n : ℕ) (model : DataModel) (state later : State) (rest left : List ℕ) : Type 0 where
  pub fuel : ℕ
  pub counts : n ≡ fuel + 1
  pub goes : divided n model state rest ≡ divided fuel model later left

pub divided_next : (n size : ℕ) (model : DataModel) (state later : State) (rest : List ℕ) → 1 ≤ length rest → length rest ≤ n → step_at model state rest ≡ Goes size later
    → IsNext n model state later rest (drop size rest)
unfolding divided
divided_next n size model state later [] some enough e = absurd (omega arith)
divided_next zero size model state later (c ∷ cs) some enough e = absurd (omega arith)
divided_next (suc n) size model state later (c ∷ cs) some enough e = record { fuel = n; counts = omega arith; goes = ap (after_step n model state (c ∷ cs)) e }

pub divided_stop : (n : ℕ) (model : DataModel) (state : State) (rest : List ℕ) (fault : Fault) → 1 ≤ length rest → length rest ≤ n → step_at model state rest ≡ Stops fault
    → divided n model state rest ≡ Fails fault
unfolding divided
divided_stop n model state [] fault some enough e = absurd (omega arith)
divided_stop zero model state (c ∷ cs) fault some enough e = absurd (omega arith)
divided_stop (suc n) model state (c ∷ cs) fault some enough e = ap (after_step n model state (c ∷ cs)) e

pub divided_end : (n : ℕ) (model : DataModel) (state : State) (rest : List ℕ) → length rest < 1 → divided n model state rest ≡ Read state.tokens
unfolding divided
divided_end n model state [] none = refl
divided_end n model state (c ∷ cs) none = absurd (omega arith)

-- ---- places

unfoldable IsWithin : ℕ → Form → Type 0
IsWithin n Nothing = Unit {0}
IsWithin n (Includes header) = Unit {0}
IsWithin n (Defines name text place) = place ≤ n
IsWithin n Wrong = Unit {0}

nothing_within : (n : ℕ) → IsWithin n Nothing
unfolding IsWithin
nothing_within n = tt

wrong_within : (n : ℕ) → IsWithin n Wrong
unfolding IsWithin
wrong_within n = tt

includes_within : (n : ℕ) (header : Header) → IsWithin n (Includes header)
unfolding IsWithin
includes_within n header = tt

defines_within : (n k : ℕ) (name text : List ℕ) → IsWithin n (Defines name text (n - k))
unfolding IsWithin
defines_within n k name text = omega arith

cond_within : (n : ℕ) (b : Bool) (f g : Form) → IsWithin n f → IsWithin n g → IsWithin n (cond b f g)
cond_within n true f g h k = h
cond_within n false f g h k = k

define_within : (n : ℕ) (rest : List ℕ) → IsWithin n (define_form n rest)
unfolding define_form replacement
define_within n rest = cond_within n _ _ _ (cond_within n _ _ _ (defines_within n _ _ _) (wrong_within n)) (wrong_within n)

include_within : (n : ℕ) (rest : List ℕ) → IsWithin n (include_form rest)
unfolding include_form
include_within n rest = by_header (lookup headers (take (run_size in_spelling 0 rest) rest)) (is_blank (drop (run_size in_spelling 0 rest) rest))
  where
    by_header : (found : Option Header) (b : Bool) → IsWithin n (elim found as (λ _. Form) [ Some header ↦ cond b (Includes header) Wrong | None ↦ Wrong ])
    by_header None b = wrong_within n
    by_header (Some header) true = includes_within n header
    by_header (Some header) false = wrong_within n

form_within : (line : List ℕ) → IsWithin (length line) (form_of line)
unfolding form_of
form_within line =
    let n = length line in
    let text = without_space line in
    let word = take (word_size text) text in
    let rest = without_space (drop (word_size text) text) in
    cond_within n (is_empty text || begins_number text) _ _ (nothing_within n)
    (cond_within n (bytes_eq word (codes "pragma")) _ _ (nothing_within n)
    (cond_within n (bytes_eq word (codes "line")) _ _ (cond_within n (begins_number rest) _ _ (nothing_within n) (wrong_within n))
    (cond_within n (bytes_eq word (codes "include")) _ _ (include_within n rest)
    (cond_within n (bytes_eq word (codes "define")) _ _ (define_within n rest) (wrong_within n)))))

large_step : (model : DataModel) (n place : ℕ) (f : Form) → IsWithin n f → large_constant model f ≡ Some place → place ≤ n
unfolding IsWithin
large_step model n place Nothing h e = absurd (let never : ⊥ = cc in never)
large_step model n place (Includes header) h e = absurd (let never : ⊥ = cc in never)
large_step model n place (Defines name text at) h e = by_test (begins_digit text && is_too_large (number_of model text)) e
  where
    by_test : (b : Bool) → cond b (Some at) None ≡ Some place → place ≤ n
    by_test true e = let same : at ≡ place = cc in omega arith
    by_test false e = absurd (let never : ⊥ = cc in never)
large_step model n place Wrong h e = absurd (let never : ⊥ = cc in never)

pub large_within : (model : DataModel) (line : List ℕ) (place : ℕ) → large_constant model (form_of line) ≡ Some place → place ≤ length line
large_within model line place e = large_step model (length line) place (form_of line) (form_within line) e

open_within : (context : Context) (began at place : ℕ) (cs : List ℕ) → began ≤ at → open_comment context began at cs ≡ Some place → place ≤ at + length cs
unfolding open_comment
open_within context began at place [] h e = by_test (is_in_block context) e
  where
    by_test : (b : Bool) → cond b (Some began) None ≡ Some place → place ≤ at + 0
    by_test true e = let same : began ≡ place = cc in omega arith
    by_test false e = absurd (let never : ⊥ = cc in never)
open_within context began at place (c ∷ cs) h e =
    by_test (ends_line context c) (opens_block context c (first_or_0 cs))
    (λ later_began within e. open_within (after context c (first_or_0 cs)) later_began (at + 1) place cs within e) e
  where
    began_next : (b : Bool) → cond b at began ≤ at + 1
    began_next true = omega arith
    began_next false = omega arith

    by_test : (ends opens : Bool) → ((b : ℕ) → b ≤ at + 1 → open_comment (after context c (first_or_0 cs)) b (at + 1) cs ≡ Some place → place ≤ at + 1 + length cs)
        → cond ends None (open_comment (after context c (first_or_0 cs)) (cond opens at began) (at + 1) cs) ≡ Some place → place ≤ at + suc (length cs)
    by_test true opens later e = absurd (let never : ⊥ = cc in never)
    by_test false opens later e = let r = later (cond opens at began) (began_next opens) e in omega arith

pub open_place : (cs : List ℕ) (place : ℕ) → open_comment Outside 0 0 cs ≡ Some place → place ≤ length cs
open_place cs place e = let h = open_within Outside 0 0 place cs (omega arith) e in omega arith

-- ---- readers

pub ready_again : (model : DataModel) (lexer : Lexer) → IsReady model lexer → IsReady lexer.model lexer
ready_again model lexer h = record { model_is = refl; macros_model = h.macros_model ∙ sym h.model_is; known = h.known; line_bound = h.line_bound }

-- ---- line splices

splice-drop : (i : ℕ) (text : List ℕ) → i < length text → splice_from (drop i text) ≡ cond (moves_lines (drop i text)) 0 (splice_from (drop (suc i) text) + 1)
unfolding splice_from
splice-drop i [] h = absurd (omega arith)
splice-drop zero (c ∷ cs) h = refl
splice-drop (suc i) (c ∷ cs) h = splice-drop i cs (omega arith)

test_of : (i : ℕ) (text : List ℕ) (b : Bool) → b ≡ moves_lines (take (length text - i) (drop i text)) → moves_lines (drop i text) ≡ b
test_of i text b e = sym (e ∙ ap moves_lines (between_to_end text i (length text) (omega arith)))

pub splice_here : (i all : ℕ) (text : List ℕ) → i < length text → true ≡ moves_lines (take (length text - i) (drop i text)) → i + splice_from (drop i text) ≡ all → i ≡ all
splice_here i all text h e r =
    let none : splice_from (drop i text) ≡ 0 = splice-drop i text h ∙ ap (λ b. cond b 0 (splice_from (drop (suc i) text) + 1)) (test_of i text true e) in omega arith

pub splice_later : (i all : ℕ) (text : List ℕ) → i < length text → false ≡ moves_lines (take (length text - i) (drop i text)) → i + splice_from (drop i text) ≡ all → i + 1 + splice_from (drop (i + 1) text) ≡ all
splice_later i all text h e r =
    let one : splice_from (drop i text) ≡ splice_from (drop (suc i) text) + 1 = splice-drop i text h ∙ ap (λ b. cond b 0 (splice_from (drop (suc i) text) + 1)) (test_of i text false e) in
    rw (add-one i) (omega arith)

pub splice_end : (i all : ℕ) (text : List ℕ) → length text ≤ i → i ≤ length text → i + splice_from (drop i text) ≡ all → length text ≡ all
unfolding splice_from
splice_end zero all [] h k r = omega arith
splice_end (suc i) all [] h k r = absurd (omega arith)
splice_end zero all (c ∷ cs) h k r = absurd (omega arith)
splice_end (suc i) all (c ∷ cs) h k r = let e = splice_end i (i + splice_from (drop i cs)) cs (omega arith) (omega arith) refl in omega arith

-- ---- the loop

pub keeps_dividing : (whole : Reading) (model : DataModel) (state later : State) (rest : List ℕ) (size : ℕ) → 1 ≤ length rest → 1 ≤ size → size ≤ length rest
    → step_at model state rest ≡ Goes size later → ((n : ℕ) × (length rest ≤ n) × (divided n model state rest ≡ whole))
    → (n : ℕ) × (length (take (length rest - size) (drop size rest)) ≤ n) × (divided n model later (take (length rest - size) (drop size rest)) ≡ whole)
keeps_dividing whole model state later rest size some size_some within e d =
    let next = divided_next d.0 size model state later rest some d.1 e in
    let left : take (length rest - size) (drop size rest) ≡ drop size rest = between_to_end rest size (length rest) (omega arith) in
    let counts = next.counts in
    let enough = d.1 in
    (next.fuel, rw left (omega (arith, length-drop size rest)), rw left (sym next.goes ∙ d.2))

pub fails_at : (fault : LexFault) (whole : Reading) (model : DataModel) (state : State) (rest : List ℕ) → 1 ≤ length rest → IsStop fault (step_at model state rest)
    → ((n : ℕ) × (length rest ≤ n) × (divided n model state rest ≡ whole)) → IsFault fault whole
fails_at (faults.NoToken at) whole model state rest some e d = sym d.2 ∙ divided_stop d.0 model state rest (NoToken at) some d.1 e
fails_at (faults.Directive at) whole model state rest some e d = sym d.2 ∙ divided_stop d.0 model state rest (Directive at) some d.1 e
fails_at (faults.LongConstant at) whole model state rest some e d = sym d.2 ∙ divided_stop d.0 model state rest (LongConstant at) some d.1 e
fails_at (faults.TooManyTokens at) whole model state rest some e d = sym d.2 ∙ divided_stop d.0 model state rest (TooManyTokens at) some d.1 e
fails_at faults.NoMemory whole model state rest some e d = tt

-- ---- splices

and-false : (b : Bool) → (b && false) ≡ false
and-false true = refl
and-false false = refl

module _ (size splice : ℕ) where
  pub no_splice : (r : Reading) → splice ≡ size → with_splice size splice r ≡ r
  no_splice (Read tokens) e = let f : nat_lt splice size ≡ false = grind (arith, nat_tests) in rw f
  no_splice (Fails fault) e =
      let f : nat_lt splice size ≡ false = grind (arith, nat_tests) in
      ap (λ b. cond (nat_le splice (place_of fault) && b) (Fails (NoToken splice)) (Fails fault)) f ∙ ap (λ b. cond b (Fails (NoToken splice)) (Fails fault)) (and-false (nat_le splice (place_of fault)))

  pub splice_read : (tokens : List Token) → splice < size → with_splice size splice (Read tokens) ≡ Fails (NoToken splice)
  splice_read tokens h = let f : nat_lt splice size ≡ true = grind (arith, nat_tests) in rw f

  splice_test : (fault : Fault) (before within : Bool) → nat_le splice (place_of fault) ≡ before → nat_lt splice size ≡ within
      → with_splice size splice (Fails fault) ≡ cond (before && within) (Fails (NoToken splice)) (Fails fault)
  splice_test fault before within e f = ap (λ b. cond (b && nat_lt splice size) (Fails (NoToken splice)) (Fails fault)) e ∙ ap (λ b. cond (before && b) (Fails (NoToken splice)) (Fails fault)) f

  pub splice_first : (fault : Fault) → splice < size → splice ≤ place_of fault → with_splice size splice (Fails fault) ≡ Fails (NoToken splice)
  splice_first fault h k = splice_test fault true true (grind (arith, nat_tests)) (grind (arith, nat_tests))

  pub splice_after : (fault : Fault) → splice < size → place_of fault < splice → with_splice size splice (Fails fault) ≡ Fails fault
  splice_after fault h k = splice_test fault false true (grind (arith, nat_tests)) (grind (arith, nat_tests))

  -- a fault at or after the splice gives way to it
  pub fault_first : (fault : LexFault) (place : ℕ) (r : Reading) → splice < size → fault_place fault ≡ Some place → splice ≤ place → IsFault fault r → with_splice size splice r ≡ Fails (NoToken splice)
  fault_first (faults.NoToken at) place r h p k e = ap (with_splice size splice) e ∙ splice_first (NoToken at) h (let same : at ≡ place = cc in omega arith)
  fault_first (faults.Directive at) place r h p k e = ap (with_splice size splice) e ∙ splice_first (Directive at) h (let same : at ≡ place = cc in omega arith)
  fault_first (faults.LongConstant at) place r h p k e = ap (with_splice size splice) e ∙ splice_first (LongConstant at) h (let same : at ≡ place = cc in omega arith)
  fault_first (faults.TooManyTokens at) place r h p k e = ap (with_splice size splice) e ∙ splice_first (TooManyTokens at) h (let same : at ≡ place = cc in omega arith)
  fault_first faults.NoMemory place r h p k e = absurd (let never : ⊥ = cc in never)

  -- a fault before the splice stays
  pub fault_stays : (fault : LexFault) (place : ℕ) (r : Reading) → splice < size → fault_place fault ≡ Some place → place < splice → IsFault fault r → IsFault fault (with_splice size splice r)
  fault_stays (faults.NoToken at) place r h p k e = ap (with_splice size splice) e ∙ splice_after (NoToken at) h (let same : at ≡ place = cc in omega arith)
  fault_stays (faults.Directive at) place r h p k e = ap (with_splice size splice) e ∙ splice_after (Directive at) h (let same : at ≡ place = cc in omega arith)
  fault_stays (faults.LongConstant at) place r h p k e = ap (with_splice size splice) e ∙ splice_after (LongConstant at) h (let same : at ≡ place = cc in omega arith)
  fault_stays (faults.TooManyTokens at) place r h p k e = ap (with_splice size splice) e ∙ splice_after (TooManyTokens at) h (let same : at ≡ place = cc in omega arith)
  fault_stays faults.NoMemory place r h p k e = tt
