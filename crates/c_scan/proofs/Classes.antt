-- The piece at the front of a text, by its first bytes.
use Rattle.std.proofs.Common.{◌≡◌, ℕ, zero, suc, ◌+◌, ◌-◌, ◌<◌, ◌≤◌, Bool, true, false, not, ◌&&◌, ◌||◌, nat_eq, cond, List, [], ◌∷◌, length, take, Option, Some, None, arith, refl, sym, ap, ◌∙◌, ◌⊎◌, inl, inr, length-take-le}
use Rattle.std.specs.Option.{option_map}
use Rattle.std.proofs.lemmas.Bool.Decides.{nat_tests}
use Rattle.c_tokens.specs.Pieces.{Shape, Space, Word, Number, Character, Quoted, Piece, shape_of, only_where, longest, longest_piece, is_run, run_size, is_quoted, is_space, is_nondigit, is_digit, begins_number, begins_digit, in_word, in_number, character_shape, character_value, without_last, has_doubtful_quote}
use Rattle.c_scan.specs.Fronts.{piece, quoted_from, character_front, string_front}
use Rattle.c_scan.proofs.Fronts.{longest_found, longest_none, run_within, run_beyond, run_size-within, quoted_only, quoted_found, IsEnd}

-- ---- by the bytes after the first

found_more : (size m c : ℕ) (rest : List ℕ) → ((k : ℕ) → size < k → k ≤ length rest → shape_of (c ∷ take k rest) ≡ None) → size + 1 < m → m ≤ suc (length rest) → shape_of (take m (c ∷ rest)) ≡ None
found_more size zero c rest longer more within = absurd (omega arith)
found_more size (suc k) c rest longer more within = longer k (omega arith) (omega arith)

pub found_tail : (low size c : ℕ) (rest : List ℕ) (s : Shape) → low ≤ size → size ≤ length rest → shape_of (c ∷ take size rest) ≡ Some s
    → ((k : ℕ) → size < k → k ≤ length rest → shape_of (c ∷ take k rest) ≡ None) → longest low (suc (length rest)) (c ∷ rest) ≡ Some (piece (size + 1) s)
found_tail low size c rest s above within is longer =
    longest_found low (suc size) (suc (length rest)) (c ∷ rest) s (omega arith) (omega arith) is (λ m more less. found_more size m c rest longer (omega arith) less)
    ∙ ap (λ n. Some (piece n s)) (omega arith)

none_more : (low m c : ℕ) (rest : List ℕ) → ((k : ℕ) → low ≤ k → k ≤ length rest → shape_of (c ∷ take k rest) ≡ None) → low < m → m ≤ suc (length rest) → shape_of (take m (c ∷ rest)) ≡ None
none_more low zero c rest none more within = absurd (omega arith)
none_more low (suc k) c rest none more within = none k (omega arith) (omega arith)

pub none_tail : (low c : ℕ) (rest : List ℕ) → ((k : ℕ) → low ≤ k → k ≤ length rest → shape_of (c ∷ take k rest) ≡ None) → longest low (suc (length rest)) (c ∷ rest) ≡ None
none_tail low c rest none = longest_none low (suc (length rest)) (c ∷ rest) (λ m more less. none_more low m c rest none more less)

-- a text that doesn't begin with `/` opens no comment
plain_front : (c : ℕ) (rest : List ℕ) → nat_eq 47 c ≡ false → longest_piece (c ∷ rest) ≡ longest 0 (suc (length rest)) (c ∷ rest)
unfolding longest_piece
plain_front c rest slash = rw slash

-- ---- white space

space_longer : (k c : ℕ) (rest : List ℕ) → is_space c ≡ true → 0 < k → k ≤ length rest → shape_of (c ∷ take k rest) ≡ None
unfolding shape_of
space_longer zero c rest h more within = absurd (omega arith)
space_longer (suc k) c [] h more within = absurd (omega arith)
space_longer (suc k) c (d ∷ ds) h more within = rw h

pub space_front : (c : ℕ) (rest : List ℕ) → is_space c ≡ true → longest_piece (c ∷ rest) ≡ Some (piece 1 Space)
unfolding shape_of
space_front c rest h =
    plain_front c rest (grind (arith, nat_tests))
    ∙ found_tail 0 0 c rest Space (omega arith) (omega arith) (rw h) (λ k more within. space_longer k c rest h more within)

-- ---- words

word_shape : (c : ℕ) (text : List ℕ) → is_space c ≡ false → is_nondigit c ≡ true → shape_of (c ∷ text) ≡ only_where (is_run in_word c text) Word
unfolding shape_of
word_shape c text space h = rw (space, h)

pub word_front : (c : ℕ) (rest : List ℕ) → is_space c ≡ false → is_nondigit c ≡ true → longest_piece (c ∷ rest) ≡ Some (piece (run_size in_word c rest + 1) Word)
word_front c rest space h =
    let size = run_size in_word c rest in
    let within = run_size-within in_word c rest in
    plain_front c rest (grind (arith, nat_tests))
    ∙ found_tail 0 size c rest Word (omega arith) within
    (word_shape c (take size rest) space h ∙ ap (λ b. only_where b Word) (run_within in_word c size rest (omega arith)))
    (λ k more less. word_shape c (take k rest) space h ∙ ap (λ b. only_where b Word) (run_beyond in_word c k rest more less))

-- ---- numbers

number_shape : (c : ℕ) (text : List ℕ) → is_space c ≡ false → is_nondigit c ≡ false → begins_number (c ∷ text) ≡ true → shape_of (c ∷ text) ≡ only_where (is_run in_number c text) Number
unfolding shape_of
number_shape c text space word h = rw (space, word, h)

or_in : (a b c : Bool) → (((a || true) || b) || c) ≡ true
or_in true b c = refl
or_in false b c = refl

digit_goes_on : (before c : ℕ) → is_digit c ≡ true → in_number before c ≡ true
digit_goes_on before c h = rw h (or_in (is_nondigit c) (nat_eq c 46) ((nat_eq c 43 || nat_eq c 45) && (((nat_eq before 69 || nat_eq before 101) || nat_eq before 80) || nat_eq before 112)))

dot_alone : (digit dot later goes : Bool) (n : ℕ) → (later ≡ true → goes ≡ true) → (digit || (dot && later)) ≡ true → cond goes (n + 1) 0 ≤ 0 → (digit || (dot && false)) ≡ true
dot_alone true dot later goes n on h within = refl
dot_alone false true true goes n on h within = absurd (let run = rw (on refl) at within in omega arith)
dot_alone false true false goes n on h within = h
dot_alone false false later goes n on h within = h

no_slash : (c : ℕ) (later : Bool) → (is_digit c || (nat_eq c 46 && later)) ≡ true → nat_eq 47 c ≡ false
no_slash c later h = grind (arith, nat_tests)

still_number : (c k : ℕ) (rest : List ℕ) → begins_number (c ∷ rest) ≡ true → run_size in_number c rest ≤ k → begins_number (c ∷ take k rest) ≡ true
still_number c zero [] h within = h
still_number c (suc k) [] h within = h
still_number c zero (d ∷ ds) h within = dot_alone (is_digit c) (nat_eq c 46) (is_digit d) (in_number c d) (run_size in_number d ds) (digit_goes_on c d) h within
still_number c (suc k) (d ∷ ds) h within = h

pub number_front : (c : ℕ) (rest : List ℕ) → is_space c ≡ false → is_nondigit c ≡ false → begins_number (c ∷ rest) ≡ true → longest_piece (c ∷ rest) ≡ Some (piece (run_size in_number c rest + 1) Number)
number_front c rest space word h =
    let size = run_size in_number c rest in
    let within = run_size-within in_number c rest in
    plain_front c rest (no_slash c (begins_digit rest) h)
    ∙ found_tail 0 size c rest Number (omega arith) within
    (number_shape c (take size rest) space word (still_number c size rest h (omega arith)) ∙ ap (λ b. only_where b Number) (run_within in_number c size rest (omega arith)))
    (λ k more less. number_shape c (take k rest) space word (still_number c k rest h (omega arith)) ∙ ap (λ b. only_where b Number) (run_beyond in_number c k rest more less))

-- ---- character constants and strings

pub false_from : (b : Bool) → (b ≡ true → ⊥) → b ≡ false
false_from true never = absurd (never refl)
false_from false never = refl

-- no other front is quoted
other_front : (quote size k : ℕ) (rest : List ℕ) → k ≤ length rest → quoted_from 0 quote false rest ≡ Some size → (k ≡ size → ⊥) → is_quoted quote false (take k rest) ≡ false
other_front quote size k rest within e apart =
    false_from _ (λ quoted. apart (let same : (let T : Type 0 = Option ℕ in Some size) ≡ Some (0 + k) = sym e ∙ quoted_only 0 quote k false rest within quoted in
    let one : size ≡ 0 + k = cc in omega arith))

no_front : (quote k : ℕ) (rest : List ℕ) → k ≤ length rest → quoted_from 0 quote false rest ≡ None → is_quoted quote false (take k rest) ≡ false
no_front quote k rest within e =
    false_from _ (λ quoted. let same : None ≡ (let T : Type 0 = Option ℕ in Some (0 + k)) = sym e ∙ quoted_only 0 quote k false rest within quoted in cc)

character_shape_of : (text : List ℕ) → shape_of (39 ∷ text) ≡ character_shape text
unfolding shape_of
character_shape_of text = refl

string_shape_of : (text : List ℕ) → shape_of (34 ∷ text) ≡ only_where (is_quoted 34 false text && not (has_doubtful_quote text)) Quoted
unfolding shape_of
string_shape_of text = refl

take_take_le : (a b : ℕ) (xs : List ℕ) → a ≤ b → take a (take b xs) ≡ take a xs
take_take_le zero b xs h = refl
take_take_le (suc a) zero xs h = absurd (omega arith)
take_take_le (suc a) (suc b) [] h = refl
take_take_le (suc a) (suc b) (x ∷ xs) h = ap (λ t. x ∷ t) (take_take_le a b xs (omega arith))

front_without_last : (size : ℕ) (rest : List ℕ) → size ≤ length rest → without_last (take size rest) ≡ take (size - 1) rest
front_without_last size rest within = rw (length-take-le size rest within) (take_take_le (size - 1) size rest (omega arith))

pub record IsFront (holds : List ℕ → Bool) (end : ℕ) (cs : List ℕ) : Type 0 where
  pub within : end ≤ length cs
  pub front : holds (take end cs) ≡ true

pub front_of_end : (holds : List ℕ → Bool) (end : ℕ) (cs : List ℕ) → IsEnd holds 0 end cs → IsFront holds end cs
front_of_end holds end cs e =
    let same : e.size ≡ end = (let p = e.place in omega arith) in
    record { within = (let w = e.within in omega arith); front = rw same at e.front }

pub equal_or_not : (a b : ℕ) → (a ≡ b) ⊎ (a ≡ b → ⊥)
equal_or_not zero zero = inl refl
equal_or_not zero (suc b) = inr (λ e. omega arith)
equal_or_not (suc a) zero = inr (λ e. omega arith)
equal_or_not (suc a) (suc b) = elim (equal_or_not a b) [ inl e ↦ inl (ap suc e) | inr apart ↦ inr (λ e. apart (omega arith)) ]

abbrev character_or_none : List ℕ → Bool → Option Shape
character_or_none text b = cond b (option_map Character (character_value (without_last text))) None

character_value_shape : (size : ℕ) (rest : List ℕ) → quoted_from 0 39 false rest ≡ Some size → shape_of (39 ∷ take size rest) ≡ option_map Character (character_value (take (size - 1) rest))
character_value_shape size rest e =
    let f = front_of_end (is_quoted 39 false) size rest (quoted_found 0 39 size false rest e) in
    character_shape_of (take size rest) ∙ ap (character_or_none (take size rest)) f.front
    ∙ ap (λ body. option_map Character (character_value body)) (front_without_last size rest f.within)

other_character : (size k : ℕ) (rest : List ℕ) → k ≤ length rest → quoted_from 0 39 false rest ≡ Some size → (k ≡ size → ⊥) → shape_of (39 ∷ take k rest) ≡ None
other_character size k rest within e apart = character_shape_of (take k rest) ∙ ap (character_or_none (take k rest)) (other_front 39 size k rest within e apart)

character_case : (size : ℕ) (rest : List ℕ) (v : Option ℕ) → quoted_from 0 39 false rest ≡ Some size → character_value (take (size - 1) rest) ≡ v
    → longest_piece (39 ∷ rest) ≡ option_map (λ value. piece (size + 1) (Character value)) v
character_case size rest None e value = plain_front 39 rest refl ∙ none_tail 0 39 rest (λ k above within.
    elim (equal_or_not k size) [
      | inl same ↦ rw same (character_value_shape size rest e ∙ ap (option_map Character) value)
      | inr apart ↦ other_character size k rest within e apart
    ])
character_case size rest (Some v) e value =
    let f = front_of_end (is_quoted 39 false) size rest (quoted_found 0 39 size false rest e) in
    plain_front 39 rest refl ∙ found_tail 0 size 39 rest (Character v) (omega arith) f.within
    (character_value_shape size rest e ∙ ap (option_map Character) value)
    (λ k more within. other_character size k rest within e (λ same. omega arith))

pub character_lem : (rest : List ℕ) → longest_piece (39 ∷ rest) ≡ character_front rest
character_lem rest = by_end (quoted_from 0 39 false rest) refl
  where
    by_end : (q : Option ℕ) → quoted_from 0 39 false rest ≡ q → longest_piece (39 ∷ rest) ≡ (elim q as (λ _. Option Piece) [ Some size ↦ option_map (λ value. piece (size + 1) (Character value)) (character_value (take (size - 1) rest)) | None ↦ None ])
    by_end None e = plain_front 39 rest refl ∙ none_tail 0 39 rest (λ k above within. character_shape_of (take k rest) ∙ ap (character_or_none (take k rest)) (no_front 39 k rest within e))
    by_end (Some size) e = character_case size rest (character_value (take (size - 1) rest)) e refl

-- ---- strings

other_string : (k : ℕ) (rest : List ℕ) → is_quoted 34 false (take k rest) ≡ false → shape_of (34 ∷ take k rest) ≡ None
other_string k rest e = string_shape_of (take k rest) ∙ ap (λ b. only_where (b && not (has_doubtful_quote (take k rest))) Quoted) e

string_shape : (size : ℕ) (rest : List ℕ) (doubtful : Bool) → quoted_from 0 34 false rest ≡ Some size → has_doubtful_quote (take size rest) ≡ doubtful → shape_of (34 ∷ take size rest) ≡ only_where (not doubtful) Quoted
string_shape size rest doubtful e d =
    let f = front_of_end (is_quoted 34 false) size rest (quoted_found 0 34 size false rest e) in
    string_shape_of (take size rest) ∙ ap (λ b. only_where (b && not (has_doubtful_quote (take size rest))) Quoted) f.front ∙ ap (λ b. only_where (not b) Quoted) d

string_case : (size : ℕ) (rest : List ℕ) (doubtful : Bool) → quoted_from 0 34 false rest ≡ Some size → has_doubtful_quote (take size rest) ≡ doubtful
    → longest_piece (34 ∷ rest) ≡ cond doubtful None (Some (piece (size + 1) Quoted))
string_case size rest true e d = plain_front 34 rest refl ∙ none_tail 0 34 rest (λ k above within.
    elim (equal_or_not k size) [
      | inl same ↦ rw same (string_shape size rest true e d)
      | inr apart ↦ other_string k rest (other_front 34 size k rest within e apart)
    ])
string_case size rest false e d =
    let f = front_of_end (is_quoted 34 false) size rest (quoted_found 0 34 size false rest e) in
    plain_front 34 rest refl ∙ found_tail 0 size 34 rest Quoted (omega arith) f.within
    (string_shape size rest false e d)
    (λ k more within. other_string k rest (other_front 34 size k rest within e (λ same. omega arith)))

pub string_lem : (rest : List ℕ) → longest_piece (34 ∷ rest) ≡ string_front rest
string_lem rest = by_end (quoted_from 0 34 false rest) refl
  where
    by_end : (q : Option ℕ) → quoted_from 0 34 false rest ≡ q → longest_piece (34 ∷ rest) ≡ (elim q as (λ _. Option Piece) [ Some size ↦ cond (has_doubtful_quote (take size rest)) None (Some (piece (size + 1) Quoted)) | None ↦ None ])
    by_end None e = plain_front 34 rest refl ∙ none_tail 0 34 rest (λ k above within. other_string k rest (no_front 34 k rest within e))
    by_end (Some size) e = string_case size rest (has_doubtful_quote (take size rest)) e refl
