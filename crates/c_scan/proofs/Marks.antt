-- Comments and punctuators at the front of a text.
use Rattle.std.proofs.Common.{◌≡◌, ℕ, zero, suc, ◌+◌, ◌-◌, ◌<◌, ◌≤◌, Bool, true, false, ◌&&◌, ◌||◌, nat_eq, nat_lt, nat_le, List, [], ◌∷◌, length, take, Option, Some, None, arith, refl, sym, ap, ◌∙◌, codes, length-take-le}
use Rattle.std.specs.List.{list_all}
use Rattle.std.specs.Option.{option_map}
use Rattle.std.specs.Str.{bytes_eq}
use Rattle.std.proofs.lemmas.Bool.{false≢true, leb-true, le-leb}
use Rattle.c_tokens.specs.declared.token.TokenKind.{TokenKind}
use Rattle.c_tokens.specs.Words.{lookup, punctuators}
use Rattle.c_tokens.specs.Pieces.{Shape, Space, Mark, Piece, shape_of, only_where, longest, longest_piece, is_run, run_size, is_block, is_space, is_nondigit, is_digit, begins_number, begins_digit, begins_with, in_line}
use Rattle.c_scan.specs.Fronts.{piece, block_from, block_front, mark_or, mark_front}
use Rattle.c_scan.proofs.Fronts.{run_within, run_beyond, run_size-within, block_only, block_found}
use Rattle.c_scan.proofs.Classes.{found_tail, none_tail, front_of_end, false_from}

-- ---- comments to the end of the line

line_shape : (text : List ℕ) → shape_of (47 ∷ 47 ∷ text) ≡ only_where (is_run in_line 47 text) Space
unfolding shape_of
line_shape text = refl

line_front_is : (rest : List ℕ) → longest_piece (47 ∷ 47 ∷ rest) ≡ longest 0 (suc (suc (length rest))) (47 ∷ 47 ∷ rest)
unfolding longest_piece
line_front_is rest = refl

line_longer : (size k : ℕ) (rest : List ℕ) → size ≡ run_size in_line 47 rest → size + 1 < k → k ≤ suc (length rest) → shape_of (47 ∷ take k (47 ∷ rest)) ≡ None
line_longer size zero rest is more less = absurd (omega arith)
line_longer size (suc k) rest is more less = line_shape (take k rest) ∙ ap (λ b. only_where b Space) (run_beyond in_line 47 k rest (omega arith) (omega arith))

pub line_lem : (rest : List ℕ) → longest_piece (47 ∷ 47 ∷ rest) ≡ Some (piece (run_size in_line 47 rest + 2) Space)
line_lem rest =
    let size = run_size in_line 47 rest in
    let within = run_size-within in_line 47 rest in
    line_front_is rest
    ∙ found_tail 0 (suc size) 47 (47 ∷ rest) Space (omega arith) (omega arith)
    (line_shape (take size rest) ∙ ap (λ b. only_where b Space) (run_within in_line 47 size rest (omega arith)))
    (λ k more less. line_longer size k rest refl (omega arith) less)
    ∙ ap (λ n. Some (piece n Space)) (omega arith)

-- ---- block comments

block_shape : (text : List ℕ) → shape_of (47 ∷ 42 ∷ text) ≡ only_where (is_block text) Space
unfolding shape_of
block_shape text = refl

block_front_is : (rest : List ℕ) → longest_piece (47 ∷ 42 ∷ rest) ≡ longest 1 (suc (suc (length rest))) (47 ∷ 42 ∷ rest)
unfolding longest_piece
block_front_is rest = refl

other_block : (k : ℕ) (rest : List ℕ) (q : Option ℕ) → k ≤ suc (length rest) → 1 ≤ k → block_from 0 rest ≡ q → (q ≡ Some (k - 1) → ⊥) → shape_of (47 ∷ take k (42 ∷ rest)) ≡ None
other_block zero rest q within some e apart = absurd (omega arith)
other_block (suc k) rest q within some e apart =
    block_shape (take k rest) ∙ ap (λ b. only_where b Space)
    (false_from _ (λ closed. apart (sym e ∙ block_only 0 k rest (omega arith) closed ∙ ap Some (omega arith))))

pub block_lem : (rest : List ℕ) → longest_piece (47 ∷ 42 ∷ rest) ≡ block_front rest
block_lem rest = by_end (block_from 0 rest) refl
  where
    by_end : (q : Option ℕ) → block_from 0 rest ≡ q → longest_piece (47 ∷ 42 ∷ rest) ≡ option_map (λ size. piece (size + 2) Space) q
    by_end None e = block_front_is rest ∙ none_tail 1 47 (42 ∷ rest) (λ k above within. other_block k rest None within above e (λ same. let never : ⊥ = cc in never))
    by_end (Some size) e =
        let f = front_of_end is_block size rest (block_found 0 size rest e) in
        let within = f.within in
        block_front_is rest ∙ found_tail 1 (suc size) 47 (42 ∷ rest) Space (omega arith) (omega arith)
        (block_shape (take size rest) ∙ ap (λ b. only_where b Space) f.front)
        (λ k more less. other_block k rest (Some size) less (omega arith) e (λ same. let one : size ≡ k - 1 = cc in omega arith))
        ∙ ap (λ n. Some (piece n Space)) (omega arith)

-- ---- punctuators

and-false : (b : Bool) → (b && false) ≡ false
and-false true = refl
and-false false = refl

shorter_differs : (xs ys : List ℕ) → length xs < length ys → bytes_eq xs ys ≡ false
shorter_differs xs [] h = absurd (omega arith)
shorter_differs [] (y ∷ ys) h = refl
shorter_differs (x ∷ xs) (y ∷ ys) h = rw (shorter_differs xs ys (omega arith)) (and-false (nat_eq x y))

lookup_long : (rows : List (List ℕ × TokenKind)) (text : List ℕ) → list_all (λ row. nat_le (length row.0) 3) rows ≡ true → 3 < length text → lookup rows text ≡ None
lookup_long [] text short h = refl
lookup_long (row ∷ rows) text short h = step (nat_le (length row.0) 3) (list_all (λ r. nat_le (length r.0) 3) rows) refl short (λ later. lookup_long rows text later h)
  where
    step : (first others : Bool) → nat_le (length row.0) 3 ≡ first → (first && others) ≡ true → (others ≡ true → lookup rows text ≡ None) → lookup (row ∷ rows) text ≡ None
    step true others is both later = rw (shorter_differs row.0 text (let w : length row.0 ≤ 3 = leb-true (length row.0) 3 is in omega arith)) (later both)
    step false others is both later = absurd (false≢true both)

short_punctuators : list_all (λ row. nat_le (length row.0) 3) punctuators ≡ true
unfolding punctuators
short_punctuators = refl

-- a first byte at which only a punctuator can stand, with what follows it
pub record IsMark (c : ℕ) (rest : List ℕ) : Type 0 where
  pub space : is_space c ≡ false
  pub word : is_nondigit c ≡ false
  pub number : begins_number (c ∷ rest) ≡ false
  pub character : nat_eq c 39 ≡ false
  pub string : nat_eq c 34 ≡ false
  pub block : begins_with (codes "/*") (c ∷ rest) ≡ false
  pub line : begins_with (codes "//") (c ∷ rest) ≡ false

mark_shape_of : (c : ℕ) (text : List ℕ) → IsMark c text → shape_of (c ∷ text) ≡ option_map Mark (lookup punctuators (c ∷ text))
unfolding shape_of
mark_shape_of c text m = rw (m.space, m.word, m.number, m.character, m.string, m.block, m.line)

or-false : (a b : Bool) → (a || b) ≡ false → a ≡ false
or-false true b h = h
or-false false b h = refl

-- it is so for each front, too
still_mark : (c k : ℕ) (rest : List ℕ) → IsMark c rest → IsMark c (take k rest)
still_mark c zero rest m = record { space = m.space; word = m.word; number = rw (or-false (is_digit c) (nat_eq c 46 && begins_digit rest) m.number) (and-false (nat_eq c 46)); character = m.character; string = m.string; block = and-false (nat_eq 47 c); line = and-false (nat_eq 47 c) }
still_mark c (suc k) [] m = m
still_mark c (suc k) (d ∷ ds) m = record { space = m.space; word = m.word; number = m.number; character = m.character; string = m.string; block = m.block; line = m.line }

abbrev mark_else : ℕ → Option Piece → Option TokenKind → Option Piece
mark_else size shorter l = elim l as (λ _. Option Piece) [ Some kind ↦ Some (piece size (Mark kind)) | None ↦ shorter ]

abbrev shape_else : ℕ → Option Piece → Option Shape → Option Piece
shape_else size shorter s = elim s as (λ _. Option Piece) [ Some shape ↦ Some (piece size shape) | None ↦ shorter ]

mark_is_shape : (size : ℕ) (shorter : Option Piece) (l : Option TokenKind) → shape_else size shorter (option_map Mark l) ≡ mark_else size shorter l
mark_is_shape size shorter None = refl
mark_is_shape size shorter (Some kind) = refl

longest_one : (n : ℕ) (text : List ℕ) → longest 0 (suc n) text ≡ shape_else (suc n) (longest 0 n text) (shape_of (take (suc n) text))
unfolding longest
longest_one n text = let e : nat_lt 0 (suc n) ≡ true = le-leb 1 (suc n) (omega arith) in rw e

mark_longest : (n c : ℕ) (rest : List ℕ) → IsMark c rest → longest 0 (suc n) (c ∷ rest) ≡ mark_else (suc n) (longest 0 n (c ∷ rest)) (lookup punctuators (c ∷ take n rest))
mark_longest n c rest m =
    longest_one n (c ∷ rest) ∙ ap (shape_else (suc n) (longest 0 n (c ∷ rest))) (mark_shape_of c (take n rest) (still_mark c n rest m))
    ∙ mark_is_shape (suc n) (longest 0 n (c ∷ rest)) (lookup punctuators (c ∷ take n rest))

longest_skip : (n c : ℕ) (rest : List ℕ) → IsMark c rest → suc (suc n) ≤ length rest → longest 0 (suc (suc (suc n))) (c ∷ rest) ≡ longest 0 3 (c ∷ rest)
longest_skip zero c rest m within = refl
longest_skip (suc n) c rest m within =
    mark_longest (suc (suc (suc n))) c rest m
    ∙ ap (mark_else (suc (suc (suc (suc n)))) (longest 0 (suc (suc (suc n))) (c ∷ rest)))
    (lookup_long punctuators (c ∷ take (suc (suc (suc n))) rest) short_punctuators (let e = length-take-le (suc (suc (suc n))) rest within in omega arith))
    ∙ longest_skip n c rest m (omega arith)

mark_first : (c : ℕ) (rest : List ℕ) → IsMark c rest → longest_piece (c ∷ rest) ≡ longest 0 (suc (length rest)) (c ∷ rest)
unfolding longest_piece
mark_first c rest m = rw m.block

longest_zero : (text : List ℕ) → longest 0 0 text ≡ None
unfolding longest
longest_zero text = refl

abbrev at_size : List ℕ → ℕ → Option Piece → Option Piece
at_size text size shorter = mark_else size shorter (lookup punctuators (take size text))

longest_marks : (c : ℕ) (rest : List ℕ) → IsMark c rest → longest 0 3 (c ∷ rest) ≡ at_size (c ∷ rest) 3 (at_size (c ∷ rest) 2 (at_size (c ∷ rest) 1 None))
longest_marks c rest m =
    mark_longest 2 c rest m ∙ ap (at_size (c ∷ rest) 3) (mark_longest 1 c rest m ∙ ap (at_size (c ∷ rest) 2) (mark_longest 0 c rest m ∙ ap (at_size (c ∷ rest) 1) (longest_zero (c ∷ rest))))

mark_or_is : (size : ℕ) (shorter : Option Piece) (text : List ℕ) → size ≤ length text → mark_or size shorter text ≡ at_size text size shorter
mark_or_is size shorter text within = let e : nat_le size (length text) ≡ true = le-leb size (length text) within in rw e

pub mark_lem : (c : ℕ) (rest : List ℕ) → IsMark c rest → longest_piece (c ∷ rest) ≡ mark_front (c ∷ rest)
mark_lem c [] m = mark_first c [] m ∙ mark_longest 0 c [] m ∙ ap (at_size (c ∷ []) 1) (longest_zero (c ∷ []))
mark_lem c (d ∷ []) m =
    mark_first c (d ∷ []) m ∙ mark_longest 1 c (d ∷ []) m
    ∙ ap (at_size (c ∷ d ∷ []) 2) (mark_longest 0 c (d ∷ []) m ∙ ap (at_size (c ∷ d ∷ []) 1) (longest_zero (c ∷ d ∷ [])))
mark_lem c (d ∷ e ∷ es) m =
    let text = c ∷ d ∷ e ∷ es in
    mark_first c (d ∷ e ∷ es) m ∙ longest_skip (length es) c (d ∷ e ∷ es) m (omega arith) ∙ longest_marks c (d ∷ e ∷ es) m
    ∙ sym (mark_or_is 3 (mark_or 2 (mark_or 1 None text) text) text (omega arith)
    ∙ ap (at_size text 3) (mark_or_is 2 (mark_or 1 None text) text (omega arith) ∙ ap (at_size text 2) (mark_or_is 1 None text (omega arith))))

pub empty_lem : (text : List ℕ) → length text < 1 → longest_piece text ≡ None
unfolding longest_piece longest
empty_lem [] h = refl
empty_lem (c ∷ cs) h = absurd (omega arith)
