-- How deep the tokens of a text are nested, and which tokens are left out.
use Rattle.std.specs.Prelude.{ℕ, zero, suc, ◌+◌, ◌<◌, ◌≤◌, Bool, List, [], ◌∷◌, length, sum, Option, Some, None, slice_get}
use Rattle.std.specs.Option.{is_some}
use Rattle.c_tokens.specs.Words.{left_out_text}
use Rattle.c_tokens.specs.declared.token.TokenKind.{TokenKind}
use Rattle.c_tokens.specs.declared.token.TokenKind.TheVariants as token

-- ---- counts, the newest first

-- the newest count becomes one more
abbrev pub raise : List ℕ → List ℕ
raise [] = []
raise (top ∷ below) = (top + 1) ∷ below

abbrev pub restart : ℕ → List ℕ → List ℕ
restart n [] = []
restart n (top ∷ below) = n ∷ below

-- the newest count goes, unless it is the only one
abbrev pub close : List ℕ → List ℕ
close [] = []
close (top ∷ []) = top ∷ []
close (top ∷ (second ∷ below)) = second ∷ below

-- what ends an item: the next one begins, unless `else` goes on
abbrev pub end_item : Option TokenKind → List ℕ → List ℕ
end_item (Some token.Else) counts = counts
end_item _ counts = restart 0 counts

-- `else if` goes on with a chain
abbrev pub go_on : Option TokenKind → List ℕ → List ℕ
go_on (Some token.If) counts = restart 1 counts
go_on _ counts = raise counts

-- the counts after a token, by the token after it
abbrev pub counts_then : TokenKind → Option TokenKind → List ℕ → List ℕ
counts_then token.LeftParenthesis after counts = 0 ∷ counts
counts_then token.LeftBracket after counts = 0 ∷ counts
counts_then token.LeftBrace after counts = 0 ∷ counts
counts_then token.RightParenthesis after counts = raise (close counts)
counts_then token.RightBracket after counts = raise (close counts)
counts_then token.RightBrace after counts = end_item after (raise (close counts))
counts_then token.Semicolon after counts = end_item after counts
counts_then token.Comma after counts = restart 0 counts
counts_then token.Else after counts = go_on after counts
counts_then _ after counts = raise counts

abbrev pub counts_on : Option TokenKind → Option TokenKind → List ℕ → List ℕ
counts_on None after counts = counts
counts_on (Some kind) after counts = counts_then kind after counts

-- the counts after the first n tokens
unfoldable pub counts_after : List TokenKind → ℕ → List ℕ
counts_after kinds zero = 0 ∷ []
counts_after kinds (suc n) = counts_on (slice_get kinds n) (slice_get kinds (n + 1)) (counts_after kinds n)

-- the sum of the counts, plus their number
abbrev pub measure : List ℕ → ℕ
measure counts = sum counts + length counts

-- how deep the text is nested after its first n tokens
abbrev pub depth_after : List TokenKind → ℕ → ℕ
depth_after kinds n = measure (counts_after kinds n)

-- the number of the first token after which the text is nested deeper than this; none where there is no such token
abbrev pub IsFirstDeeper : ℕ → List TokenKind → Option ℕ → Type 0
IsFirstDeeper limit kinds (Some i) = (i < length kinds) × (limit < depth_after kinds (i + 1)) × ((n : ℕ) → n ≤ i → depth_after kinds n ≤ limit)
IsFirstDeeper limit kinds None = (n : ℕ) → n ≤ length kinds → depth_after kinds n ≤ limit

-- ---- what is left out

abbrev pub is_left_out : TokenKind → Bool
is_left_out kind = is_some (left_out_text kind)
