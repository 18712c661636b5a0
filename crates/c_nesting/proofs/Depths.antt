-- How deep a text is nested, one token further.
use Rattle.std.proofs.Common.{◌≡◌, ℕ, suc, ◌+◌, ◌<◌, ◌≤◌, List, [], ◌∷◌, length, Option, Some, refl, ap, ◌∙◌, sym, subst, arith, add-one, inl, inr}
use Rattle.std.specs.Prelude.{slice_get, ◌⊎◌}
use Rattle.std.specs.Prelude.{option_map}
use Rattle.std.proofs.lemmas.Option.{slice_get-map}
use Rattle.std.proofs.lemmas.List.{length-map}
use Rattle.std.proofs.lemmas.Bool.{cases_lt}
use Rattle.c_tokens.specs.declared.token.TokenKind.{TokenKind}
use Rattle.c_tokens.specs.declared.token.Token.{Token}
use Rattle.c_tree.specs.Nesting.{counts_after, counts_on, counts_then, measure, depth_after}
use Rattle.c_tree.specs.SpellsText.{kinds_of}

counts_after-zero : (kinds : List TokenKind) → counts_after kinds 0 ≡ 0 ∷ []
unfolding counts_after
counts_after-zero kinds = refl

counts_after-suc : (kinds : List TokenKind) (n : ℕ) → counts_after kinds (suc n) ≡ counts_on (slice_get kinds n) (slice_get kinds (n + 1)) (counts_after kinds n)
unfolding counts_after
counts_after-suc kinds n = refl

counts_after-one : (kinds : List TokenKind) (n : ℕ) → counts_after kinds (n + 1) ≡ counts_on (slice_get kinds n) (slice_get kinds (n + 1)) (counts_after kinds n)
counts_after-one kinds n = ap (counts_after kinds) (add-one n) ∙ counts_after-suc kinds n

-- the counts that follow, in the code's terms
pub counts_go_on : (tokens : List Token) (i : ℕ) (token : Token) (after : Option TokenKind) (counts later : List ℕ) → slice_get tokens i ≡ Some token
    → after ≡ slice_get (kinds_of tokens) (i + 1) → counts ≡ counts_after (kinds_of tokens) i → later ≡ counts_then token.kind after counts
    → later ≡ counts_after (kinds_of tokens) (i + 1)
counts_go_on tokens i token after counts later e f g h =
    let here : slice_get (kinds_of tokens) i ≡ Some token.kind = slice_get-map (λ t. t.kind) tokens i ∙ ap (option_map (λ t. t.kind)) e in
    h ∙ ap (λ a. counts_then token.kind a counts) f ∙ ap (λ cs. counts_then token.kind (slice_get (kinds_of tokens) (i + 1)) cs) g
    ∙ sym (counts_after-one (kinds_of tokens) i ∙ ap (λ k. counts_on k (slice_get (kinds_of tokens) (i + 1)) (counts_after (kinds_of tokens) i)) here)

measure_empty : measure (0 ∷ []) ≡ 1
measure_empty = refl

begins_within : (kinds : List TokenKind) (n : ℕ) → n ≡ 0 → depth_after kinds n ≤ 500
begins_within kinds n e =
    let d : depth_after kinds n ≡ 1 = ap (depth_after kinds) e ∙ ap measure (counts_after-zero kinds) ∙ measure_empty in
    omega (arith, d)

pub begins : (kinds : List TokenKind) (below : List ℕ) → below ≡ []
    → (1 ≡ measure (0 ∷ below)) × (0 ∷ below ≡ counts_after kinds 0) × ((n : ℕ) → n ≤ 0 → depth_after kinds n ≤ 500)
begins kinds below e = (
  sym (ap (λ b. measure (0 ∷ b)) e ∙ measure_empty),
  ap (λ b. 0 ∷ b) e ∙ sym (counts_after-zero kinds),
  λ n h. begins_within kinds n (omega arith),
)

within_by : (depth : ℕ → ℕ) (limit i : ℕ) → ((n : ℕ) → n ≤ i → depth n ≤ limit) → depth (i + 1) ≤ limit → (n : ℕ) → n ≤ i + 1 → ((i < n) ⊎ (n ≤ i)) → depth n ≤ limit
within_by depth limit i h last n le (inl above) = let e : i + 1 ≡ n = omega arith in subst (λ m. depth m ≤ limit) e last
within_by depth limit i h last n le (inr below) = h n below

-- one further number is within the limit
pub within_on : (depth : ℕ → ℕ) (limit i : ℕ) → ((n : ℕ) → n ≤ i → depth n ≤ limit) → depth (i + 1) ≤ limit → (n : ℕ) → n ≤ i + 1 → depth n ≤ limit
within_on depth limit i h last n le = within_by depth limit i h last n le (cases_lt i n)

pub length-kinds_of : (tokens : List Token) → length (kinds_of tokens) ≡ length tokens
length-kinds_of tokens = length-map tokens (λ t. t.kind)
