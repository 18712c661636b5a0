-- The lines of a struct, one by one.
use Rattle.std.proofs.Common.{◌≡◌, ℕ, ◌+◌, ◌-◌, ◌<◌, ◌≤◌, List, [], ◌∷◌, ◌++◌, refl, sym, ◌∙◌, ap, arith}
use Rattle.c_tokens.specs.declared.token.TokenKind.{TokenKind}
use Rattle.c_tree.specs.declared.expression.MemberLine.{MemberLine}
use Rattle.c_tree.specs.Places.{Place, next}
use Rattle.c_cursor.specs.declared.marks.Mark.TheVariants as mark
use Rattle.c_cursor.specs.Bare.{bare}
use Rattle.c_specifiers.specs.Members.{members_at, line_members, member_line}
use Rattle.c_grammar.specs.Marks as spec
use Rattle.c_grammar.specs.Marks.{Mark, mark_at}
use Rattle.c_grammar.specs.ReadExpressions.{Outcome, Gives, Refuses, and_then}
use Rattle.c_grammar.specs.ReadTypes.{Specified, Specifies, ListOf, where_semicolon, line_after, lines_by, lines}
use Rattle.c_grammar.specs.Readers.{specifiers}
use Rattle.c_cursor.proofs.Lists.{after, append_none, joined, one_further, then_both}
use Rattle.c_cursor.proofs.Skipped.{semicolon_both}

-- this many more lines
abbrev pub further_lines : List TokenKind → ℕ → ℕ → Place → Outcome (List MemberLine)
further_lines kinds d n p = lines kinds (specifiers kinds d) (members_at kinds d) n p

abbrev pub before_lines : ListOf MemberLine → MemberLine → Place → Outcome (List MemberLine)
before_lines more line q = and_then (more q) (λ xs r. Gives (line ∷ xs) r)

line_on : (kinds : List TokenKind) (d : ℕ) (more : ListOf MemberLine) (s : Specified) (q : Place) → line_after kinds (members_at kinds d) more s q ≡ and_then (line_members kinds d s q) (before_lines more)
line_on kinds d more (Specifies defines list) q =
    then_both (members_at kinds d q)
    (λ xs r. where_semicolon (mark_at kinds r) (and_then (more (next r)) (λ lines s. Gives (record { specifiers = list; members = xs } ∷ lines) s)))
    (λ xs r. where_semicolon (mark_at kinds r) (Gives (record { specifiers = list; members = xs }) (next r))) (before_lines more)
    (λ xs r. semicolon_both (mark_at kinds r) (and_then (more (next r)) (λ lines s. Gives (record { specifiers = list; members = xs } ∷ lines) s))
    (Gives (record { specifiers = list; members = xs }) (next r)) (before_lines more) refl)

lines_step : (kinds : List TokenKind) (d n i : ℕ) (p : Place) → i < n
    → further_lines kinds d (n - i) p ≡ lines_by kinds (specifiers kinds d) (members_at kinds d) (further_lines kinds d (n - (i + 1))) p (mark_at kinds p)
unfolding lines
lines_step kinds d n i p h = ap (λ m. further_lines kinds d m p) (one_further n i h)

lines_close : (kinds : List TokenKind) (d : ℕ) (more : ListOf MemberLine) (p : Place) (m : Mark) → bare m ≡ mark.CurlyCloses
    → lines_by kinds (specifiers kinds d) (members_at kinds d) more p m ≡ Gives [] p
lines_close kinds d more p spec.CurlyCloses e = refl
lines_close kinds d more p _ e = cc

line_taken : (kinds : List TokenKind) (d : ℕ) (more : ListOf MemberLine) (p : Place)
    → and_then (specifiers kinds d p) (line_after kinds (members_at kinds d) more) ≡ and_then (member_line kinds d p) (before_lines more)
line_taken kinds d more p = then_both (specifiers kinds d p) (line_after kinds (members_at kinds d) more) (line_members kinds d) (before_lines more) (line_on kinds d more)

lines_go : (kinds : List TokenKind) (d : ℕ) (more : ListOf MemberLine) (p : Place) (m : Mark) → (bare m ≡ mark.CurlyCloses → ⊥)
    → lines_by kinds (specifiers kinds d) (members_at kinds d) more p m ≡ and_then (member_line kinds d p) (before_lines more)
lines_go kinds d more p spec.CurlyCloses f = absurd (f refl)
lines_go kinds d more p _ f = line_taken kinds d more p

lines_behind : (kinds : List TokenKind) (d n i : ℕ) (p : Place) → i < n → (bare (mark_at kinds p) ≡ mark.CurlyCloses → ⊥)
    → further_lines kinds d (n - i) p ≡ and_then (member_line kinds d p) (before_lines (further_lines kinds d (n - (i + 1))))
lines_behind kinds d n i p h f = lines_step kinds d n i p h ∙ lines_go kinds d (further_lines kinds d (n - (i + 1))) p (mark_at kinds p) f

pub lines_end : (kinds : List TokenKind) (d n i : ℕ) (whole : Outcome (List MemberLine)) (p : Place) (found : List MemberLine)
    → whole ≡ after found (further_lines kinds d (n - i) p) → i < n → bare (mark_at kinds p) ≡ mark.CurlyCloses → whole ≡ Gives found p
lines_end kinds d n i whole p found w h e =
    w ∙ (ap (after found) (lines_step kinds d n i p h ∙ lines_close kinds d (further_lines kinds d (n - (i + 1))) p (mark_at kinds p) e) ∙ ap (λ xs. Gives xs p) (append_none found))

pub lines_refused : (kinds : List TokenKind) (d n i : ℕ) (p : Place) (found : List MemberLine) → i < n → (bare (mark_at kinds p) ≡ mark.CurlyCloses → ⊥) → member_line kinds d p ≡ Refuses
    → after found (further_lines kinds d (n - i) p) ≡ Refuses
lines_refused kinds d n i p found h f e =
    ap (after found) (lines_behind kinds d n i p h f ∙ ap (λ o. and_then o (before_lines (further_lines kinds d (n - (i + 1))))) e)

pub lines_next : (kinds : List TokenKind) (d n i : ℕ) (whole : Outcome (List MemberLine)) (p q : Place) (found further : List MemberLine) (x : MemberLine)
    → whole ≡ after found (further_lines kinds d (n - i) p) → i < n → (bare (mark_at kinds p) ≡ mark.CurlyCloses → ⊥) → member_line kinds d p ≡ Gives x q → further ≡ found ++ x ∷ []
    → whole ≡ after further (further_lines kinds d (n - (i + 1)) q)
lines_next kinds d n i whole p q found further x w h f e g =
    let more = further_lines kinds d (n - (i + 1)) in
    w ∙ (ap (after found) (lines_behind kinds d n i p h f ∙ ap (λ o. and_then o (before_lines more)) e) ∙ (joined found x (more q) ∙ ap (λ xs. after xs (more q)) (sym g)))

pub lines_none : (kinds : List TokenKind) (d n i : ℕ) (p : Place) (found : List MemberLine) → n ≤ i → after found (further_lines kinds d (n - i) p) ≡ Refuses
unfolding lines
lines_none kinds d n i p found h =
    let none : n - i ≡ 0 = omega arith in
    ap (λ m. after found (further_lines kinds d m p)) none
