-- Specifiers, part by part.
use Rattle.std.proofs.Common.{◌≡◌, ℕ, ◌+◌, ◌-◌, ◌<◌, ◌≤◌, Bool, true, false, List, [], ◌∷◌, ◌++◌, Option, Some, None, Result, refl, sym, subst, ◌∙◌, ap, append_assoc, arith}
use Rattle.c_tokens.specs.declared.token.TokenKind.{TokenKind}
use Rattle.c_tokens.specs.declared.token.TokenKind.TheVariants as token
use Rattle.c_tree.specs.declared.expression.Specifier.{Specifier}
use Rattle.c_tree.specs.declared.expression.Specifier.TheVariants as specifier_node
use Rattle.c_tree.specs.Places.{Place, next}
use Rattle.c_tree.specs.Spells.{Role, Defines, Types, Modifies, types_now, defines_now}
use Rattle.c_cursor.specs.declared.fault.Fault.{Fault}
use Rattle.c_cursor.specs.declared.marks.Mark.TheVariants as mark
use Rattle.c_cursor.specs.Bare.{bare}
use Rattle.c_cursor.specs.Reads.{ReadsAs, name_read}
use Rattle.c_cursor.specs.Parts.{lines_at, constants_at}
use Rattle.c_specifiers.specs.Specifiers.{structure, enumeration, at_number, word_specifier, specifier_at, decorated_specifier, further_at}
use Rattle.c_grammar.specs.Kinds.{kind_at, start, is_start, begins_type}
use Rattle.c_grammar.specs.Marks as spec
use Rattle.c_grammar.specs.Marks.{Mark, mark_of, mark_at}
use Rattle.c_grammar.specs.ReadExpressions.{Outcome, Gives, Refuses, and_then}
use Rattle.c_grammar.specs.ReadTypes as types
use Rattle.c_grammar.specs.ReadTypes.{Specific, Plays, Specified, Specifies, Titled, Titles, Skips, ReadsSpecifiers, attributes, is_further, goes_further, joined, further_by, further_after, further}
use Rattle.c_cursor.proofs.Lists.{one_further}
use Rattle.c_cursor.proofs.Lists.{then_both}
use Rattle.c_cursor.proofs.Single.{name_of, name_marked}

-- ---- what reads one outcome reads an equal one

pub reads_as_along : {A B : Type 0} (view : B → A) (whole o : Outcome A) (r : Result B Fault) (s : Place) → whole ≡ o → ReadsAs view o r s → ReadsAs view whole r s
reads_as_along view whole o r s e k = subst (λ t. ReadsAs view t r s) (sym e) k

-- ---- structs and enumerations

struct_names : (kinds : List TokenKind) (n : ℕ) (p : Place) (m : Mark) → (bare m ≡ mark.CurlyOpens → ⊥)
    → types.struct_by kinds (lines_at kinds n) p m ≡ and_then (name_of (next p) m) (λ tag q. types.struct_tagged kinds (lines_at kinds n) (at_number p.at) tag q (mark_at kinds q))
struct_names kinds n p spec.CurlyOpens f = absurd (f refl)
struct_names kinds n p (spec.Name tag) f = refl
struct_names kinds n p _ f = refl

tagged_alone : (kinds : List TokenKind) (n at : ℕ) (tag : List ℕ) (p : Place) (m : Mark) → (bare m ≡ mark.CurlyOpens → ⊥)
    → types.struct_tagged kinds (lines_at kinds n) (at_number at) tag p m ≡ Gives (Plays Types (specifier_node.StructTag tag at)) p
tagged_alone kinds n at tag p spec.CurlyOpens f = absurd (f refl)
tagged_alone kinds n at tag p _ f = refl

pub struct_named : (kinds : List TokenKind) (n at : ℕ) (p q : Place) → at ≡ p.at → q ≡ next p → (bare (mark_at kinds q) ≡ mark.CurlyOpens → ⊥)
    → structure kinds n p ≡ and_then (name_read kinds q) (λ tag r. types.struct_tagged kinds (lines_at kinds n) (at_number at) tag r (mark_at kinds r))
struct_named kinds n at p q a e h =
    struct_names kinds n p (mark_at kinds (next p)) (λ f. h (ap (λ t. bare (mark_at kinds t)) e ∙ f))
    ∙ (ap (λ t. and_then (name_of (next p) (mark_at kinds (next p))) (λ tag r. types.struct_tagged kinds (lines_at kinds n) (at_number t) tag r (mark_at kinds r))) (sym a)
    ∙ (ap (λ t. and_then (name_of t (mark_at kinds t)) (λ tag r. types.struct_tagged kinds (lines_at kinds n) (at_number at) tag r (mark_at kinds r))) (sym e)
    ∙ ap (λ o. and_then o (λ tag r. types.struct_tagged kinds (lines_at kinds n) (at_number at) tag r (mark_at kinds r))) (sym (name_marked kinds q))))

pub struct_tag_alone : (kinds : List TokenKind) (n at : ℕ) (tag : List ℕ) (p : Place) → (bare (mark_at kinds p) ≡ mark.CurlyOpens → ⊥)
    → types.struct_tagged kinds (lines_at kinds n) (at_number at) tag p (mark_at kinds p) ≡ Gives (Plays Types (specifier_node.StructTag tag at)) p
struct_tag_alone kinds n at tag p f = tagged_alone kinds n at tag p (mark_at kinds p) f

enum_names : (kinds : List TokenKind) (n : ℕ) (p : Place) (m : Mark) → (bare m ≡ mark.CurlyOpens → ⊥)
    → types.enum_by kinds (constants_at kinds n) p m ≡ and_then (name_of (next p) m) (λ tag q. types.enum_tagged kinds (constants_at kinds n) (at_number p.at) tag q (mark_at kinds q))
enum_names kinds n p spec.CurlyOpens f = absurd (f refl)
enum_names kinds n p (spec.Name tag) f = refl
enum_names kinds n p _ f = refl

enum_tagged_alone : (kinds : List TokenKind) (n at : ℕ) (tag : List ℕ) (p : Place) (m : Mark) → (bare m ≡ mark.CurlyOpens → ⊥)
    → types.enum_tagged kinds (constants_at kinds n) (at_number at) tag p m ≡ Gives (Plays Types (specifier_node.EnumTag tag at)) p
enum_tagged_alone kinds n at tag p spec.CurlyOpens f = absurd (f refl)
enum_tagged_alone kinds n at tag p _ f = refl

pub enum_named : (kinds : List TokenKind) (n at : ℕ) (p q : Place) → at ≡ p.at → q ≡ next p → (bare (mark_at kinds q) ≡ mark.CurlyOpens → ⊥)
    → enumeration kinds n p ≡ and_then (name_read kinds q) (λ tag r. types.enum_tagged kinds (constants_at kinds n) (at_number at) tag r (mark_at kinds r))
enum_named kinds n at p q a e h =
    enum_names kinds n p (mark_at kinds (next p)) (λ f. h (ap (λ t. bare (mark_at kinds t)) e ∙ f))
    ∙ (ap (λ t. and_then (name_of (next p) (mark_at kinds (next p))) (λ tag r. types.enum_tagged kinds (constants_at kinds n) (at_number t) tag r (mark_at kinds r))) (sym a)
    ∙ (ap (λ t. and_then (name_of t (mark_at kinds t)) (λ tag r. types.enum_tagged kinds (constants_at kinds n) (at_number at) tag r (mark_at kinds r))) (sym e)
    ∙ ap (λ o. and_then o (λ tag r. types.enum_tagged kinds (constants_at kinds n) (at_number at) tag r (mark_at kinds r))) (sym (name_marked kinds q))))

pub enum_tag_alone : (kinds : List TokenKind) (n at : ℕ) (tag : List ℕ) (p : Place) → (bare (mark_at kinds p) ≡ mark.CurlyOpens → ⊥)
    → types.enum_tagged kinds (constants_at kinds n) (at_number at) tag p (mark_at kinds p) ≡ Gives (Plays Types (specifier_node.EnumTag tag at)) p
enum_tag_alone kinds n at tag p f = enum_tagged_alone kinds n at tag p (mark_at kinds p) f

-- ---- a specifier

word_by : (kinds : List TokenKind) (n : ℕ) (typed : Bool) (p : Place) (m : Mark) → (bare m ≡ mark.Structs → ⊥) → (bare m ≡ mark.Enums → ⊥) → (bare m ≡ mark.Name → ⊥)
    → types.specifier_by kinds (lines_at kinds n) (constants_at kinds n) typed p m ≡ word_specifier (bare m) p
word_by kinds n typed p spec.Structs f g h = absurd (f refl)
word_by kinds n typed p spec.Enums f g h = absurd (g refl)
word_by kinds n typed p (spec.Name text) f g h = absurd (h refl)
word_by kinds n typed p _ f g h = refl

pub specifier_word : (kinds : List TokenKind) (n : ℕ) (typed : Bool) (p : Place) → (bare (mark_at kinds p) ≡ mark.Structs → ⊥) → (bare (mark_at kinds p) ≡ mark.Enums → ⊥)
    → (bare (mark_at kinds p) ≡ mark.Name → ⊥) → specifier_at kinds n typed p ≡ word_specifier (bare (mark_at kinds p)) p
specifier_word kinds n typed p f g h = word_by kinds n typed p (mark_at kinds p) f g h

-- ---- whether a further one may begin

kind_other : (kind : TokenKind) (p : Place) → (bare (mark_of kind) ≡ mark.Name → ⊥) → is_further true p (start (Some kind)) ≡ is_start p (start (Some kind))
kind_other (token.Name text) p f = absurd (f refl)
kind_other _ p f = refl

token_other : (kind : Option TokenKind) (p : Place) → (bare (spec.mark kind) ≡ mark.Name → ⊥) → is_further true p (start kind) ≡ is_start p (start kind)
token_other (Some kind) p f = kind_other kind p f
token_other None p f = refl

pub goes_other : (kinds : List TokenKind) (typed : Bool) (p : Place) → typed ≡ true → (bare (mark_at kinds p) ≡ mark.Name → ⊥) → goes_further kinds typed p ≡ begins_type kinds p
goes_other kinds typed p e f = ap (λ b. goes_further kinds b p) e ∙ token_other (kind_at kinds p) p f

-- ---- further specifiers

abbrev pub either : Bool → Bool → Bool
either true b = true
either false b = b

-- what specifiers are with these before them
abbrev pub specified_after : List Specifier → Bool → Outcome Specified → Outcome Specified
specified_after found defines (Gives (Specifies further list) q) = Gives (Specifies (either defines further) (found ++ list)) q
specified_after found defines Refuses = Refuses

either_now : (role : Role) (defines further : Bool) → either defines (defines_now role further) ≡ either (defines_now role defines) further
either_now Defines true further = refl
either_now Defines false further = refl
either_now Types defines further = refl
either_now Modifies defines further = refl

either_last : (role : Role) (defines : Bool) → either defines (defines_now role false) ≡ defines_now role defines
either_last Defines true = refl
either_last Defines false = refl
either_last Types true = refl
either_last Types false = refl
either_last Modifies true = refl
either_last Modifies false = refl

specified_joined : (found : List Specifier) (defines : Bool) (role : Role) (x : Specifier) (o : Outcome Specified)
    → specified_after found defines (and_then o (joined role x)) ≡ specified_after (found ++ x ∷ []) (defines_now role defines) o
specified_joined found defines role x (Gives (Specifies further list) q) =
    ap (λ b. Gives (Specifies b (found ++ x ∷ list)) q) (either_now role defines further)
    ∙ ap (λ ys. Gives (Specifies (either (defines_now role defines) further) ys) q) (sym (append_assoc found (x ∷ []) list))
specified_joined found defines role x Refuses = refl

-- after a specifier and what has no meaning
behind : List TokenKind → (Bool → ReadsSpecifiers) → Bool → Specific → Place → Outcome Specified
behind kinds more typed (Plays role x) q = further_by more (types_now typed role) role x q (goes_further kinds (types_now typed role) q)

after_on : (kinds : List TokenKind) (skip : Skips) (more : Bool → ReadsSpecifiers) (typed : Bool) (s : Specific) (q : Place)
    → further_after kinds skip more typed s q ≡ and_then (and_then (skip q) (λ u r. Gives s r)) (behind kinds more typed)
unfolding behind
after_on kinds skip more typed (Plays role x) q =
    then_both (skip q) (λ u r. further_by more (types_now typed role) role x r (goes_further kinds (types_now typed role) r)) (λ u r. Gives (Plays role x) r) (behind kinds more typed) (λ u r. refl)

further_step : (kinds : List TokenKind) (d n i l : ℕ) (typed : Bool) (p : Place) → i < n → l ≡ n - i - 1
    → further_at kinds d (n - i) typed p ≡ and_then (decorated_specifier kinds d l typed p) (behind kinds (further_at kinds d (n - (i + 1))) typed)
unfolding further
further_step kinds d n i l typed p h k =
    let fewer : n - (i + 1) ≡ l = omega arith in
    ap (λ m. further_at kinds d m typed p) (one_further n i h)
    ∙ (then_both (specifier_at kinds d typed p) (further_after kinds (attributes kinds (n - (i + 1))) (further_at kinds d (n - (i + 1))) typed)
    (λ s q. and_then (attributes kinds (n - (i + 1)) q) (λ u r. Gives s r)) (behind kinds (further_at kinds d (n - (i + 1))) typed)
    (λ s q. after_on kinds (attributes kinds (n - (i + 1))) (further_at kinds d (n - (i + 1))) typed s q)
    ∙ ap (λ m. and_then (decorated_specifier kinds d m typed p) (behind kinds (further_at kinds d (n - (i + 1))) typed)) fewer)

further_behind : (kinds : List TokenKind) (d n i l : ℕ) (typed goes : Bool) (p q : Place) (role : Role) (x : Specifier) → i < n → l ≡ n - i - 1
    → decorated_specifier kinds d l typed p ≡ Gives (Plays role x) q → goes_further kinds (types_now typed role) q ≡ goes
    → further_at kinds d (n - i) typed p ≡ further_by (further_at kinds d (n - (i + 1))) (types_now typed role) role x q goes
unfolding behind
further_behind kinds d n i l typed goes p q role x h k e g =
    further_step kinds d n i l typed p h k ∙ (ap (λ o. and_then o (behind kinds (further_at kinds d (n - (i + 1))) typed)) e
    ∙ ap (further_by (further_at kinds d (n - (i + 1))) (types_now typed role) role x q) g)

pub further_refused : (kinds : List TokenKind) (d n i l : ℕ) (typed defines : Bool) (p : Place) (found : List Specifier) → i < n → l ≡ n - i - 1
    → decorated_specifier kinds d l typed p ≡ Refuses → specified_after found defines (further_at kinds d (n - i) typed p) ≡ Refuses
further_refused kinds d n i l typed defines p found h k e =
    ap (specified_after found defines) (further_step kinds d n i l typed p h k ∙ ap (λ o. and_then o (behind kinds (further_at kinds d (n - (i + 1))) typed)) e)

pub further_none : (kinds : List TokenKind) (d n i : ℕ) (typed defines : Bool) (p : Place) (found : List Specifier) → n ≤ i
    → specified_after found defines (further_at kinds d (n - i) typed p) ≡ Refuses
unfolding further
further_none kinds d n i typed defines p found h =
    let none : n - i ≡ 0 = omega arith in
    ap (λ m. specified_after found defines (further_at kinds d m typed p)) none

pub further_last : (kinds : List TokenKind) (d n i l : ℕ) (whole : Outcome Specified) (typed typed_now defines defines_then : Bool) (p q : Place) (found further : List Specifier) (role : Role) (x : Specifier)
    → whole ≡ specified_after found defines (further_at kinds d (n - i) typed p) → i < n → l ≡ n - i - 1 → decorated_specifier kinds d l typed p ≡ Gives (Plays role x) q
    → further ≡ found ++ x ∷ [] → defines_then ≡ defines_now role defines → typed_now ≡ types_now typed role → goes_further kinds typed_now q ≡ false
    → whole ≡ Gives (Specifies defines_then further) q
further_last kinds d n i l whole typed typed_now defines defines_then p q found further role x w h k e g a b f =
    let stops : goes_further kinds (types_now typed role) q ≡ false = ap (λ t. goes_further kinds t q) (sym b) ∙ f in
    w ∙ (ap (specified_after found defines) (further_behind kinds d n i l typed false p q role x h k e stops)
    ∙ (ap (λ t. Gives (Specifies t (found ++ x ∷ [])) q) (either_last role defines ∙ sym a) ∙ ap (λ xs. Gives (Specifies defines_then xs) q) (sym g)))

pub further_next : (kinds : List TokenKind) (d n i l : ℕ) (whole : Outcome Specified) (typed typed_now defines defines_then : Bool) (p q : Place) (found further : List Specifier) (role : Role) (x : Specifier)
    → whole ≡ specified_after found defines (further_at kinds d (n - i) typed p) → i < n → l ≡ n - i - 1 → decorated_specifier kinds d l typed p ≡ Gives (Plays role x) q
    → further ≡ found ++ x ∷ [] → defines_then ≡ defines_now role defines → typed_now ≡ types_now typed role → goes_further kinds typed_now q ≡ true
    → whole ≡ specified_after further defines_then (further_at kinds d (n - (i + 1)) typed_now q)
further_next kinds d n i l whole typed typed_now defines defines_then p q found further role x w h k e g a b f =
    let goes : goes_further kinds (types_now typed role) q ≡ true = ap (λ t. goes_further kinds t q) (sym b) ∙ f in
    let rest = further_at kinds d (n - (i + 1)) in
    w ∙ (ap (specified_after found defines) (further_behind kinds d n i l typed true p q role x h k e goes)
    ∙ (specified_joined found defines role x (rest (types_now typed role) q)
    ∙ (ap (λ xs. specified_after xs (defines_now role defines) (rest (types_now typed role) q)) (sym g)
    ∙ (ap (λ t. specified_after further t (rest (types_now typed role) q)) (sym a) ∙ ap (λ t. specified_after further defines_then (rest t q)) (sym b)))))
