-- What the reader of types and declarators reads is spelled by the tokens.
use Rattle.std.proofs.Common.{◌≡◌, ℕ, zero, suc, List, [], ◌∷◌, Option, Some, None, Bool, true, false, refl, ap, ◌∙◌, sym, arith}
use Rattle.c_tokens.specs.declared.token.TokenKind.{TokenKind}
use Rattle.c_tokens.specs.declared.token.TokenKind.TheVariants as token
use Rattle.c_tree.specs.declared.expression.Qualifier.{Qualifier}
use Rattle.c_tree.specs.declared.expression.Specifier.{Specifier}
use Rattle.c_tree.specs.declared.expression.Specifier.TheVariants as specifier_node
use Rattle.c_tree.specs.declared.expression.MemberLine.{MemberLine}
use Rattle.c_tree.specs.declared.expression.Member.{Member}
use Rattle.c_tree.specs.declared.expression.Member.TheVariants as member_node
use Rattle.c_tree.specs.declared.expression.EnumConstant.{EnumConstant}
use Rattle.c_tree.specs.declared.expression.EnumConstant.TheVariants as constant_node
use Rattle.c_tree.specs.Places.{Place, At, next, names_type, declare}
use Rattle.c_tree.specs.Signs.{Bracket, opening, closing, is_bracket}
use Rattle.c_tree.specs.Spells as grammar
use Rattle.c_tree.specs.Spells.{IsExpression, IsBalanced, AreAttributes, AreQualifiers, AreSpecifiers, AreFurther, IsSpecifier, IsTag, EndsSpecifiers, AreMemberLines, AreMembers, IsMember, AreEnumConstants, IsEnumConstant, IsDecorated, IsDeclarator, IsDirect, AreParameters, IsParameter, IsUnnamed, AreArrays, IsTypeName, Role, Types, Modifies, storage_role, types_now, defines_now, nearest, InParameter, InTypeName, may_all_qualify}
use Rattle.c_grammar.specs.Kinds.{kind_at, start}
use Rattle.c_grammar.specs.Marks as sign
use Rattle.c_grammar.specs.Marks.{Bracketing, Opens, Closes, NoBracket, NoToken, bracketing, same_bracket, Mark, NoMark, mark, mark_at}
use Rattle.c_grammar.specs.ReadExpressions.{Outcome, Gives, ReadsExpression}
use Rattle.c_grammar.specs.ReadTypes as read
use Rattle.c_grammar.specs.ReadTypes.{where_opens, where_closes, where_square_closes, where_curly_closes, where_semicolon, Skips, balanced, balanced_by, attributes, attributes_by, ListOf, separated, separated_after, listed, listed_after, listed_comma, Specific, Plays, Specified, Specifies, Titled, Titles, ReadsSpecifiers, ReadsDeclarator, qualifiers, qualifiers_by, Takes, Taken, Perhaps, With, Without, Suffixes, ReadsPerhaps}
use Rattle.c_grammar_laws.proofs.MarkLaws.{Bracketed, bracketed, same_bracket_means}
use Rattle.c_grammar_laws.proofs.TypeSteps.{balanced_none, balanced_on, attributes_none, attributes_on, separated_none, separated_on, listed_none, listed_on, qualifiers_none, qualifiers_on, lines_none, lines_on, further_none, further_on}
use Rattle.c_grammar_laws.proofs.Steps.{then_gives, gives_as, if_gives}
use Rattle.c_grammar_laws.proofs.Sound.{IsSoundReader}
use Rattle.c_grammar_laws.proofs.Marked.{opens_gives, closes_gives, curly_closes_gives, semicolon_gives, says}

-- ---- what has no meaning

-- the open brackets close one after the other, and balanced tokens lead to q
abbrev Closed : List TokenKind → List Bracket → Place → Place → Type 0
Closed kinds [] p q = IsBalanced kinds p q
Closed kinds (innermost ∷ pending) p q = (r : Place) × IsBalanced kinds p r × At kinds r (closing innermost) × Closed kinds pending (next r) q

closed_token : (kinds : List TokenKind) (pending : List Bracket) (p q : Place) (kind : TokenKind) → At kinds p kind → is_bracket kind ≡ false → Closed kinds pending (next p) q
    → Closed kinds pending p q
closed_token kinds [] p q kind a b c = grammar.balanced_token p q kind a b c
closed_token kinds (innermost ∷ pending) p q kind a b c = (c.0, grammar.balanced_token p c.0 kind a b c.1, c.2, c.3)

closed_group : (kinds : List TokenKind) (pending : List Bracket) (p r q : Place) (bracket : Bracket) → At kinds p (opening bracket) → IsBalanced kinds (next p) r
    → At kinds r (closing bracket) → Closed kinds pending (next r) q → Closed kinds pending p q
closed_group kinds [] p r q bracket a d e c = grammar.balanced_group p r q bracket a d e c
closed_group kinds (innermost ∷ pending) p r q bracket a d e c = (c.0, grammar.balanced_group p r c.0 bracket a d e c.1, c.2, c.3)

abbrev Closes_all : List TokenKind → (List Bracket → Skips) → Type 0
Closes_all kinds go = (pending : List Bracket) (p : Place) (u : Unit {0}) (q : Place) → go pending p ≡ Gives u q → Closed kinds pending p q

balanced_by_sound : (kinds : List TokenKind) (go : List Bracket → Skips) → Closes_all kinds go → (pending : List Bracket) (p : Place) (u : Unit {0}) (q : Place) (b : Bracketing)
    → Bracketed (kind_at kinds p) b → balanced_by go pending p b ≡ Gives u q → Closed kinds pending p q
balanced_by_sound kinds go ig pending p u q (Opens bracket) a h = let c = ig (bracket ∷ pending) (next p) u q h in closed_group kinds pending p c.0 q bracket a c.1 c.2 c.3
balanced_by_sound kinds go ig [] p u q (Closes bracket) a h = gives_as (λ x v. IsBalanced kinds p v) tt u p q h (grammar.balanced_nothing p)
balanced_by_sound kinds go ig (innermost ∷ pending) p u q (Closes bracket) a h =
    let f = if_gives (same_bracket innermost bracket) _ u q h in
    let e = same_bracket_means innermost bracket f.0 in
    (p, grammar.balanced_nothing p, a ∙ ap (λ b. Some (closing b)) (sym e), ig pending (next p) u q f.1)
balanced_by_sound kinds go ig pending p u q NoBracket a h = closed_token kinds pending p q a.0 a.1 a.2 (ig pending (next p) u q h)
balanced_by_sound kinds go ig pending p u q NoToken a h = cc

balanced_sound : (kinds : List TokenKind) (n : ℕ) → Closes_all kinds (balanced kinds n)
balanced_sound kinds zero pending p u q h = let z = balanced_none kinds pending p in cc
balanced_sound kinds (suc n) pending p u q h =
    balanced_by_sound kinds (balanced kinds n) (balanced_sound kinds n) pending p u q (bracketing (kind_at kinds p)) (bracketed (kind_at kinds p)) (sym (balanced_on kinds n pending p) ∙ h)

abbrev pub IsSoundSkips : List TokenKind → Skips → Type 0
IsSoundSkips kinds skip = (p : Place) (u : Unit {0}) (q : Place) → skip p ≡ Gives u q → AreAttributes kinds p q

attributes_by_sound : (kinds : List TokenKind) (n : ℕ) (more : Skips) → IsSoundSkips kinds more → (p : Place) (u : Unit {0}) (r : Place) (m : Mark)
    → mark_at kinds p ≡ m → attributes_by kinds (balanced kinds n []) more p m ≡ Gives u r → AreAttributes kinds p r
attributes_by_sound kinds n more im p u r sign.Extension e h = grammar.extension p r (says kinds p sign.Extension e (λ z. cc)) (im (next p) u r h)
attributes_by_sound kinds n more im p u r sign.Attribute e h =
    let a = opens_gives (mark_at kinds (next p)) _ u r h in
    let b = opens_gives (mark_at kinds (next (next p))) _ u r a.1 in
    let t = then_gives (balanced kinds n [] (next (next (next p)))) _ u r b.1 in
    let c = closes_gives (mark_at kinds t.1) _ u r t.3 in
    let d = closes_gives (mark_at kinds (next t.1)) _ u r c.1 in
    grammar.attribute p t.1 r (says kinds p sign.Attribute e (λ z. cc)) (says kinds (next p) sign.RoundOpens a.0 (λ z. cc)) (says kinds (next (next p)) sign.RoundOpens b.0 (λ z. cc))
    (balanced_sound kinds n [] (next (next (next p))) t.0 t.1 t.2) (says kinds t.1 sign.RoundCloses c.0 (λ z. cc)) (says kinds (next t.1) sign.RoundCloses d.0 (λ z. cc))
    (im (next (next t.1)) u r d.1)
attributes_by_sound kinds n more im p u r _ e h = gives_as (λ x v. AreAttributes kinds p v) tt u p r h (grammar.no_attributes p)

pub attributes_sound : (kinds : List TokenKind) (n : ℕ) → IsSoundSkips kinds (attributes kinds n)
attributes_sound kinds zero p u q h = let z = attributes_none kinds p in cc
attributes_sound kinds (suc n) p u q h =
    attributes_by_sound kinds n (attributes kinds n) (attributes_sound kinds n) p u q (mark_at kinds p) refl (sym (attributes_on kinds n p) ∙ h)

-- ---- lists

abbrev pub IsSound : {A : Type 0} → (Place → Place → A → Type 0) → (Place → Outcome A) → Type 0
IsSound {A} P one = (p : Place) (x : A) (q : Place) → one p ≡ Gives x q → P p q x

-- the cases of lists with commas
abbrev pub IsOneCase : {A : Type 0} → (Place → Place → A → Type 0) → (Place → Place → List A → Type 0) → Type 0
IsOneCase {A} P Q = (p q : Place) (x : A) → P p q x → Q p q (x ∷ [])

abbrev pub IsMoreCase : {A : Type 0} → List TokenKind → (Place → Place → A → Type 0) → (Place → Place → List A → Type 0) → Type 0
IsMoreCase {A} kinds P Q = (p q r : Place) (x : A) (xs : List A) → P p q x → At kinds q token.Comma → Q (next q) r xs → Q p r (x ∷ xs)

abbrev pub IsLastCase : {A : Type 0} → List TokenKind → (Place → Place → A → Type 0) → (Place → Place → List A → Type 0) → Type 0
IsLastCase {A} kinds P Q = (p q : Place) (x : A) → P p q x → At kinds q token.Comma → Q p (next q) (x ∷ [])

pub separated_after_sound : {A : Type 0} (kinds : List TokenKind) (P : Place → Place → A → Type 0) (Q : Place → Place → List A → Type 0) → IsOneCase P Q → IsMoreCase kinds P Q
    → (more : ListOf A) → IsSound Q more → (p q r : Place) (x : A) (xs : List A) (m : Mark) → mark_at kinds q ≡ m → P p q x → separated_after more x q m ≡ Gives xs r → Q p r xs
separated_after_sound kinds P Q one_case more_case more im p q r x xs sign.Comma e d h =
    let t = then_gives (more (next q)) _ xs r h in
    gives_as (λ y v. Q p v y) (x ∷ t.0) xs t.1 r t.3 (more_case p q t.1 x t.0 d (says kinds q sign.Comma e (λ z. cc)) (im (next q) t.0 t.1 t.2))
separated_after_sound kinds P Q one_case more_case more im p q r x xs _ e d h = gives_as (λ y v. Q p v y) (x ∷ []) xs q r h (one_case p q x d)

pub separated_sound : {A : Type 0} (kinds : List TokenKind) (P : Place → Place → A → Type 0) (Q : Place → Place → List A → Type 0) → IsOneCase P Q → IsMoreCase kinds P Q
    → (one : Place → Outcome A) → IsSound P one → (n : ℕ) → IsSound Q (separated kinds one n)
separated_sound kinds P Q one_case more_case one io zero p xs q h = let z = separated_none kinds one p in cc
separated_sound kinds P Q one_case more_case one io (suc n) p xs q h =
    let t = then_gives (one p) (λ x v. separated_after (separated kinds one n) x v (mark_at kinds v)) xs q (sym (separated_on kinds one n p) ∙ h) in
    separated_after_sound kinds P Q one_case more_case (separated kinds one n) (separated_sound kinds P Q one_case more_case one io n) p t.1 q t.0 xs (mark_at kinds t.1) refl
    (io p t.0 t.1 t.2) t.3

listed_comma_sound : {A : Type 0} (kinds : List TokenKind) (P : Place → Place → A → Type 0) (Q : Place → Place → List A → Type 0) → IsLastCase kinds P Q → IsMoreCase kinds P Q
    → (more : ListOf A) → IsSound Q more → (p q r : Place) (x : A) (xs : List A) (m : Mark) → At kinds q token.Comma → P p q x → listed_comma more x (next q) m ≡ Gives xs r → Q p r xs
listed_comma_sound kinds P Q last_case more_case more im p q r x xs sign.CurlyCloses a d h = gives_as (λ y v. Q p v y) (x ∷ []) xs (next q) r h (last_case p q x d a)
listed_comma_sound kinds P Q last_case more_case more im p q r x xs _ a d h =
    let t = then_gives (more (next q)) _ xs r h in
    gives_as (λ y v. Q p v y) (x ∷ t.0) xs t.1 r t.3 (more_case p q t.1 x t.0 d a (im (next q) t.0 t.1 t.2))

listed_after_sound : {A : Type 0} (kinds : List TokenKind) (P : Place → Place → A → Type 0) (Q : Place → Place → List A → Type 0) → IsOneCase P Q → IsLastCase kinds P Q → IsMoreCase kinds P Q
    → (more : ListOf A) → IsSound Q more → (p q r : Place) (x : A) (xs : List A) (m : Mark) → mark_at kinds q ≡ m → P p q x → listed_after kinds more x q m ≡ Gives xs r → Q p r xs
listed_after_sound kinds P Q one_case last_case more_case more im p q r x xs sign.Comma e d h =
    listed_comma_sound kinds P Q last_case more_case more im p q r x xs (mark_at kinds (next q)) (says kinds q sign.Comma e (λ z. cc)) d h
listed_after_sound kinds P Q one_case last_case more_case more im p q r x xs _ e d h = gives_as (λ y v. Q p v y) (x ∷ []) xs q r h (one_case p q x d)

pub listed_sound : {A : Type 0} (kinds : List TokenKind) (P : Place → Place → A → Type 0) (Q : Place → Place → List A → Type 0) → IsOneCase P Q → IsLastCase kinds P Q → IsMoreCase kinds P Q
    → (one : Place → Outcome A) → IsSound P one → (n : ℕ) → IsSound Q (listed kinds one n)
listed_sound kinds P Q one_case last_case more_case one io zero p xs q h = let z = listed_none kinds one p in cc
listed_sound kinds P Q one_case last_case more_case one io (suc n) p xs q h =
    let t = then_gives (one p) (λ x v. listed_after kinds (listed kinds one n) x v (mark_at kinds v)) xs q (sym (listed_on kinds one n p) ∙ h) in
    listed_after_sound kinds P Q one_case last_case more_case (listed kinds one n) (listed_sound kinds P Q one_case last_case more_case one io n) p t.1 q t.0 xs (mark_at kinds t.1) refl
    (io p t.0 t.1 t.2) t.3

-- ---- what is read, in the grammar's terms

abbrev pub SpecificAs : List TokenKind → Bool → Place → Place → Specific → Type 0
SpecificAs kinds typed p q (Plays role x) = IsSpecifier kinds typed p q role x

abbrev pub FurtherAs : List TokenKind → Bool → Place → Place → Specified → Type 0
FurtherAs kinds typed p q (Specifies defines list) = AreFurther kinds typed p q defines list

abbrev pub SpecifiedAs : List TokenKind → Place → Place → Specified → Type 0
SpecifiedAs kinds p q (Specifies defines list) = AreSpecifiers kinds p q defines list

abbrev pub DecoratedAs : List TokenKind → Place → Place → Titled → Type 0
DecoratedAs kinds p q (Titles name parameters inner) = IsDecorated kinds p q name parameters inner

abbrev pub DirectAs : List TokenKind → Place → Place → Titled → Type 0
DirectAs kinds p q (Titles name parameters inner) = IsDirect kinds p q name parameters inner

abbrev pub PerhapsAs : List TokenKind → Place → Place → Perhaps → Type 0
PerhapsAs kinds p q (With (Titles name parameters inner)) = IsDeclarator kinds p q name parameters inner
PerhapsAs kinds p q (Without inner) = IsUnnamed kinds InParameter p q inner

abbrev pub TakesAs : List TokenKind → Place → Place → Takes → Type 0
TakesAs kinds p q (Taken list variadic) = AreParameters kinds p q list variadic

-- ---- qualifiers

qualifiers_by_sound : (kinds : List TokenKind) (more : ListOf Qualifier) → IsSound (AreQualifiers kinds) more → (p r : Place) (xs : List Qualifier) (m : Mark) → mark_at kinds p ≡ m
    → qualifiers_by more p m ≡ Gives xs r → AreQualifiers kinds p r xs
qualifiers_by_sound kinds more im p r xs (sign.Qualifies word) e h =
    let t = then_gives (more (next p)) _ xs r h in
    gives_as (λ y v. AreQualifiers kinds p v y) (word ∷ t.0) xs t.1 r t.3 (grammar.more_qualifiers p t.1 word t.0 (says kinds p (sign.Qualifies word) e (λ z. cc)) (im (next p) t.0 t.1 t.2))
qualifiers_by_sound kinds more im p r xs _ e h = gives_as (λ y v. AreQualifiers kinds p v y) [] xs p r h (grammar.no_qualifiers p)

pub qualifiers_sound : (kinds : List TokenKind) (n : ℕ) → IsSound (AreQualifiers kinds) (qualifiers kinds n)
qualifiers_sound kinds zero p xs q h = let z = qualifiers_none kinds p in cc
qualifiers_sound kinds (suc n) p xs q h = qualifiers_by_sound kinds (qualifiers kinds n) (qualifiers_sound kinds n) p q xs (mark_at kinds p) refl (sym (qualifiers_on kinds n p) ∙ h)

-- ---- members of structs

member_after_sound : (kinds : List TokenKind) (rd : ReadsExpression) → IsSoundReader kinds rd → (p q r : Place) (d : Titled) (x : Member) (m : Mark) → mark_at kinds q ≡ m → DecoratedAs kinds p q d
    → read.member_after rd d q m ≡ Gives x r → IsMember kinds p r x
member_after_sound kinds rd ird p q r (Titles name parameters inner) x sign.Colon e d h =
    let t = then_gives (rd 2 (next q)) _ x r h in
    gives_as (λ y v. IsMember kinds p v y) (member_node.BitField inner t.0 q.at) x t.1 r t.3
    (grammar.bit_field p q t.1 name parameters inner t.0 d (says kinds q sign.Colon e (λ z. cc)) (ird 2 (next q) t.0 t.1 (omega arith) t.2))
member_after_sound kinds rd ird p q r (Titles name parameters inner) x _ e d h =
    gives_as (λ y v. IsMember kinds p v y) (member_node.Plain inner) x q r h (grammar.plain_member p q name parameters inner d)

member_by_sound : (kinds : List TokenKind) (rd : ReadsExpression) → IsSoundReader kinds rd → (dc : ReadsDeclarator) → IsSound (DecoratedAs kinds) dc → (p r : Place) (x : Member) (m : Mark)
    → mark_at kinds p ≡ m → read.member_by kinds rd dc p m ≡ Gives x r → IsMember kinds p r x
member_by_sound kinds rd ird dc idc p r x sign.Colon e h =
    let t = then_gives (rd 2 (next p)) _ x r h in
    gives_as (λ y v. IsMember kinds p v y) (member_node.UnnamedBitField t.0 p.at) x t.1 r t.3
    (grammar.unnamed_bit_field p t.1 t.0 (says kinds p sign.Colon e (λ z. cc)) (ird 2 (next p) t.0 t.1 (omega arith) t.2))
member_by_sound kinds rd ird dc idc p r x _ e h =
    let t = then_gives (dc p) (λ d q. read.member_after rd d q (mark_at kinds q)) x r h in
    member_after_sound kinds rd ird p t.1 r t.0 x (mark_at kinds t.1) refl (idc p t.0 t.1 t.2) t.3

member_sound : (kinds : List TokenKind) (rd : ReadsExpression) → IsSoundReader kinds rd → (dc : ReadsDeclarator) → IsSound (DecoratedAs kinds) dc → IsSound (IsMember kinds) (read.member kinds rd dc)
member_sound kinds rd ird dc idc p x q h = member_by_sound kinds rd ird dc idc p q x (mark_at kinds p) refl h

pub members_sound : (kinds : List TokenKind) (rd : ReadsExpression) → IsSoundReader kinds rd → (dc : ReadsDeclarator) → IsSound (DecoratedAs kinds) dc → (n : ℕ)
    → IsSound (AreMembers kinds) (separated kinds (read.member kinds rd dc) n)
members_sound kinds rd ird dc idc n =
    separated_sound kinds (IsMember kinds) (AreMembers kinds) (λ p q x d. grammar.one_member p q x d) (λ p q r x xs d a e. grammar.more_members p q r x xs d a e)
    (read.member kinds rd dc) (member_sound kinds rd ird dc idc) n

line_after_sound : (kinds : List TokenKind) (members : ListOf Member) → IsSound (AreMembers kinds) members → (more : ListOf MemberLine) → IsSound (AreMemberLines kinds) more
    → (p q r : Place) (s : Specified) (xs : List MemberLine) → SpecifiedAs kinds p q s → read.line_after kinds members more s q ≡ Gives xs r → AreMemberLines kinds p r xs
line_after_sound kinds members ims more im p q r (Specifies defines list) xs d h =
    let t = then_gives (members q) _ xs r h in
    let c = semicolon_gives (mark_at kinds t.1) _ xs r t.3 in
    let u = then_gives (more (next t.1)) _ xs r c.1 in
    gives_as (λ y v. AreMemberLines kinds p v y) (record { specifiers = list; members = t.0 } ∷ u.0) xs u.1 r u.3
    (grammar.more_lines p q t.1 u.1 defines list t.0 u.0 d (ims q t.0 t.1 t.2) (says kinds t.1 sign.Semicolon c.0 (λ z. cc)) (im (next t.1) u.0 u.1 u.2))

lines_by_sound : (kinds : List TokenKind) (sp : ReadsSpecifiers) → IsSound (SpecifiedAs kinds) sp → (members : ListOf Member) → IsSound (AreMembers kinds) members
    → (more : ListOf MemberLine) → IsSound (AreMemberLines kinds) more → (p r : Place) (xs : List MemberLine) (m : Mark) → read.lines_by kinds sp members more p m ≡ Gives xs r
    → AreMemberLines kinds p r xs
lines_by_sound kinds sp isp members ims more im p r xs sign.CurlyCloses h = gives_as (λ y v. AreMemberLines kinds p v y) [] xs p r h (grammar.no_lines p)
lines_by_sound kinds sp isp members ims more im p r xs _ h =
    let t = then_gives (sp p) (read.line_after kinds members more) xs r h in
    line_after_sound kinds members ims more im p t.1 r t.0 xs (isp p t.0 t.1 t.2) t.3

pub lines_sound : (kinds : List TokenKind) (sp : ReadsSpecifiers) → IsSound (SpecifiedAs kinds) sp → (members : ListOf Member) → IsSound (AreMembers kinds) members → (n : ℕ)
    → IsSound (AreMemberLines kinds) (read.lines kinds sp members n)
lines_sound kinds sp isp members ims zero p xs q h = let z = lines_none kinds sp members p in cc
lines_sound kinds sp isp members ims (suc n) p xs q h =
    lines_by_sound kinds sp isp members ims (read.lines kinds sp members n) (lines_sound kinds sp isp members ims n) p q xs (mark_at kinds p) (sym (lines_on kinds sp members n p) ∙ h)

-- ---- enumeration constants

constant_after_sound : (kinds : List TokenKind) (rd : ReadsExpression) → IsSoundReader kinds rd → (p r : Place) (text : List ℕ) (x : EnumConstant) (m : Mark) → At kinds p (token.Name text)
    → mark_at kinds (next p) ≡ m → read.constant_after rd text p m ≡ Gives x r → IsEnumConstant kinds p r x
constant_after_sound kinds rd ird p r text x sign.Equals a e h =
    let t = then_gives (rd 2 (next (next p))) _ x r h in
    gives_as (λ y v. IsEnumConstant kinds p v y) (constant_node.Valued text t.0 p.at) x (declare t.1 text false) r t.3
    (grammar.valued_constant p t.1 text t.0 a (says kinds (next p) sign.Equals e (λ z. cc)) (ird 2 (next (next p)) t.0 t.1 (omega arith) t.2))
constant_after_sound kinds rd ird p r text x _ a e h =
    gives_as (λ y v. IsEnumConstant kinds p v y) (constant_node.Next text p.at) x (declare (next p) text false) r h (grammar.plain_constant p text a)

constant_by_sound : (kinds : List TokenKind) (rd : ReadsExpression) → IsSoundReader kinds rd → (p r : Place) (x : EnumConstant) (m : Mark) → mark_at kinds p ≡ m
    → read.constant_by kinds rd p m ≡ Gives x r → IsEnumConstant kinds p r x
constant_by_sound kinds rd ird p r x (sign.Name text) e h =
    constant_after_sound kinds rd ird p r text x (mark_at kinds (next p)) (says kinds p (sign.Name text) e (λ z. cc)) refl h
constant_by_sound kinds rd ird p r x _ e h = cc

pub constants_sound : (kinds : List TokenKind) (rd : ReadsExpression) → IsSoundReader kinds rd → (n : ℕ) → IsSound (AreEnumConstants kinds) (listed kinds (read.constant kinds rd) n)
constants_sound kinds rd ird n =
    listed_sound kinds (IsEnumConstant kinds) (AreEnumConstants kinds) (λ p q x d. grammar.one_constant p q x d) (λ p q x d a. grammar.last_constant p q x d a)
    (λ p q r x xs d a e. grammar.more_constants p q r x xs d a e) (read.constant kinds rd) (λ p x q h. constant_by_sound kinds rd ird p q x (mark_at kinds p) refl h) n

-- ---- specifiers

struct_body_sound : (kinds : List TokenKind) (body : ListOf MemberLine) → IsSound (AreMemberLines kinds) body → (typed : Bool) (p q r : Place) (tag : Option (List ℕ)) (s : Specific)
    → At kinds p token.Struct → IsTag kinds (next p) q tag → mark_at kinds q ≡ sign.CurlyOpens → read.struct_body kinds body p tag q ≡ Gives s r → SpecificAs kinds typed p r s
struct_body_sound kinds body ib typed p q r tag s a g e h =
    let t = then_gives (body (next q)) _ s r h in
    let c = curly_closes_gives (mark_at kinds t.1) _ s r t.3 in
    gives_as (λ y v. SpecificAs kinds typed p v y) (Plays Types (specifier_node.Struct tag t.0 p.at)) s (next t.1) r c.1
    (grammar.struct_body typed p q t.1 tag t.0 a g (says kinds q sign.CurlyOpens e (λ z. cc)) (ib (next q) t.0 t.1 t.2) (says kinds t.1 sign.CurlyCloses c.0 (λ z. cc)))

struct_tagged_sound : (kinds : List TokenKind) (body : ListOf MemberLine) → IsSound (AreMemberLines kinds) body → (typed : Bool) (p r : Place) (tag : List ℕ) (s : Specific) (m : Mark)
    → At kinds p token.Struct → At kinds (next p) (token.Name tag) → mark_at kinds (next (next p)) ≡ m → read.struct_tagged kinds body p tag (next (next p)) m ≡ Gives s r
    → SpecificAs kinds typed p r s
struct_tagged_sound kinds body ib typed p r tag s sign.CurlyOpens a b e h = struct_body_sound kinds body ib typed p (next (next p)) r (Some tag) s a (grammar.tag (next p) tag b) e h
struct_tagged_sound kinds body ib typed p r tag s _ a b e h =
    gives_as (λ y v. SpecificAs kinds typed p v y) (Plays Types (specifier_node.StructTag tag p.at)) s (next (next p)) r h (grammar.struct_tag typed p tag a b)

struct_by_sound : (kinds : List TokenKind) (body : ListOf MemberLine) → IsSound (AreMemberLines kinds) body → (typed : Bool) (p r : Place) (s : Specific) (m : Mark)
    → At kinds p token.Struct → mark_at kinds (next p) ≡ m → read.struct_by kinds body p m ≡ Gives s r → SpecificAs kinds typed p r s
struct_by_sound kinds body ib typed p r s sign.CurlyOpens a e h = struct_body_sound kinds body ib typed p (next p) r None s a (grammar.no_tag (next p)) e h
struct_by_sound kinds body ib typed p r s (sign.Name tag) a e h =
    struct_tagged_sound kinds body ib typed p r tag s (mark_at kinds (next (next p))) a (says kinds (next p) (sign.Name tag) e (λ z. cc)) refl h
struct_by_sound kinds body ib typed p r s _ a e h = cc

enum_body_sound : (kinds : List TokenKind) (body : ListOf EnumConstant) → IsSound (AreEnumConstants kinds) body → (typed : Bool) (p q r : Place) (tag : Option (List ℕ)) (s : Specific)
    → At kinds p token.Enum → IsTag kinds (next p) q tag → mark_at kinds q ≡ sign.CurlyOpens → read.enum_body kinds body p tag q ≡ Gives s r → SpecificAs kinds typed p r s
enum_body_sound kinds body ib typed p q r tag s a g e h =
    let t = then_gives (body (next q)) _ s r h in
    let c = curly_closes_gives (mark_at kinds t.1) _ s r t.3 in
    gives_as (λ y v. SpecificAs kinds typed p v y) (Plays Types (specifier_node.Enum tag t.0 p.at)) s (next t.1) r c.1
    (grammar.enum_body typed p q t.1 tag t.0 a g (says kinds q sign.CurlyOpens e (λ z. cc)) (ib (next q) t.0 t.1 t.2) (says kinds t.1 sign.CurlyCloses c.0 (λ z. cc)))

enum_tagged_sound : (kinds : List TokenKind) (body : ListOf EnumConstant) → IsSound (AreEnumConstants kinds) body → (typed : Bool) (p r : Place) (tag : List ℕ) (s : Specific) (m : Mark)
    → At kinds p token.Enum → At kinds (next p) (token.Name tag) → mark_at kinds (next (next p)) ≡ m → read.enum_tagged kinds body p tag (next (next p)) m ≡ Gives s r
    → SpecificAs kinds typed p r s
enum_tagged_sound kinds body ib typed p r tag s sign.CurlyOpens a b e h = enum_body_sound kinds body ib typed p (next (next p)) r (Some tag) s a (grammar.tag (next p) tag b) e h
enum_tagged_sound kinds body ib typed p r tag s _ a b e h =
    gives_as (λ y v. SpecificAs kinds typed p v y) (Plays Types (specifier_node.EnumTag tag p.at)) s (next (next p)) r h (grammar.enum_tag typed p tag a b)

enum_by_sound : (kinds : List TokenKind) (body : ListOf EnumConstant) → IsSound (AreEnumConstants kinds) body → (typed : Bool) (p r : Place) (s : Specific) (m : Mark)
    → At kinds p token.Enum → mark_at kinds (next p) ≡ m → read.enum_by kinds body p m ≡ Gives s r → SpecificAs kinds typed p r s
enum_by_sound kinds body ib typed p r s sign.CurlyOpens a e h = enum_body_sound kinds body ib typed p (next p) r None s a (grammar.no_tag (next p)) e h
enum_by_sound kinds body ib typed p r s (sign.Name tag) a e h =
    enum_tagged_sound kinds body ib typed p r tag s (mark_at kinds (next (next p))) a (says kinds (next p) (sign.Name tag) e (λ z. cc)) refl h
enum_by_sound kinds body ib typed p r s _ a e h = cc

name_specifier_sound : (kinds : List TokenKind) (typed : Bool) (p r : Place) (text : List ℕ) (s : Specific) → At kinds p (token.Name text)
    → read.name_specifier typed p text ≡ Gives s r → SpecificAs kinds typed p r s
name_specifier_sound kinds true p r text s a h = cc
name_specifier_sound kinds false p r text s a h =
    let f = if_gives (names_type p.blocks text) _ s r h in
    gives_as (λ y v. SpecificAs kinds false p v y) (Plays Types (specifier_node.TypedefName text p.at)) s (next p) r f.1 (grammar.typedef_name p text a f.0)

specifier_by_sound : (kinds : List TokenKind) (struct : ListOf MemberLine) → IsSound (AreMemberLines kinds) struct → (enum : ListOf EnumConstant) → IsSound (AreEnumConstants kinds) enum
    → (typed : Bool) (p r : Place) (s : Specific) (m : Mark) → mark_at kinds p ≡ m → read.specifier_by kinds struct enum typed p m ≡ Gives s r → SpecificAs kinds typed p r s
specifier_by_sound kinds struct is enum ie typed p r s (sign.Stores word) e h =
    gives_as (λ y v. SpecificAs kinds typed p v y) (Plays (storage_role word) (specifier_node.Storage word p.at)) s (next p) r h
    (grammar.storage_word typed p word (says kinds p (sign.Stores word) e (λ z. cc)))
specifier_by_sound kinds struct is enum ie typed p r s (sign.Functions word) e h =
    gives_as (λ y v. SpecificAs kinds typed p v y) (Plays Modifies (specifier_node.Function word p.at)) s (next p) r h
    (grammar.function_word typed p word (says kinds p (sign.Functions word) e (λ z. cc)))
specifier_by_sound kinds struct is enum ie typed p r s (sign.Qualifies word) e h =
    gives_as (λ y v. SpecificAs kinds typed p v y) (Plays Modifies (specifier_node.Qualified word p.at)) s (next p) r h
    (grammar.qualifier_word typed p word (says kinds p (sign.Qualifies word) e (λ z. cc)))
specifier_by_sound kinds struct is enum ie typed p r s (sign.Bases word) e h =
    gives_as (λ y v. SpecificAs kinds typed p v y) (Plays Types (specifier_node.Base word p.at)) s (next p) r h
    (grammar.base_word typed p word (says kinds p (sign.Bases word) e (λ z. cc)))
specifier_by_sound kinds struct is enum ie typed p r s (sign.TypeWords kind) e h =
    gives_as (λ y v. SpecificAs kinds typed p v y) (Plays Types (specifier_node.TypeWord kind p.at)) s (next p) r h
    (grammar.type_word typed p kind (says kinds p (sign.TypeWords kind) e (λ z. cc)))
specifier_by_sound kinds struct is enum ie typed p r s sign.Structs e h =
    struct_by_sound kinds struct is typed p r s (mark_at kinds (next p)) (says kinds p sign.Structs e (λ z. cc)) refl h
specifier_by_sound kinds struct is enum ie typed p r s sign.Enums e h =
    enum_by_sound kinds enum ie typed p r s (mark_at kinds (next p)) (says kinds p sign.Enums e (λ z. cc)) refl h
specifier_by_sound kinds struct is enum ie typed p r s (sign.Name text) e h = name_specifier_sound kinds typed p r text s (says kinds p (sign.Name text) e (λ z. cc)) h
specifier_by_sound kinds struct is enum ie typed p r s _ e h = cc

ends_specifiers : (kinds : List TokenKind) (typed : Bool) (p : Place) → read.goes_further kinds typed p ≡ false → EndsSpecifiers kinds typed p
ends_specifiers kinds true p e = tt
ends_specifiers kinds false p e = λ text a. sym (ap (λ k. read.is_further false p (start k)) a) ∙ e

abbrev IsSoundFurther : List TokenKind → (Bool → ReadsSpecifiers) → Type 0
IsSoundFurther kinds more = (typed : Bool) → IsSound (FurtherAs kinds typed) (more typed)

joined_sound : (kinds : List TokenKind) (typed : Bool) (p q r s t : Place) (role : Role) (x : Specifier) (more y : Specified) → IsSpecifier kinds typed p q role x → AreAttributes kinds q r
    → FurtherAs kinds (types_now typed role) r s more → read.joined role x more s ≡ Gives y t → FurtherAs kinds typed p t y
joined_sound kinds typed p q r s t role x (Specifies defines list) y d a f h =
    gives_as (λ z v. FurtherAs kinds typed p v z) (Specifies (defines_now role defines) (x ∷ list)) y s t h (grammar.more_specifiers typed p q r s role defines x list d a f)

further_by_sound : (kinds : List TokenKind) (more : Bool → ReadsSpecifiers) → IsSoundFurther kinds more → (typed : Bool) (p q r t : Place) (role : Role) (x : Specifier) (y : Specified) (b : Bool)
    → IsSpecifier kinds typed p q role x → AreAttributes kinds q r → read.goes_further kinds (types_now typed role) r ≡ b
    → read.further_by more (types_now typed role) role x r b ≡ Gives y t → FurtherAs kinds typed p t y
further_by_sound kinds more im typed p q r t role x y true d a e h =
    let u = then_gives (more (types_now typed role) r) (read.joined role x) y t h in
    joined_sound kinds typed p q r u.1 t role x u.0 y d a (im (types_now typed role) r u.0 u.1 u.2) u.3
further_by_sound kinds more im typed p q r t role x y false d a e h =
    gives_as (λ z v. FurtherAs kinds typed p v z) (Specifies (defines_now role false) (x ∷ [])) y r t h
    (grammar.last_specifier typed p q r role x d a (ends_specifiers kinds (types_now typed role) r e))

further_after_sound : (kinds : List TokenKind) (skip : Skips) → IsSoundSkips kinds skip → (more : Bool → ReadsSpecifiers) → IsSoundFurther kinds more → (typed : Bool) (p q r : Place)
    (s : Specific) (y : Specified) → SpecificAs kinds typed p q s → read.further_after kinds skip more typed s q ≡ Gives y r → FurtherAs kinds typed p r y
further_after_sound kinds skip ik more im typed p q r (Plays role x) y d h =
    let t = then_gives (skip q) _ y r h in
    further_by_sound kinds more im typed p q t.1 r role x y (read.goes_further kinds (types_now typed role) t.1) d (ik q t.0 t.1 t.2) refl t.3

further_sound : (kinds : List TokenKind) (struct : ListOf MemberLine) → IsSound (AreMemberLines kinds) struct → (enum : ListOf EnumConstant) → IsSound (AreEnumConstants kinds) enum → (n : ℕ)
    → IsSoundFurther kinds (read.further kinds struct enum n)
further_sound kinds struct is enum ie zero typed p y q h = let z = further_none kinds struct enum typed p in cc
further_sound kinds struct is enum ie (suc n) typed p y q h =
    let t = then_gives (read.specifier_by kinds struct enum typed p (mark_at kinds p)) (read.further_after kinds (attributes kinds n) (read.further kinds struct enum n) typed) y q
    (sym (further_on kinds struct enum n typed p) ∙ h) in
    further_after_sound kinds (attributes kinds n) (attributes_sound kinds n) (read.further kinds struct enum n) (further_sound kinds struct is enum ie n) typed p t.1 q t.0 y
    (specifier_by_sound kinds struct is enum ie typed p t.1 t.0 (mark_at kinds p) refl t.2) t.3

all_by_sound : (kinds : List TokenKind) (p q r : Place) (y : Specified) → AreAttributes kinds p q → FurtherAs kinds false q r y → SpecifiedAs kinds p r y
all_by_sound kinds p q r (Specifies defines list) a f = grammar.all_specifiers p q r defines list a f

pub all_specifiers_sound : (kinds : List TokenKind) (struct : ListOf MemberLine) → IsSound (AreMemberLines kinds) struct → (enum : ListOf EnumConstant) → IsSound (AreEnumConstants kinds) enum → (n : ℕ)
    → IsSound (SpecifiedAs kinds) (read.all_specifiers kinds struct enum n)
all_specifiers_sound kinds struct is enum ie n p y r h =
    let t = then_gives (attributes kinds n p) _ y r h in
    all_by_sound kinds p t.1 r y (attributes_sound kinds n p t.0 t.1 t.2) (further_sound kinds struct is enum ie n false t.1 y r t.3)
