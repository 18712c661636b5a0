-- What the reader of declarators and type names reads is spelled by the tokens.
use Rattle.std.proofs.Common.{◌≡◌, ℕ, zero, suc, List, [], ◌∷◌, Some, None, Bool, false, refl, ◌∙◌, sym, arith}
use Rattle.c_tokens.specs.declared.token.TokenKind.{TokenKind}
use Rattle.c_tokens.specs.declared.token.TokenKind.TheVariants as token
use Rattle.c_tree.specs.declared.expression.Qualifier.{Qualifier}
use Rattle.c_tree.specs.declared.expression.Specifier.{Specifier}
use Rattle.c_tree.specs.declared.expression.Declarator.{Declarator}
use Rattle.c_tree.specs.declared.expression.Declarator.TheVariants as declarator_node
use Rattle.c_tree.specs.declared.expression.Parameter.{Parameter}
use Rattle.c_tree.specs.declared.expression.TypeName.{TypeName}
use Rattle.c_tree.specs.Places.{Place, At, next, declare, enter, leave, first_of}
use Rattle.c_tree.specs.Spells as grammar
use Rattle.c_tree.specs.Spells.{IsExpression, AreAttributes, AreQualifiers, AreSpecifiers, IsDecorated, IsDeclarator, IsDirect, AreParameters, IsParameter, IsUnnamed, AreArrays, IsTypeName, nearest, InParameter, InTypeName, may_all_qualify}
use Rattle.c_grammar.specs.Marks as sign
use Rattle.c_grammar.specs.Marks.{Mark, NoMark, mark_at}
use Rattle.c_grammar.specs.ReadExpressions.{Outcome, Gives, ReadsExpression}
use Rattle.c_grammar.specs.ReadTypes as read
use Rattle.c_grammar.specs.ReadTypes.{Skips, attributes, ListOf, Specified, Specifies, Titled, Titles, ReadsSpecifiers, ReadsDeclarator, qualifiers, Takes, Taken, Perhaps, With, Without, Suffixes, ReadsPerhaps}
use Rattle.c_grammar_laws.proofs.TypeSteps.{suffixes_none, suffixes_on, parameters_none, parameters_on, arrays_none, arrays_on, unnamed_none, unnamed_on}
use Rattle.c_grammar_laws.proofs.Steps.{then_gives, gives_as, if_gives}
use Rattle.c_grammar_laws.proofs.Sound.{IsSoundReader}
use Rattle.c_grammar_laws.proofs.Marked.{closes_gives, square_closes_gives, says}
use Rattle.c_grammar_laws.proofs.SoundTypes.{IsSoundSkips, attributes_sound, IsSound, SpecifiedAs, DecoratedAs, DirectAs, PerhapsAs, TakesAs, qualifiers_sound}

-- ---- after a direct declarator

abbrev pub IsSoundSuffixes : List TokenKind → Suffixes → Type 0
IsSoundSuffixes kinds go = (p q r : Place) (d e : Titled) → DirectAs kinds p q d → go d q ≡ Gives e r → DirectAs kinds p r e

array_by_sound : (kinds : List TokenKind) (rd : ReadsExpression) → IsSoundReader kinds rd → (go : Suffixes) → IsSoundSuffixes kinds go → (p q r : Place) (d e : Titled) (m : Mark)
    → At kinds q token.LeftBracket → mark_at kinds (next q) ≡ m → DirectAs kinds p q d → read.array_by kinds rd go d q m ≡ Gives e r → DirectAs kinds p r e
array_by_sound kinds rd ird go ig p q r (Titles name parameters inner) e sign.SquareCloses a f d h =
    ig p (next (next q)) r (Titles name parameters (declarator_node.OpenArray inner q.at)) e
    (grammar.open_array p q name parameters inner d a (says kinds (next q) sign.SquareCloses f (λ z. cc))) h
array_by_sound kinds rd ird go ig p q r (Titles name parameters inner) e _ a f d h =
    let t = then_gives (rd 2 (next q)) _ e r h in
    let c = square_closes_gives (mark_at kinds t.1) _ e r t.3 in
    ig p (next t.1) r (Titles name parameters (declarator_node.Array inner t.0 q.at)) e
    (grammar.array p q t.1 name parameters inner t.0 d a (ird 2 (next q) t.0 t.1 (omega arith) t.2) (says kinds t.1 sign.SquareCloses c.0 (λ z. cc))) c.1

with_parameters_sound : (kinds : List TokenKind) (go : Suffixes) → IsSoundSuffixes kinds go → (p q s r : Place) (d e : Titled) (t : Takes) → At kinds q token.LeftParenthesis
    → DirectAs kinds p q d → TakesAs kinds (enter (next q)) s t → read.with_parameters kinds go d q t s ≡ Gives e r → DirectAs kinds p r e
with_parameters_sound kinds go ig p q s r (Titles name parameters inner) e (Taken list variadic) a d f h =
    let c = closes_gives (mark_at kinds s) _ e r h in
    ig p (leave (next s)) r (Titles name (nearest parameters (first_of s.blocks)) (declarator_node.Function inner list variadic q.at)) e
    (grammar.function_parameters p q s name parameters inner list variadic d a f (says kinds s sign.RoundCloses c.0 (λ z. cc))) c.1

function_by_sound : (kinds : List TokenKind) (list : Place → Outcome Takes) → IsSound (TakesAs kinds) list → (go : Suffixes) → IsSoundSuffixes kinds go → (p q r : Place) (d e : Titled) (m : Mark)
    → At kinds q token.LeftParenthesis → mark_at kinds (next q) ≡ m → DirectAs kinds p q d → read.function_by kinds list go d q m ≡ Gives e r → DirectAs kinds p r e
function_by_sound kinds list il go ig p q r (Titles name parameters inner) e sign.RoundCloses a f d h =
    ig p (next (next q)) r (Titles name (nearest parameters []) (declarator_node.Function inner [] None q.at)) e
    (grammar.function_empty p q name parameters inner d a (says kinds (next q) sign.RoundCloses f (λ z. cc))) h
function_by_sound kinds list il go ig p q r d e _ a f g h =
    let t = then_gives (list (enter (next q))) (read.with_parameters kinds go d q) e r h in
    with_parameters_sound kinds go ig p q t.1 r d e t.0 a g (il (enter (next q)) t.0 t.1 t.2) t.3

suffixes_by_sound : (kinds : List TokenKind) (rd : ReadsExpression) → IsSoundReader kinds rd → (list : Place → Outcome Takes) → IsSound (TakesAs kinds) list → (go : Suffixes) → IsSoundSuffixes kinds go
    → (p q r : Place) (d e : Titled) (m : Mark) → mark_at kinds q ≡ m → DirectAs kinds p q d → read.suffixes_by kinds rd list go d q m ≡ Gives e r → DirectAs kinds p r e
suffixes_by_sound kinds rd ird list il go ig p q r d e sign.SquareOpens f g h =
    array_by_sound kinds rd ird go ig p q r d e (mark_at kinds (next q)) (says kinds q sign.SquareOpens f (λ z. cc)) refl g h
suffixes_by_sound kinds rd ird list il go ig p q r d e sign.RoundOpens f g h =
    function_by_sound kinds list il go ig p q r d e (mark_at kinds (next q)) (says kinds q sign.RoundOpens f (λ z. cc)) refl g h
suffixes_by_sound kinds rd ird list il go ig p q r d e _ f g h = gives_as (λ y v. DirectAs kinds p v y) d e q r h g

suffixes_sound : (kinds : List TokenKind) (rd : ReadsExpression) → IsSoundReader kinds rd → (list : Place → Outcome Takes) → IsSound (TakesAs kinds) list → (n : ℕ)
    → IsSoundSuffixes kinds (read.suffixes kinds rd list n)
suffixes_sound kinds rd ird list il zero p q r d e g h = let z = suffixes_none kinds rd list d q in cc
suffixes_sound kinds rd ird list il (suc n) p q r d e g h =
    suffixes_by_sound kinds rd ird list il (read.suffixes kinds rd list n) (suffixes_sound kinds rd ird list il n) p q r d e (mark_at kinds q) refl g (sym (suffixes_on kinds rd list n d q) ∙ h)

-- ---- declarators with a name, and what stands for one

decorated_by_sound : (kinds : List TokenKind) (skip : Skips) → IsSoundSkips kinds skip → (p q r : Place) (y : Perhaps) (d : Titled) → PerhapsAs kinds p q y
    → read.decorated_by skip y q ≡ Gives d r → DecoratedAs kinds p r d
decorated_by_sound kinds skip ik p q r (With (Titles name parameters inner)) d f h =
    let t = then_gives (skip q) _ d r h in
    gives_as (λ y v. DecoratedAs kinds p v y) (Titles name parameters inner) d t.1 r t.3 (grammar.decorated p q t.1 name parameters inner f (ik q t.0 t.1 t.2))
decorated_by_sound kinds skip ik p q r (Without inner) d f h = cc

pub decorated_sound : (kinds : List TokenKind) (skip : Skips) → IsSoundSkips kinds skip → (one : ReadsPerhaps) → IsSound (PerhapsAs kinds) one
    → IsSound (DecoratedAs kinds) (read.decorated skip one)
decorated_sound kinds skip ik one io p d r h =
    let t = then_gives (one p) (read.decorated_by skip) d r h in
    decorated_by_sound kinds skip ik p t.1 r t.0 d (io p t.0 t.1 t.2) t.3

pointed_sound : (kinds : List TokenKind) (p q r s : Place) (list : List Qualifier) (x y : Perhaps) → At kinds p token.Star → AreQualifiers kinds (next p) q list → PerhapsAs kinds q r x
    → read.pointed list p.at x r ≡ Gives y s → PerhapsAs kinds p s y
pointed_sound kinds p q r s list (With (Titles name parameters inner)) y a b d h =
    gives_as (λ z v. PerhapsAs kinds p v z) (With (Titles name parameters (declarator_node.Pointer list inner p.at))) y r s h (grammar.pointer p q r list name parameters inner a b d)
pointed_sound kinds p q r s list (Without inner) y a b d h =
    let f = if_gives (may_all_qualify InParameter list) _ y s h in
    gives_as (λ z v. PerhapsAs kinds p v z) (Without (declarator_node.Pointer list inner p.at)) y r s f.1 (grammar.unnamed_pointer InParameter p q r list inner a b f.0 d)

titled_sound : (kinds : List TokenKind) (p q r : Place) (d : Titled) (y : Perhaps) → DirectAs kinds p q d → read.titled d q ≡ Gives y r → PerhapsAs kinds p r y
titled_sound kinds p q r (Titles name parameters inner) y d h =
    gives_as (λ z v. PerhapsAs kinds p v z) (With (Titles name parameters inner)) y q r h (grammar.direct p q name parameters inner d)

brackets_sound : (kinds : List TokenKind) (p q : Place) (d : Titled) → At kinds p token.LeftParenthesis → DecoratedAs kinds (next p) q d → At kinds q token.RightParenthesis → DirectAs kinds p (next q) d
brackets_sound kinds p q (Titles name parameters inner) a d c = grammar.declarator_brackets p q name parameters inner a d c

perhaps_by_sound : (kinds : List TokenKind) (go : Suffixes) → IsSoundSuffixes kinds go → (list : Place → Outcome (List Qualifier)) → IsSound (AreQualifiers kinds) list
    → (inside : ReadsDeclarator) → IsSound (DecoratedAs kinds) inside → (more : ReadsPerhaps) → IsSound (PerhapsAs kinds) more → (p r : Place) (y : Perhaps) (m : Mark)
    → mark_at kinds p ≡ m → read.perhaps_by kinds go list inside more p m ≡ Gives y r → PerhapsAs kinds p r y
perhaps_by_sound kinds go ig list il inside ii more im p r y sign.Star e h =
    let t = then_gives (list (next p)) _ y r h in
    let u = then_gives (more t.1) (read.pointed t.0 p.at) y r t.3 in
    pointed_sound kinds p t.1 u.1 r t.0 u.0 y (says kinds p sign.Star e (λ z. cc)) (il (next p) t.0 t.1 t.2) (im t.1 u.0 u.1 u.2) u.3
perhaps_by_sound kinds go ig list il inside ii more im p r y (sign.Name text) e h =
    let t = then_gives (go (Titles text None (declarator_node.Name text p.at)) (next p)) read.titled y r h in
    titled_sound kinds p t.1 r t.0 y
    (ig p (next p) t.1 (Titles text None (declarator_node.Name text p.at)) t.0 (grammar.declared_name p text (says kinds p (sign.Name text) e (λ z. cc))) t.2) t.3
perhaps_by_sound kinds go ig list il inside ii more im p r y sign.RoundOpens e h =
    let t = then_gives (inside (next p)) _ y r h in
    let c = closes_gives (mark_at kinds t.1) _ y r t.3 in
    let u = then_gives (go t.0 (next t.1)) read.titled y r c.1 in
    let d = brackets_sound kinds p t.1 t.0 (says kinds p sign.RoundOpens e (λ z. cc)) (ii (next p) t.0 t.1 t.2) (says kinds t.1 sign.RoundCloses c.0 (λ z. cc)) in
    titled_sound kinds p u.1 r u.0 y (ig p (next t.1) u.1 t.0 u.0 d u.2) u.3
perhaps_by_sound kinds go ig list il inside ii more im p r y _ e h =
    gives_as (λ z v. PerhapsAs kinds p v z) (Without (declarator_node.Unnamed p.at)) y p r h (grammar.no_declarator p)

-- ---- parameters

parameter_after_sound : (kinds : List TokenKind) (skip : Skips) → IsSoundSkips kinds skip → (p q r s : Place) (defines : Bool) (list : List Specifier) (y : Perhaps) (x : Parameter)
    → AreSpecifiers kinds p q defines list → PerhapsAs kinds q r y → read.parameter_after skip list y r ≡ Gives x s → IsParameter kinds p s x
parameter_after_sound kinds skip ik p q r s defines list (With (Titles name parameters inner)) x d f h =
    let t = then_gives (skip r) _ x s h in
    gives_as (λ z v. IsParameter kinds p v z) (record { specifiers = list; declarator = inner }) x (declare t.1 name false) s t.3
    (grammar.named_parameter p q t.1 defines list name parameters inner d (grammar.decorated q r t.1 name parameters inner f (ik r t.0 t.1 t.2)))
parameter_after_sound kinds skip ik p q r s defines list (Without inner) x d f h =
    gives_as (λ z v. IsParameter kinds p v z) (record { specifiers = list; declarator = inner }) x r s h (grammar.unnamed_parameter p q r defines list inner d f)

parameter_of_sound : (kinds : List TokenKind) (skip : Skips) → IsSoundSkips kinds skip → (one : ReadsPerhaps) → IsSound (PerhapsAs kinds) one → (p q r : Place) (s : Specified) (x : Parameter)
    → SpecifiedAs kinds p q s → read.parameter_of skip one s q ≡ Gives x r → IsParameter kinds p r x
parameter_of_sound kinds skip ik one io p q r (Specifies defines list) x d h =
    let t = then_gives (one q) (read.parameter_after skip list) x r h in
    parameter_after_sound kinds skip ik p q t.1 r defines list t.0 x d (io q t.0 t.1 t.2) t.3

parameter_sound : (kinds : List TokenKind) (skip : Skips) → IsSoundSkips kinds skip → (sp : ReadsSpecifiers) → IsSound (SpecifiedAs kinds) sp → (one : ReadsPerhaps) → IsSound (PerhapsAs kinds) one
    → IsSound (IsParameter kinds) (read.parameter skip sp one)
parameter_sound kinds skip ik sp is one io p x r h =
    let t = then_gives (sp p) (read.parameter_of skip one) x r h in
    parameter_of_sound kinds skip ik one io p t.1 r t.0 x (is p t.0 t.1 t.2) t.3

first_taken_sound : (kinds : List TokenKind) (p q r s : Place) (x : Parameter) (t y : Takes) → IsParameter kinds p q x → At kinds q token.Comma → TakesAs kinds (next q) r t
    → read.first_taken x t r ≡ Gives y s → TakesAs kinds p s y
first_taken_sound kinds p q r s x (Taken list variadic) y d a f h =
    gives_as (λ z v. TakesAs kinds p v z) (Taken (x ∷ list) variadic) y r s h (grammar.more_parameters p q r x list variadic d a f)

parameters_comma_sound : (kinds : List TokenKind) (more : Place → Outcome Takes) → IsSound (TakesAs kinds) more → (p q r : Place) (x : Parameter) (y : Takes) (m : Mark) → IsParameter kinds p q x
    → At kinds q token.Comma → mark_at kinds (next q) ≡ m → read.parameters_comma more x (next q) m ≡ Gives y r → TakesAs kinds p r y
parameters_comma_sound kinds more im p q r x y sign.Ellipsis d a e h =
    gives_as (λ z v. TakesAs kinds p v z) (Taken (x ∷ []) (Some (next q).at)) y (next (next q)) r h (grammar.variadic_parameters p q x d a (says kinds (next q) sign.Ellipsis e (λ z. cc)))
parameters_comma_sound kinds more im p q r x y _ d a e h =
    let t = then_gives (more (next q)) (read.first_taken x) y r h in
    first_taken_sound kinds p q t.1 r x t.0 y d a (im (next q) t.0 t.1 t.2) t.3

parameters_after_sound : (kinds : List TokenKind) (more : Place → Outcome Takes) → IsSound (TakesAs kinds) more → (p q r : Place) (x : Parameter) (y : Takes) (m : Mark) → IsParameter kinds p q x
    → mark_at kinds q ≡ m → read.parameters_after kinds more x q m ≡ Gives y r → TakesAs kinds p r y
parameters_after_sound kinds more im p q r x y sign.Comma d e h = parameters_comma_sound kinds more im p q r x y (mark_at kinds (next q)) d (says kinds q sign.Comma e (λ z. cc)) refl h
parameters_after_sound kinds more im p q r x y _ d e h = gives_as (λ z v. TakesAs kinds p v z) (Taken (x ∷ []) None) y q r h (grammar.one_parameter p q x d)

parameters_sound : (kinds : List TokenKind) (one : Place → Outcome Parameter) → IsSound (IsParameter kinds) one → (n : ℕ) → IsSound (TakesAs kinds) (read.parameters kinds one n)
parameters_sound kinds one io zero p y q h = let z = parameters_none kinds one p in cc
parameters_sound kinds one io (suc n) p y q h =
    let t = then_gives (one p) (λ x v. read.parameters_after kinds (read.parameters kinds one n) x v (mark_at kinds v)) y q (sym (parameters_on kinds one n p) ∙ h) in
    parameters_after_sound kinds (read.parameters kinds one n) (parameters_sound kinds one io n) p t.1 q t.0 y (mark_at kinds t.1) (io p t.0 t.1 t.2) refl t.3

pub perhaps_with_sound : (kinds : List TokenKind) (rd : ReadsExpression) → IsSoundReader kinds rd → (sp : ReadsSpecifiers) → IsSound (SpecifiedAs kinds) sp → (one : ReadsPerhaps) → IsSound (PerhapsAs kinds) one
    → (n : ℕ) (p r : Place) (y : Perhaps) (m : Mark) → mark_at kinds p ≡ m → read.perhaps_with kinds rd sp one n p m ≡ Gives y r → PerhapsAs kinds p r y
perhaps_with_sound kinds rd ird sp is one io n p r y m e h =
    let skip = attributes_sound kinds n in
    perhaps_by_sound kinds (read.suffixes_with kinds rd sp one n)
    (suffixes_sound kinds rd ird (read.parameters kinds (read.parameter (attributes kinds n) sp one) n)
    (parameters_sound kinds (read.parameter (attributes kinds n) sp one) (parameter_sound kinds (attributes kinds n) skip sp is one io) n) n)
    (qualifiers kinds n) (qualifiers_sound kinds n) (read.decorated (attributes kinds n) one) (decorated_sound kinds (attributes kinds n) skip one io) one io p r y m e h

-- ---- type names

abbrev IsSoundArrays : List TokenKind → (Declarator → Place → Outcome Declarator) → Type 0
IsSoundArrays kinds go = (p q r : Place) (x y : Declarator) → AreArrays kinds p q x → go x q ≡ Gives y r → AreArrays kinds p r y

arrays_by_sound : (kinds : List TokenKind) (rd : ReadsExpression) → IsSoundReader kinds rd → (go : Declarator → Place → Outcome Declarator) → IsSoundArrays kinds go → (p q r : Place) (x y : Declarator) (m : Mark)
    → mark_at kinds q ≡ m → AreArrays kinds p q x → read.arrays_by kinds rd go x q m ≡ Gives y r → AreArrays kinds p r y
arrays_by_sound kinds rd ird go ig p q r x y sign.SquareOpens e d h =
    let t = then_gives (rd 2 (next q)) _ y r h in
    let c = square_closes_gives (mark_at kinds t.1) _ y r t.3 in
    ig p (next t.1) r (declarator_node.Array x t.0 q.at) y
    (grammar.unnamed_array p q t.1 x t.0 d (says kinds q sign.SquareOpens e (λ z. cc)) (ird 2 (next q) t.0 t.1 (omega arith) t.2) (says kinds t.1 sign.SquareCloses c.0 (λ z. cc))) c.1
arrays_by_sound kinds rd ird go ig p q r x y _ e d h = gives_as (λ z v. AreArrays kinds p v z) x y q r h d

arrays_sound : (kinds : List TokenKind) (rd : ReadsExpression) → IsSoundReader kinds rd → (n : ℕ) → IsSoundArrays kinds (read.arrays kinds rd n)
arrays_sound kinds rd ird zero p q r x y d h = let z = arrays_none kinds rd x q in cc
arrays_sound kinds rd ird (suc n) p q r x y d h =
    arrays_by_sound kinds rd ird (read.arrays kinds rd n) (arrays_sound kinds rd ird n) p q r x y (mark_at kinds q) refl d (sym (arrays_on kinds rd n x q) ∙ h)

unnamed_by_sound : (kinds : List TokenKind) (go : Declarator → Place → Outcome Declarator) → IsSoundArrays kinds go → (list : Place → Outcome (List Qualifier)) → IsSound (AreQualifiers kinds) list
    → (more : Place → Outcome Declarator) → IsSound (IsUnnamed kinds InTypeName) more → (p r : Place) (y : Declarator) (m : Mark) → mark_at kinds p ≡ m
    → read.unnamed_by go list more p m ≡ Gives y r → IsUnnamed kinds InTypeName p r y
unnamed_by_sound kinds go ig list il more im p r y sign.Star e h =
    let t = then_gives (list (next p)) (read.unnamed_pointed more p.at) y r h in
    let f = if_gives (may_all_qualify InTypeName t.0) _ y r t.3 in
    let u = then_gives (more t.1) _ y r f.1 in
    gives_as (λ z v. IsUnnamed kinds InTypeName p v z) (declarator_node.Pointer t.0 u.0 p.at) y u.1 r u.3
    (grammar.unnamed_pointer InTypeName p t.1 u.1 t.0 u.0 (says kinds p sign.Star e (λ z. cc)) (il (next p) t.0 t.1 t.2) f.0 (im t.1 u.0 u.1 u.2))
unnamed_by_sound kinds go ig list il more im p r y _ e h = grammar.unnamed_arrays p r y (ig p p r (declarator_node.Unnamed p.at) y (grammar.no_arrays p) h)

unnamed_sound : (kinds : List TokenKind) (rd : ReadsExpression) → IsSoundReader kinds rd → (n : ℕ) → IsSound (IsUnnamed kinds InTypeName) (read.unnamed kinds rd n)
unnamed_sound kinds rd ird zero p y r h = let z = unnamed_none kinds rd p in cc
unnamed_sound kinds rd ird (suc n) p y r h =
    unnamed_by_sound kinds (read.arrays kinds rd (suc n)) (arrays_sound kinds rd ird (suc n)) (qualifiers kinds n) (qualifiers_sound kinds n) (read.unnamed kinds rd n) (unnamed_sound kinds rd ird n)
    p r y (mark_at kinds p) refl (sym (unnamed_on kinds rd n p) ∙ h)

named_type_sound : (kinds : List TokenKind) (one : Place → Outcome Declarator) → IsSound (IsUnnamed kinds InTypeName) one → (p q r : Place) (s : Specified) (y : TypeName) → SpecifiedAs kinds p q s
    → read.named_type one s q ≡ Gives y r → IsTypeName kinds p r y
named_type_sound kinds one io p q r (Specifies defines list) y d h =
    let t = then_gives (one q) _ y r h in
    gives_as (λ z v. IsTypeName kinds p v z) (record { specifiers = list; declarator = t.0 }) y t.1 r t.3 (grammar.type_name p q t.1 defines list t.0 d (io q t.0 t.1 t.2))

pub type_name_sound : (kinds : List TokenKind) (rd : ReadsExpression) → IsSoundReader kinds rd → (sp : ReadsSpecifiers) → IsSound (SpecifiedAs kinds) sp → (n : ℕ)
    → IsSound (IsTypeName kinds) (read.type_name kinds rd sp n)
type_name_sound kinds rd ird sp is n p y r h =
    let t = then_gives (sp p) (read.named_type (read.unnamed kinds rd n)) y r h in
    named_type_sound kinds (read.unnamed kinds rd n) (unnamed_sound kinds rd ird n) p t.1 r t.0 y (is p t.0 t.1 t.2) t.3
