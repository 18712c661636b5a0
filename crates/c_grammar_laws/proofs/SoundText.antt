-- What the reader of texts reads is spelled by the tokens.
use Rattle.std.proofs.Common.{◌≡◌, ℕ, zero, suc, List, [], ◌∷◌, Option, Some, None, Bool, refl, ◌∙◌, sym}
use Rattle.c_tokens.specs.declared.token.TokenKind.{TokenKind}
use Rattle.c_tree.specs.declared.expression.Specifier.{Specifier}
use Rattle.c_tree.specs.declared.declaration.Declared.{Declared}
use Rattle.c_tree.specs.declared.declaration.Declaration.{Declaration}
use Rattle.c_tree.specs.declared.declaration.External.{External}
use Rattle.c_tree.specs.declared.declaration.External.TheVariants as external_node
use Rattle.c_tree.specs.declared.statement.BlockItem.{BlockItem}
use Rattle.c_tree.specs.Places.{Place, next, declare, enter_with, leave}
use Rattle.c_tree.specs.Spells.{AreSpecifiers}
use Rattle.c_tree.specs.SpellsStatements.{IsDeclaration, AreDeclared, IsDeclared, AreItems, no_names, one_declared, more_declared}
use Rattle.c_tree.specs.SpellsText as grammar
use Rattle.c_tree.specs.SpellsText.{IsExternal, AreExternals, parameters_of}
use Rattle.c_grammar.specs.Kinds.{kind_at}
use Rattle.c_grammar.specs.Marks as sign
use Rattle.c_grammar.specs.Marks.{Mark, mark_at}
use Rattle.c_grammar.specs.ReadExpressions.{Gives}
use Rattle.c_grammar.specs.ReadTypes.{ListOf, separated_after, Specified, Specifies, Titled, Titles}
use Rattle.c_grammar.specs.Readers.{specifiers, declarator}
use Rattle.c_grammar.specs.ReadStatements.{initialiser, declared_after, declaration_end, names_with, declaration, block, statement}
use Rattle.c_grammar.specs.ReadText as read
use Rattle.c_grammar_laws.proofs.Steps.{then_gives, gives_as}
use Rattle.c_grammar_laws.proofs.StatementSteps.{externals_none, externals_on}
use Rattle.c_grammar_laws.proofs.Marked.{curly_closes_gives, says}
use Rattle.c_grammar_laws.proofs.SoundTypes.{IsSound, SpecifiedAs, DecoratedAs, separated_after_sound}
use Rattle.c_grammar_laws.proofs.SoundReaders.{declarator_sound}
use Rattle.c_grammar_laws.proofs.SoundStatements.{declared_after_sound, names_sound, declaration_end_sound, specifiers_sound, items_sound}

is_declaration_sound : (kinds : List TokenKind) (p q r : Place) (x : Declaration) (y : External) → IsDeclaration kinds p q x → read.is_declaration x q ≡ Gives y r → IsExternal kinds p r y
is_declaration_sound kinds p q r x y d h = gives_as (λ z v. IsExternal kinds p v z) (external_node.Declared x) y q r h (grammar.declared_external p q x d)

external_names_sound : (kinds : List TokenKind) (n : ℕ) (p q r s : Place) (defines : Bool) (list : List Specifier) (x : Declared) (y : External) → AreSpecifiers kinds p q defines list
    → IsDeclared kinds defines q r x → read.external_names kinds (names_with kinds n) defines list x r ≡ Gives y s → IsExternal kinds p s y
external_names_sound kinds n p q r s defines list x y d e h =
    let t = then_gives (separated_after (names_with kinds n defines) x r (mark_at kinds r)) _ y s h in
    let u = then_gives (declaration_end kinds list t.0 t.1) read.is_declaration y s t.3 in
    let all = separated_after_sound kinds (IsDeclared kinds defines) (AreDeclared kinds defines) (λ a b z f. one_declared a b z f) (λ a b c z zs f g i. more_declared a b c z zs f g i)
    (names_with kinds n defines) (names_sound kinds n defines) q r t.1 x t.0 (mark_at kinds r) refl e t.2 in
    is_declaration_sound kinds p u.1 s u.0 y (declaration_end_sound kinds p q t.1 u.1 defines list t.0 u.0 d all u.2) u.3

defined_sound : (kinds : List TokenKind) (items : ListOf BlockItem) → IsSound (AreItems kinds) items → (p q r s : Place) (defines : Bool) (list : List Specifier) (d : Titled) (y : External)
    → AreSpecifiers kinds p q defines list → DecoratedAs kinds q r d → mark_at kinds r ≡ sign.CurlyOpens → read.defined kinds items defines list d r ≡ Gives y s → IsExternal kinds p s y
defined_sound kinds items ii p q r s defines list (Titles name parameters inner) y a d e h =
    let t = then_gives (items (enter_with (declare (next r) name defines) (parameters_of parameters))) _ y s h in
    let c = curly_closes_gives (mark_at kinds t.1) _ y s t.3 in
    gives_as (λ z v. IsExternal kinds p v z) (external_node.Defined list inner t.0 r.at) y (leave (next t.1)) s c.1
    (grammar.defined_function p q r t.1 defines list name parameters inner t.0 a d (says kinds r sign.CurlyOpens e (λ z. cc))
    (ii (enter_with (declare (next r) name defines) (parameters_of parameters)) t.0 t.1 t.2) (says kinds t.1 sign.CurlyCloses c.0 (λ z. cc)))

external_by_sound : (kinds : List TokenKind) (n : ℕ) (p q r s : Place) (defines : Bool) (list : List Specifier) (d : Titled) (y : External) (m : Mark) → AreSpecifiers kinds p q defines list
    → DecoratedAs kinds q r d → mark_at kinds r ≡ m → read.external_by kinds n defines list d r m ≡ Gives y s → IsExternal kinds p s y
external_by_sound kinds n p q r s defines list d y sign.CurlyOpens a f e h =
    defined_sound kinds (block kinds (declaration kinds n) (statement kinds n) n) (items_sound kinds n n) p q r s defines list d y a f e h
external_by_sound kinds n p q r s defines list d y _ a f e h =
    let t = then_gives (declared_after kinds (initialiser kinds n) defines d r) (read.external_names kinds (names_with kinds n) defines list) y s h in
    external_names_sound kinds n p q t.1 s defines list t.0 y a (declared_after_sound kinds n defines q r t.1 d t.0 f t.2) t.3

external_named_sound : (kinds : List TokenKind) (n : ℕ) (p q s : Place) (defines : Bool) (list : List Specifier) (y : External) (m : Mark) → AreSpecifiers kinds p q defines list
    → mark_at kinds q ≡ m → read.external_named kinds n defines list q m ≡ Gives y s → IsExternal kinds p s y
external_named_sound kinds n p q s defines list y sign.Semicolon a e h =
    gives_as (λ z v. IsExternal kinds p v z) (external_node.Declared (record { specifiers = list; names = []; at = q.at })) y (next q) s h
    (grammar.declared_external p (next q) (record { specifiers = list; names = []; at = q.at }) (no_names p q defines list a (says kinds q sign.Semicolon e (λ z. cc))))
external_named_sound kinds n p q s defines list y _ a e h =
    let t = then_gives (declarator kinds n q) _ y s h in
    external_by_sound kinds n p q t.1 s defines list t.0 y (mark_at kinds t.1) a (declarator_sound kinds n q t.0 t.1 t.2) refl t.3

external_after_sound : (kinds : List TokenKind) (n : ℕ) (p q s : Place) (x : Specified) (y : External) → SpecifiedAs kinds p q x → read.external_after kinds n x q ≡ Gives y s → IsExternal kinds p s y
external_after_sound kinds n p q s (Specifies defines list) y a h = external_named_sound kinds n p q s defines list y (mark_at kinds q) a refl h

external_from_sound : (kinds : List TokenKind) (n : ℕ) (p s : Place) (y : External) (m : Mark) → mark_at kinds p ≡ m → read.external_from kinds n p m ≡ Gives y s → IsExternal kinds p s y
external_from_sound kinds n p s y sign.Semicolon e h =
    gives_as (λ z v. IsExternal kinds p v z) (external_node.Empty p.at) y (next p) s h (grammar.empty_external p (says kinds p sign.Semicolon e (λ z. cc)))
external_from_sound kinds n p s y _ e h =
    let t = then_gives (specifiers kinds n p) (read.external_after kinds n) y s h in
    external_after_sound kinds n p t.1 s t.0 y (specifiers_sound kinds n p t.0 t.1 t.2) t.3

pub external_sound : (kinds : List TokenKind) (n : ℕ) → IsSound (IsExternal kinds) (read.external kinds n)
external_sound kinds n p y s h = external_from_sound kinds n p s y (mark_at kinds p) refl h

-- the end of the text
abbrev AtEnd : List TokenKind → Place → List External → Place → Type 0
AtEnd kinds p xs q = AreExternals kinds p q xs × (kind_at kinds q ≡ None)

externals_by_sound : (kinds : List TokenKind) (n : ℕ) (more : ListOf External) → ((p : Place) (xs : List External) (q : Place) → more p ≡ Gives xs q → AtEnd kinds p xs q)
    → (p q : Place) (xs : List External) (kind : Option TokenKind) → kind_at kinds p ≡ kind → read.externals_by kinds n more p kind ≡ Gives xs q → AtEnd kinds p xs q
externals_by_sound kinds n more im p q xs None e h = gives_as (λ y v. AtEnd kinds p y v) [] xs p q h (grammar.no_externals p, e)
externals_by_sound kinds n more im p q xs (Some kind) e h =
    let t = then_gives (read.external kinds n p) _ xs q h in
    let u = then_gives (more t.1) _ xs q t.3 in
    let w = im t.1 u.0 u.1 u.2 in
    gives_as (λ y v. AtEnd kinds p y v) (t.0 ∷ u.0) xs u.1 q u.3 (grammar.more_externals p t.1 u.1 t.0 u.0 (external_sound kinds n p t.0 t.1 t.2) w.0, w.1)

pub externals_sound : (kinds : List TokenKind) (n count : ℕ) (p : Place) (xs : List External) (q : Place) → read.externals kinds n count p ≡ Gives xs q → AtEnd kinds p xs q
externals_sound kinds n zero p xs q h = let z = externals_none kinds n p in cc
externals_sound kinds n (suc count) p xs q h =
    externals_by_sound kinds n (read.externals kinds n count) (externals_sound kinds n count) p q xs (kind_at kinds p) refl (sym (externals_on kinds n count p) ∙ h)
