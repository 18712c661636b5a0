-- What the readers of declarations and statements read is spelled by the tokens.
use Rattle.std.proofs.Common.{◌≡◌, ℕ, zero, suc, List, [], ◌∷◌, Option, Some, None, Bool, true, false, refl, ap, ◌∙◌, sym, arith}
use Rattle.c_tokens.specs.declared.token.TokenKind.{TokenKind}
use Rattle.c_tokens.specs.declared.token.TokenKind.TheVariants as token
use Rattle.c_tree.specs.declared.expression.Expression.{Expression}
use Rattle.c_tree.specs.declared.expression.Specifier.{Specifier}
use Rattle.c_tree.specs.declared.declaration.Initialiser.{Initialiser}
use Rattle.c_tree.specs.declared.declaration.Initialiser.TheVariants as initialiser_node
use Rattle.c_tree.specs.declared.declaration.Declared.{Declared}
use Rattle.c_tree.specs.declared.declaration.Declared.TheVariants as declared_node
use Rattle.c_tree.specs.declared.declaration.Declaration.{Declaration}
use Rattle.c_tree.specs.declared.statement.Statement.{Statement}
use Rattle.c_tree.specs.declared.statement.Statement.TheVariants as statement_node
use Rattle.c_tree.specs.declared.statement.BlockItem.{BlockItem}
use Rattle.c_tree.specs.declared.statement.BlockItem.TheVariants as item_node
use Rattle.c_tree.specs.declared.statement.ForStart.{ForStart}
use Rattle.c_tree.specs.declared.statement.ForStart.TheVariants as start_node
use Rattle.c_tree.specs.Places.{Place, At, next, declare, enter, leave}
use Rattle.c_tree.specs.Spells.{AreSpecifiers}
use Rattle.c_tree.specs.SpellsStatements as grammar
use Rattle.c_tree.specs.SpellsStatements.{IsInitialiser, AreParts, IsDeclared, AreDeclared, IsDeclaration, IsOptional, IsForStart, IsTest, IsStatement, IsLabelled, IsChain, AreItems}
use Rattle.c_grammar.specs.Kinds.{begins_type}
use Rattle.c_grammar.specs.Marks as sign
use Rattle.c_grammar.specs.Marks.{Mark, NoMark, mark, mark_at}
use Rattle.c_grammar.specs.ReadExpressions.{Outcome, Gives, and_then, ReadsExpression}
use Rattle.c_grammar.specs.ReadTypes.{ListOf, listed, Specified, Specifies, Titled, Titles}
use Rattle.c_grammar.specs.Readers.{specifiers, declarator}
use Rattle.c_grammar.specs.Readers as readers
use Rattle.c_grammar.specs.ReadStatements as read
use Rattle.c_grammar.specs.ReadStatements.{ReadsInitialiser, ReadsStatement, ReadsDeclaration, Chain, Chains}
use Rattle.c_grammar_laws.proofs.Steps.{then_gives, gives_as}
use Rattle.c_grammar_laws.proofs.StatementSteps.{initialiser_none, initialiser_on, chain_none, chain_on, block_none, block_on, statement_none, statement_on}
use Rattle.c_grammar_laws.proofs.Sound.{IsSoundReader}
use Rattle.c_grammar_laws.proofs.Marked.{opens_gives, closes_gives, curly_closes_gives, semicolon_gives, colon_gives, says}
use Rattle.c_grammar_laws.proofs.SoundTypes.{IsSound, SpecifiedAs, DecoratedAs, separated_sound, listed_sound}
use Rattle.c_grammar_laws.proofs.SoundReaders.{readers_sound, declarator_sound}

pub while_gives : {B : Type 0} (m : Mark) (o : Outcome B) (y : B) (r : Place) → read.where_while m o ≡ Gives y r → (m ≡ sign.While) × (o ≡ Gives y r)
while_gives sign.While o y r h = (refl, h)
while_gives _ o y r h = cc

reader_sound : (kinds : List TokenKind) (n : ℕ) → IsSoundReader kinds (readers.read kinds n)
reader_sound kinds n = let i = readers_sound kinds n in i.0

-- ---- declarations

initialiser_by_sound : (kinds : List TokenKind) (rd : ReadsExpression) → IsSoundReader kinds rd → (parts : ListOf Initialiser) → IsSound (AreParts kinds) parts → (p r : Place) (y : Initialiser) (m : Mark)
    → mark_at kinds p ≡ m → read.initialiser_by kinds rd parts p m ≡ Gives y r → IsInitialiser kinds p r y
initialiser_by_sound kinds rd ird parts ip p r y sign.CurlyOpens e h =
    let t = then_gives (parts (next p)) _ y r h in
    let c = curly_closes_gives (mark_at kinds t.1) _ y r t.3 in
    gives_as (λ z v. IsInitialiser kinds p v z) (initialiser_node.Braces t.0 p.at) y (next t.1) r c.1
    (grammar.braces p t.1 t.0 (says kinds p sign.CurlyOpens e (λ z. cc)) (ip (next p) t.0 t.1 t.2) (says kinds t.1 sign.CurlyCloses c.0 (λ z. cc)))
initialiser_by_sound kinds rd ird parts ip p r y _ e h =
    let t = then_gives (rd 1 p) _ y r h in
    gives_as (λ z v. IsInitialiser kinds p v z) (initialiser_node.Value t.0 p.at) y t.1 r t.3 (grammar.value_initialiser p t.1 t.0 (ird 1 p t.0 t.1 (omega arith) t.2))

parts_sound : (kinds : List TokenKind) (one : ReadsInitialiser) → IsSound (IsInitialiser kinds) one → (n : ℕ) → IsSound (AreParts kinds) (listed kinds one n)
parts_sound kinds one io n =
    listed_sound kinds (IsInitialiser kinds) (AreParts kinds) (λ p q x d. grammar.one_part p q x d) (λ p q x d a. grammar.last_part p q x d a)
    (λ p q r x xs d a e. grammar.more_parts p q r x xs d a e) one io n

pub initialiser_sound : (kinds : List TokenKind) (n : ℕ) → IsSound (IsInitialiser kinds) (read.initialiser kinds n)
initialiser_sound kinds zero p y r h = let z = initialiser_none kinds p in cc
initialiser_sound kinds (suc n) p y r h =
    initialiser_by_sound kinds (readers.read kinds (suc n)) (reader_sound kinds (suc n)) (listed kinds (read.initialiser kinds n) n)
    (parts_sound kinds (read.initialiser kinds n) (initialiser_sound kinds n) n) p r y (mark_at kinds p) refl (sym (initialiser_on kinds n p) ∙ h)

declared_by_sound : (kinds : List TokenKind) (ini : ReadsInitialiser) → IsSound (IsInitialiser kinds) ini → (defines : Bool) (p q r : Place) (d : Titled) (y : Declared) (m : Mark)
    → mark_at kinds q ≡ m → DecoratedAs kinds p q d → read.declared_by ini defines d q m ≡ Gives y r → IsDeclared kinds defines p r y
declared_by_sound kinds ini ii defines p q r (Titles name parameters inner) y sign.Equals e d h =
    let t = then_gives (ini (declare (next q) name defines)) _ y r h in
    gives_as (λ z v. IsDeclared kinds defines p v z) (declared_node.Initialised inner t.0 q.at) y t.1 r t.3
    (grammar.initialised_declared p q t.1 name parameters inner t.0 d (says kinds q sign.Equals e (λ z. cc)) (ii (declare (next q) name defines) t.0 t.1 t.2))
declared_by_sound kinds ini ii defines p q r (Titles name parameters inner) y _ e d h =
    gives_as (λ z v. IsDeclared kinds defines p v z) (declared_node.Plain inner) y (declare q name defines) r h (grammar.plain_declared p q name parameters inner d)

pub declared_after_sound : (kinds : List TokenKind) (n : ℕ) (defines : Bool) (p q r : Place) (d : Titled) (y : Declared) → DecoratedAs kinds p q d
    → read.declared_after kinds (read.initialiser kinds n) defines d q ≡ Gives y r → IsDeclared kinds defines p r y
declared_after_sound kinds n defines p q r d y a h =
    declared_by_sound kinds (read.initialiser kinds n) (initialiser_sound kinds n) defines p q r d y (mark_at kinds q) refl a h

declared_sound : (kinds : List TokenKind) (n : ℕ) (defines : Bool) → IsSound (IsDeclared kinds defines) (read.declared kinds (declarator kinds n) (read.initialiser kinds n) defines)
declared_sound kinds n defines p y r h =
    let t = then_gives (declarator kinds n p) (read.declared_after kinds (read.initialiser kinds n) defines) y r h in
    declared_after_sound kinds n defines p t.1 r t.0 y (declarator_sound kinds n p t.0 t.1 t.2) t.3

pub names_sound : (kinds : List TokenKind) (n : ℕ) (defines : Bool) → IsSound (AreDeclared kinds defines) (read.names_with kinds n defines)
names_sound kinds n defines =
    separated_sound kinds (IsDeclared kinds defines) (AreDeclared kinds defines) (λ p q x d. grammar.one_declared p q x d) (λ p q r x xs d a e. grammar.more_declared p q r x xs d a e)
    (read.declared kinds (declarator kinds n) (read.initialiser kinds n) defines) (declared_sound kinds n defines) n

pub declaration_end_sound : (kinds : List TokenKind) (p q r s : Place) (defines : Bool) (list : List Specifier) (names : List Declared) (y : Declaration) → AreSpecifiers kinds p q defines list
    → AreDeclared kinds defines q r names → read.declaration_end kinds list names r ≡ Gives y s → IsDeclaration kinds p s y
declaration_end_sound kinds p q r s defines list names y d e h =
    let c = semicolon_gives (mark_at kinds r) _ y s h in
    gives_as (λ z v. IsDeclaration kinds p v z) (record { specifiers = list; names = names; at = r.at }) y (next r) s c.1
    (grammar.some_names p q r defines list names d e (says kinds r sign.Semicolon c.0 (λ z. cc)))

declaration_by_sound : (kinds : List TokenKind) (n : ℕ) (p q r : Place) (defines : Bool) (list : List Specifier) (y : Declaration) (m : Mark) → AreSpecifiers kinds p q defines list
    → mark_at kinds q ≡ m → read.declaration_by kinds (read.names_with kinds n) defines list q m ≡ Gives y r → IsDeclaration kinds p r y
declaration_by_sound kinds n p q r defines list y sign.Semicolon d e h =
    gives_as (λ z v. IsDeclaration kinds p v z) (record { specifiers = list; names = []; at = q.at }) y (next q) r h
    (grammar.no_names p q defines list d (says kinds q sign.Semicolon e (λ z. cc)))
declaration_by_sound kinds n p q r defines list y _ d e h =
    let t = then_gives (read.names_with kinds n defines q) (read.declaration_end kinds list) y r h in
    declaration_end_sound kinds p q t.1 r defines list t.0 y d (names_sound kinds n defines q t.0 t.1 t.2) t.3

declaration_after_sound : (kinds : List TokenKind) (n : ℕ) (p q r : Place) (s : Specified) (y : Declaration) → SpecifiedAs kinds p q s
    → read.declaration_after kinds (read.names_with kinds n) s q ≡ Gives y r → IsDeclaration kinds p r y
declaration_after_sound kinds n p q r (Specifies defines list) y d h = declaration_by_sound kinds n p q r defines list y (mark_at kinds q) d refl h

pub specifiers_sound : (kinds : List TokenKind) (n : ℕ) → IsSound (SpecifiedAs kinds) (specifiers kinds n)
specifiers_sound kinds n = let i = readers_sound kinds n in i.2

pub declaration_sound : (kinds : List TokenKind) (n : ℕ) → IsSound (IsDeclaration kinds) (read.declaration kinds n)
declaration_sound kinds n p y r h =
    let t = then_gives (specifiers kinds n p) (read.declaration_after kinds (read.names_with kinds n)) y r h in
    declaration_after_sound kinds n p t.1 r t.0 y (specifiers_sound kinds n p t.0 t.1 t.2) t.3

-- ---- parts of statements

test_sound : (kinds : List TokenKind) (rd : ReadsExpression) → IsSoundReader kinds rd → IsSound (IsTest kinds) (read.test kinds rd)
test_sound kinds rd ird p y r h =
    let a = opens_gives (mark_at kinds p) _ y r h in
    let t = then_gives (rd 0 (next p)) _ y r a.1 in
    let c = closes_gives (mark_at kinds t.1) _ y r t.3 in
    gives_as (λ z v. IsTest kinds p v z) t.0 y (next t.1) r c.1
    (grammar.bracketed_test p t.1 t.0 (says kinds p sign.RoundOpens a.0 (λ z. cc)) (ird 0 (next p) t.0 t.1 (omega arith) t.2) (says kinds t.1 sign.RoundCloses c.0 (λ z. cc)))

some_sound : (kinds : List TokenKind) (rd : ReadsExpression) → IsSoundReader kinds rd → (p r : Place) (y : Option Expression) → and_then (rd 0 p) read.some ≡ Gives y r → IsOptional kinds p r y
some_sound kinds rd ird p r y h =
    let t = then_gives (rd 0 p) read.some y r h in
    gives_as (λ z v. IsOptional kinds p v z) (Some t.0) y t.1 r t.3 (grammar.some_value p t.1 t.0 (ird 0 p t.0 t.1 (omega arith) t.2))

optional_sound : (kinds : List TokenKind) (rd : ReadsExpression) → IsSoundReader kinds rd → (p r : Place) (y : Option Expression) (m : Mark) → read.optional_by rd p m ≡ Gives y r → IsOptional kinds p r y
optional_sound kinds rd ird p r y sign.Semicolon h = gives_as (λ z v. IsOptional kinds p v z) None y p r h (grammar.no_value p)
optional_sound kinds rd ird p r y _ h = some_sound kinds rd ird p r y h

optional_step_sound : (kinds : List TokenKind) (rd : ReadsExpression) → IsSoundReader kinds rd → (p r : Place) (y : Option Expression) (m : Mark) → read.optional_step_by rd p m ≡ Gives y r → IsOptional kinds p r y
optional_step_sound kinds rd ird p r y sign.RoundCloses h = gives_as (λ z v. IsOptional kinds p v z) None y p r h (grammar.no_value p)
optional_step_sound kinds rd ird p r y _ h = some_sound kinds rd ird p r y h

start_else_sound : (kinds : List TokenKind) (rd : ReadsExpression) → IsSoundReader kinds rd → (dn : ReadsDeclaration) → IsSound (IsDeclaration kinds) dn → (p r : Place) (y : ForStart) (b : Bool)
    → read.start_else kinds rd dn p b ≡ Gives y r → IsForStart kinds p r y
start_else_sound kinds rd ird dn id p r y true h =
    let t = then_gives (dn p) _ y r h in
    gives_as (λ z v. IsForStart kinds p v z) (start_node.Declared t.0) y t.1 r t.3 (grammar.start_declared p t.1 t.0 (id p t.0 t.1 t.2))
start_else_sound kinds rd ird dn id p r y false h =
    let t = then_gives (rd 0 p) _ y r h in
    let c = semicolon_gives (mark_at kinds t.1) _ y r t.3 in
    gives_as (λ z v. IsForStart kinds p v z) (start_node.Value t.0) y (next t.1) r c.1
    (grammar.start_value p t.1 t.0 (ird 0 p t.0 t.1 (omega arith) t.2) (says kinds t.1 sign.Semicolon c.0 (λ z. cc)))

start_sound : (kinds : List TokenKind) (rd : ReadsExpression) → IsSoundReader kinds rd → (dn : ReadsDeclaration) → IsSound (IsDeclaration kinds) dn → (p r : Place) (y : ForStart) (m : Mark)
    → mark_at kinds p ≡ m → read.start_by kinds rd dn p m ≡ Gives y r → IsForStart kinds p r y
start_sound kinds rd ird dn id p r y sign.Semicolon e h =
    gives_as (λ z v. IsForStart kinds p v z) start_node.Nothing y (next p) r h (grammar.start_nothing p (says kinds p sign.Semicolon e (λ z. cc)))
start_sound kinds rd ird dn id p r y _ e h = start_else_sound kinds rd ird dn id p r y (begins_type kinds p) h

-- ---- statements

-- spelled; and no `else` follows to which it would be open
abbrev pub Whole : List TokenKind → Place → Place → Statement → Type 0
Whole kinds p q x = (ends_open : Bool) × IsStatement kinds ends_open p q x × (ends_open ≡ true → mark_at kinds q ≡ sign.Else → ⊥)

abbrev WholeLabelled : List TokenKind → Place → Place → Statement → Type 0
WholeLabelled kinds p q x = (ends_open : Bool) × IsLabelled kinds ends_open p q x × (ends_open ≡ true → mark_at kinds q ≡ sign.Else → ⊥)

labelled_by_sound : (kinds : List TokenKind) (st : ReadsStatement) → IsSound (Whole kinds) st → (p r : Place) (y : Statement) (m : Mark) → mark_at kinds p ≡ m
    → read.labelled_by st p m ≡ Gives y r → WholeLabelled kinds p r y
labelled_by_sound kinds st is p r y sign.CurlyCloses e h =
    gives_as (λ z v. WholeLabelled kinds p v z) (statement_node.Empty p.at) y p r h (false, grammar.labelled_end p (says kinds p sign.CurlyCloses e (λ z. cc)), λ f g. cc)
labelled_by_sound kinds st is p r y _ e h = let t = is p y r h in (t.0, grammar.labelled_statement t.0 p r y t.1, t.2)

labelled_sound : (kinds : List TokenKind) (st : ReadsStatement) → IsSound (Whole kinds) st → (p r : Place) (y : Statement) → read.labelled kinds st p ≡ Gives y r → WholeLabelled kinds p r y
labelled_sound kinds st is p r y h = labelled_by_sound kinds st is p r y (mark_at kinds p) refl h

-- chains

abbrev pub ChainAs : List TokenKind → Place → Place → Chain → Type 0
ChainAs kinds p q (Chains branches otherwise) = (ends_open : Bool) × IsChain kinds ends_open p q branches otherwise × (ends_open ≡ true → mark_at kinds q ≡ sign.Else → ⊥)

-- after a statement that an `else` follows
closed_by : (kinds : List TokenKind) (p q : Place) (x : Statement) (ends_open : Bool) → IsStatement kinds ends_open p q x → (ends_open ≡ true → mark_at kinds q ≡ sign.Else → ⊥)
    → mark_at kinds q ≡ sign.Else → IsStatement kinds false p q x
closed_by kinds p q x true d f e = absurd (f refl e)
closed_by kinds p q x false d f e = d

closed : (kinds : List TokenKind) (p q : Place) (x : Statement) → Whole kinds p q x → mark_at kinds q ≡ sign.Else → IsStatement kinds false p q x
closed kinds p q x w e = closed_by kinds p q x w.0 w.1 w.2 e

first_chained_sound : (kinds : List TokenKind) (p q r s t : Place) (x : Expression) (body : Statement) (c y : Chain) → At kinds p token.If → IsTest kinds (enter (next p)) q x
    → IsStatement kinds false (enter q) r body → At kinds r token.Else → ChainAs kinds (enter (leave (next r))) s c
    → read.first_chained (record { test = x; body = body; at = p.at }) c s ≡ Gives y t → ChainAs kinds p t y
first_chained_sound kinds p q r s t x body (Chains branches otherwise) y a b d e f h =
    gives_as (λ z v. ChainAs kinds p v z) (Chains (record { test = x; body = body; at = p.at } ∷ branches) otherwise) y (leave (leave s)) t h
    (f.0, grammar.else_if p q r s f.0 x body branches otherwise a b d e f.1, f.2)

no_if : (kinds : List TokenKind) (p : Place) (m : Mark) → mark_at kinds p ≡ m → (m ≡ sign.If → ⊥) → At kinds p token.If → ⊥
no_if kinds p m e f a = let g : mark_at kinds p ≡ sign.If = ap mark a in f (sym e ∙ g)

else_last_sound : (kinds : List TokenKind) (st : ReadsStatement) → IsSound (Whole kinds) st → (p q r t : Place) (x : Expression) (body : Statement) (y : Chain) → At kinds p token.If
    → IsTest kinds (enter (next p)) q x → IsStatement kinds false (enter q) r body → At kinds r token.Else → (At kinds (next r) token.If → ⊥)
    → and_then (st (enter (leave (next r)))) (λ z s. Gives (Chains (record { test = x; body = body; at = p.at } ∷ []) (Some z)) (leave (leave s))) ≡ Gives y t → ChainAs kinds p t y
else_last_sound kinds st is p q r t x body y a b d e f h =
    let u = then_gives (st (enter (leave (next r)))) _ y t h in
    let w = is (enter (leave (next r))) u.0 u.1 u.2 in
    gives_as (λ z v. ChainAs kinds p v z) (Chains (record { test = x; body = body; at = p.at } ∷ []) (Some u.0)) y (leave (leave u.1)) t u.3
    (w.0, grammar.last_else p q r u.1 w.0 x body u.0 a b d e f w.1, w.2)

else_by_sound : (kinds : List TokenKind) (st : ReadsStatement) → IsSound (Whole kinds) st → (more : Place → Outcome Chain) → ((p : Place) → At kinds p token.If → (c : Chain) (q : Place) → more p ≡ Gives c q → ChainAs kinds p q c)
    → (p q r t : Place) (x : Expression) (body : Statement) (y : Chain) (m : Mark) → At kinds p token.If
    → IsTest kinds (enter (next p)) q x → IsStatement kinds false (enter q) r body → At kinds r token.Else → mark_at kinds (next r) ≡ m
    → read.else_by st more (record { test = x; body = body; at = p.at }) r m ≡ Gives y t → ChainAs kinds p t y
else_by_sound kinds st is more im p q r t x body y sign.If a b d e f h =
    let u = then_gives (more (enter (leave (next r)))) (read.first_chained (record { test = x; body = body; at = p.at })) y t h in
    first_chained_sound kinds p q r u.1 t x body u.0 y a b d e (im (enter (leave (next r))) (says kinds (next r) sign.If f (λ z. cc)) u.0 u.1 u.2) u.3
else_by_sound kinds st is more im p q r t x body y _ a b d e f h =
    else_last_sound kinds st is p q r t x body y a b d e (no_if kinds (next r) _ f (λ z. cc)) h

abbrev IsSoundChain : List TokenKind → (Place → Outcome Chain) → Type 0
IsSoundChain kinds more = (p : Place) → At kinds p token.If → (c : Chain) (q : Place) → more p ≡ Gives c q → ChainAs kinds p q c

chain_by_sound : (kinds : List TokenKind) (st : ReadsStatement) → IsSound (Whole kinds) st → (more : Place → Outcome Chain) → IsSoundChain kinds more
    → (p q r t : Place) (x : Expression) (body : Statement) (y : Chain) (m : Mark) → At kinds p token.If → IsTest kinds (enter (next p)) q x → Whole kinds (enter q) r body → mark_at kinds r ≡ m
    → read.chain_by kinds st more (record { test = x; body = body; at = p.at }) r m ≡ Gives y t → ChainAs kinds p t y
chain_by_sound kinds st is more im p q r t x body y sign.Else a b w f h =
    else_by_sound kinds st is more im p q r t x body y (mark_at kinds (next r)) a b (closed kinds (enter q) r body w f) (says kinds r sign.Else f (λ z. cc)) refl h
chain_by_sound kinds st is more im p q r t x body y _ a b w f h =
    gives_as (λ z v. ChainAs kinds p v z) (Chains (record { test = x; body = body; at = p.at } ∷ []) None) y (leave (leave r)) t h
    (true, grammar.last_if p q r w.0 x body a b w.1, λ g k. let z = sym f ∙ k in cc)

chain_sound : (kinds : List TokenKind) (rd : ReadsExpression) → IsSoundReader kinds rd → (st : ReadsStatement) → IsSound (Whole kinds) st → (n : ℕ) → IsSoundChain kinds (read.chain kinds rd st n)
chain_sound kinds rd ird st is zero p a y t h = let z = chain_none kinds rd st p in cc
chain_sound kinds rd ird st is (suc n) p a y t h =
    let u = then_gives (read.test kinds rd (enter (next p))) (read.chain_of kinds st (read.chain kinds rd st n) p) y t (sym (chain_on kinds rd st n p) ∙ h) in
    let v = then_gives (st (enter u.1)) _ y t u.3 in
    chain_by_sound kinds st is (read.chain kinds rd st n) (chain_sound kinds rd ird st is n) p u.1 v.1 t u.0 v.0 y (mark_at kinds v.1) a
    (test_sound kinds rd ird (enter (next p)) u.0 u.1 u.2) (is (enter u.1) v.0 v.1 v.2) refl v.3

chained_sound : (kinds : List TokenKind) (p q r : Place) (c : Chain) (y : Statement) → ChainAs kinds p q c → read.chained c q ≡ Gives y r → Whole kinds p r y
chained_sound kinds p q r (Chains branches None) y d h =
    gives_as (λ z v. Whole kinds p v z) (statement_node.If branches) y q r h (d.0, grammar.if_alone p q d.0 branches d.1, d.2)
chained_sound kinds p q r (Chains branches (Some x)) y d h =
    gives_as (λ z v. Whole kinds p v z) (statement_node.IfElse branches x) y q r h (d.0, grammar.if_else p q d.0 branches x d.1, d.2)

-- blocks

item_by_sound : (kinds : List TokenKind) (dn : ReadsDeclaration) → IsSound (IsDeclaration kinds) dn → (st : ReadsStatement) → IsSound (Whole kinds) st → (p q r : Place) (y : BlockItem)
    (xs : List BlockItem) (b : Bool) → read.item_by dn st p b ≡ Gives y q → AreItems kinds q r xs → AreItems kinds p r (y ∷ xs)
item_by_sound kinds dn id st is p q r y xs true h d =
    let t = then_gives (dn p) _ y q h in
    gives_as (λ z v. AreItems kinds v r xs → AreItems kinds p r (z ∷ xs)) (item_node.Declared t.0) y t.1 q t.3 (λ e. grammar.declared_item p t.1 r t.0 xs (id p t.0 t.1 t.2) e) d
item_by_sound kinds dn id st is p q r y xs false h d =
    let t = then_gives (st p) _ y q h in
    let w = is p t.0 t.1 t.2 in
    gives_as (λ z v. AreItems kinds v r xs → AreItems kinds p r (z ∷ xs)) (item_node.Run t.0) y t.1 q t.3 (λ e. grammar.statement_item p t.1 r w.0 t.0 xs w.1 e) d

block_by_sound : (kinds : List TokenKind) (dn : ReadsDeclaration) → IsSound (IsDeclaration kinds) dn → (st : ReadsStatement) → IsSound (Whole kinds) st → (more : ListOf BlockItem)
    → IsSound (AreItems kinds) more → (p r : Place) (xs : List BlockItem) (m : Mark) → read.block_by kinds dn st more p m ≡ Gives xs r → AreItems kinds p r xs
block_by_sound kinds dn id st is more im p r xs sign.CurlyCloses h = gives_as (λ y v. AreItems kinds p v y) [] xs p r h (grammar.no_items p)
block_by_sound kinds dn id st is more im p r xs _ h =
    let t = then_gives (read.item kinds dn st p) _ xs r h in
    let u = then_gives (more t.1) _ xs r t.3 in
    gives_as (λ y v. AreItems kinds p v y) (t.0 ∷ u.0) xs u.1 r u.3
    (item_by_sound kinds dn id st is p t.1 u.1 t.0 u.0 (read.declares kinds p) t.2 (im t.1 u.0 u.1 u.2))

block_sound : (kinds : List TokenKind) (dn : ReadsDeclaration) → IsSound (IsDeclaration kinds) dn → (st : ReadsStatement) → IsSound (Whole kinds) st → (n : ℕ)
    → IsSound (AreItems kinds) (read.block kinds dn st n)
block_sound kinds dn id st is zero p xs r h = let z = block_none kinds dn st p in cc
block_sound kinds dn id st is (suc n) p xs r h =
    block_by_sound kinds dn id st is (read.block kinds dn st n) (block_sound kinds dn id st is n) p r xs (mark_at kinds p) (sym (block_on kinds dn st n p) ∙ h)

-- the other statements: none of these is open at its end by itself

plainly : (kinds : List TokenKind) (p q r : Place) (x y : Statement) → IsStatement kinds false p q x → Gives x q ≡ Gives y r → Whole kinds p r y
plainly kinds p q r x y d h = gives_as (λ z v. Whole kinds p v z) x y q r h (false, d, λ f g. cc)

value_sound : (kinds : List TokenKind) (rd : ReadsExpression) → IsSoundReader kinds rd → IsSound (Whole kinds) (read.value_statement kinds rd)
value_sound kinds rd ird p y r h =
    let t = then_gives (rd 0 p) _ y r h in
    let c = semicolon_gives (mark_at kinds t.1) _ y r t.3 in
    plainly kinds p (next t.1) r (statement_node.Value t.0 t.1.at) y
    (grammar.value_statement p t.1 t.0 (ird 0 p t.0 t.1 (omega arith) t.2) (says kinds t.1 sign.Semicolon c.0 (λ z. cc))) c.1

block_statement_sound : (kinds : List TokenKind) (items : ListOf BlockItem) → IsSound (AreItems kinds) items → (p r : Place) (y : Statement) → At kinds p token.LeftBrace
    → read.block_statement kinds items p ≡ Gives y r → Whole kinds p r y
block_statement_sound kinds items ii p r y a h =
    let t = then_gives (items (enter (next p))) _ y r h in
    let c = curly_closes_gives (mark_at kinds t.1) _ y r t.3 in
    plainly kinds p (leave (next t.1)) r (statement_node.Block t.0 p.at) y
    (grammar.block p t.1 t.0 a (ii (enter (next p)) t.0 t.1 t.2) (says kinds t.1 sign.CurlyCloses c.0 (λ z. cc))) c.1

name_sound : (kinds : List TokenKind) (rd : ReadsExpression) → IsSoundReader kinds rd → (st : ReadsStatement) → IsSound (Whole kinds) st → (p r : Place) (text : List ℕ) (y : Statement) (m : Mark)
    → At kinds p (token.Name text) → mark_at kinds (next p) ≡ m → read.name_statement kinds rd st p text m ≡ Gives y r → Whole kinds p r y
name_sound kinds rd ird st is p r text y sign.Colon a e h =
    let t = then_gives (read.labelled kinds st (next (next p))) _ y r h in
    let w = labelled_sound kinds st is (next (next p)) t.1 t.0 t.2 in
    gives_as (λ z v. Whole kinds p v z) (statement_node.Label text t.0 p.at) y t.1 r t.3
    (w.0, grammar.label p t.1 w.0 text t.0 a (says kinds (next p) sign.Colon e (λ z. cc)) w.1, w.2)
name_sound kinds rd ird st is p r text y _ a e h = value_sound kinds rd ird p y r h

case_sound : (kinds : List TokenKind) (rd : ReadsExpression) → IsSoundReader kinds rd → (st : ReadsStatement) → IsSound (Whole kinds) st → (p r : Place) (y : Statement) → At kinds p token.Case
    → read.case_statement kinds rd st p ≡ Gives y r → Whole kinds p r y
case_sound kinds rd ird st is p r y a h =
    let t = then_gives (rd 2 (next p)) _ y r h in
    let c = colon_gives (mark_at kinds t.1) _ y r t.3 in
    let u = then_gives (read.labelled kinds st (next t.1)) _ y r c.1 in
    let w = labelled_sound kinds st is (next t.1) u.1 u.0 u.2 in
    gives_as (λ z v. Whole kinds p v z) (statement_node.Case t.0 u.0 p.at) y u.1 r u.3
    (w.0, grammar.case_label p t.1 u.1 w.0 t.0 u.0 a (ird 2 (next p) t.0 t.1 (omega arith) t.2) (says kinds t.1 sign.Colon c.0 (λ z. cc)) w.1, w.2)

default_sound : (kinds : List TokenKind) (st : ReadsStatement) → IsSound (Whole kinds) st → (p r : Place) (y : Statement) → At kinds p token.Default
    → read.default_statement kinds st p ≡ Gives y r → Whole kinds p r y
default_sound kinds st is p r y a h =
    let c = colon_gives (mark_at kinds (next p)) _ y r h in
    let u = then_gives (read.labelled kinds st (next (next p))) _ y r c.1 in
    let w = labelled_sound kinds st is (next (next p)) u.1 u.0 u.2 in
    gives_as (λ z v. Whole kinds p v z) (statement_node.Default u.0 p.at) y u.1 r u.3
    (w.0, grammar.default_label p u.1 w.0 u.0 a (says kinds (next p) sign.Colon c.0 (λ z. cc)) w.1, w.2)

switch_sound : (kinds : List TokenKind) (rd : ReadsExpression) → IsSoundReader kinds rd → (st : ReadsStatement) → IsSound (Whole kinds) st → (p r : Place) (y : Statement) → At kinds p token.Switch
    → read.switch_statement kinds rd st p ≡ Gives y r → Whole kinds p r y
switch_sound kinds rd ird st is p r y a h =
    let t = then_gives (read.test kinds rd (enter (next p))) _ y r h in
    let u = then_gives (st (enter t.1)) _ y r t.3 in
    let w = is (enter t.1) u.0 u.1 u.2 in
    gives_as (λ z v. Whole kinds p v z) (statement_node.Switch t.0 u.0 p.at) y (leave (leave u.1)) r u.3
    (w.0, grammar.switch_on p t.1 u.1 w.0 t.0 u.0 a (test_sound kinds rd ird (enter (next p)) t.0 t.1 t.2) w.1, w.2)

while_sound : (kinds : List TokenKind) (rd : ReadsExpression) → IsSoundReader kinds rd → (st : ReadsStatement) → IsSound (Whole kinds) st → (p r : Place) (y : Statement) → At kinds p token.While
    → read.while_statement kinds rd st p ≡ Gives y r → Whole kinds p r y
while_sound kinds rd ird st is p r y a h =
    let t = then_gives (read.test kinds rd (enter (next p))) _ y r h in
    let u = then_gives (st (enter t.1)) _ y r t.3 in
    let w = is (enter t.1) u.0 u.1 u.2 in
    gives_as (λ z v. Whole kinds p v z) (statement_node.While t.0 u.0 p.at) y (leave (leave u.1)) r u.3
    (w.0, grammar.while_loop p t.1 u.1 w.0 t.0 u.0 a (test_sound kinds rd ird (enter (next p)) t.0 t.1 t.2) w.1, w.2)

do_sound : (kinds : List TokenKind) (rd : ReadsExpression) → IsSoundReader kinds rd → (st : ReadsStatement) → IsSound (Whole kinds) st → (p r : Place) (y : Statement) → At kinds p token.Do
    → read.do_statement kinds rd st p ≡ Gives y r → Whole kinds p r y
do_sound kinds rd ird st is p r y a h =
    let t = then_gives (st (enter (enter (next p)))) (read.do_after kinds rd p) y r h in
    let w = is (enter (enter (next p))) t.0 t.1 t.2 in
    let b = while_gives (mark_at kinds t.1) _ y r t.3 in
    let u = then_gives (read.test kinds rd (leave (next t.1))) _ y r b.1 in
    let c = semicolon_gives (mark_at kinds u.1) _ y r u.3 in
    plainly kinds p (leave (next u.1)) r (statement_node.Do t.0 u.0 p.at) y
    (grammar.do_loop p t.1 u.1 w.0 t.0 u.0 a w.1 (says kinds t.1 sign.While b.0 (λ z. cc)) (test_sound kinds rd ird (leave (next t.1)) u.0 u.1 u.2) (says kinds u.1 sign.Semicolon c.0 (λ z. cc))) c.1

for_sound : (kinds : List TokenKind) (rd : ReadsExpression) → IsSoundReader kinds rd → (dn : ReadsDeclaration) → IsSound (IsDeclaration kinds) dn → (st : ReadsStatement) → IsSound (Whole kinds) st
    → (p r : Place) (y : Statement) → At kinds p token.For → read.for_statement kinds rd dn st p ≡ Gives y r → Whole kinds p r y
for_sound kinds rd ird dn id st is p r y a h =
    let b = opens_gives (mark_at kinds (next p)) _ y r h in
    let t = then_gives (read.start_by kinds rd dn (enter (next (next p))) (mark_at kinds (enter (next (next p))))) (read.for_test kinds rd st p) y r b.1 in
    let u = then_gives (read.optional_by rd t.1 (mark_at kinds t.1)) (read.for_step kinds rd st p t.0) y r t.3 in
    let c = semicolon_gives (mark_at kinds u.1) _ y r u.3 in
    let v = then_gives (read.optional_step_by rd (next u.1) (mark_at kinds (next u.1))) _ y r c.1 in
    let d = closes_gives (mark_at kinds v.1) _ y r v.3 in
    let f = then_gives (st (enter (next v.1))) _ y r d.1 in
    let w = is (enter (next v.1)) f.0 f.1 f.2 in
    gives_as (λ z o. Whole kinds p o z) (statement_node.For t.0 u.0 v.0 f.0 p.at) y (leave (leave f.1)) r f.3 (
      w.0,
      grammar.for_loop p t.1 u.1 v.1 f.1 w.0 t.0 u.0 v.0 f.0 a (says kinds (next p) sign.RoundOpens b.0 (λ z. cc))
          (start_sound kinds rd ird dn id (enter (next (next p))) t.1 t.0 (mark_at kinds (enter (next (next p)))) refl t.2)
          (optional_sound kinds rd ird t.1 u.1 u.0 (mark_at kinds t.1) u.2) (says kinds u.1 sign.Semicolon c.0 (λ z. cc))
          (optional_step_sound kinds rd ird (next u.1) v.1 v.0 (mark_at kinds (next u.1)) v.2) (says kinds v.1 sign.RoundCloses d.0 (λ z. cc)) w.1,
      w.2,
    )

return_sound : (kinds : List TokenKind) (rd : ReadsExpression) → IsSoundReader kinds rd → (p r : Place) (y : Statement) → At kinds p token.Return → read.return_statement kinds rd p ≡ Gives y r → Whole kinds p r y
return_sound kinds rd ird p r y a h =
    let t = then_gives (read.optional_by rd (next p) (mark_at kinds (next p))) _ y r h in
    let c = semicolon_gives (mark_at kinds t.1) _ y r t.3 in
    plainly kinds p (next t.1) r (statement_node.Return t.0 p.at) y
    (grammar.return_from p t.1 t.0 a (optional_sound kinds rd ird (next p) t.1 t.0 (mark_at kinds (next p)) t.2) (says kinds t.1 sign.Semicolon c.0 (λ z. cc))) c.1

break_sound : (kinds : List TokenKind) (p r : Place) (y : Statement) → At kinds p token.Break → read.plain_statement kinds (statement_node.Break p.at) p ≡ Gives y r → Whole kinds p r y
break_sound kinds p r y a h =
    let c = semicolon_gives (mark_at kinds (next p)) _ y r h in
    plainly kinds p (next (next p)) r (statement_node.Break p.at) y (grammar.break_out p a (says kinds (next p) sign.Semicolon c.0 (λ z. cc))) c.1

continue_sound : (kinds : List TokenKind) (p r : Place) (y : Statement) → At kinds p token.Continue → read.plain_statement kinds (statement_node.Continue p.at) p ≡ Gives y r → Whole kinds p r y
continue_sound kinds p r y a h =
    let c = semicolon_gives (mark_at kinds (next p)) _ y r h in
    plainly kinds p (next (next p)) r (statement_node.Continue p.at) y (grammar.continue_on p a (says kinds (next p) sign.Semicolon c.0 (λ z. cc))) c.1

statement_by_sound : (kinds : List TokenKind) (rd : ReadsExpression) → IsSoundReader kinds rd → (dn : ReadsDeclaration) → IsSound (IsDeclaration kinds) dn → (st : ReadsStatement) → IsSound (Whole kinds) st
    → (n : ℕ) (p r : Place) (y : Statement) (m : Mark) → mark_at kinds p ≡ m → read.statement_by kinds rd dn st n p m ≡ Gives y r → Whole kinds p r y
statement_by_sound kinds rd ird dn id st is n p r y sign.CurlyOpens e h =
    block_statement_sound kinds (read.block kinds dn st n) (block_sound kinds dn id st is n) p r y (says kinds p sign.CurlyOpens e (λ z. cc)) h
statement_by_sound kinds rd ird dn id st is n p r y sign.Semicolon e h =
    plainly kinds p (next p) r (statement_node.Empty p.at) y (grammar.empty_statement p (says kinds p sign.Semicolon e (λ z. cc))) h
statement_by_sound kinds rd ird dn id st is n p r y (sign.Name text) e h =
    name_sound kinds rd ird st is p r text y (mark_at kinds (next p)) (says kinds p (sign.Name text) e (λ z. cc)) refl h
statement_by_sound kinds rd ird dn id st is n p r y sign.Case e h = case_sound kinds rd ird st is p r y (says kinds p sign.Case e (λ z. cc)) h
statement_by_sound kinds rd ird dn id st is n p r y sign.Default e h = default_sound kinds st is p r y (says kinds p sign.Default e (λ z. cc)) h
statement_by_sound kinds rd ird dn id st is n p r y sign.If e h =
    let t = then_gives (read.chain kinds rd st n p) read.chained y r h in
    chained_sound kinds p t.1 r t.0 y (chain_sound kinds rd ird st is n p (says kinds p sign.If e (λ z. cc)) t.0 t.1 t.2) t.3
statement_by_sound kinds rd ird dn id st is n p r y sign.Switch e h = switch_sound kinds rd ird st is p r y (says kinds p sign.Switch e (λ z. cc)) h
statement_by_sound kinds rd ird dn id st is n p r y sign.While e h = while_sound kinds rd ird st is p r y (says kinds p sign.While e (λ z. cc)) h
statement_by_sound kinds rd ird dn id st is n p r y sign.Do e h = do_sound kinds rd ird st is p r y (says kinds p sign.Do e (λ z. cc)) h
statement_by_sound kinds rd ird dn id st is n p r y sign.For e h = for_sound kinds rd ird dn id st is p r y (says kinds p sign.For e (λ z. cc)) h
statement_by_sound kinds rd ird dn id st is n p r y sign.Break e h = break_sound kinds p r y (says kinds p sign.Break e (λ z. cc)) h
statement_by_sound kinds rd ird dn id st is n p r y sign.Continue e h = continue_sound kinds p r y (says kinds p sign.Continue e (λ z. cc)) h
statement_by_sound kinds rd ird dn id st is n p r y sign.Return e h = return_sound kinds rd ird p r y (says kinds p sign.Return e (λ z. cc)) h
statement_by_sound kinds rd ird dn id st is n p r y _ e h = value_sound kinds rd ird p y r h

pub statement_sound : (kinds : List TokenKind) (n : ℕ) → IsSound (Whole kinds) (read.statement kinds n)
statement_sound kinds zero p y r h = let z = statement_none kinds p in cc
statement_sound kinds (suc n) p y r h =
    statement_by_sound kinds (readers.read kinds (suc n)) (reader_sound kinds (suc n)) (read.declaration kinds n) (declaration_sound kinds n) (read.statement kinds n) (statement_sound kinds n)
    (suc n) p r y (mark_at kinds p) refl (sym (statement_on kinds n p) ∙ h)

pub items_sound : (kinds : List TokenKind) (n m : ℕ) → IsSound (AreItems kinds) (read.block kinds (read.declaration kinds n) (read.statement kinds n) m)
items_sound kinds n m = block_sound kinds (read.declaration kinds n) (declaration_sound kinds n) (read.statement kinds n) (statement_sound kinds n) m
