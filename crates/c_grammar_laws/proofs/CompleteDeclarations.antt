-- What the tokens spell is what the reader of declarations reads.
use Rattle.std.proofs.Common.{◌≡◌, ℕ, zero, suc, ◌+◌, ◌<◌, ◌≤◌, List, [], ◌∷◌, Option, Bool, true, false, refl, ap, ◌∙◌, arith, inl, inr}
use Rattle.std.specs.Prelude.{◌⊎◌}
use Rattle.c_tokens.specs.declared.token.TokenKind.{TokenKind}
use Rattle.c_tokens.specs.declared.token.TokenKind.TheVariants as token
use Rattle.c_tree.specs.declared.expression.Expression.{Expression}
use Rattle.c_tree.specs.declared.expression.Specifier.{Specifier}
use Rattle.c_tree.specs.declared.expression.Declarator.{Declarator}
use Rattle.c_tree.specs.declared.declaration.Initialiser.{Initialiser}
use Rattle.c_tree.specs.declared.declaration.Initialiser.TheVariants as initialiser_node
use Rattle.c_tree.specs.declared.declaration.Declared.{Declared}
use Rattle.c_tree.specs.declared.declaration.Declared.TheVariants as declared_node
use Rattle.c_tree.specs.declared.declaration.Declaration.{Declaration}
use Rattle.c_tree.specs.declared.scope.Entry.{Entry}
use Rattle.c_tree.specs.Places.{Place, At, next, declare}
use Rattle.c_tree.specs.SpellsStatements as grammar
use Rattle.c_tree.specs.SpellsStatements.{IsInitialiser, AreParts, IsDeclared, AreDeclared, IsDeclaration}
use Rattle.c_grammar.specs.declared.kinds.Suffix.TheVariants.{Commas, NoSuffix}
use Rattle.c_grammar.specs.Kinds.{kind_at, suffix, below}
use Rattle.c_grammar.specs.Marks as sign
use Rattle.c_grammar.specs.Marks.{follows_specifiers, Mark, mark, mark_at, extends_declarator}
use Rattle.c_grammar.specs.ReadExpressions.{Outcome, Gives, and_then, ReadsExpression}
use Rattle.c_grammar.specs.ReadTypes.{ListOf, separated, listed, Specifies, Titled, Titles}
use Rattle.c_grammar.specs.Readers.{specifiers, declarator}
use Rattle.c_grammar.specs.Readers as readers
use Rattle.c_grammar.specs.ReadStatements as rule
use Rattle.c_grammar_laws.specs.Laws.{EndsInitialiser}
use Rattle.c_grammar_laws.proofs.StatementSteps.{initialiser_on}
use Rattle.c_grammar_laws.proofs.Complete.{Enough, Reaches, exact, below_at}
use Rattle.c_grammar_laws.proofs.Leads.{is_operand, begins_declarator, is_curly, declarator_follows, expression_leads, decorated_leads}
use Rattle.c_grammar_laws.proofs.CompleteTypes.{then_on, curly_closes_on, semicolon_on, inside, separated_one, separated_more, listed_one, listed_last, listed_more, is_curly_close}
use Rattle.c_grammar_laws.proofs.CompleteSpecifiers.{ReachesDecorated, ReachesSpecifiers, operand_no_close}
use Rattle.c_grammar_laws.proofs.CompleteReaders.{complete, complete_specifiers, complete_decorated}

-- ---- initialisers

abbrev ReachesInitialiser : List TokenKind → Place → Place → Initialiser → Type 0
ReachesInitialiser kinds p q x = (n : ℕ) → EndsInitialiser kinds q → Enough kinds n p → (p.at < q.at) × (rule.initialiser kinds n p ≡ Gives x q)

abbrev ReachesParts : List TokenKind → Place → Place → List Initialiser → Type 0
ReachesParts kinds p q xs = (n c : ℕ) → At kinds q token.RightBrace → Enough kinds n p → Enough kinds c p
    → (p.at < q.at) × (listed kinds (rule.initialiser kinds n) c p ≡ Gives xs q)

initialiser_below : (kinds : List TokenKind) (q : Place) → EndsInitialiser kinds q → below (suffix (kind_at kinds q)) ≤ 1
initialiser_below kinds q (inl a) = below_at kinds 1 q token.Comma Commas a refl (omega arith)
initialiser_below kinds q (inr (inl a)) = below_at kinds 1 q token.Semicolon NoSuffix a refl (omega arith)
initialiser_below kinds q (inr (inr a)) = below_at kinds 1 q token.RightBrace NoSuffix a refl (omega arith)

initialiser_value : (kinds : List TokenKind) (rd : ReadsExpression) (parts : ListOf Initialiser) (p : Place) (m : Mark) → is_operand m ≡ true
    → rule.initialiser_by kinds rd parts p m ≡ and_then (rd 1 p) (λ x q. Gives (initialiser_node.Value x p.at) q)
initialiser_value kinds rd parts p sign.CurlyOpens h = cc
initialiser_value kinds rd parts p _ h = refl

value_goes : (kinds : List TokenKind) (p q : Place) (x : Expression) → is_operand (mark_at kinds p) ≡ true → Reaches kinds 1 p q x → ReachesInitialiser kinds p q (initialiser_node.Value x p.at)
value_goes kinds p q x l ih zero ends e = absurd (omega arith)
value_goes kinds p q x l ih (suc n) ends e =
    let i = exact kinds 1 p q x ih (suc n) (omega arith) (initialiser_below kinds q ends) e in
    let parts = listed kinds (rule.initialiser kinds n) n in
    (i.0, initialiser_on kinds n p ∙ initialiser_value kinds (readers.read kinds (suc n)) parts p (mark_at kinds p) l ∙ then_on (readers.read kinds (suc n) 1 p) x q _ i.1)

braces_goes : (kinds : List TokenKind) (p q : Place) (parts : List Initialiser) → At kinds p token.LeftBrace → ReachesParts kinds (next p) q parts → At kinds q token.RightBrace
    → ReachesInitialiser kinds p (next q) (initialiser_node.Braces parts p.at)
braces_goes kinds p q parts a ih b zero ends e = absurd (omega arith)
braces_goes kinds p q parts a ih b (suc n) ends e =
    let w = inside kinds p token.LeftBrace a in
    let i = ih n n b (omega (arith, w)) (omega (arith, w)) in
    let lt : p.at + 1 < q.at = i.0 in
    let list = listed kinds (rule.initialiser kinds n) n in (
      omega (arith, lt),
      initialiser_on kinds n p ∙ ap (λ k. rule.initialiser_by kinds (readers.read kinds (suc n)) list p (mark k)) a ∙ then_on (list (next p)) parts q _ i.1
          ∙ curly_closes_on kinds q _ b,
    )

one_part_goes : (kinds : List TokenKind) (p q : Place) (x : Initialiser) → ReachesInitialiser kinds p q x → ReachesParts kinds p q (x ∷ [])
one_part_goes kinds p q x ih n zero a e f = absurd (omega arith)
one_part_goes kinds p q x ih n (suc c) a e f =
    let i = ih n (inr (inr a)) e in
    (i.0, listed_one kinds (rule.initialiser kinds n) c p q x i.1 a)

last_part_goes : (kinds : List TokenKind) (p q : Place) (x : Initialiser) → ReachesInitialiser kinds p q x → At kinds q token.Comma → ReachesParts kinds p (next q) (x ∷ [])
last_part_goes kinds p q x ih b n zero a e f = absurd (omega arith)
last_part_goes kinds p q x ih b n (suc c) a e f =
    let i = ih n (inl b) e in
    let lt : p.at < q.at = i.0 in
    (omega (arith, lt), listed_last kinds (rule.initialiser kinds n) c p q x i.1 b a)

more_parts_goes : (kinds : List TokenKind) (p q r : Place) (x : Initialiser) (xs : List Initialiser) → ReachesInitialiser kinds p q x → At kinds q token.Comma
    → is_curly_close (mark_at kinds (next q)) ≡ false → ReachesParts kinds (next q) r xs → ReachesParts kinds p r (x ∷ xs)
more_parts_goes kinds p q r x xs ih b l jh n zero a e f = absurd (omega arith)
more_parts_goes kinds p q r x xs ih b l jh n (suc c) a e f =
    let i = ih n (inl b) e in
    let lt : p.at < q.at = i.0 in
    let w = inside kinds q token.Comma b in
    let j = jh n c a (omega (arith, lt)) (omega (arith, lt, w)) in
    let lr : q.at + 1 < r.at = j.0 in
    (omega (arith, lt, lr), listed_more kinds (rule.initialiser kinds n) c p q r x xs i.1 b l j.1)

initialiser_leads : (kinds : List TokenKind) (p q : Place) (x : Initialiser) → IsInitialiser kinds p q x → is_curly_close (mark_at kinds p) ≡ false
initialiser_leads kinds from to whole (grammar.value_initialiser p q x d) = operand_no_close (mark_at kinds p) (expression_leads kinds 1 p q x d)
initialiser_leads kinds from to whole (grammar.braces p q parts a d b) = ap (λ k. is_curly_close (mark k)) a

parts_lead : (kinds : List TokenKind) (p q : Place) (xs : List Initialiser) → AreParts kinds p q xs → is_curly_close (mark_at kinds p) ≡ false
parts_lead kinds from to whole (grammar.one_part p q x d) = initialiser_leads kinds p q x d
parts_lead kinds from to whole (grammar.last_part p q x d a) = initialiser_leads kinds p q x d
parts_lead kinds from to whole (grammar.more_parts p q r x xs d a e) = initialiser_leads kinds p q x d

mutual
  pub complete_initialiser : (kinds : List TokenKind) (p q : Place) (x : Initialiser) → IsInitialiser kinds p q x → ReachesInitialiser kinds p q x
  complete_initialiser kinds from to whole (grammar.value_initialiser p q x d) = value_goes kinds p q x (expression_leads kinds 1 p q x d) (complete kinds 1 p q x d)
  complete_initialiser kinds from to whole (grammar.braces p q parts a d b) = braces_goes kinds p q parts a (complete_parts kinds (next p) q parts d) b

  complete_parts : (kinds : List TokenKind) (p q : Place) (xs : List Initialiser) → AreParts kinds p q xs → ReachesParts kinds p q xs
  complete_parts kinds from to whole (grammar.one_part p q x d) = one_part_goes kinds p q x (complete_initialiser kinds p q x d)
  complete_parts kinds from to whole (grammar.last_part p q x d a) = last_part_goes kinds p q x (complete_initialiser kinds p q x d) a
  complete_parts kinds from to whole (grammar.more_parts p q r x xs d a e) =
      more_parts_goes kinds p q r x xs (complete_initialiser kinds p q x d) a (parts_lead kinds (next q) r xs e) (complete_parts kinds (next q) r xs e)

-- ---- declared names

abbrev EndsDeclared : List TokenKind → Place → Type 0
EndsDeclared kinds q = At kinds q token.Comma ⊎ At kinds q token.Semicolon

-- the declarator, and what follows it
abbrev pub ReachesDeclared : List TokenKind → Bool → Place → Place → Declared → Type 0
ReachesDeclared kinds defines p r x = (n : ℕ) → EndsDeclared kinds r → Enough kinds n p
    → (d : Titled) × (q : Place) × (p.at < r.at) × (declarator kinds n p ≡ Gives d q) × (is_curly (mark_at kinds q) ≡ false)
    × (rule.declared_after kinds (rule.initialiser kinds n) defines d q ≡ Gives x r)

plain_declared_goes : (kinds : List TokenKind) (defines : Bool) (p q : Place) (name : List ℕ) (parameters : Option (List Entry)) (inner : Declarator)
    → ReachesDecorated kinds p q (Titles name parameters inner) → ReachesDeclared kinds defines p (declare q name defines) (declared_node.Plain inner)
plain_declared_goes kinds defines p q name parameters inner ih n (inl a) e =
    let i = ih n (ap (λ k. extends_declarator (mark k)) a) e in (
      Titles name parameters inner,
      q,
      i.0,
      i.1,
      ap (λ k. is_curly (mark k)) a,
      ap (λ k. rule.declared_by (rule.initialiser kinds n) defines (Titles name parameters inner) q (mark k)) a,
    )
plain_declared_goes kinds defines p q name parameters inner ih n (inr a) e =
    let i = ih n (ap (λ k. extends_declarator (mark k)) a) e in (
      Titles name parameters inner,
      q,
      i.0,
      i.1,
      ap (λ k. is_curly (mark k)) a,
      ap (λ k. rule.declared_by (rule.initialiser kinds n) defines (Titles name parameters inner) q (mark k)) a,
    )

ends_initialiser : (kinds : List TokenKind) (q : Place) → EndsDeclared kinds q → EndsInitialiser kinds q
ends_initialiser kinds q (inl a) = inl a
ends_initialiser kinds q (inr a) = inr (inl a)

initialised_goes : (kinds : List TokenKind) (defines : Bool) (p q r : Place) (name : List ℕ) (parameters : Option (List Entry)) (inner : Declarator) (x : Initialiser)
    → ReachesDecorated kinds p q (Titles name parameters inner) → At kinds q token.Equal → ReachesInitialiser kinds (declare (next q) name defines) r x
    → ReachesDeclared kinds defines p r (declared_node.Initialised inner x q.at)
initialised_goes kinds defines p q r name parameters inner x ih a jh n ends e =
    let i = ih n (ap (λ k. extends_declarator (mark k)) a) e in
    let lt : p.at < q.at = i.0 in
    let j = jh n (ends_initialiser kinds r ends) (omega (arith, lt)) in
    let lr : q.at + 1 < r.at = j.0 in (
      Titles name parameters inner,
      q,
      omega (arith, lt, lr),
      i.1,
      ap (λ k. is_curly (mark k)) a,
      ap (λ k. rule.declared_by (rule.initialiser kinds n) defines (Titles name parameters inner) q (mark k)) a ∙ then_on (rule.initialiser kinds n (declare (next q) name defines)) x r _ j.1,
    )

pub complete_declared : (kinds : List TokenKind) (defines : Bool) (p q : Place) (x : Declared) → IsDeclared kinds defines p q x → ReachesDeclared kinds defines p q x
complete_declared kinds defines from to whole (grammar.plain_declared p q name parameters inner d) =
    plain_declared_goes kinds defines p q name parameters inner (complete_decorated kinds p q name parameters inner d)
complete_declared kinds defines from to whole (grammar.initialised_declared p q r name parameters inner x d a e) =
    initialised_goes kinds defines p q r name parameters inner x (complete_decorated kinds p q name parameters inner d) a (complete_initialiser kinds (declare (next q) name defines) r x e)

abbrev declared_at : List TokenKind → ℕ → Bool → Place → Outcome Declared
declared_at kinds n defines = rule.declared kinds (declarator kinds n) (rule.initialiser kinds n) defines

declared_read : (kinds : List TokenKind) (defines : Bool) (p r : Place) (x : Declared) → ReachesDeclared kinds defines p r x → (n : ℕ) → EndsDeclared kinds r → Enough kinds n p
    → (p.at < r.at) × (declared_at kinds n defines p ≡ Gives x r)
declared_read kinds defines p r x ih n ends e =
    let i = ih n ends e in
    (i.2, then_on (declarator kinds n p) i.0 i.1 _ i.3 ∙ i.5)

abbrev pub ReachesNames : List TokenKind → Bool → Place → Place → List Declared → Type 0
ReachesNames kinds defines p q xs = (n c : ℕ) → At kinds q token.Semicolon → Enough kinds n p → Enough kinds c p
    → (p.at < q.at) × (separated kinds (declared_at kinds n defines) c p ≡ Gives xs q)

one_declared_goes : (kinds : List TokenKind) (defines : Bool) (p q : Place) (x : Declared) → ReachesDeclared kinds defines p q x → ReachesNames kinds defines p q (x ∷ [])
one_declared_goes kinds defines p q x ih n zero a e f = absurd (omega arith)
one_declared_goes kinds defines p q x ih n (suc c) a e f =
    let i = declared_read kinds defines p q x ih n (inr a) e in
    (i.0, separated_one kinds (declared_at kinds n defines) c p q x token.Semicolon i.1 a (λ more. refl))

more_declared_goes : (kinds : List TokenKind) (defines : Bool) (p q r : Place) (x : Declared) (xs : List Declared) → ReachesDeclared kinds defines p q x → At kinds q token.Comma
    → ReachesNames kinds defines (next q) r xs → ReachesNames kinds defines p r (x ∷ xs)
more_declared_goes kinds defines p q r x xs ih a jh n zero b e f = absurd (omega arith)
more_declared_goes kinds defines p q r x xs ih a jh n (suc c) b e f =
    let i = declared_read kinds defines p q x ih n (inl a) e in
    let lt : p.at < q.at = i.0 in
    let w = inside kinds q token.Comma a in
    let j = jh n c b (omega (arith, lt)) (omega (arith, lt, w)) in
    let lr : q.at + 1 < r.at = j.0 in
    (omega (arith, lt, lr), separated_more kinds (declared_at kinds n defines) c p q r x xs i.1 a j.1)

pub complete_names : (kinds : List TokenKind) (defines : Bool) (p q : Place) (xs : List Declared) → AreDeclared kinds defines p q xs → ReachesNames kinds defines p q xs
complete_names kinds defines from to whole (grammar.one_declared p q x d) = one_declared_goes kinds defines p q x (complete_declared kinds defines p q x d)
complete_names kinds defines from to whole (grammar.more_declared p q r x xs d a e) =
    more_declared_goes kinds defines p q r x xs (complete_declared kinds defines p q x d) a (complete_names kinds defines (next q) r xs e)

declared_leads : (kinds : List TokenKind) (defines : Bool) (p q : Place) (x : Declared) → IsDeclared kinds defines p q x → begins_declarator (mark_at kinds p) ≡ true
declared_leads kinds defines from to whole (grammar.plain_declared p q name parameters inner d) = decorated_leads kinds p q name parameters inner d
declared_leads kinds defines from to whole (grammar.initialised_declared p q r name parameters inner x d a e) = decorated_leads kinds p q name parameters inner d

pub names_lead : (kinds : List TokenKind) (defines : Bool) (p q : Place) (xs : List Declared) → AreDeclared kinds defines p q xs → begins_declarator (mark_at kinds p) ≡ true
names_lead kinds defines from to whole (grammar.one_declared p q x d) = declared_leads kinds defines p q x d
names_lead kinds defines from to whole (grammar.more_declared p q r x xs d a e) = declared_leads kinds defines p q x d

-- ---- declarations

abbrev pub ReachesDeclaration : List TokenKind → Place → Place → Declaration → Type 0
ReachesDeclaration kinds p q x = (n : ℕ) → Enough kinds n p → (p.at < q.at) × (rule.declaration kinds n p ≡ Gives x q)

no_names_goes : (kinds : List TokenKind) (p q : Place) (defines : Bool) (list : List Specifier) → ReachesSpecifiers kinds p q defines list → At kinds q token.Semicolon
    → ReachesDeclaration kinds p (next q) (record { specifiers = list; names = []; at = q.at })
no_names_goes kinds p q defines list ih a n e =
    let i = ih n (ap (λ k. follows_specifiers (mark k)) a) e in
    let lt : p.at < q.at = i.0 in (
      omega (arith, lt),
      then_on (specifiers kinds n p) (Specifies defines list) q _ i.1
          ∙ ap (λ k. rule.declaration_by kinds (rule.names_with kinds n) defines list q (mark k)) a,
    )

declaration_named : (kinds : List TokenKind) (names : Bool → ListOf Declared) (defines : Bool) (list : List Specifier) (q : Place) (m : Mark) → begins_declarator m ≡ true
    → rule.declaration_by kinds names defines list q m ≡ and_then (names defines q) (rule.declaration_end kinds list)
declaration_named kinds names defines list q sign.Semicolon h = cc
declaration_named kinds names defines list q _ h = refl

some_names_goes : (kinds : List TokenKind) (p q r : Place) (defines : Bool) (list : List Specifier) (names : List Declared) → ReachesSpecifiers kinds p q defines list
    → begins_declarator (mark_at kinds q) ≡ true → ReachesNames kinds defines q r names → At kinds r token.Semicolon
    → ReachesDeclaration kinds p (next r) (record { specifiers = list; names = names; at = r.at })
some_names_goes kinds p q r defines list names ih l jh a n e =
    let i = ih n (declarator_follows (mark_at kinds q) l) e in
    let lt : p.at < q.at = i.0 in
    let j = jh n n a (omega (arith, lt)) (omega (arith, lt)) in
    let lr : q.at < r.at = j.0 in (
      omega (arith, lt, lr),
      then_on (specifiers kinds n p) (Specifies defines list) q _ i.1
          ∙ declaration_named kinds (rule.names_with kinds n) defines list q (mark_at kinds q) l ∙ then_on (rule.names_with kinds n defines q) names r _ j.1 ∙ semicolon_on kinds r _ a,
    )

pub complete_declaration : (kinds : List TokenKind) (p q : Place) (x : Declaration) → IsDeclaration kinds p q x → ReachesDeclaration kinds p q x
complete_declaration kinds from to whole (grammar.no_names p q defines list d a) = no_names_goes kinds p q defines list (complete_specifiers kinds p q defines list d) a
complete_declaration kinds from to whole (grammar.some_names p q r defines list names d e a) =
    some_names_goes kinds p q r defines list names (complete_specifiers kinds p q defines list d) (names_lead kinds defines q r names e) (complete_names kinds defines q r names e) a
