-- What the tokens spell is what the reader of statements reads.
use Rattle.std.proofs.Common.{◌≡◌, ℕ, zero, suc, ◌+◌, ◌<◌, ◌≤◌, List, [], ◌∷◌, length, Option, Some, None, Bool, true, false, refl, ap, ◌∙◌, sym, subst, arith, inl, inr}
use Rattle.c_tokens.specs.declared.token.TokenKind.{TokenKind}
use Rattle.c_tokens.specs.declared.token.TokenKind.TheVariants as token
use Rattle.c_tree.specs.declared.expression.Expression.{Expression}
use Rattle.c_tree.specs.declared.declaration.Declaration.{Declaration}
use Rattle.c_tree.specs.declared.statement.Statement.{Statement}
use Rattle.c_tree.specs.declared.statement.Statement.TheVariants as statement_node
use Rattle.c_tree.specs.declared.statement.Branch.{Branch}
use Rattle.c_tree.specs.declared.statement.BlockItem.{BlockItem}
use Rattle.c_tree.specs.declared.statement.BlockItem.TheVariants as item_node
use Rattle.c_tree.specs.declared.statement.ForStart.{ForStart}
use Rattle.c_tree.specs.Places.{Place, At, next, enter, leave}
use Rattle.c_tree.specs.Spells.{IsExpression}
use Rattle.c_tree.specs.SpellsStatements as grammar
use Rattle.c_tree.specs.SpellsStatements.{IsDeclaration, IsOptional, IsForStart, IsTest, IsStatement, IsLabelled, IsChain, AreItems}
use Rattle.c_grammar.specs.declared.kinds.Suffix.TheVariants.{NoSuffix}
use Rattle.c_grammar.specs.Kinds.{kind_at, suffix, below, begins_type}
use Rattle.c_grammar.specs.Marks as sign
use Rattle.c_grammar.specs.Marks.{Mark, NoMark, mark, mark_at}
use Rattle.c_grammar.specs.ReadExpressions.{Outcome, Gives, and_then, ReadsExpression}
use Rattle.c_grammar.specs.ReadTypes.{ListOf}
use Rattle.c_grammar.specs.Readers.{read}
use Rattle.c_grammar.specs.ReadStatements as rule
use Rattle.c_grammar.specs.ReadStatements.{ReadsStatement, ReadsDeclaration, Chain, Chains, is_colon, declares}
use Rattle.c_grammar_laws.proofs.MarkLaws.{mark_means}
use Rattle.c_grammar_laws.proofs.StatementSteps.{chain_on, block_on, statement_on}
use Rattle.c_grammar_laws.proofs.Complete.{Enough, exact, below_at, leads}
use Rattle.c_grammar_laws.proofs.Leads.{is_operand, begins_specifiers, expression_leads}
use Rattle.c_grammar_laws.proofs.CompleteTypes.{then_on, opens_on, closes_on, curly_closes_on, semicolon_on, inside, is_curly_close}
use Rattle.c_grammar_laws.proofs.CompleteReaders.{complete}
use Rattle.c_grammar_laws.proofs.CompleteDeclarations.{complete_declaration}
use Rattle.c_grammar_laws.proofs.StatementLeads.{Second, is_name, expression_second, declaration_declares, declaration_leads, declaration_begins, chain_leads, statement_not_declared, statement_leads, is_else, items_no_else}

colon_on : {B : Type 0} (kinds : List TokenKind) (p : Place) (o : Outcome B) → At kinds p token.Colon → rule.where_colon (mark_at kinds p) o ≡ o
colon_on kinds p o a = ap (λ k. rule.where_colon (mark k) o) a

while_on : {B : Type 0} (kinds : List TokenKind) (p : Place) (o : Outcome B) → At kinds p token.While → rule.where_while (mark_at kinds p) o ≡ o
while_on kinds p o a = ap (λ k. rule.where_while (mark k) o) a

-- an expression before a token that goes on with none
whole : (kinds : List TokenKind) (k n : ℕ) (p q : Place) (x : Expression) → IsExpression kinds k p q x → k ≤ 14 → below (suffix (kind_at kinds q)) ≤ k → Enough kinds n p
    → (p.at < q.at) × (read kinds n k p ≡ Gives x q)
whole kinds k n p q x d le stop e = exact kinds k p q x (complete kinds k p q x d) n le stop e

-- ---- parts of statements

test_goes : (kinds : List TokenKind) (n : ℕ) (p q : Place) (x : Expression) → IsTest kinds p q x → Enough kinds n p → (p.at < q.at) × (rule.test kinds (read kinds n) p ≡ Gives x q)
test_goes kinds n from to all (grammar.bracketed_test p q x a d b) e =
    let i = whole kinds 0 n (next p) q x d (omega arith) (below_at kinds 0 q token.RightParenthesis NoSuffix b refl (omega arith)) (omega arith) in
    let lt : p.at + 1 < q.at = i.0 in
    (omega (arith, lt), opens_on kinds p _ a ∙ then_on (read kinds n 0 (next p)) x q _ i.1 ∙ closes_on kinds q _ b)

optional_value : (rd : ReadsExpression) (p : Place) (m : Mark) → is_operand m ≡ true → rule.optional_by rd p m ≡ and_then (rd 0 p) rule.some
optional_value rd p sign.Semicolon h = cc
optional_value rd p _ h = refl

optional_goes : (kinds : List TokenKind) (n : ℕ) (p q : Place) (x : Option Expression) → IsOptional kinds p q x → At kinds q token.Semicolon → Enough kinds n p
    → (p.at ≤ q.at) × (rule.optional_by (read kinds n) p (mark_at kinds p) ≡ Gives x q)
optional_goes kinds n from to all (grammar.no_value p) a e = (omega arith, ap (λ k. rule.optional_by (read kinds n) p (mark k)) a)
optional_goes kinds n from to all (grammar.some_value p q x d) a e =
    let i = whole kinds 0 n p q x d (omega arith) (below_at kinds 0 q token.Semicolon NoSuffix a refl (omega arith)) e in
    let lt : p.at < q.at = i.0 in
    (omega (arith, lt), optional_value (read kinds n) p (mark_at kinds p) (expression_leads kinds 0 p q x d) ∙ then_on (read kinds n 0 p) x q _ i.1)

optional_step_value : (rd : ReadsExpression) (p : Place) (m : Mark) → is_operand m ≡ true → rule.optional_step_by rd p m ≡ and_then (rd 0 p) rule.some
optional_step_value rd p sign.RoundCloses h = cc
optional_step_value rd p _ h = refl

optional_step_goes : (kinds : List TokenKind) (n : ℕ) (p q : Place) (x : Option Expression) → IsOptional kinds p q x → At kinds q token.RightParenthesis → Enough kinds n p
    → (p.at ≤ q.at) × (rule.optional_step_by (read kinds n) p (mark_at kinds p) ≡ Gives x q)
optional_step_goes kinds n from to all (grammar.no_value p) a e = (omega arith, ap (λ k. rule.optional_step_by (read kinds n) p (mark k)) a)
optional_step_goes kinds n from to all (grammar.some_value p q x d) a e =
    let i = whole kinds 0 n p q x d (omega arith) (below_at kinds 0 q token.RightParenthesis NoSuffix a refl (omega arith)) e in
    let lt : p.at < q.at = i.0 in
    (omega (arith, lt), optional_step_value (read kinds n) p (mark_at kinds p) (expression_leads kinds 0 p q x d) ∙ then_on (read kinds n 0 p) x q _ i.1)

start_other : (kinds : List TokenKind) (rd : ReadsExpression) (dn : ReadsDeclaration) (p : Place) (m : Mark) → is_operand m ≡ true → rule.start_by kinds rd dn p m ≡ rule.start_else kinds rd dn p (begins_type kinds p)
start_other kinds rd dn p sign.Semicolon h = cc
start_other kinds rd dn p _ h = refl

start_declares : (kinds : List TokenKind) (rd : ReadsExpression) (dn : ReadsDeclaration) (p : Place) (m : Mark) → begins_specifiers m ≡ true
    → rule.start_by kinds rd dn p m ≡ rule.start_else kinds rd dn p (begins_type kinds p)
start_declares kinds rd dn p sign.Semicolon h = cc
start_declares kinds rd dn p _ h = refl

start_goes : (kinds : List TokenKind) (n : ℕ) (p q : Place) (x : ForStart) → IsForStart kinds p q x → Enough kinds n p
    → (p.at < q.at) × (rule.start_by kinds (read kinds (suc n)) (rule.declaration kinds n) p (mark_at kinds p) ≡ Gives x q)
start_goes kinds n from to all (grammar.start_nothing p a) e = (omega arith, ap (λ k. rule.start_by kinds (read kinds (suc n)) (rule.declaration kinds n) p (mark k)) a)
start_goes kinds n from to all (grammar.start_value p q x d a) e =
    let i = whole kinds 0 (suc n) p q x d (omega arith) (below_at kinds 0 q token.Semicolon NoSuffix a refl (omega arith)) (omega arith) in
    let lt : p.at < q.at = i.0 in
    let rd = read kinds (suc n) in
    let dn = rule.declaration kinds n in (
      omega (arith, lt),
      start_other kinds rd dn p (mark_at kinds p) (expression_leads kinds 0 p q x d) ∙ ap (rule.start_else kinds rd dn p) (leads kinds 0 p q x d)
          ∙ then_on (rd 0 p) x q _ i.1 ∙ semicolon_on kinds q _ a,
    )
start_goes kinds n from to all (grammar.start_declared p q x d) e =
    let i = complete_declaration kinds p q x d n e in
    let rd = read kinds (suc n) in
    let dn = rule.declaration kinds n in (
      i.0,
      start_declares kinds rd dn p (mark_at kinds p) (declaration_leads kinds p q x d) ∙ ap (rule.start_else kinds rd dn p) (declaration_begins kinds p q x d)
          ∙ then_on (dn p) x q _ i.1,
    )

-- ---- what is shown of statements

-- nothing follows to which the end is open
abbrev pub Shut : List TokenKind → Bool → Place → Type 0
Shut kinds ends_open q = ends_open ≡ true → mark_at kinds q ≡ sign.Else → ⊥

shut : (kinds : List TokenKind) (q : Place) → Shut kinds false q
shut kinds q e = cc

abbrev pub ReachesStatement : List TokenKind → Bool → Place → Place → Statement → Type 0
ReachesStatement kinds ends_open p q x = (n : ℕ) → Shut kinds ends_open q → Enough kinds n p → (p.at < q.at) × (rule.statement kinds n p ≡ Gives x q)

abbrev ReachesLabelled : List TokenKind → Bool → Place → Place → Statement → Type 0
ReachesLabelled kinds ends_open p q x = (n : ℕ) → Shut kinds ends_open q → Enough kinds n p → (p.at ≤ q.at) × (rule.labelled kinds (rule.statement kinds n) p ≡ Gives x q)

abbrev ReachesChain : List TokenKind → Bool → Place → Place → List Branch → Option Statement → Type 0
ReachesChain kinds ends_open p q branches x = (n c : ℕ) → Shut kinds ends_open q → Enough kinds (suc n) p → Enough kinds c p
    → (p.at < q.at) × (rule.chain kinds (read kinds (suc n)) (rule.statement kinds n) c p ≡ Gives (Chains branches x) q)

abbrev pub ReachesBlock : List TokenKind → Place → Place → List BlockItem → Type 0
ReachesBlock kinds p q xs = (n c : ℕ) → At kinds q token.RightBrace → Enough kinds n p → Enough kinds c p
    → (p.at ≤ q.at) × (rule.block kinds (rule.declaration kinds n) (rule.statement kinds n) c p ≡ Gives xs q)

abbrev ByMark : List TokenKind → ℕ → Place → Mark → Outcome Statement
ByMark kinds n p m = rule.statement_by kinds (read kinds (suc n)) (rule.declaration kinds n) (rule.statement kinds n) (suc n) p m

statement_at : (kinds : List TokenKind) (n : ℕ) (p : Place) (kind : TokenKind) → At kinds p kind → rule.statement kinds (suc n) p ≡ ByMark kinds n p (mark (Some kind))
statement_at kinds n p kind a = statement_on kinds n p ∙ ap (λ k. ByMark kinds n p (mark k)) a

-- ---- statements without others inside

empty_goes : (kinds : List TokenKind) (p : Place) → At kinds p token.Semicolon → ReachesStatement kinds false p (next p) (statement_node.Empty p.at)
empty_goes kinds p a zero s e = absurd (omega arith)
empty_goes kinds p a (suc n) s e = (omega arith, statement_at kinds n p token.Semicolon a)

name_value : (kinds : List TokenKind) (rd : ReadsExpression) (st : ReadsStatement) (p : Place) (text : List ℕ) (m : Mark) → is_colon m ≡ false
    → rule.name_statement kinds rd st p text m ≡ rule.value_statement kinds rd p
name_value kinds rd st p text sign.Colon h = cc
name_value kinds rd st p text _ h = refl

by_operand : (kinds : List TokenKind) (n : ℕ) (p : Place) (m : Mark) → is_operand m ≡ true → (is_name m ≡ true → is_colon (mark_at kinds (next p)) ≡ false)
    → ByMark kinds n p m ≡ rule.value_statement kinds (read kinds (suc n)) p
by_operand kinds n p (sign.Name text) h f = name_value kinds (read kinds (suc n)) (rule.statement kinds n) p text (mark_at kinds (next p)) (f refl)
by_operand kinds n p sign.RoundOpens h f = refl
by_operand kinds n p sign.Star h f = refl
by_operand kinds n p NoMark h f = refl
by_operand kinds n p _ h f = cc

second_no_colon : (kinds : List TokenKind) (p q : Place) → At kinds q token.Semicolon → Second kinds p q → is_colon (mark_at kinds (next p)) ≡ false
second_no_colon kinds p q a (inl e) = subst (λ z. is_colon (mark_at kinds z) ≡ false) e (ap (λ k. is_colon (mark k)) a)
second_no_colon kinds p q a (inr b) = b

value_goes : (kinds : List TokenKind) (p q : Place) (x : Expression) → IsExpression kinds 0 p q x → At kinds q token.Semicolon → ReachesStatement kinds false p (next q) (statement_node.Value x q.at)
value_goes kinds p q x d a zero s e = absurd (omega arith)
value_goes kinds p q x d a (suc n) s e =
    let i = whole kinds 0 (suc n) p q x d (omega arith) (below_at kinds 0 q token.Semicolon NoSuffix a refl (omega arith)) e in
    let lt : p.at < q.at = i.0 in (
      omega (arith, lt),
      statement_on kinds n p
          ∙ by_operand kinds n p (mark_at kinds p) (expression_leads kinds 0 p q x d) (λ h. second_no_colon kinds p q a (expression_second kinds 0 p q x d h))
          ∙ then_on (read kinds (suc n) 0 p) x q _ i.1 ∙ semicolon_on kinds q _ a,
    )

break_goes : (kinds : List TokenKind) (p : Place) → At kinds p token.Break → At kinds (next p) token.Semicolon → ReachesStatement kinds false p (next (next p)) (statement_node.Break p.at)
break_goes kinds p a b zero s e = absurd (omega arith)
break_goes kinds p a b (suc n) s e = (omega arith, statement_at kinds n p token.Break a ∙ semicolon_on kinds (next p) _ b)

continue_goes : (kinds : List TokenKind) (p : Place) → At kinds p token.Continue → At kinds (next p) token.Semicolon → ReachesStatement kinds false p (next (next p)) (statement_node.Continue p.at)
continue_goes kinds p a b zero s e = absurd (omega arith)
continue_goes kinds p a b (suc n) s e = (omega arith, statement_at kinds n p token.Continue a ∙ semicolon_on kinds (next p) _ b)

return_goes : (kinds : List TokenKind) (p q : Place) (x : Option Expression) → At kinds p token.Return → IsOptional kinds (next p) q x → At kinds q token.Semicolon
    → ReachesStatement kinds false p (next q) (statement_node.Return x p.at)
return_goes kinds p q x a d b zero s e = absurd (omega arith)
return_goes kinds p q x a d b (suc n) s e =
    let i = optional_goes kinds (suc n) (next p) q x d b (omega arith) in
    let le : p.at + 1 ≤ q.at = i.0 in
    (omega (arith, le), statement_at kinds n p token.Return a ∙ then_on (rule.optional_by (read kinds (suc n)) (next p) (mark_at kinds (next p))) x q _ i.1 ∙ semicolon_on kinds q _ b)

-- ---- labels

labelled_other : (st : ReadsStatement) (p : Place) (m : Mark) → is_curly_close m ≡ false → rule.labelled_by st p m ≡ st p
labelled_other st p sign.CurlyCloses h = cc
labelled_other st p _ h = refl

labelled_goes : (kinds : List TokenKind) (ends_open : Bool) (p q : Place) (x : Statement) → is_curly_close (mark_at kinds p) ≡ false → ReachesStatement kinds ends_open p q x
    → ReachesLabelled kinds ends_open p q x
labelled_goes kinds ends_open p q x l ih n s e =
    let i = ih n s e in
    let lt : p.at < q.at = i.0 in
    (omega (arith, lt), labelled_other (rule.statement kinds n) p (mark_at kinds p) l ∙ i.1)

labelled_end_goes : (kinds : List TokenKind) (p : Place) → At kinds p token.RightBrace → ReachesLabelled kinds false p p (statement_node.Empty p.at)
labelled_end_goes kinds p a n s e = (omega arith, ap (λ k. rule.labelled_by (rule.statement kinds n) p (mark k)) a)

label_goes : (kinds : List TokenKind) (p q : Place) (ends_open : Bool) (name : List ℕ) (body : Statement) → At kinds p (token.Name name) → At kinds (next p) token.Colon
    → ReachesLabelled kinds ends_open (next (next p)) q body → ReachesStatement kinds ends_open p q (statement_node.Label name body p.at)
label_goes kinds p q ends_open name body a b ih zero s e = absurd (omega arith)
label_goes kinds p q ends_open name body a b ih (suc n) s e =
    let i = ih n s (omega (arith, inside kinds p (token.Name name) a)) in
    let le : p.at + 1 + 1 ≤ q.at = i.0 in
    let st = rule.statement kinds n in (
      omega (arith, le),
      statement_at kinds n p (token.Name name) a ∙ ap (λ k. rule.name_statement kinds (read kinds (suc n)) st p name (mark k)) b
          ∙ then_on (rule.labelled kinds st (next (next p))) body q _ i.1,
    )

case_goes : (kinds : List TokenKind) (p q r : Place) (ends_open : Bool) (x : Expression) (body : Statement) → At kinds p token.Case → IsExpression kinds 2 (next p) q x → At kinds q token.Colon
    → ReachesLabelled kinds ends_open (next q) r body → ReachesStatement kinds ends_open p r (statement_node.Case x body p.at)
case_goes kinds p q r ends_open x body a d b ih zero s e = absurd (omega arith)
case_goes kinds p q r ends_open x body a d b ih (suc n) s e =
    let w = inside kinds p token.Case a in
    let j = whole kinds 2 (suc n) (next p) q x d (omega arith) (below_at kinds 2 q token.Colon NoSuffix b refl (omega arith)) (omega arith) in
    let lt : p.at + 1 < q.at = j.0 in
    let i = ih n s (omega (arith, lt, w)) in
    let le : q.at + 1 ≤ r.at = i.0 in (
      omega (arith, lt, le),
      statement_at kinds n p token.Case a ∙ then_on (read kinds (suc n) 2 (next p)) x q _ j.1 ∙ colon_on kinds q _ b
          ∙ then_on (rule.labelled kinds (rule.statement kinds n) (next q)) body r _ i.1,
    )

default_goes : (kinds : List TokenKind) (p q : Place) (ends_open : Bool) (body : Statement) → At kinds p token.Default → At kinds (next p) token.Colon
    → ReachesLabelled kinds ends_open (next (next p)) q body → ReachesStatement kinds ends_open p q (statement_node.Default body p.at)
default_goes kinds p q ends_open body a b ih zero s e = absurd (omega arith)
default_goes kinds p q ends_open body a b ih (suc n) s e =
    let i = ih n s (omega (arith, inside kinds p token.Default a)) in
    let le : p.at + 1 + 1 ≤ q.at = i.0 in
    (omega (arith, le), statement_at kinds n p token.Default a ∙ colon_on kinds (next p) _ b ∙ then_on (rule.labelled kinds (rule.statement kinds n) (next (next p))) body q _ i.1)

-- ---- chains

chain_ends : (kinds : List TokenKind) (st : ReadsStatement) (more : Place → Outcome Chain) (branch : Branch) (r : Place) (m : Mark) → (m ≡ sign.Else → ⊥)
    → rule.chain_by kinds st more branch r m ≡ Gives (Chains (branch ∷ []) None) (leave (leave r))
chain_ends kinds st more branch r sign.Else h = absurd (h refl)
chain_ends kinds st more branch r _ h = refl

else_plain : (st : ReadsStatement) (more : Place → Outcome Chain) (branch : Branch) (r : Place) (m : Mark) → (m ≡ sign.If → ⊥)
    → rule.else_by st more branch r m ≡ and_then (st (enter (leave (next r)))) (λ x s. Gives (Chains (branch ∷ []) (Some x)) (leave (leave s)))
else_plain st more branch r sign.If h = absurd (h refl)
else_plain st more branch r _ h = refl

last_if_goes : (kinds : List TokenKind) (p q r : Place) (ends_open : Bool) (x : Expression) (body : Statement) → At kinds p token.If → IsTest kinds (enter (next p)) q x
    → ReachesStatement kinds ends_open (enter q) r body → ReachesChain kinds true p (leave (leave r)) (record { test = x; body = body; at = p.at } ∷ []) None
last_if_goes kinds p q r ends_open x body a d ih n zero s e f = absurd (omega arith)
last_if_goes kinds p q r ends_open x body a d ih n (suc c) s e f =
    let w = inside kinds p token.If a in
    let j = test_goes kinds (suc n) (enter (next p)) q x d (omega arith) in
    let lt : p.at + 1 < q.at = j.0 in
    let i = ih n (λ g h. s refl h) (omega (arith, lt, w)) in
    let lr : q.at < r.at = i.0 in
    let st = rule.statement kinds n in
    let rd = read kinds (suc n) in (
      omega (arith, lt, lr),
      chain_on kinds rd st c p ∙ then_on (rule.test kinds rd (enter (next p))) x q _ j.1 ∙ then_on (st (enter q)) body r _ i.1
          ∙ chain_ends kinds st (rule.chain kinds rd st c) (record { test = x; body = body; at = p.at }) r (mark_at kinds r) (s refl),
    )

last_else_goes : (kinds : List TokenKind) (p q r t : Place) (ends_open : Bool) (x : Expression) (body y : Statement) → At kinds p token.If → IsTest kinds (enter (next p)) q x
    → ReachesStatement kinds false (enter q) r body → At kinds r token.Else → (At kinds (next r) token.If → ⊥) → ReachesStatement kinds ends_open (enter (leave (next r))) t y
    → ReachesChain kinds ends_open p (leave (leave t)) (record { test = x; body = body; at = p.at } ∷ []) (Some y)
last_else_goes kinds p q r t ends_open x body y a d ih b no_if jh n zero s e f = absurd (omega arith)
last_else_goes kinds p q r t ends_open x body y a d ih b no_if jh n (suc c) s e f =
    let w = inside kinds p token.If a in
    let k = test_goes kinds (suc n) (enter (next p)) q x d (omega arith) in
    let lt : p.at + 1 < q.at = k.0 in
    let i = ih n (shut kinds r) (omega (arith, lt, w)) in
    let lr : q.at < r.at = i.0 in
    let j = jh n s (omega (arith, lt, lr, w)) in
    let ls : r.at + 1 < t.at = j.0 in
    let st = rule.statement kinds n in
    let rd = read kinds (suc n) in
    let more = rule.chain kinds rd st c in
    let branch : Branch = record { test = x; body = body; at = p.at } in (
      omega (arith, lt, lr, ls),
      chain_on kinds rd st c p ∙ then_on (rule.test kinds rd (enter (next p))) x q _ k.1 ∙ then_on (st (enter q)) body r _ i.1
          ∙ ap (λ m. rule.chain_by kinds st more branch r (mark m)) b
          ∙ else_plain st more branch r (mark_at kinds (next r)) (λ h. no_if (mark_means (kind_at kinds (next r)) sign.If h (λ z. cc)))
          ∙ then_on (st (enter (leave (next r)))) y t _ j.1,
    )

else_if_goes : (kinds : List TokenKind) (p q r t : Place) (ends_open : Bool) (x : Expression) (body : Statement) (branches : List Branch) (y : Option Statement) → At kinds p token.If
    → IsTest kinds (enter (next p)) q x → ReachesStatement kinds false (enter q) r body → At kinds r token.Else → At kinds (next r) token.If
    → ReachesChain kinds ends_open (enter (leave (next r))) t branches y
    → ReachesChain kinds ends_open p (leave (leave t)) (record { test = x; body = body; at = p.at } ∷ branches) y
else_if_goes kinds p q r t ends_open x body branches y a d ih b b2 jh n zero s e f = absurd (omega arith)
else_if_goes kinds p q r t ends_open x body branches y a d ih b b2 jh n (suc c) s e f =
    let w = inside kinds p token.If a in
    let k = test_goes kinds (suc n) (enter (next p)) q x d (omega arith) in
    let lt : p.at + 1 < q.at = k.0 in
    let i = ih n (shut kinds r) (omega (arith, lt, w)) in
    let lr : q.at < r.at = i.0 in
    let j = jh n c s (omega (arith, lt, lr, w)) (omega (arith, lt, lr, w)) in
    let ls : r.at + 1 < t.at = j.0 in
    let st = rule.statement kinds n in
    let rd = read kinds (suc n) in
    let more = rule.chain kinds rd st c in
    let branch : Branch = record { test = x; body = body; at = p.at } in (
      omega (arith, lt, lr, ls),
      chain_on kinds rd st c p ∙ then_on (rule.test kinds rd (enter (next p))) x q _ k.1 ∙ then_on (st (enter q)) body r _ i.1
          ∙ ap (λ m. rule.chain_by kinds st more branch r (mark m)) b ∙ ap (λ m. rule.else_by st more branch r (mark m)) b2
          ∙ then_on (more (enter (leave (next r)))) (Chains branches y) t _ j.1,
    )

if_alone_goes : (kinds : List TokenKind) (p q : Place) (ends_open : Bool) (branches : List Branch) → At kinds p token.If → ReachesChain kinds ends_open p q branches None
    → ReachesStatement kinds ends_open p q (statement_node.If branches)
if_alone_goes kinds p q ends_open branches a ih zero s e = absurd (omega arith)
if_alone_goes kinds p q ends_open branches a ih (suc n) s e =
    let i = ih n (suc n) s e e in
    (i.0, statement_at kinds n p token.If a ∙ then_on (rule.chain kinds (read kinds (suc n)) (rule.statement kinds n) (suc n) p) (Chains branches None) q _ i.1)

if_else_goes : (kinds : List TokenKind) (p q : Place) (ends_open : Bool) (branches : List Branch) (x : Statement) → At kinds p token.If → ReachesChain kinds ends_open p q branches (Some x)
    → ReachesStatement kinds ends_open p q (statement_node.IfElse branches x)
if_else_goes kinds p q ends_open branches x a ih zero s e = absurd (omega arith)
if_else_goes kinds p q ends_open branches x a ih (suc n) s e =
    let i = ih n (suc n) s e e in
    (i.0, statement_at kinds n p token.If a ∙ then_on (rule.chain kinds (read kinds (suc n)) (rule.statement kinds n) (suc n) p) (Chains branches (Some x)) q _ i.1)

-- ---- blocks

no_items_goes : (kinds : List TokenKind) (p : Place) → ReachesBlock kinds p p []
no_items_goes kinds p n zero a e f = absurd (omega arith)
no_items_goes kinds p n (suc c) a e f =
    let dn = rule.declaration kinds n in
    let st = rule.statement kinds n in
    (omega arith, block_on kinds dn st c p ∙ ap (λ k. rule.block_by kinds dn st (rule.block kinds dn st c) p (mark k)) a)

block_other : (kinds : List TokenKind) (dn : ReadsDeclaration) (st : ReadsStatement) (more : ListOf BlockItem) (p : Place) (m : Mark) → is_curly_close m ≡ false
    → rule.block_by kinds dn st more p m ≡ and_then (rule.item kinds dn st p) (λ x q. and_then (more q) (λ xs r. Gives (x ∷ xs) r))
block_other kinds dn st more p sign.CurlyCloses h = cc
block_other kinds dn st more p _ h = refl

begins_no_close : (m : Mark) → begins_specifiers m ≡ true → is_curly_close m ≡ false
begins_no_close sign.CurlyCloses h = cc
begins_no_close _ h = refl

-- an item that no `else` follows
abbrev ReachesItem : List TokenKind → Place → Place → BlockItem → Type 0
ReachesItem kinds p q x = (n : ℕ) → Shut kinds true q → Enough kinds n p → (p.at < q.at) × (rule.item kinds (rule.declaration kinds n) (rule.statement kinds n) p ≡ Gives x q)

declared_item_goes : (kinds : List TokenKind) (p q : Place) (x : Declaration) → IsDeclaration kinds p q x → ReachesItem kinds p q (item_node.Declared x)
declared_item_goes kinds p q x d n s e =
    let i = complete_declaration kinds p q x d n e in
    let dn = rule.declaration kinds n in
    let st = rule.statement kinds n in
    (i.0, ap (rule.item_by dn st p) (declaration_declares kinds p q x d) ∙ then_on (dn p) x q _ i.1)

weaken : (kinds : List TokenKind) (ends_open : Bool) (q : Place) → Shut kinds true q → Shut kinds ends_open q
weaken kinds ends_open q s e = s refl

statement_item_goes : (kinds : List TokenKind) (p q : Place) (ends_open : Bool) (x : Statement) → declares kinds p ≡ false → ReachesStatement kinds ends_open p q x
    → ReachesItem kinds p q (item_node.Run x)
statement_item_goes kinds p q ends_open x l ih n s e =
    let i = ih n (weaken kinds ends_open q s) e in
    let dn = rule.declaration kinds n in
    let st = rule.statement kinds n in
    (i.0, ap (rule.item_by dn st p) l ∙ then_on (st p) x q _ i.1)

shut_by : (kinds : List TokenKind) (q : Place) → is_else (mark_at kinds q) ≡ false → Shut kinds true q
shut_by kinds q f e h = let g : is_else (mark_at kinds q) ≡ true = ap is_else h in let z = sym f ∙ g in cc

items_goes : (kinds : List TokenKind) (p q r : Place) (x : BlockItem) (xs : List BlockItem) → is_curly_close (mark_at kinds p) ≡ false → ReachesItem kinds p q x
    → AreItems kinds q r xs → ReachesBlock kinds q r xs → ReachesBlock kinds p r (x ∷ xs)
items_goes kinds p q r x xs l ih d jh n zero a e f = absurd (omega arith)
items_goes kinds p q r x xs l ih d jh n (suc c) a e f =
    let i = ih n (shut_by kinds q (items_no_else kinds q r xs d a)) e in
    let lt : p.at < q.at = i.0 in
    let m = jh (length kinds + 1) (length kinds + 1) a (omega arith) (omega arith) in
    let ge : q.at ≤ r.at = m.0 in
    let w = inside kinds r token.RightBrace a in
    let j = jh n c a (omega (arith, lt)) (omega (arith, lt, ge, w)) in
    let dn = rule.declaration kinds n in
    let st = rule.statement kinds n in (
      omega (arith, lt, ge),
      block_on kinds dn st c p ∙ block_other kinds dn st (rule.block kinds dn st c) p (mark_at kinds p) l ∙ then_on (rule.item kinds dn st p) x q _ i.1
          ∙ then_on (rule.block kinds dn st c q) xs r _ j.1,
    )

block_goes : (kinds : List TokenKind) (p q : Place) (xs : List BlockItem) → At kinds p token.LeftBrace → ReachesBlock kinds (enter (next p)) q xs → At kinds q token.RightBrace
    → ReachesStatement kinds false p (leave (next q)) (statement_node.Block xs p.at)
block_goes kinds p q xs a ih b zero s e = absurd (omega arith)
block_goes kinds p q xs a ih b (suc n) s e =
    let w = inside kinds p token.LeftBrace a in
    let i = ih n (suc n) b (omega (arith, w)) (omega arith) in
    let le : p.at + 1 ≤ q.at = i.0 in
    let items = rule.block kinds (rule.declaration kinds n) (rule.statement kinds n) (suc n) in
    (omega (arith, le), statement_at kinds n p token.LeftBrace a ∙ then_on (items (enter (next p))) xs q _ i.1 ∙ curly_closes_on kinds q _ b)

-- ---- the other statements

switch_goes : (kinds : List TokenKind) (p q r : Place) (ends_open : Bool) (x : Expression) (body : Statement) → At kinds p token.Switch → IsTest kinds (enter (next p)) q x
    → ReachesStatement kinds ends_open (enter q) r body → ReachesStatement kinds ends_open p (leave (leave r)) (statement_node.Switch x body p.at)
switch_goes kinds p q r ends_open x body a d ih zero s e = absurd (omega arith)
switch_goes kinds p q r ends_open x body a d ih (suc n) s e =
    let w = inside kinds p token.Switch a in
    let k = test_goes kinds (suc n) (enter (next p)) q x d (omega arith) in
    let lt : p.at + 1 < q.at = k.0 in
    let i = ih n s (omega (arith, lt, w)) in
    let lr : q.at < r.at = i.0 in (
      omega (arith, lt, lr),
      statement_at kinds n p token.Switch a ∙ then_on (rule.test kinds (read kinds (suc n)) (enter (next p))) x q _ k.1
          ∙ then_on (rule.statement kinds n (enter q)) body r _ i.1,
    )

while_goes : (kinds : List TokenKind) (p q r : Place) (ends_open : Bool) (x : Expression) (body : Statement) → At kinds p token.While → IsTest kinds (enter (next p)) q x
    → ReachesStatement kinds ends_open (enter q) r body → ReachesStatement kinds ends_open p (leave (leave r)) (statement_node.While x body p.at)
while_goes kinds p q r ends_open x body a d ih zero s e = absurd (omega arith)
while_goes kinds p q r ends_open x body a d ih (suc n) s e =
    let w = inside kinds p token.While a in
    let k = test_goes kinds (suc n) (enter (next p)) q x d (omega arith) in
    let lt : p.at + 1 < q.at = k.0 in
    let i = ih n s (omega (arith, lt, w)) in
    let lr : q.at < r.at = i.0 in (
      omega (arith, lt, lr),
      statement_at kinds n p token.While a ∙ then_on (rule.test kinds (read kinds (suc n)) (enter (next p))) x q _ k.1
          ∙ then_on (rule.statement kinds n (enter q)) body r _ i.1,
    )

shut_while : (kinds : List TokenKind) (q : Place) (ends_open : Bool) → At kinds q token.While → Shut kinds ends_open q
shut_while kinds q ends_open a e h = let m : mark_at kinds q ≡ sign.While = ap mark a in let z = sym m ∙ h in cc

do_goes : (kinds : List TokenKind) (p q r : Place) (ends_open : Bool) (body : Statement) (x : Expression) → At kinds p token.Do → ReachesStatement kinds ends_open (enter (enter (next p))) q body
    → At kinds q token.While → IsTest kinds (leave (next q)) r x → At kinds r token.Semicolon → ReachesStatement kinds false p (leave (next r)) (statement_node.Do body x p.at)
do_goes kinds p q r ends_open body x a ih b d c zero s e = absurd (omega arith)
do_goes kinds p q r ends_open body x a ih b d c (suc n) s e =
    let w = inside kinds p token.Do a in
    let i = ih n (shut_while kinds q ends_open b) (omega (arith, w)) in
    let lt : p.at + 1 < q.at = i.0 in
    let k = test_goes kinds (suc n) (leave (next q)) r x d (omega (arith, lt)) in
    let lr : q.at + 1 < r.at = k.0 in
    let rd = read kinds (suc n) in (
      omega (arith, lt, lr),
      statement_at kinds n p token.Do a ∙ then_on (rule.statement kinds n (enter (enter (next p)))) body q _ i.1 ∙ while_on kinds q _ b
          ∙ then_on (rule.test kinds rd (leave (next q))) x r _ k.1 ∙ semicolon_on kinds r _ c,
    )

for_goes : (kinds : List TokenKind) (p q r s t : Place) (ends_open : Bool) (first : ForStart) (x y : Option Expression) (body : Statement) → At kinds p token.For
    → At kinds (next p) token.LeftParenthesis → IsForStart kinds (enter (next (next p))) q first → IsOptional kinds q r x → At kinds r token.Semicolon
    → IsOptional kinds (next r) s y → At kinds s token.RightParenthesis → ReachesStatement kinds ends_open (enter (next s)) t body
    → ReachesStatement kinds ends_open p (leave (leave t)) (statement_node.For first x y body p.at)
for_goes kinds p q r s t ends_open first x y body a b c d f g h ih zero o e = absurd (omega arith)
for_goes kinds p q r s t ends_open first x y body a b c d f g h ih (suc n) o e =
    let w = inside kinds p token.For a in
    let i1 = start_goes kinds n (enter (next (next p))) q first c (omega (arith, w)) in
    let l1 : p.at + 1 + 1 < q.at = i1.0 in
    let i2 = optional_goes kinds (suc n) q r x d f (omega (arith, l1)) in
    let l2 : q.at ≤ r.at = i2.0 in
    let i3 = optional_step_goes kinds (suc n) (next r) s y g h (omega (arith, l1, l2)) in
    let l3 : r.at + 1 ≤ s.at = i3.0 in
    let i4 = ih n o (omega (arith, l1, l2, l3, w)) in
    let l4 : s.at + 1 < t.at = i4.0 in
    let rd = read kinds (suc n) in (
      omega (arith, l1, l2, l3, l4),
      statement_at kinds n p token.For a ∙ opens_on kinds (next p) _ b
          ∙ then_on (rule.start_by kinds rd (rule.declaration kinds n) (enter (next (next p))) (mark_at kinds (enter (next (next p))))) first q _ i1.1
          ∙ then_on (rule.optional_by rd q (mark_at kinds q)) x r _ i2.1 ∙ semicolon_on kinds r _ f
          ∙ then_on (rule.optional_step_by rd (next r) (mark_at kinds (next r))) y s _ i3.1 ∙ closes_on kinds s _ h
          ∙ then_on (rule.statement kinds n (enter (next s))) body t _ i4.1,
    )

-- ---- every statement

mutual
  pub complete_statement : (kinds : List TokenKind) (ends_open : Bool) (p q : Place) (x : Statement) → IsStatement kinds ends_open p q x → ReachesStatement kinds ends_open p q x
  complete_statement kinds ends_open from to all (grammar.block p q items a d b) = block_goes kinds p q items a (complete_block kinds (enter (next p)) q items d) b
  complete_statement kinds ends_open from to all (grammar.empty_statement p a) = empty_goes kinds p a
  complete_statement kinds ends_open from to all (grammar.value_statement p q x d a) = value_goes kinds p q x d a
  complete_statement kinds ends_open from to all (grammar.label p q o name body a b d) = label_goes kinds p q o name body a b (complete_labelled kinds o (next (next p)) q body d)
  complete_statement kinds ends_open from to all (grammar.case_label p q r o value body a d b e) = case_goes kinds p q r o value body a d b (complete_labelled kinds o (next q) r body e)
  complete_statement kinds ends_open from to all (grammar.default_label p q o body a b d) = default_goes kinds p q o body a b (complete_labelled kinds o (next (next p)) q body d)
  complete_statement kinds ends_open from to all (grammar.if_alone p q o branches d) =
      if_alone_goes kinds p q o branches (chain_leads kinds o p q branches None d) (complete_chain kinds o p q branches None d)
  complete_statement kinds ends_open from to all (grammar.if_else p q o branches x d) =
      if_else_goes kinds p q o branches x (chain_leads kinds o p q branches (Some x) d) (complete_chain kinds o p q branches (Some x) d)
  complete_statement kinds ends_open from to all (grammar.switch_on p q r o value body a b d) = switch_goes kinds p q r o value body a b (complete_statement kinds o (enter q) r body d)
  complete_statement kinds ends_open from to all (grammar.while_loop p q r o test body a b d) = while_goes kinds p q r o test body a b (complete_statement kinds o (enter q) r body d)
  complete_statement kinds ends_open from to all (grammar.do_loop p q r o body test a d b e c) =
      do_goes kinds p q r o body test a (complete_statement kinds o (enter (enter (next p))) q body d) b e c
  complete_statement kinds ends_open from to all (grammar.for_loop p q r s t o first test step body a b c d e f g h) =
      for_goes kinds p q r s t o first test step body a b c d e f g (complete_statement kinds o (enter (next s)) t body h)
  complete_statement kinds ends_open from to all (grammar.break_out p a b) = break_goes kinds p a b
  complete_statement kinds ends_open from to all (grammar.continue_on p a b) = continue_goes kinds p a b
  complete_statement kinds ends_open from to all (grammar.return_from p q value a d b) = return_goes kinds p q value a d b

  complete_labelled : (kinds : List TokenKind) (ends_open : Bool) (p q : Place) (x : Statement) → IsLabelled kinds ends_open p q x → ReachesLabelled kinds ends_open p q x
  complete_labelled kinds ends_open from to all (grammar.labelled_statement o p q x d) = labelled_goes kinds o p q x (statement_leads kinds o p q x d) (complete_statement kinds o p q x d)
  complete_labelled kinds ends_open from to all (grammar.labelled_end p a) = labelled_end_goes kinds p a

  complete_chain : (kinds : List TokenKind) (ends_open : Bool) (p q : Place) (branches : List Branch) (x : Option Statement) → IsChain kinds ends_open p q branches x
      → ReachesChain kinds ends_open p q branches x
  complete_chain kinds ends_open from to all otherwise (grammar.last_if p q r o test body a b d) = last_if_goes kinds p q r o test body a b (complete_statement kinds o (enter q) r body d)
  complete_chain kinds ends_open from to all otherwise (grammar.last_else p q r s o test body x a b d e f g) =
      last_else_goes kinds p q r s o test body x a b (complete_statement kinds false (enter q) r body d) e f (complete_statement kinds o (enter (leave (next r))) s x g)
  complete_chain kinds ends_open from to all otherwise (grammar.else_if p q r s o test body branches x a b d e f) =
      else_if_goes kinds p q r s o test body branches x a b (complete_statement kinds false (enter q) r body d) e (chain_leads kinds o (enter (leave (next r))) s branches x f)
      (complete_chain kinds o (enter (leave (next r))) s branches x f)

  pub complete_block : (kinds : List TokenKind) (p q : Place) (xs : List BlockItem) → AreItems kinds p q xs → ReachesBlock kinds p q xs
  complete_block kinds from to all (grammar.no_items p) = no_items_goes kinds p
  complete_block kinds from to all (grammar.declared_item p q r x xs d e) =
      items_goes kinds p q r (item_node.Declared x) xs (begins_no_close (mark_at kinds p) (declaration_leads kinds p q x d)) (declared_item_goes kinds p q x d) e (complete_block kinds q r xs e)
  complete_block kinds from to all (grammar.statement_item p q r o x xs d e) =
      items_goes kinds p q r (item_node.Run x) xs (statement_leads kinds o p q x d) (statement_item_goes kinds p q o x (statement_not_declared kinds o p q x d) (complete_statement kinds o p q x d)) e
      (complete_block kinds q r xs e)
