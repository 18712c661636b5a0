-- The rules that statements and definitions break (6.8, 6.9.1). Sections are those of ISO/IEC 9899:2011.
use Rattle.std.specs.Prelude.{ℕ, ◌+◌, ℤ, Bool, true, false, not, ◌&&◌, ◌||◌, List, [], ◌∷◌, ◌++◌, Option, Some, None, slice_get}
use Rattle.std.specs.Ordering.{int_eq}
use Rattle.kv_num.specs.declared.types.IntType.{IntType}
use Rattle.kv_num.specs.IntType.{wrap_of}
use Rattle.c_tree.specs.declared.expression.Expression.{Expression}
use Rattle.c_tree.specs.declared.declaration.External.{External}
use Rattle.c_tree.specs.declared.declaration.External.TheVariants as external
use Rattle.c_tree.specs.declared.statement.Statement.{Statement}
use Rattle.c_tree.specs.declared.statement.Branch.{Branch}
use Rattle.c_tree.specs.declared.statement.BlockItem.{BlockItem}
use Rattle.c_tree.specs.declared.statement.BlockItem.TheOpen.{Statement-F, BlockItem-F, Branch-F}
use Rattle.c_tree.specs.declared.statement.BlockItem.TheOpen.{Statement-F as t, BlockItem-F as b}
use Rattle.c_tree.specs.declared.statement.BlockItem.TheFolds.{para-BlockItem}
use Rattle.c_tree.specs.declared.statement.ForStart.{ForStart}
use Rattle.c_tree.specs.declared.statement.ForStart.TheVariants as start
use Rattle.c_kinds.specs.declared.types.Shape.TheVariants as shape
use Rattle.c_kinds.specs.declared.types.CType.{CType}
use Rattle.c_kinds.specs.declared.types.Signature.{Signature}
use Rattle.c_kinds.specs.declared.typed.Fixed.{Fixed}
use Rattle.c_kinds.specs.declared.typed.Fixed.TheVariants.{NoValue, Number}
use Rattle.c_kinds.specs.declared.typed.Typed.{Typed}
use Rattle.c_kinds.specs.Types.{shape_of, is_scalar, is_integer, is_void}
use Rattle.c_kinds.specs.Integers.{promoted}
use Rattle.c_kinds.specs.declared.answer.Answer.{Answer}
use Rattle.c_kinds.specs.declared.answer.Answer.TheVariants.{Gives}
use Rattle.c_kinds.specs.Values.{unless, used}
use Rattle.c_kinds.specs.Casts.{fits}
use Rattle.c_rules.specs.declared.names.Meaning.{Meaning}
use Rattle.c_rules.specs.declared.names.Meaning.TheVariants as meaning
use Rattle.c_rules.specs.declared.names.Function.{Function}
use Rattle.c_rules.specs.declared.names.Pair.{Pair}
use Rattle.c_rules.specs.declared.names.Names.{Names}
use Rattle.c_rules.specs.Broken.{pair_if, of_each, of_option}
use Rattle.c_rules.specs.Typing.{Given, layout_of, meaning_at, answer_of}
use Rattle.c_rules.specs.Expressions.{broken_value, broken_specifiers, broken_declarator, is_used}
use Rattle.c_rules.specs.Initialisers.{name_at, broken_declaration}
use Rattle.c_rules.specs.Specifiers.{first_at}

-- ---- where a statement stands

pub record Near : Type 0 where
  -- the type that its function gives, None where it isn't known
  pub result : Option CType
  -- whether `break` and `continue` have a statement to leave
  pub may_break : Bool
  pub may_continue : Bool
  -- whether it stands directly in the block of a `switch`, or is that block itself
  pub is_direct : Bool
  pub is_switch_block : Bool

abbrev pub apart : Near → Near
apart x = record x { is_direct = false; is_switch_block = false }

abbrev pub in_loop : Near → Near
in_loop x = record (apart x) { may_break = true; may_continue = true }

abbrev pub in_switch : Near → Near
in_switch x = record x { may_break = true; is_direct = false; is_switch_block = true }

-- the items of a block: directly in that of a `switch`, or apart
abbrev pub in_block : Near → Near
in_block x = record x { is_direct = x.is_switch_block; is_switch_block = false }

-- after a label: as the label itself, but no block of a `switch`
abbrev pub behind_label : Near → Near
behind_label x = record x { is_switch_block = false }

-- ---- tests (6.8.4.1p1, 6.8.4.2p1, 6.8.5p2): rule 12 at the word with which the statement begins

abbrev pub test_value : ℕ → Typed → Answer
test_value at v = unless (not (is_scalar v.ctype)) 12 at (Gives v)

abbrev pub switch_value : ℕ → Typed → Answer
switch_value at v = unless (not (is_integer v.ctype)) 12 at (Gives v)

-- ---- the labels of a `switch` (6.8.4.2)

pub data CaseLabel : Type 0 where
  OfCase : ℕ → ℤ → CaseLabel
  OfDefault : ℕ → CaseLabel

-- the promoted type of what is switched (6.8.4.2p5)
abbrev pub switched_type : Answer → Option IntType
switched_type (Gives v) = elim (shape_of v.ctype) as (λ _. Option IntType) [ shape.Integer k ↦ Some (promoted k) | _ ↦ None ]
switched_type _ = None

abbrev pub value_of : Given → Expression → Answer
value_of g x = used (layout_of g) (answer_of g x false) is_used

abbrev pub case_by : ℕ → IntType → Fixed → List CaseLabel
case_by at k (Number n) = OfCase at (wrap_of k n) ∷ []
case_by at k _ = []

-- a case's value, converted to the type of what is switched
abbrev pub case_label : ℕ → Option IntType → Answer → List CaseLabel
case_label at (Some k) (Gives v) = case_by at k v.fixed
case_label at _ _ = []

abbrev pub is_same_label : CaseLabel → CaseLabel → Bool
is_same_label (OfCase at n) (OfCase other m) = int_eq n m
is_same_label (OfDefault at) (OfDefault other) = true
is_same_label _ _ = false

abbrev pub is_seen : CaseLabel → List CaseLabel → Bool
is_seen x [] = false
is_seen x (y ∷ ys) = is_same_label x y || is_seen x ys

abbrev pub label_at : CaseLabel → ℕ
label_at (OfCase at n) = at
label_at (OfDefault at) = at

-- rule 19 at a value for the second time, and at a second `default` (6.8.4.2p3)
abbrev pub repeated_labels : List CaseLabel → List CaseLabel → List Pair
repeated_labels seen [] = []
repeated_labels seen (x ∷ xs) = pair_if (is_seen x seen) (label_at x) 19 ++ repeated_labels (x ∷ seen) xs

abbrev pub is_case_constant : Fixed → Bool
is_case_constant (Number n) = true
is_case_constant NoValue = true
is_case_constant _ = false

abbrev pub is_no_value : Fixed → Bool
is_no_value NoValue = true
is_no_value _ = false

-- rule 19 at a case of another form, rule 25 at the first token of one without a value
abbrev pub case_value_pairs : ℕ → Answer → List Pair
case_value_pairs at (Gives v) = pair_if (not (is_integer v.ctype && is_case_constant v.fixed)) at 19 ++ pair_if (is_no_value v.fixed) (at + 1) 25
case_value_pairs at _ = []

-- ---- returns (6.8.6.4p1): rule 20 at the word

abbrev pub misfits : CType → Answer → Bool
misfits t (Gives v) = not (fits t v)
misfits t _ = false

abbrev pub return_pairs : Given → ℕ → Option CType → Option Expression → List Pair
return_pairs g at None x = []
return_pairs g at (Some t) None = pair_if (not (is_void t)) at 20
return_pairs g at (Some t) (Some x) = pair_if (is_void t || misfits t (value_of g x)) at 20

-- ---- one case for each kind of node

-- what is found of a statement: the labels that stand at it and, if it is a block, directly in it, and what it breaks
pub record Judged : Type 0 where
  pub labels : Option IntType → List CaseLabel
  pub in_block : Option IntType → List CaseLabel
  pub broken : Near → List Pair

abbrev pub no_labels : Option IntType → List CaseLabel
no_labels k = []

abbrev pub unlabelled : (Near → List Pair) → Judged
unlabelled broken = record { labels = no_labels; in_block = no_labels; broken = broken }

abbrev pub start_pairs : Given → ForStart → List Pair
start_pairs g start.Nothing = []
start_pairs g (start.Value x) = broken_value g x is_used
start_pairs g (start.Declared x) = broken_declaration g true x

abbrev pub all_labels : {A : Type 0} → (A → Judged) → List A → Option IntType → List CaseLabel
all_labels w [] k = []
all_labels w (x ∷ xs) k = (w x).labels k ++ all_labels w xs k

abbrev pub block_judged : {B : Type 0} → (B → Judged) → List B → Judged
block_judged item xs = record { labels = no_labels; in_block = all_labels item xs; broken = λ near. of_each (λ x. (item x).broken (in_block near)) xs }

abbrev pub case_judged : Given → Expression → Judged → ℕ → Judged
case_judged g x body at = record {
  labels = λ k. case_label at k (value_of g x) ++ body.labels k;
  in_block = no_labels;
  broken = λ near. pair_if (not near.is_direct) at 19 ++ broken_value g x is_used ++ case_value_pairs at (value_of g x) ++ body.broken (behind_label near);
}

abbrev pub default_judged : Judged → ℕ → Judged
default_judged body at = record {
  labels = λ k. OfDefault at ∷ body.labels k;
  in_block = no_labels;
  broken = λ near. pair_if (not near.is_direct) at 19 ++ body.broken (behind_label near);
}

abbrev pub switch_judged : Given → Expression → Judged → ℕ → Judged
switch_judged g x body at = unlabelled (λ near.
    broken_value g x (switch_value at) ++ repeated_labels [] (body.in_block (switched_type (value_of g x))) ++ body.broken (in_switch near))

module _ {B X R : Type 0} where
  abbrev pub branch_pairs : Given → (X → Judged) → Branch-F B X R → Judged
  branch_pairs g w x = unlabelled (λ near. broken_value g x.test (test_value x.at) ++ (w x.body).broken (apart near))

  -- a declaration directly in the block of a `switch` breaks rule 19 at its first specifier
  abbrev pub item_pairs : Given → (X → Judged) → BlockItem-F B X R → Judged
  item_pairs g w (b.Declared x) = unlabelled (λ near. pair_if near.is_direct (first_at x.specifiers) 19 ++ broken_declaration g true x)
  item_pairs g w (b.Run x) = w x

  abbrev pub statement_pairs : Given → (B → Judged) → (X → Judged) → (R → Judged) → Statement-F B X R → Judged
  statement_pairs g item w branch (t.Block xs at) = block_judged item xs
  statement_pairs g item w branch (t.Empty at) = unlabelled (λ near. [])
  statement_pairs g item w branch (t.Value x at) = unlabelled (λ near. broken_value g x is_used)
  statement_pairs g item w branch (t.Label name body at) = record { labels = (w body).labels; in_block = no_labels; broken = λ near. (w body).broken (behind_label near) }
  statement_pairs g item w branch (t.Case x body at) = case_judged g x (w body) at
  statement_pairs g item w branch (t.Default body at) = default_judged (w body) at
  statement_pairs g item w branch (t.If branches) = unlabelled (λ near. of_each (λ x. (branch x).broken near) branches)
  statement_pairs g item w branch (t.IfElse branches otherwise) =
      unlabelled (λ near. of_each (λ x. (branch x).broken near) branches ++ (w otherwise).broken (apart near))
  statement_pairs g item w branch (t.Switch x body at) = switch_judged g x (w body) at
  statement_pairs g item w branch (t.While test body at) = unlabelled (λ near. broken_value g test (test_value at) ++ (w body).broken (in_loop near))
  statement_pairs g item w branch (t.Do body test at) = unlabelled (λ near. (w body).broken (in_loop near) ++ broken_value g test (test_value at))
  statement_pairs g item w branch (t.For first test step body at) = unlabelled (λ near.
      start_pairs g first ++ of_option (λ x. broken_value g x (test_value at)) test ++ of_option (λ x. broken_value g x is_used) step ++ (w body).broken (in_loop near))
  statement_pairs g item w branch (t.Break at) = unlabelled (λ near. pair_if (not near.may_break) at 18)
  statement_pairs g item w branch (t.Continue at) = unlabelled (λ near. pair_if (not near.may_continue) at 18)
  statement_pairs g item w branch (t.Return x at) = unlabelled (λ near. return_pairs g at near.result x ++ of_option (λ y. broken_value g y is_used) x)

-- ---- over trees

unfoldable pub judge_item : Given → BlockItem → Judged
judge_item g = para-BlockItem Judged Judged Judged
    (item_pairs {B = BlockItem × Judged} {X = Statement × Judged} {R = Branch × Judged} g (λ x. x.1))
    (statement_pairs {B = BlockItem × Judged} {X = Statement × Judged} {R = Branch × Judged} g (λ x. x.1) (λ x. x.1) (λ x. x.1))
    (branch_pairs {B = BlockItem × Judged} {X = Statement × Judged} {R = Branch × Judged} g (λ x. x.1))

-- ---- definitions and whole texts (6.9)

abbrev pub result_by : Option Signature → Option CType
result_by None = None
result_by (Some s) = Some s.result

abbrev pub signature_result : Names → Option ℕ → Option CType
signature_result names None = None
signature_result names (Some n) = result_by (slice_get names.signatures n)

abbrev pub function_result : Names → Option Function → Option CType
function_result names None = None
function_result names (Some f) = signature_result names f.signature

abbrev pub result_of : Names → Option Meaning → Option CType
result_of names (Some (meaning.Function n)) = function_result names (slice_get names.functions n)
result_of names _ = None

-- at the beginning of a body
abbrev pub beginning : Option CType → Near
beginning t = record { result = t; may_break = false; may_continue = false; is_direct = false; is_switch_block = false }

abbrev pub broken_body : Given → Near → List BlockItem → List Pair
broken_body g near items = of_each (λ x. (judge_item g x).broken near) items

abbrev pub broken_external : Given → External → List Pair
broken_external g (external.Empty at) = []
broken_external g (external.Declared x) = broken_declaration g false x
broken_external g (external.Defined specifiers inside body at) =
    broken_specifiers g specifiers ++ broken_declarator g inside ++ broken_body g (beginning (result_of g.names (meaning_at g.names (name_at inside)))) body
