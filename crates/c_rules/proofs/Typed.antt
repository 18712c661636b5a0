-- An expression that breaks no rule has a type, where names tell what they stand for.
use Rattle.std.proofs.Common.{◌≡◌, ℕ, ℤ, ◌+◌, not, Bool, true, false, ◌&&◌, ◌||◌, cond, List, [], ◌∷◌, ◌++◌, map, Option, Some, None, refl, ap, sym, subst, ◌∙◌, slice_get}
use Rattle.std.specs.List.{list_all}
use Rattle.std.proofs.lemmas.List.Folds.{list_all-append}
use Rattle.c_tree.specs.declared.expression.Declarator.{Declarator}
use Rattle.c_tree.specs.declared.expression.EnumConstant.{EnumConstant}
use Rattle.c_tree.specs.declared.expression.Expression.{Expression, out-Expression}
use Rattle.c_tree.specs.declared.expression.Member.{Member}
use Rattle.c_tree.specs.declared.expression.Specifier.{Specifier}
use Rattle.c_tree.specs.declared.expression.MemberLine.{MemberLine}
use Rattle.c_tree.specs.declared.expression.Parameter.{Parameter}
use Rattle.c_tree.specs.declared.expression.TypeName.{TypeName}
use Rattle.c_tree.specs.declared.expression.UnaryOperator.{UnaryOperator}
use Rattle.c_tree.specs.declared.expression.UnaryOperator.TheVariants as unary
use Rattle.c_tree.specs.declared.expression.Declarator.TheOpen.{Expression-F}
use Rattle.c_tree.specs.declared.expression.Declarator.TheOpen.{Expression-F as e}
use Rattle.c_kinds.specs.declared.types.CType.{CType}
use Rattle.c_kinds.specs.declared.types.Member.{Member as StructMember}
use Rattle.c_kinds.specs.declared.types.Shape.{Shape}
use Rattle.c_kinds.specs.declared.types.Shape.TheVariants as shape
use Rattle.c_kinds.specs.declared.typed.Typed.{Typed}
use Rattle.c_kinds.specs.Types.{shape_of, inner, is_pointer, is_rows, also_const, const_of}
use Rattle.c_kinds.specs.Addresses.{further_in}
use Rattle.c_kinds.specs.Layouts.{Layout, members_by, member_in, struct_is_complete}
use Rattle.c_kinds.specs.declared.answer.Answer.{Answer}
use Rattle.c_kinds.specs.declared.answer.Answer.TheVariants.{Gives, Breaks, Nothing}
use Rattle.c_kinds.specs.Values.{part, used, value, and_then, place}
use Rattle.c_kinds.specs.Elements.{member_place, member_by, pointed_struct}
use Rattle.c_kinds.specs.Laws.{Speaks}
use Rattle.c_kinds.proofs.Speaking.{operators_speak, speaks_then, speaks_unless}
use Rattle.c_rules.specs.declared.names.Meaning.{Meaning}
use Rattle.c_rules.specs.declared.names.Meaning.TheVariants as meaning
use Rattle.c_rules.specs.declared.names.Object.{Object}
use Rattle.c_rules.specs.declared.names.Names.{Names}
use Rattle.c_rules.specs.Recursion.{Nodes, of_expression}
use Rattle.c_rules.specs.Broken.{of_each, broken_in}
use Rattle.c_rules.specs.Calls.{is_some}
use Rattle.c_rules.specs.Typing.{Given, layout_of, meaning_at, numbered_result, object_typed, object_answer, constant_answer, name_by, is_assert_fail, is_text, is_function_meaning, called_result, call_by, cast_to, sizeof_named, names_function, unary_node, named_call, call_answer, with_arguments, sequence_answer, expression_answer, answer_of}
use Rattle.c_rules.specs.Expressions.{has_type, in_arguments, in_expression}
use Rattle.c_rules.specs.Told.{object_tells, tells}
use Rattle.c_rules.specs.Found.{AnswerAt, token_of, answering}
use Rattle.c_rules.proofs.Recursion.{expression_beside, expression_is}
use Rattle.c_rules.proofs.Told.{member_tells, Tell}
use Rattle.c_rules.proofs.Typings.{answer_is}

-- ---- lists of answers that are types

abbrev pub has_answer : AnswerAt → Bool
has_answer x = has_type x.answer

pub record AllTyped (xs : List AnswerAt) : Type 0 where
  pub all : list_all has_answer xs ≡ true

pub nothing_typed : AllTyped []
nothing_typed = record { all = refl }

and_first : (a b : Bool) → (a && b) ≡ true → a ≡ true
and_first true b e = refl
and_first false b e = e

and_second : (a b : Bool) → (a && b) ≡ true → b ≡ true
and_second true b e = e
and_second false b e = cc

and_both : (a b : Bool) → a ≡ true → b ≡ true → (a && b) ≡ true
and_both true b e f = f
and_both false b e f = cc

pub first_typed : (xs ys : List AnswerAt) → AllTyped (xs ++ ys) → AllTyped xs
first_typed xs ys h = record { all = and_first (list_all has_answer xs) (list_all has_answer ys) (sym (list_all-append has_answer xs ys) ∙ h.all) }

pub second_typed : (xs ys : List AnswerAt) → AllTyped (xs ++ ys) → AllTyped ys
second_typed xs ys h = record { all = and_second (list_all has_answer xs) (list_all has_answer ys) (sym (list_all-append has_answer xs ys) ∙ h.all) }

pub typed_both : (xs ys : List AnswerAt) → AllTyped xs → AllTyped ys → AllTyped (xs ++ ys)
typed_both xs ys f g = record { all = list_all-append has_answer xs ys ∙ and_both (list_all has_answer xs) (list_all has_answer ys) f.all g.all }

pub typed_one : (at : ℕ) (x : Answer) → has_type x ≡ true → AllTyped (record { at = at; answer = x } ∷ [])
typed_one at x h = record { all = and_both (has_type x) true h refl }

pub typed_alone : (at : ℕ) (x : Answer) → AllTyped (record { at = at; answer = x } ∷ []) → has_type x ≡ true
typed_alone at x h = and_first (has_type x) true h.all

-- ---- parts that have a type

abbrev pub IsTyped : Answer → Type 0
IsTyped x = has_type x ≡ true

part_speaks : (x : Answer) (f : Typed → Answer) → IsTyped x → ((v : Typed) → Speaks (f v)) → Speaks (part x f)
part_speaks (Gives v) f e h = h v
part_speaks (Breaks rule at) f e h = cc
part_speaks Nothing f e h = cc

used_speaks : (l : Layout) (x : Answer) (f : Typed → Answer) → IsTyped x → ((v : Typed) → Speaks (f v)) → Speaks (used l x f)
used_speaks l x f e h = part_speaks x _ e (λ v. speaks_then (value l v) f (operators_speak.of_values l v) h)

-- ---- names

typed_object : (at n : ℕ) (o : Object) (t : Option CType) → is_some t ≡ true → Speaks (object_typed at n o t)
typed_object at n o None h = cc
typed_object at n o (Some t) h = refl

either : (b : Bool) (x y : Answer) → Speaks x → Speaks y → Speaks (cond b x y)
either true x y h i = h
either false x y h i = i

of_object : (u : Bool) (at n : ℕ) (o : Option Object) → object_tells o ≡ true → Speaks (object_answer u at n o)
of_object u at n None h = cc
of_object u at n (Some o) h = either (o.is_defined || u) _ _ (typed_object at n o o.ctype h) refl

of_constant : (at : ℕ) (n : Option ℤ) → is_some n ≡ true → Speaks (constant_answer at n)
of_constant at None h = cc
of_constant at (Some n) h = refl

of_name : (names : Names) (u : Bool) (at : ℕ) (m : Option Meaning) → tells names m ≡ true → Speaks (name_by names u at m)
of_name names u at None h = refl
of_name names u at (Some (meaning.Object n)) h = of_object u at n (slice_get names.objects n) h
of_name names u at (Some (meaning.Constant n)) h = of_constant at n h
of_name names u at (Some (meaning.Function n)) h = refl
of_name names u at (Some (meaning.Known function)) h = refl
of_name names u at (Some (meaning.Type t star)) h = refl

-- ---- calls

of_result : (name at : ℕ) (t : Option CType) → is_some t ≡ true → Speaks (called_result name at t)
of_result name at None h = cc
of_result name at (Some t) h = refl

of_called : (names : Names) (u : Bool) (name at : ℕ) (m : Option Meaning) → tells names m ≡ true → Speaks (call_by names u name at m)
of_called names u name at None h = refl
of_called names u name at (Some (meaning.Object n)) h = speaks_then (object_answer u name n (slice_get names.objects n)) _ (of_object u name n (slice_get names.objects n) h) (λ v. refl)
of_called names u name at (Some (meaning.Constant n)) h = speaks_then (constant_answer name n) _ (of_constant name n h) (λ v. refl)
of_called names u name at (Some (meaning.Function n)) h = of_result name at (numbered_result names (slice_get names.functions n)) h
of_called names u name at (Some (meaning.Known function)) h = refl
of_called names u name at (Some (meaning.Type t star)) h = refl

-- ---- type names

of_named_cast : (names : Names) (at : ℕ) (m : Option Meaning) (v : Typed) → tells names m ≡ true → Speaks (cast_to at m v)
of_named_cast names at None v h = refl
of_named_cast names at (Some (meaning.Object n)) v h = refl
of_named_cast names at (Some (meaning.Constant n)) v h = refl
of_named_cast names at (Some (meaning.Function n)) v h = refl
of_named_cast names at (Some (meaning.Known function)) v h = refl
of_named_cast names at (Some (meaning.Type None star)) v h = cc
of_named_cast names at (Some (meaning.Type (Some t) star)) v h = operators_speak.of_cast at star t v

of_named_size : (names : Names) (l : Layout) (at : ℕ) (m : Option Meaning) → tells names m ≡ true → Speaks (sizeof_named l at m)
of_named_size names l at None h = refl
of_named_size names l at (Some (meaning.Object n)) h = refl
of_named_size names l at (Some (meaning.Constant n)) h = refl
of_named_size names l at (Some (meaning.Function n)) h = refl
of_named_size names l at (Some (meaning.Known function)) h = refl
of_named_size names l at (Some (meaning.Type None star)) h = cc
of_named_size names l at (Some (meaning.Type (Some t) star)) h = operators_speak.of_sizeof_type l at star t

-- ---- members

of_member_place : (at : ℕ) (object : Typed) (m : Option StructMember) → member_tells m ≡ true → Speaks (member_place at object m)
of_member_place at object None h = refl
of_member_place at object (Some m) h = typed (m.ctype) h
  where
    typed : (t : Option CType) → is_some t ≡ true → Speaks (elim t as (λ _. Answer) [ None ↦ Nothing | Some t ↦ Gives (place (also_const (const_of object.ctype) t) (further_in m.cell object.fixed) (further_in m.cell object.fixed) (at + 1) (at + 1)) ])
    typed None e = cc
    typed (Some t) e = refl

of_member_by : (l : Layout) (at : ℕ) (name : List ℕ) (s : Shape) (object : Typed) → ((n : ℕ) → member_tells (member_in (members_by (slice_get l.structs n)) name) ≡ true) → Speaks (member_by l at name s object)
of_member_by l at name (shape.Struct n) object h =
    either (struct_is_complete at (slice_get l.structs n)) (member_place at object (member_in (members_by (slice_get l.structs n)) name)) (Breaks 3 (at + 1)) (of_member_place at object (member_in (members_by (slice_get l.structs n)) name) (h n)) refl
of_member_by l at name _ object h = refl

of_unary_node : (l : Layout) (operator : UnaryOperator) (at : ℕ) (x : Answer) → IsTyped x → Speaks (unary_node l operator at x)
of_unary_node l unary.Address at x h = part_speaks x _ h (λ v. operators_speak.of_address at v)
of_unary_node l unary.Indirection at x h = used_speaks l x _ h (λ v. operators_speak.of_unary l unary.Indirection at v)
of_unary_node l unary.Plus at x h = used_speaks l x _ h (λ v. operators_speak.of_unary l unary.Plus at v)
of_unary_node l unary.Minus at x h = used_speaks l x _ h (λ v. operators_speak.of_unary l unary.Minus at v)
of_unary_node l unary.Complement at x h = used_speaks l x _ h (λ v. operators_speak.of_unary l unary.Complement at v)
of_unary_node l unary.Not at x h = used_speaks l x _ h (λ v. operators_speak.of_unary l unary.Not at v)

-- ---- the answer of a node, from those of its parts, whatever stands beside them

module _ {D C E M S L P T : Type 0} (g : Given) (n : Nodes D C E M S L P T) (u : Bool) where
  abbrev beside : Expression → Expression × E
  beside x = (x, of_expression n x)

  arguments_beside : (texts : Bool) (xs : List Expression) (answer : Answer)
      → with_arguments (layout_of g) (λ (x : Expression × E). answer_of g x.0 u) (λ x. x.0) texts (map beside xs) answer
      ≡ with_arguments (layout_of g) (λ x. answer_of g x u) (λ x. x) texts xs answer
  arguments_beside texts [] answer = refl
  arguments_beside texts (x ∷ xs) answer =
      ap (λ rest. cond (texts && is_text x) rest (used (layout_of g) (answer_of g x u) (λ _. rest))) (arguments_beside texts xs answer)

  sequence_beside : (at : ℕ) (xs : List Expression)
      → sequence_answer (layout_of g) (λ (x : Expression × E). answer_of g x.0 u) at (map beside xs) ≡ sequence_answer (layout_of g) (λ x. answer_of g x u) at xs
  sequence_beside at [] = refl
  sequence_beside at (x ∷ []) = refl
  sequence_beside at (x ∷ (y ∷ rest)) = ap (λ r. used (layout_of g) (answer_of g x u) (λ _. r)) (sequence_beside at (y ∷ rest))

  pub answer_beside : (l : Expression-F Declarator EnumConstant Expression Member Specifier MemberLine Parameter TypeName)
      → expression_answer g (λ x. answer_of g x.0) (λ x. x.0) (expression_beside n l) u ≡ expression_answer g (answer_of g) (λ x. x) l u
  answer_beside (e.Call function arguments at) =
      ap (λ f. call_answer g u function (answer_of g function u) f at) (λ i texts answer. arguments_beside texts arguments answer i)
  answer_beside (e.Comma parts at) = sequence_beside at parts
  answer_beside _ = refl

-- ---- a node whose parts have types

module _ (g : Given) (u : Bool) where
  -- an expression among whose parts none lacks a type has one
  pub typed_part : (x : Expression) → AllTyped (of_expression (answering g) x u) → IsTyped (answer_of g x u)
  typed_part x h =
      subst IsTyped (answer_beside g (answering g) u (out-Expression x) ∙ sym (answer_is g x u))
      (typed_alone (token_of (expression_beside (answering g) (out-Expression x))) _ (second_typed (in_expression g (λ x. x.0) (λ x. x.1) (λ x. x.1) (expression_beside (answering g) (out-Expression x)) u) _ (subst AllTyped (ap (λ f. f u) (expression_is (answering g) x)) h)))

  abbrev sought : Expression → Expression × (Bool → List AnswerAt)
  sought x = (x, of_expression (answering g) x)

  of_arguments : (texts : Bool) (xs : List Expression) (answer : Answer) → Speaks answer
      → AllTyped (in_arguments (λ x. x.0) (λ x. x.1) texts u (map sought xs)) → Speaks (with_arguments (layout_of g) (λ x. answer_of g x u) (λ x. x) texts xs answer)
  of_arguments texts [] answer s h = s
  of_arguments texts (x ∷ xs) answer s h = one (texts && is_text x) (first_typed _ _ h) (with_arguments (layout_of g) (λ x. answer_of g x u) (λ x. x) texts xs answer) (of_arguments texts xs answer s (second_typed _ _ h))
    where
      one : (b : Bool) → AllTyped (cond b [] (of_expression (answering g) x u)) → (rest : Answer) → Speaks rest → Speaks (cond b rest (used (layout_of g) (answer_of g x u) (λ _. rest)))
      one true i rest j = j
      one false i rest j = used_speaks (layout_of g) (answer_of g x u) _ (typed_part x i) (λ v. j)

  of_sequence : (at : ℕ) (xs : List Expression) → AllTyped (of_each (λ x. x.1 u) (map sought xs)) → Speaks (sequence_answer (layout_of g) (λ x. answer_of g x u) at xs)
  of_sequence at [] h = refl
  of_sequence at (x ∷ []) h = used_speaks (layout_of g) (answer_of g x u) _ (typed_part x (first_typed _ _ h)) (λ v. refl)
  of_sequence at (x ∷ (y ∷ rest)) h = used_speaks (layout_of g) (answer_of g x u) _ (typed_part x (first_typed _ _ h)) (λ v. of_sequence at (y ∷ rest) (second_typed _ _ h))

module _ (g : Given) (told : Tell g.names) (u : Bool) where
  of_named_call : (arguments : Bool → Answer → Answer) (name at : ℕ) (m : Option Meaning) → tells g.names m ≡ true
      → ((answer : Answer) → Speaks answer → Speaks (arguments (is_assert_fail g.names m) answer)) → Speaks (named_call g u arguments name at m)
  of_named_call arguments name at m h k =
      let called = k (call_by g.names u name at m) (of_called g.names u name at m h) in
      either (is_function_meaning m) _ _ called (speaks_then (name_by g.names u name m) _ (of_name g.names u name m h) (λ _. called))

  -- a call of what stands in this layer
  of_call : (function : Expression) (xs : List Expression) (at : ℕ) (o : Expression-F Declarator EnumConstant Expression Member Specifier MemberLine Parameter TypeName)
      → AllTyped (elim o as (λ _. List AnswerAt) [
        | e.«Expression::Name» text name ↦ in_arguments (λ x. x.0) (λ x. x.1) (is_assert_fail g.names (meaning_at g.names name)) u (map (sought g u) xs)
        | _ ↦ of_expression (answering g) function u ++ in_arguments (λ x. x.0) (λ x. x.1) false u (map (sought g u) xs)
      ])
      → Speaks (elim o as (λ _. Answer) [
        | e.«Expression::Name» text name ↦ named_call g u (λ texts answer. with_arguments (layout_of g) (λ x. answer_of g x u) (λ x. x) texts xs answer) name at (meaning_at g.names name)
        | _ ↦ part (answer_of g function u) (λ _. Breaks 12 at)
      ])
  of_call function xs at (e.«Expression::Name» text name) h =
      of_named_call (λ texts answer. with_arguments (layout_of g) (λ x. answer_of g x u) (λ x. x) texts xs answer) name at (meaning_at g.names name) (told.of_tokens name)
      (λ answer s. of_arguments g u (is_assert_fail g.names (meaning_at g.names name)) xs answer s h)
  of_call function xs at _ h = part_speaks (answer_of g function u) _ (typed_part g u function (first_typed _ _ h)) (λ v. refl)

  pub of_node : (l : Expression-F Declarator EnumConstant Expression Member Specifier MemberLine Parameter TypeName)
      → AllTyped (in_expression g (λ x. x.0) (λ x. x.1) (λ x. x.1) (expression_beside (answering g) l) u) → Speaks (expression_answer g (answer_of g) (λ x. x) l u)
  of_node (e.«Expression::Name» name at) h = of_name g.names u at (meaning_at g.names at) (told.of_tokens at)
  of_node (e.Constant kind n at) h = refl
  of_node (e.Text at) h = refl
  of_node (e.Subscript array index at) h =
      part_speaks (answer_of g array u) _ (typed_part g u array (first_typed _ _ h)) (λ a.
      used_speaks (layout_of g) (answer_of g index u) _ (typed_part g u index (second_typed _ _ h)) (λ i. operators_speak.of_subscript (layout_of g) at a i))
  of_node (e.Call function arguments at) h = of_call function arguments at (out-Expression function) h
  of_node (e.Member object name at) h = part_speaks (answer_of g object u) _ (typed_part g u object h) (λ x.
      speaks_unless (not x.is_place) 12 at _ (of_member_by (layout_of g) at name (shape_of x.ctype) x (λ n. told.of_members n name)))
  of_node (e.PointedMember pointer name at) h = used_speaks (layout_of g) (answer_of g pointer u) _ (typed_part g u pointer h) (λ p.
      speaks_unless (not (is_pointer p.ctype)) 12 at _ (of_member_by (layout_of g) at name (shape_of (inner p.ctype)) (pointed_struct (layout_of g) p) (λ n. told.of_members n name)))
  of_node (e.Postfix step operand at) h = part_speaks (answer_of g operand u) _ (typed_part g u operand h) (λ x. operators_speak.of_step (layout_of g) at at x)
  of_node (e.Prefix step operand at) h = part_speaks (answer_of g operand u) _ (typed_part g u operand h) (λ x. operators_speak.of_step (layout_of g) at x.ends_at x)
  of_node (e.Unary operator operand at) h = of_unary_node (layout_of g) operator at (answer_of g operand u) (typed_part g u operand h)
  of_node (e.SizeofExpression operand at) h =
      either (names_function g.names operand) (Breaks 16 at) _ refl (part_speaks (answer_of g operand true) _ (typed_part g true operand h) (λ x. operators_speak.of_sizeof (layout_of g) at x))
  of_node (e.SizeofType type_name at) h = of_named_size g.names (layout_of g) at (meaning_at g.names at) (told.of_tokens at)
  of_node (e.Cast type_name operand at) h =
      used_speaks (layout_of g) (answer_of g operand u) _ (typed_part g u operand (second_typed _ _ h)) (λ v. of_named_cast g.names at (meaning_at g.names at) v (told.of_tokens at))
  of_node (e.Binary operator left right at) h =
      used_speaks (layout_of g) (answer_of g left u) _ (typed_part g u left (first_typed _ _ h)) (λ x.
      used_speaks (layout_of g) (answer_of g right u) _ (typed_part g u right (second_typed _ _ h)) (λ y. operators_speak.of_binary (layout_of g) operator at x y))
  of_node (e.Conditional test first otherwise at) h =
      used_speaks (layout_of g) (answer_of g test u) _ (typed_part g u test (first_typed _ _ (first_typed _ _ h))) (λ t.
      used_speaks (layout_of g) (answer_of g first u) _ (typed_part g u first (second_typed _ _ (first_typed _ _ h))) (λ x.
      used_speaks (layout_of g) (answer_of g otherwise u) _ (typed_part g u otherwise (second_typed _ _ h)) (λ y.
      operators_speak.of_conditional at t x y)))
  of_node (e.Assign operator target value at) h =
      part_speaks (answer_of g target u) _ (typed_part g u target (first_typed _ _ h)) (λ x.
      speaks_unless (is_rows x.ctype) 9 x.named_at _
      (used_speaks (layout_of g) (answer_of g value u) _ (typed_part g u value (second_typed _ _ h)) (λ v. operators_speak.of_assign (layout_of g) operator at x v)))
  of_node (e.Comma parts at) h = of_sequence g u at parts h

-- an answer that speaks is a type where it breaks no rule
pub typed_node : (x : Answer) → Speaks x → broken_in x ≡ [] → IsTyped x
typed_node (Gives v) s h = refl
typed_node (Breaks rule at) s h = cc
typed_node Nothing s h = cc
