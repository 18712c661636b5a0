-- What an accepted program returns converts to the type of its function's result.
use Rattle.std.proofs.Common.{◌≡◌, ℕ, Bool, true, false, not, ◌||◌, List, [], Option, Some, None, refl, ap, sym, subst, ◌∙◌, slice_get}
use Rattle.c_tree.specs.declared.expression.Expression.{Expression}
use Rattle.c_tree.specs.declared.statement.Statement.{Statement, out-Statement}
use Rattle.c_tree.specs.declared.statement.BlockItem.TheOpen.{Statement-F as t}
use Rattle.c_kinds.specs.declared.types.CType.{CType}
use Rattle.c_kinds.specs.declared.types.Signature.{Signature}
use Rattle.c_kinds.specs.declared.typed.Typed.{Typed}
use Rattle.c_kinds.specs.declared.answer.Answer.{Answer}
use Rattle.c_kinds.specs.declared.answer.Answer.TheVariants.{Gives, Breaks, Nothing}
use Rattle.c_kinds.specs.Casts.{fits}
use Rattle.c_kinds.specs.Types.{void, is_void, is_void_shape, is_rows, unqualified}
use Rattle.c_kinds.specs.Values.{and_then, used, value, unless, converted_value}
use Rattle.c_kinds.specs.Layouts.{is_incomplete}
use Rattle.c_rules.specs.declared.names.Function.{Function}
use Rattle.c_rules.specs.declared.program.Program.{Program}
use Rattle.c_rules.specs.Accepted.{given_in, IsAcceptedProgram}
use Rattle.c_rules.specs.Broken.{pair_if, broken_in}
use Rattle.c_rules.specs.Expressions.{broken_expression, is_used}
use Rattle.c_rules.specs.Statements.{Near, function_result, misfits, return_pairs, value_of, result_by as result_rule}
use Rattle.c_rules.specs.Typing.{layout_of}
use Rattle.c_rules.proofs.Empty.{first_empty, second_empty}
use Rattle.c_rules.proofs.Told.{Tell}
use Rattle.c_model.specs.Configurations.{Item, Work, State}
use Rattle.c_model.specs.Functions.{result_by, signature_by, signature_in, result_of}
use Rattle.c_model.specs.Programs.{StatementNode, types_of}
use Rattle.c_heads.specs.Controls.{ReturnsBy, running_in}
use Rattle.c_heads.specs.Sound.{value_type, IsTypedStatement, IsNext}
use Rattle.c_heads.specs.Typed.{ConvertsTo}
use Rattle.c_sound.proofs.Shapes.{decayed, shape_with, types_with, value_types, fits_converts, void_converts}
use Rattle.c_sound.proofs.Rights.{IsRight, has_its_type}
use Rattle.c_sound.proofs.Standing.{Around, StatementOn}
use Rattle.c_sound.proofs.Parts.{NodeIn, node_in}
use Rattle.c_sound.proofs.Starting.{accepted_tells, reached_code}
use Rattle.c_sound.proofs.Jumping.{nothing_asked, nothing_kept}

-- ---- the type of a function's result, as the rules and as the machine take it

abbrev or_void : Option CType → CType
or_void None = void
or_void (Some t) = unqualified t

by_signature : (s : Option Signature) → result_by s ≡ or_void (result_rule s)
by_signature None = refl
by_signature (Some s) = refl

by_number : (p : Program) (n : Option ℕ) (f : Function) → f.signature ≡ n → result_by (signature_by p n) ≡ or_void (function_result p.names (Some f))
by_number p None f q = rw q refl
by_number p (Some n) f q = rw q (by_signature (slice_get p.names.signatures n))

by_function : (p : Program) (m : Option Function) → result_by (signature_in p m) ≡ or_void (function_result p.names m)
by_function p None = refl
by_function p (Some f) = by_number p f.signature f refl

-- ---- conversions

pair_no : (b : Bool) (at rule : ℕ) → pair_if b at rule ≡ [] → b ≡ false
pair_no true at rule h = cc
pair_no false at rule h = refl

neither : (a b : Bool) → (a || b) ≡ false → b ≡ false
neither true b h = absurd (cc)
neither false b h = h

not_void : (b : Bool) → not b ≡ false → b ≡ true
not_void true h = refl
not_void false h = cc

returns_nothing : (p : Program) (at : ℕ) (r : Option CType) → return_pairs (given_in p) at r None ≡ [] → ConvertsTo p (or_void r) void
returns_nothing p at None h = tt
returns_nothing p at (Some t) h = void_converts p (unqualified t) void (ap is_void_shape (shape_with false t) ∙ not_void (is_void t) (pair_no (not (is_void t)) at 20 h))

valued : (b c : Bool) (rule at other place : ℕ) (t : CType) (v : Typed) (y : Answer) → unless b rule at (unless c other place (Gives v)) ≡ y → misfits t (and_then y is_used) ≡ false → broken_in (and_then y is_used) ≡ [] → fits t v ≡ true
valued true c rule at other place t v (Gives w) q h i = absurd (cc)
valued true c rule at other place t v (Breaks r a) q h i = absurd (cc)
valued true c rule at other place t v Nothing q h i = absurd (cc)
valued false true rule at other place t v (Gives w) q h i = absurd (cc)
valued false true rule at other place t v (Breaks r a) q h i = absurd (cc)
valued false true rule at other place t v Nothing q h i = absurd (cc)
valued false false rule at other place t v (Gives w) q h i = let same : v ≡ w = cc in subst (λ z. fits t z ≡ true) (sym same) (not_void (fits t w) h)
valued false false rule at other place t v (Breaks r a) q h i = absurd (cc)
valued false false rule at other place t v Nothing q h i = absurd (cc)

returns_value : (p : Program) → Tell p.names → (at : ℕ) (r : Option CType) (x : Expression) → IsRight p x → return_pairs (given_in p) at r (Some x) ≡ [] → broken_in (value_of (given_in p) x) ≡ [] → ConvertsTo p (or_void r) (value_type p x)
returns_value p tells at None x is h i = tt
returns_value p tells at (Some u) x is h i =
    let has = has_its_type p tells x is in
    let w = has.typed in
    let l = layout_of (given_in p) in
    let fit = subst (λ y. misfits u (used l y is_used) ≡ false) has.answer (neither (is_void u) (misfits u (value_of (given_in p) x)) (pair_no (is_void u || misfits u (value_of (given_in p) x)) at 20 h)) in
    let clear = subst (λ y. broken_in (used l y is_used) ≡ []) has.answer i in
    let fits_it = valued (is_rows w.ctype) (is_incomplete l.structs w.ends_at w.ctype) 9 w.named_at 10 w.named_at u (converted_value w) (value l w) refl fit clear in
    fits_converts p u (unqualified u) (converted_value w) fits_it (shape_with false u) (types_with p false u) (value_type p x)
    (ap (λ k. types_of p (decayed k)) has.same ∙ sym (value_types w p))

-- ---- statements

module _ (p : Program) (tells : Tell p.names) where
  returned_by : (f : ℕ) (r : Option CType) (t : CType) → r ≡ function_result p.names (slice_get p.names.functions f) → ConvertsTo p (or_void r) t → ConvertsTo p (result_of p f) t
  returned_by f r t q h = subst (λ u. ConvertsTo p u t) (ap or_void q ∙ sym (by_function p (slice_get p.names.functions f))) h

  returned : (function : Option ℕ) (r : Option CType) (t : CType) → ((f : ℕ) → function ≡ Some f → r ≡ function_result p.names (slice_get p.names.functions f)) → ConvertsTo p (or_void r) t → ReturnsBy p function t
  returned None r t q h = tt
  returned (Some f) r t q h = returned_by f r t (q f refl) h

  typed_node : (rest : List Item) (near : Near) (l : StatementNode) → Around p near rest → NodeIn p near l → IsTypedStatement p (running_in rest) l
  typed_node rest near (t.Return None at) h is = returned (running_in rest) near.result void h.result (returns_nothing p at near.result (first_empty (return_pairs (given_in p) at near.result None) _ is.clear))
  typed_node rest near (t.Return (Some x) at) h is =
      let used_clear = second_empty (return_pairs (given_in p) at near.result (Some x)) _ is.clear in
      returned (running_in rest) near.result (value_type p x) h.result
      (returns_value p tells at near.result x (record { clear = first_empty _ _ used_clear; told = is.told }) (first_empty (return_pairs (given_in p) at near.result (Some x)) _ is.clear) (second_empty (broken_expression (given_in p) x) _ used_clear))
  typed_node rest near l h is = tt

  typed_statement : (rest : List Item) (x : Statement) → StatementOn p rest x → IsTypedStatement p (running_in rest) (out-Statement x)
  typed_statement rest x h = typed_node rest h.near (out-Statement x) h.around (node_in p h.near x h.is)

pub returns_fit : (p : Program) → IsAcceptedProgram p → (c : State) (s : Statement) (rest : List Item) → IsNext p c (Work s) rest → IsTypedStatement p (running_in rest) (out-Statement s)
returns_fit p h c s rest n = typed_statement p (accepted_tells p h) rest s (reached_code p nothing_asked (nothing_kept p) h c (Work s) rest n).0
