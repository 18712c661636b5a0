-- What names stand for where expressions have types.
use Rattle.std.proofs.Common.{◌≡◌, ℕ, ℤ, Bool, true, false, ◌&&◌, ◌||◌, cond, List, [], ◌∷◌, Option, Some, None, refl, ap, sym, ◌∙◌, slice_get}
use Rattle.c_tree.specs.declared.expression.Expression.{Expression}
use Rattle.c_tree.specs.declared.expression.Expression.TheVariants as tree
use Rattle.c_kinds.specs.declared.types.CType.{CType}
use Rattle.c_kinds.specs.declared.typed.Typed.{Typed}
use Rattle.c_kinds.specs.Layouts.{Layout}
use Rattle.c_kinds.specs.declared.answer.Answer.{Answer}
use Rattle.c_kinds.specs.declared.answer.Answer.TheVariants.{Gives, Breaks, Nothing}
use Rattle.c_kinds.specs.Values.{and_then, used, value}
use Rattle.c_rules.specs.declared.names.Meaning.{Meaning}
use Rattle.c_rules.specs.declared.names.Meaning.TheVariants as meaning
use Rattle.c_rules.specs.declared.names.Names.{Names}
use Rattle.c_rules.specs.declared.names.Object.{Object}
use Rattle.c_rules.specs.Typing.{Given, layout_of, meaning_at, object_typed, object_answer, constant_answer, name_by, call_by, named_call, cast_to, sizeof_named, is_function_meaning, is_text, with_arguments, expression_answer, answer_of}
use Rattle.c_rules.specs.Laws.{object_type, IsValueNamed, NamesHaveMeanings, CallsHaveFunctions, IsTypeNamed, CastsHaveTypes, SizesHaveTypes}
use Rattle.c_rules.proofs.Typings.{answer_is}
use Rattle.c_rules.proofs.Views.{name_is_called}

-- ---- names

of_typed : (at n : ℕ) (o : Object) (t : Option CType) (v : Typed) → object_typed at n o t ≡ Gives v → t ≡ Some v.ctype
of_typed at n o None v h = cc
of_typed at n o (Some t) v h = cc

chosen : (b : Bool) (x : Answer) (rule at : ℕ) (v : Typed) → cond b x (Breaks rule at) ≡ Gives v → x ≡ Gives v
chosen true x rule at v h = h
chosen false x rule at v h = cc

of_object : (u : Bool) (at n : ℕ) (o : Option Object) (v : Typed) → object_answer u at n o ≡ Gives v → object_type o ≡ Some v.ctype
of_object u at n None v h = cc
of_object u at n (Some o) v h = of_typed at n o o.ctype v (chosen (o.is_defined || u) (object_typed at n o o.ctype) 3 at v h)

of_constant : (at : ℕ) (n : Option ℤ) (v : Typed) → constant_answer at n ≡ Gives v → (k : ℤ) × (n ≡ Some k)
of_constant at None v h = cc
of_constant at (Some k) v h = (k, refl)

of_name : (names : Names) (u : Bool) (at : ℕ) (m : Option Meaning) (v : Typed) → name_by names u at m ≡ Gives v → IsValueNamed names m v.ctype
of_name names u at (Some (meaning.Object n)) v h = of_object u at n (slice_get names.objects n) v h
of_name names u at (Some (meaning.Constant n)) v h = of_constant at n v h
of_name names u at _ v h = cc

pub names_have_meanings : NamesHaveMeanings
names_have_meanings g name at u v h =
    of_name g.names u at (meaning_at g.names at) v
    (sym (ap (λ l. expression_answer g (answer_of g) (λ y. y) l u) (tree.outs-Name name at)) ∙ sym (answer_is g (tree.Name name at) u) ∙ h)

-- ---- calls

then_given : (x : Answer) (f : Typed → Answer) (v : Typed) → and_then x f ≡ Gives v → (w : Typed) × (f w ≡ Gives v)
then_given (Gives w) f v h = (w, h)
then_given (Breaks rule at) f v h = cc
then_given Nothing f v h = cc

used_given : (l : Layout) (x : Answer) (f : Typed → Answer) (v : Typed) → used l x f ≡ Gives v → (w : Typed) × (f w ≡ Gives v)
used_given l (Gives w) f v h = then_given (value l w) f v h
used_given l (Breaks rule at) f v h = cc
used_given l Nothing f v h = cc

never_given : (x : Answer) (rule at : ℕ) (v : Typed) → and_then x (λ _. Breaks rule at) ≡ Gives v → ⊥
never_given (Gives w) rule at v h = cc
never_given (Breaks r a) rule at v h = cc
never_given Nothing rule at v h = cc

-- what stands after arguments gives where the whole gives
abbrev Passes : (Bool → Answer → Answer) → Type 0
Passes arguments = (texts : Bool) (answer : Answer) (v : Typed) → arguments texts answer ≡ Gives v → (w : Typed) × (answer ≡ Gives w)

passed : (b : Bool) (l : Layout) (x rest : Answer) (v : Typed) → cond b rest (used l x (λ _. rest)) ≡ Gives v → rest ≡ Gives v
passed true l x rest v h = h
passed false l x rest v h = (used_given l x (λ _. rest) v h).1

arguments_pass : (l : Layout) (answers : Expression → Answer) (xs : List Expression) → Passes (λ texts answer. with_arguments l answers (λ x. x) texts xs answer)
arguments_pass l answers [] texts answer v h = (v, h)
arguments_pass l answers (x ∷ xs) texts answer v h = arguments_pass l answers xs texts answer v (passed (texts && is_text x) l (answers x) _ v h)

-- a call of what has a type, but is no function
no_call : (arguments : Bool → Answer → Answer) → Passes arguments → (x : Answer) (texts : Bool) (at : ℕ) (v : Typed)
    → and_then x (λ _. arguments texts (and_then x (λ _. Breaks 12 at))) ≡ Gives v → ⊥
no_call arguments passes x texts at v h =
    let after = then_given x _ v h in
    let called = passes texts _ v after.1 in
    never_given x 12 at called.0 called.1

of_called : (g : Given) (u : Bool) (arguments : Bool → Answer → Answer) → Passes arguments → (name at : ℕ) (m : Option Meaning) (v : Typed)
    → named_call g u arguments name at m ≡ Gives v → is_function_meaning m ≡ true
of_called g u arguments passes name at (Some (meaning.Function n)) v h = refl
of_called g u arguments passes name at (Some (meaning.Known function)) v h = refl
of_called g u arguments passes name at None v h = cc
of_called g u arguments passes name at (Some (meaning.Object n)) v h = absurd (no_call arguments passes (object_answer u name n (slice_get g.names.objects n)) false at v h)
of_called g u arguments passes name at (Some (meaning.Constant n)) v h = absurd (no_call arguments passes (constant_answer name n) false at v h)
of_called g u arguments passes name at (Some (meaning.Type t star)) v h = cc

pub calls_have_functions : CallsHaveFunctions
calls_have_functions g name named_at arguments at u v h =
    of_called g u (λ texts answer. with_arguments (layout_of g) (λ x. answer_of g x u) (λ x. x) texts arguments answer)
    (arguments_pass (layout_of g) (λ x. answer_of g x u) arguments) named_at at (meaning_at g.names named_at) v
    (sym (name_is_called g u name named_at (answer_of g (tree.Name name named_at) u) (λ texts answer. with_arguments (layout_of g) (λ x. answer_of g x u) (λ x. x) texts arguments answer) at)
    ∙ sym (ap (λ l. expression_answer g (answer_of g) (λ y. y) l u) (tree.outs-Call (tree.Name name named_at) arguments at)) ∙ sym (answer_is g (tree.Call (tree.Name name named_at) arguments at) u) ∙ h)

-- ---- type names

of_cast : (at : ℕ) (m : Option Meaning) (w v : Typed) → cast_to at m w ≡ Gives v → IsTypeNamed m
of_cast at (Some (meaning.Type (Some t) star)) w v h = (t, star, refl)
of_cast at (Some (meaning.Type None star)) w v h = cc
of_cast at _ w v h = cc

of_size : (l : Layout) (at : ℕ) (m : Option Meaning) (v : Typed) → sizeof_named l at m ≡ Gives v → IsTypeNamed m
of_size l at (Some (meaning.Type (Some t) star)) v h = (t, star, refl)
of_size l at (Some (meaning.Type None star)) v h = cc
of_size l at _ v h = cc

pub casts_have_types : CastsHaveTypes
casts_have_types g named operand at u v h =
    let found = used_given (layout_of g) (answer_of g operand u) (λ w. cast_to at (meaning_at g.names at) w) v
    (sym (ap (λ l. expression_answer g (answer_of g) (λ y. y) l u) (tree.outs-Cast named operand at)) ∙ sym (answer_is g (tree.Cast named operand at) u) ∙ h) in
    of_cast at (meaning_at g.names at) found.0 v found.1

pub sizes_have_types : SizesHaveTypes
sizes_have_types g named at u v h =
    of_size (layout_of g) at (meaning_at g.names at) v
    (sym (ap (λ l. expression_answer g (answer_of g) (λ y. y) l u) (tree.outs-SizeofType named at)) ∙ sym (answer_is g (tree.SizeofType named at) u) ∙ h)
