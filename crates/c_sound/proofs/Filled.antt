-- What is given for a part of an object converts to the part's type.
use Rattle.std.proofs.Common.{◌≡◌, ℕ, Bool, true, false, not, ◌&&◌, cond, List, [], ◌∷◌, ◌++◌, Option, refl, ap, sym, subst, ◌∙◌, inl, inr}
use Rattle.c_tree.specs.declared.expression.Expression.{Expression}
use Rattle.c_tree.specs.declared.declaration.Initialiser.{Initialiser, out-Initialiser}
use Rattle.c_tree.specs.declared.declaration.Initialiser.TheOpen.{Initialiser-F}
use Rattle.c_tree.specs.declared.declaration.Initialiser.TheOpen.{Initialiser-F as i}
use Rattle.c_tree.specs.declared.declaration.Initialiser.TheFolds.{map-Initialiser}
use Rattle.c_kinds.specs.declared.types.CType.{CType}
use Rattle.c_kinds.specs.declared.types.Shape.{Shape}
use Rattle.c_kinds.specs.declared.types.Shape.TheVariants as shape
use Rattle.c_kinds.specs.declared.typed.Typed.{Typed}
use Rattle.c_kinds.specs.declared.answer.Answer.{Answer}
use Rattle.c_kinds.specs.declared.answer.Answer.TheVariants.{Gives, Breaks, Nothing}
use Rattle.c_kinds.specs.Casts.{fits}
use Rattle.c_kinds.specs.Layouts.{is_incomplete}
use Rattle.c_kinds.specs.Types.{shape_of, is_function_shape, is_function, is_rows, is_array}
use Rattle.c_kinds.specs.Values.{and_then, unless, used, value, converted_value}
use Rattle.c_rules.specs.declared.names.Pair.{Pair}
use Rattle.c_rules.specs.declared.program.Program.{Program}
use Rattle.c_rules.specs.Accepted.{given_in, IsAcceptedProgram}
use Rattle.c_rules.specs.Broken.{pair_if, broken_in}
use Rattle.c_rules.specs.Declarators.{holds}
use Rattle.c_rules.specs.Recursion.{of_expression}
use Rattle.c_rules.specs.Expressions.{broken_expression, broken_value, is_used}
use Rattle.c_rules.specs.Found.{AnswerAt, answering, initialiser_found, found_in_initialiser}
use Rattle.c_rules.specs.Initialisers.{Initialised, value_pairs, value_by, one_value, initialiser_pairs, broken_initialiser}
use Rattle.c_rules.specs.Typing.{layout_of, is_text, answer_of}
use Rattle.c_rules.proofs.Empty.{first_empty, second_empty}
use Rattle.c_rules.proofs.Judging.{initialiser_breaks}
use Rattle.c_rules.proofs.Told.{Tell}
use Rattle.c_model.specs.Configurations.{Item, Fills, State}
use Rattle.c_model.specs.Programs.{types_of}
use Rattle.c_heads.specs.Sound.{value_type, IsFilled, IsNext}
use Rattle.c_heads.specs.Typed.{ConvertsBy, ConvertsTo}
use Rattle.c_sound.proofs.Tables.{AreTold}
use Rattle.c_sound.proofs.Shapes.{decayed, value_types, fits_converts}
use Rattle.c_sound.proofs.Rights.{IsRight, has_its_type}
use Rattle.c_sound.proofs.Kept.{IsUnsized, IsOfPart, rules_asked, rules_kept, initialiser_finds}
use Rattle.c_sound.proofs.Starting.{accepted_tells, reached_code}

not_so : (b : Bool) (at rule : ℕ) → pair_if (not b) at rule ≡ [] → b ≡ true
not_so true at rule h = refl
not_so false at rule h = absurd (cc)

valued : (x : Initialised) (t : CType) (b c : Bool) (rule at other place : ℕ) (v : Typed) (y : Answer) → unless b rule at (unless c other place (Gives v)) ≡ y → value_pairs x t (and_then y is_used) ≡ [] → broken_in (and_then y is_used) ≡ [] → fits t v ≡ true
valued x t true c rule at other place v (Gives w) q h i = absurd (cc)
valued x t true c rule at other place v (Breaks r a) q h i = absurd (cc)
valued x t true c rule at other place v Nothing q h i = absurd (cc)
valued x t false true rule at other place v (Gives w) q h i = absurd (cc)
valued x t false true rule at other place v (Breaks r a) q h i = absurd (cc)
valued x t false true rule at other place v Nothing q h i = absurd (cc)
valued x t false false rule at other place v (Gives w) q h i = let same : v ≡ w = cc in subst (λ z. fits t z ≡ true) (sym same) (not_so (fits t w) x.equals 13 (first_empty _ _ (first_empty _ _ h)))
valued x t false false rule at other place v (Breaks r a) q h i = absurd (cc)
valued x t false false rule at other place v Nothing q h i = absurd (cc)

module _ (p : Program) (tells : Tell p.names) where
  -- an expression for an object of a scalar or struct type
  fitted : (x : Initialised) (t : CType) (y : Expression) → IsRight p y → value_pairs x t (used (layout_of (given_in p)) (answer_of (given_in p) y false) is_used) ≡ [] → broken_in (used (layout_of (given_in p)) (answer_of (given_in p) y false) is_used) ≡ []
      → ConvertsTo p t (value_type p y)
  fitted x t y is h i =
      let has = has_its_type p tells y is in
      let w = has.typed in
      let l = layout_of (given_in p) in
      let clear = subst (λ z. value_pairs x t (used l z is_used) ≡ []) has.answer h in
      let gives = subst (λ z. broken_in (used l z is_used) ≡ []) has.answer i in
      fits_converts p t t (converted_value w) (valued x t (is_rows w.ctype) (is_incomplete l.structs w.ends_at w.ctype) 9 w.named_at 10 w.named_at (converted_value w) (value l w) refl clear gives) refl refl (value_type p y)
      (ap (λ k. types_of p (decayed k)) has.same ∙ sym (value_types w p))

  by_shape : (x : Initialised) (t : CType) (s : Shape) (y : Expression) → shape_of t ≡ s → is_function_shape s ≡ false → IsRight p y → value_by x s t (used (layout_of (given_in p)) (answer_of (given_in p) y false) is_used) ≡ []
      → broken_in (used (layout_of (given_in p)) (answer_of (given_in p) y false) is_used) ≡ [] → ConvertsTo p t (value_type p y)
  by_shape x t (shape.Array n) y e o is h i = absurd (cc)
  by_shape x t (shape.Function n) y e o is h i = absurd (cc)
  by_shape x t shape.Void y e o is h i = let P : Shape → Type 0 = λ s. ConvertsBy p s t (value_type p y) in subst P (sym e) tt
  by_shape x t (shape.Integer kind) y e o is h i = fitted x t y is h i
  by_shape x t shape.Pointer y e o is h i = fitted x t y is h i
  by_shape x t (shape.Struct n) y e o is h i = fitted x t y is h i

  unsized : (t from : CType) (s : Shape) → is_function_shape s ≡ false → IsUnsized s → ConvertsBy p s t from
  unsized t from shape.Void o h = tt
  unsized t from (shape.Function n) o h = absurd (cc)
  unsized t from _ o h = absurd h

  whole : (x : Initialised) (m : Option CType) (t : CType) (y : Expression) → is_function t ≡ false → IsOfPart m t → IsRight p y → one_value x m (used (layout_of (given_in p)) (answer_of (given_in p) y false) is_used) ≡ []
      → broken_in (used (layout_of (given_in p)) (answer_of (given_in p) y false) is_used) ≡ [] → ConvertsTo p t (value_type p y)
  whole x m t y o (inr e) is h i = unsized t (value_type p y) (shape_of t) o e.1
  whole x m t y o (inl e) is h i = by_shape x t (shape_of t) y refl o is (subst (λ z. one_value x z (used (layout_of (given_in p)) (answer_of (given_in p) y false) is_used) ≡ []) e h) i

  one : (b : Bool) (q : Pair) (x : Initialised) (m : Option CType) (t : CType) (y : Expression) → is_function t ≡ false → IsOfPart m t → AreTold p (of_expression (answering (given_in p)) y false)
      → cond b (q ∷ []) (broken_value (given_in p) y is_used ++ one_value x m (used (layout_of (given_in p)) (answer_of (given_in p) y false) is_used)) ≡ [] → ConvertsTo p t (value_type p y)
  one true q x m t y o part d h = absurd (cc)
  one false q x m t y o part d h =
      let clear = first_empty (broken_value (given_in p) y is_used) _ h in
      whole x m t y o part (record { clear = first_empty _ _ clear; told = d }) (second_empty (broken_value (given_in p) y is_used) _ h) (second_empty (broken_expression (given_in p) y) _ clear)

  filled : (t : CType) (l : Initialiser-F Initialiser) (x : Initialised) → is_function t ≡ false → IsOfPart x.ctype t
      → initialiser_pairs (given_in p) (λ y. y.1) (map-Initialiser Initialiser (Initialiser × (Initialised → List Pair)) (λ y. (y, broken_initialiser (given_in p) y)) l) x ≡ []
      → AreTold p (initialiser_found (answering (given_in p)) (λ y. y.1) (map-Initialiser Initialiser (Initialiser × List AnswerAt) (λ y. (y, found_in_initialiser (answering (given_in p)) y)) l)) → IsFilled p t l
  filled t (i.Value y at) x o part h d = one (is_text y && holds is_array x.ctype) _ (record x { first = at }) x.ctype t y o part d h
  filled t (i.Braces ys at) x o part h d = tt

pub initialisers_convert : (p : Program) → IsAcceptedProgram p → (c : State) (number offset : ℕ) (to : CType) (x : Initialiser) (rest : List Item) → IsNext p c (Fills number offset to x) rest → is_function to ≡ false → IsFilled p to (out-Initialiser x)
initialisers_convert p h c number offset to x rest n o =
    let tells = accepted_tells p h in
    let is = (reached_code p (rules_asked p) (rules_kept p tells) h c (Fills number offset to x) rest n).0 in
    filled p tells to (out-Initialiser x) is.object o is.typed (sym (initialiser_breaks (given_in p) x is.object) ∙ is.clear) (subst (AreTold p) (initialiser_finds p x) is.told)
