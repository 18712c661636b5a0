-- Which cells have numbers in what nodes answer.
use Rattle.std.proofs.Common.{◌≡◌, ℕ, Bool, true, false, not, ◌||◌, List, [], ◌∷◌, Option, Some, None, refl, sym, subst}
use Rattle.c_tree.specs.declared.expression.BinaryOperator.{BinaryOperator}
use Rattle.c_tree.specs.declared.expression.BinaryOperator.TheVariants as binary
use Rattle.c_tree.specs.declared.expression.AssignOperator.{AssignOperator}
use Rattle.c_kinds.specs.declared.family.Family.{Family}
use Rattle.c_kinds.specs.declared.family.Family.TheVariants.{Additive, Equality, Logical}
use Rattle.c_kinds.specs.declared.types.Derivation.{Derivation}
use Rattle.c_kinds.specs.declared.types.Derivation.TheVariants.{Pointer, Array}
use Rattle.c_kinds.specs.declared.types.Base.{Base}
use Rattle.c_kinds.specs.declared.types.CType.{CType}
use Rattle.c_kinds.specs.declared.types.Shape.{Shape}
use Rattle.c_kinds.specs.declared.types.Shape.TheVariants as shape
use Rattle.c_kinds.specs.declared.typed.Typed.{Typed}
use Rattle.c_kinds.specs.declared.typed.Fixed.{Fixed}
use Rattle.c_kinds.specs.declared.typed.Fixed.TheVariants.{Varies}
use Rattle.c_kinds.specs.declared.answer.Answer.{Answer}
use Rattle.c_kinds.specs.declared.answer.Answer.TheVariants.{Gives, Breaks, Nothing}
use Rattle.c_kinds.specs.Addresses.{moved}
use Rattle.c_kinds.specs.Types.{alike, inner, is_rows, is_scalar, is_void, marked, shape_by, shape_of, unqualified}
use Rattle.c_kinds.specs.Layouts.{Layout, cell_count, is_incomplete}
use Rattle.c_kinds.specs.Values.{and_then, part, result, unless, used, value}
use Rattle.c_kinds.specs.Operands.{are_comparable, binary_by, binary_answer, distance, family, integer_and_pointer, needs_cells, pointer_and_integer, truth_at, two_pointers}
use Rattle.c_kinds.specs.Casts.{arms_type, assign_answer, assigned, breaks_star, cast_answer, cast_by, cast_if, cast_result, chosen, conditional_answer, conditional_by, comma_answer, converted_constant, integer_zero, is_bool, is_writable, plain_operator, step_answer, steps}
use Rattle.c_arithmetic.specs.Places.{HasRoom}
use Rattle.c_rules.specs.declared.names.Meaning.{Meaning}
use Rattle.c_rules.specs.declared.names.Meaning.TheVariants as meaning
use Rattle.c_rules.specs.Typing.{assign_node, cast_to, sequence_answer}
use Rattle.c_operators.specs.Told.{GivesItsCells, HasItsCells, RoomBy}
use Rattle.c_operators.proofs.Cells.{any_room}

pub unless_room : (l : Layout) (b : Bool) (rule at : ℕ) (a : Answer) → GivesItsCells l a → GivesItsCells l (unless b rule at a)
unless_room l true rule at a h = tt
unless_room l false rule at a h = h

pub then_room : (l : Layout) (x : Answer) (f : Typed → Answer) → ((v : Typed) → GivesItsCells l (f v)) → GivesItsCells l (and_then x f)
then_room l (Gives x) f h = h x
then_room l (Breaks rule at) f h = tt
then_room l Nothing f h = tt

pub part_room : (l : Layout) (x : Answer) (f : Typed → Answer) → ((v : Typed) → GivesItsCells l (f v)) → GivesItsCells l (part x f)
part_room l (Gives x) f h = h x
part_room l (Breaks rule at) f h = tt
part_room l Nothing f h = tt

pub used_room : (l : Layout) (x : Answer) (f : Typed → Answer) → ((v : Typed) → GivesItsCells l (f v)) → GivesItsCells l (used l x f)
used_room l x f h = part_room l x (λ v. and_then (value l v) f) (λ v. then_room l (value l v) f h)

pub varied : (l : Layout) (t : CType) (named_at ends_at : ℕ) → HasItsCells l (result t Varies named_at ends_at)
varied l t named_at ends_at = any_room l (shape_of t) (result t Varies named_at ends_at) tt

pointer_typed : (l : Layout) (x : Typed) → shape_of x.ctype ≡ shape.Pointer → HasItsCells l x
pointer_typed l x is = subst (λ s. RoomBy l s x) (sym is) tt

-- a constant that is converted to an array or a struct is none
converted_typed : (l : Layout) (x : Typed) (s : Shape) (f : Fixed) → x.fixed ≡ converted_constant s f → RoomBy l s x
converted_typed l x shape.Void f is = tt
converted_typed l x (shape.Integer k) f is = tt
converted_typed l x shape.Pointer f is = tt
converted_typed l x (shape.Array n) f is = subst (λ p. HasRoom (cell_count l.structs x.ctype) p) (sym is) tt
converted_typed l x (shape.Struct n) f is = subst (λ p. HasRoom (cell_count l.structs x.ctype) p) (sym is) tt
converted_typed l x (shape.Function n) f is = tt

-- ---- binary operators

pub needs_room : (l : Layout) (at : ℕ) (p : Typed) (a : Answer) → GivesItsCells l a → GivesItsCells l (needs_cells l at p a)
needs_room l at p a h =
    unless_room l (is_void (inner p.ctype)) 12 at (unless (is_incomplete l.structs p.ends_at (inner p.ctype)) 10 p.named_at a)
    (unless_room l (is_incomplete l.structs p.ends_at (inner p.ctype)) 10 p.named_at a h)

pointer_room : (l : Layout) (operator : BinaryOperator) (at : ℕ) (f : Family) (p n y : Typed) → shape_of p.ctype ≡ shape.Pointer
    → GivesItsCells l (pointer_and_integer l operator at f p n y)
pointer_room l operator at Additive p n y is =
    let made = result p.ctype (moved l (inner p.ctype) p.fixed (distance operator n.fixed)) at y.ends_at in
    needs_room l at p (Gives made) (pointer_typed l made is)
pointer_room l operator at Equality p n y is = unless_room l (not n.is_null) 12 at (truth_at at y) tt
pointer_room l operator at Logical p n y is = tt
pointer_room l operator at _ p n y is = tt

pointers_room : (l : Layout) (at : ℕ) (f : Family) (x y : Typed) → GivesItsCells l (two_pointers at f x y)
pointers_room l at Equality x y = unless_room l (not (are_comparable x y)) 12 at (truth_at at y) tt
pointers_room l at Logical x y = tt
pointers_room l at _ x y = tt

later_room : (l : Layout) (operator : BinaryOperator) (at : ℕ) (x y : Typed) → shape_of y.ctype ≡ shape.Pointer → GivesItsCells l (integer_and_pointer l operator at x y)
later_room l binary.Subtract at x y is = tt
later_room l operator at x y is = pointer_room l operator at (family operator) y x y is

by_room : (l : Layout) (operator : BinaryOperator) (at : ℕ) (s t : Shape) (x y : Typed) → shape_of x.ctype ≡ s → shape_of y.ctype ≡ t
    → GivesItsCells l (binary_by l operator at s t x y)
by_room l operator at (shape.Integer j) (shape.Integer k) x y a b = tt
by_room l operator at shape.Pointer (shape.Integer k) x y a b = pointer_room l operator at (family operator) x y y a
by_room l operator at (shape.Integer k) shape.Pointer x y a b = later_room l operator at x y b
by_room l operator at shape.Pointer shape.Pointer x y a b = pointers_room l at (family operator) x y
by_room l operator at _ _ x y a b = tt

pub binary_room : (l : Layout) (operator : BinaryOperator) (at : ℕ) (x y : Answer) → GivesItsCells l (used l x (λ v. used l y (λ w. binary_answer l operator at v w)))
binary_room l operator at x y =
    used_room l x (λ v. used l y (λ w. binary_answer l operator at v w)) (λ v.
    used_room l y (λ w. binary_answer l operator at v w) (λ w. by_room l operator at (shape_of v.ctype) (shape_of w.ctype) v w refl refl))

-- ---- casts

shape-marked : (ds : List Derivation) (b : Base) (c : Bool) → shape_by (marked ds c) b ≡ shape_by ds b
shape-marked [] b c = refl
shape-marked (Pointer old ∷ rest) b c = refl
shape-marked (Array n ∷ rest) b c = refl

if_room : (l : Layout) (allowed : Bool) (at : ℕ) (t : CType) (v : Typed) → GivesItsCells l (cast_if allowed at t v)
if_room l allowed at t v = unless_room l (not allowed) 15 at (Gives (cast_result at t v))
    (subst (λ s. RoomBy l s (cast_result at t v)) (sym (shape-marked t.derived t.base false)) (converted_typed l (cast_result at t v) (shape_of t) v.fixed refl))

cast_by_room : (l : Layout) (s r : Shape) (at : ℕ) (t : CType) (v : Typed) → GivesItsCells l (cast_by s r at t v)
cast_by_room l (shape.Array n) _ at t v = tt
cast_by_room l (shape.Function n) _ at t v = tt
cast_by_room l (shape.Struct n) shape.Void at t v = tt
cast_by_room l (shape.Struct n) _ at t v = tt
cast_by_room l _ (shape.Struct n) at t v = tt
cast_by_room l shape.Void _ at t v = if_room l true at t v
cast_by_room l _ shape.Void at t v = tt
cast_by_room l (shape.Integer k) (shape.Integer m) at t v = if_room l true at t v
cast_by_room l (shape.Integer k) _ at t v = if_room l (is_bool k) at t v
cast_by_room l shape.Pointer (shape.Integer m) at t v = if_room l v.is_null at t v
cast_by_room l shape.Pointer _ at t v = if_room l (alike t v.ctype || v.is_null) at t v

star_room : (l : Layout) (star : Option ℕ) (v : Typed) (a : Answer) → GivesItsCells l a → GivesItsCells l (breaks_star star v a)
star_room l None v a h = h
star_room l (Some star) v a h = unless_room l (not (integer_zero v)) 9 star a h

cast_answer_room : (l : Layout) (at : ℕ) (star : Option ℕ) (t : CType) (v : Typed) → GivesItsCells l (cast_answer at star t v)
cast_answer_room l at star t v = star_room l star v (cast_by (shape_of t) (shape_of v.ctype) at t v) (cast_by_room l (shape_of t) (shape_of v.ctype) at t v)

cast_to_room : (l : Layout) (at : ℕ) (m : Option Meaning) (v : Typed) → GivesItsCells l (cast_to at m v)
cast_to_room l at (Some (meaning.Type (Some t) star)) v = cast_answer_room l at star t v
cast_to_room l at (Some (meaning.Type None star)) v = tt
cast_to_room l at _ v = tt

pub cast_room : (l : Layout) (at : ℕ) (m : Option Meaning) (x : Answer) → GivesItsCells l (used l x (λ v. cast_to at m v))
cast_room l at m x = used_room l x (λ v. cast_to at m v) (λ v. cast_to_room l at m v)

-- ---- choices, assignments, steps and sequences

choice_room : (l : Layout) (at : ℕ) (t x y : Typed) (found : Option CType) → GivesItsCells l (conditional_by at t x y found)
choice_room l at t x y None = tt
choice_room l at t x y (Some u) =
    let f = chosen (shape_of u) t.fixed x.fixed y.fixed in
    converted_typed l (result u (converted_constant (shape_of u) f) at y.ends_at) (shape_of u) f refl

pub conditional_room : (l : Layout) (at : ℕ) (t x y : Answer) → GivesItsCells l (used l t (λ c. used l x (λ v. used l y (λ w. conditional_answer at c v w))))
conditional_room l at t x y =
    used_room l t (λ c. used l x (λ v. used l y (λ w. conditional_answer at c v w))) (λ c.
    used_room l x (λ v. used l y (λ w. conditional_answer at c v w)) (λ v.
    used_room l y (λ w. conditional_answer at c v w) (λ w.
    unless_room l (not (is_scalar c.ctype)) 12 at (conditional_by at c v w (arms_type v w)) (choice_room l at c v w (arms_type v w)))))

assign_answer_room : (l : Layout) (operator : AssignOperator) (at : ℕ) (x v : Typed) → GivesItsCells l (assign_answer l operator at x v)
assign_answer_room l operator at x v =
    let made = result (unqualified x.ctype) Varies at v.ends_at in
    then_room l (assigned l (plain_operator operator) at x v) (λ _. unless (not (is_writable l x)) 14 at (Gives made)) (λ _.
    unless_room l (not (is_writable l x)) 14 at (Gives made) (varied l (unqualified x.ctype) at v.ends_at))

pub assign_room : (l : Layout) (operator : AssignOperator) (at : ℕ) (x v : Answer) → GivesItsCells l (assign_node l operator at x v)
assign_room l operator at x v = part_room l x (λ t. unless (is_rows t.ctype) 9 t.named_at (used l v (λ w. assign_answer l operator at t w))) (λ t.
    unless_room l (is_rows t.ctype) 9 t.named_at (used l v (λ w. assign_answer l operator at t w))
    (used_room l v (λ w. assign_answer l operator at t w) (λ w. assign_answer_room l operator at t w)))

steps_room : (l : Layout) (at : ℕ) (s : Shape) (x : Typed) (a : Answer) → GivesItsCells l a → GivesItsCells l (steps l at s x a)
steps_room l at (shape.Integer k) x a h = h
steps_room l at shape.Pointer x a h = needs_room l at x a h
steps_room l at (shape.Array n) x a h = unless_room l (is_rows x.ctype) 9 x.named_at a h
steps_room l at _ x a h = tt

pub step_room : (l : Layout) (at : ℕ) (x : Answer) (ends_at : Typed → ℕ) → GivesItsCells l (part x (λ v. step_answer l at (ends_at v) v))
step_room l at x ends_at = part_room l x (λ v. step_answer l at (ends_at v) v) (λ v.
    let made = result (unqualified v.ctype) Varies v.named_at (ends_at v) in
    steps_room l at (shape_of v.ctype) v (unless (not (is_writable l v)) 14 at (Gives made))
    (unless_room l (not (is_writable l v)) 14 at (Gives made) (varied l (unqualified v.ctype) v.named_at (ends_at v))))

comma_room : (l : Layout) (at : ℕ) (v : Typed) → GivesItsCells l (comma_answer at v)
comma_room l at v = any_room l (shape_of v.ctype) (record v { is_null = false; fixed = Varies; named_at = at }) tt

pub sequence_room : (l : Layout) (at : ℕ) (xs : List Answer) → GivesItsCells l (sequence_answer l (λ x. x) at xs)
sequence_room l at [] = tt
sequence_room l at (x ∷ []) = used_room l x (λ v. comma_answer at v) (λ v. comma_room l at v)
sequence_room l at (x ∷ (y ∷ rest)) = used_room l x (λ _. sequence_answer l (λ z. z) at (y ∷ rest)) (λ _. sequence_room l at (y ∷ rest))
