-- Each cell of an array or a struct has a number in the place that a name, a subscript or a member is.
use Rattle.std.proofs.Common.{◌≡◌, ℕ, ◌+◌, ◌*◌, ◌^◌, ◌<◌, ◌≤◌, Bool, true, false, not, ◌||◌, List, [], ◌∷◌, Option, Some, None, if◌then◌else◌, refl, sym, ap, subst, ◌∙◌, arith}
use Rattle.std.specs.Prelude.{ℤ, pos, negsuc, ◌+ℤ◌, ◌*ℤ◌, int_lt, unsigned_abs, All, slice_get}
use Rattle.std.specs.Str.{bytes_eq}
use Rattle.std.proofs.Math.Nat.{mul-le-mul_right}
use Rattle.std.proofs.lemmas.Bool.Decides.{nat_tests}
use Rattle.std.proofs.lemmas.List.Elements.{All-head, All-tail}
use Rattle.c_kinds.specs.declared.types.CType.{CType}
use Rattle.c_kinds.specs.declared.types.Member.{Member}
use Rattle.c_kinds.specs.declared.types.Struct.{Struct}
use Rattle.c_kinds.specs.declared.types.Derivation.{Derivation}
use Rattle.c_kinds.specs.declared.types.Derivation.TheVariants.{Pointer, Array}
use Rattle.c_kinds.specs.declared.types.Base.{Base}
use Rattle.c_kinds.specs.declared.types.Shape.{Shape}
use Rattle.c_kinds.specs.declared.types.Shape.TheVariants as shape
use Rattle.c_kinds.specs.declared.typed.Typed.{Typed}
use Rattle.c_kinds.specs.declared.typed.Fixed.{Fixed}
use Rattle.c_kinds.specs.declared.typed.Fixed.TheVariants.{Varies, NoValue, Number, Null, At, Breaks}
use Rattle.c_kinds.specs.declared.answer.Answer.{Answer}
use Rattle.c_kinds.specs.declared.answer.Answer.TheVariants as answer
use Rattle.c_kinds.specs.Addresses.{element_of, followed, further_in, moved, moved_to}
use Rattle.c_kinds.specs.Types.{also_const, const_of, inner, integer, is_array, is_integer, is_scalar, marked, pointer_to, shape_of}
use Rattle.c_kinds.specs.Layouts.{Layout, cell_count, cells_by, count_if, flat, member_in, members_by, object_cells, struct_cells, struct_is_complete}
use Rattle.kv_num.specs.declared.types.IntType.TheVariants.{Int}
use Rattle.c_tree.specs.declared.expression.UnaryOperator.{UnaryOperator}
use Rattle.c_tree.specs.declared.expression.UnaryOperator.TheVariants as unary
use Rattle.c_kinds.specs.Constants.{of_one, unary_operation}
use Rattle.c_kinds.specs.Operands.{address_answer, arithmetic, needs_cells, negation}
use Rattle.c_kinds.specs.Values.{part, place, result, unless, used}
use Rattle.c_kinds.specs.Elements.{read_pointer, member_answer, member_by, member_place, subscript_answer, subscript_by}
use Rattle.c_arithmetic.specs.Places.{HasRoom}
use Rattle.c_rules.specs.declared.names.Meaning.{Meaning}
use Rattle.c_rules.specs.declared.names.Meaning.TheVariants as meaning
use Rattle.c_rules.specs.declared.names.Object.{Object}
use Rattle.c_rules.specs.Typing.{Given, constant_answer, layout_of, meaning_at, name_answer, name_by, object_answer, object_place, object_typed, object_types}
use Rattle.c_operators.specs.Told.{GivesItsCells, HasItsCells, IsCounted}
use Rattle.c_operators.proofs.Cells.{IsPlaceNumber, any_room, array_room, followed_room, struct_room}
use Rattle.c_operators.proofs.Objects.{object_type_at, type_in}
use Rattle.c_operators.proofs.Rooms.{needs_room, unless_room, used_room}

-- ---- names

static_room : (b : Bool) (n number : ℕ) → n < 2 ^ 64 → HasRoom n (if b then At number 0 else Varies)
static_room true n number h = omega (arith, h)
static_room false n number h = tt

typed_room : (l : Layout) (at number : ℕ) (o : Object) (t : Option CType) → count_if l.structs t < 2 ^ 64 → GivesItsCells l (object_typed at number o t)
typed_room l at number o None h = tt
typed_room l at number o (Some t) h =
    let constant = object_place number o.is_static t at in
    any_room l (shape_of t) (place t constant constant at at) (static_room o.is_static (cell_count l.structs t) number h)

if_defined : (l : Layout) (b : Bool) (x y : Answer) → GivesItsCells l x → GivesItsCells l y → GivesItsCells l (if b then x else y)
if_defined l true x y h k = h
if_defined l false x y h k = k

object_room : (g : Given) (u : Bool) (at number : ℕ) (found : Option Object) → IsCounted (layout_of g) → slice_get g.names.objects number ≡ found
    → GivesItsCells (layout_of g) (object_answer u at number found)
object_room g u at number None counted is = tt
object_room g u at number (Some o) counted is =
    let named : flat (slice_get (object_types g.names.objects) number) ≡ o.ctype = object_type_at g.names.objects number ∙ ap type_in is in
    let fits : count_if g.names.structs o.ctype < 2 ^ 64 = subst (λ t. count_if g.names.structs t < 2 ^ 64) named (counted.objects_fit number) in
    if_defined (layout_of g) (o.is_defined || u) (object_typed at number o o.ctype) (answer.Breaks 3 at) (typed_room (layout_of g) at number o o.ctype fits) tt

constant_room : (l : Layout) (at : ℕ) (n : Option ℤ) → GivesItsCells l (constant_answer at n)
constant_room l at None = tt
constant_room l at (Some n) = tt

name_by_room : (g : Given) (u : Bool) (at : ℕ) (m : Option Meaning) → IsCounted (layout_of g) → GivesItsCells (layout_of g) (name_by g.names u at m)
name_by_room g u at (Some (meaning.Object number)) counted = object_room g u at number (slice_get g.names.objects number) counted refl
name_by_room g u at (Some (meaning.Constant n)) counted = constant_room (layout_of g) at n
name_by_room g u at (Some (meaning.Function number)) counted = tt
name_by_room g u at (Some (meaning.Known function)) counted = tt
name_by_room g u at _ counted = tt

pub name_room : (g : Given) (u : Bool) (at : ℕ) → IsCounted (layout_of g) → GivesItsCells (layout_of g) (name_answer g.names u at)
name_room g u at counted = name_by_room g u at (meaning_at g.names at) counted

-- ---- members

further_room : (f : Fixed) (cell n whole : ℕ) → cell + n ≤ whole → HasRoom whole f → HasRoom n (further_in cell f)
further_room (At object c) cell n whole h room = omega (arith, h, room)
further_room Varies cell n whole h room = tt
further_room NoValue cell n whole h room = tt
further_room (Number i) cell n whole h room = tt
further_room Null cell n whole h room = tt
further_room Breaks cell n whole h room = tt

cells_by-marked : (structs : List Struct) (ds : List Derivation) (b : Base) (c : Bool) → cells_by structs (marked ds c) b ≡ cells_by structs ds b
cells_by-marked structs [] b c = refl
cells_by-marked structs (Pointer old ∷ rest) b c = refl
cells_by-marked structs (Array n ∷ rest) b c = ap (λ k. n * k) (cells_by-marked structs rest b c)

count-also : (structs : List Struct) (c : Bool) (t : CType) → cell_count structs t ≡ cell_count structs (also_const c t)
count-also structs true t = sym (cells_by-marked structs t.derived t.base true)
count-also structs false t = refl

one_typed : (l : Layout) (at whole cell : ℕ) (object : Typed) (t : Option CType) → cell + count_if l.structs t ≤ whole → HasRoom whole object.fixed
    → GivesItsCells l (elim t as (λ _. Answer) [
      | None ↦ answer.Nothing
      | Some u ↦ answer.Gives (place (also_const (const_of object.ctype) u) (further_in cell object.fixed) (further_in cell object.fixed) (at + 1) (at + 1))
    ])
one_typed l at whole cell object None h room = tt
one_typed l at whole cell object (Some u) h room =
    let made = also_const (const_of object.ctype) u in
    let inside = further_in cell object.fixed in
    any_room l (shape_of made) (place made inside inside (at + 1) (at + 1))
    (subst (λ k. HasRoom k inside) (count-also l.structs (const_of object.ctype) u) (further_room object.fixed cell (cell_count l.structs u) whole h room))

found_if : (l : Layout) (b : Bool) (at : ℕ) (object : Typed) (m : Member) (found : Option Member)
    → GivesItsCells l (member_place at object (Some m)) → GivesItsCells l (member_place at object found) → GivesItsCells l (member_place at object (if b then Some m else found))
found_if l true at object m found h k = h
found_if l false at object m found h k = k

found_place : (l : Layout) (at whole : ℕ) (object : Typed) (ms : List Member) (name : List ℕ)
    → All (λ (m : Member). m.cell + count_if l.structs m.ctype ≤ whole) ms → HasRoom whole object.fixed → GivesItsCells l (member_place at object (member_in ms name))
found_place l at whole object [] name all room = tt
found_place l at whole object (m ∷ ms) name all room =
    let P : Member → Type 0 = λ (x : Member). x.cell + count_if l.structs x.ctype ≤ whole in
    found_if l (bytes_eq m.name name) at object m (member_in ms name)
    (one_typed l at whole m.cell object m.ctype (All-head P m ms all) room)
    (found_place l at whole object ms name (All-tail P m ms all) room)

pub member_by_room : (l : Layout) (at : ℕ) (name : List ℕ) (s : Shape) (v : Typed) → IsCounted l → shape_of v.ctype ≡ s → HasItsCells l v → GivesItsCells l (member_by l at name s v)
member_by_room l at name (shape.Struct n) v counted is h =
    if_defined l (struct_is_complete at (slice_get l.structs n)) (member_place at v (member_in (members_by (slice_get l.structs n)) name)) (answer.Breaks 3 (at + 1))
    (found_place l at (struct_cells (slice_get l.structs n)) v (members_by (slice_get l.structs n)) name (counted.members_fit n) (struct_room l v n is h)) tt
member_by_room l at name _ v counted is h = tt

pub member_room : (l : Layout) (at : ℕ) (name : List ℕ) (x : Answer) → IsCounted l → GivesItsCells l x → GivesItsCells l (part x (λ v. member_answer l at name v))
member_room l at name (answer.Gives v) counted h =
    unless_room l (not v.is_place) 12 at (member_by l at name (shape_of v.ctype) v) (member_by_room l at name (shape_of v.ctype) v counted refl h)
member_room l at name (answer.Breaks rule place) counted h = tt
member_room l at name answer.Nothing counted h = tt

-- ---- subscripts

below : (k n : ℕ) → (int_lt (pos k) (pos 0) || not (int_lt (pos k) (pos n))) ≡ false → k < n
below k n h = grind (arith, nat_tests)

element_if : (b : Bool) (object place c : ℕ) → (b ≡ false → place + c < 2 ^ 64) → HasRoom c (if b then Breaks else At object place)
element_if true object place c h = tt
element_if false object place c h = h refl

element_inside : (object cell n c : ℕ) (v : ℤ) → cell + n * c < 2 ^ 64
    → HasRoom c (if int_lt v (pos 0) || not (int_lt v (pos n)) then Breaks else At object (cell + unsigned_abs v * c))
element_inside object cell n c (negsuc k) room = tt
element_inside object cell n c (pos k) room =
    element_if (int_lt (pos k) (pos 0) || not (int_lt (pos k) (pos n))) object (cell + k * c) c (λ is.
    let less : k + 1 ≤ n = let h = below k n is in omega (arith, h) in
    let more : (k + 1) * c ≤ n * c = mul-le-mul_right {m = k + 1} {n = n} c less in
    omega (arith, more, room))

element_room : (l : Layout) (n : ℕ) (t : CType) (f i : Fixed) → HasRoom (n * cell_count l.structs t) f → HasRoom (cell_count l.structs t) (element_of l n t f i)
element_room l n t (At object cell) (Number v) room = element_inside object cell n (cell_count l.structs t) v room
element_room l n t Varies i room = tt
element_room l n t NoValue Varies room = tt
element_room l n t NoValue NoValue room = tt
element_room l n t NoValue (Number v) room = tt
element_room l n t NoValue Null room = tt
element_room l n t NoValue (At o v) room = tt
element_room l n t NoValue Breaks room = tt
element_room l n t (Number m) Varies room = tt
element_room l n t (Number m) NoValue room = tt
element_room l n t (Number m) (Number v) room = tt
element_room l n t (Number m) Null room = tt
element_room l n t (Number m) (At o v) room = tt
element_room l n t (Number m) Breaks room = tt
element_room l n t Null Varies room = tt
element_room l n t Null NoValue room = tt
element_room l n t Null (Number v) room = tt
element_room l n t Null Null room = tt
element_room l n t Null (At o v) room = tt
element_room l n t Null Breaks room = tt
element_room l n t (At object cell) Varies room = tt
element_room l n t (At object cell) NoValue room = tt
element_room l n t (At object cell) Null room = tt
element_room l n t (At object cell) (At o v) room = tt
element_room l n t (At object cell) Breaks room = tt
element_room l n t Breaks Varies room = tt
element_room l n t Breaks NoValue room = tt
element_room l n t Breaks (Number v) room = tt
element_room l n t Breaks Null room = tt
element_room l n t Breaks (At o v) room = tt
element_room l n t Breaks Breaks room = tt

to_number : (l : Layout) (object : ℕ) (t : ℤ) → object_cells l object < 2 ^ 64 → IsPlaceNumber (moved_to l object t)
to_number l object (negsuc k) h = tt
to_number l object (pos k) h = number_if (int_lt (pos k) (pos 0) || int_lt (pos (object_cells l object)) (pos k)) object k (λ is. within (object_cells l object) k is h)
  where
    number_if : (b : Bool) (object place : ℕ) → (b ≡ false → place < 2 ^ 64) → IsPlaceNumber (if b then Breaks else At object place)
    number_if true object place h = tt
    number_if false object place h = h refl

    within : (whole k : ℕ) → (int_lt (pos k) (pos 0) || int_lt (pos whole) (pos k)) ≡ false → whole < 2 ^ 64 → k < 2 ^ 64
    within whole k is h = grind (arith, nat_tests)

moved_number : (l : Layout) → IsCounted l → (t : CType) (f i : Fixed) → IsPlaceNumber (moved l t f i)
moved_number l counted t (At object cell) (Number n) = to_number l object (pos cell +ℤ n *ℤ pos (cell_count l.structs t)) (counted.objects_fit object)
moved_number l counted t Varies i = tt
moved_number l counted t NoValue Varies = tt
moved_number l counted t NoValue NoValue = tt
moved_number l counted t NoValue (Number v) = tt
moved_number l counted t NoValue Null = tt
moved_number l counted t NoValue (At o v) = tt
moved_number l counted t NoValue Breaks = tt
moved_number l counted t (Number m) Varies = tt
moved_number l counted t (Number m) NoValue = tt
moved_number l counted t (Number m) (Number v) = tt
moved_number l counted t (Number m) Null = tt
moved_number l counted t (Number m) (At o v) = tt
moved_number l counted t (Number m) Breaks = tt
moved_number l counted t Null Varies = tt
moved_number l counted t Null NoValue = tt
moved_number l counted t Null (Number v) = tt
moved_number l counted t Null Null = tt
moved_number l counted t Null (At o v) = tt
moved_number l counted t Null Breaks = tt
moved_number l counted t (At object cell) Varies = tt
moved_number l counted t (At object cell) NoValue = tt
moved_number l counted t (At object cell) Null = tt
moved_number l counted t (At object cell) (At o v) = tt
moved_number l counted t (At object cell) Breaks = tt
moved_number l counted t Breaks Varies = tt
moved_number l counted t Breaks NoValue = tt
moved_number l counted t Breaks (Number v) = tt
moved_number l counted t Breaks Null = tt
moved_number l counted t Breaks (At o v) = tt
moved_number l counted t Breaks Breaks = tt

subscript_by_room : (l : Layout) (at : ℕ) (s : Shape) (a i : Typed) → IsCounted l → shape_of a.ctype ≡ s → HasItsCells l a → GivesItsCells l (subscript_by l at s a i)
subscript_by_room l at (shape.Array n) a i counted is h =
    let t = inner a.ctype in
    any_room l (shape_of t) (place t (element_of l n t a.fixed i.fixed) (moved l t a.fixed i.fixed) a.named_at i.ends_at) (element_room l n t a.fixed i.fixed (array_room l a n is h))
subscript_by_room l at shape.Pointer a i counted is h =
    let p = read_pointer a in
    let t = inner p.ctype in
    let to = moved l t p.fixed i.fixed in
    needs_room l at p (answer.Gives (place t (followed l t to) to p.named_at i.ends_at))
    (any_room l (shape_of t) (place t (followed l t to) to p.named_at i.ends_at) (followed_room l counted t to (moved_number l counted t p.fixed i.fixed)))
subscript_by_room l at _ a i counted is h = tt

pub subscript_room : (l : Layout) (at : ℕ) (a i : Answer) → IsCounted l → GivesItsCells l a → GivesItsCells l (part a (λ x. used l i (λ y. subscript_answer l at x y)))
subscript_room l at (answer.Gives x) i counted h =
    used_room l i (λ y. subscript_answer l at x y) (λ y.
    unless_room l (not (is_integer y.ctype)) 12 at (subscript_by l at (shape_of x.ctype) x y) (subscript_by_room l at (shape_of x.ctype) x y counted refl h))
subscript_room l at (answer.Breaks rule place) i counted h = tt
subscript_room l at answer.Nothing i counted h = tt

pub kept : (l : Layout) (a b : Answer) → a ≡ b → GivesItsCells l b → GivesItsCells l a
kept l a b is h = subst (λ x. GivesItsCells l x) (sym is) h

-- ---- what a function answers, by the definition that it is

pub pointed_room : (l : Layout) (at : ℕ) (p made : Typed) (r : Answer) → r ≡ needs_cells l at p (answer.Gives made) → HasRoom (cell_count l.structs made.ctype) made.fixed → GivesItsCells l r
pointed_room l at p made r is h = kept l r (needs_cells l at p (answer.Gives made)) is (needs_room l at p (answer.Gives made) (any_room l (shape_of made.ctype) made h))

pub member_kept : (l : Layout) (at : ℕ) (name : List ℕ) (v : Typed) (r : Answer) → r ≡ member_by l at name (shape_of v.ctype) v → IsCounted l → HasItsCells l v → GivesItsCells l r
member_kept l at name v r is counted h = kept l r (member_by l at name (shape_of v.ctype) v) is (member_by_room l at name (shape_of v.ctype) v counted refl h)

arithmetic_room : (l : Layout) (operator : UnaryOperator) (at : ℕ) (s : Shape) (x : Typed) → GivesItsCells l (arithmetic operator at s x)
arithmetic_room l operator at (shape.Integer k) x = tt
arithmetic_room l operator at _ x = tt

pub arithmetic_kept : (l : Layout) (operator : UnaryOperator) (at : ℕ) (s : Shape) (x : Typed) (r : Answer) → r ≡ arithmetic operator at s x → GivesItsCells l r
arithmetic_kept l operator at s x r is = kept l r (arithmetic operator at s x) is (arithmetic_room l operator at s x)

negation_room : (l : Layout) (at : ℕ) (b : Bool) (t : Fixed) (ends_at : ℕ) → GivesItsCells l (unless b 12 at (answer.Gives (result (integer Int) t at ends_at)))
negation_room l at true t ends_at = tt
negation_room l at false t ends_at = tt

pub negation_kept : (l : Layout) (at : ℕ) (x : Typed) (r : Answer) → r ≡ negation at x → GivesItsCells l r
negation_kept l at x r is = kept l r (negation at x) is (negation_room l at (not (is_scalar x.ctype)) (of_one x.fixed (λ n. unary_operation unary.Not Int n)) x.ends_at)

pub address_kept : (l : Layout) (at : ℕ) (x : Typed) (r : Answer) → r ≡ address_answer at x → GivesItsCells l r
address_kept l at x r is =
    let made = result (pointer_to x.ctype) x.address at x.ends_at in
    kept l r (address_answer at x) is
    (unless_room l (is_array x.ctype) 9 x.named_at (unless (not x.is_place) 14 at (answer.Gives made)) (unless_room l (not x.is_place) 14 at (answer.Gives made) tt))
