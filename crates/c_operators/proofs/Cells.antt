-- Types have as many types of cells as they have cells, and where a pointer leads to cells of a type, they have numbers.
use Rattle.std.proofs.Common.{◌≡◌, ℕ, zero, suc, ◌+◌, ◌*◌, ◌^◌, ◌<◌, ◌≤◌, Bool, true, false, List, [], ◌∷◌, length, drop, Option, Some, None, if◌then◌else◌, refl, sym, ap, subst, ◌∙◌, arith, length-append, length-drop}
use Rattle.std.specs.Prelude.{All, slice_get}
use Rattle.std.specs.Str.{bytes_eq}
use Rattle.std.proofs.lemmas.List.Elements.{All-head, All-tail}
use Rattle.std.proofs.lemmas.Bool.{and_parts, false≢true}
use Rattle.c_kinds.specs.declared.types.Derivation.{Derivation}
use Rattle.c_kinds.specs.declared.types.Derivation.TheVariants.{Pointer, Array}
use Rattle.c_kinds.specs.declared.types.Base.{Base}
use Rattle.c_kinds.specs.declared.types.Base.TheVariants as base
use Rattle.c_kinds.specs.declared.types.CType.{CType}
use Rattle.c_kinds.specs.declared.types.CellType.{CellType}
use Rattle.c_kinds.specs.declared.types.Member.{Member}
use Rattle.c_kinds.specs.declared.types.Struct.{Struct}
use Rattle.c_kinds.specs.declared.types.Shape.{Shape}
use Rattle.c_kinds.specs.declared.types.Shape.TheVariants as shape
use Rattle.c_kinds.specs.declared.typed.Typed.{Typed}
use Rattle.c_kinds.specs.declared.typed.Fixed.{Fixed}
use Rattle.c_kinds.specs.declared.typed.Fixed.TheVariants.{Varies, NoValue, Number, Null, At, Breaks}
use Rattle.c_kinds.specs.Addresses.{followed}
use Rattle.c_kinds.specs.Layouts.{Layout, begins_with, cell_count, cell_types, cell_types_by, cells_by, count_if, flat, leads_to, member_in, repeated, same_cell, struct_cells, struct_cell_types, types_if}
use Rattle.c_arithmetic.specs.Places.{HasRoom}
use Rattle.c_kinds.specs.Types.{inner, shape_by, shape_of, without_outermost}
use Rattle.c_operators.specs.Told.{HasItsCells, HasMemberRoom, IsCounted, LeadsBy, RoomBy}

length-repeated : {A : Type 0} (n : ℕ) (xs : List A) → n * length xs ≡ length (repeated n xs)
length-repeated zero xs = omega arith
length-repeated (suc n) xs = let more = length-repeated n xs in let both = length-append xs (repeated n xs) in omega (arith, more, both)

-- a type has as many cells as it has types of cells, where structs have
types-by : (structs : List Struct) (of_struct : ℕ → List CellType) → ((n : ℕ) → struct_cells (slice_get structs n) ≡ length (of_struct n))
    → (ds : List Derivation) (b : Base) (c : Bool) → cells_by structs ds b ≡ length (cell_types_by of_struct ds b c)
types-by structs of_struct h [] base.Void c = refl
types-by structs of_struct h [] (base.Integer k) c = refl
types-by structs of_struct h [] (base.Struct n) c = h n
types-by structs of_struct h [] (base.Function n) c = refl
types-by structs of_struct h (Pointer p ∷ rest) b c = refl
types-by structs of_struct h (Array n ∷ rest) b c =
    ap (λ k. n * k) (types-by structs of_struct h rest b c) ∙ length-repeated n (cell_types_by of_struct rest b c)

types_counted : (l : Layout) → IsCounted l → (t : CType) → cell_count l.structs t ≡ length (cell_types l.structs t)
types_counted l is t = types-by l.structs (struct_cell_types l.structs (length l.structs)) is.structs_counted t.derived t.base t.is_const

-- where cells begin with others, there are as many
as_many : (there cells : List CellType) → begins_with there cells ≡ true → length cells ≤ length there
as_many there [] h = omega arith
as_many [] (k ∷ ks) h = absurd (false≢true h)
as_many (c ∷ cs) (k ∷ ks) h = let rest = as_many cs ks (and_parts (same_cell c k) (begins_with cs ks) h).1 in omega (arith, rest)

if_counted : (l : Layout) → IsCounted l → (t : Option CType) → count_if l.structs t ≡ length (types_if l.structs t)
if_counted l is None = refl
if_counted l is (Some t) = types_counted l is t

led_room : (l : Layout) → IsCounted l → (object cell : ℕ) (t : CType) → cell < 2 ^ 64 → leads_to l object cell t ≡ true → cell + cell_count l.structs t < 2 ^ 64
led_room l is object cell t in_range h =
    let there = types_if l.structs (flat (slice_get l.objects object)) in
    let many : length (cell_types l.structs t) ≤ length (drop cell there) = as_many (drop cell there) (cell_types l.structs t) h in
    let left = length-drop cell there in
    let counted = types_counted l is t in
    let whole = if_counted l is (flat (slice_get l.objects object)) in
    let fits = is.objects_fit object in
    omega (arith, many, left, counted, whole, fits, in_range)

pub led_on : (l : Layout) → IsCounted l → (t : CType) (p : Fixed) (object cell : ℕ) (leads : Bool) → p ≡ At object cell → leads ≡ true → LeadsBy l t p leads → cell < 2 ^ 64
    → cell + cell_count l.structs t < 2 ^ 64
led_on l is t p object cell leads there led by in_range = led_room l is object cell t in_range (sym (subst (λ q. LeadsBy l t q leads) there by) ∙ led)

chosen_room : (n object cell : ℕ) (leads : Bool) → (leads ≡ true → cell + n < 2 ^ 64) → HasRoom n (if leads then At object cell else Breaks)
chosen_room n object cell true h = h refl
chosen_room n object cell false h = tt

abbrev pub IsPlaceNumber : Fixed → Type 0
IsPlaceNumber (At object cell) = cell < 2 ^ 64
IsPlaceNumber _ = Unit {0}

pub followed_room : (l : Layout) → IsCounted l → (t : CType) (p : Fixed) → IsPlaceNumber p → HasRoom (cell_count l.structs t) (followed l t p)
followed_room l is t (At object cell) h = chosen_room (cell_count l.structs t) object cell (leads_to l object cell t) (led_room l is object cell t h)
followed_room l is t Varies h = tt
followed_room l is t NoValue h = tt
followed_room l is t (Number n) h = tt
followed_room l is t Null h = tt
followed_room l is t Breaks h = tt

smaller : (place : Fixed) (k n : ℕ) → k ≤ n → HasRoom n place → HasRoom k place
smaller (At object cell) k n h room = omega (arith, h, room)
smaller Varies k n h room = tt
smaller NoValue k n h room = tt
smaller (Number i) k n h room = tt
smaller Null k n h room = tt
smaller Breaks k n h room = tt

room_if : (b : Bool) (m : Member) (found : Option Member) (place : Fixed) → HasRoom m.cell place → HasMemberRoom found place → HasMemberRoom (if b then Some m else found) place
room_if true m found place first rest = first
room_if false m found place first rest = rest

-- a member that is found stands inside its struct
pub found_room : (structs : List Struct) (n : ℕ) (place : Fixed) (ms : List Member) (name : List ℕ)
    → All (λ (m : Member). m.cell + count_if structs m.ctype ≤ n) ms → HasRoom n place → HasMemberRoom (member_in ms name) place
found_room structs n place [] name all room = tt
found_room structs n place (m ∷ ms) name all room =
    let P : Member → Type 0 = λ (x : Member). x.cell + count_if structs x.ctype ≤ n in
    let here : m.cell + count_if structs m.ctype ≤ n = All-head P m ms all in
    room_if (bytes_eq m.name name) m (member_in ms name) place (smaller place m.cell n (omega (arith, here)) room)
    (found_room structs n place ms name (All-tail P m ms all) room)

cells_of_struct : (structs : List Struct) (ds : List Derivation) (b : Base) (n : ℕ) → shape_by ds b ≡ shape.Struct n → cells_by structs ds b ≡ struct_cells (slice_get structs n)
cells_of_struct structs [] base.Void n h = cc
cells_of_struct structs [] (base.Integer k) n h = cc
cells_of_struct structs [] (base.Struct m) n h = let same : m ≡ n = cc in ap (λ k. struct_cells (slice_get structs k)) same
cells_of_struct structs [] (base.Function m) n h = cc
cells_of_struct structs (Pointer c ∷ rest) b n h = cc
cells_of_struct structs (Array m ∷ rest) b n h = cc

pub struct_room : (l : Layout) (x : Typed) (n : ℕ) → shape_of x.ctype ≡ shape.Struct n → HasItsCells l x → HasRoom (struct_cells (slice_get l.structs n)) x.fixed
struct_room l x n is h =
    subst (λ k. HasRoom k x.fixed) (cells_of_struct l.structs x.ctype.derived x.ctype.base n is) (subst (λ s. RoomBy l s x) is h)

cells_of_array : (structs : List Struct) (ds : List Derivation) (b : Base) (n : ℕ) → shape_by ds b ≡ shape.Array n → cells_by structs ds b ≡ n * cells_by structs (without_outermost ds) b
cells_of_array structs [] base.Void n h = cc
cells_of_array structs [] (base.Integer k) n h = cc
cells_of_array structs [] (base.Struct m) n h = cc
cells_of_array structs [] (base.Function m) n h = cc
cells_of_array structs (Pointer c ∷ rest) b n h = cc
cells_of_array structs (Array m ∷ rest) b n h = let same : m ≡ n = cc in ap (λ k. k * cells_by structs rest b) same

pub array_room : (l : Layout) (x : Typed) (n : ℕ) → shape_of x.ctype ≡ shape.Array n → HasItsCells l x → HasRoom (n * cell_count l.structs (inner x.ctype)) x.fixed
array_room l x n is h =
    subst (λ k. HasRoom k x.fixed) (cells_of_array l.structs x.ctype.derived x.ctype.base n is) (subst (λ s. RoomBy l s x) is h)

pub any_room : (l : Layout) (s : Shape) (x : Typed) → HasRoom (cell_count l.structs x.ctype) x.fixed → RoomBy l s x
any_room l shape.Void x h = tt
any_room l (shape.Integer k) x h = tt
any_room l shape.Pointer x h = tt
any_room l (shape.Array n) x h = h
any_room l (shape.Struct n) x h = h
any_room l (shape.Function n) x h = tt
