-- What operands are where an operator gives a type.
use Rattle.std.proofs.Common.{◌≡◌, ℕ, ◌+◌, slice_get, Bool, true, false, not, ◌&&◌, ◌||◌, cond, List, Option, Some, None, refl, ap, sym, subst, ◌∙◌}
use Rattle.c_tree.specs.declared.expression.AssignOperator.{AssignOperator}
use Rattle.c_kinds.specs.declared.types.CType.{CType}
use Rattle.c_kinds.specs.declared.types.Member.{Member}
use Rattle.c_kinds.specs.declared.types.Struct.{Struct}
use Rattle.c_kinds.specs.declared.types.Shape.{Shape}
use Rattle.c_kinds.specs.declared.types.Shape.TheVariants as shape
use Rattle.c_kinds.specs.declared.typed.Fixed.TheVariants.{Varies}
use Rattle.c_kinds.specs.declared.typed.Typed.{Typed}
use Rattle.c_kinds.specs.declared.answer.Answer.{Answer}
use Rattle.c_kinds.specs.declared.answer.Answer.TheVariants.{Gives, Breaks, Nothing}
use Rattle.c_kinds.specs.Addresses.{further_in}
use Rattle.c_kinds.specs.Casts.{is_writable, plain_operator, assigned, assign_answer, steps, step_answer}
use Rattle.c_kinds.specs.Elements.{read_pointer, subscript_by, subscript_answer, member_place, member_by, member_answer, pointed_struct, pointed_member_answer}
use Rattle.c_kinds.specs.Layouts.{Layout, members_by, member_in, struct_is_complete, has_const, is_incomplete}
use Rattle.c_kinds.specs.Operands.{needs_cells, indirection, address_answer}
use Rattle.c_kinds.specs.Types.{shape_of, inner, pointer_to, is_array_shape, is_array, is_void, is_rows, unqualified, also_const, const_of}
use Rattle.c_kinds.specs.Values.{unless, part, used, value, result, place, converted_value}
use Rattle.c_heads.specs.Sound.{IsScalarShape}
use Rattle.c_sound.proofs.Rights.{part_gives, then_gives, unless_gives, used_gives, not_true}

pub same_typed : (v w : Typed) → Gives v ≡ Gives w → v ≡ w
same_typed v w e = cc

-- a place of a type
pub record IsPlaced (w : Typed) (t : CType) : Type 0 where
  pub ctype : w.ctype ≡ t
  pub place : w.is_place ≡ true

placed : (v w : Typed) (t : CType) → Gives v ≡ Gives w → v.ctype ≡ t → v.is_place ≡ true → IsPlaced w t
placed v w t e q h = let same = same_typed v w e in record { ctype = subst (λ x. x.ctype ≡ t) same q; place = subst (λ x. x.is_place ≡ true) same h }

-- not a place
pub record IsResult (w : Typed) (t : CType) : Type 0 where
  pub ctype : w.ctype ≡ t
  pub no_place : w.is_place ≡ false

pub resulted : (v w : Typed) (t : CType) → Gives v ≡ Gives w → v.ctype ≡ t → v.is_place ≡ false → IsResult w t
resulted v w t e q h = let same = same_typed v w e in record { ctype = subst (λ x. x.ctype ≡ t) same q; no_place = subst (λ x. x.is_place ≡ false) same h }

pub needs_gives : (l : Layout) (at : ℕ) (p : Typed) (x : Answer) (v : Typed) → needs_cells l at p x ≡ Gives v → x ≡ Gives v
needs_gives l at p x v h =
    (unless_gives (is_incomplete l.structs p.ends_at (inner p.ctype)) 10 p.named_at x v (unless_gives (is_void (inner p.ctype)) 12 at (unless (is_incomplete l.structs p.ends_at (inner p.ctype)) 10 p.named_at x) v h).gives).gives

-- ---- subscripts

read_same : (b : Bool) (a : Typed) → (cond b (record a { fixed = Varies }) a).ctype ≡ a.ctype
read_same true a = refl
read_same false a = refl

subscript_shape : (l : Layout) (at : ℕ) (s : Shape) (a i w : Typed) → subscript_by l at s a i ≡ Gives w → IsPlaced w (inner a.ctype)
subscript_shape l at (shape.Array n) a i w h = placed _ w (inner a.ctype) h refl refl
subscript_shape l at shape.Pointer a i w h = placed _ w (inner a.ctype) (needs_gives l at (read_pointer a) _ w h) (ap inner (read_same a.is_place a)) refl
subscript_shape l at (shape.Integer kind) a i w h = absurd (cc)
subscript_shape l at (shape.Struct n) a i w h = absurd (cc)
subscript_shape l at (shape.Function n) a i w h = absurd (cc)
subscript_shape l at shape.Void a i w h = absurd (cc)

pub record SubscriptGives (array : Answer) (w : Typed) : Type 0 where
  pub operand : Typed
  pub is : array ≡ Gives operand
  pub placed : IsPlaced w (inner operand.ctype)

pub subscript_gives : (l : Layout) (at : ℕ) (array index : Answer) (w : Typed) → part array (λ a. used l index (λ i. subscript_answer l at a i)) ≡ Gives w → SubscriptGives array w
subscript_gives l at array index w h =
    let a = part_gives array (λ a. used l index (λ i. subscript_answer l at a i)) w h in
    let i = used_gives l index (λ i. subscript_answer l at a.operand i) w a.gives in
    let v = converted_value i.operand in
    record { operand = a.operand; is = a.is; placed = subscript_shape l at (shape_of a.operand.ctype) a.operand v w (unless_gives _ 12 at (subscript_by l at (shape_of a.operand.ctype) a.operand v) w i.gives).gives }

-- ---- members

member_typed : (at : ℕ) (object w : Typed) (m : Member) (t : Option CType) → m.ctype ≡ t
    → elim t as (λ _. Answer) [ None ↦ Nothing | Some k ↦ Gives (place (also_const (const_of object.ctype) k) (further_in m.cell object.fixed) (further_in m.cell object.fixed) (at + 1) (at + 1)) ] ≡ Gives w → w.is_place ≡ true
member_typed at object w m None q h = absurd (cc)
member_typed at object w m (Some k) q h = (placed _ w (also_const (const_of object.ctype) k) h refl refl).place

member_found : (at : ℕ) (object w : Typed) (m : Option Member) → member_place at object m ≡ Gives w → w.is_place ≡ true
member_found at object w None h = absurd (cc)
member_found at object w (Some m) h = member_typed at object w m m.ctype refl h

member_named : (at : ℕ) (name : List ℕ) (object w : Typed) (s : Option Struct) (b : Bool) → cond b (member_place at object (member_in (members_by s) name)) (Breaks 3 (at + 1)) ≡ Gives w → w.is_place ≡ true
member_named at name object w s true h = member_found at object w _ h
member_named at name object w s false h = absurd (cc)

member_shape : (l : Layout) (at : ℕ) (name : List ℕ) (s : Shape) (object w : Typed) → member_by l at name s object ≡ Gives w → w.is_place ≡ true
member_shape l at name (shape.Struct n) object w h = member_named at name object w (slice_get l.structs n) (struct_is_complete at (slice_get l.structs n)) h
member_shape l at name (shape.Array n) object w h = absurd (cc)
member_shape l at name (shape.Integer kind) object w h = absurd (cc)
member_shape l at name (shape.Function n) object w h = absurd (cc)
member_shape l at name shape.Pointer object w h = absurd (cc)
member_shape l at name shape.Void object w h = absurd (cc)

-- both are places
pub record MemberGives (object : Answer) (w : Typed) : Type 0 where
  pub operand : Typed
  pub is : object ≡ Gives operand
  pub operand_place : operand.is_place ≡ true
  pub place : w.is_place ≡ true

pub member_gives : (l : Layout) (at : ℕ) (name : List ℕ) (object : Answer) (w : Typed) → part object (λ x. member_answer l at name x) ≡ Gives w → MemberGives object w
member_gives l at name object w h =
    let o = part_gives object (λ x. member_answer l at name x) w h in
    let m = unless_gives (not o.operand.is_place) 12 at (member_by l at name (shape_of o.operand.ctype) o.operand) w o.gives in
    record { operand = o.operand; is = o.is; operand_place = not_true o.operand.is_place m.holds; place = member_shape l at name (shape_of o.operand.ctype) o.operand w m.gives }

pub pointed_member_gives : (l : Layout) (at : ℕ) (name : List ℕ) (pointer : Answer) (w : Typed) → used l pointer (λ x. pointed_member_answer l at name x) ≡ Gives w → w.is_place ≡ true
pointed_member_gives l at name pointer w h =
    let o = used_gives l pointer (λ x. pointed_member_answer l at name x) w h in
    let v = converted_value o.operand in
    member_shape l at name (shape_of (inner v.ctype)) (pointed_struct l v) w (unless_gives _ 12 at (member_by l at name (shape_of (inner v.ctype)) (pointed_struct l v)) w o.gives).gives

-- ---- pointers that are followed, and addresses

pub record PointedGives (pointer : Answer) (w : Typed) : Type 0 where
  pub operand : Typed
  pub is : pointer ≡ Gives operand
  pub pointer_shape : shape_of (converted_value operand).ctype ≡ shape.Pointer
  pub placed : IsPlaced w (inner (converted_value operand).ctype)

record Followed (s : Shape) (v w : Typed) : Type 0 where
  shape_is : s ≡ shape.Pointer
  placed_is : IsPlaced w (inner v.ctype)

followed_shape : (l : Layout) (at : ℕ) (s : Shape) (v w : Typed) → indirection l at s v ≡ Gives w → Followed s v w
followed_shape l at shape.Pointer v w h = record { shape_is = refl; placed_is = placed _ w (inner v.ctype) (needs_gives l at v _ w h) refl refl }
followed_shape l at (shape.Array n) v w h = absurd (cc)
followed_shape l at (shape.Integer kind) v w h = absurd (cc)
followed_shape l at (shape.Struct n) v w h = absurd (cc)
followed_shape l at (shape.Function n) v w h = absurd (cc)
followed_shape l at shape.Void v w h = absurd (cc)

pub pointed_gives : (l : Layout) (at : ℕ) (pointer : Answer) (w : Typed) → used l pointer (λ v. indirection l at (shape_of v.ctype) v) ≡ Gives w → PointedGives pointer w
pointed_gives l at pointer w h =
    let o = used_gives l pointer (λ v. indirection l at (shape_of v.ctype) v) w h in
    let v = converted_value o.operand in
    let f = followed_shape l at (shape_of v.ctype) v w o.gives in
    record { operand = o.operand; is = o.is; pointer_shape = f.shape_is; placed = f.placed_is }

pub record AddressGives (operand : Answer) (w : Typed) : Type 0 where
  pub typed : Typed
  pub is : operand ≡ Gives typed
  pub place : typed.is_place ≡ true
  pub result : IsResult w (pointer_to typed.ctype)

pub address_gives : (at : ℕ) (operand : Answer) (w : Typed) → part operand (λ v. address_answer at v) ≡ Gives w → AddressGives operand w
address_gives at operand w h =
    let o = part_gives operand (λ v. address_answer at v) w h in
    let v = o.operand in
    let given = Gives (result (pointer_to v.ctype) v.address at v.ends_at) in
    let a = unless_gives (is_array v.ctype) 9 v.named_at (unless (not v.is_place) 14 at given) w o.gives in
    let b = unless_gives (not v.is_place) 14 at given w a.gives in
    record { typed = v; is = o.is; place = not_true v.is_place b.holds; result = resulted _ w (pointer_to v.ctype) b.gives refl refl }

-- ---- steps and assignments

pub record IsWritten (l : Layout) (target : Typed) : Type 0 where
  pub place : target.is_place ≡ true
  pub no_array : is_array target.ctype ≡ false

and_two : (a b : Bool) → (a && b) ≡ true → (a ≡ true) × (b ≡ true)
and_two true b e = (refl, e)
and_two false b e = absurd (cc)

no_first : (a b : Bool) → not (a || b) ≡ true → a ≡ false
no_first true b e = absurd (cc)
no_first false b e = refl

pub written : (l : Layout) (x : Typed) → is_writable l x ≡ true → IsWritten l x
written l x h =
    let parts = and_two x.is_place (not (is_array x.ctype || has_const l.structs x.ctype)) h in
    record { place = parts.0; no_array = no_first (is_array x.ctype) (has_const l.structs x.ctype) parts.1 }

pub record StepGives (l : Layout) (operand : Answer) (w : Typed) : Type 0 where
  pub typed : Typed
  pub is : operand ≡ Gives typed
  pub written_is : IsWritten l typed
  pub scalar : IsScalarShape (shape_of typed.ctype)
  pub result : IsResult w (unqualified typed.ctype)

step_shape : (l : Layout) (at : ℕ) (s : Shape) (x : Typed) (y : Answer) (w : Typed) → (shape_of x.ctype ≡ s) → is_array x.ctype ≡ false → steps l at s x y ≡ Gives w → IsScalarShape s
step_shape l at (shape.Integer kind) x y w q n h = tt
step_shape l at shape.Pointer x y w q n h = tt
step_shape l at (shape.Array k) x y w q n h = let e : true ≡ false = sym (ap is_array_shape q) ∙ n in absurd (cc)
step_shape l at (shape.Struct k) x y w q n h = absurd (cc)
step_shape l at (shape.Function k) x y w q n h = absurd (cc)
step_shape l at shape.Void x y w q n h = absurd (cc)

step_inside : (l : Layout) (at : ℕ) (s : Shape) (x : Typed) (y : Answer) (w : Typed) → steps l at s x y ≡ Gives w → y ≡ Gives w
step_inside l at (shape.Integer kind) x y w h = h
step_inside l at shape.Pointer x y w h = needs_gives l at x y w h
step_inside l at (shape.Array k) x y w h = (unless_gives (is_rows x.ctype) 9 x.named_at y w h).gives
step_inside l at (shape.Struct k) x y w h = absurd (cc)
step_inside l at (shape.Function k) x y w h = absurd (cc)
step_inside l at shape.Void x y w h = absurd (cc)

pub step_gives : (l : Layout) (at : ℕ) (ends : Typed → ℕ) (operand : Answer) (w : Typed) → part operand (λ x. step_answer l at (ends x) x) ≡ Gives w → StepGives l operand w
step_gives l at ends operand w h =
    let o = part_gives operand (λ x. step_answer l at (ends x) x) w h in
    let x = o.operand in
    let given = Gives (result (unqualified x.ctype) Varies x.named_at (ends x)) in
    let inside = step_inside l at (shape_of x.ctype) x (unless (not (is_writable l x)) 14 at given) w o.gives in
    let b = unless_gives (not (is_writable l x)) 14 at given w inside in
    let is_written = written l x (not_true (is_writable l x) b.holds) in
    record {
      typed = x;
      is = o.is;
      written_is = is_written;
      scalar = step_shape l at (shape_of x.ctype) x (unless (not (is_writable l x)) 14 at given) w refl is_written.no_array o.gives;
      result = resulted _ w (unqualified x.ctype) b.gives refl refl;
    }

-- an operand has a value
abbrev pub IsValued : Layout → Typed → Type 0
IsValued l w = value l w ≡ Gives (converted_value w)

pub record AssignGives (l : Layout) (operator : AssignOperator) (at : ℕ) (target value : Answer) (w : Typed) : Type 0 where
  pub typed : Typed
  pub is : target ≡ Gives typed
  pub written_is : IsWritten l typed
  pub other : Typed
  pub other_is : value ≡ Gives other
  pub other_valued : IsValued l other
  pub made : Typed
  pub made_is : assigned l (plain_operator operator) at typed (converted_value other) ≡ Gives made
  pub result : IsResult w (unqualified typed.ctype)

pub assign_gives : (l : Layout) (operator : AssignOperator) (at : ℕ) (target value : Answer) (w : Typed)
    → part target (λ x. unless (is_rows x.ctype) 9 x.named_at (used l value (λ v. assign_answer l operator at x v))) ≡ Gives w → AssignGives l operator at target value w
assign_gives l operator at target value w h =
    let o = part_gives target (λ x. unless (is_rows x.ctype) 9 x.named_at (used l value (λ v. assign_answer l operator at x v))) w h in
    let x = o.operand in
    let r = unless_gives (is_rows x.ctype) 9 x.named_at (used l value (λ v. assign_answer l operator at x v)) w o.gives in
    let y = used_gives l value (λ v. assign_answer l operator at x v) w r.gives in
    let v = converted_value y.operand in
    let given = Gives (result (unqualified x.ctype) Varies at v.ends_at) in
    let m = then_gives (assigned l (plain_operator operator) at x v) (λ made. unless (not (is_writable l x)) 14 at given) w y.gives in
    let b = unless_gives (not (is_writable l x)) 14 at given w m.gives in
    record {
      typed = x;
      is = o.is;
      written_is = written l x (not_true (is_writable l x) b.holds);
      other = y.operand;
      other_is = y.is;
      other_valued = y.valued;
      made = m.operand;
      made_is = m.is;
      result = resulted _ w (unqualified x.ctype) b.gives refl refl;
    }
