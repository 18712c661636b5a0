-- Each kind of lvalue, for its place.
use Rattle.std.proofs.Common.{◌≡◌, ℕ, true, List, [], ◌∷◌, length, Option, Some, None, refl, subst, arith}
use Rattle.c_tree.specs.declared.expression.UnaryOperator.{UnaryOperator}
use Rattle.c_tree.specs.declared.expression.UnaryOperator.TheVariants as u
use Rattle.c_tree.specs.declared.expression.Expression.{Expression, out-Expression}
use Rattle.c_tree.specs.declared.expression.Declarator.TheOpen.{Expression-F as e}
use Rattle.c_kinds.specs.declared.types.CType.{CType}
use Rattle.c_kinds.specs.declared.types.CellType.{CellType}
use Rattle.c_kinds.specs.Types.{shape_of, inner}
use Rattle.c_kinds.specs.Layouts.{begins_with}
use Rattle.c_rules.specs.declared.names.Meaning.{Meaning}
use Rattle.c_rules.specs.declared.names.Meaning.TheVariants as meaning
use Rattle.c_rules.specs.declared.program.Program.{Program}
use Rattle.c_model.specs.declared.values.Scalar.{Scalar}
use Rattle.c_model.specs.declared.values.Scalar.TheVariants.{Number, Null, Wild, Inside}
use Rattle.c_model.specs.Programs.{ExpressionNode, type_of, types_of, cell_count, meaning_at, offset_of}
use Rattle.c_model.specs.Values.{scalar_in, number_in}
use Rattle.c_model.specs.Store.{place_of, further, followed}
use Rattle.c_model.specs.Operators.{element_of}
use Rattle.c_model.specs.Moves.{giving, gives}
use Rattle.c_model.specs.Configurations.{State}
use Rattle.c_model.specs.Places.{named_place, element_place, member_place, pointed, pointed_member_place, pointed_place, place_node}
use Rattle.c_model.specs.Heads.{AsPlace, decayed_by, value_wait, array_wait}
use Rattle.c_heads.specs.Typed.{IfGiven, IsLaidOut, IsPlaceOf, IsOfType}
use Rattle.c_heads.specs.Waiting.{Given, IsGiven, place_awaited, two_awaited, AreFound}
use Rattle.c_heads.specs.Controls.{Delivers, IsSoundControl, IsSoundState}
use Rattle.c_heads.specs.Sound.{MeaningLives, NameLives, IsPart, IsObjectNamed, IsPointed, IsTypedPlace}
use Rattle.c_heads.proofs.Conversions.{IsSound, value_is_sound}
use Rattle.c_heads.proofs.Layouts.{begins_again}
use Rattle.c_heads.proofs.Handing.{stands}
use Rattle.c_heads.proofs.Reading.{object_is, further_is, followed_is, elements}
use Rattle.c_heads.proofs.Evaluating.{stands_same, stands_value, AllSound, settled, gives_place, place_asks, place_locates}

-- the whole is a part of itself
whole : (p : Program) (t other : CType) → types_of p t ≡ types_of p other → IsPart p 0 t other
whole p t other same = let P : List CellType → Type 0 = λ ts. begins_with (types_of p t) ts ≡ true in (omega arith, subst P same (begins_again (types_of p t)))

module _ (p : Program) (agree : (t : CType) → cell_count p t ≡ length (types_of p t)) (c : State) (is : IsLaidOut p c.store) (below : Given) (h : IsSoundControl p c.store (length c.store) below c.control) (x : Expression)
    (d : Delivers p (AsPlace (type_of p x)) below) where
  abbrev n : ℕ
  n = length c.store

  named_place_is : (m : Option Meaning) → MeaningLives c.store m → IsObjectNamed p (type_of p x) m → AllSound p (named_place m c)
  named_place_is (Some (meaning.Object number)) live y = gives_place p c is below h x d (place_of number c.store) (object_is p c.store is number (type_of p x) live y)
  named_place_is (Some _) live y = absurd y
  named_place_is None live y = absurd y

  -- a place of the same cells
  same_place : (t : CType) (s : Scalar) → types_of p t ≡ types_of p (type_of p x) → IsPlaceOf p c.store n t s → IsSoundState p (giving (s ∷ []) c)
  same_place t s same g = gives_place p c is below h x d s (stands p c.store n (AsPlace t) (AsPlace (type_of p x)) (s ∷ []) same g)

  elements_are : (at : ℕ) (array index : Expression) → out-Expression x ≡ e.Subscript array index at → (found : List (List Scalar)) → AreFound p c.store n (two_awaited (array_wait p array) (value_wait p index)) 0 found
      → types_of p (inner (type_of p array)) ≡ types_of p (type_of p x) → AllSound p (element_place p at array index x found c)
  elements_are at array index q [] f y = place_asks p c is below h x (e.Subscript array index at) q d array [] tt (stands_same p (array_wait p array)) tt
  elements_are at array index q (v ∷ []) f y = place_asks p c is below h x (e.Subscript array index at) q d index (v ∷ []) f (stands_value p index) tt
  elements_are at array index q (v ∷ (w ∷ rest)) f y =
      settled p (IsPlaceOf p c.store n (inner (type_of p array))) at (element_of p (type_of p array) (scalar_in v) (number_in (scalar_in w)) c.store) (λ s. giving (s ∷ []) c)
      (elements p c.store is (type_of p array) v (number_in (scalar_in w)) (agree (inner (type_of p array))) f.0) (λ s g. same_place (inner (type_of p array)) s y g)

  part_given : (t : CType) (offset : ℕ) (v : List Scalar) → IsPart p offset t (type_of p x) → IsGiven p c.store n (AsPlace t) v → AllSound p (gives (further offset (scalar_in v) ∷ []) c)
  part_given t offset [] y g = absurd g
  part_given t offset (s ∷ []) y g = gives_place p c is below h x d (further offset s) (further_is p c.store is n offset t (type_of p x) s g y)
  part_given t offset (s ∷ (r ∷ v)) y g = absurd g

  members_are : (at : ℕ) (object : Expression) (name : List ℕ) → out-Expression x ≡ e.Member object name at → (found : List (List Scalar)) → AreFound p c.store n (place_awaited p (e.Member object name at)) 0 found
      → IsPart p (offset_of p (type_of p object) name) (type_of p object) (type_of p x) → AllSound p (member_place p object name x found c)
  members_are at object name q [] f y = place_locates p c is below h x (e.Member object name at) q d object [] tt refl tt
  members_are at object name q (v ∷ rest) f y = part_given (type_of p object) (offset_of p (type_of p object) name) v y f.0

  -- what a pointer leads to
  followed_sound : (t : CType) (s : Scalar) → IsSound c.store s → IfGiven (IsPlaceOf p c.store n t) (followed p t s c.store)
  followed_sound t (Number i) g = tt
  followed_sound t Null g = tt
  followed_sound t Wild g = tt
  followed_sound t (Inside object offset) g = followed_is p c.store is t (Inside object offset) g

  leads_to : (at : ℕ) (t : CType) (offset : ℕ) (v : List Scalar) (of : CType) → IsOfType p c.store of v → IsPart p offset (inner t) (type_of p x) → AllSound p (pointed p at t offset v c)
  leads_to at t offset v of g y =
      settled p (IsPlaceOf p c.store n (inner t)) at (followed p (inner t) (scalar_in v) c.store) (λ s. giving (further offset s ∷ []) c)
      (followed_sound (inner t) (scalar_in v) (value_is_sound c.store (types_of p of) v g))
      (λ s k. gives_place p c is below h x d (further offset s) (further_is p c.store is n offset (inner t) (type_of p x) s k y))

  pointed_members : (at : ℕ) (pointer : Expression) (name : List ℕ) → out-Expression x ≡ e.PointedMember pointer name at → (found : List (List Scalar)) → AreFound p c.store n (place_awaited p (e.PointedMember pointer name at)) 0 found
      → IsPart p (offset_of p (inner (type_of p pointer)) name) (inner (type_of p pointer)) (type_of p x) → AllSound p (pointed_member_place p at pointer name x found c)
  pointed_members at pointer name q [] f y = place_asks p c is below h x (e.PointedMember pointer name at) q d pointer [] tt (stands_value p pointer) tt
  pointed_members at pointer name q (v ∷ rest) f y = leads_to at (type_of p pointer) (offset_of p (inner (type_of p pointer)) name) v (decayed_by (shape_of (type_of p pointer)) (type_of p pointer)) f.0 y

  pointed_are : (at : ℕ) (op : UnaryOperator) (pointer : Expression) → out-Expression x ≡ e.Unary op pointer at → (found : List (List Scalar)) → AreFound p c.store n (place_awaited p (e.Unary op pointer at)) 0 found
      → IsPointed p op (type_of p x) (inner (type_of p pointer)) → AllSound p (pointed_place p at op pointer x found c)
  pointed_are at u.Indirection pointer q [] f y = place_asks p c is below h x (e.Unary u.Indirection pointer at) q d pointer [] tt (stands_value p pointer) tt
  pointed_are at u.Indirection pointer q (v ∷ rest) f y = leads_to at (type_of p pointer) 0 v (decayed_by (shape_of (type_of p pointer)) (type_of p pointer)) f.0 (whole p (inner (type_of p pointer)) (type_of p x) y)
  pointed_are at _ pointer q found f y = absurd y

  pub places_by : (l : ExpressionNode) → out-Expression x ≡ l → (found : List (List Scalar)) → AreFound p c.store n (place_awaited p l) 0 found → NameLives p c.store l → IsTypedPlace p (type_of p x) l → AllSound p (place_node p x l found c)
  places_by (e.«Expression::Name» name at) q found f live y = named_place_is (meaning_at p at) live y
  places_by (e.Subscript array index at) q found f live y = elements_are at array index q found f y
  places_by (e.Member object name at) q found f live y = members_are at object name q found f y
  places_by (e.PointedMember pointer name at) q found f live y = pointed_members at pointer name q found f y
  places_by (e.Unary operator pointer at) q found f live y = pointed_are at operator pointer q found f y
  places_by _ q found f live y = absurd y
