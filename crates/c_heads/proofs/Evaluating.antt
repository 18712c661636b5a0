-- What a step of an expression leads to: the value that it gives, or the operand that it asks for.
use Rattle.std.proofs.Common.{◌≡◌, ℕ, not, ℤ, List, [], ◌∷◌, length, IsTrue, refl, sym, ap, ◌∙◌, subst}
use Rattle.kv_num.specs.IntType.{InRange}
use Rattle.c_tree.specs.declared.expression.Expression.{Expression, out-Expression}
use Rattle.c_tree.specs.declared.expression.Declarator.TheOpen.{Expression-F as e}
use Rattle.c_kinds.specs.declared.types.CType.{CType}
use Rattle.c_kinds.specs.declared.types.CellType.{CellType}
use Rattle.c_kinds.specs.declared.types.Shape.{Shape}
use Rattle.c_kinds.specs.declared.types.Shape.TheVariants as shape
use Rattle.c_kinds.specs.Types.{shape_of, is_array_shape}
use Rattle.c_rules.specs.declared.program.Program.{Program}
use Rattle.c_model.specs.declared.values.Scalar.{Scalar}
use Rattle.c_model.specs.declared.values.Object.{Object}
use Rattle.c_model.specs.declared.values.Outcome.{Outcome}
use Rattle.c_model.specs.declared.values.Outcome.TheVariants as outcome
use Rattle.c_model.specs.Programs.{ExpressionNode, type_at, type_of, types_of, cell_count}
use Rattle.c_model.specs.Store.{stored}
use Rattle.c_model.specs.Operators.{read, keeping}
use Rattle.c_model.specs.Moves.{giving, asks, locates, settles}
use Rattle.c_model.specs.Configurations.{Needs, Locates, State, Move, Goes, Unmet, Forks, Takes as TakesInput, Unassumed, Stops}
use Rattle.c_model.specs.Heads.{Wait, AsValue, AsPlace, AreOf, decayed_by, array_wait_by, value_wait}
use Rattle.c_heads.specs.Typed.{IsOfType, IsOfShape, IfGiven, IsLaidOut}
use Rattle.c_heads.specs.Waiting.{Given, Hands, IsGiven, StandsFor, given_by, awaited, place_awaited, AreFound, MayWait, PlaceMayWait}
use Rattle.c_heads.specs.Controls.{Delivers, IsSoundControl, IsSoundState}
use Rattle.c_heads.specs.Sound.{IsResultType, HasShape, IsScalarShape, SameCells}
use Rattle.c_heads.proofs.Conversions.{scalar_is}
use Rattle.c_heads.proofs.Stores.{stored_is, stored_grows, grown_values}
use Rattle.c_heads.proofs.Handing.{delivered, gives_is, asks_is, locates_is, kept_control}
use Rattle.c_heads.proofs.Reading.{reads}

-- ---- types that are given

module _ (p : Program) where
  plain_by : (t : CType) (s : Shape) → IsTrue (not (is_array_shape s)) → array_wait_by s t ≡ AsValue t
  plain_by t (shape.Array count) h = absurd (cc)
  plain_by t _ h = refl

  -- what is no array is given as a value
  pub plain : (t : CType) → IsResultType t → array_wait_by (shape_of t) t ≡ AsValue t
  plain t h = plain_by t (shape_of t) h

  scalar_plain : (s : Shape) → IsScalarShape s → IsTrue (not (is_array_shape s))
  scalar_plain (shape.Integer kind) h = refl
  scalar_plain shape.Pointer h = refl
  scalar_plain _ h = absurd h

  pub scalar_result : (t : CType) (s : Shape) → HasShape t s → IsScalarShape s → IsResultType t
  scalar_result t s e h = let P : Shape → Type 0 = λ z. IsTrue (not (is_array_shape z)) in subst P (sym e) (scalar_plain s h)

  pub stands_same : (w : Wait) → StandsFor p w w
  stands_same (AsValue t) = refl
  stands_same (AsPlace t) = refl

  value_by : (t : CType) (s : Shape) → StandsFor p (array_wait_by s t) (AsValue (decayed_by s t))
  value_by t (shape.Array count) = refl
  value_by t _ = refl

  pub stands_value : (x : Expression) → StandsFor p (given_by p x) (value_wait p x)
  stands_value x = value_by (type_of p x) (shape_of (type_of p x))

  pub delivers_as : (t u : CType) (below : Given) → types_of p t ≡ types_of p u → Delivers p (AsValue u) below → Delivers p (AsValue t) below
  delivers_as t u (Hands (AsValue v)) e d = e ∙ d
  delivers_as t u (Hands (AsPlace v)) e d = absurd d
  delivers_as t u _ e d = absurd d

  -- ---- moves

  abbrev pub AllSound : Move → Type 0
  AllSound (Goes d) = IsSoundState p d
  AllSound (Unmet check at d) = Unit {0}
  AllSound (Forks holds a b) = IsSoundState p a × IsSoundState p b
  AllSound (TakesInput kind go) = (n : ℤ) → InRange kind n → IsSoundState p (go n)
  AllSound (Unassumed d) = Unit {0}
  AllSound Stops = Unit {0}

  pub settled : (P : Scalar → Type 0) (at : ℕ) (o : Outcome) (go : Scalar → State) → IfGiven P o → ((s : Scalar) → P s → IsSoundState p (go s)) → AllSound (settles at o go)
  settled P at (outcome.Gives s) go h k = k s h
  settled P at (outcome.Unmet check) go h k = tt

  -- the number of an expression's own token
  abbrev token_in : ExpressionNode → ℕ
  token_in l = elim l as (λ _. ℕ) [
    | e.«Expression::Name» name at ↦ at
    | e.Constant kind value at ↦ at
    | e.Text at ↦ at
    | e.Subscript array index at ↦ at
    | e.Call function arguments at ↦ at
    | e.Member object name at ↦ at
    | e.PointedMember pointer name at ↦ at
    | e.Postfix step operand at ↦ at
    | e.Prefix step operand at ↦ at
    | e.Unary operator operand at ↦ at
    | e.SizeofExpression operand at ↦ at
    | e.SizeofType type_name at ↦ at
    | e.Cast type_name operand at ↦ at
    | e.Binary operator left right at ↦ at
    | e.Conditional test first otherwise at ↦ at
    | e.Assign operator target value at ↦ at
    | e.Comma parts at ↦ at
  ]

  pub type_here : (x : Expression) (l : ExpressionNode) → out-Expression x ≡ l → type_of p x ≡ type_at p (token_in l)
  type_here x l q = ap (λ m. type_at p (token_in m)) q

  -- an expression on top, with what waits for it
  module _ (c : State) (is : IsLaidOut p c.store) (below : Given) (h : IsSoundControl p c.store (length c.store) below c.control) (x : Expression) where
    abbrev n : ℕ
    n = length c.store

    -- ---- what it gives
    module _ (d : Delivers p (given_by p x) below) where
      -- a value of a type that is no array
      pub plain_delivers : IsResultType (type_of p x) → Delivers p (AsValue (type_of p x)) below
      plain_delivers r = let P : Wait → Type 0 = λ w. Delivers p w below in subst P (plain (type_of p x) r) d

      pub gives_value : (v : List Scalar) → IsResultType (type_of p x) → IsOfType p c.store (type_of p x) v → IsSoundState p (giving v c)
      gives_value v r g = gives_is p c is v below (delivered p c.store n (AsValue (type_of p x)) v below (plain_delivers r) g) h

      pub gives_scalar : (s : Scalar) (of : Shape) → HasShape (type_of p x) of → IsScalarShape of → IsOfShape c.store of s → IsSoundState p (giving (s ∷ []) c)
      gives_scalar s of e k g =
          let P : Shape → Type 0 = λ z. IsOfShape c.store z s in
          gives_value (s ∷ []) (scalar_result (type_of p x) of e k) (scalar_is p c.store (type_of p x) s (subst P (sym e) g))

      -- a value of the same cells
      pub gives_same : (v : List Scalar) (from : CType) → SameCells p (type_of p x) from → IsOfType p c.store from v → IsSoundState p (giving v c)
      gives_same v from same g = let P : List CellType → Type 0 = λ ts. AreOf c.store ts v in gives_value v same.1 (subst P same.0 g)

      -- what its place holds
      pub gives_read : (u : CType) (s : Scalar) → type_of p x ≡ u → cell_count p u ≡ length (types_of p u) → IsGiven p c.store n (AsPlace u) (s ∷ []) → IsSoundState p (giving (read p u s c.store) c)
      gives_read u s e agree g =
          let P : CType → Type 0 = λ z. Delivers p (array_wait_by (shape_of z) z) below in
          gives_is p c is (read p u s c.store) below (delivered p c.store n (array_wait_by (shape_of u) u) (read p u s c.store) below (subst P e d) (reads p c.store is u n s agree g)) h

      -- ---- a value is stored in a place, and another one given

      pub stores_and_gives : (u : CType) (s : Scalar) (v given : List Scalar) → IsGiven p c.store n (AsPlace u) (s ∷ []) → IsOfType p c.store u v → IsOfType p c.store u given → SameCells p (type_of p x) u
          → IsSoundState p (giving given (keeping v s c))
      stores_and_gives u s v given g stored_value given_value same =
          let others : List Object = stored v s c.store in
          let P : List CellType → Type 0 = λ ts. AreOf others ts given in
          let k : AreOf others (types_of p (type_of p x)) given = subst P same.0 (grown_values c.store others (stored_grows v s c.store) (types_of p u) given given_value) in
          gives_is p (keeping v s c) (stored_is p c.store is n u s v g.0 stored_value) given below
          (delivered p others (length others) (AsValue (type_of p x)) given below (plain_delivers same.1) k) (kept_control p c is v s below c.control h)

    module _ (d : Delivers p (AsPlace (type_of p x)) below) where
      pub gives_place : (s : Scalar) → IsGiven p c.store n (AsPlace (type_of p x)) (s ∷ []) → IsSoundState p (giving (s ∷ []) c)
      gives_place s g = gives_is p c is (s ∷ []) below (delivered p c.store n (AsPlace (type_of p x)) (s ∷ []) below d g) h

    -- ---- what it asks for
    module _ (l : ExpressionNode) (q : out-Expression x ≡ l) where
      module _ (d : Delivers p (given_by p x) below) where
        needs : (found : List (List Scalar)) → AreFound p c.store n (awaited p l) 0 found → MayWait (length found) l → IsSoundControl p c.store n (Hands (awaited p l (length found))) (Needs x found ∷ c.control)
        needs found f m =
            let P : ExpressionNode → Type 0 = λ z. AreFound p c.store n (awaited p z) 0 found in
            let W : ExpressionNode → Type 0 = λ z. MayWait (length found) z in
            (below, ap (λ z. awaited p z (length found)) (sym q), (subst P (sym q) f, d, subst W (sym q) m), h)

        pub asks_for : (y : Expression) (found : List (List Scalar)) → AreFound p c.store n (awaited p l) 0 found → StandsFor p (given_by p y) (awaited p l (length found)) → MayWait (length found) l → AllSound (asks y (Needs x found) c)
        asks_for y found f e m = asks_is p c is y (Needs x found) (awaited p l (length found)) e (needs found f m)

        pub asks_place : (y : Expression) (found : List (List Scalar)) → AreFound p c.store n (awaited p l) 0 found → StandsFor p (AsPlace (type_of p y)) (awaited p l (length found)) → MayWait (length found) l → AllSound (locates y (Needs x found) c)
        asks_place y found f e m = locates_is p c is y (Needs x found) (awaited p l (length found)) e (needs found f m)

      module _ (d : Delivers p (AsPlace (type_of p x)) below) where
        locating : (found : List (List Scalar)) → AreFound p c.store n (place_awaited p l) 0 found → PlaceMayWait (length found) l → IsSoundControl p c.store n (Hands (place_awaited p l (length found))) (Locates x found ∷ c.control)
        locating found f m =
            let P : ExpressionNode → Type 0 = λ z. AreFound p c.store n (place_awaited p z) 0 found in
            let W : ExpressionNode → Type 0 = λ z. PlaceMayWait (length found) z in
            (below, ap (λ z. place_awaited p z (length found)) (sym q), (subst P (sym q) f, d, subst W (sym q) m), h)

        pub place_asks : (y : Expression) (found : List (List Scalar)) → AreFound p c.store n (place_awaited p l) 0 found → StandsFor p (given_by p y) (place_awaited p l (length found)) → PlaceMayWait (length found) l → AllSound (asks y (Locates x found) c)
        place_asks y found f e m = asks_is p c is y (Locates x found) (place_awaited p l (length found)) e (locating found f m)

        pub place_locates : (y : Expression) (found : List (List Scalar)) → AreFound p c.store n (place_awaited p l) 0 found → StandsFor p (AsPlace (type_of p y)) (place_awaited p l (length found)) → PlaceMayWait (length found) l → AllSound (locates y (Locates x found) c)
        place_locates y found f e m = locates_is p c is y (Locates x found) (place_awaited p l (length found)) e (locating found f m)
