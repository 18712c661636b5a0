-- Each kind of expression, for its value.
use Rattle.std.proofs.Common.{◌≡◌, ℕ, true, false, pos, List, [], ◌∷◌, length, Option, Some, None, refl, sym, ap, ◌∙◌, subst}
use Rattle.kv_num.specs.declared.types.IntType.TheVariants.{Int}
use Rattle.c_tree.specs.declared.expression.AssignOperator.{AssignOperator}
use Rattle.c_tree.specs.declared.expression.BinaryOperator.{BinaryOperator}
use Rattle.c_tree.specs.declared.expression.BinaryOperator.TheVariants as b
use Rattle.c_tree.specs.declared.expression.UnaryOperator.{UnaryOperator}
use Rattle.c_tree.specs.declared.expression.UnaryOperator.TheVariants as u
use Rattle.c_tree.specs.declared.expression.Step.{Step}
use Rattle.c_tree.specs.declared.expression.Expression.{Expression, out-Expression}
use Rattle.c_tree.specs.declared.expression.Declarator.TheOpen.{Expression-F as e}
use Rattle.c_kinds.specs.declared.types.CType.{CType}
use Rattle.c_kinds.specs.declared.types.CellType.{CellType}
use Rattle.c_kinds.specs.declared.types.CellType.TheVariants as cell
use Rattle.c_kinds.specs.declared.types.Shape.{Shape}
use Rattle.c_kinds.specs.declared.types.Shape.TheVariants as shape
use Rattle.c_kinds.specs.Types.{integer, void, shape_of, inner}
use Rattle.c_kinds.specs.Layouts.{begins_with}
use Rattle.c_rules.specs.declared.names.Meaning.{Meaning}
use Rattle.c_rules.specs.declared.names.Meaning.TheVariants as meaning
use Rattle.c_rules.specs.declared.program.Program.{Program}
use Rattle.c_model.specs.declared.values.Scalar.{Scalar}
use Rattle.c_model.specs.declared.values.Scalar.TheVariants.{Number}
use Rattle.c_model.specs.declared.values.Object.{Object}
use Rattle.c_model.specs.declared.values.Outcome.{Outcome}
use Rattle.c_model.specs.declared.values.Outcome.TheVariants as outcome
use Rattle.c_model.specs.Programs.{ExpressionNode, checks, type_at, type_of, types_of, types_in, cell_count}
use Rattle.c_model.specs.Values.{truth_of, scalar_in, number_in, is_no, value_as}
use Rattle.c_model.specs.Store.{place_of}
use Rattle.c_model.specs.Operators.{moved_by, operate, operate_on, integer_of, step_operator, operator_of, read, keeping, assigning, compound, stepped, postfix, prefix}
use Rattle.c_model.specs.Moves.{put, giving, asking, gives, asks, locates, settles}
use Rattle.c_model.specs.Configurations.{Needs, CommaParts, Truth, Converts, Drops, State}
use Rattle.c_model.specs.Expressions.{name_value, lvalue, address_node, unary_value, cast_value, second, binary_value, conditional_value, assigns, assign_value, comma_parts}
use Rattle.c_model.specs.Heads.{Wait, AsValue, AsPlace, AreOf, decayed_by, array_wait_by, array_wait, value_wait}
use Rattle.c_heads.specs.Typed.{IsOfType, IsOfShape, IsPointer, IfGiven, IsLaidOut, ConvertsTo, IsArithmetic, binary_shape, unary_shape}
use Rattle.c_heads.specs.Waiting.{Given, Continues, Evaluates, Hands, type_given, IsGiven, StandsFor, given_by, address_awaited, unary_awaited, two_awaited, awaited, AreFound, AddressMayWait, MayWait}
use Rattle.c_heads.specs.Controls.{Delivers, last_given, IsSoundControl, IsSoundState}
use Rattle.c_heads.specs.Sound.{value_type, MeaningLives, IsResultType, HasShape, IsScalarShape, SameCells, IsNamed, IsAddressed, IsUnary, IsStored, IsLast}
use Rattle.c_heads.proofs.Numbers.{truth_fits, number}
use Rattle.c_heads.proofs.Pointers.{moves, operation_is}
use Rattle.c_heads.proofs.Conversions.{IsSound, types_of_void, types_of_integer, types_of_pointer, converts_to, sound_is, shaped_is_sound}
use Rattle.c_heads.proofs.Handing.{delivered, gives_is, asks_is}
use Rattle.c_heads.proofs.Reading.{object_is, reads}
use Rattle.c_heads.proofs.Evaluating.{plain, scalar_result, stands_same, stands_value, delivers_as, AllSound, settled, plain_delivers, gives_value, gives_scalar, gives_read, stores_and_gives, asks_for, asks_place}

pub weaker : (P Q : Scalar → Type 0) (o : Outcome) → ((s : Scalar) → P s → Q s) → IfGiven P o → IfGiven Q o
weaker P Q (outcome.Gives s) f h = f s h
weaker P Q (outcome.Unmet check) f h = tt

binary_scalar : (op : BinaryOperator) (s o : Shape) → IsScalarShape (binary_shape op s o)
binary_scalar op (shape.Integer k) (shape.Integer l) = tt
binary_scalar b.Add s o = tt
binary_scalar b.Subtract s o = tt
binary_scalar op s o = tt

and_shape : (s o : Shape) → binary_shape b.LogicalAnd s o ≡ shape.Integer Int
and_shape (shape.Integer k) (shape.Integer l) = refl
and_shape _ _ = refl

or_shape : (s o : Shape) → binary_shape b.LogicalOr s o ≡ shape.Integer Int
or_shape (shape.Integer k) (shape.Integer l) = refl
or_shape _ _ = refl

module _ (p : Program) where
  decayed : (t : CType) (s : Shape) → type_given (array_wait_by s t) ≡ decayed_by s t
  decayed t (shape.Array count) = refl
  decayed t _ = refl

  -- an operand's value is of its type
  pub of_operand : (store : List Object) (y : Expression) (v : List Scalar) → IsOfType p store (decayed_by (shape_of (type_of p y)) (type_of p y)) v → IsOfType p store (value_type p y) v
  of_operand store y v g = let P : CType → Type 0 = λ z. IsOfType p store z v in subst P (sym (decayed (type_of p y) (shape_of (type_of p y)))) g

  pointer_as : (store : List Object) (t u : CType) (v : List Scalar) → HasShape t shape.Pointer → HasShape u shape.Pointer → IsOfType p store t v → IsOfType p store u v
  pointer_as store t u v e f g =
      let a = types_of_pointer p t e in
      let b = types_of_pointer p u f in
      let P : List CellType → Type 0 = λ ts. AreOf store ts v in
      subst P (sym b.1) (pointers a.0 b.0 v (subst P a.1 g))
    where
      pointers : (a b : CType) (v : List Scalar) → AreOf store (cell.Pointer a ∷ []) v → AreOf store (cell.Pointer b ∷ []) v
      pointers a b [] g = g
      pointers a b (s ∷ []) g = g
      pointers a b (s ∷ (r ∷ v)) g = g

  delivers_given : (w : Wait) (t : CType) (below : Given) → types_of p (type_given w) ≡ types_of p t → Delivers p (AsValue t) below → Delivers p w below
  delivers_given (AsValue s) t (Hands (AsValue v)) e d = e ∙ d
  delivers_given (AsPlace s) t (Hands (AsValue v)) e d = e ∙ d
  delivers_given w t (Hands (AsPlace v)) e d = absurd d
  delivers_given w t _ e d = absurd d

  pub last_delivers : (t : CType) (parts : List Expression) (below : Given) → IsLast p t parts → (IsResultType t → Delivers p (AsValue t) below) → Delivers p (last_given p parts) below
  last_delivers t [] below y d = absurd y
  last_delivers t (x ∷ []) below y d = delivers_given (given_by p x) t below y.0 (d y.1)
  last_delivers t (x ∷ (z ∷ rest)) below y d = last_delivers t (z ∷ rest) below y d

  -- ---- commas

  module _ (c : State) (is : IsLaidOut p c.store) (below : Given) (h : IsSoundControl p c.store (length c.store) below c.control) where
    pub commas : (parts : List Expression) → Delivers p (last_given p parts) below → AllSound p (comma_parts parts c)
    commas [] dl =
        let P : List CellType → Type 0 = λ ts. AreOf c.store ts [] in
        gives_is p c is [] below (delivered p c.store (length c.store) (AsValue void) [] below dl (subst P (sym (types_of_void p void refl)) tt)) h
    commas (part ∷ []) dl = record { store = is; top = Evaluates; active = tt; control = (below, tt, (tt, dl), h) }
    commas (part ∷ (z ∷ rest)) dl =
        asks_is p (put (CommaParts (z ∷ rest)) c) is part Drops (given_by p part) (stands_same p (given_by p part)) (Continues, tt, tt, (below, tt, dl, h))

  module _ (agree : (t : CType) → cell_count p t ≡ length (types_of p t)) (c : State) (is : IsLaidOut p c.store) (below : Given) (h : IsSoundControl p c.store (length c.store) below c.control) (x : Expression)
      (d : Delivers p (given_by p x) below) where
    abbrev n : ℕ
    n = length c.store

    -- ---- names and lvalues

    pub named : (m : Option Meaning) (t : CType) → type_of p x ≡ t → MeaningLives c.store m → IsNamed p (type_of p x) m → AllSound p (name_value p m t c)
    named (Some (meaning.Object number)) t e live y =
        let P : CType → Type 0 = λ z. begins_with (types_in p number) (types_of p z) ≡ true in
        gives_read p c is below h x d t (place_of number c.store) e (agree t) (object_is p c.store is number t live (subst P e y))
    named (Some (meaning.Constant (Some k))) t e live y = gives_scalar p c is below h x d (Number k) (shape.Integer Int) y.0 tt y.1
    named (Some (meaning.Constant None)) t e live y = absurd y
    named (Some _) t e live y = absurd y
    named None t e live y = absurd y

    read_from : (t : CType) (v : List Scalar) → type_of p x ≡ t → IsGiven p c.store n (AsPlace t) v → AllSound p (gives (read p t (scalar_in v) c.store) c)
    read_from t [] e g = absurd g
    read_from t (s ∷ []) e g = gives_read p c is below h x d t s e (agree t) g
    read_from t (s ∷ (r ∷ v)) e g = absurd g

    module _ (l : ExpressionNode) (q : out-Expression x ≡ l) where
      pub lvalues : (t : CType) → type_of p x ≡ t → awaited p l 0 ≡ AsPlace t → (found : List (List Scalar)) → AreFound p c.store n (awaited p l) 0 found → AllSound p (lvalue p t x found c)
      lvalues t e w [] f = let P : Wait → Type 0 = λ a. StandsFor p (AsPlace (type_of p x)) a in asks_place p c is below h x l q d x [] tt (subst P (sym w) (ap (types_of p) e)) tt
      lvalues t e w (v ∷ rest) f = let P : Wait → Type 0 = λ a. IsGiven p c.store n a v in read_from t v e (subst P w f.0)

    -- ---- steps and assignments

    step_sound : (step : Step) (t : CType) (s : Scalar) → IfGiven (IsSound c.store) (stepped p step t s c.store)
    step_sound step t s =
        let of : Shape = binary_shape (step_operator step) (shape_of t) (shape.Integer Int) in
        weaker (IsOfShape c.store of) (IsSound c.store) (stepped p step t s c.store) (shaped_is_sound c.store of)
        (operation_is p c.store (step_operator step) t (integer Int) (scalar_in (read p t s c.store)) (Number (pos 1)))

    scalar_read : (t : CType) (s : Scalar) → IsScalarShape (shape_of t) → IsGiven p c.store n (AsPlace t) (s ∷ []) → IsOfType p c.store t (read p t s c.store)
    scalar_read t s k g =
        let P : Wait → Type 0 = λ w. IsGiven p c.store n w (read p t s c.store) in
        subst P (plain p t (scalar_result p t (shape_of t) refl k)) (reads p c.store is t n s (agree t) g)

    pub after_step : (at : ℕ) (step : Step) (t : CType) (v : List Scalar) → IsGiven p c.store n (AsPlace t) v → SameCells p (type_of p x) t → IsScalarShape (shape_of t) → AllSound p (postfix p at step t (scalar_in v) c)
    after_step at step t [] g same k = absurd g
    after_step at step t (s ∷ []) g same k =
        settled p (IsSound c.store) at (stepped p step t s c.store) (λ r. giving (read p t s c.store) (keeping (value_as t (r ∷ [])) s c)) (step_sound step t s)
        (λ r i. stores_and_gives p c is below h x d t s (value_as t (r ∷ [])) (read p t s c.store) g (sound_is p c.store t (r ∷ []) k i) (scalar_read t s k g) same)
    after_step at step t (s ∷ (r ∷ v)) g same k = absurd g

    assigned : (t : CType) (s : Scalar) (v : List Scalar) → IsGiven p c.store n (AsPlace t) (s ∷ []) → IsOfType p c.store t (value_as t v) → SameCells p (type_of p x) t → IsSoundState p (assigning t s v c)
    assigned t s v g i same = stores_and_gives p c is below h x d t s (value_as t v) (value_as t v) g i i same

    pub before_step : (at : ℕ) (step : Step) (t : CType) (v : List Scalar) → IsGiven p c.store n (AsPlace t) v → SameCells p (type_of p x) t → IsScalarShape (shape_of t) → AllSound p (prefix p at step t (scalar_in v) c)
    before_step at step t [] g same k = absurd g
    before_step at step t (s ∷ []) g same k =
        settled p (IsSound c.store) at (stepped p step t s c.store) (λ r. assigning t s (r ∷ []) c) (step_sound step t s)
        (λ r i. assigned t s (r ∷ []) g (sound_is p c.store t (r ∷ []) k i) same)
    before_step at step t (s ∷ (r ∷ v)) g same k = absurd g

    stores : (at : ℕ) (op : Option BinaryOperator) (t other : CType) (v w : List Scalar) (from : CType) → IsGiven p c.store n (AsPlace t) v → IsOfType p c.store from w → SameCells p (type_of p x) t → IsStored p op t from
        → AllSound p (assigns p at op t other (scalar_in v) w c)
    stores at op t other [] w from g i same y = absurd g
    stores at None t other (s ∷ []) w from g i same y = assigned t s w g (converts_to p c.store t from w y i) same
    stores at (Some op) t other (s ∷ []) w from g i same y =
        let of : Shape = binary_shape op (shape_of t) (shape_of other) in
        settled p (IsSound c.store) at (compound p op t other s w c.store) (λ r. assigning t s (r ∷ []) c)
        (weaker (IsOfShape c.store of) (IsSound c.store) (compound p op t other s w c.store) (shaped_is_sound c.store of) (operation_is p c.store op t other (scalar_in (read p t s c.store)) (scalar_in w)))
        (λ r k. assigned t s (r ∷ []) g (sound_is p c.store t (r ∷ []) y k) same)
    stores at op t other (s ∷ (r ∷ v)) w from g i same y = absurd g

    -- ---- choices

    choice : (t : CType) (y : Expression) → ConvertsTo p t (value_type p y) → Delivers p (AsValue t) below → IsSoundState p (asking y (Converts t) c)
    choice t y k dt = asks_is p c is y (Converts t) (given_by p y) (stands_same p (given_by p y)) (below, k, dt, h)

    module _ (l : ExpressionNode) (q : out-Expression x ≡ l) (a : ℕ → Wait) (w : awaited p l ≡ a) where
      asks_as : (y : Expression) (found : List (List Scalar)) → AreFound p c.store n a 0 found → StandsFor p (given_by p y) (a (length found)) → MayWait (length found) l → AllSound p (asks y (Needs x found) c)
      asks_as y found f k m =
          let F : (ℕ → Wait) → Type 0 = λ z. AreFound p c.store n z 0 found in
          let K : (ℕ → Wait) → Type 0 = λ z. StandsFor p (given_by p y) (z (length found)) in
          asks_for p c is below h x l q d y found (subst F (sym w) f) (subst K (sym w) k) m

      places_as : (y : Expression) (found : List (List Scalar)) → AreFound p c.store n a 0 found → StandsFor p (AsPlace (type_of p y)) (a (length found)) → MayWait (length found) l → AllSound p (locates y (Needs x found) c)
      places_as y found f k m =
          let F : (ℕ → Wait) → Type 0 = λ z. AreFound p c.store n z 0 found in
          let K : (ℕ → Wait) → Type 0 = λ z. StandsFor p (AsPlace (type_of p y)) (z (length found)) in
          asks_place p c is below h x l q d y found (subst F (sym w) f) (subst K (sym w) k) m

    -- ---- operators before an operand

    place_passed : (t : CType) (v : List Scalar) → IsGiven p c.store n (AsPlace t) v → HasShape (type_of p x) shape.Pointer → AllSound p (gives v c)
    place_passed t [] g s = absurd g
    place_passed t (r ∷ []) g s = gives_scalar p c is below h x d r shape.Pointer s tt g.1
    place_passed t (r ∷ (i ∷ v)) g s = absurd g

    addressed : (operand : Expression) (m l : ExpressionNode) (q : out-Expression x ≡ l) → awaited p l ≡ address_awaited p operand m → (AddressMayWait m → MayWait 1 l) → (found : List (List Scalar)) → AreFound p c.store n (address_awaited p operand m) 0 found
        → HasShape (type_of p x) shape.Pointer → IsAddressed p m → AllSound p (address_node p operand m x found c)
    addressed operand (e.Unary u.Indirection pointer at) l q w may [] f s y = asks_as l q (address_awaited p operand (e.Unary u.Indirection pointer at)) w pointer [] tt (stands_value p pointer) tt
    addressed operand (e.Unary u.Indirection pointer at) l q w may (v ∷ rest) f s y =
        gives_value p c is below h x d v (scalar_result p (type_of p x) shape.Pointer s tt) (pointer_as c.store (value_type p pointer) (type_of p x) v y s (of_operand c.store pointer v f.0))
    addressed operand (e.Unary _ pointer at) l q w may found f s y = absurd y
    addressed operand (e.Subscript array index at) l q w may [] f s y = asks_as l q (address_awaited p operand (e.Subscript array index at)) w array [] tt (stands_same p (array_wait p array)) tt
    addressed operand (e.Subscript array index at) l q w may (v ∷ []) f s y = asks_as l q (address_awaited p operand (e.Subscript array index at)) w index (v ∷ []) f (stands_value p index) (may tt)
    addressed operand (e.Subscript array index at) l q w may (v ∷ (i ∷ rest)) f s y =
        settled p (IsPointer c.store) at (moved_by p (type_of p array) (number_in (scalar_in i)) (scalar_in v) c.store) (λ r. giving (r ∷ []) c)
        (moves c.store (cell_count p (inner (type_of p array))) (number_in (scalar_in i)) (scalar_in v)) (λ r k. gives_scalar p c is below h x d r shape.Pointer s tt k)
    addressed operand m l q w may [] f s y = places_as l q (address_awaited p operand m) w operand [] tt refl tt
    addressed operand m l q w may (v ∷ rest) f s y = place_passed (type_of p operand) v f.0 s

    arithmetic : (at : ℕ) (operand : Expression) (op : UnaryOperator) (v : List Scalar) → IsArithmetic op → HasShape (type_of p x) (unary_shape (shape_of (type_of p operand)))
        → AllSound p (settles at (operate_on p op (type_of p operand) (scalar_in v)) (λ r. giving (r ∷ []) c))
    arithmetic at operand op v k s =
        let of : Shape = unary_shape (shape_of (type_of p operand)) in
        settled p (IsOfShape c.store of) at (operate_on p op (type_of p operand) (scalar_in v)) (λ r. giving (r ∷ []) c)
        (number c.store (checks p) op (integer_of (shape_of (type_of p operand))) (scalar_in v) k) (λ r i. gives_scalar p c is below h x d r of s tt i)

    pub unaries : (at : ℕ) (op : UnaryOperator) (operand : Expression) → out-Expression x ≡ e.Unary op operand at → (found : List (List Scalar)) → AreFound p c.store n (unary_awaited p at op operand) 0 found
        → IsUnary p op (type_of p x) operand → type_of p x ≡ type_at p at → AllSound p (unary_value p at op operand x found c)
    unaries at u.Address operand q found f y same = addressed operand (out-Expression operand) (e.Unary u.Address operand at) q refl (λ k. k) found f y.0 y.1
    unaries at u.Indirection operand q found f y same = lvalues (e.Unary u.Indirection operand at) q (type_at p at) same refl found f
    unaries at u.Not operand q [] f y same = asks_for p c is below h x (e.Unary u.Not operand at) q d operand [] tt (stands_value p operand) tt
    unaries at u.Not operand q (v ∷ rest) f y same = gives_scalar p c is below h x d (truth_of (is_no v)) (shape.Integer Int) y tt (truth_fits (is_no v))
    unaries at u.Plus operand q [] f y same = asks_for p c is below h x (e.Unary u.Plus operand at) q d operand [] tt (stands_value p operand) tt
    unaries at u.Plus operand q (v ∷ rest) f y same = arithmetic at operand u.Plus v tt y
    unaries at u.Minus operand q [] f y same = asks_for p c is below h x (e.Unary u.Minus operand at) q d operand [] tt (stands_value p operand) tt
    unaries at u.Minus operand q (v ∷ rest) f y same = arithmetic at operand u.Minus v tt y
    unaries at u.Complement operand q [] f y same = asks_for p c is below h x (e.Unary u.Complement operand at) q d operand [] tt (stands_value p operand) tt
    unaries at u.Complement operand q (v ∷ rest) f y same = arithmetic at operand u.Complement v tt y

    -- ---- operators between two operands

    truths : (right : Expression) → HasShape (type_of p x) (shape.Integer Int) → IsSoundState p (asking right Truth c)
    truths right s =
        let r = scalar_result p (type_of p x) (shape.Integer Int) s tt in
        asks_is p c is right Truth (given_by p right) (stands_same p (given_by p right))
        (below, tt, delivers_as p (integer Int) (type_of p x) below (sym (types_of_integer p (type_of p x) Int s)) (plain_delivers p c is below h x d r), h)

    seconds : (at : ℕ) (op : BinaryOperator) (left right : Expression) (v : List Scalar) → out-Expression x ≡ e.Binary op left right at → IsGiven p c.store n (value_wait p left) v
        → HasShape (type_of p x) (binary_shape op (shape_of (type_of p left)) (shape_of (type_of p right))) → AllSound p (second op right x v c)
    seconds at b.LogicalAnd left right v q g y =
        let s = y ∙ and_shape (shape_of (type_of p left)) (shape_of (type_of p right)) in
        (gives_scalar p c is below h x d (truth_of false) (shape.Integer Int) s tt (truth_fits false), truths right s)
    seconds at b.LogicalOr left right v q g y =
        let s = y ∙ or_shape (shape_of (type_of p left)) (shape_of (type_of p right)) in
        (truths right s, gives_scalar p c is below h x d (truth_of true) (shape.Integer Int) s tt (truth_fits true))
    seconds at op left right v q g y = asks_for p c is below h x (e.Binary op left right at) q d right (v ∷ []) (g, tt) (stands_value p right) tt

    pub binaries : (at : ℕ) (op : BinaryOperator) (left right : Expression) → out-Expression x ≡ e.Binary op left right at → (found : List (List Scalar)) → AreFound p c.store n (two_awaited (value_wait p left) (value_wait p right)) 0 found
        → HasShape (type_of p x) (binary_shape op (shape_of (type_of p left)) (shape_of (type_of p right))) → AllSound p (binary_value p at op left right x found c)
    binaries at op left right q [] f y = asks_for p c is below h x (e.Binary op left right at) q d left [] tt (stands_value p left) tt
    binaries at op left right q (v ∷ []) f y = seconds at op left right v q f.0 y
    binaries at op left right q (v ∷ (w ∷ rest)) f y =
        let of : Shape = binary_shape op (shape_of (type_of p left)) (shape_of (type_of p right)) in
        settled p (IsOfShape c.store of) at (operate p op (type_of p left) (type_of p right) (scalar_in v) (scalar_in w) c.store) (λ r. giving (r ∷ []) c)
        (operation_is p c.store op (type_of p left) (type_of p right) (scalar_in v) (scalar_in w))
        (λ r i. gives_scalar p c is below h x d r of y (binary_scalar op (shape_of (type_of p left)) (shape_of (type_of p right))) i)

    -- ---- the other kinds, with what their operands gave

    pub casts : (at : ℕ) (operand : Expression) (l : ExpressionNode) (q : out-Expression x ≡ l) (t : CType) → type_of p x ≡ t → awaited p l ≡ (λ k. value_wait p operand) → (found : List (List Scalar))
        → AreFound p c.store n (awaited p l) 0 found → ConvertsTo p (type_of p x) (value_type p operand) → IsResultType (type_of p x) → AllSound p (cast_value t operand x found c)
    casts at operand l q t same w [] f k r = asks_as l q (λ i. value_wait p operand) w operand [] tt (stands_value p operand) tt
    casts at operand l q t same w (v ∷ rest) f k r =
        let F : (ℕ → Wait) → Type 0 = λ z. IsGiven p c.store n (z 0) v in
        let P : CType → Type 0 = λ z. IsSoundState p (giving (value_as z v) c) in
        subst P same (gives_value p c is below h x d (value_as (type_of p x) v) r (converts_to p c.store (type_of p x) (value_type p operand) v k (of_operand c.store operand v (subst F w f.0))))

    pub conditionals : (at : ℕ) (test first otherwise : Expression) → out-Expression x ≡ e.Conditional test first otherwise at → (t : CType) → type_of p x ≡ t → (found : List (List Scalar))
        → ConvertsTo p (type_of p x) (value_type p first) → ConvertsTo p (type_of p x) (value_type p otherwise) → IsResultType (type_of p x) → AllSound p (conditional_value t test first otherwise x found c)
    conditionals at test first otherwise q t same [] k i r = asks_for p c is below h x (e.Conditional test first otherwise at) q d test [] tt (stands_value p test) tt
    conditionals at test first otherwise q t same (v ∷ rest) k i r =
        let P : CType → Type 0 = λ z. IsSoundState p (asking otherwise (Converts z) c) × IsSoundState p (asking first (Converts z) c) in
        let dt = plain_delivers p c is below h x d r in
        subst P same (choice (type_of p x) otherwise i dt, choice (type_of p x) first k dt)

    pub assignments : (at : ℕ) (op : AssignOperator) (target value : Expression) → out-Expression x ≡ e.Assign op target value at → (found : List (List Scalar))
        → AreFound p c.store n (two_awaited (AsPlace (type_of p target)) (value_wait p value)) 0 found → SameCells p (type_of p x) (type_of p target) → IsStored p (operator_of op) (type_of p target) (value_type p value)
        → AllSound p (assign_value p at op target value x found c)
    assignments at op target value q [] f same y = asks_place p c is below h x (e.Assign op target value at) q d target [] tt refl tt
    assignments at op target value q (v ∷ []) f same y = asks_for p c is below h x (e.Assign op target value at) q d value (v ∷ []) f (stands_value p value) tt
    assignments at op target value q (v ∷ (w ∷ rest)) f same y =
        stores at (operator_of op) (type_of p target) (type_of p value) v w (value_type p value) f.0 (of_operand c.store value w f.1.0) same y
